-- Ids, over any calls: "Ids per slot start at 1 when it opens; after 2^64 − 1 comes 1", and cancel and collect go by them. Statements of any machine.
use Rattle.std.specs.Prelude.{ℕ, ◌+◌, ◌-◌, ◌^◌, Bool, true, false, ◌||◌, cond, List, [], ◌∷◌, ◌≡◌, eqb}
use Rattle.settings.specs.declared.settings.Settings.{Settings}
use Rattle.controller.specs.declared.lent.Readings.{Readings}
use Rattle.request.specs.declared.judge.TransferRequest.{TransferRequest}
use Rattle.ehci.specs.declared.call.Call.{Call}
use Rattle.ehci.specs.declared.call.Call.TheVariants.{Cancel, Collect}
use Rattle.promises.specs.Runs.{Always, History, Moment, Promise, turn_by}
use Rattle.promises.specs.Events.{Event, Other, Reads, Drains, Submits, Unlinks, Parts, Collects, event}
use Rattle.promises.specs.Opened.{is_busy, is_shut}
use Rattle.promises.specs.Slots.{Change, ClearsHalt, ClosesSlot, Halted, OpensSlot, ResizesSlot, Running, Same, change, slot_in}
use Rattle.promises.specs.Uses.{Use, is_of, uses}
use Rattle.promises.specs.Rooms.{number_at}

abbrev pub following : ℕ → ℕ
following id = cond (eqb id (2 ^ 64 - 1)) 1 (id + 1)

-- a slot that is opened starts, and so does one that was closed
abbrev pub start_by : ℕ → Change → ℕ → ℕ
start_by k Same n = n
start_by k (OpensSlot j kind size) n = cond (eqb j k) 1 n
start_by k (ResizesSlot j size) n = n
start_by k (ClosesSlot j) n = cond (eqb j k) 1 n
start_by k (ClearsHalt j) n = n
start_by k Halted n = n
start_by k Running n = n

-- an accepted submit takes one, and nothing else does
abbrev pub taken_by : ℕ → Event → ℕ → ℕ
taken_by k Other n = n
taken_by k Reads n = n
taken_by k Drains n = n
taken_by k (Submits j id r) n = cond (eqb j k) (following n) n
taken_by k (Unlinks j) n = n
taken_by k (Parts j frame) n = n
taken_by k (Collects j id frame) n = n

-- the id that slot k's next request is due
unfoldable pub next_id : Settings → ℕ → History → ℕ
next_id s k [] = 1
next_id s k (t ∷ past) = taken_by k (event s t) (start_by k (change t) (next_id s k past))

-- after any calls, an accepted submit's id is the one that is due
abbrev pub IdsInTurn : Promise
IdsInTurn =
    Always (λ s h w. (c : Call) (k id : ℕ) (r : TransferRequest) → event s (turn_by w c) ≡ Submits k id r → id ≡ next_id s k h)

-- slot k has an uncollected request of that id
abbrev pub is_held_as : ℕ → ℕ → List Use → Bool
is_held_as k id [] = false
is_held_as k id (u ∷ us) = is_of k id u || is_held_as k id us

-- "Cancel: 3 if not open, nothing uncollected, or wrong id": 0 exactly where the slot has an uncollected request of that id, so that an id
-- of a request that was collected hits no later one
abbrev pub CancelsById : Promise
CancelsById =
    Always (λ s h w. (k id : ℕ) (readings : Readings) → number_at w (Cancel k id readings) ≡ cond (is_held_as k id (uses s h)) 0 3)

-- "Collect: 3 if not open; 9 if nothing uncollected; 3 on a wrong id."
pub record ById (s : Settings) (h : History) (w : Moment) (k id : ℕ) (readings : Readings) : Type 0 where
  pub not_open : is_shut (slot_in k h) ≡ true → number_at w (Collect k id readings) ≡ 3
  pub nothing : is_shut (slot_in k h) ≡ false → is_busy s h k ≡ false → number_at w (Collect k id readings) ≡ 9
  pub wrong_id_refused : is_busy s h k ≡ true → is_held_as k id (uses s h) ≡ false → number_at w (Collect k id readings) ≡ 3

abbrev pub CollectsById : Promise
CollectsById = Always (λ s h w. (k id : ℕ) (readings : Readings) → ById s h w k id readings)
