-- Chains, over any calls: the controller meets exactly the linked heads of each schedule, newest first, and no detach fails. Statements
-- of any machine; that each request's overlay leads through its descriptors is `ChainsLead`.
use Rattle.std.specs.Prelude.{ℕ, ◌+◌, ◌<◌, Bool, true, false, cond, ◌&&◌, ◌||◌, List, [], ◌∷◌, map, ◌≡◌, get_or}
use Rattle.descriptor.specs.declared.qtd.QueueTransferDescriptor.{QueueTransferDescriptor}
use Rattle.pool.specs.Chains.{blank}
use Rattle.settings.specs.declared.settings.Settings.{Settings}
use Rattle.controller.specs.declared.lent.Readings.{Readings}
use Rattle.ehci.specs.declared.call.Call.TheVariants.{Cancel, Collect}
use Rattle.promises.specs.Tokens.{is_active, is_erring, is_short}
use Rattle.promises.specs.Runs.{Always, History, Moment, Promise, turn_by}
use Rattle.promises.specs.Walks.{AtRingHead, Terminated, frame_end, frame_walk, is_in, ring_end, ring_walk}
use Rattle.promises.specs.Events.{Other, Parts, Unlinks, event}
use Rattle.promises.specs.Uses.{Use, frame_slots, may_end_short, ring_slots, uses}
use Rattle.promises.specs.Rooms.{Every, number_at}

-- slot k's head is at place k + 1
abbrev pub head_places : List ℕ → List ℕ
head_places ks = map (λ (k : ℕ). k + 1) ks

-- slot k's head is in a schedule
abbrev pub is_linked : Settings → History → ℕ → Bool
is_linked s h k = is_in k (ring_slots s h) || is_in k (frame_slots s h)

-- the ring's walk is the linked control and bulk heads, newest first, and back to the ring head; every frame entry's walk is the linked
-- interrupt heads, newest first, and terminates; and each linked head is that of an uncollected request
pub record Walked (s : Settings) (h : History) (w : Moment) : Type 0 where
  pub ring : ring_walk s w.rows ≡ head_places (ring_slots s h)
  pub ring_ends : ring_end s w.rows ≡ AtRingHead
  pub frames : (f : ℕ) → f < 1024 → frame_walk s w.rows f ≡ head_places (frame_slots s h)
  pub frames_end : (f : ℕ) → f < 1024 → frame_end s w.rows f ≡ Terminated
  pub uncollected : (k : ℕ) → is_linked s h k ≡ true → is_in k (map (λ u. u.slot) (uses s h)) ≡ true

abbrev pub ChainsWalked : Promise
ChainsWalked = Always Walked

-- "if, in order, every descriptor is inactive, or an error comes before any active one"; of a request that may end short "also .. when, before
-- any active descriptor, one is inactive without error and has bytes left"
abbrev pub is_finished : Bool → List QueueTransferDescriptor → List ℕ → Bool
is_finished short pool [] = true
is_finished short pool (p ∷ ps) =
    let token = (get_or pool p blank).token in
    cond (is_active token) false (cond (is_erring token || (short && is_short token)) true (is_finished short pool ps))

-- a cancel of an uncollected request is done, and its head leaves the schedule that it is in; a collect of it while it is linked answers
-- 9, and its head leaves if it is finished
pub record Detaches (s : Settings) (h : History) (w : Moment) (u : Use) : Type 0 where
  pub cancels : (readings : Readings) → number_at w (Cancel u.slot u.id readings) ≡ 0
  pub waits : (readings : Readings) → is_linked s h u.slot ≡ true → number_at w (Collect u.slot u.id readings) ≡ 9
  pub left_the_ring : (readings : Readings) → is_in u.slot (ring_slots s h) ≡ true
      → event s (turn_by w (Cancel u.slot u.id readings)) ≡ Unlinks u.slot
  pub left_the_frames : (readings : Readings) → is_in u.slot (frame_slots s h) ≡ true
      → event s (turn_by w (Cancel u.slot u.id readings)) ≡ Parts u.slot readings.frame
  pub ends_ring : (readings : Readings) → is_in u.slot (ring_slots s h) ≡ true
      → event s (turn_by w (Collect u.slot u.id readings)) ≡ cond (is_finished (may_end_short u) w.rows.pool u.places) (Unlinks u.slot) Other
  pub ends_frames : (readings : Readings) → is_in u.slot (frame_slots s h) ≡ true
      → event s (turn_by w (Collect u.slot u.id readings))
      ≡ cond (is_finished (may_end_short u) w.rows.pool u.places) (Parts u.slot readings.frame) Other

abbrev pub NoDetachFails : Promise
NoDetachFails = Always (λ s h w. Every (Detaches s h w) (uses s h))
