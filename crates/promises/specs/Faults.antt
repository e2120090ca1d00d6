-- The Rust's fault: what the controller may still read, as the history tells it, and that no submit is given a place of it.
use Rattle.std.specs.Prelude.{ℕ, Bool, true, false, cond, ◌&&◌, ◌||◌, List, [], ◌∷◌, ◌≡◌, eqb}
use Rattle.settings.specs.declared.settings.Settings.{Settings}
use Rattle.schedule.specs.Bell.{frames_passed, frame_of}
use Rattle.request.specs.declared.judge.TransferRequest.{TransferRequest}
use Rattle.ehci.specs.declared.call.Call.{Call}
use Rattle.promises.specs.Runs.{History, Promise, Turn}
use Rattle.promises.specs.Walks.{chain_walk, is_in}
use Rattle.promises.specs.Events.{Event, Other, Reads, Drains, Submits, Unlinks, Parts, Collects, event, rings}
use Rattle.promises.specs.Bells.{is_reads}
use Rattle.promises.specs.Boundaries.{past, turn}

-- how far the controller is from having forgotten a request's head
pub data Reach : Type 0 where
  -- the head is in its schedule
  Met : Reach
  -- it left the ring, and nothing has rung since; or a ring came with that or after it, and no acknowledgment has read the advance bit since
  Unrung Unanswered : Reach
  -- it left the frame list when FRINDEX was at so much
  Since : ℕ → Reach

-- the places of an accepted submit, from then on
pub record Hold : Type 0 where
  pub slot : ℕ
  pub places : List ℕ
  pub reach : Reach

-- a ring with an unlink or after it
abbrev pub rung_by : Bool → Reach
rung_by true = Unanswered
rung_by false = Unrung

-- the head of slot k, by what happens
abbrev pub departed : ℕ → Bool → Event → Reach
departed k rung Other = Met
departed k rung Reads = Met
departed k rung Drains = Met
departed k rung (Submits j id r) = Met
departed k rung (Unlinks j) = cond (eqb j k) (rung_by rung) Met
departed k rung (Parts j frame) = cond (eqb j k) (Since frame) Met
departed k rung (Collects j id frame) = Met

abbrev pub farther : ℕ → Bool → Event → Reach → Reach
farther k rung e Met = departed k rung e
farther k rung e Unrung = rung_by rung
farther k rung e Unanswered = Unanswered
farther k rung e (Since start) = Since start

-- FRINDEX is read 9 or more on, by a collection of slot k
abbrev pub nine_on : ℕ → ℕ → Event → Bool
nine_on k start Other = false
nine_on k start Reads = false
nine_on k start Drains = false
nine_on k start (Submits j id r) = false
nine_on k start (Unlinks j) = false
nine_on k start (Parts j frame) = false
nine_on k start (Collects j id frame) = eqb j k && frames_passed (frame_of start) frame

-- the ring is answered; FRINDEX is 9 on
abbrev pub is_forgotten : ℕ → Event → Reach → Bool
is_forgotten k e Met = false
is_forgotten k e Unrung = false
is_forgotten k e Unanswered = is_reads e
is_forgotten k e (Since start) = nine_on k start e

abbrev pub onward : Bool → Event → List Hold → List Hold
onward rung e [] = []
onward rung e (x ∷ xs) =
    cond (is_forgotten x.slot e x.reach) (onward rung e xs)
    (record { slot = x.slot; places = x.places; reach = farther x.slot rung e x.reach } ∷ onward rung e xs)

-- a request's places are those that its overlay leads to at its submit's exit
abbrev pub joined : Settings → Turn → Event → List Hold → List Hold
joined s t Other xs = xs
joined s t Reads xs = xs
joined s t Drains xs = xs
joined s t (Submits k id r) xs = record { slot = k; places = chain_walk s t.after k; reach = Met } ∷ xs
joined s t (Unlinks k) xs = xs
joined s t (Parts k frame) xs = xs
joined s t (Collects k id frame) xs = xs

unfoldable pub holds : Settings → History → List Hold
holds s [] = []
holds s (t ∷ past) = joined s t (event s t) (onward (rings t) (event s t) (holds s past))

abbrev pub is_held : ℕ → List Hold → Bool
is_held place [] = false
is_held place (x ∷ xs) = is_in place x.places || is_held place xs

-- from an accepted submit that has the place until the first answer to a ring at or after its unlink; of an interrupt request until a collection
-- reads FRINDEX 9 or more on from its unlink's reading
unfoldable pub may_read : Settings → ℕ → History → Bool
may_read s place h = is_held place (holds s h)

-- no submit is ever given a place of which it holds
abbrev pub NeverGiven : Promise
NeverGiven s run = (cs : List Call) (c : Call) (k id : ℕ) (r : TransferRequest) (place : ℕ)
    → event s (turn s run cs c) ≡ Submits k id r → is_in place (chain_walk s (turn s run cs c).after k) ≡ true
    → may_read s place (past s run cs) ≡ false
