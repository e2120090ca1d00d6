-- Every accepted submit leaves descriptors that address the call's own buffer.
use Rattle.std.specs.Prelude.{Result}
use Prim.Native.Nat.{ℕ, suc, ◌+◌, ◌≤◌, ◌<◌}
use mathlib.Core.Path.{◌≡◌, refl, sym, ap, ap₂, subst, ◌∙◌}
use mathlib.Core.Bool.{true}
use mathlib.Core.List.{List, [], ◌∷◌, map}
use native.Mathlib.Omega.{arith}
use borrow.Author.Tests.{eq-eqb, leb-true}
use lib.Dec.{leb}
use lib.ListN.{drop, get_or, length}
use Rattle.common.specs.declared.kinds.EndpointType.TheVariants.{Control}
use Rattle.descriptor.specs.declared.qtd.QueueTransferDescriptor.{QueueTransferDescriptor}
use Rattle.pool.specs.Chains.{blank}
use Rattle.pool.specs.Places.{up_from}
use Rattle.pool.specs.Transfers.{record_at}
use Rattle.pool.specs.declared.transfer.Transfer.{Transfer}
use Rattle.settings.specs.declared.settings.Settings.{Settings}
use Rattle.common.proofs.TestLaws.{both_tells}
use Rattle.request.specs.Submit.{buffer_good, control_good, places_for, ranges_good, transfer_of}
use Rattle.request.specs.declared.judge.TransferRequest.{TransferRequest}
use Rattle.request.proofs.JudgeLaws.{Judged}
use Rattle.request.proofs.SubmitLaws.{buffer_ends, places_needed}
use Rattle.ehci.specs.declared.call.Call.{Call}
use Rattle.ehci.specs.declared.call.Call.TheVariants.{Submit}
use Rattle.ehci.specs.Door.{Applied}
use Rattle.promises.specs.Runs.{History, Machine, Rows, Turn, World, in_plain, moment, rows_of, turn_of}
use Rattle.promises.specs.Coverage.{Covered, addressed, data_of, records_met}
use Rattle.ehci.specs.Replies.{answered_number, answered_values}
use Rattle.promises.specs.Events.{Collects, Drains, Event, Other, Parts, Reads, Submits, Unlinks, event, first_in, leaving, submits_by}
use Rattle.promises.proofs.theorems.CoverBytes.{all_covered, records_from}
use Rattle.promises.proofs.effects.Effects.{Accepts, Effect, still, hears, joins, passes, counts, opens, closes, resizes, rewrites, accepts, writes_back, marks, unlinks, collects, leaving_by, clears}
use Rattle.promises.proofs.invariants.Sound.{Sound}
use Rattle.promises.proofs.invariants.UseAccepts.{accepted_world, submitted_record, walked}
use Rattle.pipe.proofs.LimitLaws.{limit_least, limit_most}
use Rattle.controller.proofs.ReaderLaws.{open_below}
use Rattle.ehci.specs.declared.reply.Answered.{Answered}
use Rattle.common.specs.declared.answer.Refusal.{Refusal}

-- ---- of an accepted request

records_by : (f : ℕ → QueueTransferDescriptor) (t : Transfer) (base k : ℕ) (ps : List ℕ)
    → ((j : ℕ) → j < length ps → f (get_or ps j 0) ≡ record_at t (k + j) (drop (suc j) ps) base) → map f ps ≡ records_from t base k ps
records_by f t base k [] h = refl
records_by f t base k (p ∷ ps) h =
    let none : k + 0 ≡ k = omega arith in
    ap₂ (λ (d : QueueTransferDescriptor) (ds : List QueueTransferDescriptor). d ∷ ds)
    (h 0 (omega arith) ∙ ap (λ (n : ℕ). record_at t n ps base) none)
    (records_by f t base (suc k) ps (λ j l. h (suc j) (omega (arith, l)) ∙ ap (λ (n : ℕ). record_at t n (drop (suc j) ps) base) (along j)))
  where
    along : (j : ℕ) → k + suc j ≡ suc k + j
    along j = omega arith

pub control_short : (t : TransferRequest) → ranges_good t ≡ true → t.kind ≡ Control → t.length ≤ 16384
unfolding ranges_good control_good
control_short t g e =
    let c : control_good t ≡ true = (both_tells (buffer_good t.address t.length) _ (rw e at g)).1 in
    leb-true t.length 16384 (both_tells (leb t.length 16384) _ c).0

module _ (w : World) (k : ℕ) (t : TransferRequest) (sound : Sound w.state.settings w) (judged : Judged w.state k t) where
  abbrev s : Settings
  s = w.state.settings

  abbrev after : Rows
  after = (accepted_world w k t sound judged).rows

  pub records_are : records_met s after k ≡ records_from (transfer_of w.state k t) s.pool 0 (places_for w.state k t)
  records_are =
      ap (map (λ p. get_or after.pool p blank)) (walked w k t sound judged)
      ∙ records_by (λ p. get_or after.pool p blank) (transfer_of w.state k t) s.pool 0 (places_for w.state k t)
      (λ j h. submitted_record w k t sound judged j h ∙ ap (λ (n : ℕ). record_at (transfer_of w.state k t) n (drop (suc j) (places_for w.state k t)) s.pool) (along j))
    where
      along : (j : ℕ) → j ≡ 0 + j
      along j = omega arith

  covers_accepted : addressed (data_of t.kind (records_met s after k)) ≡ up_from t.address t.length
  covers_accepted =
      ap (λ (ds : List QueueTransferDescriptor). addressed (data_of t.kind ds)) records_are
      ∙ all_covered (transfer_of w.state k t) s.pool (places_for w.state k t) (limit_least w.state sound.ranges k (open_below w.state k judged.opened)) (limit_most w.state sound.ranges k)
      (buffer_ends t judged.in_range) t.kind refl (control_short t judged.in_range) (places_needed w.state k t sound.ranges judged sound.owners)

-- ---- of any call

abbrev slot_in : Event → ℕ → ℕ
slot_in Other d = d
slot_in Reads d = d
slot_in Drains d = d
slot_in (Submits k id t) d = k
slot_in (Unlinks k) d = d
slot_in (Parts k f) d = d
slot_in (Collects k id f) d = d

abbrev request_in : Event → TransferRequest → TransferRequest
request_in Other d = d
request_in Reads d = d
request_in Drains d = d
request_in (Submits k id t) d = t
request_in (Unlinks k) d = d
request_in (Parts k f) d = d
request_in (Collects k id f) d = d

abbrev submit_number : Event → ℕ
submit_number Other = 0
submit_number Reads = 0
submit_number Drains = 0
submit_number (Submits k id t) = 1
submit_number (Unlinks k) = 0
submit_number (Parts k f) = 0
submit_number (Collects k id f) = 0

leaving_number : (s : Settings) (k frame : ℕ) (t : Turn) → submit_number (leaving s k frame t) ≡ 0
leaving_number s k frame t = leaving_by s k frame t (λ e. submit_number e ≡ 0) refl refl refl

-- an effect that submits is an acceptance of that request
module _ (w : World) (c : Call) (a : Applied) (k id : ℕ) (t : TransferRequest) (submits : event w.state.settings (turn_of w.rows c a) ≡ Submits k id t) where
  not_so : (e : Event) → event w.state.settings (turn_of w.rows c a) ≡ e → submit_number e ≡ 0 → ⊥
  not_so e q z = let one : ◌≡◌ {A = ℕ} 0 1 = sym (ap submit_number q ∙ z) ∙ ap submit_number submits in omega (arith, one)

  pub accepted_by : (P : ℕ → TransferRequest → Type 0) → ((x : Accepts w c a) → P x.k x.t) → Effect w c a → P k t
  accepted_by P f (still x) = absurd (not_so Other x.nothing refl)
  accepted_by P f (hears x) = absurd (not_so Reads x.hears refl)
  accepted_by P f (joins x) = absurd (not_so Other x.nothing refl)
  accepted_by P f (passes x) = absurd (not_so Drains x.drains refl)
  accepted_by P f (counts x) = absurd (not_so Drains x.drains refl)
  accepted_by P f (opens x) = absurd (not_so Other x.nothing refl)
  accepted_by P f (closes x) = absurd (not_so Other x.nothing refl)
  accepted_by P f (rewrites x) = absurd (not_so Other x.nothing refl)
  accepted_by P f (resizes x) = absurd (not_so Other x.nothing refl)
  accepted_by P f (clears x) = absurd (not_so Other x.nothing refl)
  accepted_by P f (accepts x) =
      subst (λ (j : ℕ). P j t) (ap (λ (e : Event). slot_in e 0) (sym x.submits ∙ submits))
      (subst (λ (r : TransferRequest). P x.k r) (ap (λ (e : Event). request_in e t) (sym x.submits ∙ submits)) (f x))
  accepted_by P f (writes_back x) = absurd (not_so Other x.nothing refl)
  accepted_by P f (marks x) = absurd (not_so Other x.nothing refl)
  accepted_by P f (unlinks x) =
      absurd (not_so (leaving w.state.settings x.k x.readings.frame (turn_of w.rows c a)) x.leaves
      (leaving_number w.state.settings x.k x.readings.frame (turn_of w.rows c a)))
  accepted_by P f (collects x) = absurd (not_so (Collects x.k x.r.id x.frame) x.collects refl)

-- 0 accepts
pub zero_accepts : (k : ℕ) (t : TransferRequest) (a : (Result Answered Refusal)) → answered_number a ≡ 0 → (id : ℕ) × (submits_by k t a ≡ Submits k id t)
zero_accepts k t a e = (first_in (answered_values a), rw (eq-eqb (answered_number a) 0 e))

pub covered_holds : (m : Machine in_plain) → ((w : World) (c : Call) → Effect w c (m w c)) → (s : Settings) (h : History) (w : World) → Sound s w → Covered s h (moment m w)
covered_holds m effect s h w sound = subst (λ (z : Settings). Sound z w → Covered z h (moment m w)) sound.settings_are here sound
  where
    here : Sound w.state.settings w → Covered w.state.settings h (moment m w)
    here good k t readings done =
        let told = zero_accepts k t (m w (Submit k t readings)).reply.answer done in
        accepted_by w (Submit k t readings) (m w (Submit k t readings)) k told.0 t told.1
        (λ j r. addressed (data_of r.kind (records_met w.state.settings (rows_of (m w (Submit k t readings))) j)) ≡ up_from r.address r.length)
        (λ x. ap (λ (rows : Rows). addressed (data_of x.t.kind (records_met w.state.settings rows x.k))) x.rows_are ∙ covers_accepted w x.k x.t good x.judged)
        (effect w (Submit k t readings))
