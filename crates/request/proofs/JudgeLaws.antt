-- What an accepted request is: each check that it passed, as a plain fact, and what follows for the rows.
use Rattle.std.specs.Prelude.{◌≡◌, ℕ, ◌+◌, ◌^◌, ◌<◌, ◌≤◌, Bool, true, false, not, eqb, ltb, leb, List, [], ◌∷◌, length, take, Ok}
use mathlib.Core.Path.{refl}
use native.Mathlib.Nat.{mul-le-mul_right}
use native.Mathlib.Omega.{arith}
use borrow.Author.Tests.{eqb-true, leb-true, ltb-false, not-false}
use lib.ListN.{length-take}
use Rattle.token.specs.Chunks.{chunk_count, need_of}
use Rattle.common.specs.declared.kinds.EndpointType.{EndpointType}
use Rattle.common.specs.declared.kinds.EndpointType.TheVariants.{Control, Isochronous, Bulk, Interrupt}
use Rattle.token.proofs.ChunkLaws.{covers}
use Rattle.common.proofs.TestLaws.{both_tells}
use Rattle.state.specs.Slots.{slot_at}
use Rattle.state.specs.Plain.{Ehci}
use Rattle.state.proofs.RangesLaws.{Ranges}
use Rattle.common.specs.Answers.{Verdict, first, passed, refused}
use Rattle.pipe.specs.Endpoints.{flag_number, kind_number, limit_at}
use Rattle.pipe.proofs.LimitLaws.{limit_least, limit_most}
use Rattle.common.specs.Kinds.{is_isochronous}
use Rattle.controller.proofs.ReaderLaws.{open_below}
use Rattle.controller.specs.Readers.{count_zero, free_count, is_opened, is_uncollected}
use Rattle.common.proofs.CheckLaws.{answers_apart, let_pass}
use Rattle.request.specs.Submit.{answer_of, buffer_good, control_good, judge_of, need_of_request, ranges_good, submit_checks}
use Rattle.request.specs.declared.judge.TransferRequest.{TransferRequest}

passed_all : (v : Verdict) → answer_of v ≡ (Ok tt) → v ≡ passed
passed_all passed e = refl
passed_all (refused r) e = absurd (answers_apart r e)

pub record Judged (s : Ehci) (slot : ℕ) (t : TransferRequest) : Type 0 where
  pub opened : is_opened s slot ≡ true
  pub runs : eqb s.running 0 ≡ false
  pub bare : is_uncollected s slot ≡ false
  pub supported : is_isochronous t.kind ≡ false
  pub same_kind : kind_number t.kind ≡ (slot_at s slot).kind
  pub in_range : ranges_good t ≡ true
  pub room : need_of_request s slot t ≤ free_count s

pub judge_tells : (s : Ehci) (slot : ℕ) (t : TransferRequest) → judge_of s slot t ≡ (Ok tt) → Judged s slot t
unfolding judge_of
judge_tells s slot t e =
    let a = let_pass (not (is_opened s slot)) _ _ (passed_all (first (submit_checks s slot t)) e) in
    let b = let_pass (eqb s.running 0) _ _ a.1 in
    let c = let_pass (is_uncollected s slot) _ _ b.1 in
    let d = let_pass (is_isochronous t.kind) _ _ c.1 in
    let k = let_pass (not (eqb (kind_number t.kind) (slot_at s slot).kind)) _ _ d.1 in
    let g = let_pass (not (ranges_good t)) _ _ k.1 in
    let m = let_pass (ltb (free_count s) (need_of_request s slot t)) _ _ g.1 in
    record {
      opened = not-false (is_opened s slot) a.0;
      runs = b.0;
      bare = c.0;
      supported = d.0;
      same_kind = eqb-true (kind_number t.kind) (slot_at s slot).kind (not-false (eqb (kind_number t.kind) (slot_at s slot).kind) k.0);
      in_range = not-false (ranges_good t) g.0;
      room = ltb-false (free_count s) (need_of_request s slot t) m.0;
    }

-- ---- the length

zeros_le : (l : List ℕ) → count_zero l ≤ length l
unfolding count_zero
zeros_le [] = omega arith
zeros_le (x ∷ l) = by (eqb x 0) (zeros_le l)
  where
    by : (b : Bool) → count_zero l ≤ length l → flag_number b + count_zero l ≤ length (x ∷ l)
    by true h = omega arith
    by false h = omega arith

pub free_le : (s : Ehci) → free_count s ≤ s.settings.descriptors
unfolding free_count
free_le s = omega (arith, zeros_le (take s.settings.descriptors s.owner), length-take s.settings.descriptors s.owner)

-- as many chunks as there are descriptors are short
many : (s : Ehci) (t : TransferRequest) (limit : ℕ) → 1 ≤ limit → limit ≤ 16384 → s.settings.descriptors ≤ 256
    → chunk_count t.length limit ≤ free_count s → t.length < 2 ^ 32
many s t limit l m d n =
    let few : chunk_count t.length limit ≤ 256 = omega (arith, free_le s) in
    omega (arith, covers t.length limit l, mul-le-mul_right limit few)

short_by : (s : Ehci) (k : EndpointType) (t : TransferRequest) (limit : ℕ) → t.kind ≡ k → 1 ≤ limit → limit ≤ 16384 → s.settings.descriptors ≤ 256
    → need_of k t.length limit ≤ free_count s → ranges_good t ≡ true → t.length < 2 ^ 32
unfolding ranges_good control_good need_of
short_by s Control t limit e l m d n g =
    let c : control_good t ≡ true = (both_tells (buffer_good t.address t.length) _ (rw e at g)).1 in
    omega (arith, leb-true t.length 16384 (both_tells (leb t.length 16384) _ c).0)
short_by s Isochronous t limit e l m d n g = many s t limit l m d n
short_by s Bulk t limit e l m d n g = many s t limit l m d n
short_by s Interrupt t limit e l m d n g = many s t limit l m d n

pub short : (s : Ehci) (k : ℕ) (t : TransferRequest) → Ranges s → Judged s k t → t.length < 2 ^ 32
short s k t r j =
    short_by s t.kind t (limit_at s k) refl (limit_least s r k (open_below s k j.opened)) (limit_most s r k) r.good.descriptors_most j.room
    j.in_range

-- ---- the first place
