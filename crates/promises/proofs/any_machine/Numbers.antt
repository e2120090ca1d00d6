-- The boundary by numbers, from its picture.
use Rattle.std.specs.Prelude.{Result}
use Prim.Native.Nat.{ℕ, ◌≤◌, ◌<◌}
use mathlib.Core.Bool.{Bool, true, false, cond, true≢false, false≢true, ◌&&◌}
use mathlib.Core.List.{List, [], ◌∷◌, ◌++◌, append_assoc}
use mathlib.Core.Path.{◌≡◌, refl, sym, ap, subst, ◌∙◌}
use native.Mathlib.Omega.{arith}
use borrow.Author.Tests.{eqb-true, leb-true, leb-false}
use lib.Dec.{eqb, leb}
use lib.ListN.{length, length-append}
use Rattle.register.specs.Bits.{bit}
use Rattle.settings.specs.declared.settings.Settings.{Settings}
use Rattle.request.specs.declared.judge.TransferRequest.{TransferRequest}
use Rattle.common.specs.Kinds.{is_interrupt}
use Rattle.controller.specs.declared.lent.Readings.{Readings}
use Rattle.ehci.specs.declared.call.Call.{Call}
use Rattle.ehci.specs.declared.call.Call.TheVariants.{StartBringUp, BringUpStep, AllocateAddress, OpenEndpoint, Close, SetAddress, SetPacketSize, Submit, Writeback, Cancel, Collect, Acknowledge, Drain, Rearm, Enable, Disable, ClearHalt}
use Rattle.ehci.specs.Replies.{answered_values}
use Rattle.promises.specs.Runs.{Form, History, Machine, Turn, WorldIn, history_of, run_of}
use Rattle.promises.specs.Events.{Event, Other, Reads, Drains, Submits, Unlinks, Parts, Collects, first_in, happens, is_collected, is_done, leaving, leaves_frames, leaves_ring, submits_by}
use Rattle.promises.specs.Bells.{Boundary, collects, is_collects_of, kind_at, none, reads, unlinks_of}
use Rattle.promises.specs.Boundaries.{At, BoundaryKept, BoundaryNumbered, RungAndAnswered, answer_to, past, turn}
use Rattle.ehci.specs.declared.reply.Answered.{Answered}
use Rattle.common.specs.declared.answer.Refusal.{Refusal}

-- ---- lists
head_or : Turn → History → Turn
head_or d [] = d
head_or d (t ∷ h) = t

tail_of_lem : History → History
tail_of_lem [] = []
tail_of_lem (t ∷ h) = h

same_head : (x y : Turn) (xs ys : History) → x ∷ xs ≡ y ∷ ys → x ≡ y
unfolding head_or
same_head x y xs ys e = ap (head_or x) e

same_tail : (x y : Turn) (xs ys : History) → x ∷ xs ≡ y ∷ ys → xs ≡ ys
unfolding tail_of_lem
same_tail x y xs ys e = ap tail_of_lem e

not_nil : (newer : History) (t : Turn) (older : History) → [] ≡ newer ++ t ∷ older → ⊥
not_nil newer t older e = omega (arith, ap length e, length-append newer (t ∷ older))

-- a turn is in one of two parts
at_older : (newer h : History) (n : ℕ) (t : Turn) → At (newer ++ h) n t → n < length h → At h n t
at_older [] h n t a l = a
at_older (x ∷ newer) h n t a l = go a.0 a.1 a.2 a.3 (at_older newer h n t)
  where
    go : (nw ol : History) → x ∷ (newer ++ h) ≡ nw ++ t ∷ ol → length ol ≡ n → (At (newer ++ h) n t → n < length h → At h n t) → At h n t
    go [] ol e f rec = absurd (omega (arith, ap length (same_tail x t (newer ++ h) ol e), length-append newer h))
    go (w ∷ nw) ol e f rec = rec (nw, ol, same_tail x w (newer ++ h) (nw ++ t ∷ ol) e, f) l

none_at : (p : Turn → Bool) (xs ys : History) (n : ℕ) (t : Turn) → none p xs → At (xs ++ ys) n t → length ys ≤ n → p t ≡ false
none_at p [] ys n t q a l = absurd (omega (arith, ap length a.2, length-append a.0 (t ∷ a.1), a.3))
none_at p (x ∷ xs) ys n t q a l = go a.0 a.1 a.2 a.3 (none_at p xs ys n t q.1)
  where
    go : (nw ol : History) → x ∷ (xs ++ ys) ≡ nw ++ t ∷ ol → length ol ≡ n → (At (xs ++ ys) n t → length ys ≤ n → p t ≡ false) → p t ≡ false
    go [] ol e f rec = sym (ap p (same_head x t (xs ++ ys) ol e)) ∙ q.0
    go (w ∷ nw) ol e f rec = rec (nw, ol, same_tail x w (xs ++ ys) (nw ++ t ∷ ol) e, f) l

-- what is older than a turn of a run is the history of a run
run_of_lem : {f : Form} (m : Machine f) (s : Settings) (w : WorldIn f) (newer : History) (cs : List Call) (t : Turn) (older : History) → past s (run_of m w) cs ≡ newer ++ t ∷ older
    → (c : Call) × (bs : List Call) × (t ≡ turn s (run_of m w) bs c) × (older ≡ past s (run_of m w) bs)
unfolding history_of
run_of_lem m s w newer [] t older e = absurd (not_nil newer t older e)
run_of_lem m s w [] (c ∷ cs) t older e = (c, cs, sym (same_head (turn s (run_of m w) cs c) t (past s (run_of m w) cs) older e), sym (same_tail (turn s (run_of m w) cs c) t (past s (run_of m w) cs) older e))
run_of_lem m s w (x ∷ newer) (c ∷ cs) t older e = run_of_lem m s w newer cs t older (same_tail (turn s (run_of m w) cs c) x (past s (run_of m w) cs) (newer ++ t ∷ older) e)

-- ---- which call an event is

pub if_event : (p : Event → Bool) (b : Bool) (x y : Event) → p y ≡ false → p (cond b x y) ≡ true → (b ≡ true) × (p x ≡ true)
if_event p true x y o e = (refl, e)
if_event p false x y o e = absurd (false≢true (sym o ∙ e))

pub if_none : (p : Event → Bool) (b : Bool) (x y : Event) → p x ≡ false → p y ≡ false → p (cond b x y) ≡ false
if_none p true x y o e = o
if_none p false x y o e = e

no_collection : (k j : ℕ) (r : TransferRequest) (a : (Result Answered Refusal)) → is_collects_of k (submits_by j r a) ≡ false
no_collection k j r a = if_none (is_collects_of k) (is_done a) (Submits j (first_in (answered_values a)) r) Other refl refl

-- a turn that collects k is a collect of k that is answered 0, 10 or 11
module _ (s : Settings) (k : ℕ) (t : Turn) where
  left_only : (j frame : ℕ) → is_collects_of k (leaving s j frame t) ≡ false
  left_only j frame =
      if_none (is_collects_of k) (leaves_ring s j t) (Unlinks j) (cond (leaves_frames s j t) (Parts j frame) Other) refl
      (if_none (is_collects_of k) (leaves_frames s j t) (Parts j frame) Other refl refl)

  is_collection : (c : Call) → is_collects_of k (happens s c t) ≡ true → (id : ℕ) × (readings : Readings) × (c ≡ Collect k id readings) × (is_collected t.answer ≡ true)
  is_collection StartBringUp e = absurd (false≢true e)
  is_collection (BringUpStep x) e = absurd (false≢true e)
  is_collection AllocateAddress e = absurd (false≢true e)
  is_collection (OpenEndpoint x) e = absurd (false≢true e)
  is_collection (Close j) e = absurd (false≢true e)
  is_collection (SetAddress j a) e = absurd (false≢true e)
  is_collection (SetPacketSize j size) e = absurd (false≢true e)
  is_collection (Submit j r readings) e = absurd (false≢true (sym (no_collection k j r t.answer) ∙ e))
  is_collection (Writeback place token) e = absurd (false≢true e)
  is_collection (Cancel j id readings) e = absurd (false≢true (sym (left_only j readings.frame) ∙ e))
  is_collection (Collect j id readings) e =
      let x = if_event (is_collects_of k) (is_collected t.answer) (Collects j id readings.frame) (leaving s j readings.frame t) (left_only j readings.frame) e in
      (id, readings, ap (λ (i : ℕ). Collect i id readings) (eqb-true j k x.1), x.0)
  is_collection (Acknowledge x) e = absurd (false≢true (sym (if_none (is_collects_of k) (is_done t.answer && eqb (bit x.status 5) 1) Reads Other refl refl) ∙ e))
  is_collection (Drain x) e = absurd (false≢true (sym (if_none (is_collects_of k) (is_done t.answer) Drains Other refl refl) ∙ e))
  is_collection Rearm e = absurd (false≢true e)
  is_collection Enable e = absurd (false≢true e)
  is_collection Disable e = absurd (false≢true e)
  is_collection (ClearHalt j) e = absurd (false≢true e)

-- ---- the picture, by numbers
module _ (s : Settings) (k : ℕ) (newer older : History) (collection : Turn) (b : Boundary s k older) where
  abbrev h : History
  h = newer ++ collection ∷ older

  abbrev from_ring : History
  from_ring = b.ring ∷ b.before

  abbrev from_between : History
  from_between = b.between ++ from_ring

  -- the same picture, bracketed to the right
  picture' : older ≡ b.since ++ (b.ack ∷ from_between)
  picture' = b.picture ∙ append_assoc b.since (b.ack ∷ b.between) from_ring

  place_ring : At h (length b.before) b.ring
  place_ring = (newer ++ collection ∷ (b.since ++ b.ack ∷ b.between), b.before, e, refl)
    where
      e : h ≡ (newer ++ collection ∷ (b.since ++ b.ack ∷ b.between)) ++ from_ring
      e = ap (λ (x : History). newer ++ collection ∷ x) b.picture ∙ sym (append_assoc newer (collection ∷ (b.since ++ b.ack ∷ b.between)) from_ring)

  place_ack : At h (length from_between) b.ack
  place_ack = (newer ++ collection ∷ b.since, from_between, ap (λ (x : History). newer ++ collection ∷ x) picture' ∙ sym (append_assoc newer (collection ∷ b.since) (b.ack ∷ from_between)), refl)

  sizes : (length b.before < length from_between) × (length from_between < length older)
  sizes = omega (arith, length-append b.between from_ring, ap length picture', length-append b.since (b.ack ∷ from_between))

  in_past : (n : ℕ) (t : Turn) → At h n t → n < length older → At older n t
  in_past n t a l = at_older (newer ++ collection ∷ []) older n t (subst (λ (x : History). At x n t) (sym (append_assoc newer (collection ∷ []) older)) a) l

  numbered : (u : ℕ) (unlink : Turn) → At h u unlink → unlinks_of s k unlink ≡ true → u < length older → RungAndAnswered s h u (length older)
  numbered u unlink a un l = record {
    i = length b.before;
    j = length from_between;
    ring = b.ring;
    ack = b.ack;
    in_order = (not_after (leb u (length b.before)) refl, sizes.0, sizes.1);
    ring_at = place_ring;
    rung = b.rung;
    ack_at = place_ack;
    read = b.read;
    first = λ n t lo hi x. none_at (reads s) b.between from_ring n t b.first (in_between n t hi x) (omega arith);
  }
    where
      in_between : (n : ℕ) (t : Turn) → n < length from_between → At h n t → At from_between n t
      in_between n t hi x =
          at_older (b.since ++ b.ack ∷ []) from_between n t
          (subst (λ (y : History). At y n t) (picture' ∙ sym (append_assoc b.since (b.ack ∷ []) from_between)) (in_past n t x (omega (arith, sizes)))) hi

      not_after : (c : Bool) → leb u (length b.before) ≡ c → u ≤ length b.before
      not_after true e = leb-true u (length b.before) e
      not_after false e =
          absurd (true≢false (sym un ∙ none_at (unlinks_of s k) (b.since ++ b.ack ∷ b.between) from_ring u unlink b.unlinked_by_then
          (subst (λ (y : History). At y u unlink) b.picture (in_past u unlink a l))
          (omega (arith, leb-false u (length b.before) e))))

-- of any machine
pub by_numbers : {f : Form} (m : Machine f) (s : Settings) (w : WorldIn f) → BoundaryKept s (run_of m w) → BoundaryNumbered s (run_of m w)
by_numbers m s w kept cs k c u collection unlink at col kind at-u un l =
    let r = run_of_lem m s w at.0 cs collection at.1 at.2 in
    let is = is_collection s k (turn s (run_of m w) r.1 r.0) r.0 (sym (ap (collects s k) r.2) ∙ col) in
    let done : is_collected (answer_to s (run_of m w) r.1 (Collect k is.0 is.1)) ≡ true
    = subst (λ (x : Call). is_collected (answer_to s (run_of m w) r.1 x) ≡ true) is.2 is.3 in
    let b : Boundary s k at.1 =
    subst (Boundary s k) (sym r.3)
    (kept r.1 k is.0 is.1 done (subst (λ (x : History). is_interrupt (kind_at s k x) ≡ false) r.3 kind)).1 in
    subst (λ (x : History). RungAndAnswered s x u c) (sym at.2)
    (subst (RungAndAnswered s (at.0 ++ collection ∷ at.1) u) at.3
    (numbered s k at.0 at.1 collection b u unlink (subst (λ (x : History). At x u unlink) at.2 at-u) un (omega (arith, at.3, l))))
