-- Any bring-up: six ready readings, its end in time, the registers it writes, the ranges.
use Rattle.std.specs.Prelude.{◌≡◌, ℕ, ◌+◌, ◌-◌, ◌*◌, ◌<◌, ◌≤◌, Bool, true, false, not, ltb, ◌⊎◌, List, [], ◌∷◌, length, Ok, Some}
use mathlib.Core.Logic.{inl, inr}
use mathlib.Core.Path.{refl, sym, ap, ◌∙◌}
use native.Mathlib.Decide.{ℕ_discrete as dec_eq}
use native.Mathlib.Omega.{arith}
use borrow.Author.Tests.{ltb-true}
use Rattle.register.specs.Bits.{any_of}
use Rattle.register.specs.Writes.{write_of, no_writes, and_then}
use Rattle.common.proofs.TestLaws.{false_true}
use Rattle.state.specs.Plain.{Ehci}
use Rattle.state.specs.Ranges.{in_ranges}
use Rattle.state.specs.Slots.{slot_at}
use Rattle.state.specs.State.{with_bring_up}
use Rattle.state.proofs.RangesLaws.{Ranges, ranges_make, ranges_tell}
use Rattle.common.specs.declared.answer.Refusal.TheVariants.{InvalidParameter, QueueFull, Timeout}
use Rattle.bring_up.specs.declared.stage.Stage.{Stage}
use Rattle.bring_up.specs.declared.stage.Stage.TheVariants.{Stop, Halting, Reset, Resetting, Run, Starting}
use Rattle.bring_up.specs.Plain.{BroughtUp}
use Rattle.bring_up.specs.BringUp.{any_uncollected, stage_of, register_of, ready, set_up, moved_on, refused_bring_up, start_of, onward_of, again_of, step_of}
use Rattle.bring_up.specs.Runs.{Seen, seen, seen_by, row, SixReadings, Ended, GoesOn, EndsBy, EndsInTime, NoneReady, LateAt, LateAtW, offsets, named_for, OnlyNamed, StartNamed, StaysInRanges}
use Rattle.bring_up.proofs.Cases.{start_bad, start_busy, start_done, step_bad, step_none, step_onward, step_again, again_more, again_late}

-- ---- the calls by their cases

module _ (s : Ehci) (e : in_ranges s ≡ true) where
  start_is : any_uncollected 0 32 s ≡ false
      → start_of s ≡ record { answer = Ok tt; state = with_bring_up s 0 1 0 0; writes = and_then no_writes 8 0; read = Some 0; wait = 0 }
  start_is u = sym (start_done s true (sym e) false _ _ refl (sym u) refl refl refl)

  start_full : any_uncollected 0 32 s ≡ true → start_of s ≡ refused_bring_up s QueueFull
  start_full u = sym (start_busy s true (sym e) true _ refl (sym u) refl refl)

  step_idle : (v : ℕ) → s.step ≡ 0 → step_of s v ≡ refused_bring_up s InvalidParameter
  step_idle v h = sym (step_none s true (sym e) v _ refl h refl)

  module _ (v : ℕ) (st : Stage) (h : s.step ≡ 0 → ⊥) (q : stage_of s.step ≡ st) where
    step_ready : ready st v ≡ true → step_of s v ≡ onward_of s st v
    unfolding onward_of
    step_ready r = sym (step_onward s true (sym e) v st true refl h (sym q) (sym r) _ _ refl refl refl)

    step_waits : ready st v ≡ false → step_of s v ≡ again_of s (register_of st)
    step_waits r = sym (step_again s true (sym e) v st false refl h (sym q) (sym r) _ _ refl refl refl)

module _ (s : Ehci) (e : in_ranges s ≡ false) where
  start_out : start_of s ≡ refused_bring_up s InvalidParameter
  start_out = sym (start_bad s false (sym e) _ refl refl)

  step_out : (v : ℕ) → step_of s v ≡ refused_bring_up s InvalidParameter
  step_out v = sym (step_bad s false (sym e) v _ refl refl)

-- ---- the ranges

pub bring_keeps : (s : Ehci) (running step waited enabled : ℕ) → running ≤ 1 → step ≤ 6 → waited < s.settings.wait → enabled ≤ 1
    → Ranges s → Ranges (with_bring_up s running step waited enabled)
unfolding with_bring_up slot_at
bring_keeps s running step waited enabled hr hs hw he r =
    record {
      good = r.good;
      running_flag = hr;
      step_most = hs;
      waited_below = hw;
      address_least = r.address_least;
      address_most = r.address_most;
      enabled_flag = he;
      pending_only = r.pending_only;
      masked_only = r.masked_only;
      doorbell_flag = r.doorbell_flag;
      noted_most = r.noted_most;
      unanswered_least = r.unanswered_least;
      unanswered_most = r.unanswered_most;
      owned = r.owned;
      unowned = r.unowned;
      slots = r.slots;
    }

-- ---- six ready readings

-- not running, at a step, nothing waited, interrupts off
at : Ehci → ℕ → Ehci
at s n = with_bring_up s 0 n 0 0

module _ (s : Ehci) (r : Ranges s) where
  at_good : (n : ℕ) → n ≤ 6 → in_ranges (at s n) ≡ true
  unfolding at
  at_good n h =
      ranges_make (with_bring_up s 0 n 0 0) (bring_keeps s 0 n 0 0 (omega arith) h (omega (arith, r.waited_below)) (omega arith) r)

  some : (n : ℕ) → (n ≡ 0 → ⊥) → (at s n).step ≡ 0 → ⊥
  unfolding at with_bring_up
  some n h q = h q

  module _ (v : ℕ) where
    at_stop : step_of (at s 1) v ≡ onward_of (at s 1) Stop v
    unfolding at with_bring_up
    at_stop = step_ready (at s 1) (at_good 1 (omega arith)) v Stop (some 1 (λ q. omega arith)) refl refl

    at_halting : any_of v 0x1000 ≡ true → step_of (at s 2) v ≡ onward_of (at s 2) Halting v
    unfolding at with_bring_up
    at_halting t = step_ready (at s 2) (at_good 2 (omega arith)) v Halting (some 2 (λ q. omega arith)) refl t

    at_reset : step_of (at s 3) v ≡ onward_of (at s 3) Reset v
    unfolding at with_bring_up
    at_reset = step_ready (at s 3) (at_good 3 (omega arith)) v Reset (some 3 (λ q. omega arith)) refl refl

    at_resetting : any_of v 2 ≡ false → step_of (at s 4) v ≡ onward_of (at s 4) Resetting v
    unfolding at with_bring_up
    at_resetting t = step_ready (at s 4) (at_good 4 (omega arith)) v Resetting (some 4 (λ q. omega arith)) refl (ap not t)

    at_run : step_of (at s 5) v ≡ onward_of (at s 5) Run v
    unfolding at with_bring_up
    at_run = step_ready (at s 5) (at_good 5 (omega arith)) v Run (some 5 (λ q. omega arith)) refl refl

    at_starting : any_of v 0x1000 ≡ false → step_of (at s 6) v ≡ onward_of (at s 6) Starting v
    unfolding at with_bring_up
    at_starting t = step_ready (at s 6) (at_good 6 (omega arith)) v Starting (some 6 (λ q. omega arith)) refl (ap not t)

-- one step after another: what is seen of it, and what of those that follow
follows : (s : Ehci) (v : ℕ) (vs : List ℕ) (r : BroughtUp) (x : Seen) (l : List Seen) → step_of s v ≡ r → seen r ≡ x → seen_by r.state vs ≡ l
    → seen_by s (v ∷ vs) ≡ x ∷ l
follows s v vs r x l e ex el = ap (λ (q : BroughtUp). seen q ∷ seen_by q.state vs) e ∙ (λ i. ex i ∷ el i)

pub six_readings : SixReadings
unfolding onward_of at with_bring_up and_then no_writes set_up
six_readings s v₁ v₂ v₃ v₄ v₅ v₆ e u r₂ r₄ r₆ =
    let r = ranges_tell s e in
    ap (λ (x : BroughtUp). seen x ∷ seen_by x.state (v₁ ∷ v₂ ∷ v₃ ∷ v₄ ∷ v₅ ∷ v₆ ∷ [])) (start_is s e u)
    ∙ ap (λ (l : List Seen). row (write_of 8 0 ∷ []) 0 (Some 0) 0 ∷ l)
    (follows (at s 1) v₁ (v₂ ∷ v₃ ∷ v₄ ∷ v₅ ∷ v₆ ∷ []) _ _ _ (at_stop s r v₁) refl
    (follows (at s 2) v₂ (v₃ ∷ v₄ ∷ v₅ ∷ v₆ ∷ []) _ _ _ (at_halting s r v₂ r₂) refl
    (follows (at s 3) v₃ (v₄ ∷ v₅ ∷ v₆ ∷ []) _ _ _ (at_reset s r v₃) refl
    (follows (at s 4) v₄ (v₅ ∷ v₆ ∷ []) _ _ _ (at_resetting s r v₄ r₄) refl
    (follows (at s 5) v₅ (v₆ ∷ []) _ _ _ (at_run s r v₅) refl
    (follows (at s 6) v₆ [] _ _ _ (at_starting s r v₆ r₆) refl refl))))))

-- ---- the end

-- how many more steps there can be, by the stage, W and the reads of its wait
left : Stage → ℕ → ℕ → ℕ
left Stop W w = 3 * W + 3
left Halting W w = (W - w) + (2 * W + 2)
left Reset W w = 2 * W + 2
left Resetting W w = (W - w) + (W + 1)
left Run W w = W + 1
left Starting W w = W - w

left_of : Ehci → ℕ
left_of s = left (stage_of s.step) s.settings.wait s.waited

some_left : (s : Ehci) → Ranges s → 1 ≤ left_of s
unfolding left_of left
some_left s r = go (stage_of s.step)
  where
    go : (st : Stage) → 1 ≤ left st s.settings.wait s.waited
    go Stop = omega arith
    go Halting = omega arith
    go Reset = omega arith
    go Resetting = omega arith
    go Run = omega arith
    go Starting = omega (arith, r.waited_below)

-- a step that goes on: in the ranges, and nearer to the end
abbrev Nearer : Ehci → BroughtUp → Type 0
Nearer s r = GoesOn r × (Ranges r.state × (left_of r.state < left_of s))

module _ (s : Ehci) (r : Ranges s) (v : ℕ) where
  onward_goes : (st : Stage) → stage_of s.step ≡ st → Ended (onward_of s st v) ⊎ Nearer s (onward_of s st v)
  unfolding onward_of with_bring_up left left_of
  onward_goes Stop q = inr ((refl, refl, (λ z. omega arith), refl), (bring_keeps s 0 2 0 s.enabled (omega arith) (omega arith) (omega (arith, r.waited_below)) r.enabled_flag r, rw q (omega (arith, r.waited_below))))
  onward_goes Halting q = inr ((refl, refl, (λ z. omega arith), refl), (bring_keeps s 0 3 0 s.enabled (omega arith) (omega arith) (omega (arith, r.waited_below)) r.enabled_flag r, rw q (omega (arith, r.waited_below))))
  onward_goes Reset q = inr ((refl, refl, (λ z. omega arith), refl), (bring_keeps s 0 4 0 s.enabled (omega arith) (omega arith) (omega (arith, r.waited_below)) r.enabled_flag r, rw q (omega (arith, r.waited_below))))
  onward_goes Resetting q = inr ((refl, refl, (λ z. omega arith), refl), (bring_keeps s 0 5 0 s.enabled (omega arith) (omega arith) (omega (arith, r.waited_below)) r.enabled_flag r, rw q (omega (arith, r.waited_below))))
  onward_goes Run q = inr ((refl, refl, (λ z. omega arith), refl), (bring_keeps s 0 6 0 s.enabled (omega arith) (omega arith) (omega (arith, r.waited_below)) r.enabled_flag r, rw q (omega (arith, r.waited_below))))
  onward_goes Starting q = inl (refl, refl, inl (refl, refl))

  again_goes : (st : Stage) → stage_of s.step ≡ st → (s.step ≡ 0 → ⊥)
      → left st s.settings.wait (s.waited + 1) < left st s.settings.wait s.waited
      → (b : Bool) → ltb (s.waited + 1) s.settings.wait ≡ b
      → Ended (again_of s (register_of st)) ⊎ Nearer s (again_of s (register_of st))
  unfolding again_of with_bring_up left_of
  again_goes st q h less true t =
      rw t
      (inr ((refl, refl, h, ap (λ (x : Stage). Some (register_of x)) (sym q)), (bring_keeps s 0 s.step (s.waited + 1) s.enabled (omega arith) r.step_most (ltb-true (s.waited + 1) s.settings.wait t) r.enabled_flag r, rw q less)))
  again_goes st q h less false t = rw t (inl (refl, refl, inr (refl, refl)))

  -- a stage that waits comes nearer with each read
  waits_goes : (st : Stage) → stage_of s.step ≡ st → (s.step ≡ 0 → ⊥) → ready st v ≡ false
      → Ended (again_of s (register_of st)) ⊎ Nearer s (again_of s (register_of st))
  unfolding left
  waits_goes Stop q h t = absurd (false_true (sym t))
  waits_goes Halting q h t = again_goes Halting q h (omega (arith, r.waited_below)) (ltb (s.waited + 1) s.settings.wait) refl
  waits_goes Reset q h t = absurd (false_true (sym t))
  waits_goes Resetting q h t = again_goes Resetting q h (omega (arith, r.waited_below)) (ltb (s.waited + 1) s.settings.wait) refl
  waits_goes Run q h t = absurd (false_true (sym t))
  waits_goes Starting q h t = again_goes Starting q h (omega (arith, r.waited_below)) (ltb (s.waited + 1) s.settings.wait) refl

  step_goes : (st : Stage) → stage_of s.step ≡ st → (s.step ≡ 0 → ⊥) → (b : Bool) → ready st v ≡ b
      → Ended (step_of s v) ⊎ Nearer s (step_of s v)
  step_goes st q h true t = rw (step_ready s (ranges_make s r) v st h q t) (onward_goes st q)
  step_goes st q h false t = rw (step_waits s (ranges_make s r) v st h q t) (waits_goes st q h t)

-- with as many readings as there can be steps it ends
ends : (s : Ehci) (vs : List ℕ) → Ranges s → (s.step ≡ 0 → ⊥) → left_of s ≤ length vs → EndsBy s vs
ends s [] r h m = absurd (omega (arith, some_left s r))
ends s (v ∷ vs) r h m =
    go (λ x g. ends (step_of s v).state vs x g) (step_goes s r v (stage_of s.step) refl h (ready (stage_of s.step) v) refl)
  where
    go : (Ranges (step_of s v).state → ((step_of s v).state.step ≡ 0 → ⊥) → left_of (step_of s v).state ≤ length vs → EndsBy (step_of s v).state vs)
        → Ended (step_of s v) ⊎ Nearer s (step_of s v) → EndsBy s (v ∷ vs)
    go later (inl e) = inl e
    go later (inr n) = inr (n.0, later n.1.0 n.0.2 (omega (arith, n.1.1)))

pub ends_in_time : EndsInTime
unfolding with_bring_up left_of left
ends_in_time s vs e u l =
    let r = ranges_tell s e in
    rw (start_is s e u)
    (ends (with_bring_up s 0 1 0 0) vs (bring_keeps s 0 1 0 0 (omega arith) (omega arith) (omega (arith, r.waited_below)) (omega arith) r) (λ z. omega arith) (omega arith))

-- ---- a wait that is never ready

again_late_is : (s : Ehci) (reg : ℕ) → s.settings.wait ≤ s.waited + 1 → again_of s reg ≡ refused_bring_up (with_bring_up s 0 0 0 s.enabled) Timeout
again_late_is s reg h = sym (again_late s reg _ h refl)

module _ (s : Ehci) (r : Ranges s) (v : ℕ) (z : s.step ≡ 0 → ⊥) (t : ready (stage_of s.step) v ≡ false) where
  last_late : s.settings.wait ≤ s.waited + 1 → step_of s v ≡ refused_bring_up (with_bring_up s 0 0 0 s.enabled) Timeout
  last_late h =
      step_waits s (ranges_make s r) v (stage_of s.step) z refl t ∙ again_late_is s (register_of (stage_of s.step)) h

  more_is : s.waited + 1 < s.settings.wait
      → step_of s v
      ≡ record {
        answer = Ok tt;
        state = with_bring_up s 0 s.step (s.waited + 1) s.enabled;
        writes = no_writes;
        read = Some (register_of (stage_of s.step));
        wait = 0;
      }
  more_is h =
      step_waits s (ranges_make s r) v (stage_of s.step) z refl t
      ∙ sym (again_more s (register_of (stage_of s.step)) _ h refl)

late : (vs : List ℕ) (s : Ehci) → Ranges s → (s.step ≡ 0 → ⊥) → 1 ≤ length vs → s.waited + length vs ≡ s.settings.wait
    → NoneReady (stage_of s.step) vs → LateAt s vs
unfolding with_bring_up
late [] s r z l e n = absurd (omega arith)
late (v ∷ []) s r z l e n = last_late s r v z n.0 (omega arith)
late (v ∷ w ∷ vs) s r z l e n =
    rw (more_is s r v z n.0 (omega arith)) (
      (refl, refl, z, refl),
      late (w ∷ vs) (with_bring_up s 0 s.step (s.waited + 1) s.enabled)
          (bring_keeps s 0 s.step (s.waited + 1) s.enabled (omega arith) r.step_most (omega arith) r.enabled_flag r)
          z (omega arith) (omega arith) n.1,
    )

pub late_at_W : LateAtW
late_at_W s vs e z q l n =
    let r = ranges_tell s e in late vs s r z (omega (arith, r.waited_below)) (omega arith) n

-- ---- the registers

named_onward : (s : Ehci) (v : ℕ) (st : Stage) → offsets (onward_of s st v).writes ≡ named_for st
unfolding onward_of and_then no_writes set_up
named_onward s v Stop = refl
named_onward s v Halting = refl
named_onward s v Reset = refl
named_onward s v Resetting = refl
named_onward s v Run = refl
named_onward s v Starting = refl

again_silent : (s : Ehci) (reg : ℕ) (b : Bool) → ltb (s.waited + 1) s.settings.wait ≡ b → offsets (again_of s reg).writes ≡ []
unfolding again_of no_writes
again_silent s reg true t = rw t
again_silent s reg false t = rw t

refused_silent : offsets no_writes ≡ []
unfolding no_writes
refused_silent = refl

pub only_named : OnlyNamed
only_named s v = go (in_ranges s) refl (dec_eq s.step 0) (ready (stage_of s.step) v) refl
  where
    go : (g : Bool) → in_ranges s ≡ g → Dec (s.step ≡ 0) → (b : Bool) → ready (stage_of s.step) v ≡ b
        → (offsets (step_of s v).writes ≡ []) ⊎ (offsets (step_of s v).writes ≡ named_for (stage_of s.step))
    go false e d b t = inl (rw (step_out s e v) refused_silent)
    go true e (yes z) b t = inl (rw (step_idle s e v z) refused_silent)
    go true e (no h) true t = inr (rw (step_ready s e v (stage_of s.step) h refl t) (named_onward s v (stage_of s.step)))
    go true e (no h) false t =
        inl (rw (step_waits s e v (stage_of s.step) h refl t) (again_silent s (register_of (stage_of s.step)) (ltb (s.waited + 1) s.settings.wait) refl))

start_names : offsets (and_then no_writes 8 0) ≡ 8 ∷ []
unfolding and_then no_writes
start_names = refl

pub start_named : StartNamed
start_named s = go (in_ranges s) refl (any_uncollected 0 32 s) refl
  where
    go : (g : Bool) → in_ranges s ≡ g → (b : Bool) → any_uncollected 0 32 s ≡ b
        → (offsets (start_of s).writes ≡ []) ⊎ (offsets (start_of s).writes ≡ 8 ∷ [])
    go false e b t = inl (rw (start_out s e) refused_silent)
    go true e true t = inl (rw (start_full s e t) refused_silent)
    go true e false t = inr (rw (start_is s e t) start_names)

-- ---- the ranges after each call

module _ (s : Ehci) (r : Ranges s) where
  onward_keeps : (v : ℕ) (st : Stage) → Ranges (onward_of s st v).state
  unfolding onward_of
  onward_keeps v st = go st
    where
      to : (n m : ℕ) → n ≤ 1 → m ≤ 6 → Ranges (with_bring_up s n m 0 s.enabled)
      to n m hn hm = bring_keeps s n m 0 s.enabled hn hm (omega (arith, r.waited_below)) r.enabled_flag r

      go : (t : Stage) → Ranges (with_bring_up s (moved_on t).running (moved_on t).step 0 s.enabled)
      go Stop = to 0 2 (omega arith) (omega arith)
      go Halting = to 0 3 (omega arith) (omega arith)
      go Reset = to 0 4 (omega arith) (omega arith)
      go Resetting = to 0 5 (omega arith) (omega arith)
      go Run = to 0 6 (omega arith) (omega arith)
      go Starting = to 1 0 (omega arith) (omega arith)

  again_keeps : (reg : ℕ) (b : Bool) → ltb (s.waited + 1) s.settings.wait ≡ b → Ranges (again_of s reg).state
  unfolding again_of
  again_keeps reg true t =
      rw t
      (bring_keeps s 0 s.step (s.waited + 1) s.enabled (omega arith) r.step_most (ltb-true (s.waited + 1) s.settings.wait t) r.enabled_flag r)
  again_keeps reg false t = rw t (bring_keeps s 0 0 0 s.enabled (omega arith) (omega arith) (omega (arith, r.waited_below)) r.enabled_flag r)

pub stays_in_ranges : StaysInRanges
stays_in_ranges s v e = (started (any_uncollected 0 32 s) refl, stepped (dec_eq s.step 0) (ready (stage_of s.step) v) refl)
  where
    started : (b : Bool) → any_uncollected 0 32 s ≡ b → in_ranges (start_of s).state ≡ true
    started true u = rw (start_full s e u) e
    started false u =
        rw (start_is s e u)
        (ranges_make (with_bring_up s 0 1 0 0) (bring_keeps s 0 1 0 0 (omega arith) (omega arith) (omega (arith, (ranges_tell s e).waited_below)) (omega arith) (ranges_tell s e)))

    stepped : Dec (s.step ≡ 0) → (b : Bool) → ready (stage_of s.step) v ≡ b → in_ranges (step_of s v).state ≡ true
    stepped (yes z) b t = rw (step_idle s e v z) e
    stepped (no h) true t =
        rw (step_ready s e v (stage_of s.step) h refl t)
        (ranges_make (onward_of s (stage_of s.step) v).state (onward_keeps s (ranges_tell s e) v (stage_of s.step)))
    stepped (no h) false t =
        rw (step_waits s e v (stage_of s.step) h refl t)
        (ranges_make (again_of s (register_of (stage_of s.step))).state (again_keeps s (ranges_tell s e) (register_of (stage_of s.step)) (ltb (s.waited + 1) s.settings.wait) refl))
