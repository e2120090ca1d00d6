-- The returns of the functions that judge a request.
use Rattle.std.specs.Prelude.{◌≡◌, ℕ, ◌+◌, ◌-◌, ◌/◌, ◌%◌, ◌^◌, ◌<◌, ◌≤◌, Bool, true, false, not, ◌&&◌, eqb, ltb, leb, Err, Ok}
use mathlib.Core.Path.{sym, ◌∙◌}
use native.Mathlib.Omega.{arith}
use borrow.Author.Tests.{eq-eqb, lt-leb, lt-ltb, le-ltb, ne_eqb, not-false, not-true}
use Rattle.common.proofs.TestLaws.{both_true, every_3, same_test}
use Rattle.state.specs.Slots.{slot_at}
use Rattle.state.specs.Plain.{Ehci}
use Rattle.pipe.specs.Endpoints.{direction_number, kind_number}
use Rattle.common.specs.Kinds.{is_control, is_isochronous}
use Rattle.controller.specs.Readers.{free_count, is_opened, is_uncollected}
use Rattle.common.specs.declared.answer.Refusal.TheVariants.{InvalidParameter, InvalidEndpoint, QueueFull, NotSupported, NoMemory, NotReady}
use Rattle.request.specs.Submit.{buffer_good, control_good, judge_of, need_of_request, ranges_good}
use Rattle.request.specs.declared.judge.TransferRequest.{TransferRequest}

pub buffer_empty : (a n : ℕ) → n ≡ 0 → eqb n 0 ≡ buffer_good a n
unfolding buffer_good
buffer_empty a n e = rw (eq-eqb n 0 e)

pub buffer_large : (a n : ℕ) → (n ≡ 0 → ⊥) → 4294967296 < n → leb n 4294967296 ≡ buffer_good a n
unfolding buffer_good
buffer_large a n z h = rw (ne_eqb n 0 z, lt-leb n 4294967296 h) (sym (lt-leb (a + n) (2 ^ 32) (omega arith)))

pub buffer_is : (a n : ℕ) → (n ≡ 0 → ⊥) → n ≤ 4294967296 → leb a (4294967296 - n) ≡ buffer_good a n
unfolding buffer_good
buffer_is a n z h = rw (ne_eqb n 0 z) (same_test a (4294967296 - n) (a + n) (2 ^ 32) (λ p. omega arith) (λ p. omega arith))

pub control_is : (t : TransferRequest) (b : ℕ) → b ≡ direction_number t.direction
    → (leb t.length 16384 && eqb (t.setup / 128 % 2) b && ltb t.setup 281474976710656) ≡ control_good t
unfolding control_good
control_is t b e = every_3 (leb t.length 16384) (eqb (t.setup / 128 % 2) b) (ltb t.setup 281474976710656) ∙ rw e

module _ (t : TransferRequest) (b k : Bool) (eb : b ≡ buffer_good t.address t.length) (ek : k ≡ is_control t.kind) where
  pub ranges_control : (c : Bool) → k ≡ true → c ≡ control_good t → (b && c) ≡ ranges_good t
  unfolding ranges_good
  ranges_control c h ec = rw (eb, ec, sym ek ∙ h)

  pub ranges_other : k ≡ false → b ≡ ranges_good t
  unfolding ranges_good
  ranges_other h = eb ∙ sym (rw (sym ek ∙ h) (both_true (buffer_good t.address t.length)))

module _ (s : Ehci) (slot : ℕ) (t : TransferRequest) (o : Bool) (eo : o ≡ is_opened s slot) where
  pub judge_closed : not o ≡ true → Err InvalidEndpoint ≡ judge_of s slot t
  unfolding judge_of
  judge_closed h = rw (sym eo ∙ not-true o h)

  module _ (ho : not o ≡ false) where
    pub judge_stopped : s.running ≡ 0 → Err NotReady ≡ judge_of s slot t
    unfolding judge_of
    judge_stopped h = rw (sym eo ∙ not-false o ho, eq-eqb s.running 0 h)

    module _ (u : Bool) (hr : s.running ≡ 0 → ⊥) (eu : u ≡ is_uncollected s slot) where
      pub judge_full : u ≡ true → Err QueueFull ≡ judge_of s slot t
      unfolding judge_of
      judge_full h = rw (sym eo ∙ not-false o ho, ne_eqb s.running 0 hr, sym eu ∙ h)

      module _ (hu : u ≡ false) (i : Bool) (ei : i ≡ is_isochronous t.kind) where
        pub judge_isochronous : i ≡ true → Err NotSupported ≡ judge_of s slot t
        unfolding judge_of
        judge_isochronous h = rw (sym eo ∙ not-false o ho, ne_eqb s.running 0 hr, sym eu ∙ hu, sym ei ∙ h)

        module _ (hi : i ≡ false) (k : ℕ) (ek : k ≡ kind_number t.kind) where
          pub judge_kind : (k ≡ (slot_at s slot).kind → ⊥) → Err InvalidEndpoint ≡ judge_of s slot t
          unfolding judge_of
          judge_kind h =
              rw (sym eo ∙ not-false o ho, ne_eqb s.running 0 hr, sym eu ∙ hu, sym ei ∙ hi, sym ek, ne_eqb k (slot_at s slot).kind h)

          module _ (hk : k ≡ (slot_at s slot).kind) (g : Bool) (eg : g ≡ ranges_good t) where
            pub judge_range : not g ≡ true → Err InvalidParameter ≡ judge_of s slot t
            unfolding judge_of
            judge_range h =
                rw (
                  sym eo ∙ not-false o ho,
                  ne_eqb s.running 0 hr,
                  sym eu ∙ hu,
                  sym ei ∙ hi,
                  sym ek,
                  eq-eqb k (slot_at s slot).kind hk,
                  sym eg ∙ not-true g h,
                )

            module _ (hg : not g ≡ false) (f n : ℕ) (ef : f ≡ free_count s) (en : n ≡ need_of_request s slot t) where
              pub judge_room : f < n → Err NoMemory ≡ judge_of s slot t
              unfolding judge_of
              judge_room h =
                  rw (
                    sym eo ∙ not-false o ho,
                    ne_eqb s.running 0 hr,
                    sym eu ∙ hu,
                    sym ei ∙ hi,
                    sym ek,
                    eq-eqb k (slot_at s slot).kind hk,
                    sym eg ∙ not-false g hg,
                    sym ef,
                    sym en,
                    lt-ltb f n h,
                  )

              pub judge_done : n ≤ f → (Ok tt) ≡ judge_of s slot t
              unfolding judge_of
              judge_done h =
                  rw (
                    sym eo ∙ not-false o ho,
                    ne_eqb s.running 0 hr,
                    sym eu ∙ hu,
                    sym ei ∙ hi,
                    sym ek,
                    eq-eqb k (slot_at s slot).kind hk,
                    sym eg ∙ not-false g hg,
                    sym ef,
                    sym en,
                    le-ltb f n h,
                  )
