-- The judge says yes exactly to good states in words.
use Rattle.std.specs.Prelude.{◌≡◌, ℕ, zero, suc, ◌+◌, ◌*◌, ◌^◌, ◌<◌, ◌≤◌, Bool, true, false, eqb, ltb, List, length, get_or}
use mathlib.Core.Path.{refl, sym, ap, ◌∙◌}
use native.Mathlib.Omega.{arith}
use borrow.Author.Tests.{eq-eqb, eqb-true, ltb-false, ltb-true}
use Rattle.bitset.specs.Judge.{sum_bit}
use Rattle.bitset.specs.Places.{Words, all_below}
use Rattle.bitset.specs.Words.{Fitting, bit}
use Rattle.bitset.proofs.JudgeLaws.{judged_sum, sum_met}
use Rattle.bitset.proofs.SetLaws.{all_words}
use Rattle.common.proofs.TestLaws.{both_tells}
use Rattle.settings.specs.declared.settings.Settings.{Settings}
use Rattle.slot.specs.Ids.{after_id}
use Rattle.slot.specs.Ranges.{slot_good}
use Rattle.slot.proofs.SlotLaws.{Phase, slot_makes}
use Rattle.state.specs.Ranges.{slots_good}
use Rattle.state.specs.Slots.{slot_at}
use Rattle.state.proofs.RangesLaws.{ranges_tell, slot_right, slots_make, slots_tell}
use Rattle.words.specs.declared.cores.Rest.{Rest}
use Rattle.words.specs.Good.{Good, Held, Tidy, column}
use Rattle.words.specs.Record.{last_at, part_at, phase_in, slot_in, word_at}
use Rattle.words.specs.View.{state_of}
use Rattle.words.proofs.RowLaws.{last_beyond, word_beyond}
use Rattle.words.proofs.ViewLaws.{view_slot}
use Rattle.word_ranges.specs.Judge.{core_good, words_good}
use Rattle.word_ranges.specs.Judge as judge
use Rattle.word_ranges.specs.Seen.{free_met}
use Rattle.word_ranges.proofs.CoreLaws.{core_ranges, ranges_core, ranges_slots}
use Rattle.word_ranges.proofs.HeldLaws.{held_tells}
use Rattle.word_ranges.proofs.OwnerLaws.{owners_good}
use Rattle.word_ranges.proofs.SeenLaws.{Column, Pass, Right, pass_makes, pass_tells}
use Rattle.word_ranges.proofs.SlotJudge.{slot_held, slot_judged, slot_word}
use Rattle.word_ranges.proofs.WordLaws.{Four, four}

-- every word of a row has 64 bits
abbrev pub Row : List ℕ → Type 0
Row ws = (i : ℕ) → get_or ws i 0 < 2 ^ 64

-- a slot beyond the row is closed
closed_slot : (E limit k u : ℕ) → slot_good E limit k u (slot_in 0 0) ≡ true
unfolding slot_in after_id
closed_slot E limit k u =
    slot_makes E limit k u (slot_in 0 0)
    (record {
      id_least = omega arith;
      closed_from_lem = λ h. refl;
      size_none = λ p. refl;
      size_open = λ n. absurd (n refl);
      toggle_none = λ p. refl;
      toggle_flag = omega arith;
      by_phase =
          Phase.closed refl refl refl
          (record { request_none = refl; direction_none = refl; length_none = refl; cancel_none = refl; boundary_none = refl });
    })

module _ (s : Settings) (r : Rest) (ws : List ℕ) where
  -- the slots are gone over, from the free places on
  abbrev Passed : Type 0
  Passed = Pass ws s.limit r.unanswered s.descriptors 0 s.endpoints (free_met r.free)

  -- ---- what the judge tells

  parts : words_good s r ws ≡ true → (core_good s r ≡ true) × (length ws ≡ 6 * s.endpoints) × Passed
  unfolding words_good judge.slots_good
  parts e =
      let c = both_tells (core_good s r) _ e in
      let l = both_tells (eqb (length ws) (6 * s.endpoints)) _ c.1 in (
        c.0,
        eqb-true (length ws) (6 * s.endpoints) l.0,
        pass_tells ws s.limit r.unanswered s.descriptors s.endpoints 0 (free_met r.free) l.1,
      )

  module _ (fits : length ws ≡ 6 * s.endpoints) (p : Passed) where
    held_at : (k : ℕ) → k < s.endpoints → Held ws k
    held_at k h =
        let q = held_tells (phase_in (word_at ws k)) (last_at ws k) (part_at ws k 0) (part_at ws k 1) (part_at ws k 2) (part_at ws k 3) (p.each k (omega arith) (omega arith)).holds in
        record { closed = q.closed; idle = q.idle; empty = q.empty }

    shared : (j i : ℕ) → Four j → bit (get_or r.free j 0) i + sum_bit i (column ws j 0 s.endpoints) ≡ bit (get_or (all_below s.descriptors) j 0) i
    shared j i (Four.is_0 q) = rw q (judged_sum (get_or r.free 0 0) _ (column ws 0 0 s.endpoints) p.first.none_twice p.first.all_met_lem i)
    shared j i (Four.is_1 q) = rw q (judged_sum (get_or r.free 1 0) _ (column ws 1 0 s.endpoints) p.second.none_twice p.second.all_met_lem i)
    shared j i (Four.is_2 q) = rw q (judged_sum (get_or r.free 2 0) _ (column ws 2 0 s.endpoints) p.third.none_twice p.third.all_met_lem i)
    shared j i (Four.is_3 q) = rw q (judged_sum (get_or r.free 3 0) _ (column ws 3 0 s.endpoints) p.fourth.none_twice p.fourth.all_met_lem i)

    tidy_from : Tidy s r ws
    tidy_from = record { has_row_length = fits; held = held_at; shared_out = λ j i h h'. shared j i (four j h) }

    slot_at_lem : (k : ℕ) → slot_good s.endpoints s.limit k r.unanswered (slot_in (word_at ws k) (last_at ws k)) ≡ true
    slot_at_lem k = by (ltb k s.endpoints) refl
      where
        by : (t : Bool) → ltb k s.endpoints ≡ t → slot_good s.endpoints s.limit k r.unanswered (slot_in (word_at ws k) (last_at ws k)) ≡ true
        by true q =
            let h : k < s.endpoints = ltb-true k s.endpoints q in
            let c = p.each k (omega arith) (omega arith) in
            slot_judged s.limit r.unanswered (word_at ws k) (last_at ws k) s.endpoints k (part_at ws k 0) (part_at ws k 1) (part_at ws k 2) (part_at ws k 3) h c.bounded c.holds
        by false q =
            let h : s.endpoints ≤ k = ltb-false k s.endpoints q in
            rw (word_beyond ws k (omega arith), last_beyond ws k (omega arith)) (closed_slot s.endpoints s.limit k r.unanswered)

    right_at_lem : (k : ℕ) → k < 32 → slot_right (state_of s r ws) k ≡ true
    unfolding state_of
    right_at_lem k h = seen
      where
        seen : slot_good s.endpoints s.limit k r.unanswered (slot_at (state_of s r ws) k) ≡ true
        seen = ap (slot_good s.endpoints s.limit k r.unanswered) (view_slot s r ws k h) ∙ slot_at_lem k

    slots_from : slots_good 0 32 (state_of s r ws) ≡ true
    slots_from = slots_make (state_of s r ws) 0 32 (λ k h h'. right_at_lem k (omega arith))

  pub judged : words_good s r ws ≡ true → Good s r ws
  judged e =
      let p = parts e in
      let t = tidy_from p.1 p.2 in
      record { tidy = t; ranges = core_ranges s r ws p.0 (owners_good s r ws t) (slots_from p.1 p.2) }

  -- ---- what makes it say yes

  module _ (free : Words r.free) (row : Row ws) (good : Good s r ws) where
    column_fits : (j k n : ℕ) → Fitting (column ws j k n)
    unfolding column
    column_fits j k zero = tt
    column_fits j k (suc n) = (row (6 * k + (2 + j)), column_fits j (suc k) n)

    column_from : (j : ℕ) → j < 4 → get_or r.free j 0 < 2 ^ 64 → get_or (all_below s.descriptors) j 0 < 2 ^ 64
        → Column (get_or r.free j 0) (column ws j 0 s.endpoints) (get_or (all_below s.descriptors) j 0)
    column_from j h f a =
        let c = sum_met (get_or r.free j 0) (get_or (all_below s.descriptors) j 0) (column ws j 0 s.endpoints) f a (column_fits j 0 s.endpoints) (λ i hi. good.tidy.shared_out j i h hi) in
        record { none_twice = c.0; all_met_lem = c.1 }

    few : s.endpoints ≤ 32
    unfolding state_of
    few = (ranges_tell (state_of s r ws) good.ranges).good.endpoints_most

    right_slot : (k : ℕ) → slot_right (state_of s r ws) k ≡ true → slot_good s.endpoints s.limit k r.unanswered (slot_at (state_of s r ws) k) ≡ true
    unfolding state_of
    right_slot k e = e

    good_slot : (k : ℕ) → k < 32 → slot_good s.endpoints s.limit k r.unanswered (slot_in (word_at ws k) (last_at ws k)) ≡ true
    good_slot k h =
        ap (slot_good s.endpoints s.limit k r.unanswered) (sym (view_slot s r ws k h))
        ∙ right_slot k (slots_tell (state_of s r ws) 0 32 (ranges_slots s r ws good.ranges) k (omega arith) (omega arith))

    right : (k : ℕ) → k < s.endpoints → Right ws s.limit r.unanswered k
    right k h =
        let g = good_slot k (omega (arith, few)) in
        let t = good.tidy.held k h in
        record {
          bounded = slot_word s.limit r.unanswered (word_at ws k) (last_at ws k) s.endpoints k (part_at ws k 0) (part_at ws k 1) (part_at ws k 2) (part_at ws k 3) g;
          holds =
              slot_held s.limit r.unanswered (word_at ws k) (last_at ws k) s.endpoints k (part_at ws k 0) (part_at ws k 1) (part_at ws k 2) (part_at ws k 3) g
              (row (6 * k + 1)) t.closed t.idle t.empty;
        }

    passed : Passed
    passed =
        let all = all_words s.descriptors in
        record {
          good = refl;
          none_twice = refl;
          each = λ k h h'. right k (omega arith);
          first = column_from 0 (omega arith) free.first all.first;
          second = column_from 1 (omega arith) free.second all.second;
          third = column_from 2 (omega arith) free.third all.third;
          fourth = column_from 3 (omega arith) free.fourth all.fourth;
        }

    pub accepted : words_good s r ws ≡ true
    unfolding words_good judge.slots_good
    accepted =
        rw (
          ranges_core s r ws good.ranges,
          eq-eqb (length ws) (6 * s.endpoints) good.tidy.has_row_length,
        )
        (pass_makes ws s.limit r.unanswered s.descriptors s.endpoints 0 (free_met r.free) passed)
