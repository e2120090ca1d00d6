-- What a slot may keep besides its first word; and what the slots that were looked at come to, as the judge goes over them.
use Rattle.std.specs.Prelude.{ℕ, zero, suc, ◌-◌, ◌^◌, Bool, true, cond, not, ◌&&◌, List, [], ◌∷◌, ◌==◌, bit_and, bit_or, nat_lt, slice_index}
use Rattle.bitset.specs.Places.{all_below, none_in}
use Rattle.common.specs.Tests.{every}
use Rattle.words.specs.Record.{last_at, phase_in, places_at, word_at}
use Rattle.word_ranges.specs.declared.seen.Seen.{Seen}
use Rattle.word_ranges.specs.Bounds.{word_good}

-- the last id: 0 of a closed slot; of an idle one any below the last of all, which 1 follows as it does 0
abbrev pub idle_id : ℕ → ℕ → Bool
idle_id phase last = cond (phase == 0) (last == 0) (nat_lt last (2 ^ 64 - 1))

-- closed or idle: no place; else the request's id is at least 1
unfoldable pub held_good : ℕ → ℕ → List ℕ → Bool
held_good phase last places = cond (nat_lt phase 2) (none_in places && idle_id phase last) (not (last == 0))

-- ---- the slots that were looked at

-- none: the free places are met first
abbrev pub free_met : List ℕ → Seen
free_met free =
    record { good = true; twice = 0; a = slice_index free 0; b = slice_index free 1; c = slice_index free 2; d = slice_index free 3 }

abbrev pub mark_good : Seen → Bool → Seen
mark_good s g = record { good = s.good && g; twice = s.twice; a = s.a; b = s.b; c = s.c; d = s.d }

abbrev pub meet_places : Seen → Bool → List ℕ → Seen
meet_places s g p =
    record {
      good = s.good && g;
      twice =
          bit_or
          (bit_or (bit_or (bit_or s.twice (bit_and s.a (slice_index p 0))) (bit_and s.b (slice_index p 1))) (bit_and s.c (slice_index p 2)))
          (bit_and s.d (slice_index p 3));
      a = bit_or s.a (slice_index p 0);
      b = bit_or s.b (slice_index p 1);
      c = bit_or s.c (slice_index p 2);
      d = bit_or s.d (slice_index p 3);
    }

-- one slot more; one with no request has no places to meet
unfoldable pub see_of : Seen → Bool → ℕ → ℕ → List ℕ → Seen
see_of s bounded w last p =
    cond (nat_lt (phase_in w) 2) (mark_good s (bounded && held_good (phase_in w) last p)) (meet_places s (bounded && held_good (phase_in w) last p) p)

-- n slots more, from slot k on
unfoldable pub seen_from : List ℕ → ℕ → ℕ → ℕ → ℕ → Seen → Seen
seen_from ws limit unanswered k zero s = s
seen_from ws limit unanswered k (suc n) s =
    seen_from ws limit unanswered (suc k) n
    (see_of s (word_good limit unanswered (word_at ws k)) (word_at ws k) (last_at ws k) (places_at ws k))

-- every slot good, no place met twice, each place below D met
unfoldable pub all_met : Seen → ℕ → Bool
all_met s D =
    every
    (s.good
    ∷ (s.twice == 0)
    ∷ (s.a == slice_index (all_below D) 0)
    ∷ (s.b == slice_index (all_below D) 1)
    ∷ (s.c == slice_index (all_below D) 2)
    ∷ (s.d == slice_index (all_below D) 3)
    ∷ [])
