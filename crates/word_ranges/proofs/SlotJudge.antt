-- A slot's word in its range and what it keeps as it must: exactly then the slot that the words stand for is good.
use Rattle.std.specs.Prelude.{◌≡◌, ℕ, ◌-◌, ◌/◌, ◌%◌, ◌^◌, ◌<◌, ◌≤◌, true, ◌≢◌, List, [], ◌∷◌}
use native.Mathlib.Decide.{ℕ_discrete as dec_eq}
use native.Mathlib.Omega.{arith}
use borrow.Author.Tests.{eq-eqb, le-leb, lt-leb, ne_eqb}
use Rattle.slot.specs.Ids.{after_id}
use Rattle.slot.specs.Ranges.{slot_good}
use Rattle.slot.proofs.SlotLaws.{NoRequest, OpenKind, Phase, slot_makes, slot_tells}
use Rattle.words.specs.Good.{no_places}
use Rattle.words.specs.Record.{kind_in, phase_in, size_in, slot_in, toggle_in}
use Rattle.word_ranges.specs.Bounds.{word_good}
use Rattle.word_ranges.specs.Seen.{held_good}
use Rattle.word_ranges.proofs.HeldLaws.{Kept, held_makes, held_tells}
use Rattle.word_ranges.proofs.WordLaws.{Word, word_makes, word_sized, word_tells}

after_least : (last : ℕ) → 1 ≤ after_id last
unfolding after_id
after_least last = by (dec_eq last (2 ^ 64 - 1))
  where
    by : Dec (last ≡ 2 ^ 64 - 1) → 1 ≤ after_id last
    by (yes q) = rw (eq-eqb last (2 ^ 64 - 1) q) (omega arith)
    by (no n) = rw (ne_eqb last (2 ^ 64 - 1) n) (omega arith)

bit_none : (x : ℕ) → x < 2 → x % 2 ≡ 0 → x ≡ 0
bit_none x h e = omega arith

module _ (limit u w last : ℕ) where
  -- ---- from the words to the slot

  none : phase_in w < 2 → w < 2 ^ 16 → NoRequest (slot_in w last)
  unfolding slot_in
  none p h =
      record {
        request_none = rw (lt-leb 2 (phase_in w) p);
        direction_none = omega arith;
        length_none = omega arith;
        cancel_none = omega arith;
        boundary_none = omega arith;
      }

  kind : kind_in w ≢ 1 → OpenKind (slot_in w last).kind
  unfolding slot_in
  kind n = record { most = omega arith; never = n }

  request : 2 ≤ phase_in w → 1 ≤ last → 1 ≤ (slot_in w last).request
  unfolding slot_in
  request p h = rw (le-leb 2 (phase_in w) p) h

  phase : (p : List ℕ) → Kept (phase_in w) last p → Word u w → Phase (slot_in w last) u
  unfolding slot_in after_id
  phase p k (Word.closed_word z) =
      let l : last ≡ 0 = k.closed (omega arith) in
      Phase.closed (omega arith) (omega arith) (rw l) (none (omega arith) (omega arith))
  phase p k (Word.idle_word e n h) = Phase.idle e (kind n) (none (omega arith) h)
  phase p k (Word.linked_word e n h) =
      Phase.linked e (kind n) (request (omega arith) (k.own (omega arith))) (omega arith) (omega arith) (omega arith)
  phase p k (Word.advances_word e n m h) =
      Phase.unlinking e (kind n) (request (omega arith) (k.own (omega arith))) (omega arith) (omega arith)
      (record { frame = λ q. absurd (m q); advances = λ q. omega arith })
  phase p k (Word.frame_word e q h) =
      Phase.unlinking e (kind (λ z. omega arith)) (request (omega arith) (k.own (omega arith))) (omega arith) (omega arith)
      (record { frame = λ z. omega arith; advances = λ n. absurd (n q) })

  -- a closed slot's word is 0
  size_0 : Word u w → phase_in w ≡ 0 → size_in w ≡ 0
  size_0 (Word.closed_word z) p = omega arith
  size_0 (Word.idle_word e n h) p = absurd (omega arith)
  size_0 (Word.linked_word e n h) p = absurd (omega arith)
  size_0 (Word.advances_word e n m h) p = absurd (omega arith)
  size_0 (Word.frame_word e q h) p = absurd (omega arith)

  toggle_0 : Word u w → phase_in w ≡ 0 → toggle_in w ≡ 0
  toggle_0 (Word.closed_word z) p = omega arith
  toggle_0 (Word.idle_word e n h) p = absurd (omega arith)
  toggle_0 (Word.linked_word e n h) p = absurd (omega arith)
  toggle_0 (Word.advances_word e n m h) p = absurd (omega arith)
  toggle_0 (Word.frame_word e q h) p = absurd (omega arith)

  least : 1 ≤ (slot_in w last).id
  unfolding slot_in
  least = after_least last

  pub slot_judged : (E k a b c d : ℕ) → k < E → word_good limit u w ≡ true → held_good (phase_in w) last (a ∷ b ∷ c ∷ d ∷ []) ≡ true
      → slot_good E limit k u (slot_in w last) ≡ true
  unfolding slot_in
  slot_judged E k a b c d h good held =
      slot_makes E limit k u (slot_in w last)
      (record {
        id_least = least;
        closed_from_lem = λ far. absurd (omega arith);
        size_none = size_0 (word_tells limit u w good);
        size_open = word_sized limit u w good;
        toggle_none = toggle_0 (word_tells limit u w good);
        toggle_flag = omega arith;
        by_phase = phase (a ∷ b ∷ c ∷ d ∷ []) (held_tells (phase_in w) last a b c d held) (word_tells limit u w good);
      })

  -- ---- and back

  bare : NoRequest (slot_in w last) → w < 2 ^ 16
  unfolding slot_in
  bare n =
      let fields : w < 0x2_0000_0000_0000 = omega (arith, n.cancel_none, n.boundary_none) in
      let below : w < 0x2_0000 = omega (arith, n.length_none) in
      omega (arith, n.direction_none)

  unsized : w < 2 ^ 16 → size_in w ≡ 0 → toggle_in w ≡ 0 → w < 16
  unsized h z g =
      let once : w / 0x8000 < 2 = omega (arith, h) in
      let none_there : w / 0x8000 ≡ 0 = bit_none (w / 0x8000) once g in
      let low : w < 0x8000 = omega (arith, none_there) in
      let few : w / 16 < 2048 = omega (arith, low) in
      let none : w / 16 ≡ 0 = omega arith in
      omega arith

  nothing : phase_in w ≡ 0 → kind_in w ≡ 0 → size_in w ≡ 0 → toggle_in w ≡ 0 → w < 2 ^ 16 → w ≡ 0
  nothing p k z g h = let low : w < 16 = unsized h z g in omega arith

  word : (phase_in w ≡ 0 → size_in w ≡ 0) → (phase_in w ≡ 0 → toggle_in w ≡ 0) → Phase (slot_in w last) u → Word u w
  unfolding slot_in
  word z g (Phase.closed e k i n) = Word.closed_word (nothing e k (z e) (g e) (bare n))
  word z g (Phase.idle e k n) = Word.idle_word e k.never (bare n)
  word z g (Phase.linked e k r d c b) = Word.linked_word e k.never (omega arith)
  word z g (Phase.unlinking e k r d c b) = by (dec_eq (kind_in w) 3)
    where
      by : Dec (kind_in w ≡ 3) → Word u w
      by (yes q) = Word.frame_word e q (omega (arith, b.frame q))
      by (no n) = Word.advances_word e k.never n (omega (arith, b.advances n))

  own : Phase (slot_in w last) u → 2 ≤ phase_in w → 1 ≤ last
  unfolding slot_in
  own (Phase.closed e k i n) p = absurd (omega arith)
  own (Phase.idle e k n) p = absurd (omega arith)
  own (Phase.linked e k r d c b) p = rw (le-leb 2 (phase_in w) p) at r
  own (Phase.unlinking e k r d c b) p = rw (le-leb 2 (phase_in w) p) at r

  module _ (E k a b c d : ℕ) (good : slot_good E limit k u (slot_in w last) ≡ true) where
    pub slot_word : word_good limit u w ≡ true
    unfolding slot_in
    slot_word =
        let g = slot_tells E limit k u (slot_in w last) good in
        word_makes limit u w (word g.size_none g.toggle_none g.by_phase) g.size_open

    pub slot_held : last < 2 ^ 64 → (phase_in w ≡ 0 → last ≡ 0) → (phase_in w ≡ 1 → last ≢ 2 ^ 64 - 1)
        → (phase_in w < 2 → ◌≡◌ {A = List ℕ} (a ∷ b ∷ c ∷ d ∷ []) no_places)
        → held_good (phase_in w) last (a ∷ b ∷ c ∷ d ∷ []) ≡ true
    slot_held fits closed idle empty =
        held_makes (phase_in w) last a b c d fits
        (record { closed = closed; idle = idle; empty = empty; own = own (slot_tells E limit k u (slot_in w last) good).by_phase })
