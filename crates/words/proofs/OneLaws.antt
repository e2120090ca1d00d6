-- A state is that of one tidy row alone: every lent word and every free word is fixed by it.
use Prim.Native.Nat.{ℕ, zero, suc, ◌+◌, ◌*◌, ◌/◌, ◌%◌, ◌^◌, ◌≤◌, ◌<◌}
use mathlib.Core.Path.{◌≡◌, refl, sym, ap, ◌∙◌}
use mathlib.Core.Bool.{Bool, true, false}
use mathlib.Core.List.{List, [], ◌∷◌}
use native.Mathlib.Omega.{arith}
use borrow.Author.Tests.{eqb-true, eqb-false, leb-true, leb-false}
use lib.Dec.{eqb, leb, lit<}
use lib.ListN.{get_or, length}
use lib.Seq.{ext_get_or}
use Rattle.bitset.specs.Words.{Fitting}
use Rattle.bitset.specs.Places.{Words}
use Rattle.bitset.proofs.BitLaws.{bit_le, same_word}
use Rattle.settings.specs.declared.settings.Settings.{Settings}
use Rattle.state.specs.Plain.{Ehci}
use Rattle.words.specs.declared.cores.Rest.{Rest}
use Rattle.words.specs.Good.{Held, Tidy}
use Rattle.words.specs.Record.{boundary_in, cancel_in, direction_in, id_in, kind_in, last_at, last_of, length_in, part_at, phase_in, request_in, size_in, slot_in, toggle_in, word_at, word_of}
use Rattle.words.specs.View.{holds_bit, owner_from, state_of}
use Rattle.words.proofs.EachLaws.{each_equal}
use Rattle.words.proofs.PickLaws.{place_bit}
use Rattle.words.proofs.RecordLaws.{last_back, last_back_own, word_back}
use Rattle.words.proofs.SumLaws.{holds_bit_lem, holds_le}
use Rattle.words.proofs.OwnerLaws.{free_owner, held_owner, outside_free, owner_held, owner_unowned}

-- what the types of the code say of the words
pub record Typed (r : Rest) (ws : List ℕ) : Type 0 where
  pub four : length r.free ≡ 4
  pub free_fits : Words r.free
  pub row_fits : Fitting ws

fit_at : (ws : List ℕ) → Fitting ws → (i : ℕ) → get_or ws i 0 < 2 ^ 64
fit_at [] f i = lit< tt
fit_at (w ∷ ws) f zero = f.0
fit_at (w ∷ ws) f (suc i) = fit_at ws f.1 i

word_fits : (w : List ℕ) → Words w → (j : ℕ) → j < 4 → get_or w j 0 < 2 ^ 64
word_fits w f zero h = f.first
word_fits w f (suc zero) h = f.second
word_fits w f (suc (suc zero)) h = f.third
word_fits w f (suc (suc (suc zero))) h = f.fourth
word_fits w f (suc (suc (suc (suc j)))) h = absurd (omega arith)

-- a slot's last id is the one that its slot has
held_last : (ws : List ℕ) (k : ℕ) → Held ws k → last_of (slot_in (word_at ws k) (last_at ws k)) ≡ last_at ws k
held_last ws k h = go (leb 2 (phase_in (word_at ws k))) refl (eqb (phase_in (word_at ws k)) 0) refl
  where
    go : (b : Bool) → leb 2 (phase_in (word_at ws k)) ≡ b → (c : Bool) → eqb (phase_in (word_at ws k)) 0 ≡ c
        → last_of (slot_in (word_at ws k) (last_at ws k)) ≡ last_at ws k
    go true p c q = last_back_own (word_at ws k) (last_at ws k) (leb-true 2 (phase_in (word_at ws k)) p)
    go false p true q =
        last_back (word_at ws k) (last_at ws k) (λ z. omega (arith, z, h.closed (eqb-true (phase_in (word_at ws k)) 0 q)))
    go false p false q =
        last_back (word_at ws k) (last_at ws k)
        (h.idle (omega (arith, leb-false 2 (phase_in (word_at ws k)) p, eqb-false (phase_in (word_at ws k)) 0 q)))

-- two numbers below 2 are the same where each is 1 where the other is
both_ways : (a b : ℕ) → a ≤ 1 → b ≤ 1 → (a ≡ 1 → b ≡ 1) → (b ≡ 1 → a ≡ 1) → a ≡ b
both_ways a b ha hb f g = go (eqb a 1) refl (eqb b 1) refl
  where
    go : (p : Bool) → eqb a 1 ≡ p → (q : Bool) → eqb b 1 ≡ q → a ≡ b
    go true p q z = omega (arith, eqb-true a 1 p, f (eqb-true a 1 p))
    go false p true z = omega (arith, eqb-true b 1 z, g (eqb-true b 1 z))
    go false p false z = omega (arith, eqb-false a 1 p, eqb-false b 1 z)

-- a rest is its fields
rest_same : (u v : Rest) → u.running ≡ v.running → u.step ≡ v.step → u.address ≡ v.address → u.enabled ≡ v.enabled → u.noted ≡ v.noted → u.doorbell ≡ v.doorbell → u.unanswered ≡ v.unanswered → u.pending ≡ v.pending → u.masked ≡ v.masked → u.waited ≡ v.waited → u.free ≡ v.free → u ≡ v
rest_same u v a b c d e f g h i j k = whole
  where
    whole : ◌≡◌ {A = Rest} (record { running = u.running; step = u.step; address = u.address; enabled = u.enabled; noted = u.noted; doorbell = u.doorbell; unanswered = u.unanswered; pending = u.pending; masked = u.masked; waited = u.waited; free = u.free })
        (record { running = v.running; step = v.step; address = v.address; enabled = v.enabled; noted = v.noted; doorbell = v.doorbell; unanswered = v.unanswered; pending = v.pending; masked = v.masked; waited = v.waited; free = v.free })
    whole = rw (a, b, c, d, e, f, g, h, i, j, k)

module _ (s : Settings) (slots : s.endpoints ≤ 32) (r r' : Rest) (ws ws' : List ℕ) (e : state_of s r ws ≡ state_of s r' ws') where
  owners_equal : (i : ℕ) → i < 256 → owner_from 0 32 ws i ≡ owner_from 0 32 ws' i
  unfolding state_of
  owners_equal i h = each_equal (owner_from 0 32 ws) (owner_from 0 32 ws') 256 i (ap (λ (v : Ehci). v.owner) e) h

  module _ (k : ℕ) (h : k < 32) where
    slots_equal : slot_in (word_at ws k) (last_at ws k) ≡ slot_in (word_at ws' k) (last_at ws' k)
    unfolding state_of slot_in
    slots_equal =
        rw (
          each_equal (λ k. request_in (phase_in (word_at ws k)) (last_at ws k)) (λ k. request_in (phase_in (word_at ws' k)) (last_at ws' k)) 32 k (ap (λ (v : Ehci). v.requests) e) h,
          each_equal (λ k. phase_in (word_at ws k)) (λ k. phase_in (word_at ws' k)) 32 k (ap (λ (v : Ehci). v.phases) e) h,
          each_equal (λ k. kind_in (word_at ws k)) (λ k. kind_in (word_at ws' k)) 32 k (ap (λ (v : Ehci). v.kinds) e) h,
          each_equal (λ k. size_in (word_at ws k)) (λ k. size_in (word_at ws' k)) 32 k (ap (λ (v : Ehci). v.sizes) e) h,
          each_equal (λ k. toggle_in (word_at ws k)) (λ k. toggle_in (word_at ws' k)) 32 k (ap (λ (v : Ehci). v.toggles) e) h,
          each_equal (λ k. id_in (last_at ws k)) (λ k. id_in (last_at ws' k)) 32 k (ap (λ (v : Ehci). v.ids) e) h,
          each_equal (λ k. direction_in (word_at ws k)) (λ k. direction_in (word_at ws' k)) 32 k (ap (λ (v : Ehci). v.directions) e) h,
          each_equal (λ k. length_in (word_at ws k)) (λ k. length_in (word_at ws' k)) 32 k (ap (λ (v : Ehci). v.lengths) e) h,
          each_equal (λ k. cancel_in (word_at ws k)) (λ k. cancel_in (word_at ws' k)) 32 k (ap (λ (v : Ehci). v.cancels) e) h,
          each_equal (λ k. boundary_in (word_at ws k)) (λ k. boundary_in (word_at ws' k)) 32 k (ap (λ (v : Ehci). v.boundaries) e) h,
        )

    words_equal : word_at ws k ≡ word_at ws' k
    words_equal = sym (word_back (word_at ws k) (last_at ws k)) ∙ ap word_of slots_equal ∙ word_back (word_at ws' k) (last_at ws' k)

    lasts_equal : Held ws k → Held ws' k → last_at ws k ≡ last_at ws' k
    lasts_equal a b = sym (held_last ws k a) ∙ ap last_of slots_equal ∙ held_last ws' k b

  module _ (t : Tidy s r ws) (t' : Tidy s r' ws') where
    holds_equal : (k i : ℕ) → i < 256 → holds_bit ws k i ≡ holds_bit ws' k i
    holds_equal k i h =
        both_ways (holds_bit ws k i) (holds_bit ws' k i) (holds_le ws i k) (holds_le ws' i k)
        (λ q. (owner_held s r' ws' t' i h slots k (sym (owners_equal i h) ∙ held_owner s r ws t i h slots k q)).1)
        (λ q. (owner_held s r ws t i h slots k (owners_equal i h ∙ held_owner s r' ws' t' i h slots k q)).1)

    free_equal : (i : ℕ) → i < 256 → place_bit r.free i ≡ place_bit r'.free i
    free_equal i h =
        both_ways (place_bit r.free i) (place_bit r'.free i) (bit_le (get_or r.free (i / 64) 0) (i % 64)) (bit_le (get_or r'.free (i / 64) 0) (i % 64))
        (λ q. one r r' ws ws' t t' (owners_equal i h) q (leb s.descriptors i) refl)
        (λ q. one r' r ws' ws t' t (sym (owners_equal i h)) q (leb s.descriptors i) refl)
      where
        one : (u v : Rest) (us vs : List ℕ) → Tidy s u us → Tidy s v vs → owner_from 0 32 us i ≡ owner_from 0 32 vs i → place_bit u.free i ≡ 1
            → (b : Bool) → leb s.descriptors i ≡ b → place_bit v.free i ≡ 1
        one u v us vs tu tv o q true d = absurd (omega (arith, q, outside_free s u us tu i h (leb-true s.descriptors i d)))
        one u v us vs tu tv o q false d =
            owner_unowned s v vs tv i h slots (leb-false s.descriptors i d) (sym o ∙ free_owner s u us tu i h slots q)

    module _ (w : Typed r ws) (w' : Typed r' ws') where
      parts_equal : (k j : ℕ) → j < 4 → part_at ws k j ≡ part_at ws' k j
      parts_equal k j h =
          same_word 64 (part_at ws k j) (part_at ws' k j) (fit_at ws w.row_fits (6 * k + (2 + j))) (fit_at ws' w'.row_fits (6 * k + (2 + j)))
          (λ i b.
          let q : (64 * j + i) / 64 ≡ j = omega (arith, b) in
          let p : (64 * j + i) % 64 ≡ i = omega (arith, b) in
          rw (q, p) at (sym (holds_bit_lem ws (64 * j + i) k) ∙ holds_equal k (64 * j + i) (omega (arith, b)) ∙ holds_bit_lem ws' (64 * j + i) k))

      frees_equal : r.free ≡ r'.free
      frees_equal = ext_get_or 0 r.free r'.free (w.four ∙ sym w'.four) (λ j h. each j (omega (arith, h, w.four)))
        where
          each : (j : ℕ) → j < 4 → get_or r.free j 0 ≡ get_or r'.free j 0
          each j h =
              same_word 64 (get_or r.free j 0) (get_or r'.free j 0) (word_fits r.free w.free_fits j h) (word_fits r'.free w'.free_fits j h)
              (λ i b.
              let q : (64 * j + i) / 64 ≡ j = omega (arith, b) in
              let p : (64 * j + i) % 64 ≡ i = omega (arith, b) in
              rw (q, p) at (free_equal (64 * j + i) (omega (arith, b))))

      rows_equal : ws ≡ ws'
      rows_equal = ext_get_or 0 ws ws' (t.has_row_length ∙ sym t'.has_row_length) (λ m h. go m (omega (arith, h, t.has_row_length)) (m % 6) refl)
        where
          at : (m q : ℕ) → m ≡ q → get_or ws q 0 ≡ get_or ws' q 0 → get_or ws m 0 ≡ get_or ws' m 0
          at m q z g = rw z g

          go : (m : ℕ) → m < 6 * s.endpoints → (j : ℕ) → m % 6 ≡ j → get_or ws m 0 ≡ get_or ws' m 0
          go m h zero z = at m (6 * (m / 6)) (omega (arith, z)) (words_equal (m / 6) (omega arith))
          go m h (suc zero) z =
              at m (6 * (m / 6) + 1) (omega (arith, z))
              (lasts_equal (m / 6) (omega arith) (t.held (m / 6) (omega arith)) (t'.held (m / 6) (omega arith)))
          go m h (suc (suc j)) z = at m (6 * (m / 6) + (2 + j)) (omega (arith, z)) (parts_equal (m / 6) j (omega (arith, z)))

      rests_equal : r.free ≡ r'.free → r ≡ r'
      unfolding state_of
      rests_equal f =
          rest_same r r' (ap (λ (v : Ehci). v.running) e) (ap (λ (v : Ehci). v.step) e) (ap (λ (v : Ehci). v.address) e) (ap (λ (v : Ehci). v.enabled) e)
          (ap (λ (v : Ehci). v.noted) e) (ap (λ (v : Ehci). v.doorbell) e) (ap (λ (v : Ehci). v.unanswered) e) (ap (λ (v : Ehci). v.pending) e)
          (ap (λ (v : Ehci). v.masked) e) (ap (λ (v : Ehci). v.waited) e) f

      pub view_one : (r ≡ r') × (ws ≡ ws')
      view_one = (rests_equal frees_equal, rows_equal)
