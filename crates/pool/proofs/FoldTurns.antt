-- A request's records are seen a word of places at a time: a turn of the loop over one word, and the four words together.
use Prim.Native.Nat.{ℕ, zero, suc, ◌+◌, ◌-◌, ◌*◌, ◌≤◌, ◌<◌, ◌^◌}
use mathlib.Core.Path.{◌≡◌, refl, sym, ap, subst, ◌∙◌}
use mathlib.Core.Bool.{Bool, true, false, not, ◌&&◌}
use mathlib.Core.List.{List, [], ◌∷◌, ◌++◌, append-nil}
use native.Mathlib.Numerals.{add-one}
use native.Mathlib.Omega.{arith}
use borrow.Author.Tests.{eqb-false, eqb-true}
use lib.Bits.{bit_and}
use lib.Count.{count_trailing_zeros}
use lib.Dec.{T, eqb}
use lib.ListN.{get_or, length}
use Rattle.bitset.specs.Places.{Within, set_places}
use Rattle.bitset.specs.Words.{places_of}
use Rattle.bitset.proofs.PlaceLaws.{places_lowest, places_zero}
use Rattle.descriptor.specs.declared.qtd.QueueTransferDescriptor.{QueueTransferDescriptor}
use Rattle.pool.specs.declared.asked.AskWords.{AskWords}
use Rattle.pool.specs.declared.asked.Folded.{Folded}
use Rattle.pool.specs.declared.chain.View.{View}
use Rattle.pool.specs.Transfers.{requested_at}
use Rattle.pool.specs.Chains.{Seen, blank, is_short, joined, read_of, seen_from, view_of}
use Rattle.pool.specs.Words.{AskWordsGood, Sees, WordGood, left_if, read_on, seen_next, word_places}
use Rattle.pool.proofs.Turns.{join_none, join_step, more_bounded, none_bounded, seen_start}
use Rattle.pool.proofs.WordTurns.{word_few}

pub some_left : (x : ℕ) → T (not (eqb x 0)) → 1 ≤ x
some_left x h = go (eqb x 0) refl h
  where
    go : (b : Bool) → eqb x 0 ≡ b → T (not b) → 1 ≤ x
    go true e t = absurd t
    go false e t = omega (arith, eqb-false x 0 e)

pub none_left : (x : ℕ) → T (not (not (eqb x 0))) → x ≡ 0
none_left x h = go (eqb x 0) refl h
  where
    go : (b : Bool) → eqb x 0 ≡ b → T (not (not b)) → x ≡ 0
    go true e t = eqb-true x 0 e
    go false e t = absurd t

-- ---- one word

module _ (n : ℕ) (a : AskWords) (ys : List QueueTransferDescriptor) (j : ℕ) (s : Folded) where
  abbrev pub left_of : ℕ → List ℕ
  left_of left = places_of (64 * j) 64 left

  abbrev seen_at : ℕ → List ℕ → List Seen
  seen_at k qs = seen_from a.kind a.length a.limit k qs ys

  -- everything that is seen at last, whatever places follow
  abbrev from_here : Folded → List ℕ → View
  from_here u qs = joined u.view (view_of (read_on u.ended a.stops (seen_at u.k qs)))

  -- what a turn begins with: the places of `left` are still to be seen, and what is seen so far is u
  pub record Seeing (left : ℕ) (u : Folded) : Type 0 where
    pub within : Within n (left_of left)
    pub so_many : u.k + length (left_of left) ≤ s.k + length (word_places a j)
    pub in_bounds : (u.view.moved ≤ u.k * 2 ^ 32) × (u.view.retried ≤ u.k)
    pub goes_on : 1 ≤ left → u.ended ≡ false
    pub whole : (qs : List ℕ) → from_here u (left_of left ++ qs) ≡ from_here s (word_places a j ++ qs)

  -- once it has ended, no place that follows is seen
  closed : (u : Folded) → u.ended ≡ true → (xs zs : List ℕ) → from_here u xs ≡ from_here u zs
  closed u e xs zs =
      ap (λ (b : Bool). joined u.view (view_of (read_on b a.stops (seen_at u.k xs)))) e
      ∙ sym (ap (λ (b : Bool). joined u.view (view_of (read_on b a.stops (seen_at u.k zs)))) e)

  none_of : (left : ℕ) → left ≡ 0 → left_of left ≡ []
  none_of left z = ap left_of z ∙ places_zero (64 * j) 64

  none_on : (left : ℕ) (u : Folded) → left ≡ 0 → 1 ≤ left → u.ended ≡ false
  none_on left u z h = absurd (omega (arith, z, h))

  module _ (good : WordGood n a j s) where
    pub seeing_start : (left : ℕ) → left ≡ left_if s.ended (get_or a.places j 0) → Seeing left s
    seeing_start left e = go s.ended refl e
      where
        go : (b : Bool) → s.ended ≡ b → left ≡ left_if b (get_or a.places j 0) → Seeing left s
        go true over z =
            record {
              within = subst (λ (l : List ℕ). Within n l) (sym (none_of left z)) tt;
              so_many = omega (arith, ap length (none_of left z));
              in_bounds = good.in_bounds;
              goes_on = none_on left s z;
              whole = λ qs. closed s over (left_of left ++ qs) (word_places a j ++ qs);
            }
        go false on e =
            subst (λ (x : ℕ). Seeing x s) (sym e)
            (record { within = good.within; so_many = omega arith; in_bounds = good.in_bounds; goes_on = λ h. on; whole = λ qs. refl })

    module _ (left : ℕ) (u : Folded) (seeing : Seeing left u) where
      pub seeing_done : left ≡ 0 → Sees a ys (word_places a j) s u
      seeing_done z =
          let none : left_of left ≡ [] = none_of left z in
          record {
            so_many = omega (arith, seeing.so_many, ap length none);
            in_bounds = seeing.in_bounds;
            whole = λ qs. ap (λ (l : List ℕ). from_here u (l ++ qs)) (sym none) ∙ seeing.whole qs;
          }

      module _ (fits : left < 2 ^ 64) (some : 1 ≤ left) where
        abbrev after : ℕ
        after = bit_and left (left - 1)

        left_is : (p : ℕ) → p ≡ 64 * j + count_trailing_zeros 64 left → left_of left ≡ p ∷ left_of after
        left_is p ep = places_lowest (64 * j) 64 left fits some ∙ ap (λ (q : ℕ). q ∷ left_of after) (sym ep)

        pub seeing_below : u.k < 256
        seeing_below =
            omega (
              arith,
              seeing.so_many,
              good.so_far,
              good.one_of_four,
              word_few (64 * j) 64 (get_or a.places j 0),
              ap length (left_is (64 * j + count_trailing_zeros 64 left) refl),
            )

        pub seeing_in : (p : ℕ) → p ≡ 64 * j + count_trailing_zeros 64 left → p < n
        seeing_in p ep =
            let both : Within n (p ∷ left_of after) = subst (λ (l : List ℕ). Within n l) (left_is p ep) seeing.within in
            both.0

        module _ (p rest w : ℕ) (v : Folded) (ep : p ≡ 64 * j + count_trailing_zeros 64 left) (ew : w ≡ (get_or ys p blank).token) (ev : v ≡ seen_next u a w) (er : rest ≡ left_if v.ended after) where
          -- what is left of the word: nothing, or the places after this one
          pub record Rests : Type 0 where
            pub within : Within n (left_of rest)
            pub no_more : length (left_of rest) ≤ length (left_of after)
            pub goes_on : 1 ≤ rest → v.ended ≡ false
            pub same : (qs : List ℕ) → from_here v (left_of rest ++ qs) ≡ from_here v (left_of after ++ qs)

          rests : Rests
          rests = go v.ended refl er
            where
              go : (b : Bool) → v.ended ≡ b → rest ≡ left_if b after → Rests
              go true over z =
                  record {
                    within = subst (λ (l : List ℕ). Within n l) (sym (none_of rest z)) tt;
                    no_more = omega (arith, ap length (none_of rest z));
                    goes_on = none_on rest v z;
                    same = λ qs. closed v over (left_of rest ++ qs) (left_of after ++ qs);
                  }
              go false on e =
                  let both : Within n (p ∷ left_of after) = subst (λ (l : List ℕ). Within n l) (left_is p ep) seeing.within in
                  record {
                    within = subst (λ (x : ℕ). Within n (left_of x)) (sym e) both.1;
                    no_more = omega (arith, ap (λ (x : ℕ). length (left_of x)) e);
                    goes_on = λ h. on;
                    same = λ qs. ap (λ (x : ℕ). from_here v (left_of x ++ qs)) e;
                  }

          pub left_fewer : length (left_of rest) < length (left_of left)
          left_fewer = omega (arith, ap length (left_is p ep), rests.no_more)

          more_whole : (qs : List ℕ) → from_here v (left_of after ++ qs) ≡ from_here u (left_of left ++ qs)
          unfolding seen_from read_of
          more_whole qs =
              let more : List ℕ = left_of after ++ qs in
              let over : Bool = a.stops && is_short w in
              let here : Seen = record { requested = requested_at a.kind a.length a.limit u.k; token = w } in
              ap (λ (z : Folded). from_here z more) ev
              ∙ ap (λ (k : ℕ). joined (seen_next u a w).view (view_of (read_on over a.stops (seen_at k more)))) (add-one u.k)
              ∙ join_step u.view here (read_on over a.stops (seen_at (suc u.k) more))
              ∙ ap (λ (x : ℕ). joined u.view (view_of (read_of a.stops (record { requested = requested_at a.kind a.length a.limit u.k; token = x } ∷ seen_at (suc u.k) more)))) ew
              ∙ ap (λ (b : Bool). joined u.view (view_of (read_on b a.stops (seen_at u.k (p ∷ more))))) (sym (seeing.goes_on some))
              ∙ ap (λ (l : List ℕ). from_here u (l ++ qs)) (sym (left_is p ep))

          pub seeing_more : Seeing rest v
          seeing_more =
              let next : v.k ≡ u.k + 1 = ap (λ (z : Folded). z.k) ev in
              record {
                within = rests.within;
                so_many = omega (arith, seeing.so_many, next, ap length (left_is p ep), rests.no_more);
                in_bounds = subst (λ (k : ℕ). (v.view.moved ≤ k * 2 ^ 32) × (v.view.retried ≤ k)) (sym next)
                    (more_bounded a.kind a.length a.limit u.k w u.view v.view (ap (λ (z : Folded). z.view) ev) good.short good.limited seeing.in_bounds);
                goes_on = rests.goes_on;
                whole = λ qs. rests.same qs ∙ more_whole qs ∙ seeing.whole qs;
              }

-- ---- the four words

none_read : (ended stops : Bool) → [] ≡ read_on ended stops []
unfolding read_of
none_read true stops = refl
none_read false stops = refl

split_in : (n : ℕ) (xs ys : List ℕ) → Within n (xs ++ ys) → Within n xs × Within n ys
split_in n [] ys w = (tt, w)
split_in n (x ∷ xs) ys w = let rest : Within n xs × Within n ys = split_in n xs ys w.1 in ((w.0, rest.0), rest.1)

module _ (n : ℕ) (a : AskWords) (ys : List QueueTransferDescriptor) where
  abbrev W : ℕ → List ℕ
  W j = word_places a j

  -- the places of n words, from word j on
  unfoldable pub words_from : ℕ → ℕ → List ℕ
  words_from j zero = []
  words_from j (suc n) = W j ++ words_from (suc j) n

  abbrev whole : View
  whole = view_of (read_of a.stops (seen_from a.kind a.length a.limit 0 (set_places a.places) ys))

  abbrev at : Folded → List ℕ → View
  at z qs = joined z.view (view_of (read_on z.ended a.stops (seen_from a.kind a.length a.limit z.k qs ys)))

  -- what a turn begins with: the words below j are seen, and those from j on make the whole
  pub record SeenTo (j : ℕ) (u : Folded) : Type 0 where
    pub most : j ≤ 4
    pub few : u.k ≤ 64 * j
    pub in_bounds : (u.view.moved ≤ u.k * 2 ^ 32) × (u.view.retried ≤ u.k)
    pub whole_is : at u (words_from j (4 - j)) ≡ whole

  pub to_end : (j : ℕ) (u : Folded) → SeenTo j u → 4 ≤ j → u.view ≡ whole
  unfolding words_from seen_from
  to_end j u so_far h =
      let none : 0 ≡ 4 - j = omega (arith, h) in
      join_none u.view
      ∙ ap (λ (l : List Seen). joined u.view (view_of l)) (none_read u.ended a.stops)
      ∙ ap (λ (m : ℕ). at u (words_from j m)) none
      ∙ so_far.whole_is

  module _ (good : AskWordsGood n a) where
    parts : Within n (W 0) × (Within n (W 1) × (Within n (W 2) × Within n (W 3)))
    unfolding set_places
    parts =
        let a₀ : Within n (W 0) × Within n (W 1 ++ (W 2 ++ W 3)) = split_in n (W 0) (W 1 ++ (W 2 ++ W 3)) good.within in
        let a₁ : Within n (W 1) × Within n (W 2 ++ W 3) = split_in n (W 1) (W 2 ++ W 3) a₀.1 in
        let a₂ : Within n (W 2) × Within n (W 3) = split_in n (W 2) (W 3) a₁.1 in
        (a₀.0, (a₁.0, (a₂.0, a₂.1)))

    word_good_lem : (j : ℕ) (s : Folded) → Within n (W j) → j < 4 → s.k ≤ 64 * j → (s.view.moved ≤ s.k * 2 ^ 32) × (s.view.retried ≤ s.k) → WordGood n a j s
    word_good_lem j s w h k m = record { within = w; short = good.short; limited = good.limited; one_of_four = h; so_far = k; in_bounds = m }

    pub to_start : (u : Folded) → u ≡ record { view = view_of []; k = 0; ended = false } → SeenTo 0 u
    unfolding set_places words_from
    to_start u e =
        let none : u.k ≡ 0 = ap (λ (z : Folded). z.k) e in
        record {
          most = omega arith;
          few = omega (arith, none);
          in_bounds = subst (λ (k : ℕ). (u.view.moved ≤ k * 2 ^ 32) × (u.view.retried ≤ k)) (sym none) (none_bounded u.view (ap (λ (z : Folded). z.view) e));
          whole_is = ap (λ (z : Folded). at z (words_from 0 4)) e
              ∙ seen_start (view_of (read_of a.stops (seen_from a.kind a.length a.limit 0 (words_from 0 4) ys))) (view_of []) refl
              ∙ ap (λ (l : List ℕ). view_of (read_of a.stops (seen_from a.kind a.length a.limit 0 (W 0 ++ (W 1 ++ (W 2 ++ l))) ys))) (append-nil (W 3));
        }

    one_within : (j : ℕ) → j < 4 → Within n (W j)
    one_within zero h = parts.0
    one_within (suc zero) h = parts.1.0
    one_within (suc (suc zero)) h = parts.1.1.0
    one_within (suc (suc (suc zero))) h = parts.1.1.1
    one_within (suc (suc (suc (suc j)))) h = absurd (omega (arith, h))

    module _ (j : ℕ) (u : Folded) (so_far : SeenTo j u) (h : j < 4) where
      pub to_good : WordGood n a j u
      to_good = word_good_lem j u (one_within j h) h so_far.few so_far.in_bounds

      pub to_next : (v : Folded) → Sees a ys (W j) u v → SeenTo (j + 1) v
      unfolding words_from
      to_next v f =
          let left : 4 - j ≡ suc (4 - (j + 1)) = omega (arith, h) in
          let on : words_from (j + 1) (4 - (j + 1)) ≡ words_from (suc j) (4 - (j + 1)) = ap (λ (i : ℕ). words_from i (4 - (j + 1))) (add-one j) in
          record {
            most = omega (arith, h);
            few = omega (arith, f.so_many, so_far.few, word_few (64 * j) 64 (get_or a.places j 0));
            in_bounds = f.in_bounds;
            whole_is = ap (at v) on ∙ f.whole (words_from (suc j) (4 - (j + 1))) ∙ ap (λ (m : ℕ). at u (words_from j m)) (sym left) ∙ so_far.whole_is;
          }
