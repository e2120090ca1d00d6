-- What is known of a store by its type: how long the row of slots is, and that every word of it and every free word has 64 bits.
use Rattle.std.specs.Prelude.{◌≡◌, ℕ, zero, suc, ◌^◌, ◌<◌, List, [], ◌∷◌, length, get_or, take}
use lib.Dec.{lit<}
use Rattle.bitset.specs.Places.{Words}
use Rattle.store.specs.declared.rows.Store.{Store}

pub record Known (w : Store) : Type 0 where
  pub slots_length : length w.rows.slots ≡ 192
  pub slots_fit : (i : ℕ) → get_or w.rows.slots i 0 < 2 ^ 64
  pub free_fit : (i : ℕ) → get_or w.core.rest.free i 0 < 2 ^ 64

-- a word of a row's first k, also beyond the row
fit_part : (k : ℕ) (ws : List ℕ) → ((i : ℕ) → get_or ws i 0 < 2 ^ 64) → (i : ℕ) → get_or (take k ws) i 0 < 2 ^ 64
fit_part zero ws f i = lit< tt
fit_part (suc k) [] f i = lit< tt
fit_part (suc k) (w ∷ ws) f zero = f 0
fit_part (suc k) (w ∷ ws) f (suc i) = fit_part k ws (λ j. f (suc j)) i

module _ (w : Store) (known : Known w) where
  -- of the words that are lent
  pub slots_fit_lem : (k i : ℕ) → get_or (take k w.rows.slots) i 0 < 2 ^ 64
  slots_fit_lem k = fit_part k w.rows.slots known.slots_fit

  pub free_fits : Words w.core.rest.free
  free_fits =
      record {
        first = known.free_fit 0;
        second = known.free_fit 1;
        third = known.free_fit 2;
        fourth = known.free_fit 3;
      }
