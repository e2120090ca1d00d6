-- The ranges of a state in words: those of the state that it stands for; and the places are shared out, each in one slot or free.
use Rattle.std.specs.Prelude.{ℕ, zero, suc, ◌+◌, ◌-◌, ◌*◌, ◌^◌, ◌<◌, ◌≡◌, ◌≢◌, true, List, [], ◌∷◌, get_or, length}
use Rattle.bitset.specs.Judge.{sum_bit}
use Rattle.bitset.specs.Words.{bit}
use Rattle.bitset.specs.Places.{all_below}
use Rattle.settings.specs.declared.settings.Settings.{Settings}
use Rattle.state.specs.Ranges.{in_ranges}
use Rattle.words.specs.declared.cores.Rest.{Rest}
use Rattle.words.specs.Record.{last_at, part_at, phase_in, places_at, word_at}
use Rattle.words.specs.View.{state_of}

-- word j of the places of n slots, from slot k on
unfoldable pub column : List ℕ → ℕ → ℕ → ℕ → List ℕ
column ws j k zero = []
column ws j k (suc n) = part_at ws k j ∷ column ws j (suc k) n

abbrev pub no_places : List ℕ
no_places = 0 ∷ 0 ∷ 0 ∷ 0 ∷ []

-- what slot k keeps besides its first word: nothing where it is closed; where it is idle no place, and as its last id not 2^64 − 1, which 1
-- follows as it follows 0. That a request has its id the ranges say
pub record Held (ws : List ℕ) (k : ℕ) : Type 0 where
  pub closed : phase_in (word_at ws k) ≡ 0 → last_at ws k ≡ 0
  pub idle : phase_in (word_at ws k) ≡ 1 → last_at ws k ≢ 2 ^ 64 - 1
  pub empty : phase_in (word_at ws k) < 2 → places_at ws k ≡ no_places

-- the row has six words a slot, and each of the pool's places is in exactly one slot or free
pub record Tidy (s : Settings) (r : Rest) (ws : List ℕ) : Type 0 where
  pub has_row_length : length ws ≡ 6 * s.endpoints
  pub held : (k : ℕ) → k < s.endpoints → Held ws k
  pub shared_out : (j i : ℕ) → j < 4 → i < 64
      → bit (get_or r.free j 0) i + sum_bit i (column ws j 0 s.endpoints) ≡ bit (get_or (all_below s.descriptors) j 0) i

pub record Good (s : Settings) (r : Rest) (ws : List ℕ) : Type 0 where
  pub tidy : Tidy s r ws
  pub ranges : in_ranges (state_of s r ws) ≡ true
