-- The free descriptors of a state and the free places of the pool are the same.
use Rattle.std.specs.Prelude.{◌≡◌, ℕ, zero, suc, ◌+◌, ◌≤◌, min, Bool, true, false, eqb, List, [], ◌∷◌, length, take, replicate}
use mathlib.Core.Path.{refl, ap, ◌∙◌}
use native.Mathlib.Omega.{arith}
use Rattle.pool.specs.Places.{bit_of, count_of, places_from}
use Rattle.pool.proofs.PlaceLaws.{places_length}
use Rattle.settings.specs.Settings.{settings_good}
use Rattle.settings.specs.declared.settings.Settings.{Settings}
use Rattle.settings.proofs.SettingsLaws.{good_tells}
use Rattle.state.specs.Plain.{Ehci}
use Rattle.pipe.specs.Endpoints.{flag_number}
use Rattle.opening.specs.Opening.{fresh_state}
use Rattle.controller.specs.Readers.{count_zero, free_count}

pub zeros_are : (l : List ℕ) → count_of 0 l ≡ count_zero l
unfolding count_of count_zero
zeros_are [] = refl
zeros_are (x ∷ l) = go (eqb x 0) (zeros_are l)
  where
    go : (b : Bool) → count_of 0 l ≡ count_zero l → bit_of b + count_of 0 l ≡ flag_number b + count_zero l
    go true e = ap (λ (n : ℕ). 1 + n) e
    go false e = ap (λ (n : ℕ). 0 + n) e

-- as many places are found free as there are, at most n
pub free_places : (s : Ehci) (n : ℕ) → length (places_from 0 (take s.settings.descriptors s.owner) 0 n) ≡ min n (free_count s)
unfolding free_count
free_places s n =
    places_length 0 (take s.settings.descriptors s.owner) 0 n ∙ ap (λ (m : ℕ). min n m) (zeros_are (take s.settings.descriptors s.owner))

-- ---- a fresh state

abbrev zeros : ℕ → List ℕ
zeros n = replicate n 0

take_zeros : (n m : ℕ) → n ≤ m → take n (zeros m) ≡ zeros n
take_zeros zero m h = refl
take_zeros (suc n) zero h = absurd (omega arith)
take_zeros (suc n) (suc m) h = ap (λ (l : List ℕ). 0 ∷ l) (take_zeros n m (omega arith))

count_zeros : (n : ℕ) → count_zero (zeros n) ≡ n
unfolding count_zero
count_zeros zero = refl
count_zeros (suc n) = omega (arith, count_zeros n)

pub fresh_free : (s : Settings) → settings_good s ≡ true → free_count (fresh_state s) ≡ s.descriptors
unfolding free_count fresh_state
fresh_free s e = rw (take_zeros s.descriptors 256 (good_tells s e).descriptors_most) (count_zeros s.descriptors)
