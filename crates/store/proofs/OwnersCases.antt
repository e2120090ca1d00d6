-- The owners of a store's places, by the words that are lent.
use Rattle.std.specs.Prelude.{◌≡◌, ℕ, List, take}
use mathlib.Core.Path.{ap, ◌∙◌}
use Rattle.words.specs.View.{each_from, owner_from, state_of, view}
use Rattle.words.specs.declared.cores.Core.{Core}
use Rattle.store.specs.Tended.{lent_of, slots_lent}

module _ (c : Core) (ws : List ℕ) (k : ℕ) (ek : k ≡ slots_lent c.settings) where
  pub owners_done : (row : List ℕ) → row ≡ each_from (owner_from 0 32 (take k ws)) 0 256 → row ≡ (view c (lent_of c ws)).owner
  unfolding state_of
  owners_done row e = e ∙ ap (λ (m : ℕ). each_from (owner_from 0 32 (take m ws)) 0 256) ek
