-- A good state in words is accepted with every row that has the length that opening fixed.
use Rattle.std.specs.Prelude.{◌≡◌, ℕ, ◌+◌, ◌*◌, true, List}
use mathlib.Core.Path.{refl, sym}
use Rattle.settings.specs.declared.settings.Settings.{Settings}
use Rattle.settings.specs.Settings.{pool_length}
use Rattle.opening.specs.Opening.{rows_are_fit}
use Rattle.opening.proofs.OpenLaws.{rows_make}
use Rattle.words.specs.declared.cores.Rest.{Rest}
use Rattle.words.specs.Good.{Good}
use Rattle.words.specs.View.{state_of}
use Rattle.controller.specs.Lent.{accepts_of, lengths}
use Rattle.controller.proofs.LentLaws.{accepts_is}

pub accepts_viewed : (s : Settings) (r : Rest) (ws : List ℕ) → Good s r ws → (pool heads frames setups : ℕ)
    → rows_are_fit s pool heads frames setups ≡ true → accepts_of (state_of s r ws) (lengths pool heads frames setups) ≡ true
unfolding state_of
accepts_viewed s r ws good pool heads frames setups e =
    sym (accepts_is (state_of s r ws) (lengths pool heads frames setups) true true (sym e) (sym good.ranges))

-- the lengths of the rows that a call is not lent
pub rows_fixed : (s : Settings) (heads : ℕ) → heads ≡ 17 * (s.endpoints + 1)
    → rows_are_fit s (pool_length s) heads 1024 (8 * s.endpoints) ≡ true
rows_fixed s heads e =
    rows_make s (pool_length s) heads 1024 (8 * s.endpoints)
    (record { pool_fits_lem = refl; heads_fit = e; frames_fit = refl; setups_fit = refl })
