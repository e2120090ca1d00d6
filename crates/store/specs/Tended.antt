-- What a store keeps of the words of its slots, of which the first places are lent.
use Rattle.std.specs.Prelude.{◌≡◌, ℕ, ◌*◌, min, true, List, take}
use Rattle.settings.specs.declared.settings.Settings.{Settings}
use Rattle.settings.specs.Settings.{settings_good}
use Rattle.state.specs.Ranges.{in_ranges}
use Rattle.words.specs.declared.cores.Core.{Core}
use Rattle.words.specs.Good.{Tidy}
use Rattle.words.specs.View.{view}

-- how many words of the slots are lent: six a slot, and never more than there are
abbrev pub slots_lent : Settings → ℕ
slots_lent s = min (6 * s.endpoints) 192

abbrev pub lent_of : Core → List ℕ → List ℕ
lent_of core slots = take (slots_lent core.settings) slots

-- where the state that the words stand for is in its ranges they are tidy: no call is refused for the words alone
abbrev pub WordsTended : Core → List ℕ → Type 0
WordsTended core slots = in_ranges (view core (lent_of core slots)) ≡ true → Tidy core.settings core.rest (lent_of core slots)

-- a controller was opened
pub record WordsOpened (core : Core) (slots : List ℕ) : Type 0 where
  pub settings_are_good : settings_good core.settings ≡ true
  pub tidy : Tidy core.settings core.rest (lent_of core slots)
