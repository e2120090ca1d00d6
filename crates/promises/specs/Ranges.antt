-- Ranges, over any calls: statements of any machine.
use Rattle.std.specs.Prelude.{true, [], ◌⊎◌, ◌≡◌, length}
use Rattle.settings.specs.declared.settings.Settings.{Settings}
use Rattle.controller.specs.Lent.{accepts_of, lengths}
use Rattle.promises.specs.Runs.{Always, History, Moment, Promise}
use Rattle.promises.specs.Uses.{uses}

-- the state is in its ranges and has the settings of the opening, and every row has the length that opening fixed;
-- no call is refused for them, in whatever form the state is held
pub record InRanges (s : Settings) (h : History) (w : Moment) : Type 0 where
  pub settings_stay : w.view.settings ≡ s
  pub accepted : accepts_of w.view (lengths (length w.rows.pool) (length w.rows.heads) (length w.rows.frames) (length w.rows.setups)) ≡ true
  pub is_let_in : w.fits ≡ true

abbrev pub RangesKept : Promise
RangesKept = Always InRanges

-- a request is uncollected only while the controller runs
abbrev pub RunsWhileHeld : Promise
RunsWhileHeld = Always (λ s h w. (uses s h ≡ []) ⊎ (w.view.running ≡ 1))
