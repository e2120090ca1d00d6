-- What a block shows of a state in words: the numbers of the core, and of the free places how many there are.
use Rattle.std.specs.Prelude.{◌≡◌, ℕ, Bool, true, List, [], ◌∷◌, ◌++◌, length}
use Rattle.bitset.specs.Places.{set_places}
use Rattle.register.specs.declared.writes.Writes.{Writes}
use Rattle.settings.specs.Settings.{settings_good}
use Rattle.text.specs.Text.{only_if}
use Rattle.words.specs.declared.cores.Core.{Core}
use Rattle.words.specs.Good.{Tidy}
use Rattle.call_log.specs.declared.block.Rows.{Rows}
use Rattle.call_log.specs.declared.lines.Seen.{Seen}
use Rattle.call_log.specs.Block.{rows_lines}
use Rattle.call_log.specs.Changes.{port_lines, write_lines}
use Rattle.call_log.specs.Lines.{shown_line}

unfoldable pub shown_in : Core → Seen
shown_in c =
    record {
      running = c.rest.running;
      flag = c.rest.enabled;
      doorbell = c.rest.doorbell;
      note = c.rest.noted;
      unanswered = c.rest.unanswered;
      pending = c.rest.pending;
      masked = c.rest.masked;
      free = length (set_places c.rest.free);
      address = c.rest.address;
    }

-- of these words it is what is shown of the state that they stand for
pub record Shows (core : Core) (ws : List ℕ) : Type 0 where
  pub settings_are_good : settings_good core.settings ≡ true
  pub tidy : Tidy core.settings core.rest ws

-- ---- the lines, by what is shown

unfoldable pub rest_shown : Bool → Seen → Writes → List ℕ
rest_shown opened x writes = only_if opened (shown_line x) ++ (write_lines writes ++ (46 ∷ 10 ∷ []))

unfoldable pub block_shown : List ℕ → Bool → Rows → Rows → Bool → ℕ → Seen → Writes → List ℕ
block_shown first opening before after opened ports x writes =
    first ++ (rows_lines before after ++ (port_lines opening ports before.ports after.ports ++ rest_shown opened x writes))
