-- What a block shows of a state in words is what it shows of the state that they stand for.
use Rattle.std.specs.Prelude.{◌≡◌, ℕ, Bool, true, false, List}
use mathlib.Core.Path.{refl, ap}
use Rattle.controller.proofs.WordsLaws.{free_viewed}
use Rattle.register.specs.declared.writes.Writes.{Writes}
use Rattle.settings.proofs.SettingsLaws.{good_tells}
use Rattle.words.specs.declared.cores.Core.{Core}
use Rattle.words.specs.View.{state_of, view}
use Rattle.call_log.specs.declared.block.Rows.{Rows}
use Rattle.call_log.specs.declared.lines.Seen.{Seen}
use Rattle.call_log.specs.Block.{block_of, rest_lines}
use Rattle.call_log.specs.Lines.{shown_of}
use Rattle.call_log.specs.Words.{Shows, block_shown, rest_shown, shown_in}

module _ (c : Core) (ws : List ℕ) where
  abbrev with_free : ℕ → Seen
  with_free n =
      record {
        running = c.rest.running;
        flag = c.rest.enabled;
        doorbell = c.rest.doorbell;
        note = c.rest.noted;
        unanswered = c.rest.unanswered;
        pending = c.rest.pending;
        masked = c.rest.masked;
        free = n;
        address = c.rest.address;
      }

  pub shown_viewed : Shows c ws → shown_in c ≡ shown_of (view c ws)
  unfolding shown_in shown_of state_of
  shown_viewed s =
      let g = good_tells c.settings s.settings_are_good in
      ap with_free (free_viewed c.settings c.rest ws s.tidy g.descriptors_most g.endpoints_most)

  pub block_viewed : (first : List ℕ) (opening : Bool) (b a : Rows) (opened : Bool) (w : Writes) → (opened ≡ true → Shows c ws)
      → block_shown first opening b a opened c.settings.ports (shown_in c) w ≡ block_of first opening b a opened (view c ws) w
  unfolding block_shown block_of rest_shown rest_lines state_of
  block_viewed first opening b a true w s = rw (shown_viewed (s refl))
  block_viewed first opening b a false w s = refl
