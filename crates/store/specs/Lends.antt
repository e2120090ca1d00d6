-- What is left where the first d records, k words of the slots, h words of the heads, all the entries and the first u bytes are lent: the lent
-- parts as the call or the opening leaves them, and after each the rest of its row.
use Rattle.std.specs.Prelude.{ℕ, ◌++◌, length, take, drop}
use Rattle.settings.specs.declared.settings.Settings.{Settings}
use Rattle.words.specs.declared.cores.Core.{Core}
use Rattle.words.specs.View.{state_of}
use Rattle.opening.specs.declared.open.Opening.{Opening}
use Rattle.opening.specs.Words.{open_words, opened_rows}
use Rattle.opening.specs.Words as opening
use Rattle.ehci.specs.declared.call.Call.{Call}
use Rattle.ehci.specs.declared.reply.Reply.{Reply}
use Rattle.ehci.specs.WordsDoor.{WordsAfter, accepts_words, apply_words}
use Rattle.store.specs.declared.rows.Rows.{Rows}
use Rattle.store.specs.Plain as plain
use Rattle.store.specs.Stores.{called_after}

-- ---- an opening

-- all but the words
abbrev pub rows_left : Opening → Rows → opening.OpenedRows
rows_left o r = opened_rows o r.pool r.heads r.frames r.setups

abbrev pub whole_rows : opening.OpenedRows → Rows → ℕ → ℕ → ℕ → opening.OpenedRows
whole_rows o r d h u =
    record {
      answer = o.answer;
      hub = o.hub;
      pool = o.pool ++ drop d r.pool;
      heads = o.heads ++ drop h r.heads;
      frames = o.frames;
      setups = o.setups ++ drop u r.setups;
    }

unfoldable pub open_lent : Settings → Rows → ℕ → ℕ → ℕ → ℕ → opening.OpenedRows
open_lent s r d k h u =
    whole_rows (open_words s (take d r.pool) (take k r.slots) (take h r.heads) r.frames (take u r.setups)) r d h u

-- ---- a call

-- what the first k words of the slots stand for
abbrev pub called_at : ℕ → Core → Reply → Rows → plain.Called
called_at k core o r =
    record {
      store = record {
        state = state_of core.settings o.rest (take k r.slots);
        pool = r.pool;
        heads = r.heads;
        frames = r.frames;
        setups = r.setups;
      };
      answer = o.answer;
      writes = o.writes;
    }

unfoldable pub call_lent : Core → Rows → ℕ → ℕ → ℕ → ℕ → Call → plain.Called
call_lent core r d k h u call =
    called_after (apply_words core (take k r.slots) (take d r.pool) (take h r.heads) r.frames (take u r.setups) call)
    r.pool r.heads r.setups d h u

-- the words of the core and of the slots then
abbrev pub LentCall : Core → Rows → ℕ → ℕ → ℕ → ℕ → Reply → Rows → Type 0
LentCall core r d k h u o rows =
    WordsAfter
    (accepts_words core (take k r.slots) (length (take d r.pool)) (length (take h r.heads)) (length r.frames) (length (take u r.setups)))
    core (take k r.slots) o.rest (take k rows.slots)
