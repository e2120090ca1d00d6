-- Where parts of the rows are lent: what came back, each before the rest of its row, is what the contract of the owner says.
use Rattle.std.specs.Prelude.{◌≡◌, ℕ, ◌≤◌, List, ◌++◌, length, take, drop}
use mathlib.Core.Path.{sym, ap, subst, ◌∙◌}
use lib.Seq.{take-append_seam}
use lib.Seq.{length-take-le}
use Rattle.descriptor.specs.declared.qtd.QueueTransferDescriptor.{QueueTransferDescriptor as Record}
use Rattle.settings.specs.declared.settings.Settings.{Settings}
use Rattle.words.specs.declared.cores.Core.{Core}
use Rattle.opening.specs.declared.open.Opening.{Opening}
use Rattle.opening.specs.Words.{OpensWords, open_words, opened_rows}
use Rattle.opening.specs.Words as opening
use Rattle.ehci.specs.declared.call.Call.{Call}
use Rattle.ehci.specs.declared.reply.Reply.{Reply}
use Rattle.ehci.specs.Door.{Applied, applied}
use Rattle.ehci.specs.WordsDoor.{WordsAfter, accepts_words, apply_words, reply_view}
use Rattle.store.specs.declared.rows.Rows.{Rows}
use Rattle.store.specs.Stores.{called_after}
use Rattle.store.specs.Lends.{LentCall, called_at, call_lent, open_lent, rows_left, whole_rows}

-- the first k words are those that were lent
lent_words : (ss ws : List ℕ) (k : ℕ) → length ss ≡ 192 → k ≤ 192 → length ws ≡ length (take k ss) → take k (ws ++ drop k ss) ≡ ws
lent_words ss ws k long most same =
    ap (λ (m : ℕ). take m (ws ++ drop k ss)) (sym (same ∙ length-take-le k ss (subst (λ (m : ℕ). k ≤ m) (sym long) most)))
    ∙ take-append_seam ws (drop k ss)

-- the rows then
module _ (r : Rows) (d k h u : ℕ) (wr : List Record) (ws wh wf wu : List ℕ) (long : length r.slots ≡ 192) (most : k ≤ 192)
    (same : length ws ≡ length (take k r.slots)) where
  abbrev pub rows_after : Rows
  rows_after =
      record {
        pool = wr ++ drop d r.pool;
        slots = ws ++ drop k r.slots;
        heads = wh ++ drop h r.heads;
        frames = wf;
        setups = wu ++ drop u r.setups;
      }

  lent_again : take k (ws ++ drop k r.slots) ≡ ws
  lent_again = lent_words r.slots ws k long most same

  module _ (core : Core) (c : Call) (o : Reply)
      (e : applied (reply_view core.settings o ws) wr wh wf wu ≡ apply_words core (take k r.slots) (take d r.pool) (take h r.heads) r.frames (take u r.setups) c)
      (after : WordsAfter (accepts_words core (take k r.slots) (length (take d r.pool)) (length (take h r.heads)) (length r.frames) (length (take u r.setups))) core (take k r.slots) o.rest ws) where
    pub called_rows : called_at k core o rows_after ≡ call_lent core r d k h u c
    unfolding call_lent
    called_rows =
        ap (λ (l : List ℕ). called_after (applied (reply_view core.settings o l) wr wh wf wu) r.pool r.heads r.setups d h u) lent_again
        ∙ ap (λ (x : Applied). called_after x r.pool r.heads r.setups d h u) e

    pub called_words : LentCall core r d k h u o rows_after
    called_words =
        subst (WordsAfter (accepts_words core (take k r.slots) (length (take d r.pool)) (length (take h r.heads)) (length r.frames) (length (take u r.setups))) core (take k r.slots) o.rest)
        (sym lent_again) after

  module _ (s : Settings) (o : Opening)
      (e : opened_rows o wr wh wf wu ≡ open_words s (take d r.pool) (take k r.slots) (take h r.heads) r.frames (take u r.setups))
      (opens : OpensWords s o (take k r.slots) ws) where
    pub opened_rows_lem : rows_left o rows_after ≡ open_lent s r d k h u
    unfolding open_lent
    opened_rows_lem = ap (λ (x : opening.OpenedRows). whole_rows x r d h u) e

    pub opened_words : OpensWords s o (take k r.slots) (take k rows_after.slots)
    opened_words = subst (OpensWords s o (take k r.slots)) (sym lent_again) opens
