-- A reply packed into numbers is what the door's call leaves, seen through the numbers.
use Rattle.std.specs.Prelude.{◌≡◌, ℕ, Bool, List}
use mathlib.Core.Path.{ap, subst, sym, ◌∙◌}
use Rattle.descriptor.specs.declared.qtd.QueueTransferDescriptor.{QueueTransferDescriptor as Record}
use Rattle.words.specs.declared.cores.Core.{Core}
use Rattle.ehci.specs.declared.call.Call.{Call}
use Rattle.ehci.specs.declared.reply.Reply.{Reply}
use Rattle.ehci.specs.Door.{applied}
use Rattle.ehci.specs.WordsDoor.{WordsAfter, apply_words, reply_view}
use Rattle.bench_port.specs.declared.numbers.Replied.{Replied}
use Rattle.bench_port.specs.Numbers.{pack_of}
use Rattle.bench_port.specs.Border.{beside_rows, seen_applied, seen_in}

module _ (c : Core) (ss : List ℕ) (x : Reply) (r : Replied) (packed : r ≡ pack_of x.rest x.answer x.writes) (ws : List ℕ) where
  pub seen_rows : (rs : List Record) (hs fs us : List ℕ) (cl known : Call) (wr : List Record) (wh wf wu : List ℕ) → cl ≡ known
      → applied (reply_view c.settings x ws) wr wh wf wu ≡ apply_words c ss rs hs fs us cl
      → beside_rows (seen_in c.settings r ws) wr wh wf wu ≡ seen_applied (apply_words c ss rs hs fs us known)
  unfolding pack_of
  seen_rows rs hs fs us cl known wr wh wf wu same e =
      ap (λ (y : Replied). beside_rows (seen_in c.settings y ws) wr wh wf wu) packed
      ∙ ap seen_applied (e ∙ ap (λ (y : Call). apply_words c ss rs hs fs us y) same)

  pub words_after : (good : Bool) → WordsAfter good c ss x.rest ws → WordsAfter good c ss r.rest ws
  unfolding pack_of
  words_after good k = subst (λ (y : Replied). WordsAfter good c ss y.rest ws) (sym packed) k
