-- One call on a controller whose state is in words: where the words are in their ranges what the call leaves of the state that they stand for,
-- else 1, and everything as it was.
use Rattle.std.specs.Prelude.{◌≡◌, ℕ, Bool, true, false, cond, ◌&&◌, List, length}
use Rattle.common.specs.declared.answer.Refusal.TheVariants.{InvalidParameter}
use Rattle.descriptor.specs.declared.qtd.QueueTransferDescriptor.{QueueTransferDescriptor}
use Rattle.settings.specs.declared.settings.Settings.{Settings}
use Rattle.opening.specs.Opening.{rows_are_fit}
use Rattle.words.specs.declared.cores.Core.{Core}
use Rattle.words.specs.declared.cores.Rest.{Rest}
use Rattle.words.specs.Good.{Good, Tidy}
use Rattle.words.specs.View.{state_of, view}
use Rattle.word_ranges.specs.Judge.{words_good}
use Rattle.ehci.specs.declared.call.Call.{Call}
use Rattle.ehci.specs.Plain.{Reply}
use Rattle.ehci.specs.declared.reply.Reply.{Reply as ReplyWords}
use Rattle.ehci.specs.Door.{Applied, applied, apply_of}
use Rattle.ehci.specs.Replies.{refused_reply}

-- what is left, as the state that the words stand for
abbrev pub reply_view : Settings → ReplyWords → List ℕ → Reply
reply_view s r ws = record { state = state_of s r.rest ws; answer = r.answer; writes = r.writes }

-- what every call asks first: the rows' lengths and the words' ranges
unfoldable pub accepts_words : Core → List ℕ → ℕ → ℕ → ℕ → ℕ → Bool
accepts_words c ws pool heads frames setups =
    rows_are_fit c.settings pool heads frames setups && words_good c.settings c.rest ws

-- what a call that is accepted may count on
pub record Judged (c : Core) (ws : List ℕ) (pool heads frames setups : ℕ) : Type 0 where
  pub words : Good c.settings c.rest ws
  pub rows : rows_are_fit c.settings pool heads frames setups ≡ true

-- the words after a call: tidy where they were accepted, else as they were
pub record WordsAfter (good : Bool) (c : Core) (ws : List ℕ) (rest : Rest) (ws' : List ℕ) : Type 0 where
  pub tidy : good ≡ true → Tidy c.settings rest ws'
  pub rest_stays : good ≡ false → rest ≡ c.rest
  pub row_stays : good ≡ false → ws' ≡ ws

unfoldable pub apply_words : Core → List ℕ → List QueueTransferDescriptor → List ℕ → List ℕ → List ℕ → Call → Applied
apply_words c ws pool heads frames setups call =
    cond (accepts_words c ws (length pool) (length heads) (length frames) (length setups))
    (apply_of (view c ws) pool heads frames setups call)
    (applied (refused_reply (view c ws) InvalidParameter).reply pool heads frames setups)
