-- What a call looks at and decides on a state in words.
use Rattle.std.specs.Prelude.{◌≡◌, ℕ, Bool, true, false, cond, Option, None, List, [], ◌∷◌, Err, Result, ⊤}
use Rattle.bitset.specs.Places.{set_places}
use Rattle.register.specs.Writes.{no_writes}
use Rattle.register.specs.declared.writes.Writes.{Writes}
use Rattle.common.specs.declared.answer.Refusal.{Refusal}
use Rattle.common.specs.declared.answer.Refusal.TheVariants.{InvalidParameter}
use Rattle.pool.specs.Words.{AskWordsGood, WritingGood, no_ask_words, no_laying, no_writing, where_places}
use Rattle.pool.specs.declared.asked.AskWords.{AskWords}
use Rattle.pool.specs.Plain.{Chain}
use Rattle.pool.specs.declared.chain.View.{View}
use Rattle.pool.specs.declared.laying.Laying.{Laying}
use Rattle.pool.specs.declared.marking.Mark.{Mark}
use Rattle.pool.specs.declared.writing.Writing.{Writing}
use Rattle.settings.specs.declared.settings.Settings.{Settings}
use Rattle.settings.specs.Settings.{pool_length}
use Rattle.words.specs.declared.cores.Core.{Core}
use Rattle.words.specs.declared.cores.Rest.{Rest}
use Rattle.words.specs.Good.{Tidy}
use Rattle.words.specs.View.{view}
use Rattle.bring_up.specs.declared.answers.BroughtUp.{BroughtUp}
use Rattle.request.specs.Words.{laying_chain, marking_chain}
use Rattle.collection.specs.Words.{ask_view}
use Rattle.ehci.specs.declared.call.Call.{Call}
use Rattle.ehci.specs.Plain.{Decided}
use Rattle.ehci.specs.declared.look.Looked.{Looked}
use Rattle.ehci.specs.declared.reply.Decided.{Decided as DecidedWords}
use Rattle.ehci.specs.Decides.{Outcome, asks_of, came, decide_of}
use Rattle.ehci.specs.WordsDoor.{accepts_words, reply_view}
use Rattle.ehci.specs.Replies.{brought_answer, refused_reply, simply}
use Rattle.controller.specs.declared.left.Left.{Left}
use Rattle.controller.specs.declared.left.Settled.{Settled}
use Rattle.ehci.specs.declared.reply.Answered.{Answered}

-- ---- what is left, as the state that the words stand for

abbrev pub chain_else : List ℕ → Chain → Chain → Chain
chain_else [] a b = b
chain_else (p ∷ ps) a b = a

-- the chain of what is laid, where that has a place; else of what is marked
abbrev pub chain_in : Settings → Writing → Chain
chain_in s w = chain_else (set_places w.laying.places) (laying_chain w.laying) (marking_chain s.pool w.marking)

abbrev pub decided_view : Settings → DecidedWords → List ℕ → Decided
decided_view s d ws = record { reply = reply_view s d.reply ws; chain = chain_in s d.writing }

-- what is written may be handed to the pool, and no token where a transfer is laid
pub record Writable (n : ℕ) (w : Writing) : Type 0 where
  pub good : WritingGood n w
  pub one : where_places (set_places w.laying.places) (w.marking ≡ None)

unfoldable pub laid_only : Laying → Writing
laid_only l = record { laying = l; marking = None }

unfoldable pub marked_only : Option Mark → Writing
marked_only m = record { laying = no_laying; marking = m }

-- ---- what an arm leaves

-- nothing is written, and the free places are as they were
pub record Keeps (c : Core) (d : DecidedWords) : Type 0 where
  pub free_stays : d.reply.rest.free ≡ c.rest.free
  pub none_written : d.writing ≡ no_writing

-- nothing is written, and the slots are tidy
pub record Tidies (c : Core) (d : DecidedWords) (ws : List ℕ) : Type 0 where
  pub tidy : Tidy c.settings d.reply.rest ws
  pub none_written : d.writing ≡ no_writing

-- ---- replies over words

abbrev pub replied_words : Rest → Result Answered Refusal → Writes → DecidedWords
replied_words rest answer writes =
    record { reply = record { rest = rest; answer = answer; writes = writes }; writing = no_writing }

abbrev pub refused_reply_words : Rest → Refusal → DecidedWords
refused_reply_words rest r = replied_words rest (Err r) no_writes

abbrev pub changed_words : Left ⊤ → DecidedWords
changed_words c = replied_words c.rest (simply c.answer) no_writes

abbrev pub settled_words : Settled ⊤ → DecidedWords
settled_words x = replied_words x.rest (simply x.answer) x.writes

abbrev pub brought_words : BroughtUp → DecidedWords
brought_words b = replied_words b.rest (brought_answer b.answer b.read b.wait) b.writes

-- ---- what is looked at

-- nothing where the words are refused
pub record AsksGood (c : Core) (ws : List ℕ) (good : Bool) (call : Call) (a : AskWords) : Type 0 where
  pub ask_is : good ≡ true → ask_view a ≡ asks_of (view c ws) (pool_length c.settings) call
  pub ask_good : AskWordsGood (pool_length c.settings) a
  pub none_asked : good ≡ false → a ≡ no_ask_words

pub record LooksGood (c : Core) (ws : List ℕ) (pool heads frames setups : ℕ) (call : Call) (l : Looked) : Type 0 where
  pub good_is : l.good ≡ accepts_words c ws pool heads frames setups
  pub ask_is : l.good ≡ true → ask_view l.ask ≡ asks_of (view c ws) pool call
  pub ask_good : AskWordsGood pool l.ask

-- ---- the call

unfoldable pub decide_words : Core → List ℕ → Bool → ℕ → List ℕ → List ℕ → List ℕ → View → Call → Outcome
decide_words c ws good pool heads frames setups seen call =
    cond good
    (decide_of (view c ws) pool heads frames setups seen call)
    (came (refused_reply (view c ws) InvalidParameter) heads frames setups)
