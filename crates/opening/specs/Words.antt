-- Opening a controller whose state is in words: the row of slots is lent beside the others, six words a slot.
use Rattle.std.specs.Prelude.{◌≡◌, ℕ, ◌*◌, Bool, not, List, [], ◌∷◌, length, replicate, ◌==◌, Err, Ok, Result, ⊤}
use Rattle.common.specs.declared.answer.Refusal.{Refusal}
use Rattle.common.specs.declared.answer.Refusal.TheVariants.{InvalidParameter}
use Rattle.common.specs.Answers.{Check, first, settle}
use Rattle.descriptor.specs.declared.qtd.QueueTransferDescriptor.{QueueTransferDescriptor}
use Rattle.settings.specs.declared.settings.Settings.{Settings}
use Rattle.settings.specs.Settings.{heads_length, frames_length, setups_length}
use Rattle.words.specs.declared.cores.Core.{Core}
use Rattle.words.specs.Good.{Tidy}
use Rattle.words.specs.Opened.{opened_rest, opened_row}
use Rattle.words.specs.View.{state_of}
use Rattle.opening.specs.declared.hub.EhciRootHub.{EhciRootHub}
use Rattle.opening.specs.declared.open.Opening.{Opening}
use Rattle.opening.specs.Hub.{opened_hub}
use Rattle.opening.specs.Opening.{Opened, fresh_state, no_settings, open_checks, open_of, opened, opened_heads, refused_opening}

-- the row of slots has six words a slot
unfoldable pub slots_fit : Settings → ℕ → Bool
slots_fit s words = words == 6 * s.endpoints

-- ---- what opening leaves

-- all but the state: the answer, the root ports' record, and the rows
pub record OpenedRows : Type 0 where
  pub answer : Result ⊤ Refusal
  pub hub : EhciRootHub
  pub pool : List QueueTransferDescriptor
  pub heads : List ℕ
  pub frames : List ℕ
  pub setups : List ℕ

abbrev pub opened_rows : Opening → List QueueTransferDescriptor → List ℕ → List ℕ → List ℕ → OpenedRows
opened_rows o pool heads frames setups =
    record { answer = o.answer; hub = o.hub; pool = pool; heads = heads; frames = frames; setups = setups }

abbrev pub rows_of : Opened → OpenedRows
rows_of o =
    record {
      answer = o.opening.answer;
      hub = o.opening.hub;
      pool = o.pool;
      heads = o.heads;
      frames = o.frames;
      setups = o.setups;
    }

-- a row of slots of another length is refused as another row's is
unfoldable pub open_words : Settings → List QueueTransferDescriptor → List ℕ → List ℕ → List ℕ → List ℕ → OpenedRows
open_words s pool slots heads frames setups =
    rows_of
    (settle
    (first ((not (slots_fit s (length slots)), InvalidParameter) ∷ []))
    (λ r. opened (refused_opening r) pool heads frames setups)
    (open_of s pool heads frames setups))

-- ---- the core and the row of slots

-- a core that no call accepts
unfoldable pub blank_core : Core
blank_core = record { settings = no_settings; rest = opened_rest 0 }

-- they stand for the fresh state
pub record FreshWords (s : Settings) (core : Core) (slots : List ℕ) : Type 0 where
  pub same_settings : core.settings ≡ s
  pub fresh : state_of s core.rest slots ≡ fresh_state s
  pub tidy : Tidy s core.rest slots

-- nothing is opened, and the row is as it was
pub record BlankWords (core : Core) (old new : List ℕ) : Type 0 where
  pub blank : core ≡ blank_core
  pub kept : new ≡ old

pub record OpensWords (s : Settings) (o : Opening) (old new : List ℕ) : Type 0 where
  pub accepted : o.answer ≡ (Ok tt) → FreshWords s o.core new
  pub refused : (r : Refusal) → o.answer ≡ Err r → BlankWords o.core old new

-- ---- what is decided by the pool's length: the answer, and the rows of numbers

unfoldable pub refused_words : Refusal → Opening
refused_words r = record { answer = Err r; core = blank_core; hub = opened_hub 0 }

unfoldable pub accepted_words : Settings → Opening
accepted_words s =
    record { answer = Ok tt; core = record { settings = s; rest = opened_rest s.descriptors }; hub = opened_hub s.ports }

pub record DecidedWords : Type 0 where
  pub opening : Opening
  pub slots : List ℕ
  pub heads : List ℕ
  pub frames : List ℕ
  pub setups : List ℕ

abbrev pub decided_words : Opening → List ℕ → List ℕ → List ℕ → List ℕ → DecidedWords
decided_words o slots heads frames setups =
    record { opening = o; slots = slots; heads = heads; frames = frames; setups = setups }

-- a fault of the settings, or of a row's length
abbrev pub words_checks : Settings → ℕ → ℕ → ℕ → ℕ → ℕ → List Check
words_checks s pool slots heads frames setups =
    (not (slots_fit s slots), InvalidParameter) ∷ open_checks s pool heads frames setups

unfoldable pub decide_words : Settings → ℕ → List ℕ → List ℕ → List ℕ → List ℕ → DecidedWords
decide_words s pool slots heads frames setups =
    settle
    (first (words_checks s pool (length slots) (length heads) (length frames) (length setups)))
    (λ r. decided_words (refused_words r) slots heads frames setups)
    (decided_words (accepted_words s)
    (opened_row s.endpoints)
    (opened_heads s.heads (heads_length s))
    (replicate frames_length 1)
    (replicate (setups_length s) 0))

-- how many of so many records are opened: all where opening is accepted, else none
abbrev pub open_count : Result ⊤ Refusal → ℕ → ℕ
open_count (Ok tt) pool = pool
open_count (Err r) pool = 0
