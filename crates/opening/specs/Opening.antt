-- Document 01, "Opening a controller".
use Rattle.std.specs.Prelude.{ℕ, ◌-◌, Bool, not, List, [], ◌∷◌, ◌++◌, length, replicate, ◌==◌, Err, Ok}
use Rattle.descriptor.specs.declared.qtd.QueueTransferDescriptor.{QueueTransferDescriptor}
use Rattle.descriptor.specs.Descriptors.{terminated}
use Rattle.descriptor.specs.Heads.{ring_head, words_of}
use Rattle.pool.specs.Chains.{blank}
use Rattle.common.specs.declared.answer.Refusal.{Refusal}
use Rattle.common.specs.declared.answer.Refusal.TheVariants.{InvalidParameter}
use Rattle.opening.specs.Plain.{Opening}
use Rattle.settings.specs.declared.settings.Settings.{Settings}
use Rattle.state.specs.Plain.{Ehci}
use Rattle.common.specs.Answers.{Check, first, settle}
use Rattle.opening.specs.Hub.{opened_hub}
use Rattle.settings.specs.Settings.{settings_good, pool_length, heads_length, frames_length, setups_length}
use Rattle.common.specs.Tests.{every}

-- not running, nothing begun, address 1 next, interrupts off, every descriptor free, every slot closed
unfoldable pub fresh_state : Settings → Ehci
fresh_state settings =
    record {
      settings = settings;
      running = 0;
      step = 0;
      waited = 0;
      address = 1;
      enabled = 0;
      pending = 0;
      masked = 0;
      noted = 0;
      doorbell = 0;
      unanswered = 0;
      owner = replicate 256 0;
      phases = replicate 32 0;
      kinds = replicate 32 0;
      sizes = replicate 32 0;
      toggles = replicate 32 0;
      ids = replicate 32 1;
      requests = replicate 32 0;
      directions = replicate 32 0;
      lengths = replicate 32 0;
      cancels = replicate 32 0;
      boundaries = replicate 32 0;
    }

-- the settings of the state that a refused opening gives: no descriptor, so outside the ranges
abbrev pub no_settings : Settings
no_settings =
    record { descriptors = 0; endpoints = 0; ports = 0; limit = 0; wait = 0; pool = 0; heads = 0; frames = 0; setups = 0 }

-- the lengths of the rows that are lent
unfoldable pub rows_are_fit : Settings → ℕ → ℕ → ℕ → ℕ → Bool
rows_are_fit s pool heads frames setups =
    every
    ((pool == pool_length s)
    ∷ (heads == heads_length s)
    ∷ (frames == frames_length)
    ∷ (setups == setups_length s)
    ∷ [])

unfoldable pub refused_opening : Refusal → Opening
refused_opening r = record { answer = Err r; state = fresh_state no_settings; hub = opened_hub 0 }

unfoldable pub accepted_opening : Settings → Opening
accepted_opening s = record { answer = Ok tt; state = fresh_state s; hub = opened_hub s.ports }

-- what is decided by the pool's length: the answer, and the rows of numbers
pub record Decided : Type 0 where
  pub opening : Opening
  pub heads : List ℕ
  pub frames : List ℕ
  pub setups : List ℕ

abbrev pub decided : Opening → List ℕ → List ℕ → List ℕ → Decided
decided o heads frames setups = record { opening = o; heads = heads; frames = frames; setups = setups }

-- the ring head, and every other head zero, in so many words
unfoldable pub opened_heads : ℕ → ℕ → List ℕ
opened_heads area words = words_of (ring_head area) ++ replicate (words - 17) 0

-- a fault of the settings, or of a row's length
abbrev pub open_checks : Settings → ℕ → ℕ → ℕ → ℕ → List Check
open_checks s pool heads frames setups =
    (not (settings_good s), InvalidParameter) ∷ (not (rows_are_fit s pool heads frames setups), InvalidParameter) ∷ []

-- every row of numbers zeroed but the ring head and the frame entries
unfoldable pub decide_open_of : Settings → ℕ → List ℕ → List ℕ → List ℕ → Decided
decide_open_of s pool heads frames setups =
    settle
    (first (open_checks s pool (length heads) (length frames) (length setups)))
    (λ r. decided (refused_opening r) heads frames setups)
    (decided (accepted_opening s)
    (opened_heads s.heads (heads_length s))
    (replicate frames_length 1)
    (replicate (setups_length s) 0))

-- what opening leaves
pub record Opened : Type 0 where
  pub opening : Opening
  pub pool : List QueueTransferDescriptor
  pub heads : List ℕ
  pub frames : List ℕ
  pub setups : List ℕ

abbrev pub opened : Opening → List QueueTransferDescriptor → List ℕ → List ℕ → List ℕ → Opened
opened o pool heads frames setups = record { opening = o; pool = pool; heads = heads; frames = frames; setups = setups }

-- D zero records, and at place D the shared inactive descriptor: "next and alternate 1, token 0"
abbrev pub opened_pool : ℕ → List QueueTransferDescriptor
opened_pool descriptors = replicate descriptors blank ++ terminated ∷ []

-- every row zeroed but the shared descriptor, the ring head and the frame entries
unfoldable pub open_of : Settings → List QueueTransferDescriptor → List ℕ → List ℕ → List ℕ → Opened
open_of s pool heads frames setups =
    settle
    (first (open_checks s (length pool) (length heads) (length frames) (length setups)))
    (λ r. opened (refused_opening r) pool heads frames setups)
    (opened (accepted_opening s)
    (opened_pool s.descriptors)
    (opened_heads s.heads (heads_length s))
    (replicate frames_length 1)
    (replicate (setups_length s) 0))
