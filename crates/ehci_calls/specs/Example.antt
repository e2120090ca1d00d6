-- A world where `apply` and a call of the core alone differ: a controller that was just opened, and a word of its one slot that no call leaves.
use Rattle.std.specs.Prelude.{◌≡◌, ℕ, Bool, true, false, List, [], ◌∷◌, length, replicate, Err, Ok}
use Rattle.common.specs.declared.answer.Refusal.TheVariants.{InvalidParameter}
use Rattle.descriptor.specs.declared.qtd.QueueTransferDescriptor.{QueueTransferDescriptor}
use Rattle.pool.specs.Chains.{blank}
use Rattle.words.specs.declared.cores.Core.{Core}
use Rattle.words.specs.Opened.{opened_rest, opened_row}
use Rattle.interrupt.specs.Interrupts.{acknowledge_of}
use Rattle.interrupt.specs.Words.{acknowledged_view}
use Rattle.direct_calls.specs.Refusals.{refused_acknowledgement}
use Rattle.direct_calls.specs.Shapes.{CoreCall}
use Rattle.ehci.specs.declared.call.Call.TheVariants.{Acknowledge}
use Rattle.ehci.specs.declared.call.InterruptReadings.{InterruptReadings}
use Rattle.ehci.specs.WordsDoor.{accepts_words, apply_words}
use Rattle.controller.specs.declared.left.Settled.{Settled}

abbrev pub opened_core : Core
opened_core =
    record {
      settings = record {
        descriptors = 1;
        endpoints = 1;
        ports = 1;
        limit = 16384;
        wait = 1;
        pool = 0x100000;
        heads = 0x200000;
        frames = 0x300000;
        setups = 0x400000;
      };
      rest = opened_rest 1;
    }

abbrev pub pool : List QueueTransferDescriptor
pool = replicate 2 blank

abbrev pub heads : List ℕ
heads = replicate 34 0

abbrev pub frames : List ℕ
frames = replicate 1024 1

abbrev pub setups : List ℕ
setups = replicate 8 0

-- closed, yet with a kind
abbrev pub damaged : List ℕ
damaged = 8 ∷ 0 ∷ 0 ∷ 0 ∷ 0 ∷ 0 ∷ []

abbrev pub accepts : List ℕ → Bool
accepts ws = accepts_words opened_core ws (length pool) (length heads) (length frames) (length setups)

-- USBSTS with bit 0
abbrev pub heard : InterruptReadings
heard = record { status = 1; interrupts = 0; flag = true; again = true }

pub record Differ : Type 0 where
  pub accepted : accepts (opened_row 1) ≡ true
  pub refused : accepts damaged ≡ false
  pub door_answers_1 : (apply_words opened_core damaged pool heads frames setups (Acknowledge heard)).reply.answer ≡ Err InvalidParameter
  pub call_answers_yes : (r : (Settled Bool))
      → CoreCall opened_core r (refused_acknowledgement opened_core.rest) r.rest (acknowledged_view opened_core.settings r)
      (λ s. acknowledge_of s heard.status heard.interrupts heard.flag heard.again)
      → r.answer ≡ (Ok true)
