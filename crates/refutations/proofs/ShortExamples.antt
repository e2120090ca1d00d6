-- Replies shorter than asked for, worked out by hand: which requests, how far they are read, and EHCI's queue.
-- Tokens of a descriptor for 16384 bytes: 40000D80 as submitted, 34480D00 when 3000 have come, 00000D00 when all have, 34480D40 halted after 3000.
use Prim.Native.Nat.{ℕ}
use mathlib.Core.Bool.{true, false, cond}
use mathlib.Core.List.{List, [], ◌∷◌}
use mathlib.Core.Path.{◌≡◌, refl}
use lib.Dec.{eqb}
use lib.ListN.{replicate}
use Rattle.common.specs.declared.kinds.Direction.{Direction}
use Rattle.common.specs.declared.kinds.Direction.TheVariants.{Out, In}
use Rattle.common.specs.declared.kinds.EndpointType.{EndpointType}
use Rattle.common.specs.declared.kinds.EndpointType.TheVariants.{Control, Bulk, Interrupt}
use Rattle.descriptor.specs.declared.qtd.QueueTransferDescriptor.{QueueTransferDescriptor}
use Rattle.pool.specs.Transfers.{alternate_word}
use Rattle.promises.specs.Uses.{Use, may_end_short}
use Rattle.promises.specs.Chains.{is_finished}
use Rattle.promises.specs.Collections.{read_to}
use Rattle.promises.specs.EhciQueue.{Fetched, Queue, pointer, visit, visits}

-- ---- which requests

abbrev asked : EndpointType → Direction → List ℕ → Use
asked kind direction places =
    record {
      slot = 0;
      id = 1;
      request = record { kind = kind; direction = direction; setup = 0; address = 0x500000; length = 32768 };
      size = 512;
      places = places;
    }

abbrev two : List ℕ
two = 3 ∷ 5 ∷ []

may_end : may_end_short (asked Bulk In two) ∷ may_end_short (asked Interrupt In two) ∷ [] ≡ true ∷ true ∷ []
may_end = refl

may_not : may_end_short (asked Control In two) ∷ may_end_short (asked Bulk Out two) ∷ may_end_short (asked Interrupt Out two) ∷ may_end_short (asked Bulk In (3 ∷ [])) ∷ [] ≡ replicate 4 false
may_not = refl

-- the alternate words that a submit writes, but in the last descriptor
alternates : alternate_word Interrupt In 0x100080 ∷ alternate_word Interrupt Out 0x100080 ∷ alternate_word Bulk In 0x100080 ∷ [] ≡ 0x100080 ∷ 1 ∷ 0x100080 ∷ []
alternates = refl

-- ---- how far they are read

abbrev left : ℕ → QueueTransferDescriptor
left token = record { next = 1; alternate = 1; token = token; pages = replicate 5 0; upper = replicate 5 0 }

-- all of the first, 3000 of the second, nothing of the third
abbrev reply : List QueueTransferDescriptor
reply = left 0x00000D00 ∷ left 0x34480D00 ∷ left 0x40000D80 ∷ []

stops : read_to true reply ≡ left 0x00000D00 ∷ left 0x34480D00 ∷ []
stops = refl

reads_all : read_to false reply ≡ reply
reads_all = refl

ends : is_finished true reply (0 ∷ 1 ∷ 2 ∷ []) ≡ true
ends = refl

waits : is_finished false reply (0 ∷ 1 ∷ 2 ∷ []) ≡ false
waits = refl

-- neither an active one nor one in error is short, whatever it has left
past_active : read_to true (left 0x40000D80 ∷ left 0x34480D00 ∷ left 0x34480D40 ∷ []) ≡ left 0x40000D80 ∷ left 0x34480D00 ∷ []
past_active = refl

active_first : is_finished true (left 0x40000D80 ∷ left 0x34480D00 ∷ []) (0 ∷ 1 ∷ []) ≡ false
active_first = refl

past_error : read_to true (left 0x34480D40 ∷ left 0x00000D00 ∷ []) ≡ left 0x34480D40 ∷ left 0x00000D00 ∷ []
past_error = refl

-- ---- the queue: a first descriptor at 100000, the second at 100040, the shared one at 100080

abbrev shared : Fetched
shared = record { next = 1; alternate = 1; token = 0 }

abbrev second : Fetched
second = record { next = 1; alternate = 1; token = 0x40008D80 }

abbrev memory : ℕ → Fetched
memory address = cond (eqb address 0x100040) second shared

abbrev first : ℕ → ℕ → Queue
first alternate token = record { current = 0x100000; overlay = record { next = 0x100040; alternate = alternate; token = token } }

short_leads : pointer (first 0x100080 0x34480D00).overlay ≡ 0x100080
short_leads = refl

full_leads : pointer (first 0x100080 0x00000D00).overlay ≡ 0x100040
full_leads = refl

short_stays : visits memory 3 (first 0x100080 0x34480D00) ≡ first 0x100080 0x34480D00
short_stays = refl

full_begins : visit memory (first 0x100080 0x00000D00) ≡ record { current = 0x100040; overlay = second }
full_begins = refl

-- as before the order: an alternate that terminates, and the second is begun
without_it : visit memory (first 1 0x34480D00) ≡ record { current = 0x100040; overlay = second }
without_it = refl

halted_stays : visit memory (first 0x100080 0x34480D40) ≡ first 0x100080 0x34480D40
halted_stays = refl

active_stays : visit memory (first 0x100080 0x40000D80) ≡ first 0x100080 0x40000D80
active_stays = refl
