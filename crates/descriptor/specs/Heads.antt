-- Document 01, "Descriptors, heads, links": the words of a queue head.
use Rattle.std.specs.Prelude.{ℕ, ◌+◌, ◌-◌, ◌*◌, ◌%◌, ◌^◌, max, List, ◌∷◌, ◌++◌}
use Rattle.register.specs.Bits.{with_field}
use Rattle.common.specs.declared.kinds.EndpointType.{EndpointType}
use Rattle.common.specs.declared.kinds.EndpointType.TheVariants.{Control, Isochronous, Bulk, Interrupt}
use Rattle.descriptor.specs.declared.head.QueueHead.{QueueHead}
use Rattle.descriptor.specs.Descriptors.{terminated}

-- a head's link value is its address + 2; addresses are multiples of 32
abbrev pub qh_link : ℕ → ℕ
qh_link address = address - address % 32 + 2

-- 16384 for control
abbrev pub control_bit : EndpointType → ℕ
control_bit Control = 16384
control_bit Isochronous = 0
control_bit Bulk = 0
control_bit Interrupt = 0

-- 1 for interrupt
abbrev pub interrupt_bit : EndpointType → ℕ
interrupt_bit Control = 0
interrupt_bit Isochronous = 0
interrupt_bit Bulk = 0
interrupt_bit Interrupt = 1

-- address + number·256 + 8192 + packet size·65536 + 15·2^28, plus 16384 for control
abbrev pub characteristics_of : EndpointType → ℕ → ℕ → ℕ → ℕ
characteristics_of kind address number packet =
    address + number * 256 + 8192 + packet * 65536 + 15 * 2 ^ 28 + control_bit kind

-- 2^30, plus 1 for interrupt
abbrev pub capabilities_of : EndpointType → ℕ
capabilities_of kind = 2 ^ 30 + interrupt_bit kind

-- opened: link 1, current 0, overlay terminated
unfoldable pub endpoint_head : EndpointType → ℕ → ℕ → ℕ → QueueHead
endpoint_head kind address number packet =
    record {
      link = 1;
      characteristics = characteristics_of kind address number packet;
      capabilities = capabilities_of kind;
      current = 0;
      overlay = terminated;
    }

-- the ring head: link to itself, characteristics 0x00408000, capabilities 2^30
unfoldable pub ring_head : ℕ → QueueHead
ring_head address =
    record {
      link = qh_link address;
      characteristics = 0x00408000;
      capabilities = 2 ^ 30;
      current = 0;
      overlay = terminated;
    }

-- the 17 words in their order
abbrev pub words_of : QueueHead → List ℕ
words_of h =
    h.link ∷ h.characteristics ∷ h.capabilities ∷ h.current
    ∷ h.overlay.next ∷ h.overlay.alternate ∷ h.overlay.token ∷ (h.overlay.pages ++ h.overlay.upper)

-- bits 0 to 6
abbrev pub with_address : ℕ → ℕ → ℕ
with_address characteristics address = with_field characteristics 0 7 (address % 128)

-- raised to 8, bits 16 to 26
abbrev pub with_packet_size : ℕ → ℕ → ℕ
with_packet_size characteristics size = with_field characteristics 16 11 (max size 8)
