-- The returns of the functions on queue heads and setup packets.
use Prim.Native.Nat.{ℕ, ◌+◌, ◌*◌, ◌/◌, ◌%◌, ◌^◌, ◌<◌, max}
use mathlib.Core.Path.{◌≡◌, refl, ap, ◌∙◌}
use mathlib.Core.List.{List, [], ◌∷◌, ◌++◌, append-nil}
use native.Mathlib.Nat.{div-one, mod-eq_of_lt}
use native.Mathlib.Omega.{arith}
use lib.ListN.{get_or, length}
use Rattle.register.specs.Bits.{with_bits, without_bits}
use Rattle.register.proofs.FieldLaws.{replace_field}
use Rattle.common.specs.Kinds.{is_control, is_interrupt}
use Rattle.common.specs.declared.kinds.EndpointType.{EndpointType}
use Rattle.common.specs.declared.kinds.EndpointType.TheVariants.{Control, Isochronous, Bulk, Interrupt}
use Rattle.token.specs.Tokens.{only_if}
use Rattle.descriptor.specs.declared.head.QueueHead.{QueueHead}
use Rattle.descriptor.specs.declared.qtd.QueueTransferDescriptor.{QueueTransferDescriptor}
use Rattle.descriptor.specs.Descriptors.{terminated}
use Rattle.descriptor.specs.Heads.{qh_link, control_bit, interrupt_bit, endpoint_head, ring_head, words_of, with_address, with_packet_size}
use Rattle.descriptor.specs.Setups.{setup_packet}

pub ring : (a l : ℕ) (o : QueueTransferDescriptor) → l ≡ qh_link a → o ≡ terminated
    → ◌≡◌ {A = QueueHead} (record { link = l; characteristics = 4227072; capabilities = 1073741824; current = 0; overlay = o }) (ring_head a)
unfolding ring_head
ring a l o el eo = rw (el, eo)

pub opened : (k : EndpointType) (a n p t i : ℕ) (o : QueueTransferDescriptor) → t ≡ control_bit k → i ≡ interrupt_bit k → o ≡ terminated
    → ◌≡◌ {A = QueueHead}
    (record {
      link = 1;
      characteristics = a + n * 256 + p * 65536 + 8192 + 4026531840 + t;
      capabilities = 1073741824 + i;
      current = 0;
      overlay = o;
    })
    (endpoint_head k a n p)
unfolding endpoint_head
opened k a n p t i o et ei eo = λ j. record { link = 1; characteristics = sum j; capabilities = 1073741824 + ei j; current = 0; overlay = eo j }
  where
    sum : a + n * 256 + p * 65536 + 8192 + 4026531840 + t ≡ a + n * 256 + 8192 + p * 65536 + 15 * 2 ^ 28 + control_bit k
    sum = rw et (omega arith)

pub control_only : (k : EndpointType) → only_if (is_control k) 16384 ≡ control_bit k
control_only Control = refl
control_only Isochronous = refl
control_only Bulk = refl
control_only Interrupt = refl

pub interrupt_only : (k : EndpointType) → only_if (is_interrupt k) 1 ≡ interrupt_bit k
interrupt_only Control = refl
interrupt_only Isochronous = refl
interrupt_only Bulk = refl
interrupt_only Interrupt = refl

five : (l rest : List ℕ) → length l ≡ 5
    → get_or l 0 0 ∷ get_or l 1 0 ∷ get_or l 2 0 ∷ get_or l 3 0 ∷ get_or l 4 0 ∷ rest ≡ l ++ rest
five [] rest e = absurd (omega (arith, e))
five (a ∷ []) rest e = absurd (omega (arith, e))
five (a ∷ b ∷ []) rest e = absurd (omega (arith, e))
five (a ∷ b ∷ c ∷ []) rest e = absurd (omega (arith, e))
five (a ∷ b ∷ c ∷ d ∷ []) rest e = absurd (omega (arith, e))
five (a ∷ b ∷ c ∷ d ∷ f ∷ []) rest e = refl
five (a ∷ b ∷ c ∷ d ∷ f ∷ g ∷ l) rest e = absurd (omega (arith, e))

pub address_put : (c a k r : ℕ) → c < 2 ^ 32 → k ≡ without_bits c 127 → r ≡ with_bits k (a % 128) → r ≡ with_address c a
address_put c a k r hc ek er =
    er ∙ rw ek (ap (λ (x : ℕ). with_bits (without_bits c 127) x) (omega arith) ∙ replace_field c 0 7 (a % 128) hc (omega arith) (omega arith))

pub packet_put : (c s k m r : ℕ) → c < 2 ^ 32 → s < 256 → k ≡ without_bits c 134152192 → m ≡ max s 8
    → r ≡ with_bits k (m * 65536 % 2 ^ 32) → r ≡ with_packet_size c s
packet_put c s k m r hc hs ek em er =
    let small : m * 65536 < 2 ^ 32 = omega arith in
    er ∙ rw (mod-eq_of_lt small, ek, em) (replace_field c 16 11 (max s 8) hc (omega arith) (omega arith))

pub packet_bytes : (s n : ℕ) → s % 256 ∷ s / 256 % 256 ∷ s / 65536 % 256 ∷ s / 16777216 % 256 ∷ s / 4294967296 % 256 ∷ s / 1099511627776 % 256 ∷ n % 256 ∷ n / 256 % 256 ∷ [] ≡ setup_packet s n
unfolding setup_packet
packet_bytes s n = rw (div-one s, div-one n)

pub head_words : (h : QueueHead) → length h.overlay.pages ≡ 5 → length h.overlay.upper ≡ 5
    → h.link ∷ h.characteristics ∷ h.capabilities ∷ h.current ∷ h.overlay.next ∷ h.overlay.alternate ∷ h.overlay.token
    ∷ get_or h.overlay.pages 0 0 ∷ get_or h.overlay.pages 1 0 ∷ get_or h.overlay.pages 2 0 ∷ get_or h.overlay.pages 3 0
    ∷ get_or h.overlay.pages 4 0 ∷ get_or h.overlay.upper 0 0 ∷ get_or h.overlay.upper 1 0 ∷ get_or h.overlay.upper 2 0
    ∷ get_or h.overlay.upper 3 0 ∷ get_or h.overlay.upper 4 0 ∷ []
    ≡ words_of h
head_words h hp hu =
    rw (five h.overlay.upper [] hu, append-nil, five h.overlay.pages h.overlay.upper hp)
