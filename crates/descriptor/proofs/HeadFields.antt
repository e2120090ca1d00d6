-- The words of a head, and the links, read field by field as EHCI 3.5 and 3.6 read them.
use Prim.Native.Nat.{ℕ, ◌+◌, ◌*◌, ◌/◌, ◌%◌, ◌^◌, ◌≤◌, ◌<◌, max}
use mathlib.Core.Path.{◌≡◌, refl}
use native.Mathlib.Omega.{arith}
use Rattle.register.proofs.FieldLaws.{field_with, field_below, field_above}
use Rattle.common.specs.declared.kinds.EndpointType.{EndpointType}
use Rattle.common.specs.declared.kinds.EndpointType.TheVariants.{Control, Isochronous, Bulk, Interrupt}
use Rattle.std.specs.Prelude.{Some, None}
use Rattle.descriptor.specs.Descriptors.{word_of_next}
use Rattle.descriptor.specs.EhciQtd.{terminate, qtd_address}
use Rattle.descriptor.specs.EhciQueueHead.{link_terminate, link_type, link_address, device_address, inactivate_on_next, endpoint_number, endpoint_speed, toggle_control, head_of_list, maximum_packet_length, control_endpoint, nak_reload, start_mask, completion_mask, hub_address, port_number, multiplier}
use Rattle.descriptor.specs.Heads.{qh_link, interrupt_bit, characteristics_of, capabilities_of, with_address, with_packet_size}

-- ---- characteristics

pub record Characteristics (w address inactivate number speed toggle head packet control reload : ℕ) : Type 0 where
  pub address_is : device_address w ≡ address
  pub inactivate_is : inactivate_on_next w ≡ inactivate
  pub number_is : endpoint_number w ≡ number
  pub speed_is : endpoint_speed w ≡ speed
  pub toggle_is : toggle_control w ≡ toggle
  pub head_is : head_of_list w ≡ head
  pub packet_is : maximum_packet_length w ≡ packet
  pub control_is : control_endpoint w ≡ control
  pub reload_is : nak_reload w ≡ reload

sum_reads : (a n t p : ℕ) → a ≤ 127 → n ≤ 15 → t ≤ 1 → p ≤ 1024
    → Characteristics (a + n * 256 + 8192 + p * 65536 + 15 * 2 ^ 28 + t * 16384) a 0 n 2 t 0 p 0 15
sum_reads a n t p ha hn ht hp =
    record {
      address_is = omega arith;
      inactivate_is = omega arith;
      number_is = omega arith;
      speed_is = omega arith;
      toggle_is = omega arith;
      head_is = omega arith;
      packet_is = omega arith;
      control_is = omega arith;
      reload_is = omega arith;
    }

-- high speed, never the head of the list, nak reload 15; the toggle from each descriptor for control
pub toggle_of : EndpointType → ℕ
toggle_of Control = 1
toggle_of Isochronous = 0
toggle_of Bulk = 0
toggle_of Interrupt = 0

pub characteristics_read : (k : EndpointType) (a n p : ℕ) → a ≤ 127 → n ≤ 15 → p ≤ 1024
    → Characteristics (characteristics_of k a n p) a 0 n 2 (toggle_of k) 0 p 0 15
unfolding toggle_of
characteristics_read Control a n p ha hn hp = sum_reads a n 1 p ha hn (omega arith) hp
characteristics_read Isochronous a n p ha hn hp = sum_reads a n 0 p ha hn (omega arith) hp
characteristics_read Bulk a n p ha hn hp = sum_reads a n 0 p ha hn (omega arith) hp
characteristics_read Interrupt a n p ha hn hp = sum_reads a n 0 p ha hn (omega arith) hp

-- the ring head: the head of the list, 64 bytes a packet, the rest 0
pub ring_reads : Characteristics 0x00408000 0 0 0 0 0 1 64 0 0
ring_reads =
    record {
      address_is = refl;
      inactivate_is = refl;
      number_is = refl;
      speed_is = refl;
      toggle_is = refl;
      head_is = refl;
      packet_is = refl;
      control_is = refl;
      reload_is = refl;
    }

-- another address, and nothing else
pub address_reads : (c a : ℕ)
    → Characteristics (with_address c a) (a % 128) (inactivate_on_next c) (endpoint_number c) (endpoint_speed c) (toggle_control c)
    (head_of_list c) (maximum_packet_length c) (control_endpoint c) (nak_reload c)
address_reads c a =
    let h : a % 128 < 2 ^ 7 = omega arith in
    record {
      address_is = field_with c 0 7 (a % 128) h;
      inactivate_is = field_above c 0 7 (a % 128) h 7 1 (omega arith);
      number_is = field_above c 0 7 (a % 128) h 8 4 (omega arith);
      speed_is = field_above c 0 7 (a % 128) h 12 2 (omega arith);
      toggle_is = field_above c 0 7 (a % 128) h 14 1 (omega arith);
      head_is = field_above c 0 7 (a % 128) h 15 1 (omega arith);
      packet_is = field_above c 0 7 (a % 128) h 16 11 (omega arith);
      control_is = field_above c 0 7 (a % 128) h 27 1 (omega arith);
      reload_is = field_above c 0 7 (a % 128) h 28 4 (omega arith);
    }

-- another packet size, and nothing else
pub packet_reads : (c s : ℕ) → s < 2048
    → Characteristics (with_packet_size c s) (device_address c) (inactivate_on_next c) (endpoint_number c) (endpoint_speed c)
    (toggle_control c) (head_of_list c) (max s 8) (control_endpoint c) (nak_reload c)
packet_reads c s hs =
    let h : max s 8 < 2 ^ 11 = omega arith in
    record {
      address_is = field_below c 16 11 (max s 8) h 0 7 (omega arith);
      inactivate_is = field_below c 16 11 (max s 8) h 7 1 (omega arith);
      number_is = field_below c 16 11 (max s 8) h 8 4 (omega arith);
      speed_is = field_below c 16 11 (max s 8) h 12 2 (omega arith);
      toggle_is = field_below c 16 11 (max s 8) h 14 1 (omega arith);
      head_is = field_below c 16 11 (max s 8) h 15 1 (omega arith);
      packet_is = field_with c 16 11 (max s 8) h;
      control_is = field_above c 16 11 (max s 8) h 27 1 (omega arith);
      reload_is = field_above c 16 11 (max s 8) h 28 4 (omega arith);
    }

-- ---- capabilities: one transaction a micro-frame; an interrupt head starts in micro-frame 0

pub record Capabilities (w start : ℕ) : Type 0 where
  pub start_is : start_mask w ≡ start
  pub completion_is : completion_mask w ≡ 0
  pub hub_is : hub_address w ≡ 0
  pub port_is : port_number w ≡ 0
  pub multiplier_is : multiplier w ≡ 1

pub capabilities_read : (k : EndpointType) → Capabilities (capabilities_of k) (interrupt_bit k)
capabilities_read Control = record { start_is = refl; completion_is = refl; hub_is = refl; port_is = refl; multiplier_is = refl }
capabilities_read Isochronous = record { start_is = refl; completion_is = refl; hub_is = refl; port_is = refl; multiplier_is = refl }
capabilities_read Bulk = record { start_is = refl; completion_is = refl; hub_is = refl; port_is = refl; multiplier_is = refl }
capabilities_read Interrupt = record { start_is = refl; completion_is = refl; hub_is = refl; port_is = refl; multiplier_is = refl }

-- ---- links

-- to the head at an address
pub record LeadsTo (w address : ℕ) : Type 0 where
  pub goes_on : link_terminate w ≡ 0
  pub to_a_head : link_type w ≡ 1
  pub address_is : link_address w ≡ address

-- 01's words for it: address + 2
pub link_is : (a : ℕ) → a % 32 ≡ 0 → qh_link a ≡ a + 2
link_is a e = omega arith

type_reads : (q : ℕ) → link_type (q * 32 + 2) ≡ 1
type_reads q = omega arith

pub link_reads : (a : ℕ) → a < 2 ^ 32 → a % 32 ≡ 0 → LeadsTo (qh_link a) a
link_reads a h e =
    let q : a ≡ a / 32 * 32 = omega arith in
    record {
      goes_on = omega arith;
      to_a_head = rw (link_is a e, q) (type_reads (a / 32));
      address_is = omega arith;
    }

pub next_reads : (a : ℕ) → a < 2 ^ 32 → a % 32 ≡ 0 → (terminate (word_of_next (Some a)) ≡ 0) × (qtd_address (word_of_next (Some a)) ≡ a)
next_reads a h e = omega arith

pub next_is : (a : ℕ) → a % 32 ≡ 0 → word_of_next (Some a) ≡ a
next_is a e = omega arith

pub end_reads : terminate (word_of_next None) ≡ 1
end_reads = refl
