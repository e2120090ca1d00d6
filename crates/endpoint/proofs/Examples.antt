-- The definitions, run on a controller with two slots: whole outcomes, and the refusals in 01's order.
use Rattle.std.specs.Prelude.{◌≡◌, ℕ, true, List, Ok}
use mathlib.Core.Path.{refl}
use Rattle.register.specs.Bits.{without_bits}
use Rattle.common.specs.declared.kinds.EndpointType.{EndpointType}
use Rattle.common.specs.declared.kinds.EndpointType.TheVariants.{Control, Isochronous, Bulk, Interrupt}
use Rattle.descriptor.specs.Descriptors.{terminated}
use Rattle.descriptor.specs.Heads.{endpoint_head}
use Rattle.settings.specs.Settings.{settings_good, numbers_good, each_good, no_overlap, area_good, apart_areas}
use Rattle.slot.specs.Ranges.{slot_good, size_kept, toggle_kept, size_good, phase_good, closed_good, idle_good, linked_good, no_request, open_kind}
use Rattle.state.specs.Plain.{Ehci}
use Rattle.state.specs.Ranges.{in_ranges, rest_good, machine_good, interrupt_good, doorbell_good, owner_good, largest, slots_good}
use Rattle.state.specs.Slots.{slot_at, with_slot}
use Rattle.common.specs.Answers.{number_of}
use Rattle.controller.specs.Plain.{Lengths}
use Rattle.pipe.specs.Endpoints.{decoded, endpoint_at, with_endpoint}
use Rattle.controller.specs.Lent.{accepts_of}
use Rattle.opening.specs.Opening.{fresh_state, rows_are_fit}
use Rattle.common.specs.Rows.{put_at}
use Rattle.endpoint.specs.Lowest.{closed_from}
use Rattle.endpoint.specs.Calls.{change_left, ChangeLeft, clear_halt_of, close_of, fields_good, open_checks, opened_number, open_endpoint_of, open_left, OpenLeft, set_address_of, set_packet_size_of, slot_checks}
use Rattle.endpoint.specs.Examples.{blank, both_open, bulk_head, closed_at, heads_of, interrupt_head, none_open, one_busy, one_odd, one_open, opened, tight_busy, tight_head, tight_open, two_slots, two_with}

-- the lengths that fit two slots
abbrev fits : Lengths
fits = record { pool = 17; heads = 51; frames = 1024; setups = 16 }

pub fresh_is : fresh_state two_slots ≡ none_open
unfolding fresh_state two_with
fresh_is = refl

none_accepted : accepts_of none_open fits ≡ true
unfolding two_with accepts_of rows_are_fit in_ranges rest_good machine_good interrupt_good doorbell_good owner_good largest slots_good slot_good size_kept toggle_kept size_good phase_good closed_good idle_good linked_good no_request open_kind settings_good numbers_good each_good no_overlap area_good apart_areas slot_at without_bits
none_accepted = refl

one_accepted : accepts_of one_open fits ≡ true
unfolding two_with accepts_of rows_are_fit in_ranges rest_good machine_good interrupt_good doorbell_good owner_good largest slots_good slot_good size_kept toggle_kept size_good phase_good closed_good idle_good linked_good no_request open_kind settings_good numbers_good each_good no_overlap area_good apart_areas slot_at without_bits
one_accepted = refl

both_accepted : accepts_of both_open fits ≡ true
unfolding two_with accepts_of rows_are_fit in_ranges rest_good machine_good interrupt_good doorbell_good owner_good largest slots_good slot_good size_kept toggle_kept size_good phase_good closed_good idle_good linked_good no_request open_kind settings_good numbers_good each_good no_overlap area_good apart_areas slot_at without_bits
both_accepted = refl

busy_accepted : accepts_of one_busy fits ≡ true
unfolding two_with accepts_of rows_are_fit in_ranges rest_good machine_good interrupt_good doorbell_good owner_good largest slots_good slot_good size_kept toggle_kept size_good phase_good closed_good idle_good linked_good no_request open_kind settings_good numbers_good each_good no_overlap area_good apart_areas slot_at without_bits
busy_accepted = refl

closed_accepted_1000 : accepts_of (closed_at 1000) fits ≡ true
unfolding two_with accepts_of rows_are_fit in_ranges rest_good machine_good interrupt_good doorbell_good owner_good largest slots_good slot_good size_kept toggle_kept size_good phase_good closed_good idle_good linked_good no_request open_kind settings_good numbers_good each_good no_overlap area_good apart_areas slot_at without_bits
closed_accepted_1000 = refl

closed_accepted_8 : accepts_of (closed_at 8) fits ≡ true
unfolding two_with accepts_of rows_are_fit in_ranges rest_good machine_good interrupt_good doorbell_good owner_good largest slots_good slot_good size_kept toggle_kept size_good phase_good closed_good idle_good linked_good no_request open_kind settings_good numbers_good each_good no_overlap area_good apart_areas slot_at without_bits
closed_accepted_8 = refl

tight_accepted : accepts_of tight_open fits ≡ true
unfolding two_with accepts_of rows_are_fit in_ranges rest_good machine_good interrupt_good doorbell_good owner_good largest slots_good slot_good size_kept toggle_kept size_good phase_good closed_good idle_good linked_good no_request open_kind settings_good numbers_good each_good no_overlap area_good apart_areas slot_at without_bits
tight_accepted = refl

tight_busy_accepted : accepts_of tight_busy fits ≡ true
unfolding two_with accepts_of rows_are_fit in_ranges rest_good machine_good interrupt_good doorbell_good owner_good largest slots_good slot_good size_kept toggle_kept size_good phase_good closed_good idle_good linked_good no_request open_kind settings_good numbers_good each_good no_overlap area_good apart_areas slot_at without_bits
tight_busy_accepted = refl

-- ---- open endpoint

abbrev open_on : Ehci → List ℕ → EndpointType → ℕ → ℕ → ℕ → OpenLeft
open_on s heads kind address number packet = open_endpoint_of s 17 heads 1024 16 kind address number packet

-- slot 0 and its 17 words; 01's F2002105
pub opens_first : open_on none_open (heads_of blank blank) Bulk 5 1 512 ≡ open_left (record { answer = Ok 0; state = one_open }) (heads_of bulk_head blank)
unfolding two_with open_endpoint_of open_checks fields_good size_good closed_from with_endpoint with_slot endpoint_head terminated put_at
opens_first = rw none_accepted

pub opens_second : open_on one_open (heads_of bulk_head blank) Interrupt 127 15 1024
    ≡ open_left (record { answer = Ok 1; state = both_open }) (heads_of bulk_head interrupt_head)
unfolding two_with open_endpoint_of open_checks fields_good size_good closed_from with_endpoint with_slot endpoint_head terminated put_at
opens_second = rw one_accepted

abbrev number : OpenLeft → ℕ
number o = opened_number o.opening.answer

-- no closed slot: 2; a value out of its range before that: 1; isochronous first: 5
pub opens_none : number (open_on both_open (heads_of bulk_head interrupt_head) Bulk 5 2 512) ≡ 2
unfolding two_with open_endpoint_of open_checks fields_good size_good closed_from
opens_none = rw both_accepted

pub opens_out : number (open_on both_open (heads_of bulk_head interrupt_head) Bulk 128 2 512) ≡ 1
unfolding two_with open_endpoint_of open_checks fields_good size_good
opens_out = rw both_accepted

pub opens_isochronous : number (open_on both_open (heads_of bulk_head interrupt_head) Isochronous 128 2 512) ≡ 5
unfolding two_with open_endpoint_of open_checks
opens_isochronous = rw both_accepted

pub opens_number : number (open_on one_open (heads_of bulk_head blank) Bulk 5 16 512) ≡ 1
unfolding two_with open_endpoint_of open_checks fields_good size_good
opens_number = rw one_accepted

pub opens_empty : number (open_on one_open (heads_of bulk_head blank) Bulk 5 1 0) ≡ 1
unfolding two_with open_endpoint_of open_checks fields_good size_good
opens_empty = rw one_accepted

pub opens_large : number (open_on one_open (heads_of bulk_head blank) Bulk 5 1 1025) ≡ 1
unfolding two_with open_endpoint_of open_checks fields_good size_good
opens_large = rw one_accepted

-- at C 1000 a bulk endpoint has at most packets of 1000; at C 8 a control endpoint may have those of 1024
pub opens_limit : open_on (closed_at 1000) (heads_of blank blank) Bulk 5 1 1000
    ≡ open_left (record { answer = Ok 0; state = two_with 1000 1 0 2 0 1000 0 0 }) (heads_of (opened 0xF3E82105 0x40000000) blank)
unfolding two_with open_endpoint_of open_checks fields_good size_good closed_from with_endpoint with_slot endpoint_head terminated put_at
opens_limit = rw closed_accepted_1000

pub opens_above_limit : number (open_on (closed_at 1000) (heads_of blank blank) Bulk 5 1 1001) ≡ 1
unfolding two_with open_endpoint_of open_checks fields_good size_good
opens_above_limit = rw closed_accepted_1000

pub opens_interrupt_above_limit : number (open_on (closed_at 1000) (heads_of blank blank) Interrupt 5 1 1001) ≡ 1
unfolding two_with open_endpoint_of open_checks fields_good size_good
opens_interrupt_above_limit = rw closed_accepted_1000

pub opens_control : open_on (closed_at 8) (heads_of blank blank) Control 5 0 1024
    ≡ open_left (record { answer = Ok 0; state = two_with 8 1 0 0 0 1024 0 0 }) (heads_of (opened 0xF4006005 0x40000000) blank)
unfolding two_with open_endpoint_of open_checks fields_good size_good closed_from with_endpoint with_slot endpoint_head terminated put_at
opens_control = rw closed_accepted_8

-- ---- close, set address, set packet size

pub closes_first : close_of one_open 17 (heads_of bulk_head blank) 1024 16 0 ≡ change_left (record { answer = Ok tt; state = none_open }) (heads_of blank blank)
unfolding two_with close_of slot_checks endpoint_at decoded slot_at with_endpoint with_slot put_at
closes_first = rw one_accepted

abbrev answered : ChangeLeft → ℕ
answered c = number_of c.change.answer

-- closed, or not there: 3; an uncollected request: 4
pub closes_closed : answered (close_of one_open 17 (heads_of bulk_head blank) 1024 16 1) ≡ 3
unfolding two_with close_of slot_checks endpoint_at decoded slot_at
closes_closed = rw one_accepted

pub closes_none : answered (close_of one_open 17 (heads_of bulk_head blank) 1024 16 2) ≡ 3
unfolding two_with close_of slot_checks endpoint_at decoded slot_at
closes_none = rw one_accepted

pub closes_far : answered (close_of one_open 17 (heads_of bulk_head blank) 1024 16 255) ≡ 3
unfolding two_with close_of slot_checks endpoint_at decoded slot_at
closes_far = rw one_accepted

pub closes_busy : answered (close_of one_busy 17 (heads_of bulk_head blank) 1024 16 0) ≡ 4
unfolding two_with close_of slot_checks endpoint_at decoded slot_at
closes_busy = rw busy_accepted

pub sets_address : set_address_of one_open 17 (heads_of bulk_head blank) 1024 16 0 7
    ≡ change_left (record { answer = Ok tt; state = one_open }) (heads_of (opened 0xF2002107 0x40000000) blank)
unfolding two_with set_address_of slot_checks endpoint_at decoded slot_at
sets_address = rw one_accepted

-- 3 and 4 before 1
pub address_out : answered (set_address_of one_open 17 (heads_of bulk_head blank) 1024 16 0 128) ≡ 1
unfolding two_with set_address_of slot_checks endpoint_at decoded slot_at
address_out = rw one_accepted

pub address_closed : answered (set_address_of one_open 17 (heads_of bulk_head blank) 1024 16 1 128) ≡ 3
unfolding two_with set_address_of slot_checks endpoint_at decoded slot_at
address_closed = rw one_accepted

pub address_busy : answered (set_address_of one_busy 17 (heads_of bulk_head blank) 1024 16 0 128) ≡ 4
unfolding two_with set_address_of slot_checks endpoint_at decoded slot_at
address_busy = rw busy_accepted

-- 4 is raised to 8, in the head and in the slot
pub sets_size : set_packet_size_of one_open 17 (heads_of bulk_head blank) 1024 16 0 4
    ≡ change_left (record { answer = Ok tt; state = two_with 16384 1 0 2 0 8 0 0 }) (heads_of (opened 0xF0082105 0x40000000) blank)
unfolding two_with set_packet_size_of slot_checks endpoint_at decoded slot_at size_good with_endpoint with_slot
sets_size = rw one_accepted

pub size_raised : (slot_at (set_packet_size_of one_open 17 (heads_of bulk_head blank) 1024 16 0 5).change.state 0).size ≡ 8
unfolding two_with set_packet_size_of slot_checks endpoint_at decoded slot_at size_good with_endpoint with_slot
size_raised = rw one_accepted

-- it is judged as raised: at C 7 a 5 is too much for bulk, and for control it is not
pub size_above_limit : answered (set_packet_size_of tight_open 17 (heads_of tight_head blank) 1024 16 0 5) ≡ 1
unfolding two_with set_packet_size_of slot_checks endpoint_at decoded slot_at size_good
size_above_limit = rw tight_accepted

pub size_control : answered (set_packet_size_of tight_open 17 (heads_of tight_head blank) 1024 16 1 5) ≡ 0
unfolding two_with set_packet_size_of slot_checks endpoint_at decoded slot_at size_good
size_control = rw tight_accepted

-- 3 and 4 before 1, whatever the size
pub size_closed : (size : ℕ) → answered (set_packet_size_of one_open 17 (heads_of bulk_head blank) 1024 16 1 size) ≡ 3
unfolding two_with set_packet_size_of slot_checks endpoint_at decoded slot_at
size_closed size = rw one_accepted

pub size_busy : (size : ℕ) → answered (set_packet_size_of tight_busy 17 (heads_of tight_head blank) 1024 16 0 size) ≡ 4
unfolding two_with set_packet_size_of slot_checks endpoint_at decoded slot_at
size_busy size = rw tight_busy_accepted

-- ---- the toggle: 1 after an odd number of packets, 0 when the halt is cleared and when the slot is closed

odd_accepted : accepts_of one_odd fits ≡ true
unfolding two_with with_endpoint with_slot accepts_of rows_are_fit in_ranges rest_good machine_good interrupt_good doorbell_good owner_good largest slots_good slot_good size_kept toggle_kept size_good phase_good closed_good idle_good linked_good no_request open_kind settings_good numbers_good each_good no_overlap area_good apart_areas slot_at without_bits
odd_accepted = refl

odd_good : in_ranges one_odd ≡ true
unfolding two_with with_endpoint with_slot in_ranges rest_good machine_good interrupt_good doorbell_good owner_good largest slots_good slot_good size_kept toggle_kept size_good phase_good closed_good idle_good linked_good no_request open_kind settings_good numbers_good each_good no_overlap area_good apart_areas slot_at without_bits
odd_good = refl

busy_good : in_ranges one_busy ≡ true
unfolding two_with in_ranges rest_good machine_good interrupt_good doorbell_good owner_good largest slots_good slot_good size_kept toggle_kept size_good phase_good closed_good idle_good linked_good no_request open_kind settings_good numbers_good each_good no_overlap area_good apart_areas slot_at without_bits
busy_good = refl

tight_good : in_ranges tight_open ≡ true
unfolding two_with in_ranges rest_good machine_good interrupt_good doorbell_good owner_good largest slots_good slot_good size_kept toggle_kept size_good phase_good closed_good idle_good linked_good no_request open_kind settings_good numbers_good each_good no_overlap area_good apart_areas slot_at without_bits
tight_good = refl

pub clears_odd : clear_halt_of one_odd 0 ≡ record { answer = Ok tt; state = one_open }
unfolding two_with clear_halt_of endpoint_at decoded slot_at with_endpoint with_slot
clears_odd = rw odd_good

pub closes_odd : close_of one_odd 17 (heads_of bulk_head blank) 1024 16 0 ≡ change_left (record { answer = Ok tt; state = none_open }) (heads_of blank blank)
unfolding two_with close_of slot_checks endpoint_at decoded slot_at with_endpoint with_slot put_at
closes_odd = rw odd_accepted

pub sizes_odd : (slot_at (set_packet_size_of one_odd 17 (heads_of bulk_head blank) 1024 16 0 64).change.state 0).toggle ≡ 1
unfolding two_with set_packet_size_of slot_checks endpoint_at decoded slot_at size_good with_endpoint with_slot
sizes_odd = rw odd_accepted

abbrev cleared : Ehci → ℕ → ℕ
cleared s k = number_of (clear_halt_of s k).answer

-- closed, or not there: 3; an uncollected request: 4; control, and a controller that does not run: 0
pub clears_closed : (cleared one_odd 1 ≡ 3) × (cleared one_odd 2 ≡ 3) × (cleared one_odd 255 ≡ 3)
unfolding two_with clear_halt_of endpoint_at decoded slot_at with_endpoint with_slot
clears_closed = (rw odd_good, rw odd_good, rw odd_good)

pub clears_busy : cleared one_busy 0 ≡ 4
unfolding two_with clear_halt_of endpoint_at decoded slot_at
clears_busy = rw busy_good

pub clears_control : cleared tight_open 1 ≡ 0
unfolding two_with clear_halt_of endpoint_at decoded slot_at
clears_control = rw tight_good
