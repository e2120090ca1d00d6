-- EHCI 1.0, section 3.6: the words of a queue head, by position and width. Imports nothing of the project.
use Rattle.std.specs.Prelude.{ℕ, ◌*◌, ◌/◌, ◌%◌, ◌^◌}

abbrev pub field : ℕ → ℕ → ℕ → ℕ
field w lo n = w / 2 ^ lo % 2 ^ n

-- 3.6.1: the horizontal link: T, the type (1: queue head), the address
abbrev pub link_terminate : ℕ → ℕ
link_terminate w = field w 0 1

abbrev pub link_type : ℕ → ℕ
link_type w = field w 1 2

abbrev pub link_address : ℕ → ℕ
link_address w = field w 5 27 * 2 ^ 5

-- 3.6.2: the endpoint characteristics
abbrev pub device_address : ℕ → ℕ
device_address w = field w 0 7

abbrev pub inactivate_on_next : ℕ → ℕ
inactivate_on_next w = field w 7 1

abbrev pub endpoint_number : ℕ → ℕ
endpoint_number w = field w 8 4

-- 2: high speed
abbrev pub endpoint_speed : ℕ → ℕ
endpoint_speed w = field w 12 2

-- 1: the toggle comes from each descriptor
abbrev pub toggle_control : ℕ → ℕ
toggle_control w = field w 14 1

abbrev pub head_of_list : ℕ → ℕ
head_of_list w = field w 15 1

abbrev pub maximum_packet_length : ℕ → ℕ
maximum_packet_length w = field w 16 11

abbrev pub control_endpoint : ℕ → ℕ
control_endpoint w = field w 27 1

abbrev pub nak_reload : ℕ → ℕ
nak_reload w = field w 28 4

-- 3.6.2: the endpoint capabilities
abbrev pub start_mask : ℕ → ℕ
start_mask w = field w 0 8

abbrev pub completion_mask : ℕ → ℕ
completion_mask w = field w 8 8

abbrev pub hub_address : ℕ → ℕ
hub_address w = field w 16 7

abbrev pub port_number : ℕ → ℕ
port_number w = field w 23 7

abbrev pub multiplier : ℕ → ℕ
multiplier w = field w 30 2
