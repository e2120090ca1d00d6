-- A setup packet, read as USB 9.3 reads it.
use Prim.Native.Nat.{ℕ, ◌/◌, ◌%◌, ◌^◌, ◌<◌}
use mathlib.Core.List.{List}
use mathlib.Core.Path.{◌≡◌}
use native.Mathlib.Omega.{arith}
use Rattle.descriptor.specs.Setups.{setup_packet}
use Rattle.descriptor.specs.UsbSetup.{bm_request_type, b_request, w_value, w_index, w_length}

-- each field is its stretch of the six bytes, and the length is the buffer's
pub record SetupReads (bytes : List ℕ) (setup length : ℕ) : Type 0 where
  pub type_is : bm_request_type bytes ≡ setup % 2 ^ 8
  pub request_is : b_request bytes ≡ setup / 2 ^ 8 % 2 ^ 8
  pub value_is : w_value bytes ≡ setup / 2 ^ 16 % 2 ^ 16
  pub index_is : w_index bytes ≡ setup / 2 ^ 32 % 2 ^ 16
  pub length_is : w_length bytes ≡ length

pub setup_reads : (setup length : ℕ) → length < 2 ^ 16 → SetupReads (setup_packet setup length) setup length
unfolding setup_packet
setup_reads setup length h =
    record {
      type_is = omega arith;
      request_is = omega arith;
      value_is = omega arith;
      index_is = omega arith;
      length_is = omega arith;
    }
