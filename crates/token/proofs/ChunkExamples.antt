-- Chunks worked out by hand: 1000 bytes at 512, no bytes, no limit, and the largest k and limit; and working limits.
use Prim.Native.Nat.{◌+◌, ◌-◌, ◌^◌}
use mathlib.Core.Path.{◌≡◌, refl}
use Rattle.common.specs.declared.kinds.EndpointType.TheVariants.{Control, Bulk, Interrupt}
use Rattle.token.specs.Chunks.{bytes_below, chunk_at, chunk_count, working_limit}

thousand : (chunk_at 0 1000 512 ≡ 512) × (chunk_at 1 1000 512 ≡ 488) × (chunk_at 2 1000 512 ≡ 0) × (chunk_at 3 1000 512 ≡ 0)
thousand = (refl, refl, refl, refl)

thousand_in_all : (chunk_count 1000 512 ≡ 2) × (bytes_below 2 1000 512 ≡ 1000)
unfolding chunk_count bytes_below
thousand_in_all = (refl, refl)

-- two full ones: the count is 2, not 3
no_rest : (chunk_at 1 1024 512 ≡ 512) × (chunk_at 2 1024 512 ≡ 0) × (chunk_count 1024 512 ≡ 2)
unfolding chunk_count
no_rest = (refl, refl, refl)

-- one chunk, of 0 bytes
empty : (chunk_count 0 512 ≡ 1) × (chunk_at 0 0 512 ≡ 0) × (chunk_at 1 0 512 ≡ 0)
unfolding chunk_count
empty = (refl, refl, refl)

no_limit : (chunk_at 0 1000 0 ≡ 0) × (chunk_at 7 1000 0 ≡ 0)
no_limit = (refl, refl)

-- the largest k and limit: their product is 2^64 − 2^33 + 1, and a length may go on after it
wide : (chunk_at (2 ^ 32 - 1) 5 (2 ^ 32 - 1) ≡ 0) × (chunk_at (2 ^ 32 - 1) (2 ^ 64 - 1) (2 ^ 32 - 1) ≡ 2 ^ 32 - 1)
    × (chunk_at (2 ^ 32 - 1) (2 ^ 64 - 2 ^ 33 + 6) (2 ^ 32 - 1) ≡ 5)
    × (chunk_at 1 (2 ^ 32 + 4) (2 ^ 32 - 1) ≡ 5)
wide = (refl, refl, refl, refl)

-- order 4's lab: a limit of 1,000 with packets of 512 has room for one; 16384 is 2,340 packets of 7 and 4 bytes; what divides it stays
lab : (working_limit Bulk 1000 512 ≡ 512) × (working_limit Interrupt 16384 7 ≡ 16380) × (working_limit Bulk 16384 512 ≡ 16384)
lab = (refl, refl, refl)

-- a packet of the limit's size just fits, one larger does not; control is not cut
one_packet : (working_limit Bulk 1000 1000 ≡ 1000) × (working_limit Bulk 1000 1001 ≡ 0) × (working_limit Control 1000 512 ≡ 1000)
one_packet = (refl, refl, refl)
