-- Document 01, "Opening a controller": the ranges of what is given.
use Rattle.std.specs.Prelude.{ℕ, ◌+◌, ◌*◌, ◌%◌, ◌^◌, Bool, true, false, ◌&&◌, [], ◌∷◌, eqb, leb}
use Rattle.settings.specs.declared.settings.Settings.{Settings}
use Rattle.common.specs.Tests.{every, within}

-- where memory ends, and the rows' lengths: D descriptors and the shared one, 17 words a head with the ring head, frame entries, 8 bytes a slot
abbrev pub memory_end : ℕ
memory_end = 2 ^ 32

abbrev pub pool_length : Settings → ℕ
pool_length s = s.descriptors + 1

abbrev pub heads_length : Settings → ℕ
heads_length s = 17 * (s.endpoints + 1)

abbrev pub frames_length : ℕ
frames_length = 1024

abbrev pub setups_length : Settings → ℕ
setups_length s = 8 * s.endpoints

-- the areas' sizes: 64 bytes each, 128 bytes each, 4096 bytes, 8 bytes per slot
abbrev pub pool_size : Settings → ℕ
pool_size s = 64 * pool_length s

abbrev pub heads_size : Settings → ℕ
heads_size s = 128 * (s.endpoints + 1)

abbrev pub frames_size : ℕ
frames_size = 4096

abbrev pub setups_size : Settings → ℕ
setups_size s = 8 * s.endpoints

-- where the shared descriptor is: at place D, 64 bytes a place
abbrev pub shared_address : Settings → ℕ
shared_address s = s.pool + 64 * s.descriptors

-- a multiple of its alignment, ending at or below the end of memory
unfoldable pub area_good : ℕ → ℕ → ℕ → Bool
area_good address alignment size = eqb (address % alignment) 0 && leb (address + size) memory_end

-- the one that starts first ends at or before the start of the other
abbrev pub first_ends : Bool → ℕ → ℕ → ℕ → ℕ → Bool
first_ends true a m b n = leb (a + m) b
first_ends false a m b n = leb (b + n) a

unfoldable pub apart_areas : ℕ → ℕ → ℕ → ℕ → Bool
apart_areas a m b n = first_ends (leb a b) a m b n

-- D, E, ports, C, W
unfoldable pub numbers_good : Settings → Bool
numbers_good s =
    every
    (within s.descriptors 1 256
    ∷ within s.endpoints 1 32
    ∷ within s.ports 1 15
    ∷ within s.limit 1 16384
    ∷ within s.wait 1 65536
    ∷ [])

-- each area for itself
unfoldable pub each_good : Settings → Bool
each_good s =
    every
    (area_good s.pool 64 (pool_size s)
    ∷ area_good s.heads 128 (heads_size s)
    ∷ area_good s.frames 4096 frames_size
    ∷ area_good s.setups 8 (setups_size s)
    ∷ [])

-- no two overlap
unfoldable pub no_overlap : Settings → Bool
no_overlap s =
    every
    (apart_areas s.pool (pool_size s) s.heads (heads_size s)
    ∷ apart_areas s.pool (pool_size s) s.frames frames_size
    ∷ apart_areas s.pool (pool_size s) s.setups (setups_size s)
    ∷ apart_areas s.heads (heads_size s) s.frames frames_size
    ∷ apart_areas s.heads (heads_size s) s.setups (setups_size s)
    ∷ apart_areas s.frames frames_size s.setups (setups_size s)
    ∷ [])

unfoldable pub settings_good : Settings → Bool
settings_good s = numbers_good s && (each_good s && no_overlap s)
