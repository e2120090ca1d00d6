-- What the walks say of words that are written by hand: a controller with three slots and two descriptors.
use Prim.Native.Nat.{ℕ}
use mathlib.Core.Path.{◌≡◌, refl}
use mathlib.Core.List.{List, [], ◌∷◌, ◌++◌}
use lib.ListN.{replicate}
use Rattle.descriptor.specs.declared.qtd.QueueTransferDescriptor.{QueueTransferDescriptor}
use Rattle.descriptor.specs.Slots.{zero_slots}
use Rattle.settings.specs.declared.settings.Settings.{Settings}
use Rattle.promises.specs.Walks.{AtRingHead, End, Nowhere, Terminated, TooLong, Walk, ended, link_walk, next_walk, walk_from}
use Rattle.refutations.proofs.WrongRuns.{sized}

abbrev three : Settings
three = sized 2 3 1

-- ---- links: heads at 0x200080, 0x200100, 0x200180

-- the ring head and three heads, by their links
abbrev head : ℕ → List ℕ
head link = link ∷ replicate 16 0

abbrev links : ℕ → ℕ → ℕ → List ℕ
links a b c = head 0 ++ head a ++ head b ++ head c

abbrev from : ℕ → List ℕ → Walk
from word heads = link_walk three heads word

abbrev walked : List ℕ → End → Walk
walked ps e = record { met = ps; end = e }

-- the ring with slots 2 and 0 in it; the same links from a frame entry on, terminated
ring_walk_lem : from 0x200182 (links 0x200002 0 0x200082) ≡ walked (3 ∷ 1 ∷ []) AtRingHead
unfolding walk_from
ring_walk_lem = refl

frame_walk_lem : from 0x200182 (links 1 0 0x200082) ≡ walked (3 ∷ 1 ∷ []) Terminated
unfolding walk_from
frame_walk_lem = refl

-- a link of 0, one of type iTD, siTD or FSTN, one into a head, one below the heads, one past the last
astray : (from 0 (links 1 1 1) ≡ ended Nowhere) × (from 0x200080 (links 1 1 1) ≡ ended Nowhere) × (from 0x200084 (links 1 1 1) ≡ ended Nowhere)
    × (from 0x200086 (links 1 1 1) ≡ ended Nowhere) × (from 0x2000E2 (links 1 1 1) ≡ ended Nowhere)
    × (from 0x1FFF82 (links 1 1 1) ≡ ended Nowhere) × (from 0x200202 (links 1 1 1) ≡ ended Nowhere)
unfolding walk_from
astray = (refl, refl, refl, refl, refl, refl, refl)

-- the same farther on, and from the ring head's own address with another type
astray_later : (from 0x200182 (links 1 1 0) ≡ walked (3 ∷ []) Nowhere) × (from 0x200182 (links 1 1 0x200062) ≡ walked (3 ∷ []) Nowhere)
    × (from 0x200182 (links 1 1 0x200000) ≡ walked (3 ∷ []) Nowhere)
unfolding walk_from
astray_later = (refl, refl, refl)

-- two heads that lead to each other
round : from 0x200082 (links 0x200102 0x200082 1) ≡ walked (1 ∷ 2 ∷ 1 ∷ 2 ∷ []) TooLong
unfolding walk_from
round = refl

-- ---- descriptors at 0x100000 and 0x100040, and the shared one

abbrev descriptor : ℕ → QueueTransferDescriptor
descriptor next = record { next = next; alternate = 1; token = 0; pages = zero_slots; upper = zero_slots }

abbrev chain : ℕ → ℕ → ℕ → Walk
chain word a b = next_walk three (descriptor a ∷ descriptor b ∷ descriptor 1 ∷ []) word

chain_walk_lem : (chain 1 1 1 ≡ ended Terminated) × (chain 0x100040 0 1 ≡ walked (1 ∷ []) Terminated)
    × (chain 0x100000 0x100040 1 ≡ walked (0 ∷ 1 ∷ []) Terminated)
unfolding walk_from
chain_walk_lem = (refl, refl, refl)

-- the shared descriptor is met like any other
chain_shared : chain 0x100080 1 1 ≡ walked (2 ∷ []) Terminated
unfolding walk_from
chain_shared = refl

-- a next pointer of 0, one into a descriptor, one below the pool, one past its last
chain_astray : (chain 0 1 1 ≡ ended Nowhere) × (chain 0x100020 1 1 ≡ ended Nowhere) × (chain 0x0FFFC0 1 1 ≡ ended Nowhere)
    × (chain 0x1000C0 1 1 ≡ ended Nowhere) × (chain 0x100000 0x100060 1 ≡ walked (0 ∷ []) Nowhere)
    × (chain 0x100000 0x100040 0 ≡ walked (0 ∷ 1 ∷ []) Nowhere)
unfolding walk_from
chain_astray = (refl, refl, refl, refl, refl, refl)

chain_round : chain 0x100000 0x100040 0x100000 ≡ walked (0 ∷ 1 ∷ 0 ∷ []) TooLong
unfolding walk_from
chain_round = refl
