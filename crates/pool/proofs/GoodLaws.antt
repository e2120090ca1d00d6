-- What shows that a chain or a question may be handed to the pool.
use Prim.Native.Nat.{ℕ, ◌+◌, ◌-◌, ◌*◌, ◌≤◌, ◌<◌, ◌^◌}
use mathlib.Core.Path.{◌≡◌, sym, subst}
use mathlib.Core.List.{List}
use native.Mathlib.Decide.{ℕ_discrete as dec_eq}
use native.Mathlib.Omega.{arith}
use lib.ListN.{length}
use Rattle.token.proofs.ChunkLaws.{before_last, count_pos}
use Rattle.common.specs.declared.kinds.EndpointType.{EndpointType}
use Rattle.common.specs.declared.kinds.EndpointType.TheVariants.{Control, Isochronous, Bulk, Interrupt}
use Rattle.token.specs.Chunks.{chunk_count, need_of}
use Rattle.pool.specs.Plain.{Deed}
use Rattle.pool.specs.Plain as Deeds
use Rattle.pool.specs.declared.transfer.Transfer.{Transfer}
use Rattle.pool.specs.Places.{Within, packed, places_from}
use Rattle.pool.specs.Chains.{chain_good, deed_good, starts_good}
use Rattle.pool.proofs.PlaceLaws.{list_packed, places_few, places_within}

pub packed_good : (n base : ℕ) (deed : Deed) (ps : List ℕ) → length ps ≤ 256 → Within n ps → deed_good deed base n (length ps)
    → chain_good n (record { places = packed ps; base = base; deed = deed })
unfolding packed
packed_good n base deed ps h w g = record { few = h; within = subst (λ (l : List ℕ). Within n l) (sym (list_packed ps)) w; deed = g }

pub places_good : (owner : List ℕ) (x m base : ℕ) (deed : Deed) → length owner ≤ 256 → deed_good deed base (length owner) (length (places_from 0 owner x m))
    → chain_good (length owner) (record { places = packed (places_from 0 owner x m); base = base; deed = deed })
places_good owner x m base deed h g =
    packed_good (length owner) base deed (places_from 0 owner x m) (omega (arith, h, places_few 0 owner x m)) (places_within owner x m) g

-- a request's own number of descriptors
chunks_start : (len limit count : ℕ) → 1 ≤ limit → count ≡ chunk_count len limit → (count - 1) * limit ≤ len
chunks_start len limit count h e = by (dec_eq count 1)
  where
    by : Dec (count ≡ 1) → (count - 1) * limit ≤ len
    by (yes one) =
        let none : count - 1 ≡ 0 = omega (arith, one) in
        subst (λ (m : ℕ). m * limit ≤ len) (sym none) (omega arith)
    by (no more) =
        let two : 1 < count = omega (arith, e, count_pos len limit h, more) in
        let all_but : count - 2 + 1 ≡ count - 1 = omega (arith, two) in
        let before : (count - 2 + 1) * limit < len = before_last len limit h (count - 2) (omega (arith, e, two)) in
        subst (λ (m : ℕ). m * limit ≤ len) all_but (omega (arith, before))

pub need_starts : (kind : EndpointType) (t : Transfer) (count : ℕ) → 1 ≤ t.limit → count ≡ need_of kind t.length t.limit → starts_good kind t count
unfolding need_of
need_starts Control t count h e = tt
need_starts Isochronous t count h e = chunks_start t.length t.limit count h e
need_starts Bulk t count h e = chunks_start t.length t.limit count h e
need_starts Interrupt t count h e = chunks_start t.length t.limit count h e

pub request_good : (t : Transfer) (base n count : ℕ) → base + 64 * n ≤ 2 ^ 32 → t.length ≤ 2 ^ 32 - t.address → t.setup + 8 ≤ 2 ^ 32 → 1 ≤ t.limit → t.limit ≤ 16384
    → count ≡ need_of t.kind t.length t.limit → deed_good (Deeds.Transfer t) base n count
request_good t base n count hb hl hs h most e = (hb, hl, omega (arith, hs), need_starts t.kind t count h e, most)
