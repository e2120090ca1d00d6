-- Coverage: each byte of a request's buffer is that of exactly one data descriptor and offset, and no other byte is.
use Rattle.std.specs.Prelude.{◌≡◌, ℕ, ◌+◌, ◌*◌, ◌/◌, ◌%◌, ◌^◌, ◌<◌, ◌≤◌, Bool, true, false, ltb}
use mathlib.Core.Path.{refl, sym, ap, ◌∙◌}
use native.Mathlib.Nat.{div-add-mod', mod-lt, mul-le-mul_right, suc-mul}
use native.Mathlib.Omega.{arith}
use borrow.Author.Tests.{ltb-true, ltb-false, ne_eqb}
use Rattle.token.specs.Chunks.{chunk_at, chunk_count}
use Rattle.token.specs.Plans.{control_plan}
use Rattle.token.proofs.ChunkLaws.{covers}
use Rattle.descriptor.specs.Descriptors.{new_qtd}
use Rattle.descriptor.specs.EhciQtd.{byte_address}
use Rattle.descriptor.specs.declared.qtd.QueueTransferDescriptor.{QueueTransferDescriptor}
use Rattle.descriptor.proofs.Coverage.{byte_at, slots_suffice}
use Rattle.pool.specs.Transfers.{chunk_qtd, stage_of_place}
use Rattle.pool.specs.declared.transfer.Transfer.{Transfer}

-- byte j of a descriptor, as EHCI 3.5.4 reads its page words
abbrev pub byte_of : QueueTransferDescriptor → ℕ → ℕ
byte_of d j = byte_address d.pages d.upper j

-- byte j of chunk k is byte k * C + j of the buffer
pub chunk_byte : (t : Transfer) (k j : ℕ) (last : Bool) → j < chunk_at k t.length t.limit → t.address + t.length ≤ 2 ^ 32 → t.limit ≤ 16384
    → byte_of (chunk_qtd t k last) j ≡ t.address + (k * t.limit + j)
unfolding chunk_qtd new_qtd
chunk_byte t k j last h e l =
    byte_at (t.address + k * t.limit) (chunk_at k t.length t.limit) j (omega arith) h (slots_suffice (t.address + k * t.limit) (chunk_at k t.length t.limit) (omega arith))
    ∙ omega arith

-- and it is a byte of the buffer
pub chunk_inside : (k j L C : ℕ) → j < chunk_at k L C → k * C + j < L
chunk_inside k j L C h = omega arith

-- byte b of the buffer is byte b % C of chunk b / C, one of the request's
pub byte_found : (b L C : ℕ) → 1 ≤ C → b < L → (b / C < chunk_count L C) × (b % C < chunk_at (b / C) L C) × (b / C * C + b % C ≡ b)
byte_found b L C h lt = (one_of (ltb (b / C) (chunk_count L C)) refl, omega (arith, whole, mod-lt b h), whole)
  where
    whole : b / C * C + b % C ≡ b
    whole = div-add-mod' b C

    one_of : (t : Bool) → ltb (b / C) (chunk_count L C) ≡ t → b / C < chunk_count L C
    one_of true e = ltb-true (b / C) (chunk_count L C) e
    one_of false e =
        absurd (omega (arith, div-add-mod' b C, covers L C h, mul-le-mul_right C (ltb-false (b / C) (chunk_count L C) e)))

-- and of no other
apart : (C k j k' j' : ℕ) → j < C → k < k' → k * C + j ≡ k' * C + j' → ⊥
apart C k j k' j' h lt e = omega (arith, mul-le-mul_right C lt, suc-mul k C)

pub byte_once : (C k j k' j' : ℕ) → j < C → j' < C → k * C + j ≡ k' * C + j' → (k ≡ k') × (j ≡ j')
byte_once C k j k' j' h h' e = by (ltb k k') refl (ltb k' k) refl
  where
    same : k ≡ k' → (k ≡ k') × (j ≡ j')
    same q = (q, omega (arith, ap (λ (z : ℕ). z * C) q))

    by : (a : Bool) → ltb k k' ≡ a → (b : Bool) → ltb k' k ≡ b → (k ≡ k') × (j ≡ j')
    by true q b w = absurd (apart C k j k' j' h (ltb-true k k' q) e)
    by false q true w = absurd (apart C k' j' k j h' (ltb-true k' k w) (sym e))
    by false q false w = same (omega (arith, ltb-false k k' q, ltb-false k' k w))

-- the data of a control request is one descriptor, its second
pub stage_byte : (t : Transfer) (j : ℕ) → j < t.length → t.address + t.length ≤ 2 ^ 32 → t.length ≤ 16384
    → byte_of (stage_of_place t 1) j ≡ t.address + j
unfolding stage_of_place new_qtd control_plan
stage_byte t j h e l =
    rw (ne_eqb t.length 0 (λ z. omega arith))
    (byte_at t.address t.length j e h (slots_suffice t.address t.length (omega arith)))
