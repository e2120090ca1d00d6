-- Packets on the wire: descriptors of whole packets, and a last one, have the packets of all their bytes.
use Prim.Native.Nat.{ℕ, zero, suc, ◌+◌, ◌-◌, ◌*◌, ◌/◌, ◌≤◌}
use mathlib.Core.Path.{◌≡◌, refl, sym, ap, ap₂, ◌∙◌}
use mathlib.Core.List.{List, [], ◌∷◌, ◌++◌, append_assoc, append-nil}
use native.Mathlib.Nat.{add-mul, add-mul-div_right, div-eq_of_lt, suc-mul}
use native.Mathlib.Omega.{arith}
use lib.ListN.{replicate}
use Rattle.promises.specs.Packets.{EachButLast, on_wire, packets_of}

-- ---- lists of one number

replicate_add : (a b n : ℕ) → replicate (a + b) n ≡ replicate a n ++ replicate b n
replicate_add zero b n = let none : 0 + b ≡ b = omega arith in ap (λ (m : ℕ). replicate m n) none
replicate_add (suc a) b n =
    let one : suc a + b ≡ suc (a + b) = omega arith in
    ap (λ (m : ℕ). replicate m n) one ∙ ap (λ (l : List ℕ). n ∷ l) (replicate_add a b n)

replicate_last : (a n : ℕ) → replicate a n ++ (n ∷ []) ≡ replicate (suc a) n
replicate_last zero n = refl
replicate_last (suc a) n = ap (λ (l : List ℕ). n ∷ l) (replicate_last a n)

-- n numbers, and a last one
abbrev pub with_last : ℕ → ℕ → ℕ → List ℕ
with_last n limit rest = replicate n limit ++ (rest ∷ [])

pub each_full : (n limit rest : ℕ) → EachButLast (λ m. m ≡ limit) (with_last n limit rest)
each_full zero limit rest = tt
each_full (suc zero) limit rest = (refl, tt)
each_full (suc (suc n)) limit rest = (refl, each_full (suc n) limit rest)

-- ---- packets

module _ (size : ℕ) (least : 1 ≤ size) where
  -- so many whole ones
  whole_packets_lem : (q : ℕ) → packets_of size (suc q * size) ≡ replicate (suc q) size
  whole_packets_lem q =
      ap (λ (m : ℕ). replicate m size ++ ((suc q * size - m * size) ∷ [])) before
      ∙ ap (λ (m : ℕ). replicate q size ++ (m ∷ [])) last
      ∙ replicate_last q size
    where
      before : (suc q * size - 1) / size ≡ q
      before =
          let so : suc q * size - 1 ≡ size - 1 + q * size = omega (arith, suc-mul q size, least) in
          let none : (size - 1) / size ≡ 0 = div-eq_of_lt (omega (arith, least)) in
          let on : 0 + q ≡ q = omega arith in
          ap (λ (m : ℕ). m / size) so ∙ add-mul-div_right (size - 1) q least ∙ ap (λ (m : ℕ). m + q) none ∙ on

      last : suc q * size - q * size ≡ size
      last = omega (arith, suc-mul q size)

  -- whole packets before some bytes
  packets_join : (q y : ℕ) → 1 ≤ y → replicate q size ++ packets_of size y ≡ packets_of size (q * size + y)
  packets_join q y some =
      sym
      (ap (λ (m : ℕ). replicate m size ++ ((q * size + y - m * size) ∷ [])) count
      ∙ ap₂ (λ (l : List ℕ) (n : ℕ). l ++ (n ∷ [])) (replicate_add q rest size) left
      ∙ append_assoc (replicate q size) (replicate rest size) ((y - rest * size) ∷ []))
    where
      rest : ℕ
      rest = (y - 1) / size

      count : (q * size + y - 1) / size ≡ q + rest
      count =
          let so : q * size + y - 1 ≡ y - 1 + q * size = omega (arith, some) in
          let turned : rest + q ≡ q + rest = omega arith in
          ap (λ (m : ℕ). m / size) so ∙ add-mul-div_right (y - 1) q least ∙ turned

      left : q * size + y - (q + rest) * size ≡ y - rest * size
      left = omega (arith, add-mul q rest size)

  -- descriptors of whole packets and a last one that is not empty, unless it is alone
  pub wire_joins : (q n rest : ℕ) → (1 ≤ n → 1 ≤ rest) → on_wire size (with_last n (suc q * size) rest) ≡ packets_of size (n * (suc q * size) + rest)
  wire_joins q zero rest some =
      let none : rest ≡ 0 * (suc q * size) + rest = omega arith in
      append-nil (packets_of size rest) ∙ ap (λ (m : ℕ). packets_of size m) none
  wire_joins q (suc n) rest some =
      let limit : ℕ = suc q * size in
      ap₂ (λ (l m : List ℕ). l ++ m) (whole_packets_lem q) (wire_joins q n rest (λ h. some (omega arith)))
      ∙ packets_join (suc q) (n * limit + rest) (omega (arith, some (omega arith)))
      ∙ ap (λ (m : ℕ). packets_of size m) along
    where
      along : suc q * size + (n * (suc q * size) + rest) ≡ suc n * (suc q * size) + rest
      along = omega (arith, suc-mul n (suc q * size))
