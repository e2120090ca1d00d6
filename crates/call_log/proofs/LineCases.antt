-- The returns of the functions that put a line.
use Rattle.std.specs.Prelude.{◌≡◌, ℕ, zero, suc, ◌+◌, ◌*◌, ◌<◌, ◌≤◌, min, Bool, true, false, leb, List, [], ◌∷◌, ◌++◌, length, get_or, take}
use borrow.Author.Tests.{leb-false, leb-true}
use lib.Seq.{take-append-add, take-append_seam, take_all}
use mathlib.Core.Path.{refl, sym, ap, ◌∙◌}
use mathlib.Core.List.{append_assoc, append-nil}
use native.Mathlib.Numerals.{add-one}
use native.Mathlib.Omega.{arith}
use lib.ListN.{length-append, length-take}
use Rattle.common.specs.Rows.{put_at}
use Rattle.text.specs.Text.{hex}
use Rattle.text.proofs.Puts.{put_none, put_then}
use Rattle.text.proofs.TextLaws.{decimal_length, hex_length}
use Rattle.call_log.specs.Lines.{line_bytes, part_bytes, said, said_line}
use Rattle.call_log.specs.declared.line.Line.{Line}
use Rattle.call_log.specs.declared.line.Part.{Part}
use Rattle.call_log.specs.declared.line.Part.TheVariants.{Decimal, Word, Byte, Joined, Dash}

-- a byte and then some more
pub byte_then : (o p q b : List ℕ) (at i r x : ℕ) → at ≤ length o → p ≡ put_at o at (x ∷ []) → i ≡ at + 1 → q ≡ put_at p i b → r ≡ i + length b
    → (q ≡ put_at o at (x ∷ b)) × (r ≡ at + suc (length b))
byte_then o p q b at i r x h e l f m = put_then o p q (x ∷ []) b at i r h e l f m

pub hex_then : (o p q : List ℕ) (at i r x n k : ℕ) → at ≤ length o → p ≡ put_at o at (x ∷ []) → i ≡ at + 1 → q ≡ put_at p i (hex n k) → r ≡ i + k
    → (q ≡ put_at o at (x ∷ hex n k)) × (r ≡ at + (1 + k))
hex_then o p q at i r x n k h e l f m =
    ((byte_then o p q (hex n k) at i r x h e l f (omega (arith, hex_length n k))).0, omega arith)

-- ---- a part

module _ (o p : List ℕ) (at r : ℕ) (part : Part) where
  pub part_put : (q : Part) → part ≡ q → p ≡ put_at o at (part_bytes q) → r ≡ at + length (part_bytes q)
      → (p ≡ put_at o at (part_bytes part)) × (r ≡ at + length (part_bytes part))
  part_put q e f l = rw e (f, l)

  pub part_word : (n : ℕ) → part ≡ Word n → p ≡ put_at o at (32 ∷ hex n 8) → r ≡ at + (1 + 8)
      → (p ≡ put_at o at (part_bytes part)) × (r ≡ at + length (part_bytes part))
  part_word n e f l = part_put (Word n) e f (omega (arith, hex_length n 8))

  pub part_byte : (n : ℕ) → part ≡ Byte n → p ≡ put_at o at (32 ∷ hex n 2) → r ≡ at + (1 + 2)
      → (p ≡ put_at o at (part_bytes part)) × (r ≡ at + length (part_bytes part))
  part_byte n e f l = part_put (Byte n) e f (omega (arith, hex_length n 2))

  pub part_joined : (n : ℕ) → part ≡ Joined n → p ≡ put_at o at (hex n 2) → r ≡ at + 2
      → (p ≡ put_at o at (part_bytes part)) × (r ≡ at + length (part_bytes part))
  part_joined n e f l = part_put (Joined n) e f (omega (arith, hex_length n 2))

pub part_length : (part : Part) → length (part_bytes part) ≤ 21
part_length (Decimal n) = omega (arith, decimal_length n)
part_length (Word n) = omega (arith, hex_length n 8)
part_length (Byte n) = omega (arith, hex_length n 2)
part_length (Joined n) = omega (arith, hex_length n 2)
part_length Dash = omega arith

-- ---- the parts of a line

parts_suc : (parts : List Part) (i : ℕ) (d : Part) → i < length parts
    → said (take (suc i) parts) ≡ said (take i parts) ++ part_bytes (get_or parts i d)
unfolding said
parts_suc [] i d h = absurd (omega (arith, h))
parts_suc (c ∷ parts) zero d h = append-nil (part_bytes c)
parts_suc (c ∷ parts) (suc i) d h =
    ap (λ (l : List ℕ). part_bytes c ++ l) (parts_suc parts i d (omega (arith, h)))
    ∙ sym (append_assoc (part_bytes c) (said (take i parts)) (part_bytes (get_or parts i d)))

pub parts_none : (o : List ℕ) (at : ℕ) (parts : List Part) → (o ≡ put_at o at (said (take 0 parts))) × (at ≡ at + length (said (take 0 parts)))
unfolding said
parts_none o at parts = (put_none o at, omega arith)

pub parts_turn : (o p q : List ℕ) (at place r i : ℕ) (parts : List Part) (d : Part) → at ≤ length o → i < length parts
    → p ≡ put_at o at (said (take i parts)) → place ≡ at + length (said (take i parts))
    → q ≡ put_at p place (part_bytes (get_or parts i d)) → r ≡ place + length (part_bytes (get_or parts i d))
    → (q ≡ put_at o at (said (take (i + 1) parts))) × (r ≡ at + length (said (take (i + 1) parts)))
parts_turn o p q at place r i parts d room h e l f m =
    rw (add-one i, parts_suc parts i d h)
    (put_then o p q (said (take i parts)) (part_bytes (get_or parts i d)) at place r room e l f m)

said_most : (parts : List Part) → length (said parts) ≤ 21 * length parts
unfolding said
said_most [] = omega arith
said_most (c ∷ parts) = simp length-append (omega (arith, part_length c, said_most parts))

pub parts_most : (n : ℕ) (parts : List Part) (m : ℕ) → min n (length parts) ≤ m → length (said (take n parts)) ≤ 21 * m
parts_most n parts m h = omega (arith, said_most (take n parts), length-take n parts)

-- a line has no more parts than parts
pub parts_there : (n m : ℕ) (parts : List Part) → length parts ≡ m → take (min n m) parts ≡ take n parts
parts_there n m parts e = go (leb n m) refl
  where
    go : (b : Bool) → leb n m ≡ b → take (min n m) parts ≡ take n parts
    go true h = let few : min n m ≡ n = omega (arith, leb-true n m h) in rw few
    go false h =
        let all : min n m ≡ m = omega (arith, leb-false n m h) in
        rw all (take_all m parts (omega arith) ∙ sym (take_all n parts (omega (arith, leb-false n m h))))

pub line_put : (o p q s : List ℕ) (at i j r n : ℕ) (line : Line) → length line.row ≡ 14 → n ≡ min line.count 14 → at ≤ length o
    → p ≡ put_at o at (line.letter ∷ []) → i ≡ at + 1
    → q ≡ put_at p i (said (take n line.row)) → j ≡ i + length (said (take n line.row))
    → s ≡ put_at q j (10 ∷ []) → r ≡ j + 1
    → (s ≡ put_at o at (line_bytes line)) × (r ≡ at + length (line_bytes line))
unfolding line_bytes said_line
line_put o p q s at i j r n line whole few h e l f m g d =
    let parts : take n line.row ≡ take line.count line.row = rw few (parts_there line.count 14 line.row whole) in
    let two = byte_then o p q (said (take n line.row)) at i j line.letter h e l f m in
    rw (← parts) (put_then o q s (line.letter ∷ said (take n line.row)) (10 ∷ []) at j r h two.0 two.1 g d)

-- three parts and then some more, of a row that goes on
pub three_more : (a b c : Part) (values rest : List Part) → take (3 + length values) (a ∷ b ∷ c ∷ (values ++ rest)) ≡ a ∷ b ∷ c ∷ values
three_more a b c values rest =
    take-append-add (a ∷ b ∷ c ∷ []) (values ++ rest) (length values) ∙ ap (λ (l : List Part). a ∷ b ∷ c ∷ l) (take-append_seam values rest)
