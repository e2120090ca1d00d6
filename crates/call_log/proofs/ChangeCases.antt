-- What a turn of a loop over a row puts, and that each line is short enough.
use Rattle.std.specs.Prelude.{◌≡◌, ℕ, ◌+◌, ◌*◌, ◌/◌, ◌%◌, ◌<◌, ◌≤◌, Bool, true, false, cond, not, ◌&&◌, ◌||◌, eqb, List, [], ◌∷◌, length, get_or}
use mathlib.Core.Path.{refl, sym, ap, ◌∙◌}
use native.Mathlib.Numerals.{add-one}
use native.Mathlib.Omega.{arith}
use lib.Pointwise.{pointwise}
use lib.ListN.{length-append}
use Rattle.common.specs.Rows.{put_at}
use Rattle.pool.specs.Chains.{blank}
use Rattle.register.specs.declared.writes.Write.{Write}
use Rattle.register.specs.Writes.{write_of}
use Rattle.text.specs.Text.{decimal, hex, only_if}
use Rattle.text.proofs.LineLaws.{get_d_any, hidden, only_most, shown}
use Rattle.text.proofs.TextLaws.{decimal_length, hex_length}
use Rattle.descriptor.specs.declared.qtd.QueueTransferDescriptor.{QueueTransferDescriptor}
use Rattle.call_log.specs.Changes.{first_of, frame_change, goes_further, head_change, port_change, record_change, run_ends, same_eight, same_five, same_record, setup_change}
use Rattle.call_log.specs.Lines.{frame_line, head_line, line_bytes, line_of, port_line, record_line, setup_line, write_line}
use Rattle.call_log.specs.declared.line.Line.{Line}

-- ---- how long the lines are

line_three : (letter : ℕ) (a b c : List ℕ) → length (line_of letter (a ∷ b ∷ c ∷ [])) ≡ 5 + length a + length b + length c
unfolding line_of
line_three letter a b c = simp length-append (omega arith)

line_two : (letter : ℕ) (a b : List ℕ) → length (line_of letter (a ∷ b ∷ [])) ≡ 4 + length a + length b
unfolding line_of
line_two letter a b = simp length-append (omega arith)

pub head_line_most : (p i v : ℕ) → length (head_line p i v) ≤ 53
unfolding head_line
head_line_most p i v =
    omega (arith, line_three 72 (decimal p) (decimal i) (hex v 8), decimal_length p, decimal_length i, hex_length v 8)

pub port_line_most : (p s : ℕ) → length (port_line p s) ≤ 44
unfolding port_line
port_line_most p s = omega (arith, line_two 85 (decimal p) (decimal s), decimal_length p, decimal_length s)

-- ---- a change of one place

pub head_most : (i b a : ℕ) → length (head_change i b a) ≤ 53
unfolding head_change
head_most i b a = only_most (not (eqb b a)) (head_line (i / 17) (i % 17) a) 53 (head_line_most (i / 17) (i % 17) a)

pub port_most : (all : Bool) (i b a : ℕ) → length (port_change all i b a) ≤ 44
unfolding port_change
port_most all i b a = only_most (all || not (eqb b a)) (port_line (i + 1) a) 44 (port_line_most (i + 1) a)

pub line_shown : (o : List ℕ) (at : ℕ) (t : Bool) (l p : List ℕ) (r : ℕ) (line : Line) → t ≡ true → line_bytes line ≡ l
    → p ≡ put_at o at (line_bytes line) → r ≡ at + length (line_bytes line)
    → (p ≡ put_at o at (only_if t l)) × (r ≡ at + length (only_if t l))
line_shown o at t l p r line e f g m = rw (← f) (shown o at t (line_bytes line) p r e g m)

module _ (o : List ℕ) (at : ℕ) (same : Bool) (l : List ℕ) where
  -- nothing changed
  pub stays : same ≡ true → (o ≡ put_at o at (only_if (not same) l)) × (at ≡ at + length (only_if (not same) l))
  stays e = hidden o at (not same) l (ap not e)

  -- a line of what changed
  pub shows : (p : List ℕ) (r : ℕ) (line : Line) → same ≡ false → line_bytes line ≡ l → p ≡ put_at o at (line_bytes line) → r ≡ at + length (line_bytes line)
      → (p ≡ put_at o at (only_if (not same) l)) × (r ≡ at + length (only_if (not same) l))
  shows p r line e = line_shown o at (not same) l p r line (ap not e)

-- ---- frames

pub frame_most : (b a : List ℕ) (i : ℕ) → length (frame_change b a i) ≤ 53
unfolding frame_change frame_line
frame_most b a i =
    only_most (run_ends b a i (goes_further b a i)) (frame_line (first_of b a i) i (get_or a i 0)) 53
    (omega (
      arith,
      line_three 70 (decimal (first_of b a i)) (decimal i) (hex (get_or a i 0) 8),
      decimal_length (first_of b a i),
      decimal_length i,
      hex_length (get_or a i 0) 8,
    ))

module _ (b a : List ℕ) (i first : ℕ) (on : Bool) (o : on ≡ goes_further b a i) (f : first ≡ first_of b a i) where
  pub frame_said : (ends : Bool) → ends ≡ run_ends b a i on → only_if ends (frame_line first i (get_or a i 0)) ≡ frame_change b a i
  unfolding frame_change
  frame_said ends e = rw (e, o, f)

  pub first_turn : (r : ℕ) → r ≡ cond on first (i + 1) → r ≡ first_of b a (i + 1)
  unfolding first_of
  first_turn r e = e ∙ rw (o, f) (sym (ap (first_of b a) (add-one i)))

pub first_zero : (b a : List ℕ) → 0 ≡ first_of b a 0
unfolding first_of
first_zero b a = refl

-- ---- setups, writes, records

pub setup_most : (b a : List ℕ) (k : ℕ) → length (setup_change b a k) ≤ 40
unfolding setup_change setup_line line_of hex
setup_most b a k = only_most (not (same_eight b a (8 * k))) _ 40 (simp length-append (omega (arith, decimal_length k)))

pub write_most : (o v : ℕ) → length (write_line o v) ≤ 14
unfolding write_line
write_most o v = omega (arith, line_two 87 (hex o 2) (hex v 8), hex_length o 2, hex_length v 8)

pub record_most : (i : ℕ) (b a : QueueTransferDescriptor) → length (record_change i b a) ≤ 140
unfolding record_change record_line line_of hex
record_most i b a = only_most (not (same_record b a)) _ 140 (simp length-append (omega (arith, decimal_length i)))

pub record_any : (b a : List QueueTransferDescriptor) (i : ℕ) (d e : QueueTransferDescriptor) → i < length b → i < length a
    → record_change i (get_or b i d) (get_or a i e) ≡ record_change i (get_or b i blank) (get_or a i blank)
record_any b a i d e h g = rw (get_d_any b i d blank h, get_d_any a i e blank g)

pub write_any : (ws : List Write) (i : ℕ) (d : Write) → i < length ws
    → write_line (get_or ws i d).offset (get_or ws i d).value
    ≡ write_line (get_or ws i (write_of 0 0)).offset (get_or ws i (write_of 0 0)).value
write_any ws i d h = rw (get_d_any ws i d (write_of 0 0) h)

-- ---- two descriptors are the same by their words

five_and : (a b c d e : Bool) → (a && (b && (c && (d && e)))) ≡ (a && b && c && d && e)
five_and true true true true e = refl
five_and true true true false e = refl
five_and true true false d e = refl
five_and true false c d e = refl
five_and false b c d e = refl

five_same : (a b : List ℕ) → length a ≡ 5 → length b ≡ 5 → pointwise eqb a b ≡ same_five a b
unfolding same_five
five_same [] b h g = absurd (omega (arith, h))
five_same (x0 ∷ []) b h g = absurd (omega (arith, h))
five_same (x0 ∷ x1 ∷ []) b h g = absurd (omega (arith, h))
five_same (x0 ∷ x1 ∷ x2 ∷ []) b h g = absurd (omega (arith, h))
five_same (x0 ∷ x1 ∷ x2 ∷ x3 ∷ []) b h g = absurd (omega (arith, h))
five_same (x0 ∷ x1 ∷ x2 ∷ x3 ∷ x4 ∷ x5 ∷ a) b h g = absurd (omega (arith, h))
five_same (x0 ∷ x1 ∷ x2 ∷ x3 ∷ x4 ∷ []) [] h g = absurd (omega (arith, g))
five_same (x0 ∷ x1 ∷ x2 ∷ x3 ∷ x4 ∷ []) (y0 ∷ []) h g = absurd (omega (arith, g))
five_same (x0 ∷ x1 ∷ x2 ∷ x3 ∷ x4 ∷ []) (y0 ∷ y1 ∷ []) h g = absurd (omega (arith, g))
five_same (x0 ∷ x1 ∷ x2 ∷ x3 ∷ x4 ∷ []) (y0 ∷ y1 ∷ y2 ∷ []) h g = absurd (omega (arith, g))
five_same (x0 ∷ x1 ∷ x2 ∷ x3 ∷ x4 ∷ []) (y0 ∷ y1 ∷ y2 ∷ y3 ∷ []) h g = absurd (omega (arith, g))
five_same (x0 ∷ x1 ∷ x2 ∷ x3 ∷ x4 ∷ []) (y0 ∷ y1 ∷ y2 ∷ y3 ∷ y4 ∷ y5 ∷ b) h g = absurd (omega (arith, g))
five_same (x0 ∷ x1 ∷ x2 ∷ x3 ∷ x4 ∷ []) (y0 ∷ y1 ∷ y2 ∷ y3 ∷ y4 ∷ []) h g = ap (λ (t : Bool). eqb x0 y0 && (eqb x1 y1 && (eqb x2 y2 && (eqb x3 y3 && t)))) (and_true (eqb x4 y4)) ∙ five_and (eqb x0 y0) (eqb x1 y1) (eqb x2 y2) (eqb x3 y3) (eqb x4 y4)
  where
    and_true : (t : Bool) → (t && true) ≡ t
    and_true true = refl
    and_true false = refl

pub record_same : (a b : QueueTransferDescriptor) → length a.pages ≡ 5 → length b.pages ≡ 5 → length a.upper ≡ 5 → length b.upper ≡ 5
    → (eqb a.next b.next && (eqb a.alternate b.alternate && (eqb a.token b.token && (pointwise eqb a.pages b.pages && pointwise eqb a.upper b.upper))))
    ≡ same_record a b
unfolding same_record
record_same a b p q u v =
    five_and (eqb a.next b.next) (eqb a.alternate b.alternate) (eqb a.token b.token) (pointwise eqb a.pages b.pages) (pointwise eqb a.upper b.upper)
    ∙ rw (five_same a.pages b.pages p q, five_same a.upper b.upper u v)
