-- Bytes put after bytes are one put of both.
use Prim.Native.Nat.{ℕ, ◌+◌, ◌≤◌, ◌<◌}
use mathlib.Core.Path.{◌≡◌, sym, ◌∙◌}
use mathlib.Core.List.{List, [], ◌∷◌, ◌++◌, append_assoc}
use native.Mathlib.Numerals.{add-one}
use native.Mathlib.Omega.{arith}
use lib.ListN.{drop, length, length-append, length-drop, set, take, take-append-drop}
use lib.Seq.{drop_at, drop-drop, length-take-le, set_split, take_at}
use Rattle.common.specs.Rows.{put_at}

-- nothing put changes nothing
pub put_none : (o : List ℕ) (at : ℕ) → o ≡ put_at o at []
unfolding put_at
put_none o at =
    let none : at + 0 ≡ at = omega arith in
    sym (rw none (take-append-drop at o))

pub put_one : (o : List ℕ) (at x : ℕ) → at < length o → set o at x ≡ put_at o at (x ∷ [])
unfolding put_at
put_one o at x h = rw (set_split o at x h, add-one at)

put_head_lem : (o a : List ℕ) (at : ℕ) → at ≤ length o → length (take at o ++ a) ≡ at + length a
put_head_lem o a at h = rw (length-append, length-take-le at o h)

pub put_put : (o a b : List ℕ) (at : ℕ) → at ≤ length o → put_at (put_at o at a) (at + length a) b ≡ put_at o at (a ++ b)
unfolding put_at
put_put o a b at h =
    let rest = drop (at + length a) o in
    let head = take at o ++ a in
    let whole : take at o ++ (a ++ rest) ≡ head ++ rest = sym (append_assoc (take at o) a rest) in
    let front : take (at + length a) (head ++ rest) ≡ head = take_at head rest (at + length a) (put_head_lem o a at h) in
    let behind : drop (at + length a) (head ++ rest) ≡ rest = drop_at head rest (at + length a) (put_head_lem o a at h) in
    let sum : at + length a + length b ≡ at + length (a ++ b) = simp length-append (omega arith) in
    let back : drop (at + length a + length b) (head ++ rest) ≡ drop (at + length (a ++ b)) o
    = sym (drop-drop (length b) (at + length a) (head ++ rest)) ∙ rw behind (drop-drop (length b) (at + length a) o ∙ rw sum) in
    rw (whole, front, back) (simp append_assoc)

pub length_put : (o a : List ℕ) (at : ℕ) → at + length a ≤ length o → length (put_at o at a) ≡ length o
unfolding put_at
length_put o a at h =
    let low : at ≤ length o = omega arith in
    simp (length-append, length-drop, length-take-le at o low) (omega arith)

-- some bytes and then some more, each from the place that the ones before came to
pub put_then : (o p q a b : List ℕ) (at i r : ℕ) → at ≤ length o → p ≡ put_at o at a → i ≡ at + length a → q ≡ put_at p i b → r ≡ i + length b
    → (q ≡ put_at o at (a ++ b)) × (r ≡ at + length (a ++ b))
put_then o p q a b at i r h e l f m =
    (f ∙ rw (e, l) (put_put o a b at h), m ∙ rw l (simp length-append (omega arith)))
