-- The lines of a listing, one put after the other.
use Prim.Native.Nat.{ℕ, suc, ◌+◌, ◌*◌, ◌≤◌, ◌<◌}
use mathlib.Core.Path.{◌≡◌, ap, ◌∙◌}
use mathlib.Core.List.{List, [], ◌∷◌, ◌++◌, append_assoc, append-nil}
use native.Mathlib.Numerals.{add-one}
use native.Mathlib.Omega.{arith}
use lib.ListN.{get_or, length, take}
use lib.Seq.{length-take-le, take_all, take-suc}
use Rattle.descriptor.specs.declared.qtd.QueueTransferDescriptor.{QueueTransferDescriptor}
use Rattle.common.specs.Rows.{put_at}
use Rattle.text.specs.Text.{decimal, hex}
use Rattle.text.proofs.Puts.{put_then}
use Rattle.text.proofs.TextLaws.{decimal_length, hex_length}
use Rattle.job_sheet.specs.Sheets.{joined}
use Rattle.job_sheet.specs.Listing.{descriptor_line, endpoint_line, number_field, request_line, word_field}
use Rattle.job_sheet.proofs.Tables.{joined_append, joined_length}

pub number_length : (n : ℕ) → length (number_field n) ≤ 21
unfolding number_field
number_length n = omega (arith, decimal_length n)

pub word_length : (w : ℕ) → length (word_field w) ≡ 9
unfolding word_field
word_length w = ap suc (hex_length w 8)

pub words_length : (ws : List ℕ) → length (joined word_field ws) ≡ 9 * length ws
words_length ws = joined_length word_field 9 word_length ws

-- the place after, by the bytes that were put
pub word_end : (at w : ℕ) → at + 9 ≡ at + length (word_field w)
word_end at w = rw (word_length w)

pub words_end : (at : ℕ) (ws : List ℕ) → at + 9 * length ws ≡ at + length (joined word_field ws)
words_end at ws = rw (words_length ws)

pub words_so_far : (ws : List ℕ) (k : ℕ) → k ≤ length ws → length (joined word_field (take k ws)) ≡ 9 * k
words_so_far ws k h = words_length (take k ws) ∙ rw (length-take-le k ws h)

-- what is put so far, and the place that it comes to
abbrev pub Put : List ℕ → ℕ → List ℕ → List ℕ → ℕ → Type 0
Put o at a p i = (p ≡ put_at o at a) × (i ≡ at + length a)

module _ (o : List ℕ) (at : ℕ) (h : at ≤ length o) where
  -- one more put
  pub then : (a p b q : List ℕ) (i r : ℕ) → Put o at a p i → Put p i b q r → Put o at (a ++ b) q r
  then a p b q i r f g = put_then o p q a b at i r h f.0 f.1 g.0 g.1

  pub number_put : (p q : List ℕ) (i r n : ℕ) → Put o at (32 ∷ []) p i → Put p i (decimal n) q r → Put o at (number_field n) q r
  unfolding number_field
  number_put p q i r n f g = then (32 ∷ []) p (decimal n) q i r f g

  pub word_put : (p q : List ℕ) (i r w : ℕ) → Put o at (32 ∷ []) p i → q ≡ put_at p i (hex w 8) → r ≡ i + 8
      → (q ≡ put_at o at (word_field w)) × (r ≡ at + 9)
  unfolding word_field
  word_put p q i r w f g l =
      ((then (32 ∷ []) p (hex w 8) q i r f (g, l ∙ rw (hex_length w 8))).0, omega (arith, f.1, l))

  pub endpoint_put : (p q s t : List ℕ) (i j l r k answer : ℕ) → Put o at (69 ∷ []) p i → Put p i (number_field k) q j
      → Put q j (number_field answer) s l → Put s l (10 ∷ []) t r → Put o at (endpoint_line k answer) t r
  unfolding endpoint_line
  endpoint_put p q s t i j l r k answer e f g n =
      let a = then (69 ∷ []) p (number_field k) q i j e f in
      let b = then (69 ∷ number_field k) q (number_field answer) s j l a g in
      simp append_assoc at (then (69 ∷ (number_field k ++ number_field answer)) s (10 ∷ []) t l r b n)

  pub request_put : (p q s t u : List ℕ) (i j l v r k answer id : ℕ) → Put o at (82 ∷ []) p i → Put p i (number_field k) q j
      → Put q j (number_field answer) s l → Put s l (number_field id) t v → Put t v (10 ∷ []) u r → Put o at (request_line k answer id) u r
  unfolding request_line
  request_put p q s t u i j l v r k answer id e f g d n =
      let a = then (82 ∷ []) p (number_field k) q i j e f in
      let b = then (82 ∷ number_field k) q (number_field answer) s j l a g in
      let c = then (82 ∷ (number_field k ++ number_field answer)) s (number_field id) t l v b d in
      simp append_assoc at (then (82 ∷ ((number_field k ++ number_field answer) ++ number_field id)) t (10 ∷ []) u v r c n)

  pub descriptor_put : (p q s t u x : List ℕ) (i j l v y r place : ℕ) (d : QueueTransferDescriptor) → Put o at (68 ∷ []) p i
      → Put p i (number_field place) q j → Put q j (word_field d.token) s l → Put s l (word_field d.next) t v
      → Put t v (joined word_field d.pages) u y → Put u y (10 ∷ []) x r → Put o at (descriptor_line place d) x r
  unfolding descriptor_line
  descriptor_put p q s t u x i j l v y r place d e f g m w n =
      let a = then (68 ∷ []) p (number_field place) q i j e f in
      let b = then (68 ∷ number_field place) q (word_field d.token) s j l a g in
      let c = then (68 ∷ (number_field place ++ word_field d.token)) s (word_field d.next) t l v b m in
      let z = then (68 ∷ ((number_field place ++ word_field d.token) ++ word_field d.next)) t (joined word_field d.pages) u v y c w in
      simp append_assoc at
      (then (68 ∷ (((number_field place ++ word_field d.token) ++ word_field d.next) ++ joined word_field d.pages)) u (10 ∷ []) x y r z n)

  -- a turn of the loop over the words
  pub word_turn : (ws p q : List ℕ) (i k r : ℕ) → k < length ws → Put o at (joined word_field (take k ws)) p i
      → q ≡ put_at p i (word_field (get_or ws k 0)) → r ≡ i + 9 → Put o at (joined word_field (take (k + 1) ws)) q r
  unfolding joined
  word_turn ws p q i k r l f g e =
      let more : joined word_field (take (k + 1) ws) ≡ joined word_field (take k ws) ++ word_field (get_or ws k 0)
      = rw (add-one k, take-suc ws k 0 l) (joined_append word_field (take k ws) (get_or ws k 0 ∷ []) ∙ rw append-nil) in
      rw more (then (joined word_field (take k ws)) p (word_field (get_or ws k 0)) q i r f (g, e ∙ rw (word_length (get_or ws k 0))))

  pub words_done : (ws p : List ℕ) (i k : ℕ) → length ws ≤ k → Put o at (joined word_field (take k ws)) p i
      → (p ≡ put_at o at (joined word_field ws)) × (i ≡ at + 9 * length ws)
  words_done ws p i k l f =
      let all = take_all k ws l in
      (rw all at f.0, (rw all at f.1) ∙ rw (words_length ws))
