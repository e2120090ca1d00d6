-- The returns of the reader of a record.
use Rattle.std.specs.Prelude.{◌≡◌, ℕ, List, length, Option, None}
use borrow.Author.Tests.{eq-eqb, ne_eqb}
use Rattle.call_log.specs.Fields.{fields_of}
use Rattle.call_log.specs.Records.{entry_of, entry_from, judged_as}
use Rattle.call_log.specs.declared.fields.Fields.{Fields}
use Rattle.call_log.specs.declared.record.Entry.{Entry}

-- no call has another number
pub judged_none : (n : ℕ) (f : Fields) → (n ≡ 1 → ⊥) → (n ≡ 2 → ⊥) → (n ≡ 3 → ⊥) → (n ≡ 4 → ⊥) → (n ≡ 5 → ⊥) → (n ≡ 6 → ⊥) → (n ≡ 7 → ⊥) → (n ≡ 8 → ⊥) → (n ≡ 9 → ⊥) → (n ≡ 10 → ⊥) → (n ≡ 11 → ⊥) → (n ≡ 12 → ⊥) → (n ≡ 13 → ⊥) → (n ≡ 14 → ⊥) → (n ≡ 15 → ⊥) → (n ≡ 16 → ⊥) → (n ≡ 17 → ⊥) → (n ≡ 18 → ⊥) → (n ≡ 19 → ⊥) → (n ≡ 20 → ⊥) → (n ≡ 21 → ⊥) → None ≡ judged_as n f
unfolding judged_as
judged_none n f h1 h2 h3 h4 h5 h6 h7 h8 h9 h10 h11 h12 h13 h14 h15 h16 h17 h18 h19 h20 h21 =
    rw (ne_eqb n 1 h1, ne_eqb n 2 h2, ne_eqb n 3 h3, ne_eqb n 4 h4, ne_eqb n 5 h5, ne_eqb n 6 h6, ne_eqb n 7 h7, ne_eqb n 8 h8, ne_eqb n 9 h9, ne_eqb n 10 h10, ne_eqb n 11 h11, ne_eqb n 12 h12, ne_eqb n 13 h13, ne_eqb n 14 h14, ne_eqb n 15 h15, ne_eqb n 16 h16, ne_eqb n 17 h17, ne_eqb n 18 h18, ne_eqb n 19 h19, ne_eqb n 20 h20, ne_eqb n 21 h21)

pub judged_at : (n k : ℕ) (f : Fields) (r : Option Entry) → n ≡ k → r ≡ judged_as k f → r ≡ judged_as n f
judged_at n k f r e h = rw e h

pub entry_cut : (bs : List ℕ) → (length bs ≡ 64 → ⊥) → None ≡ entry_of bs
unfolding entry_of
entry_cut bs h = rw (ne_eqb (length bs) 64 h)

pub entry_whole : (bs : List ℕ) (f : Fields) (r : Option Entry) → length bs ≡ 64 → f ≡ fields_of bs → r ≡ entry_from f → r ≡ entry_of bs
unfolding entry_of
entry_whole bs f r h e g = rw (eq-eqb (length bs) 64 h, ← e) g
