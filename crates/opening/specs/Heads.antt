-- The lent row of heads: a head has 17 words; place 0 is the ring head's, slot k's is place k + 1.
use Rattle.std.specs.Prelude.{ℕ, ◌+◌, ◌*◌, List, slice_index, slice_set}

-- word i of the head at a place
abbrev pub word_place : ℕ → ℕ → ℕ
word_place place i = 17 * place + i

abbrev pub head_word : List ℕ → ℕ → ℕ → ℕ
head_word heads place i = slice_index heads (word_place place i)

abbrev pub with_head_word : List ℕ → ℕ → ℕ → ℕ → List ℕ
with_head_word heads place i word = slice_set heads (word_place place i) word
