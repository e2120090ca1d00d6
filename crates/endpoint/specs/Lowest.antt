-- Document 01: "the lowest closed slot is used".
use Rattle.std.specs.Prelude.{ℕ, zero, suc, cond, List, ◌==◌, slice_index}

-- the first of n slots, from slot k on, whose phase is 0; the one after them where none is
unfoldable pub closed_from : List ℕ → ℕ → ℕ → ℕ
closed_from phases k zero = k
closed_from phases k (suc n) = cond (slice_index phases k == 0) k (closed_from phases (suc k) n)

-- of the slots below E; E where none is closed
abbrev pub lowest_closed : List ℕ → ℕ → ℕ
lowest_closed phases E = closed_from phases 0 E
