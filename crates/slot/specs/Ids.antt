-- Document 01: "Ids per slot start at 1 when it opens; after 2^64 − 1 comes 1."
use Rattle.std.specs.Prelude.{ℕ, ◌+◌, ◌-◌, ◌^◌, cond, eqb}

unfoldable pub after_id : ℕ → ℕ
after_id id = cond (eqb id (2 ^ 64 - 1)) 1 (id + 1)
