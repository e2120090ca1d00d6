-- The loop and the returns of the readers.
use Rattle.std.specs.Prelude.{◌≡◌, ℕ, ◌+◌, ◌≤◌, false, length}
use mathlib.Core.Path.{sym}
use native.Mathlib.Omega.{arith}
use borrow.Author.Tests.{ne_eqb}
use lib.ListN.{get_or-eq_default}
use Rattle.state.specs.Plain.{Ehci}
use Rattle.controller.specs.Readers.{has_place}

pub place_beyond : (s : Ehci) (k p : ℕ) → 256 ≤ p → length s.owner ≡ 256 → false ≡ has_place s k p
place_beyond s k p h e =
    let past : length s.owner ≤ p = omega arith in
    rw (get_or-eq_default s.owner 0 past) (sym (ne_eqb 0 (k + 1) (λ q. omega arith)))

-- ---- by the phases alone
