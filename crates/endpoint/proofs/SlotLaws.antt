-- Slots of a state that is accepted: the head of an open one is in the row.
use Rattle.std.specs.Prelude.{◌≡◌, ℕ, ◌+◌, ◌*◌, ◌<◌, ◌≤◌, true, List, length}
use native.Mathlib.Omega.{arith}
use Rattle.state.specs.Plain.{Ehci}
use Rattle.controller.specs.Lent.{accepts_of, lengths}
use Rattle.controller.specs.Readers.{is_opened}
use Rattle.controller.proofs.LentLaws.{accepts_tells}
use Rattle.controller.proofs.ReaderLaws.{open_within}

module _ (s : Ehci) (pool : ℕ) (h : List ℕ) (f u : ℕ) (k : ℕ) where
  -- the 17 words of a slot below E
  pub below_room : accepts_of s (lengths pool (length h) f u) ≡ true → k < s.settings.endpoints
      → (k < 32) × (k + 1 ≤ 32) × (17 * (k + 1) + 17 ≤ length h)
  below_room e lt =
      let a = accepts_tells s (lengths pool (length h) f u) e in
      let most = a.ranges.good.endpoints_most in
      let fit = a.fitting.heads_fit in (omega arith, omega arith, omega arith)

  pub open_room : accepts_of s (lengths pool (length h) f u) ≡ true → is_opened s k ≡ true
      → (k < 32) × (k + 1 ≤ 32) × (17 * (k + 1) + 17 ≤ length h)
  open_room e o = below_room e (open_within s k (accepts_tells s (lengths pool (length h) f u) e).ranges o)
