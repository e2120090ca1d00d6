-- The returns and the loop of the doorbell's functions.
use Rattle.std.specs.Prelude.{◌≡◌, ℕ, ◌<◌, ◌≤◌}
use borrow.Author.Tests.{eq-eqb, ne_eqb, le-leb, lt-leb}
use Rattle.register.specs.Bits.{with_bits}
use Rattle.register.specs.Writes.{and_then}
use Rattle.register.specs.declared.writes.Writes.{Writes}
use Rattle.schedule.specs.declared.bell.Bell.{Bell}
use Rattle.schedule.specs.declared.bell.Rung.{Rung}
use Rattle.schedule.specs.Bell.{ring_word, ring_of}

module _ (b : Bell) (w : Writes) (cmd : ℕ) where
  pub rings : (v : ℕ) (w' : Writes) → b.doorbell ≡ 0 → 1 ≤ b.unanswered → v ≡ with_bits cmd 64 → w' ≡ and_then w 0 v
      → ◌≡◌ {A = Rung}
      (record { bell = record { noted = b.noted; doorbell = 1; unanswered = b.unanswered }; writes = w' }) (ring_of b w cmd)
  unfolding ring_of ring_word
  rings v w' d u ev ew = rw (ew, ev, eq-eqb b.doorbell 0 d, le-leb 1 b.unanswered u)

  pub rings_none : b.doorbell ≡ 0 → b.unanswered < 1 → ◌≡◌ {A = Rung} (record { bell = b; writes = w }) (ring_of b w cmd)
  unfolding ring_of
  rings_none d u = rw (eq-eqb b.doorbell 0 d, lt-leb 1 b.unanswered u)

  pub rings_up : (b.doorbell ≡ 0 → ⊥) → ◌≡◌ {A = Rung} (record { bell = b; writes = w }) (ring_of b w cmd)
  unfolding ring_of
  rings_up d = rw (ne_eqb b.doorbell 0 d)
