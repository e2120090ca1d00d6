-- 000's three faults, as machines made from `core`, and a test for the picture of a boundary.
use Prim.Native.Nat.{ℕ}
use mathlib.Core.Path.{◌≡◌, ap, ◌∙◌}
use mathlib.Core.Bool.{Bool, true, false, not, ◌&&◌, ◌||◌, or-true}
use mathlib.Core.List.{[], ◌∷◌, ◌++◌}
use lib.Dec.{eqb}
use Rattle.register.specs.Bits.{any_of}
use Rattle.settings.specs.declared.settings.Settings.{Settings}
use Rattle.state.specs.State.{with_bell}
use Rattle.state.specs.Plain.{Ehci}
use Rattle.ehci.specs.Door.{Applied, applied}
use Rattle.promises.specs.Runs.{History, Machine, Turn, World, in_plain, core}
use Rattle.promises.specs.Events.{rings}
use Rattle.promises.specs.Bells.{Boundary, none, reads, unlinks_of}
use Rattle.refutations.proofs.WrongUp.{Plainly, is_drain, reads_advance}

-- ---- machines

-- the same but for its note
abbrev pub noting : ℕ → Ehci → Ehci
noting n s = with_bell s n s.doorbell s.unanswered

abbrev pub note_before : Bool → ℕ → World → World
note_before true n w = record { state = noting n w.state; rows = w.rows }
note_before false n w = w

abbrev pub note_after : Bool → Applied → Applied
note_after true a =
    applied (record { state = noting 1 a.reply.state; answer = a.reply.answer; writes = a.reply.writes }) a.pool a.heads a.frames a.setups
note_after false a = a

-- the note stays where a port change shares the drain: the next drain counts it again
abbrev pub twice : Machine in_plain
twice w c = note_after (is_drain c && (eqb w.state.noted 1 && any_of w.state.pending 4)) (core w c)

-- an advance is noted with the doorbell down, too; such a note waits for the next ring
abbrev pub is_early : World → Bool
is_early w = eqb w.state.noted 1 && eqb w.state.doorbell 0

abbrev pub early : Machine in_plain
early w c = note_after (reads_advance c || is_early w) (core (note_before (is_early w) 0 w) c)

-- a drain counts any pending advance bit
abbrev pub any : Machine in_plain
any w c = core (note_before (is_drain c && (eqb w.state.doorbell 1 && any_of w.state.pending 0x20)) 1 w) c

-- ---- a test for the picture of a boundary

module _ (s : Settings) (k : ℕ) where
  abbrev pub ring? : History → Bool
  ring? [] = false
  ring? (t ∷ h) = rings t || (not (reads s t) && (not (unlinks_of s k t) && ring? h))

  abbrev pub boundary? : History → Bool
  boundary? [] = false
  boundary? (t ∷ h) = not (unlinks_of s k t) && ((reads s t && ring? h) || boundary? h)

  ring_found : (between : History) (ring : Turn) (before : History) → rings ring ≡ true → none (reads s) between → none (unlinks_of s k) between → ring? (between ++ ring ∷ before) ≡ true
  ring_found [] ring before r q u = rw r
  ring_found (t ∷ b) ring before r q u = rw (q.0, u.0, ring_found b ring before r q.1 u.1) (or-true (rings t))

  boundary_found : (since : History) (ack : Turn) (between : History) (ring : Turn) (before : History) → rings ring ≡ true → reads s ack ≡ true → none (reads s) between
      → none (unlinks_of s k) (since ++ ack ∷ between) → boundary? (since ++ ack ∷ between ++ ring ∷ before) ≡ true
  boundary_found [] ack between ring before r a q u = rw (u.0, a, ring_found between ring before r q u.1)
  boundary_found (t ∷ since) ack between ring before r a q u =
      rw (u.0, boundary_found since ack between ring before r a q u.1) (or-true (reads s t && ring? (since ++ ack ∷ between ++ ring ∷ before)))

  pub found : (h : History) → Boundary s k h → boundary? h ≡ true
  found h b = ap boundary? b.picture ∙ boundary_found b.since b.ack b.between b.ring b.before b.rung b.read b.first b.unlinked_by_then

-- ---- with no note, and in no drain and no acknowledgment that reads the advance bit, they do as `core` does

pub twice_plainly : Plainly twice
twice_plainly w c d r n = rw d

pub early_plainly : Plainly early
early_plainly w c d r n = rw (r, n)

pub any_plainly : Plainly any
any_plainly w c d r n = rw d
