-- Pictures of the past, and how they grow by a turn.
use mathlib.Core.Path.{◌≡◌, refl, ap}
use mathlib.Core.List.{[], ◌∷◌, ◌++◌}
use mathlib.Core.Bool.{true, false, false≢true}
use Prim.Native.Nat.{ℕ}
use Rattle.settings.specs.declared.settings.Settings.{Settings}
use Rattle.promises.specs.Runs.{History, Turn}
use Rattle.promises.specs.Events.{rings, Event, Other, Reads, Drains, Submits, Unlinks, Parts, Collects}
use Rattle.promises.specs.Bells.{Boundary, none, reads, unlinks_of, is_drains, is_reads, is_submits_of, is_unlinks, is_unlinks_of}

-- an unlink of k is nothing else
pub an_unlink : (k : ℕ) (x : Event) → is_unlinks_of k x ≡ true → (is_unlinks x ≡ true) × (is_reads x ≡ false) × (is_drains x ≡ false) × (is_submits_of k x ≡ false)
an_unlink k Other e = absurd (false≢true e)
an_unlink k Reads e = absurd (false≢true e)
an_unlink k Drains e = absurd (false≢true e)
an_unlink k (Submits j id r) e = absurd (false≢true e)
an_unlink k (Parts j frame) e = absurd (false≢true e)
an_unlink k (Collects j id frame) e = absurd (false≢true e)
an_unlink k (Unlinks j) e = (refl, refl, refl, refl)

-- a ring at or after k's last unlink, and no acknowledgment has read the advance bit since
pub record Ringing (s : Settings) (k : ℕ) (h : History) : Type 0 where
  pub between : History
  pub ring : Turn
  pub before : History
  pub picture : h ≡ between ++ ring ∷ before
  pub rung : rings ring ≡ true
  pub unread : none (reads s) between
  pub unlinked_by_then : none (unlinks_of s k) between

module _ (s : Settings) (k : ℕ) (t : Turn) (h : History) where
  pub rung_now : rings t ≡ true → Ringing s k (t ∷ h)
  rung_now r = record { between = []; ring = t; before = h; picture = refl; rung = r; unread = tt; unlinked_by_then = tt }

  module _ (other : unlinks_of s k t ≡ false) where
    pub rings_on : reads s t ≡ false → Ringing s k h → Ringing s k (t ∷ h)
    rings_on r g = record {
      between = t ∷ g.between;
      ring = g.ring;
      before = g.before;
      picture = ap (λ (x : History). t ∷ x) g.picture;
      rung = g.rung;
      unread = (r, g.unread);
      unlinked_by_then = (other, g.unlinked_by_then);
    }

    pub answers : reads s t ≡ true → Ringing s k h → Boundary s k (t ∷ h)
    answers r g = record {
      since = [];
      ack = t;
      between = g.between;
      ring = g.ring;
      before = g.before;
      picture = ap (λ (x : History). t ∷ x) g.picture;
      rung = g.rung;
      read = r;
      first = g.unread;
      unlinked_by_then = (other, g.unlinked_by_then);
    }

    pub longer : Boundary s k h → Boundary s k (t ∷ h)
    longer b = record {
      since = t ∷ b.since;
      ack = b.ack;
      between = b.between;
      ring = b.ring;
      before = b.before;
      picture = ap (λ (x : History). t ∷ x) b.picture;
      rung = b.rung;
      read = b.read;
      first = b.first;
      unlinked_by_then = (other, b.unlinked_by_then);
    }
