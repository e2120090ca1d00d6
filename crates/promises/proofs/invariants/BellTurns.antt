-- What the history says of slot k after a turn that submits to it, unlinks it, or collects it.
use Prim.Native.Nat.{ℕ, ◌+◌, ◌%◌}
use mathlib.Core.Bool.{true, false}
use mathlib.Core.List.{◌∷◌}
use mathlib.Core.Path.{◌≡◌, refl, sym, ◌∙◌}
use native.Mathlib.Omega.{arith}
use borrow.Author.Tests.{eq-eqb}
use lib.Dec.{eqb}
use Rattle.settings.specs.declared.settings.Settings.{Settings}
use Rattle.request.specs.declared.judge.TransferRequest.{TransferRequest}
use Rattle.common.specs.Kinds.{is_interrupt}
use Rattle.pipe.specs.declared.endpoints.Pipe.{Pipe}
use Rattle.pipe.specs.declared.endpoints.Request.{Request}
use Rattle.promises.specs.Runs.{History, Turn}
use Rattle.promises.specs.Events.{Submits, Unlinks, Parts, Collects, event}
use Rattle.promises.specs.Bells.{asked, counted, kind_at, linked, newest_id, number, parted, parting, unlinking}
use Rattle.promises.proofs.invariants.BellSlots.{Apart, Free, Going, Joined}

module _ (s : Settings) (k : ℕ) (t : Turn) (h : History) where
  itself : eqb k k ≡ true
  itself = eq-eqb k k refl

  -- it is submitted to
  pub joined_now : (id : ℕ) (q : TransferRequest) → event s t ≡ Submits k id q → (p : Pipe) (r : Request) → q.kind ≡ p.kind → id ≡ r.id → Joined s k (t ∷ h) p r
  unfolding linked unlinking parting kind_at newest_id
  joined_now id q e p r kind same = record {
    on = rw (e, itself);
    in_ring = rw (e, itself);
    in_frames = rw (e, itself);
    kind_is = rw (e, itself) kind;
    id_is = rw (e, itself) same;
  }

  -- it leaves the ring
  pub going_now : event s t ≡ Unlinks k → (p : Pipe) (r q : Request) → Joined s k h p r → q.id ≡ r.id → is_interrupt p.kind ≡ false → (u : ℕ) → asked s h ≡ counted s h + u
      → counted s (t ∷ h) ≡ counted s h → Going s k (t ∷ h) (u + 1) p q (u + 1)
  unfolding linked unlinking parting kind_at newest_id number
  going_now e p r q j same ring u owing still = record {
    off = rw (e, itself);
    going = rw (e, itself);
    in_frames = rw e j.in_frames;
    kind_is = rw e j.kind_is;
    id_is = rw e (j.id_is ∙ sym same);
    rings_for = ring;
    left = rw (e, itself, still) (omega (arith, owing));
    fits = omega arith;
  }

  -- it leaves the frame list
  pub apart_now_lem : (frame : ℕ) → event s t ≡ Parts k frame → (p : Pipe) (r q : Request) → Joined s k h p r → q.id ≡ r.id → is_interrupt p.kind ≡ true → Apart s k (t ∷ h) p q (frame % 16384)
  unfolding linked unlinking parting kind_at newest_id parted
  apart_now_lem frame e p r q j same frames = record {
    off = rw (e, itself);
    in_ring = rw e j.in_ring;
    apart = rw (e, itself);
    kind_is = rw e j.kind_is;
    id_is = rw e (j.id_is ∙ sym same);
    counts_frames = frames;
    from = rw (e, itself);
  }

  -- it is collected
  pub free_now : (id frame : ℕ) → event s t ≡ Collects k id frame → linked s k h ≡ false → Free s k (t ∷ h)
  unfolding linked unlinking parting
  free_now id frame e off = record { off = rw e off; in_ring = rw (e, itself); in_frames = rw (e, itself) }
