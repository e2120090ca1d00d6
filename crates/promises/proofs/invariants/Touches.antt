-- What a call does to what is pending, masked and enabled and to bring-up's step, and what it writes, by the state that it finds.
use Rattle.std.specs.Prelude.{Err, Result}
use Prim.Native.Nat.{ℕ, ◌+◌}
use mathlib.Core.Bool.{Bool, true, false, ◌&&◌, not, cond}
use mathlib.Core.List.{List, []}
use mathlib.Core.Path.{◌≡◌, refl, sym, ap, ◌∙◌}
use lib.Dec.{eqb}
use Rattle.register.specs.Bits.{with_bits}
use Rattle.register.specs.Writes.{and_then, list_of, no_writes}
use Rattle.register.specs.declared.writes.Write.{Write}
use Rattle.common.specs.declared.kinds.EndpointType.{EndpointType}
use Rattle.common.specs.declared.kinds.EndpointType.TheVariants.{Control, Isochronous, Bulk, Interrupt}
use Rattle.state.specs.Plain.{Ehci}
use Rattle.common.specs.declared.answer.Refusal.{Refusal}
use Rattle.pipe.specs.Endpoints.{flag_number}
use Rattle.controller.specs.declared.lent.Readings.{Readings}
use Rattle.schedule.specs.Bell.{must_ring, ring_of, ring_word, rung_if, unlinked_of, some_ring}
use Rattle.schedule.specs.declared.bell.Bell.{Bell}
use Rattle.schedule.proofs.BellLaws.{ring_set}
use Rattle.collection.specs.Unlinks.{bounded_of}
use Rattle.ehci.specs.declared.call.Call.{Call}
use Rattle.ehci.specs.Door.{Applied}
use Rattle.promises.specs.Runs.{World}
use Rattle.promises.specs.Events.{is_done}
use Rattle.promises.specs.Registers as R
use Rattle.promises.specs.Registers.{Access, None, Starts, Steps, Submits, Leaves, Acknowledges, Drains, Rearms, Enables, Disables, access_of, acknowledged, flag_after, masked_after, pending_after, plainly, read_after, ring, step_writes, usbintr}
use Rattle.promises.proofs.effects.EffectDoor.{leaves}
use Rattle.promises.proofs.effects.RefusalNumbers.{undone}
use Rattle.ehci.specs.declared.reply.Answered.{Answered}

-- what a call writes, by the state that it finds and by whether it rings
abbrev pub writes_by : World → Applied → Access → List Write
writes_by w a None = []
writes_by w a Starts = cond (is_done a.reply.answer) (usbintr 0) []
writes_by w a (Steps v) = cond (is_done a.reply.answer) (step_writes w.state.settings w.state.step v) []
writes_by w a (Submits v) = cond (is_done a.reply.answer) (plainly (with_bits v 0x31)) []
writes_by w a (Leaves v) = cond (some_ring (list_of a.reply.writes)) (ring v) []
writes_by w a (Acknowledges x) = cond (is_done a.reply.answer) (R.acknowledge_writes x (acknowledged x)) []
writes_by w a (Drains v) = cond (some_ring (list_of a.reply.writes)) (ring v) []
writes_by w a Rearms =
    cond (is_done a.reply.answer && not (eqb w.state.masked 0)) (usbintr (cond (not (eqb w.state.enabled 0)) 0x27 0)) []
writes_by w a Enables = cond (is_done a.reply.answer) (usbintr 0x27) []
writes_by w a Disables = cond (is_done a.reply.answer) (usbintr 0) []

pub record Touches (w : World) (c : Call) (a : Applied) : Type 0 where
  pub pending : a.reply.state.pending ≡ cond (is_done a.reply.answer) (pending_after (access_of c) w.state.pending) w.state.pending
  pub masked : a.reply.state.masked ≡ cond (is_done a.reply.answer) (masked_after (access_of c) w.state.masked) w.state.masked
  pub enabled : (b : Bool) → w.state.enabled ≡ flag_number b → a.reply.state.enabled ≡ flag_number (cond (is_done a.reply.answer) (flag_after (access_of c) b) b)
  pub step : a.reply.state.step ≡ read_after (access_of c) a.reply.answer w.state.step
  pub wrote : list_of a.reply.writes ≡ writes_by w a (access_of c)

cond_same : {A : Type 0} (b : Bool) (x y : A) → x ≡ y → cond b x y ≡ y
cond_same true x y e = e
cond_same false x y e = refl

-- what a call leaves as it was
pub record Level (old new : Ehci) : Type 0 where
  pub pending : new.pending ≡ old.pending
  pub masked : new.masked ≡ old.masked
  pub enabled : new.enabled ≡ old.enabled
  pub step : new.step ≡ old.step

-- a call that asks for nothing of this
pub record Plain (x : Access) : Type 0 where
  pub pending : (p : ℕ) → pending_after x p ≡ p
  pub masked : (q : ℕ) → masked_after x q ≡ q
  pub flag : (b : Bool) → flag_after x b ≡ b
  pub read : (a : (Result Answered Refusal)) (n : ℕ) → read_after x a n ≡ n

pub plain_none : Plain None
plain_none = record { pending = λ p. refl; masked = λ q. refl; flag = λ b. refl; read = λ a n. refl }

pub plain_submits : (v : ℕ) → Plain (Submits v)
plain_submits v = record { pending = λ p. refl; masked = λ q. refl; flag = λ b. refl; read = λ a n. refl }

pub plain_leaves : (v : ℕ) → Plain (Leaves v)
plain_leaves v = record { pending = λ p. refl; masked = λ q. refl; flag = λ b. refl; read = λ a n. refl }

pub level_touches : (w : World) (c : Call) (a : Applied) → Plain (access_of c) → Level w.state a.reply.state
    → list_of a.reply.writes ≡ writes_by w a (access_of c) → Touches w c a
level_touches w c a p l e =
    let done = is_done a.reply.answer in
    record {
      pending = l.pending ∙ sym (cond_same done _ w.state.pending (p.pending w.state.pending));
      masked = l.masked ∙ sym (cond_same done _ w.state.masked (p.masked w.state.masked));
      enabled = λ b q. l.enabled ∙ q ∙ sym (ap flag_number (cond_same done _ b (p.flag b)));
      step = l.step ∙ sym (p.read a.reply.answer w.state.step);
      wrote = e;
    }

pub level : (s : Ehci) → Level s s
level s = record { pending = refl; masked = refl; enabled = refl; step = refl }

-- nothing, or a ring
pub rung_shape : (b : Bool) (x : Bell) (v : ℕ) → list_of (rung_if b x no_writes v).writes ≡ cond (some_ring (list_of (rung_if b x no_writes v).writes)) (ring v) []
unfolding and_then no_writes ring_word
rung_shape true x v = rw (ring_set v)
rung_shape false x v = refl

pub bounded_shape : (k : EndpointType) (b : Bell) (rd : Readings)
    → list_of (bounded_of b k rd).rung.writes ≡ cond (some_ring (list_of (bounded_of b k rd).rung.writes)) (ring rd.command) []
unfolding bounded_of unlinked_of ring_of no_writes
bounded_shape Control b rd = rung_shape (must_ring (record { noted = b.noted; doorbell = b.doorbell; unanswered = b.unanswered + 1 })) _ rd.command
bounded_shape Isochronous b rd = rung_shape (must_ring (record { noted = b.noted; doorbell = b.doorbell; unanswered = b.unanswered + 1 })) _ rd.command
bounded_shape Bulk b rd = rung_shape (must_ring (record { noted = b.noted; doorbell = b.doorbell; unanswered = b.unanswered + 1 })) _ rd.command
bounded_shape Interrupt b rd = refl

module _ (w : World) (c : Call) where
  pub refused_touches : (r : Refusal) → read_after (access_of c) (Err r) w.state.step ≡ w.state.step
      → writes_by w (leaves w c w.state (Err r) no_writes) (access_of c) ≡ [] → Touches w c (leaves w c w.state (Err r) no_writes)
  unfolding no_writes
  refused_touches r read none =
      record {
        pending = sym (rw (undone r));
        masked = sym (rw (undone r));
        enabled = λ b q. q ∙ sym (rw (undone r));
        step = sym read;
        wrote = sym none;
      }
