-- The door: a call that finds the rows as opening fixed them does what its crate says, and any other is refused.
use Rattle.std.specs.Prelude.{Err, Result}
use Prim.Native.Nat.{ℕ}
use mathlib.Core.Bool.{Bool, true, false, not, ◌&&◌}
use mathlib.Core.List.{List}
use mathlib.Core.Path.{◌≡◌, refl, ap, ◌∙◌}
use lib.ListN.{length}
use Rattle.register.specs.Writes.{list_of, no_writes}
use Rattle.register.specs.declared.writes.Writes.{Writes}
use Rattle.pool.specs.Chains.{fill_of, no_chain}
use Rattle.pool.specs.declared.chain.View.{View}
use Rattle.pool.proofs.ChainLaws.{fill_no_chain}
use Rattle.state.specs.Slots.{slot_at}
use Rattle.state.specs.Plain.{Ehci}
use Rattle.state.proofs.RangesLaws.{Ranges}
use Rattle.common.specs.declared.answer.Refusal.{Refusal}
use Rattle.common.specs.declared.answer.Refusal.TheVariants.{InvalidParameter}
use Rattle.pipe.specs.Endpoints.{endpoint_at}
use Rattle.opening.specs.Opening.{rows_are_fit}
use Rattle.ehci.specs.declared.call.Call.{Call}
use Rattle.ehci.specs.Plain.{Decided}
use Rattle.ehci.specs.Decides.{asks_of, call_of, decide_of, came}
use Rattle.ehci.specs.Door.{Applied, applied, apply_of, carried_out, seen_by}
use Rattle.ehci.specs.Replies.{refused_reply, replied, settled_reply}
use Rattle.promises.specs.Runs.{Rows, World, core, turn_of}
use Rattle.promises.specs.Events.{Other, event}
use Rattle.schedule.specs.Bell.{some_ring}
use Rattle.promises.specs.Slots.{change}
use Rattle.promises.proofs.effects.Effects.{Effect, Idles, Sides, Switches, besides, still}
use Rattle.interrupt.specs.Interrupts.{settled_or}
use Rattle.interrupt.specs.Plain.{Settled}
use Rattle.ehci.specs.declared.reply.Answered.{Answered}

abbrev pub sides_with : Ehci → ℕ → ℕ → ℕ → Sides
sides_with s enabled pending masked =
    record {
      running = s.running;
      step = s.step;
      waited = s.waited;
      address = s.address;
      enabled = enabled;
      pending = pending;
      masked = masked;
    }

abbrev pub sides_of : Ehci → Sides
sides_of s = sides_with s s.enabled s.pending s.masked

-- neither bring-up nor a slot changes
pub idles_on : (s : Ehci) (x : Sides) → x.running ≡ s.running → x.step ≡ s.step → Idles s → Idles (besides s x)
unfolding endpoint_at slot_at
idles_on s x er es i = record { stopped = λ h. er ∙ i.stopped (λ z. h (es ∙ z)); runs = λ k u. er ∙ i.runs k u }

-- the head of a slot does not leave a schedule whose words stay
pub stays_in : (b : Bool) → (b && not b) ≡ false
stays_in true = refl
stays_in false = refl

module _ (w : World) (c : Call) where
  -- no record is written
  pub rows_kept : (hs fs us : List ℕ)
      → ◌≡◌ {A = Rows} (record { pool = fill_of no_chain w.rows.pool; heads = hs; frames = fs; setups = us })
      (record { pool = w.rows.pool; heads = hs; frames = fs; setups = us })
  rows_kept hs fs us =
      ap (λ pool. record { pool = pool; heads = hs; frames = fs; setups = us }) (fill_no_chain w.rows.pool)

  abbrev pub leaves : Ehci → Result Answered Refusal → Writes → Applied
  leaves s r ws =
      applied (record { state = s; answer = r; writes = ws }) (fill_of no_chain w.rows.pool) w.rows.heads w.rows.frames
      w.rows.setups

  pub still_of : (s : Ehci) (r : (Result Answered Refusal)) (ws : Writes) (x : Sides) → s ≡ besides w.state x → some_ring (list_of ws) ≡ false
      → event w.state.settings (turn_of w.rows c (leaves s r ws)) ≡ Other → (Ranges w.state → Ranges s)
      → x.pending ≡ w.state.pending → (Idles w.state → Idles s)
      → Switches (change (turn_of w.rows c (leaves s r ws))) w.state.running x.running → Effect w c (leaves s r ws)
  still_of s r ws x e silent nothing keeps pends idles switches =
      still
      (record {
        sides = x;
        state_is = e;
        rows_are = rows_kept w.rows.heads w.rows.frames w.rows.setups;
        silent = silent;
        nothing = nothing;
        keeps = keeps;
        pending_stays = pends;
        idles = idles;
        switches = switches;
      })

  -- a refusal
  pub refused_still : (r : Refusal)
      → event w.state.settings (turn_of w.rows c (leaves w.state (Err r) no_writes)) ≡ Other
      → Switches (change (turn_of w.rows c (leaves w.state (Err r) no_writes))) w.state.running w.state.running
      → Effect w c (leaves w.state (Err r) no_writes)
  unfolding no_writes
  refused_still r nothing switches =
      still_of w.state (Err r) no_writes (sides_of w.state) refl refl nothing (λ g. g) refl (λ i. i) switches

  abbrev pub seen : View
  seen = seen_by (asks_of w.state (length w.rows.pool) c) w.rows.pool

-- what a call comes to that leaves heads, frames and setups
abbrev pub carried : World → Decided → Applied
carried w d = carried_out (came d w.rows.heads w.rows.frames w.rows.setups) w.rows.pool

-- what holds of a refusal at the door, and of what the call's crate says, holds of the call
pub through : (R : World → Call → Applied → Type 0) (w : World) (c : Call) → R w c (leaves w c w.state (Err InvalidParameter) no_writes)
    → R w c (carried_out (call_of w.state (length w.rows.pool) w.rows.heads w.rows.frames w.rows.setups (seen w c) c) w.rows.pool)
    → R w c (core w c)
unfolding apply_of decide_of refused_reply replied
through R w c denied done = by (rows_are_fit w.state.settings (length w.rows.pool) (length w.rows.heads) (length w.rows.frames) (length w.rows.setups)) refl
  where
    by : (b : Bool)
        → rows_are_fit w.state.settings (length w.rows.pool) (length w.rows.heads) (length w.rows.frames) (length w.rows.setups) ≡ b
        → R w c (core w c)
    by true e = rw e done
    by false e = rw e denied

-- so for a call that settles one flag, unless the state is outside its ranges
pub settles : (R : World → Call → Applied → Type 0) (w : World) (c : Call) (b : Bool) (new : Settled) → R w c (leaves w c w.state (Err InvalidParameter) no_writes)
    → R w c (carried w (settled_reply new))
    → R w c (carried w (settled_reply (settled_or b w.state new)))
unfolding settled_reply replied
settles R w c true new denied done = denied
settles R w c false new denied done = done
