-- The calls that touch no interrupt register: endpoints, addresses, requests.
use Rattle.std.specs.Prelude.{Err}
use Prim.Native.Nat.{ℕ}
use mathlib.Core.Bool.{true, not}
use mathlib.Core.List.{List, [], ◌∷◌}
use mathlib.Core.Path.{◌≡◌, refl, sym, ap, subst}
use lib.Dec.{ltb}
use lib.ListN.{length}
use Rattle.register.specs.Writes.{and_then, no_writes}
use Rattle.state.specs.Ranges.{in_ranges}
use Rattle.state.specs.Slots.{with_slot}
use Rattle.state.specs.State.{with_bell, with_next_address, with_owner}
use Rattle.state.specs.Plain.{Ehci}
use Rattle.common.specs.Answers.{first}
use Rattle.common.specs.declared.answer.Refusal.{Refusal}
use Rattle.common.specs.declared.answer.Refusal.TheVariants.{InvalidParameter, SlotLimitReached}
use Rattle.common.proofs.CheckLaws.{settled_by}
use Rattle.pipe.specs.Endpoints.{with_endpoint}
use Rattle.pipe.specs.declared.endpoints.Pipe.{Pipe}
use Rattle.pipe.specs.declared.endpoints.Request.{Request}
use Rattle.controller.specs.Address.{allot_of}
use Rattle.controller.specs.Lent.{accepts_of, lengths}
use Rattle.controller.specs.Plain.{Allotment}
use Rattle.controller.specs.declared.lent.Readings.{Readings}
use Rattle.schedule.specs.Bell.{bell_of, command_word}
use Rattle.endpoint.specs.Calls.{ChangeLeft, close_of, set_address_of, set_packet_size_of}
use Rattle.endpoint.proofs.ChangeLaws.{change_by_lem}
use Rattle.endpoint.proofs.OpenLaws.{open_by}
use Rattle.request.specs.Submit.{Outcome, accepted_with, refused_submit, settled_submit, state_with, submit_checks, submit_of}
use Rattle.request.specs.Writeback.{refused_writeback, writeback_checks, writeback_of}
use Rattle.request.specs.Plain.{WrittenBack}
use Rattle.request.specs.declared.judge.TransferRequest.{TransferRequest}
use Rattle.collection.specs.Calls.{Gathered, finish_of, marked, pending_left}
use Rattle.collection.specs.Unlinks.{Left, unlink_of, waiting_of}
use Rattle.collection.proofs.Splits.{cancel_split, collect_split, unlink_split}
use Rattle.ehci.specs.declared.call.Call.{Call}
use Rattle.ehci.specs.declared.call.Call.TheVariants.{AllocateAddress, OpenEndpoint, Close, SetAddress, SetPacketSize, Submit, Writeback, Cancel, Collect, ClearHalt}
use Rattle.ehci.specs.declared.call.EndpointFields.{EndpointFields}
use Rattle.ehci.specs.Decides.{address_decided, allot_decided, allot_reply, cancel_came, cancel_decided, change_came, clear_decided, close_decided, collect_came, collect_decided, open_came, open_decided, packet_decided, submit_came, submit_decided, with_frames, with_setups, writeback_decided, written_reply}
use Rattle.ehci.specs.Door.{carried_out}
use Rattle.ehci.specs.Replies.{changed_reply, replied}
use Rattle.promises.specs.Runs.{World, core}
use Rattle.promises.specs.Registers.{None, access_of}
use Rattle.promises.proofs.effects.EffectDoor.{leaves, seen, through, carried}
use Rattle.promises.proofs.effects.RefusalNumbers.{undone}
use Rattle.promises.proofs.invariants.Touches.{Plain, Touches, bounded_shape, level, level_touches, plain_leaves, plain_none, plain_submits, refused_touches, writes_by}
use Rattle.endpoint.proofs.ClearLaws.{clear_by}
use Rattle.endpoint.specs.Plain.{Change}

module _ (w : World) where
  abbrev s : Ehci
  s = w.state

  abbrev n : ℕ
  n = length w.rows.pool

  abbrev hs : List ℕ
  hs = w.rows.heads

  abbrev fs : List ℕ
  fs = w.rows.frames

  abbrev us : List ℕ
  us = w.rows.setups

  -- ---- endpoints and requests

  none_refused : (c : Call) → access_of c ≡ None → (r : Refusal) → Touches w c (leaves w c s (Err r) no_writes)
  unfolding no_writes
  none_refused c e r = level_touches w c _ (subst Plain (sym e) plain_none) (level s) (sym (ap (writes_by w (leaves w c s (Err r) no_writes)) e))

  pub open_touches : (x : EndpointFields) → Touches w (OpenEndpoint x) (core w (OpenEndpoint x))
  unfolding open_decided replied no_writes with_endpoint with_slot
  open_touches x =
      through Touches w (OpenEndpoint x) (none_refused (OpenEndpoint x) refl InvalidParameter)
      (open_by s n hs (length fs) (length us) x.kind x.address x.number x.packet
      (λ o. Touches w (OpenEndpoint x) (carried_out (with_frames (open_came o) fs us) w.rows.pool))
      (none_refused (OpenEndpoint x) refl)
      (λ k from. level_touches w (OpenEndpoint x) _ plain_none (record { pending = refl; masked = refl; enabled = refl; step = refl }) refl))

  abbrev Changed : Call → ChangeLeft → Type 0
  Changed c o = Touches w c (carried_out (with_frames (change_came o) fs us) w.rows.pool)

  pub close_touches : (k : ℕ) → Touches w (Close k) (core w (Close k))
  unfolding close_decided close_of changed_reply replied no_writes with_endpoint with_slot
  close_touches k =
      through Touches w (Close k) (none_refused (Close k) refl InvalidParameter)
      (change_by_lem s n hs (length fs) (length us) k true _ _ (Changed (Close k)) (none_refused (Close k) refl)
      (λ from g. level_touches w (Close k) _ plain_none (record { pending = refl; masked = refl; enabled = refl; step = refl }) refl))

  pub address_touches : (k a : ℕ) → Touches w (SetAddress k a) (core w (SetAddress k a))
  unfolding address_decided set_address_of changed_reply replied no_writes
  address_touches k a =
      through Touches w (SetAddress k a) (none_refused (SetAddress k a) refl InvalidParameter)
      (change_by_lem s n hs (length fs) (length us) k _ _ _ (Changed (SetAddress k a)) (none_refused (SetAddress k a) refl)
      (λ from g. level_touches w (SetAddress k a) _ plain_none (level s) refl))

  pub size_touches : (k size : ℕ) → Touches w (SetPacketSize k size) (core w (SetPacketSize k size))
  unfolding packet_decided set_packet_size_of changed_reply replied no_writes with_endpoint with_slot
  size_touches k size =
      through Touches w (SetPacketSize k size) (none_refused (SetPacketSize k size) refl InvalidParameter)
      (change_by_lem s n hs (length fs) (length us) k _ _ _ (Changed (SetPacketSize k size)) (none_refused (SetPacketSize k size) refl)
      (λ from g. level_touches w (SetPacketSize k size) _ plain_none (record { pending = refl; masked = refl; enabled = refl; step = refl }) refl))

  pub clear_touches : (k : ℕ) → Touches w (ClearHalt k) (core w (ClearHalt k))
  unfolding clear_decided changed_reply replied no_writes with_endpoint with_slot
  clear_touches k =
      through Touches w (ClearHalt k) (none_refused (ClearHalt k) refl InvalidParameter)
      (clear_by s k (λ (o : Change). Touches w (ClearHalt k) (carried w (changed_reply o))) (none_refused (ClearHalt k) refl)
      (λ from. level_touches w (ClearHalt k) _ plain_none (record { pending = refl; masked = refl; enabled = refl; step = refl }) refl))

  pub allot_touches : Touches w AllocateAddress (core w AllocateAddress)
  unfolding allot_of allot_decided replied with_next_address no_writes
  allot_touches =
      through Touches w AllocateAddress (none_refused AllocateAddress refl InvalidParameter)
      (settled_by (first ((not (in_ranges s), InvalidParameter) ∷ (ltb 127 s.address, SlotLimitReached) ∷ [])) _ _
      (λ (x : Allotment). Touches w AllocateAddress (carried w (allot_reply x)))
      (λ r e. none_refused AllocateAddress refl r)
      (λ e. level_touches w AllocateAddress _ plain_none (record { pending = refl; masked = refl; enabled = refl; step = refl }) refl))

  pub writeback_touches : (place token : ℕ) → Touches w (Writeback place token) (core w (Writeback place token))
  unfolding writeback_decided writeback_of refused_writeback replied no_writes
  writeback_touches place token =
      through Touches w (Writeback place token) (none_refused (Writeback place token) refl InvalidParameter)
      (settled_by (first (writeback_checks s (lengths n (length hs) (length fs) (length us)) place)) _ _
      (λ (x : WrittenBack). Touches w (Writeback place token) (carried w (written_reply x)))
      (λ r e. none_refused (Writeback place token) refl r)
      (λ e. level_touches w (Writeback place token) _ plain_none (level s) refl))

  pub submit_touches : (k : ℕ) (t : TransferRequest) (rd : Readings) → Touches w (Submit k t rd) (core w (Submit k t rd))
  unfolding submit_decided submit_of settled_submit accepted_with refused_submit replied no_writes and_then command_word state_with with_endpoint with_slot with_owner
  submit_touches k t rd =
      through Touches w (Submit k t rd) (refused_touches w (Submit k t rd) InvalidParameter refl refl)
      (settled_by
      (first ((not (accepts_of s (lengths n (length hs) (length fs) (length us))), InvalidParameter) ∷ submit_checks s k t)) _ _
      (λ (o : Outcome). Touches w (Submit k t rd) (carried_out (submit_came o) w.rows.pool))
      (λ r e. refused_touches w (Submit k t rd) r refl (rw (undone r)))
      (λ e. level_touches w (Submit k t rd) _ (plain_submits rd.command) (record { pending = refl; masked = refl; enabled = refl; step = refl }) refl))

  -- ---- cancel and collect

  module _ (k id : ℕ) (rd : Readings) where
    abbrev Cancels : Left → Type 0
    Cancels l = Touches w (Cancel k id rd) (carried_out (with_setups (cancel_came l) us) w.rows.pool)

    cancel_refused : (x : Refusal) → Touches w (Cancel k id rd) (leaves w (Cancel k id rd) s (Err x) no_writes)
    unfolding no_writes
    cancel_refused x = level_touches w (Cancel k id rd) _ (plain_leaves rd.command) (level s) refl

    cancel_unlinks : (p : Pipe) (r : Request) → Cancels (unlink_of s hs fs rd k p r)
    unfolding waiting_of replied with_endpoint with_slot with_bell
    cancel_unlinks p r =
        unlink_split s hs fs rd k p r Cancels (cancel_refused _)
        (λ found. level_touches w (Cancel k id rd) _ (plain_leaves rd.command) (record { pending = refl; masked = refl; enabled = refl; step = refl })
        (bounded_shape p.kind (bell_of s) rd))

    pub cancel_touches : Touches w (Cancel k id rd) (core w (Cancel k id rd))
    unfolding cancel_decided replied no_writes with_endpoint with_slot
    cancel_touches =
        through Touches w (Cancel k id rd) (cancel_refused InvalidParameter)
        (cancel_split s n hs fs (length us) rd k id Cancels cancel_refused
        (λ p r ok e below same. cancel_unlinks p (marked r))
        (λ p r u ok e same. level_touches w (Cancel k id rd) _ (plain_leaves rd.command) (record { pending = refl; masked = refl; enabled = refl; step = refl }) refl))

    abbrev Collecting : Gathered → Type 0
    Collecting g = Touches w (Collect k id rd) (carried_out (with_setups (collect_came g) us) w.rows.pool)

    collect_refused : (x : Refusal) → Touches w (Collect k id rd) (leaves w (Collect k id rd) s (Err x) no_writes)
    unfolding no_writes
    collect_refused x = level_touches w (Collect k id rd) _ (plain_leaves rd.command) (level s) refl

    collect_unlinks : (p : Pipe) (r : Request) → Collecting (pending_left (unlink_of s hs fs rd k p r))
    unfolding waiting_of replied with_endpoint with_slot with_bell
    collect_unlinks p r =
        unlink_split s hs fs rd k p r (λ (l : Left). Collecting (pending_left l)) (collect_refused _)
        (λ found. level_touches w (Collect k id rd) _ (plain_leaves rd.command) (record { pending = refl; masked = refl; enabled = refl; step = refl })
        (bounded_shape p.kind (bell_of s) rd))

    pub collect_touches : Touches w (Collect k id rd) (core w (Collect k id rd))
    unfolding collect_decided finish_of replied no_writes with_endpoint with_slot with_owner
    collect_touches =
        through Touches w (Collect k id rd) (collect_refused InvalidParameter)
        (collect_split s n hs fs (length us) rd k id (seen w (Collect k id rd)) Collecting collect_refused
        (level_touches w (Collect k id rd) _ (plain_leaves rd.command) (level s) refl)
        (λ p r ok e below same done. collect_unlinks p r)
        (λ p r u ok e same through-it. level_touches w (Collect k id rd) _ (plain_leaves rd.command) (record { pending = refl; masked = refl; enabled = refl; step = refl }) refl))
