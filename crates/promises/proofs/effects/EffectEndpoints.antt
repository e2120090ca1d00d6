-- Open endpoint, close, set address, set packet size, clear-halt.
use Prim.Native.Nat.{ℕ, ◌+◌, max, ◌≤◌, ◌<◌}
use mathlib.Core.Bool.{true, false}
use mathlib.Core.List.{List}
use mathlib.Core.Path.{◌≡◌, refl, sym}
use lib.Dec.{leb}
use lib.ListN.{length, replicate}
use Rattle.register.specs.Writes.{no_writes}
use Rattle.descriptor.specs.Heads.{endpoint_head, with_address, with_packet_size}
use Rattle.common.proofs.TestLaws.{false_true}
use Rattle.state.specs.Plain.{Ehci}
use Rattle.common.specs.declared.answer.Refusal.TheVariants.{InvalidParameter}
use Rattle.pipe.specs.Endpoints.{endpoint_at, pipe_of, with_endpoint}
use Rattle.state.specs.Slots.{slot_at}
use Rattle.pipe.specs.declared.endpoints.Endpoint.{Endpoint}
use Rattle.pipe.specs.declared.endpoints.Endpoint.TheVariants.{Closed, Idle, Linked, Unlinking}
use Rattle.pipe.specs.declared.endpoints.Pipe.{Pipe}
use Rattle.opening.specs.Heads.{head_word, with_head_word}
use Rattle.controller.specs.Readers.{has_endpoint, holds_request}
use Rattle.endpoint.specs.Calls.{ChangeLeft, close_of, set_address_of, raised_good, set_packet_size_of, with_head, with_size}
use Rattle.endpoint.proofs.ChangeLaws.{Changes, change_by_lem, idle_pipe, resized_good}
use Rattle.endpoint.proofs.OpenLaws.{open_by}
use Rattle.ehci.specs.declared.call.Call.{Call}
use Rattle.ehci.specs.declared.call.Call.TheVariants.{ClearHalt, Close, OpenEndpoint, SetAddress, SetPacketSize}
use Rattle.ehci.specs.declared.call.EndpointFields.{EndpointFields}
use Rattle.ehci.specs.Decides.{address_decided, change_came, clear_decided, close_decided, open_came, open_decided, packet_decided, with_frames}
use Rattle.ehci.specs.Door.{carried_out}
use Rattle.ehci.specs.Replies.{changed_reply, replied}
use Rattle.promises.specs.Runs.{World, core}
use Rattle.promises.proofs.effects.RefusalNumbers.{undone}
use Rattle.promises.proofs.effects.Effects.{Effect, clears, closes, opens, resizes, rewrites}
use Rattle.promises.proofs.effects.EffectDoor.{carried, refused_still, rows_kept, through}
use Rattle.descriptor.proofs.HeadFields.{address_reads, characteristics_read, packet_reads}
use native.Mathlib.Omega.{arith}
use Rattle.endpoint.specs.Plain.{Change}
use Rattle.endpoint.proofs.ClearLaws.{clear_by, clear_idle}

-- an open slot that has no request is idle
pub idle_is : (x : Endpoint) → has_endpoint x ≡ true → holds_request x ≡ false → (p : Pipe) × (x ≡ Idle p)
idle_is Closed o u = absurd (false_true o)
idle_is (Idle p) o u = (p, refl)
idle_is (Linked p r) o u = absurd (false_true (sym u))
idle_is (Unlinking p r b) o u = absurd (false_true (sym u))

size_small : (size : ℕ) → max size 8 ≤ 1024 → size < 2048
size_small size most = omega (arith, most)

module _ (w : World) where
  abbrev s : Ehci
  s = w.state

  abbrev n : ℕ
  n = length w.rows.pool

  abbrev hs : List ℕ
  hs = w.rows.heads

  abbrev f : ℕ
  f = length w.rows.frames

  abbrev u : ℕ
  u = length w.rows.setups

  pub open_effect_lem : (x : EndpointFields) → Effect w (OpenEndpoint x) (core w (OpenEndpoint x))
  unfolding open_decided replied no_writes endpoint_head
  open_effect_lem x =
      through Effect w (OpenEndpoint x) (refused_still w (OpenEndpoint x) InvalidParameter refl refl)
      (open_by s n hs f u x.kind x.address x.number x.packet
      (λ o. Effect w (OpenEndpoint x) (carried_out (with_frames (open_came o) w.rows.frames w.rows.setups) w.rows.pool))
      (λ r. refused_still w (OpenEndpoint x) r refl (rw (undone r)))
      (λ k from. opens
      (record {
        k = k;
        kind = x.kind;
        address = x.address;
        endpoint = x.number;
        packet = x.packet;
        below = from.below;
        closed = from.was_closed;
        never = from.never;
        sized = from.fields.packet;
        state_is = refl;
        rows_are = rows_kept w (OpenEndpoint x) _ w.rows.frames w.rows.setups;
        reads = (characteristics_read x.kind x.address x.number x.packet from.fields.address_most from.fields.number_most from.fields.packet.size_most).packet_is;
        silent = refl;
        nothing = refl;
        changes = refl;
      })))

  abbrev Changed : Call → ChangeLeft → Type 0
  Changed c o = Effect w c (carried_out (with_frames (change_came o) w.rows.frames w.rows.setups) w.rows.pool)

  idle_of : (k : ℕ) → Changes s n hs f u k → (p : Pipe) × (endpoint_at s k ≡ Idle p)
  idle_of k from = idle_is (endpoint_at s k) from.is_open from.is_idle_lem

  pub close_effect : (k : ℕ) → Effect w (Close k) (core w (Close k))
  unfolding close_decided close_of changed_reply replied no_writes
  close_effect k =
      through Effect w (Close k) (refused_still w (Close k) InvalidParameter refl refl)
      (change_by_lem s n hs f u k true (with_endpoint s k Closed) (with_head hs k (replicate 17 0)) (Changed (Close k))
      (λ r. refused_still w (Close k) r refl (rw (undone r)))
      (λ from g. closes
      (record {
        k = k;
        p = (idle_of k from).0;
        idle = (idle_of k from).1;
        state_is = refl;
        rows_are = rows_kept w (Close k) _ w.rows.frames w.rows.setups;
        silent = refl;
        nothing = refl;
        changes = refl;
      })))

  pub address_effect : (k a : ℕ) → Effect w (SetAddress k a) (core w (SetAddress k a))
  unfolding address_decided set_address_of changed_reply replied no_writes
  address_effect k a =
      let word = with_address (head_word hs (k + 1) 1) a in
      through Effect w (SetAddress k a) (refused_still w (SetAddress k a) InvalidParameter refl refl)
      (change_by_lem s n hs f u k (leb a 127) s (with_head_word hs (k + 1) 1 word) (Changed (SetAddress k a))
      (λ r. refused_still w (SetAddress k a) r refl refl)
      (λ from g. rewrites
      (record {
        k = k;
        p = (idle_of k from).0;
        word = word;
        idle = (idle_of k from).1;
        state_is = refl;
        rows_are = rows_kept w (SetAddress k a) _ w.rows.frames w.rows.setups;
        reads = (address_reads (head_word hs (k + 1) 1) a).packet_is;
        silent = refl;
        nothing = refl;
        same = refl;
      })))

  pub size_effect : (k size : ℕ) → Effect w (SetPacketSize k size) (core w (SetPacketSize k size))
  unfolding packet_decided set_packet_size_of changed_reply replied no_writes
  size_effect k size =
      let word = with_packet_size (head_word hs (k + 1) 1) size in
      through Effect w (SetPacketSize k size) (refused_still w (SetPacketSize k size) InvalidParameter refl refl)
      (change_by_lem s n hs f u k (raised_good s k size) (with_endpoint s k (Idle (with_size (pipe_of (slot_at s k)) (max size 8)))) (with_head_word hs (k + 1) 1 word)
      (Changed (SetPacketSize k size)) (λ r. refused_still w (SetPacketSize k size) r refl (rw (undone r)))
      (λ from g. resizes
      (record {
        k = k;
        p = pipe_of (slot_at s k);
        size = max size 8;
        word = word;
        idle = idle_pipe s n hs f u k from;
        sized = (resized_good s n hs f u k from size g).size;
        state_is = refl;
        rows_are = rows_kept w (SetPacketSize k size) _ w.rows.frames w.rows.setups;
        reads = (packet_reads (head_word hs (k + 1) 1) size (size_small size (resized_good s n hs f u k from size g).size.size_most)).packet_is;
        silent = refl;
        nothing = refl;
        changes = refl;
      })))

  abbrev Cleared : ℕ → Change → Type 0
  Cleared k o = Effect w (ClearHalt k) (carried w (changed_reply o))

  pub clear_effect : (k : ℕ) → Effect w (ClearHalt k) (core w (ClearHalt k))
  unfolding clear_decided changed_reply replied no_writes
  clear_effect k =
      through Effect w (ClearHalt k) (refused_still w (ClearHalt k) InvalidParameter refl refl)
      (clear_by s k (Cleared k) (λ r. refused_still w (ClearHalt k) r refl (rw (undone r)))
      (λ from. clears
      (record {
        k = k;
        p = pipe_of (slot_at s k);
        idle = clear_idle s k from;
        state_is = refl;
        rows_are = rows_kept w (ClearHalt k) hs w.rows.frames w.rows.setups;
        silent = refl;
        nothing = refl;
        changes = refl;
      })))
