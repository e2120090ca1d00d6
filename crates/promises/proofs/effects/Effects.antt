-- What a call can do to a world: fifteen kinds, whatever the call. Every invariant goes by these and not by the calls.
use Rattle.std.specs.Prelude.{Ok}
use Prim.Native.Nat.{ℕ, ◌+◌, ◌<◌}
use mathlib.Core.Bool.{true, false, Bool, cond}
use mathlib.Core.List.{List}
use mathlib.Core.Path.{◌≡◌}
use mathlib.Core.Logic.{◌⊎◌}
use lib.Dec.{eqb}
use lib.ListN.{get_or, replicate}
use Rattle.register.specs.Writes.{list_of, no_writes}
use Rattle.register.specs.declared.writes.Writes.{Writes}
use Rattle.descriptor.specs.Heads.{endpoint_head, words_of}
use Rattle.descriptor.specs.declared.qtd.QueueTransferDescriptor.{QueueTransferDescriptor}
use Rattle.pool.specs.Chains.{fill_of}
use Rattle.common.specs.declared.kinds.EndpointType.{EndpointType}
use Rattle.common.specs.declared.kinds.EndpointType.TheVariants.{Isochronous}
use Rattle.state.specs.State.{with_bell}
use Rattle.state.specs.Plain.{Ehci}
use Rattle.state.proofs.RangesLaws.{Ranges}
use Rattle.pipe.specs.Endpoints.{endpoint_at, kind_number, with_endpoint, with_toggle}
use Rattle.slot.proofs.SlotLaws.{SizeGood}
use Rattle.pipe.specs.declared.endpoints.Endpoint.TheVariants.{Closed, Idle, Linked, Unlinking}
use Rattle.pipe.specs.declared.endpoints.Pipe.{Pipe}
use Rattle.pipe.specs.declared.endpoints.Request.{Request}
use Rattle.pipe.specs.declared.endpoints.UnlinkBoundary.{UnlinkBoundary}
use Rattle.opening.specs.Heads.{head_word, with_head_word}
use Rattle.controller.specs.Readers.{is_uncollected}
use Rattle.controller.specs.declared.lent.Readings.{Readings}
use Rattle.schedule.specs.Bell.{advanced_of, bell_of, some_ring}
use Rattle.schedule.specs.Links.{detach_of, ended_overlay, slot_link}
use Rattle.endpoint.specs.Calls.{new_endpoint, with_head, with_size}
use Rattle.request.specs.Submit.{chain_for, first_in, id_at, linked_rows, setups_with, state_with, taken_for, toggle_at, writes_with}
use Rattle.request.specs.Writeback.{in_request, token_chain}
use Rattle.request.specs.declared.judge.TransferRequest.{TransferRequest}
use Rattle.request.proofs.JudgeLaws.{Judged}
use Rattle.collection.specs.Unlinks.{is_missing, passed_boundary, waiting_of}
use Rattle.collection.specs.Calls.{finish_of, marked}
use Rattle.pool.specs.declared.chain.View.{View}
use Rattle.interrupt.specs.Interrupts.{note_if, with_rung}
use Rattle.ehci.specs.declared.call.Call.{Call}
use Rattle.ehci.specs.declared.call.Call.TheVariants.{Writeback}
use Rattle.ehci.specs.declared.reply.Answered.TheVariants.{Done}
use Rattle.ehci.specs.declared.reply.Given.TheVariants.{Nothing}
use Rattle.ehci.specs.Door.{Applied}
use Rattle.promises.specs.Runs.{Rows, Turn, World, rows_of, turn_of}
use Rattle.promises.specs.Events.{Other, Reads, Drains, Submits, Collects, event, leaving, Event, Unlinks, Parts, leaves_frames, leaves_ring}
use Rattle.promises.specs.Bells.{cancels_by}
use Rattle.promises.specs.Slots.{Change, ClearsHalt, ClosesSlot, Halted, OpensSlot, ResizesSlot, Running, Same, change}
use Rattle.settings.specs.declared.settings.Settings.{Settings}
use Rattle.descriptor.specs.EhciQueueHead.{maximum_packet_length}
use Rattle.promises.specs.Toggles.{overlay_given}
use Rattle.token.specs.Overlay.{kept_toggle, overlay_token}

-- what of a state stands beside slots, owners and doorbell
pub record Sides : Type 0 where
  pub running : ℕ
  pub step : ℕ
  pub waited : ℕ
  pub address : ℕ
  pub enabled : ℕ
  pub pending : ℕ
  pub masked : ℕ

abbrev pub besides : Ehci → Sides → Ehci
besides s x =
    record {
      settings = s.settings;
      running = x.running;
      step = x.step;
      waited = x.waited;
      address = x.address;
      enabled = x.enabled;
      pending = x.pending;
      masked = x.masked;
      noted = s.noted;
      doorbell = s.doorbell;
      unanswered = s.unanswered;
      owner = s.owner;
      phases = s.phases;
      kinds = s.kinds;
      sizes = s.sizes;
      toggles = s.toggles;
      ids = s.ids;
      requests = s.requests;
      directions = s.directions;
      lengths = s.lengths;
      cancels = s.cancels;
      boundaries = s.boundaries;
    }

-- while bring-up is begun the controller does not run, and a request is uncollected only while it does
pub record Idles (s : Ehci) : Type 0 where
  pub stopped : (s.step ≡ 0 → ⊥) → s.running ≡ 0
  pub runs : (k : ℕ) → is_uncollected s k ≡ true → s.running ≡ 1

-- whether the controller runs, before and after a change that is none of a slot
abbrev pub Switches : Change → ℕ → ℕ → Type 0
Switches Same before after = after ≡ before
Switches (OpensSlot k kind size) before after = ⊥
Switches (ResizesSlot k size) before after = ⊥
Switches (ClosesSlot k) before after = ⊥
Switches (ClearsHalt k) before after = ⊥
Switches Halted before after = after ≡ 0
Switches Running before after = after ≡ 1

abbrev pub with_heads : Rows → List ℕ → Rows
with_heads rows heads = record { pool = rows.pool; heads = heads; frames = rows.frames; setups = rows.setups }

abbrev pub with_pool : Rows → List QueueTransferDescriptor → Rows
with_pool rows pool = record { pool = pool; heads = rows.heads; frames = rows.frames; setups = rows.setups }

abbrev pub with_links : Rows → List ℕ → List ℕ → Rows
with_links rows heads frames = record { pool = rows.pool; heads = heads; frames = frames; setups = rows.setups }

module _ (w : World) (c : Call) (a : Applied) where
  abbrev old : Ehci
  old = w.state

  abbrev new : Ehci
  new = a.reply.state

  abbrev wrote : Writes
  wrote = a.reply.writes

  -- refusals, 9 where nothing is unlinked, and calls on what stands beside
  pub record Still : Type 0 where
    pub sides : Sides
    pub state_is : new ≡ besides old sides
    pub rows_are : rows_of a ≡ w.rows
    pub silent : some_ring (list_of wrote) ≡ false
    pub nothing : event old.settings (turn_of w.rows c a) ≡ Other
    pub keeps : Ranges old → Ranges new
    -- what is pending is only lost by a drain
    pub pending_stays : sides.pending ≡ old.pending
    pub idles : Idles old → Idles new
    -- a bring-up call says whether the controller runs
    pub switches : Switches (change (turn_of w.rows c a)) old.running sides.running

  -- an acknowledgment that reads the advance bit: noted if the doorbell is up
  pub record Hears : Type 0 where
    pub sides : Sides
    pub state_is : new ≡ besides (with_bell old (note_if (eqb old.doorbell 1) old.noted) old.doorbell old.unanswered) sides
    pub rows_are : rows_of a ≡ w.rows
    pub silent : some_ring (list_of wrote) ≡ false
    pub hears : event old.settings (turn_of w.rows c a) ≡ Reads
    pub keeps : Ranges old → Ranges new
    pub pends : sides.pending ≡ 0 → ⊥
    pub runs_on : (sides.running ≡ old.running) × (sides.step ≡ old.step)
    pub same : change (turn_of w.rows c a) ≡ Same

  -- an acknowledgment that does not: more may be pending
  pub record Joins : Type 0 where
    pub sides : Sides
    pub state_is : new ≡ besides old sides
    pub rows_are : rows_of a ≡ w.rows
    pub silent : some_ring (list_of wrote) ≡ false
    pub nothing : event old.settings (turn_of w.rows c a) ≡ Other
    pub keeps : Ranges old → Ranges new
    pub pends : sides.pending ≡ 0 → old.pending ≡ 0
    pub runs_on : (sides.running ≡ old.running) × (sides.step ≡ old.step)
    pub same : change (turn_of w.rows c a) ≡ Same

  -- a drain that finds nothing noted, or nothing pending
  pub record Passes : Type 0 where
    pub sides : Sides
    pub state_is : new ≡ besides old sides
    pub rows_are : rows_of a ≡ w.rows
    pub silent : some_ring (list_of wrote) ≡ false
    pub drains : event old.settings (turn_of w.rows c a) ≡ Drains
    pub keeps : Ranges old → Ranges new
    pub uncounted : (old.noted ≡ 0) ⊎ (old.pending ≡ 0)
    pub runs_on : (sides.running ≡ old.running) × (sides.step ≡ old.step)
    pub same : change (turn_of w.rows c a) ≡ Same

  -- a drain that counts a noted advance
  pub record Counts : Type 0 where
    pub sides : Sides
    pub command : ℕ
    pub noted : old.noted ≡ 0 → ⊥
    pub state_is : new ≡ besides (with_rung old (advanced_of (bell_of old) no_writes command)).state sides
    pub writes_are : wrote ≡ (advanced_of (bell_of old) no_writes command).writes
    pub rows_are : rows_of a ≡ w.rows
    pub drains : event old.settings (turn_of w.rows c a) ≡ Drains
    pub keeps : Ranges old → Ranges new
    pub runs_on : (sides.running ≡ old.running) × (sides.step ≡ old.step)
    pub same : change (turn_of w.rows c a) ≡ Same

  pub record Opens : Type 0 where
    pub k : ℕ
    pub kind : EndpointType
    pub address : ℕ
    pub endpoint : ℕ
    pub packet : ℕ
    pub below : k < old.settings.endpoints
    pub closed : endpoint_at old k ≡ Closed
    pub never : kind ≡ Isochronous → ⊥
    pub sized : SizeGood old.settings.limit (kind_number kind) packet
    pub state_is : new ≡ with_endpoint old k (new_endpoint kind packet)
    pub rows_are : rows_of a ≡ with_heads w.rows (with_head w.rows.heads k (words_of (endpoint_head kind address endpoint packet)))
    pub reads : maximum_packet_length (get_or (words_of (endpoint_head kind address endpoint packet)) 1 0) ≡ packet
    pub silent : wrote ≡ no_writes
    pub nothing : event old.settings (turn_of w.rows c a) ≡ Other
    pub changes : change (turn_of w.rows c a) ≡ OpensSlot k kind packet

  pub record Closes : Type 0 where
    pub k : ℕ
    pub p : Pipe
    pub idle : endpoint_at old k ≡ Idle p
    pub state_is : new ≡ with_endpoint old k Closed
    pub rows_are : rows_of a ≡ with_heads w.rows (with_head w.rows.heads k (replicate 17 0))
    pub silent : wrote ≡ no_writes
    pub nothing : event old.settings (turn_of w.rows c a) ≡ Other
    pub changes : change (turn_of w.rows c a) ≡ ClosesSlot k

  -- set address: one word of an idle slot's head
  pub record Rewrites : Type 0 where
    pub k : ℕ
    pub p : Pipe
    pub word : ℕ
    pub idle : endpoint_at old k ≡ Idle p
    pub state_is : new ≡ old
    pub rows_are : rows_of a ≡ with_heads w.rows (with_head_word w.rows.heads (k + 1) 1 word)
    pub reads : maximum_packet_length word ≡ maximum_packet_length (head_word w.rows.heads (k + 1) 1)
    pub silent : wrote ≡ no_writes
    pub nothing : event old.settings (turn_of w.rows c a) ≡ Other
    pub same : change (turn_of w.rows c a) ≡ Same

  -- set packet size: that word, and the slot's size
  pub record Resizes : Type 0 where
    pub k : ℕ
    pub p : Pipe
    pub size : ℕ
    pub word : ℕ
    pub idle : endpoint_at old k ≡ Idle p
    pub sized : SizeGood old.settings.limit (kind_number p.kind) size
    pub state_is : new ≡ with_endpoint old k (Idle (with_size p size))
    pub rows_are : rows_of a ≡ with_heads w.rows (with_head_word w.rows.heads (k + 1) 1 word)
    pub reads : maximum_packet_length word ≡ size
    pub silent : wrote ≡ no_writes
    pub nothing : event old.settings (turn_of w.rows c a) ≡ Other
    pub changes : change (turn_of w.rows c a) ≡ ResizesSlot k size

  -- clear-halt: the toggle of an idle slot
  pub record Clears : Type 0 where
    pub k : ℕ
    pub p : Pipe
    pub idle : endpoint_at old k ≡ Idle p
    pub state_is : new ≡ with_endpoint old k (Idle (with_toggle p false))
    pub rows_are : rows_of a ≡ w.rows
    pub silent : wrote ≡ no_writes
    pub nothing : event old.settings (turn_of w.rows c a) ≡ Other
    pub changes : change (turn_of w.rows c a) ≡ ClearsHalt k

  pub record Accepts : Type 0 where
    pub k : ℕ
    pub t : TransferRequest
    pub readings : Readings
    pub judged : Judged old k t
    pub state_is : new ≡ state_with old (taken_for old k t).owner k t
    pub rows_are : rows_of a ≡ record {
      pool = fill_of (chain_for old k t (taken_for old k t)) w.rows.pool;
      heads = (linked_rows w.rows.heads w.rows.frames t.kind k (slot_link old k) (first_in old (taken_for old k t)) (overlay_token t.kind (toggle_at old k))).heads;
      frames = (linked_rows w.rows.heads w.rows.frames t.kind k (slot_link old k) (first_in old (taken_for old k t)) (overlay_token t.kind (toggle_at old k))).frames;
      setups = setups_with w.rows.setups k t;
    }
    pub writes_are : wrote ≡ writes_with readings
    pub submits : event old.settings (turn_of w.rows c a) ≡ Submits k (id_at old k) t
    pub same : change (turn_of w.rows c a) ≡ Same

  pub record WritesBack : Type 0 where
    pub place : ℕ
    pub token : ℕ
    pub in_request_lem : in_request old place ≡ true
    pub state_is : new ≡ old
    pub rows_are : rows_of a ≡ with_pool w.rows (fill_of (token_chain old place token) w.rows.pool)
    pub silent : wrote ≡ no_writes
    pub nothing : event old.settings (turn_of w.rows c a) ≡ Other
    -- only this call writes a token
    pub call_is : c ≡ Writeback place token
    pub accepted : a.reply.answer ≡ Ok (Done Nothing)
    pub same : change (turn_of w.rows c a) ≡ Same

  -- a cancel of a request that is unlinking
  pub record Marks : Type 0 where
    pub k : ℕ
    pub p : Pipe
    pub r : Request
    pub u : UnlinkBoundary
    pub unlinking : endpoint_at old k ≡ Unlinking p r u
    pub cancels : cancels_by k c a.reply.answer ≡ true
    pub state_is : new ≡ with_endpoint old k (Unlinking p (marked r) u)
    pub rows_are : rows_of a ≡ w.rows
    pub silent : wrote ≡ no_writes
    pub nothing : event old.settings (turn_of w.rows c a) ≡ Other
    pub same : change (turn_of w.rows c a) ≡ Same

  -- a cancel or a collect that unlinks; a cancel marks the request
  pub record Unlinked : Type 0 where
    pub k : ℕ
    pub p : Pipe
    pub r : Request
    pub asked : Request
    pub readings : Readings
    pub linked : endpoint_at old k ≡ Linked p r
    pub same_request : (asked ≡ r) ⊎ (asked ≡ marked r)
    -- only a cancel marks it
    pub cancels : (asked ≡ r) ⊎ (cancels_by k c a.reply.answer ≡ true)
    pub uncrowded : old.unanswered < 32
    pub found : is_missing (detach_of old w.rows.heads w.rows.frames k).predecessor ≡ false
    pub state_is : new ≡ (waiting_of old readings k p asked).state
    pub rows_are : rows_of a ≡ with_links w.rows (detach_of old w.rows.heads w.rows.frames k).rows.heads (detach_of old w.rows.heads w.rows.frames k).rows.frames
    pub writes_are : wrote ≡ (waiting_of old readings k p asked).writes
    pub leaves : event old.settings (turn_of w.rows c a) ≡ leaving old.settings k readings.frame (turn_of w.rows c a)
    pub same : change (turn_of w.rows c a) ≡ Same

  pub record Collected : Type 0 where
    pub k : ℕ
    pub p : Pipe
    pub r : Request
    pub u : UnlinkBoundary
    pub frame : ℕ
    pub toggle : Bool
    pub view : View
    pub unlinking : endpoint_at old k ≡ Unlinking p r u
    pub passed : passed_boundary u frame ≡ true
    -- the toggle that the call was given
    pub state_is : new ≡ (finish_of old view k (with_toggle p toggle) r).state
    pub kept : toggle ≡ kept_toggle (overlay_given c)
    pub rows_are : rows_of a ≡ with_heads w.rows (ended_overlay w.rows.heads k)
    pub silent : wrote ≡ no_writes
    pub collects : event old.settings (turn_of w.rows c a) ≡ Collects k r.id frame
    pub same : change (turn_of w.rows c a) ≡ Same

pub data Effect (w : World) (c : Call) (a : Applied) : Type 0 where
  still : Still w c a → Effect w c a
  hears : Hears w c a → Effect w c a
  joins : Joins w c a → Effect w c a
  passes : Passes w c a → Effect w c a
  counts : Counts w c a → Effect w c a
  opens : Opens w c a → Effect w c a
  closes : Closes w c a → Effect w c a
  rewrites : Rewrites w c a → Effect w c a
  resizes : Resizes w c a → Effect w c a
  clears : Clears w c a → Effect w c a
  accepts : Accepts w c a → Effect w c a
  writes_back : WritesBack w c a → Effect w c a
  marks : Marks w c a → Effect w c a
  unlinks : Unlinked w c a → Effect w c a
  collects : Collected w c a → Effect w c a

-- a head leaves the ring, or the frames, or neither
pub leaving_by : (s : Settings) (k frame : ℕ) (t : Turn) (P : Event → Type 0) → P (Unlinks k) → P (Parts k frame) → P Other → P (leaving s k frame t)
leaving_by s k frame t P ring frames none = by (leaves_ring s k t) (leaves_frames s k t)
  where
    by : (a b : Bool) → P (cond a (Unlinks k) (cond b (Parts k frame) Other))
    by true b = ring
    by false true = frames
    by false false = none
