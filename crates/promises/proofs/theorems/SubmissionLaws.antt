-- An accepted submit leaves its descriptors as planned, its setup packet and its overlay; setup packets stay; a collection ends the overlay.
use Prim.Native.Nat.{ℕ, suc, ◌+◌, ◌-◌, ◌*◌, ◌%◌, ◌^◌, ◌≤◌, ◌<◌}
use mathlib.Core.Path.{◌≡◌, refl, sym, ap, subst, ◌∙◌, subst₂}
use mathlib.Core.Logic.{◌≢◌}
use mathlib.Core.Bool.{Bool, true, false, not, false≢true}
use mathlib.Core.List.{List, [], ◌∷◌, map}
use native.Mathlib.Decide.{ℕ_discrete as dec_eq}
use native.Mathlib.Omega.{arith}
use borrow.Author.Tests.{not-false}
use lib.ListN.{get_or, length, length-set, set}
use lib.Seq.{get_or-set_other, get_or-set_same}
use Rattle.token.specs.Plans.{control_plan}
use Rattle.common.specs.declared.kinds.EndpointType.{EndpointType}
use Rattle.common.specs.declared.kinds.EndpointType.TheVariants.{Control}
use Rattle.token.specs.declared.qtd.QtdPid.TheVariants.{Setup}
use Rattle.token.proofs.TokenFields.{token_reads}
use Rattle.descriptor.specs.Descriptors.{new_qtd, with_next}
use Rattle.descriptor.specs.Setups.{setup_packet}
use Rattle.descriptor.specs.declared.qtd.QueueTransferDescriptor.{QueueTransferDescriptor}
use Rattle.descriptor.proofs.Coverage.{byte_at}
use Rattle.descriptor.proofs.SetupFields.{setup_reads}
use Rattle.pool.specs.Chains.{blank, with_token}
use Rattle.pool.specs.Places.{up_from}
use Rattle.pool.specs.Transfers.{address_of, bare_at, bare_for, is_last, record_at, stage_of_place}
use Rattle.pool.specs.declared.transfer.Transfer.{Transfer}
use Rattle.pool.proofs.ChainLaws.{fill_token}
use Rattle.settings.specs.declared.settings.Settings.{Settings}
use Rattle.common.specs.Answers.{first, passed}
use Rattle.common.specs.declared.answer.Refusal.TheVariants.{InvalidParameter}
use Rattle.common.proofs.CheckLaws.{let_pass, settled_by}
use Rattle.common.specs.Kinds.{is_control, is_interrupt}
use Rattle.pipe.specs.declared.endpoints.Pipe.{Pipe}
use Rattle.pipe.specs.declared.endpoints.Request.{Request}
use Rattle.common.specs.Rows.{put_at}
use Rattle.common.proofs.RowLaws.{put_before, put_behind, put_inside}
use Rattle.controller.specs.Lent.{accepts_of, lengths}
use Rattle.controller.specs.Readers.{has_endpoint}
use Rattle.controller.specs.Plain.{Lengths}
use Rattle.controller.specs.declared.lent.Readings.{Readings}
use Rattle.controller.proofs.ReaderLaws.{open_within, open_below}
use Rattle.schedule.specs.Links.{attached_frames, attached_ring, ended_overlay, slot_link, started_overlay}
use Rattle.request.specs.Submit.{attached_by, first_in, linked_rows, need_of_request, places_for, setups_with, taken_for, taken_of, toggle_at, transfer_of}
use Rattle.request.specs.Writeback.{in_request, refused_writeback, writeback_checks, writeback_of}
use Rattle.request.specs.Plain.{WrittenBack}
use Rattle.request.specs.declared.judge.TransferRequest.{TransferRequest}
use Rattle.request.proofs.JudgeLaws.{Judged}
use Rattle.request.proofs.SettleCases.{packed_first}
use Rattle.request.proofs.SubmitLaws.{places_needed}
use Rattle.collection.specs.Calls.{Gathered, finish_of, pending_left}
use Rattle.collection.specs.Unlinks.{Left, unlink_of, waiting_of}
use Rattle.collection.proofs.CollectLaws.{ended_words_lem}
use Rattle.collection.proofs.Splits.{collect_split, unlink_split}
use Rattle.ehci.specs.declared.call.Call.{Call}
use Rattle.ehci.specs.declared.call.Call.TheVariants.{Collect, Submit, Writeback}
use Rattle.ehci.specs.Decides.{collect_came, collect_decided, with_setups, writeback_decided, written_reply}
use Rattle.ehci.specs.Door.{Applied, carried_out}
use Rattle.ehci.specs.Replies.{answered_number, replied}
use Rattle.promises.specs.Runs.{EveryRun, History, Rows, World, core, history_of, moment, rows_of, world_of}
use Rattle.promises.specs.Events.{is_collected}
use Rattle.promises.specs.Uses.{Use, uses}
use Rattle.promises.specs.Walks.{chain_walk}
use Rattle.promises.specs.Rooms.{Every}
use Rattle.promises.specs.Coverage.{bytes_of, records_met}
use Rattle.promises.specs.Submissions.{Asks, CollectsEnded, Stays, Submitted, SubmitsPlanned, SubmittedStays, fields_of, packet_at, plan_for, word_at}
use Rattle.promises.proofs.effects.Effects.{Accepts, Effect, still, hears, joins, passes, counts, opens, closes, resizes, rewrites, accepts, writes_back, marks, unlinks, collects, clears}
use Rattle.promises.proofs.effects.EffectOf.{effect}
use Rattle.promises.proofs.effects.EffectDoor.{seen, through, carried}
use Rattle.promises.proofs.effects.RefusalNumbers.{uncollected, refusal_some}
use Rattle.promises.proofs.invariants.Sound.{Sound}
use Rattle.promises.proofs.invariants.UseInv.{Held, every_map, tenant_at, vacant_avoids}
use Rattle.promises.proofs.invariants.UseAccepts.{accepted_world, need_least, submit_starts, vacant, walked, limit_told}
use Rattle.promises.proofs.invariants.UseSteps.{requested_place}
use Rattle.promises.proofs.theorems.CoverBytes.{records_from, run_of_lem}
use Rattle.promises.proofs.theorems.CoverHolds.{accepted_by, control_short, records_are, zero_accepts}
use Rattle.promises.proofs.theorems.PlanLaws.{all_planned}
use Rattle.promises.proofs.theorems.RoomPromises.{held, told}
use Rattle.promises.proofs.theorems.BoundaryCalls.{collect_found}
use Rattle.pipe.proofs.LimitLaws.{limit_least, limit_most}
use Rattle.pipe.specs.Endpoints.{limit_at}
use Rattle.promises.proofs.invariants.OpenedInv.{Told}
use Rattle.promises.specs.Slots.{limit_in}
use Rattle.token.specs.Overlay.{overlay_token}
use Rattle.token.specs.EhciQtd.{data_toggle}
use Rattle.token.proofs.OverlayLaws.{overlay_alone}

-- ---- the overlay

module _ (heads frames : List ℕ) (k link start token : ℕ) (fits : 17 * (k + 1) + 17 ≤ length heads) where
  alternate_starts : get_or (started_overlay heads k start token) (17 * (k + 1) + 5) 0 ≡ 1
  unfolding started_overlay
  alternate_starts =
      let one = set heads (17 * (k + 1) + 4) start in
      get_or-set_other (set one (17 * (k + 1) + 5) 1) (17 * (k + 1) + 6) (17 * (k + 1) + 5) token 0 (λ e. omega (arith, e))
      ∙ get_or-set_same one (17 * (k + 1) + 5) 1 0 (subst (λ (n : ℕ). 17 * (k + 1) + 5 < n) (sym (length-set heads (17 * (k + 1) + 4) start)) (omega (arith, fits)))

  token_starts : get_or (started_overlay heads k start token) (17 * (k + 1) + 6) 0 ≡ token
  unfolding started_overlay
  token_starts =
      let one = set heads (17 * (k + 1) + 4) start in
      let two = set one (17 * (k + 1) + 5) 1 in
      get_or-set_same two (17 * (k + 1) + 6) token 0
      (subst (λ (n : ℕ). 17 * (k + 1) + 6 < n) (sym (length-set one (17 * (k + 1) + 5) 1 ∙ length-set heads (17 * (k + 1) + 4) start)) (omega (arith, fits)))

  -- going into a schedule writes links only
  linked_word : (i : ℕ) → 1 ≤ i → i < 17 → (kind : EndpointType)
      → get_or (linked_rows heads frames kind k link start token).heads (17 * (k + 1) + i) 0 ≡ get_or (started_overlay heads k start token) (17 * (k + 1) + i) 0
  unfolding linked_rows attached_frames attached_ring
  linked_word i low high kind = by (is_interrupt kind)
    where
      started : List ℕ
      started = started_overlay heads k start token

      by : (b : Bool) → get_or (attached_by b (started_overlay heads k start token) frames k link).heads (17 * (k + 1) + i) 0 ≡ get_or (started_overlay heads k start token) (17 * (k + 1) + i) 0
      by true = get_or-set_other (started_overlay heads k start token) (17 * (k + 1)) (17 * (k + 1) + i) (get_or frames 0 0) 0 (λ e. omega (arith, e, low))
      by false =
          get_or-set_other (set (started_overlay heads k start token) (17 * (k + 1)) (get_or (started_overlay heads k start token) 0 0)) 0 (17 * (k + 1) + i) link 0 (λ e. omega (arith, e))
          ∙ get_or-set_other (started_overlay heads k start token) (17 * (k + 1)) (17 * (k + 1) + i) (get_or (started_overlay heads k start token) 0 0) 0 (λ e. omega (arith, e, low))

-- ---- setup packets

module _ (rows : Rows) (k : ℕ) (setup size : ℕ) (room : 8 * k + 8 ≤ length rows.setups) where
  abbrev put_rows : Rows
  put_rows = record { pool = rows.pool; heads = rows.heads; frames = rows.frames; setups = put_at rows.setups (8 * k) (setup_packet setup size) }

  packet_put : packet_at put_rows k ≡ setup_packet setup size
  unfolding setup_packet
  packet_put =
      let at : (j : ℕ) → j < 8 → get_or (put_at rows.setups (8 * k) (setup_packet setup size)) (8 * k + j) 0 ≡ get_or (setup_packet setup size) j 0
      = λ j l. put_inside rows.setups (8 * k) (setup_packet setup size) room j l in
      λ i. at 0 (omega arith) i ∷ at 1 (omega arith) i ∷ at 2 (omega arith) i ∷ at 3 (omega arith) i ∷ at 4 (omega arith) i ∷ at 5 (omega arith) i ∷ at 6 (omega arith) i ∷ at 7 (omega arith) i ∷ []

  -- another slot's stays
  byte_elsewhere : (j i : ℕ) → j ≢ k → i < 8 → get_or (put_at rows.setups (8 * k) (setup_packet setup size)) (8 * j + i) 0 ≡ get_or rows.setups (8 * j + i) 0
  unfolding setup_packet
  byte_elsewhere j i ne low = by (dec_eq (j - k) 0)
    where
      by : Dec (j - k ≡ 0) → get_or (put_at rows.setups (8 * k) (setup_packet setup size)) (8 * j + i) 0 ≡ get_or rows.setups (8 * j + i) 0
      by (yes e) = put_before rows.setups (8 * k) (setup_packet setup size) room (8 * j + i) (before (below (dec_eq (k - j) 0)))
        where
          below : Dec (k - j ≡ 0) → suc j ≤ k
          below (yes z) = absurd (ne (omega (arith, e, z)))
          below (no n) = omega (arith, n)

          before : suc j ≤ k → 8 * j + i < 8 * k
          before l = omega (arith, l, low)
      by (no n) = put_behind rows.setups (8 * k) (setup_packet setup size) room (8 * j + i) (omega (arith, n))

-- the same bytes, the same packet
packet_same : (old new : Rows) (j : ℕ) → ((i : ℕ) → i < 8 → get_or new.setups (8 * j + i) 0 ≡ get_or old.setups (8 * j + i) 0) → packet_at new j ≡ packet_at old j
packet_same old new j e =
    λ i. e 0 (omega arith) i ∷ e 1 (omega arith) i ∷ e 2 (omega arith) i ∷ e 3 (omega arith) i ∷ e 4 (omega arith) i ∷ e 5 (omega arith) i ∷ e 6 (omega arith) i ∷ e 7 (omega arith) i ∷ []

asks_as : (bytes : List ℕ) (setup size : ℕ) → bytes ≡ setup_packet setup size → size ≤ 16384 → Asks bytes setup size
asks_as bytes setup size e short =
    let r = setup_reads setup size (omega (arith, short)) in
    subst (λ (b : List ℕ). Asks b setup size) (sym e)
    (record { type_is = r.type_is; request_is = r.request_is; value_is = r.value_is; index_is = r.index_is; length_is = r.length_is })

-- ---- the setup descriptor

stage_run : (t : Transfer) → t.setup + 8 ≤ 2 ^ 32 → t.setup % 8 ≡ 0 → bytes_of (stage_of_place t 0) ≡ up_from t.setup 8
unfolding stage_of_place new_qtd control_plan
stage_run t ends even =
    run_of_lem (stage_of_place t 0) t.setup 8 (token_reads Setup 8 false false).page_is (token_reads Setup 8 false false).bytes_is
    (λ j h. byte_at t.setup 8 j ends h (omega (arith, even)))

setup_run : (t : Transfer) → t.kind ≡ Control → t.setup + 8 ≤ 2 ^ 32 → t.setup % 8 ≡ 0 → (base : ℕ) (rest : List ℕ) → bytes_of (record_at t 0 rest base) ≡ up_from t.setup 8
unfolding record_at with_next bare_at
setup_run t kind ends even base rest = ap (λ (z : EndpointType). bytes_of (bare_for z t 0 (is_last rest))) kind ∙ stage_run t ends even

-- ---- an accepted submit

module _ (w : World) (k : ℕ) (t : TransferRequest) (sound : Sound w.state.settings w) (judged : Judged w.state k t) where
  abbrev s : Settings
  s = w.state.settings

  abbrev after : Rows
  after = (accepted_world w k t sound judged).rows

  below : k < s.endpoints
  below = open_within w.state k sound.ranges judged.opened

  head_fits : 17 * (k + 1) + 17 ≤ length w.rows.heads
  head_fits = omega (arith, below, sound.heads_fit)

  needed : length (places_for w.state k t) ≡ need_of_request w.state k t
  needed = places_needed w.state k t sound.ranges judged sound.owners

  limit_some : 1 ≤ limit_at w.state k
  limit_some = limit_least w.state sound.ranges k (open_below w.state k judged.opened)

  pub as_planned : map fields_of (records_met s after k) ≡ plan_for s (limit_at w.state k) k t
  as_planned =
      ap (map fields_of) (records_are w k t sound judged)
      ∙ all_planned (transfer_of w.state k t) s.pool (places_for w.state k t) limit_some (limit_most w.state sound.ranges k) (s.pool + 64 * s.descriptors) refl t.kind refl
      (control_short t judged.in_range) needed

  packet_room : 8 * k + 8 ≤ length w.rows.setups
  packet_room = omega (arith, below, sound.setups_fit)

  pub packet_asks : t.kind ≡ Control → Asks (packet_at after k) t.setup t.length
  unfolding setups_with
  packet_asks e =
      asks_as (packet_at after k) t.setup t.length
      (rw (ap is_control e) (packet_put w.rows k t.setup t.length packet_room)) (control_short t judged.in_range e)

  leads_there : t.kind ≡ Control → bytes_of (get_or (records_met s after k) 0 blank) ≡ up_from (s.setups + 8 * k) 8
  leads_there e =
      ap (λ (ds : List QueueTransferDescriptor). bytes_of (get_or ds 0 blank)) (records_are w k t sound judged)
      ∙ first_of (places_for w.state k t) (omega (arith, needed, need_least t.kind t.length (limit_at w.state k) limit_some))
    where
      first_of : (ps : List ℕ) → 1 ≤ length ps → bytes_of (get_or (records_from (transfer_of w.state k t) s.pool 0 ps) 0 blank) ≡ up_from (s.setups + 8 * k) 8
      first_of [] n = absurd (omega (arith, n))
      first_of (p ∷ ps) n =
          setup_run (transfer_of w.state k t) e (omega (arith, below, sound.ranges.good.setups_end)) (omega (arith, sound.ranges.good.setups_aligned)) s.pool ps

  next_there : word_at after k 4 ≡ s.pool + 64 * get_or (chain_walk s after k) 0 0
  unfolding taken_for taken_of
  next_there =
      submit_starts w.rows.heads w.rows.frames k (slot_link w.state k) (first_in w.state (taken_for w.state k t)) _ head_fits t.kind
      ∙ ap (address_of s.pool) (packed_first (places_for w.state k t))
      ∙ ap (λ (ps : List ℕ). s.pool + 64 * get_or ps 0 0) (sym (walked w k t sound judged))

  pub token_there : word_at after k 6 ≡ overlay_token t.kind (toggle_at w.state k)
  token_there =
      let first = first_in w.state (taken_for w.state k t) in
      linked_word w.rows.heads w.rows.frames k (slot_link w.state k) first _ head_fits 6 (omega arith) (omega arith) t.kind
      ∙ token_starts w.rows.heads w.rows.frames k (slot_link w.state k) first _ head_fits

  pub submitted_so : Submitted s (limit_at w.state k) after k t
  submitted_so =
      let first = first_in w.state (taken_for w.state k t) in
      record {
        planned_so = as_planned;
        packet = packet_asks;
        leads = leads_there;
        next_is = next_there;
        alternate_is = linked_word w.rows.heads w.rows.frames k (slot_link w.state k) first _ head_fits 5 (omega arith) (omega arith) t.kind
            ∙ alternate_starts w.rows.heads w.rows.frames k (slot_link w.state k) first _ head_fits;
        token_is = subst (λ (n : ℕ). n ≡ 2 ^ 31 * data_toggle n) (sym token_there) (overlay_alone t.kind (toggle_at w.state k));
      }

submitted_holds : (w : World) (h : History) → Sound w.state.settings w → Told h w.state → (k : ℕ) (t : TransferRequest) (rd : Readings)
    → answered_number (core w (Submit k t rd)).reply.answer ≡ 0
    → Submitted w.state.settings (limit_in w.state.settings h k t) (rows_of (core w (Submit k t rd))) k t
submitted_holds w h sound knows k t rd done =
    let told = zero_accepts k t (core w (Submit k t rd)).reply.answer done in
    accepted_by w (Submit k t rd) (core w (Submit k t rd)) k told.0 t told.1
    (λ j r. Submitted w.state.settings (limit_in w.state.settings h j r) (rows_of (core w (Submit k t rd))) j r)
    (λ x. subst₂ (λ (l : ℕ) (rows : Rows). Submitted w.state.settings l rows x.k x.t) (limit_told w x.k x.t sound x.judged h knows) (sym x.rows_are)
    (submitted_so w x.k x.t sound x.judged))
    (effect w (Submit k t rd))

-- ---- until it is collected

module _ (w : World) (h : History) (sound : Sound w.state.settings w) (kept : Held w.state.settings h w) (c : Call) (a : Applied) where
  abbrev us : List Use
  us = uses w.state.settings h

  abbrev Same : Use → Type 0
  Same u = packet_at (rows_of a) u.slot ≡ packet_at w.rows u.slot

  unwritten : (rows : Rows) → rows_of a ≡ rows → rows.setups ≡ w.rows.setups → Every Same us
  unwritten rows q z = every_map _ Same (λ u e. packet_same w.rows (rows_of a) u.slot (λ i l. ap (λ (r : Rows). get_or r.setups (8 * u.slot + i) 0) q ∙ ap (λ (l : List ℕ). get_or l (8 * u.slot + i) 0) z)) us kept.each

  accepted_apart : Accepts w c a → Every Same us
  unfolding setups_with
  accepted_apart x =
      every_map (λ u. u.slot ≡ x.k → ⊥) Same (λ u ne. packet_same w.rows (rows_of a) u.slot (λ i l. ap (λ (r : Rows). get_or r.setups (8 * u.slot + i) 0) x.rows_are ∙ byte u.slot ne i l)) us
      (vacant_avoids w.state.settings w.state.owner (tenant_at w.state) w.rows.pool w.rows.heads us x.k (vacant w x.k x.t sound x.judged) kept.each)
    where
      byte : (j : ℕ) → j ≢ x.k → (i : ℕ) → i < 8 → get_or (setups_with w.rows.setups x.k x.t) (8 * j + i) 0 ≡ get_or w.rows.setups (8 * j + i) 0
      byte j ne i l = by (is_control x.t.kind) refl
        where
          by : (b : Bool) → is_control x.t.kind ≡ b → get_or (setups_with w.rows.setups x.k x.t) (8 * j + i) 0 ≡ get_or w.rows.setups (8 * j + i) 0
          by true e = rw e (byte_elsewhere w.rows x.k x.t.setup x.t.length (packet_room w x.k x.t sound x.judged) j i ne l)
          by false e = rw e

  pub packets_stay : Effect w c a → Every Same us
  packets_stay (still x) = unwritten _ x.rows_are refl
  packets_stay (hears x) = unwritten _ x.rows_are refl
  packets_stay (joins x) = unwritten _ x.rows_are refl
  packets_stay (passes x) = unwritten _ x.rows_are refl
  packets_stay (counts x) = unwritten _ x.rows_are refl
  packets_stay (opens x) = unwritten _ x.rows_are refl
  packets_stay (closes x) = unwritten _ x.rows_are refl
  packets_stay (rewrites x) = unwritten _ x.rows_are refl
  packets_stay (resizes x) = unwritten _ x.rows_are refl
  packets_stay (clears x) = unwritten _ x.rows_are refl
  packets_stay (accepts x) = accepted_apart x
  packets_stay (writes_back x) = unwritten _ x.rows_are refl
  packets_stay (marks x) = unwritten _ x.rows_are refl
  packets_stay (unlinks x) = unwritten _ x.rows_are refl
  packets_stay (collects x) = unwritten _ x.rows_are refl

-- ---- an accepted writeback

module _ (w : World) (sound : Sound w.state.settings w) (p token : ℕ) where
  abbrev TokenPut : Applied → Type 0
  TokenPut a = answered_number a.reply.answer ≡ 0 → get_or a.pool p blank ≡ with_token (get_or w.rows.pool p blank) token

  abbrev lent : Lengths
  lent = lengths (length w.rows.pool) (length w.rows.heads) (length w.rows.frames) (length w.rows.setups)

  token_put : TokenPut (core w (Writeback p token))
  unfolding writeback_decided writeback_of refused_writeback
  token_put =
      through (λ _ _. TokenPut) w (Writeback p token) (λ e. absurd (refusal_some InvalidParameter e))
      (settled_by (first (writeback_checks w.state lent p)) _ _
      (λ (x : WrittenBack). TokenPut (carried w (written_reply x)))
      (λ r e q. absurd (refusal_some r q))
      (λ e q. ap (λ (l : List QueueTransferDescriptor). get_or l p blank) (fill_token w.state.settings.pool p token w.rows.pool)
      ∙ get_or-set_same w.rows.pool p (with_token (get_or w.rows.pool p blank) token) blank
      (requested_place w (Writeback p token) (core w (Writeback p token)) [] sound p
      (not-false (in_request w.state p) (let_pass (not (in_request w.state p)) InvalidParameter passed (let_pass (not (accepts_of w.state lent)) InvalidParameter (first ((not (in_request w.state p), InvalidParameter) ∷ [])) e).1).0))))

-- ---- a collection ends the overlay

module _ (w : World) (k id : ℕ) (rd : Readings) where
  abbrev EndsIt : Applied → Type 0
  EndsIt a = is_collected a.reply.answer ≡ true → a.heads ≡ ended_overlay w.rows.heads k

  abbrev Gathers : Gathered → Type 0
  Gathers g = EndsIt (carried_out (with_setups (collect_came g) w.rows.setups) w.rows.pool)

  unlink_none : (q : Pipe) (r : Request) → Gathers (pending_left (unlink_of w.state w.rows.heads w.rows.frames rd k q r))
  unfolding waiting_of replied
  unlink_none q r =
      unlink_split w.state w.rows.heads w.rows.frames rd k q r (λ (l : Left). Gathers (pending_left l)) (λ e. absurd (false≢true e)) (λ found e. absurd (false≢true e))

  ends_overlay : EndsIt (core w (Collect k id rd))
  unfolding collect_decided finish_of replied
  ends_overlay =
      through (λ _ _. EndsIt) w (Collect k id rd) (λ e. absurd (false≢true e))
      (collect_split w.state (length w.rows.pool) w.rows.heads w.rows.frames (length w.rows.setups) rd k id (seen w (Collect k id rd)) Gathers
      (λ x e. absurd (false≢true (sym (uncollected x) ∙ e))) (λ e. absurd (false≢true e)) (λ q r ok e below same done. unlink_none q r) (λ q r u ok e same passed done. refl))

-- ---- of a run

pub submits_planned : EveryRun SubmitsPlanned core
submits_planned s w o cs k t rd done =
    let now = world_of core w cs in
    let h = history_of core w cs in
    let sound = (held s w o cs).0 in
    subst (λ (z : Settings). Sound z now → Submitted z (limit_in z h k t) (rows_of (core now (Submit k t rd))) k t) sound.settings_are
    (λ good. submitted_holds now h good (told s w o cs).1 k t rd done) sound

pub submitted_stays : EveryRun SubmittedStays core
submitted_stays s w o cs =
    let now = world_of core w cs in
    let h = history_of core w cs in
    let at = held s w o cs in
    subst (λ (z : Settings). Sound z now → Held z h now → Stays z h (moment core now)) at.0.settings_are
    (λ sound kept. record { packets = λ c. packets_stay now h sound kept c (core now c) (effect now c); written = token_put now sound }) at.0 at.1

pub collects_ended : EveryRun CollectsEnded core
collects_ended s w o cs k id rd e j l =
    let now = world_of core w cs in
    let sound = (held s w o cs).0 in
    let x = collect_found now k id rd e in
    let low : k < now.state.settings.endpoints = open_within now.state k sound.ranges (ap has_endpoint x.unlinking) in
    let same : now.state.settings.endpoints ≡ s.endpoints = ap (λ (z : Settings). z.endpoints) sound.settings_are in
    ap (λ (hs : List ℕ). get_or hs (17 * (k + 1) + (3 + j)) 0) (ends_overlay now k id rd e)
    ∙ ended_words_lem now.rows.heads k (omega (arith, low, same, sound.heads_fit)) j l
