-- An accepted submit: its use joins the others, and each has its own slot, places and records.
use Prim.Native.Nat.{ℕ, suc, ◌+◌, ◌*◌, ◌≤◌, ◌<◌}
use mathlib.Core.Path.{◌≡◌, refl, sym, ap, ap₂, subst, ◌∙◌}
use mathlib.Core.Logic.{◌≢◌}
use mathlib.Core.Bool.{Bool, true, false, true≢false}
use mathlib.Core.List.{List, [], ◌∷◌}
use native.Mathlib.Omega.{arith}
use lib.Dec.{eqb}
use lib.ListN.{drop, get_or, length, set, take}
use lib.Seq.{get_or-set_other, get_or-set_same, length-take-le, take_at}
use Rattle.token.specs.Chunks.{if_empty, need_of, working_limit}
use Rattle.common.specs.declared.kinds.EndpointType.{EndpointType}
use Rattle.common.specs.declared.kinds.EndpointType.TheVariants.{Control, Isochronous, Bulk, Interrupt}
use Rattle.token.proofs.ChunkLaws.{count_pos}
use Rattle.descriptor.specs.declared.qtd.QueueTransferDescriptor.{QueueTransferDescriptor}
use Rattle.pool.specs.Chains.{blank, fill_of, filled_from}
use Rattle.pool.specs.Places.{Each, Within, count_of, mark_of, places_from}
use Rattle.pool.specs.Transfers.{alternate_word, record_at}
use Rattle.pool.specs.declared.transfer.Transfer.{Transfer}
use Rattle.pool.specs.Plain.{Transfer as TransferDeed}
use Rattle.pool.proofs.ChainLaws.{filled_listed}
use Rattle.pool.proofs.Each.{each_at, each_map}
use Rattle.pool.proofs.PlaceLaws.{list_packed, mark_count, mark_length, mark_takes, places_ascend, places_hold, places_within}
use Rattle.settings.specs.declared.settings.Settings.{Settings}
use Rattle.settings.specs.Settings.{pool_length}
use Rattle.state.specs.Slots.{slot_at, with_slot}
use Rattle.state.specs.State.{with_owner}
use Rattle.state.specs.Plain.{Ehci}
use Rattle.pipe.specs.Endpoints.{endpoint_at, kind_of, limit_at, with_endpoint}
use Rattle.common.specs.Kinds.{is_interrupt}
use Rattle.pipe.specs.declared.endpoints.Endpoint.{Endpoint}
use Rattle.pipe.specs.declared.endpoints.Endpoint.TheVariants.{Closed, Idle, Linked, Unlinking}
use Rattle.pipe.proofs.EndpointLaws.{kind_there, owner_wide}
use Rattle.pipe.proofs.LimitLaws.{limit_least}
use Rattle.controller.specs.Readers.{free_count, holds_request, is_opened}
use Rattle.controller.proofs.FreeLaws.{zeros_are}
use Rattle.controller.proofs.ReaderLaws.{open_below, open_within}
use Rattle.schedule.specs.Links.{attached_frames, attached_ring, slot_link, started_overlay}
use Rattle.request.specs.Submit.{attached_by, chain_for, first_in, id_at, linked_rows, linked_with, need_of_request, places_for, setups_with, state_with, taken_for, taken_of, toggle_at, transfer_of}
use Rattle.request.specs.declared.judge.TransferRequest.{TransferRequest}
use Rattle.request.proofs.JudgeLaws.{Judged, free_le}
use Rattle.request.proofs.SubmitLaws.{places_needed, submit_met, submit_others, submit_places, submit_records, submit_words}
use Rattle.ehci.specs.declared.call.Call.{Call}
use Rattle.ehci.specs.Door.{Applied}
use Rattle.promises.specs.Runs.{History, World, left_by, rows_of, turn_of}
use Rattle.promises.specs.Events.{Submits}
use Rattle.promises.specs.Slots.{limit_in, size_in, size_of}
use Rattle.promises.specs.Uses.{Use, needs, uses}
use Rattle.promises.specs.Walks.{Terminated, Walk, chain_walk, next_leads, next_walk}
use Rattle.promises.proofs.effects.Effects.{Accepts}
use Rattle.promises.proofs.effects.SlotViews.{view_same}
use Rattle.promises.proofs.any_machine.Walking.{chain_walked, walk_along}
use Rattle.promises.proofs.invariants.Sound.{Sound}
use Rattle.promises.specs.Rooms.{transfer_for, untold}
use Rattle.promises.proofs.invariants.OpenedInv.{Told, kind_slot}
use Rattle.promises.proofs.invariants.UseInv.{Avoids, Held, HeldIn, Kept, Nobody, all_counted, every_both, every_map, overlay_next, places_at, tenant_at, tenant_of, vacant_avoids}
use Rattle.promises.proofs.invariants.UseSteps.{uses_by, tenant_back}
use Rattle.token.specs.Overlay.{overlay_token}

pub vacant_of : (e : Endpoint) → holds_request e ≡ false → tenant_of e ≡ Nobody
vacant_of Closed h = refl
vacant_of (Idle p) h = refl
vacant_of (Linked p r) h = absurd (true≢false h)
vacant_of (Unlinking p r b) h = absurd (true≢false h)

pub need_least : (kind : EndpointType) (n limit : ℕ) → 1 ≤ limit → 1 ≤ need_of kind n limit
unfolding need_of
need_least Control n limit h = by (eqb n 0)
  where
    by : (b : Bool) → 1 ≤ if_empty b 2 3
    by true = omega arith
    by false = omega arith
need_least Isochronous n limit h = count_pos n limit h
need_least Bulk n limit h = count_pos n limit h
need_least Interrupt n limit h = count_pos n limit h

-- the overlay's next word is where the chain begins
module _ (heads frames : List ℕ) (k link start token : ℕ) (fits : 17 * (k + 1) + 17 ≤ length heads) where
  overlay_starts : get_or (started_overlay heads k start token) (17 * (k + 1) + 4) 0 ≡ start
  unfolding started_overlay
  overlay_starts =
      let one = set heads (17 * (k + 1) + 4) start in
      let two = set one (17 * (k + 1) + 5) 1 in
      get_or-set_other two (17 * (k + 1) + 6) (17 * (k + 1) + 4) token 0 (λ e. omega (arith, e)) ∙ get_or-set_other one (17 * (k + 1) + 5) (17 * (k + 1) + 4) 1 0 (λ e. omega (arith, e))
      ∙ get_or-set_same heads (17 * (k + 1) + 4) start 0 (omega (arith, fits))

  attach_starts : (b : Bool) → overlay_next (attached_by b (started_overlay heads k start token) frames k link).heads k ≡ start
  unfolding attached_frames attached_ring
  attach_starts true = get_or-set_other (started_overlay heads k start token) (17 * (k + 1)) (17 * (k + 1) + 4) (get_or frames 0 0) 0 (λ e. omega (arith, e)) ∙ overlay_starts
  attach_starts false =
      let started = started_overlay heads k start token in
      get_or-set_other (set started (17 * (k + 1)) (get_or started 0 0)) 0 (17 * (k + 1) + 4) link 0 (λ e. omega (arith, e))
      ∙ get_or-set_other started (17 * (k + 1)) (17 * (k + 1) + 4) (get_or started 0 0) 0 (λ e. omega (arith, e)) ∙ overlay_starts

  pub submit_starts : (kind : EndpointType) → overlay_next (linked_rows heads frames kind k link start token).heads k ≡ start
  unfolding linked_rows
  submit_starts kind = attach_starts (is_interrupt kind)

module _ (w : World) (k : ℕ) (t : TransferRequest) (sound : Sound w.state.settings w) (judged : Judged w.state k t) where
  abbrev st : Ehci
  st = w.state

  abbrev s : Settings
  s = w.state.settings

  abbrev front : List ℕ
  front = take s.descriptors st.owner

  -- the world that an accepted submit leaves
  abbrev pub accepted_world : World
  accepted_world =
      record {
        state = state_with st (taken_for st k t).owner k t;
        rows = record {
          pool = fill_of (chain_for st k t (taken_for st k t)) w.rows.pool;
          heads = (linked_rows w.rows.heads w.rows.frames t.kind k (slot_link st k) (first_in st (taken_for st k t)) (overlay_token t.kind (toggle_at st k))).heads;
          frames = (linked_rows w.rows.heads w.rows.frames t.kind k (slot_link st k) (first_in st (taken_for st k t)) (overlay_token t.kind (toggle_at st k))).frames;
          setups = setups_with w.rows.setups k t;
        };
      }

  front_length : length front ≡ s.descriptors
  front_length = length-take-le s.descriptors st.owner (omega (arith, sound.ranges.good.descriptors_most, sound.owners))

  row_within : Within (pool_length s) (places_for st k t)
  row_within =
      each_map (λ (p : ℕ). p < length front) (λ (p : ℕ). p < pool_length s) (λ p h. omega (arith, h, front_length)) (places_for st k t)
      (places_within front 0 (need_of_request st k t))

  within : k < s.endpoints
  within = open_within st k sound.ranges judged.opened

  pub vacant : tenant_at st k ≡ Nobody
  vacant = vacant_of (endpoint_at st k) judged.bare

  need_most : need_of_request st k t ≤ s.descriptors
  need_most = omega (arith, judged.room, free_le st)

  front_taken : take s.descriptors (taken_for st k t).owner ≡ mark_of front (need_of_request st k t) (k + 1)
  unfolding taken_for taken_of
  front_taken = take_at (mark_of front (need_of_request st k t) (k + 1)) (drop s.descriptors st.owner) s.descriptors (mark_length front (need_of_request st k t) (k + 1) ∙ front_length)

  -- its overlay leads through the places that it takes
  walked_all : next_walk s accepted_world.rows.pool (overlay_next accepted_world.rows.heads k) ≡ record { met = places_for st k t; end = Terminated }
  walked_all =
      ap (next_walk s accepted_world.rows.pool)
      (submit_starts w.rows.heads w.rows.frames k (slot_link st k) (first_in st (taken_for st k t)) _ (omega (arith, within, sound.heads_fit)) t.kind)
      ∙ chain_walked s accepted_world.rows.pool (s.descriptors + 1) (first_in st (taken_for st k t)) (places_for st k t)
      row_within
      (omega (arith, need_most, places_needed st k t sound.ranges judged sound.owners))
      (submit_met st k t sound.ranges judged sound.owners w.rows.pool (s.descriptors + 1) sound.pool_fits_lem
      (need_least t.kind t.length (limit_at st k) (limit_least st sound.ranges k (open_below st k judged.opened))) (omega (arith, need_most)))

  pub walked : chain_walk s accepted_world.rows k ≡ places_for st k t
  unfolding chain_walk
  walked = ap (λ (x : Walk). x.met) walked_all

  -- its records are its descriptors, in order
  pub submitted_record : (j : ℕ) → j < length (places_for st k t)
      → get_or accepted_world.rows.pool (get_or (places_for st k t) j 0) blank ≡ record_at (transfer_of st k t) j (drop (suc j) (places_for st k t)) s.pool
  unfolding taken_for taken_of fill_of
  submitted_record j h =
      let along : 0 + j ≡ j = omega arith in
      ap (λ (l : List ℕ). get_or (filled_from (TransferDeed (transfer_of st k t)) s.pool 0 l w.rows.pool) (get_or (places_for st k t) j 0) blank) (list_packed (places_for st k t))
      ∙ filled_listed (TransferDeed (transfer_of st k t)) s.pool 0 (places_for st k t) w.rows.pool j (places_ascend 0 front 0 (need_of_request st k t))
      (subst (λ (n : ℕ). Within n (places_for st k t)) (sym sound.pool_fits_lem) row_within) h
      ∙ ap (λ (n : ℕ). record_at (transfer_of st k t) n (drop (suc j) (places_for st k t)) s.pool) along

  new_owner : accepted_world.state.owner ≡ (taken_for st k t).owner
  unfolding state_with with_endpoint with_slot with_owner
  new_owner = refl

  new_front : take s.descriptors accepted_world.state.owner ≡ mark_of front (need_of_request st k t) (k + 1)
  new_front = ap (λ (o : List ℕ). take s.descriptors o) new_owner ∙ front_taken

  -- the slot's limit is that of the request's kind and the slot's size
  pub limit_is : limit_at st k ≡ working_limit t.kind s.limit (slot_at st k).size
  limit_is =
      ap (λ (y : EndpointType). working_limit y s.limit (slot_at st k).size) (ap (λ (n : ℕ). kind_of n) (sym judged.same_kind) ∙ kind_there t.kind)

  -- the use, with its places, and its slot's size
  abbrev use_of : List ℕ → Use
  use_of ps = record { slot = k; id = id_at st k; request = t; size = (slot_at st k).size; places = ps }

  need_is : need_of_request st k t ≡ need_of t.kind t.length (working_limit t.kind s.limit (slot_at st k).size)
  need_is = ap (need_of t.kind t.length) limit_is

  transfer_is : (ps : List ℕ) → transfer_of st k t ≡ transfer_for s (use_of ps)
  transfer_is ps = λ i.
      record {
        kind = t.kind;
        direction = t.direction;
        address = t.address;
        length = t.length;
        limit = limit_is i;
        setup = s.setups + 8 * k;
        alternate = alternate_word t.kind t.direction (s.pool + 64 * s.descriptors);
      }

  abbrev KeptNow : Use → Type 0
  KeptNow u = Kept s accepted_world.state.owner (tenant_at accepted_world.state) accepted_world.rows.pool accepted_world.rows.heads u

  abbrev KeptThen : Use → Type 0
  KeptThen u = Kept s st.owner (tenant_at st) w.rows.pool w.rows.heads u

  kept_new : places_at s st.owner (tenant_at st) w.rows.pool w.rows.heads k ≡ [] → KeptNow (use_of (places_for st k t))
  unfolding state_with
  kept_new none =
      record {
        below = within;
        holds = view_same tenant_of tenant_back (with_owner st (taken_for st k t).owner) k (linked_with st k t) (owner_wide st _ sound.wide) (open_below st k judged.opened);
        places_are = sym (ap (λ (o : List ℕ). places_from 0 o (k + 1) 256) new_front
            ∙ mark_takes 0 front (need_of_request st k t) (k + 1) 256 (λ e. omega (arith, e))
            (sym (all_counted front (k + 1) (omega (arith, front_length, sound.ranges.good.descriptors_most))) ∙ ap length none)
            (omega (arith, need_most, sound.ranges.good.descriptors_most)));
        as_needed = places_needed st k t sound.ranges judged sound.owners ∙ need_is;
        leads = walked_all;
        written = λ j h. ap untold (submitted_record j h
            ∙ ap (λ (x : Transfer). record_at x j (drop (suc j) (places_for st k t)) s.pool) (transfer_is (places_for st k t)));
      }

  -- another slot's use
  kept_old : (u : Use) → u.slot ≢ k → KeptThen u → KeptNow u
  kept_old u ne kept =
      record {
        below = kept.below;
        holds = ap tenant_of (submit_others st (taken_for st k t).owner k u.slot t ne) ∙ kept.holds;
        places_are = kept.places_are ∙ sym (ap (λ (o : List ℕ). places_from 0 (take s.descriptors o) (u.slot + 1) 256) new_owner
            ∙ submit_places st k (u.slot + 1) 256 t sound.ranges sound.owners (λ e. ne (omega (arith, e))) (λ e. omega (arith, e)));
        as_needed = kept.as_needed;
        leads = ap (next_walk s accepted_world.rows.pool) word
            ∙ walk_along (next_leads s) (λ p. (get_or w.rows.pool p blank).next) (λ p. (get_or accepted_world.rows.pool p blank).next) (s.descriptors + 1) (overlay_next w.rows.heads u.slot)
            (subst (λ (x : Walk). Each (λ p. (get_or accepted_world.rows.pool p blank).next ≡ (get_or w.rows.pool p blank).next) x.met) (sym kept.leads) nexts)
            ∙ kept.leads;
        written = λ j h. ap untold (each_at Same u.places j same h) ∙ kept.written j h;
      }
    where
      Same : ℕ → Type 0
      Same p = get_or accepted_world.rows.pool p blank ≡ get_or w.rows.pool p blank

      word : overlay_next accepted_world.rows.heads u.slot ≡ overlay_next w.rows.heads u.slot
      word =
          submit_words w.rows.heads w.rows.frames k (slot_link st k) (first_in st (taken_for st k t)) _ (17 * (u.slot + 1) + 4) (λ e. omega (arith, e)) (λ e. omega (arith, e))
          (λ e. ne (omega (arith, e))) (λ e. omega (arith, e)) (λ e. omega (arith, e)) t.kind

      owned : Each (λ p. get_or front p 0 ≡ u.slot + 1) u.places
      owned = subst (Each (λ p. get_or front p 0 ≡ u.slot + 1)) (sym kept.places_are) (places_hold front (u.slot + 1) 256)

      same : Each Same u.places
      same =
          each_map (λ p. get_or front p 0 ≡ u.slot + 1) Same
          (λ p e. submit_records st k p t w.rows.pool (λ z. omega (arith, e, z))) u.places owned

      nexts : Each (λ p. (get_or accepted_world.rows.pool p blank).next ≡ (get_or w.rows.pool p blank).next) u.places
      nexts = each_map Same (λ p. (get_or accepted_world.rows.pool p blank).next ≡ (get_or w.rows.pool p blank).next) (λ p e. ap (λ (d : QueueTransferDescriptor). d.next) e) u.places same

  -- the use as its turn tells it
  abbrev tells_in : World → Use
  tells_in v = use_of (chain_walk s v.rows k)

  pub accepted_holds : (us : List Use) → HeldIn s us w → HeldIn s (tells_in accepted_world ∷ us) accepted_world
  unfolding free_count
  accepted_holds us held =
      record {
        each = (
          subst (λ (ps : List ℕ). KeptNow (use_of ps)) (sym walked) (kept_new (held.rest k avoids).1),
          every_map (λ u. KeptThen u × (u.slot ≡ k → ⊥)) KeptNow (λ u e. kept_old u e.1 e.0) us (every_both KeptThen (λ u. u.slot ≡ k → ⊥) us held.each avoids),
        );
        apart = (avoids, held.apart);
        rest = λ j e. (
          ap tenant_of (submit_others st (taken_for st k t).owner k j t (λ q. e.0 (sym q))) ∙ (held.rest j e.1).0,
          ap (λ (o : List ℕ). places_from 0 (take s.descriptors o) (j + 1) 256) new_owner
              ∙ submit_places st k (j + 1) 256 t sound.ranges sound.owners (λ q. e.0 (omega (arith, q))) (λ q. omega (arith, q)) ∙ (held.rest j e.1).1,
        );
        room = ap₂ (λ (o : List ℕ) (n : ℕ). count_of 0 o + (n + needs s us)) new_front (sym need_is)
            ∙ omega (arith, mark_count front (need_of_request st k t) (k + 1) (λ e. omega (arith, e)), judged.room, zeros_are front, held.room);
      }
    where
      avoids : Avoids k us
      avoids = vacant_avoids s st.owner (tenant_at st) w.rows.pool w.rows.heads us k vacant held.each

-- the history knows the size of an open slot
pub told_size : (h : History) (st : Ehci) (k : ℕ) → Told h st → is_opened st k ≡ true → size_in k h ≡ (slot_at st k).size
told_size h st k told o = ap size_of (told.slots k ∙ kind_slot st k o)

pub limit_told : (w : World) (k : ℕ) (t : TransferRequest) (sound : Sound w.state.settings w) (judged : Judged w.state k t) (h : History) → Told h w.state
    → limit_at w.state k ≡ limit_in w.state.settings h k t
limit_told w k t sound judged h told =
    limit_is w k t sound judged ∙ ap (working_limit t.kind w.state.settings.limit) (sym (told_size h w.state k told judged.opened))

pub accepts_held : (w : World) (c : Call) (a : Applied) (h : History) → Told h w.state → Sound w.state.settings w → (x : Accepts w c a)
    → Held w.state.settings h w → Held w.state.settings (turn_of w.rows c a ∷ h) (left_by a)
accepts_held w c a h told sound x held =
    subst (λ (us : List Use). HeldIn s' us (left_by a))
    (sym (uses_by s' (turn_of w.rows c a) h (Submits x.k (id_at w.state x.k) x.t) x.submits
    ∙ ap (λ (n : ℕ). record { slot = x.k; id = id_at w.state x.k; request = x.t; size = n; places = chain_walk s' (rows_of a) x.k } ∷ uses s' h)
    (told_size h w.state x.k told x.judged.opened)))
    (subst (λ (v : World). HeldIn s' (tells_in w x.k x.t sound x.judged v ∷ uses s' h) v) (sym left) (accepted_holds w x.k x.t sound x.judged (uses s' h) held))
  where
    s' : Settings
    s' = w.state.settings

    left : left_by a ≡ accepted_world w x.k x.t sound x.judged
    left = λ i. record { state = x.state_is i; rows = x.rows_are i }
