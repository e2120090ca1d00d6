-- Whatever a call does, a sound world stays sound.
use Prim.Native.Nat.{ℕ, zero, suc, ◌+◌, ◌*◌, ◌≤◌, ◌<◌}
use mathlib.Core.Bool.{Bool, true, false}
use mathlib.Core.List.{List, [], ◌∷◌}
use mathlib.Core.Logic.{⊎_elim}
use mathlib.Core.Path.{◌≡◌, refl, sym, ap, subst, ◌∙◌}
use native.Mathlib.Omega.{arith}
use borrow.Author.Tests.{ltb-true}
use lib.Dec.{ltb}
use lib.ListN.{get_or, length, length-replicate, length-set, length-take, replicate, set, take}
use lib.Seq.{length_front}
use Rattle.descriptor.specs.Descriptors.{terminated}
use Rattle.descriptor.specs.Heads.{endpoint_head, words_of}
use Rattle.descriptor.specs.Setups.{setup_packet}
use Rattle.pool.specs.Chains.{blank, fill_of, filled_from}
use Rattle.pool.specs.Plain.{Chain}
use Rattle.pool.specs.Places.{Each, list_of, mark_of, packed}
use Rattle.pool.proofs.ChainLaws.{filled_length, filled_others}
use Rattle.pool.proofs.Each.{each_map}
use Rattle.pool.proofs.PlaceLaws.{list_packed, mark_length, places_within}
use Rattle.settings.specs.declared.settings.Settings.{Settings}
use Rattle.state.specs.Slots.{with_slot}
use Rattle.state.specs.State.{with_bell, with_boundaries, with_owner}
use Rattle.state.specs.Plain.{Ehci}
use Rattle.state.proofs.RangesLaws.{Ranges}
use Rattle.pipe.specs.Endpoints.{with_endpoint, with_toggle}
use Rattle.common.specs.Kinds.{is_control, is_interrupt}
use Rattle.pipe.specs.declared.endpoints.Endpoint.{Endpoint}
use Rattle.pipe.specs.declared.endpoints.Request.{Request}
use Rattle.pipe.specs.declared.endpoints.Endpoint.TheVariants.{Closed, Idle, Linked, Unlinking}
use Rattle.pipe.proofs.EndpointLaws.{LinkedGood, UnlinkingGood, bell_wide, endpoint_keeps, owner_wide, slot_wide, OpenPipe, toggled_good}
use Rattle.common.proofs.RowLaws.{put_length}
use Rattle.common.proofs.TestLaws.{both_tells}
use Rattle.controller.proofs.ReaderLaws.{open_within}
use Rattle.schedule.specs.Bell.{fallen_from}
use Rattle.schedule.proofs.OverlayLaws.{started_length}
use Rattle.schedule.specs.Links.{attached_frames, attached_ring, detach_of, given_link, link_word, periodic, predecessor_of, started_overlay}
use Rattle.schedule.specs.declared.links.Predecessor.{Predecessor}
use Rattle.schedule.specs.declared.links.Predecessor.TheVariants.{First, Head, Missing}
use Rattle.endpoint.specs.Calls.{new_endpoint, with_size}
use Rattle.request.specs.Submit.{attached_by, chain_for, linked_rows, need_of_request, places_for, setups_with, state_with, taken_for, taken_of}
use Rattle.request.specs.Writeback.{in_request, token_chain}
use Rattle.request.specs.declared.judge.TransferRequest.{TransferRequest}
use Rattle.request.proofs.SubmitLaws.{submit_keeps}
use Rattle.collection.specs.Calls.{finish_of, marked}
use Rattle.collection.specs.Unlinks.{waiting_of}
use Rattle.collection.proofs.CollectLaws.{ended_length}
use Rattle.collection.proofs.MoveLaws.{finish_long}
use Rattle.collection.proofs.RangeLaws.{finish_keeps, mark_keeps, waiting_keeps}
use Rattle.ehci.specs.declared.call.Call.{Call}
use Rattle.ehci.specs.Door.{Applied}
use Rattle.promises.specs.Runs.{World, left_by, rows_of}
use Rattle.promises.proofs.effects.Effects.{Accepts, Clears, Closes, Collected, Counts, Effect, Hears, Marks, Opens, Resizes, Rewrites, Sides, Unlinked, WritesBack, accepts, besides, clears, closes, collects, counts, hears, joins, marks, opens, passes, resizes, rewrites, still, unlinks, writes_back}
use Rattle.promises.proofs.invariants.Sound.{Sound, both_sound, endpoint_sound, head_within, heads_sound, rows_sound, sides_sound, sides_wide, slot_below, slot_good_lem, slot_low, state_sound}
use Rattle.controller.specs.Readers.{has_endpoint}

-- ---- lengths

fallen_length : (k n : ℕ) (p q b : List ℕ) → length (fallen_from k n p q b) ≡ n
unfolding fallen_from
fallen_length k zero p q b = refl
fallen_length k (suc n) p q b = ap suc (fallen_length (suc k) n p q b)

given_lengths : (h f : List ℕ) (word : ℕ) (b : Bool) (q : Predecessor)
    → (length (given_link q b h f word).heads ≡ length h) × (length (given_link q b h f word).frames ≡ length f)
given_lengths h f word true First = (refl, length-replicate (length f) word)
given_lengths h f word false First = (length-set h 0 word, refl)
given_lengths h f word b (Head j) = (length-set h (17 * (j + 1)) word, refl)
given_lengths h f word b Missing = (refl, refl)

detached_lengths : (s : Ehci) (h f : List ℕ) (k : ℕ)
    → (length (detach_of s h f k).rows.heads ≡ length h) × (length (detach_of s h f k).rows.frames ≡ length f)
unfolding detach_of
detached_lengths s h f k = given_lengths h f (link_word h k) (periodic s k) (predecessor_of s h f k)

linked_lengths : (h f : List ℕ) (k link first token : ℕ) (b : Bool)
    → (length (attached_by b (started_overlay h k first token) f k link).heads ≡ length h)
    × (length (attached_by b (started_overlay h k first token) f k link).frames ≡ length f)
unfolding attached_frames attached_ring
linked_lengths h f k link first token true =
    (length-set (started_overlay h k first token) _ _ ∙ started_length h k first token, length-replicate (length f) link)
linked_lengths h f k link first token false =
    (length-set (set (started_overlay h k first token) _ _) 0 link ∙ length-set (started_overlay h k first token) _ _ ∙ started_length h k first token, refl)

fill_length : (c : Chain) (rs : List _) → length (fill_of c rs) ≡ length rs
unfolding fill_of
fill_length c rs = filled_length c.deed c.base 0 _ rs

setups_length_lem : (u : List ℕ) (k : ℕ) (t : TransferRequest) → 8 * k + 8 ≤ length u → length (setups_with u k t) ≡ length u
unfolding setups_with setup_packet
setups_length_lem u k t room = by (is_control t.kind) refl
  where
    by : (b : Bool) → is_control t.kind ≡ b → length (setups_with u k t) ≡ length u
    by true e = rw e (put_length u (8 * k) (setup_packet t.setup t.length) room)
    by false e = rw e

taken_length : (s : Ehci) (k : ℕ) (t : TransferRequest) → length (taken_for s k t).owner ≡ length s.owner
unfolding taken_for taken_of
taken_length s k t =
    let d = s.settings.descriptors in
    length_front s.owner (mark_of (take d s.owner) (need_of_request s k t) (k + 1)) d
    (mark_length (take d s.owner) (need_of_request s k t) (k + 1))

-- ---- each kind of effect

module _ (s : Settings) (w : World) (c : Call) (a : Applied) (g : Sound s w) where
  abbrev st : Ehci
  st = w.state

  -- only what stands beside changes
  beside_sound : (x : Sides) → a.reply.state ≡ besides st x → rows_of a ≡ w.rows → (Ranges st → Ranges a.reply.state) → Sound s (left_by a)
  beside_sound x state_is rows_are keeps =
      both_sound s a (besides st x) w.rows state_is rows_are
      (sides_sound s w g x (subst (λ (z : Ehci). Ranges z) state_is (keeps g.ranges))) (rows_sound s w g)

  hears_sound : Hears w c a → Sound s (left_by a)
  unfolding with_bell
  hears_sound x =
      both_sound s a (besides (with_bell st _ _ _) x.sides) w.rows x.state_is x.rows_are
      (record {
        settings_are = g.settings_are;
        ranges = subst (λ (z : Ehci). Ranges z) x.state_is (x.keeps g.ranges);
        wide = sides_wide s w g x.sides (with_bell st _ _ _) (bell_wide st _ _ _ g.wide);
        owners = g.owners;
      })
      (rows_sound s w g)

  counts_sound : Counts w c a → Sound s (left_by a)
  unfolding with_bell with_boundaries
  counts_sound x =
      both_sound s a _ w.rows x.state_is x.rows_are
      (record {
        settings_are = g.settings_are;
        ranges = subst (λ (z : Ehci). Ranges z) x.state_is (x.keeps g.ranges);
        wide = record {
          phases_wide = g.wide.phases_wide;
          kinds_wide = g.wide.kinds_wide;
          sizes_wide = g.wide.sizes_wide;
          toggles_wide = g.wide.toggles_wide;
          ids_wide = g.wide.ids_wide;
          requests_wide = g.wide.requests_wide;
          directions_wide = g.wide.directions_wide;
          lengths_wide = g.wide.lengths_wide;
          cancels_wide = g.wide.cancels_wide;
          boundaries_wide = fallen_length 0 32 st.phases st.kinds st.boundaries;
        };
        owners = g.owners;
      })
      (rows_sound s w g)

  opens_sound : Opens w c a → Sound s (left_by a)
  unfolding endpoint_head terminated
  opens_sound x =
      both_sound s a _ _ x.state_is x.rows_are
      (endpoint_sound s w g x.k (new_endpoint x.kind x.packet)
      (endpoint_keeps st x.k g.ranges g.wide low (new_endpoint x.kind x.packet)
      (record { next_least = omega arith; never = x.never; size = x.sized }) (λ le. absurd (omega (arith, le, x.below)))))
      (heads_sound s w g _ (put_length w.rows.heads (17 * (x.k + 1)) (words_of (endpoint_head x.kind x.address x.endpoint x.packet)) room))
    where
      low : x.k < 32
      low = omega (arith, x.below, g.ranges.good.endpoints_most)

      room : 17 * (x.k + 1) + 17 ≤ length w.rows.heads
      room =
          let e : st.settings.endpoints ≡ s.endpoints = ap (λ (z : Settings). z.endpoints) g.settings_are in
          omega (arith, x.below, g.heads_fit, e)

  closes_sound : Closes w c a → Sound s (left_by a)
  closes_sound x =
      both_sound s a _ _ x.state_is x.rows_are
      (endpoint_sound s w g x.k Closed
      (endpoint_keeps st x.k g.ranges g.wide (slot_low s w g x.k (Idle x.p) x.idle refl) Closed tt (λ le. refl)))
      (heads_sound s w g _ (put_length w.rows.heads (17 * (x.k + 1)) (replicate 17 0) (head_within s w g x.k (Idle x.p) x.idle refl)))

  resizes_sound : Resizes w c a → Sound s (left_by a)
  resizes_sound x =
      both_sound s a _ _ x.state_is x.rows_are
      (endpoint_sound s w g x.k (Idle (with_size x.p x.size))
      (endpoint_keeps st x.k g.ranges g.wide (slot_low s w g x.k (Idle x.p) x.idle refl) (Idle (with_size x.p x.size))
      (record { next_least = good.next_least; never = good.never; size = x.sized }) (λ le. absurd (omega (arith, le, below)))))
      (heads_sound s w g _ (length-set w.rows.heads (17 * (x.k + 1) + 1) x.word))
    where
      good : OpenPipe st.settings.limit x.p
      good = slot_good_lem s w g x.k (Idle x.p) x.idle refl

      below : x.k < st.settings.endpoints
      below = open_within st x.k g.ranges (ap has_endpoint x.idle)

  rewrites_sound : Rewrites w c a → Sound s (left_by a)
  rewrites_sound x =
      both_sound s a _ _ x.state_is x.rows_are (state_sound s w g)
      (heads_sound s w g _ (length-set w.rows.heads (17 * (x.k + 1) + 1) x.word))

  -- a chain that does not list place D leaves it
  shared_aside : (chain : Chain) (ps : List ℕ) → chain.places ≡ packed ps → Each (λ p. s.descriptors ≡ p → ⊥) ps
      → get_or (fill_of chain w.rows.pool) s.descriptors blank ≡ terminated
  unfolding fill_of
  shared_aside chain ps e aside =
      ap (λ (l : List ℕ). get_or (filled_from chain.deed chain.base 0 l w.rows.pool) s.descriptors blank) (ap list_of e ∙ list_packed ps)
      ∙ filled_others chain.deed chain.base 0 ps w.rows.pool s.descriptors aside ∙ g.shared_stands

  writes_sound : WritesBack w c a → Sound s (left_by a)
  unfolding in_request
  writes_sound x =
      both_sound s a _ _ x.state_is x.rows_are (state_sound s w g)
      (record {
        pool_fits_lem = fill_length _ w.rows.pool ∙ g.pool_fits_lem;
        shared_stands = shared_aside (token_chain st x.place x.token) (x.place ∷ []) refl (past, tt);
        heads_fit = g.heads_fit;
        frames_fit = g.frames_fit;
        setups_fit = g.setups_fit;
      })
    where
      past : s.descriptors ≡ x.place → ⊥
      past e =
          let below : x.place < st.settings.descriptors = ltb-true x.place st.settings.descriptors (both_tells (ltb x.place st.settings.descriptors) _ x.in_request_lem).0 in
          omega (arith, below, e, ap (λ (z : Settings). z.descriptors) g.settings_are)

  clears_sound : Clears w c a → Sound s (left_by a)
  clears_sound x =
      both_sound s a _ _ x.state_is x.rows_are
      (endpoint_sound s w g x.k (Idle (with_toggle x.p false))
      (endpoint_keeps st x.k g.ranges g.wide (slot_low s w g x.k (Idle x.p) x.idle refl) (Idle (with_toggle x.p false))
      (toggled_good _ x.p false (slot_good_lem s w g x.k (Idle x.p) x.idle refl))
      (λ le. absurd (omega (arith, le, slot_below s w g x.k (Idle x.p) x.idle refl)))))
      (rows_sound s w g)

  marks_sound : Marks w c a → Sound s (left_by a)
  marks_sound x =
      both_sound s a _ _ x.state_is x.rows_are
      (endpoint_sound s w g x.k (Unlinking x.p (marked x.r) x.u)
      (mark_keeps st x.k g.ranges g.wide (slot_low s w g x.k here x.unlinking refl) (slot_below s w g x.k here x.unlinking refl)
      x.p x.r x.u (slot_good_lem s w g x.k here x.unlinking refl)))
      (rows_sound s w g)
    where
      here : Endpoint
      here = Unlinking x.p x.r x.u

  unlinks_sound : Unlinked w c a → Sound s (left_by a)
  unfolding waiting_of with_endpoint with_slot with_bell
  unlinks_sound x =
      both_sound s a _ _ x.state_is x.rows_are
      (record {
        settings_are = g.settings_are;
        ranges = waiting_keeps st x.k g.ranges g.wide (slot_low s w g x.k here x.linked refl) (slot_below s w g x.k here x.linked refl)
            x.readings x.p x.asked good.pipe least x.uncrowded;
        wide = slot_wide _ x.k _ (bell_wide st _ _ _ g.wide);
        owners = g.owners;
      })
      (record {
        pool_fits_lem = g.pool_fits_lem;
        shared_stands = g.shared_stands;
        heads_fit = (detached_lengths st w.rows.heads w.rows.frames x.k).0 ∙ g.heads_fit;
        frames_fit = (detached_lengths st w.rows.heads w.rows.frames x.k).1 ∙ g.frames_fit;
        setups_fit = g.setups_fit;
      })
    where
      here : Endpoint
      here = Linked x.p x.r

      good : LinkedGood st.settings.limit x.p x.r
      good = slot_good_lem s w g x.k here x.linked refl

      least : 1 ≤ x.asked.id
      least =
          ⊎_elim (λ e. subst (λ (q : Request). 1 ≤ q.id) (sym e) good.request_least)
          (λ e. subst (λ (q : Request). 1 ≤ q.id) (sym e) good.request_least) x.same_request

  collects_sound : Collected w c a → Sound s (left_by a)
  unfolding finish_of with_endpoint with_slot with_owner
  collects_sound x =
      both_sound s a _ _ x.state_is x.rows_are
      (record {
        settings_are = g.settings_are;
        ranges = finish_keeps st x.k g.ranges g.wide (slot_low s w g x.k here x.unlinking refl)
            (slot_below s w g x.k here x.unlinking refl) x.view (with_toggle x.p x.toggle) x.r (toggled_good _ x.p x.toggle good.pipe);
        wide = slot_wide _ x.k _ (owner_wide st _ g.wide);
        owners = finish_long st x.view x.k (with_toggle x.p x.toggle) x.r ∙ g.owners;
      })
      (heads_sound s w g _ (ended_length w.rows.heads x.k (head_within s w g x.k here x.unlinking refl)))
    where
      here : Endpoint
      here = Unlinking x.p x.r x.u

      good : UnlinkingGood st.settings.limit st.unanswered x.p x.r x.u
      good = slot_good_lem s w g x.k here x.unlinking refl

  accepts_sound : Accepts w c a → Sound s (left_by a)
  unfolding state_with with_endpoint with_slot with_owner linked_rows taken_for taken_of
  accepts_sound x =
      both_sound s a _ _ x.state_is x.rows_are
      (record {
        settings_are = g.settings_are;
        ranges = submit_keeps st x.k x.t g.ranges x.judged g.wide g.owners;
        wide = slot_wide _ x.k _ (owner_wide st _ g.wide);
        owners = taken_length st x.k x.t ∙ g.owners;
      })
      (record {
        pool_fits_lem = fill_length _ w.rows.pool ∙ g.pool_fits_lem;
        shared_stands = shared_aside (chain_for st x.k x.t (taken_for st x.k x.t)) (places_for st x.k x.t) chain_places past;
        heads_fit = (linked_lengths w.rows.heads w.rows.frames x.k _ _ _ (is_interrupt x.t.kind)).0 ∙ g.heads_fit;
        frames_fit = (linked_lengths w.rows.heads w.rows.frames x.k _ _ _ (is_interrupt x.t.kind)).1 ∙ g.frames_fit;
        setups_fit = setups_length_lem w.rows.setups x.k x.t room ∙ g.setups_fit;
      })
    where
      front : List ℕ
      front = take st.settings.descriptors st.owner

      chain_places : (taken_for st x.k x.t).places ≡ packed (places_for st x.k x.t)
      chain_places = refl

      past : Each (λ p. s.descriptors ≡ p → ⊥) (places_for st x.k x.t)
      past =
          each_map (λ (p : ℕ). p < length front) (λ (p : ℕ). s.descriptors ≡ p → ⊥)
          (λ p h e. omega (arith, h, e, length-take st.settings.descriptors st.owner, ap (λ (z : Settings). z.descriptors) g.settings_are))
          (places_for st x.k x.t) (places_within front 0 (need_of_request st x.k x.t))

      room : 8 * x.k + 8 ≤ length w.rows.setups
      room =
          let e : st.settings.endpoints ≡ s.endpoints = ap (λ (z : Settings). z.endpoints) g.settings_are in
          omega (arith, open_within st x.k g.ranges x.judged.opened, g.setups_fit, e)

  pub sound_keeps : Effect w c a → Sound s (left_by a)
  sound_keeps (still x) = beside_sound x.sides x.state_is x.rows_are x.keeps
  sound_keeps (hears x) = hears_sound x
  sound_keeps (joins x) = beside_sound x.sides x.state_is x.rows_are x.keeps
  sound_keeps (passes x) = beside_sound x.sides x.state_is x.rows_are x.keeps
  sound_keeps (counts x) = counts_sound x
  sound_keeps (opens x) = opens_sound x
  sound_keeps (closes x) = closes_sound x
  sound_keeps (rewrites x) = rewrites_sound x
  sound_keeps (resizes x) = resizes_sound x
  sound_keeps (clears x) = clears_sound x
  sound_keeps (accepts x) = accepts_sound x
  sound_keeps (writes_back x) = writes_sound x
  sound_keeps (marks x) = marks_sound x
  sound_keeps (unlinks x) = unlinks_sound x
  sound_keeps (collects x) = collects_sound x
