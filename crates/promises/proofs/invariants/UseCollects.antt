-- A collection: its use leaves the others, and its places are free.
use Prim.Native.Nat.{ℕ, ◌+◌, ◌*◌, ◌≤◌, ◌<◌}
use mathlib.Core.Path.{◌≡◌, refl, sym, ap, subst, ◌∙◌}
use mathlib.Core.Logic.{◌≢◌}
use mathlib.Core.Bool.{Bool, false, true≢false}
use mathlib.Core.List.{List, [], ◌∷◌}
use native.Mathlib.Decide.{ℕ_discrete as dec_eq}
use native.Mathlib.Omega.{arith}
use borrow.Author.Tests.{eq-eqb, ne_eqb}
use lib.ListN.{length, take}
use lib.Seq.{length-take-le}
use Rattle.descriptor.specs.declared.qtd.QueueTransferDescriptor.{QueueTransferDescriptor}
use Rattle.pool.specs.Places.{clear_of, count_of, places_from}
use Rattle.pool.specs.declared.chain.View.{View}
use Rattle.pool.proofs.PlaceLaws.{clear_count}
use Rattle.settings.specs.declared.settings.Settings.{Settings}
use Rattle.state.specs.Slots.{with_slot}
use Rattle.state.specs.State.{with_owner}
use Rattle.state.specs.Plain.{Ehci}
use Rattle.pipe.specs.Endpoints.{endpoint_at, with_endpoint, with_toggle}
use Rattle.pipe.specs.declared.endpoints.Endpoint.{Endpoint}
use Rattle.pipe.specs.declared.endpoints.Endpoint.TheVariants.{Idle, Unlinking}
use Rattle.pipe.specs.declared.endpoints.Pipe.{Pipe}
use Rattle.pipe.specs.declared.endpoints.Request.{Request}
use Rattle.pipe.specs.declared.endpoints.UnlinkBoundary.{UnlinkBoundary}
use Rattle.pipe.proofs.EndpointLaws.{endpoint_other, owner_aside}
use Rattle.controller.specs.Readers.{has_endpoint}
use Rattle.controller.proofs.ReaderLaws.{open_below, open_within}
use Rattle.schedule.specs.Links.{ended_overlay}
use Rattle.collection.specs.Calls.{finish_of}
use Rattle.collection.proofs.CollectLaws.{ended_others, finish_idle, finish_none, finish_others}
use Rattle.collection.proofs.FreedLaws.{freed_front}
use Rattle.ehci.specs.declared.call.Call.{Call}
use Rattle.ehci.specs.Door.{Applied}
use Rattle.promises.specs.Runs.{History, World, left_by, turn_of}
use Rattle.promises.specs.Events.{Collects}
use Rattle.promises.specs.Walks.{next_walk}
use Rattle.promises.specs.Uses.{Use, is_of, need_of_use, needs, uses, without}
use Rattle.promises.proofs.effects.Effects.{Collected, with_heads}
use Rattle.promises.proofs.invariants.Sound.{Sound}
use Rattle.promises.specs.Rooms.{Every}
use Rattle.promises.proofs.invariants.UseInv.{Apart, Avoids, Held, HeldIn, Kept, Nobody, Tenant, Waits, all_counted, overlay_next, tenant_at, tenant_of, without_apart, without_avoids, without_every}
use Rattle.promises.proofs.invariants.UseSteps.{uses_by}

-- a list without slot k's use is as it was where slot k has none
without_none : (k id : ℕ) (us : List Use) → Avoids k us → without k id us ≡ us
without_none k id [] e = refl
without_none k id (u ∷ us) e = rw (ne_eqb u.slot k e.0) (ap (λ (l : List Use). u ∷ l) (without_none k id us e.1))

abbrev tenant_id : Tenant → ℕ
tenant_id Nobody = 0
tenant_id (Waits kind z id d n) = id

module _ (s : Settings) (owner : List ℕ) (tenant : ℕ → Tenant) (pool : List QueueTransferDescriptor) (heads : List ℕ) (k id : ℕ)
    (few : length (take s.descriptors owner) ≤ 256) (here : tenant_id (tenant k) ≡ id) where
  abbrev KeptHere : Use → Type 0
  KeptHere u = Kept s owner tenant pool heads u

  -- slot k's use has the id of slot k's request
  pub same_id : (u : Use) → KeptHere u → u.slot ≡ k → u.id ≡ id
  same_id u kept e = sym (ap tenant_id kept.holds) ∙ ap (λ (j : ℕ). tenant_id (tenant j)) e ∙ here

  pub left_other : (u : Use) → KeptHere u → is_of k id u ≡ false → u.slot ≢ k
  left_other u kept e q = true≢false (sym (rw (eq-eqb u.slot k q, eq-eqb u.id id (same_id u kept q))) ∙ e)

  -- its places are those of slot k
  counted : (u : Use) → KeptHere u → u.slot ≡ k → need_of_use s u ≡ count_of (k + 1) (take s.descriptors owner)
  counted u kept e =
      sym kept.as_needed ∙ ap length kept.places_are ∙ ap (λ (j : ℕ). length (places_from 0 (take s.descriptors owner) (j + 1) 256)) e
      ∙ all_counted (take s.descriptors owner) (k + 1) few

  pub needs_without : (us : List Use) → Every KeptHere us → Apart us → (Avoids k us → count_of (k + 1) (take s.descriptors owner) ≡ 0)
      → needs s us ≡ needs s (without k id us) + count_of (k + 1) (take s.descriptors owner)
  needs_without [] e a none = omega (arith, none tt)
  needs_without (u ∷ us) e a none = by (dec_eq u.slot k) (needs_without us e.1 a.1)
    where
      by : Dec (u.slot ≡ k) → ((Avoids k us → count_of (k + 1) (take s.descriptors owner) ≡ 0) → needs s us ≡ needs s (without k id us) + count_of (k + 1) (take s.descriptors owner))
          → needs s (u ∷ us) ≡ needs s (without k id (u ∷ us)) + count_of (k + 1) (take s.descriptors owner)
      by (yes q) on =
          rw (eq-eqb u.slot k q, eq-eqb u.id id (same_id u e.0 q))
          (omega (arith, counted u e.0 q, ap (needs s) (without_none k id us (subst (λ (j : ℕ). Avoids j us) q a.0))))
      by (no ne) on = rw (ne_eqb u.slot k ne) (omega (arith, on (λ f. none (ne, f))))

module _ (w : World) (view : View) (k : ℕ) (p : Pipe) (toggle : Bool) (r : Request) (b : UnlinkBoundary) (sound : Sound w.state.settings w)
    (unlinking : endpoint_at w.state k ≡ Unlinking p r b) where
  abbrev st : Ehci
  st = w.state

  abbrev s : Settings
  s = w.state.settings

  abbrev front : List ℕ
  front = take s.descriptors st.owner

  -- the world that a collection leaves
  abbrev pub collected_world : World
  collected_world = record { state = (finish_of st view k (with_toggle p toggle) r).state; rows = with_heads w.rows (ended_overlay w.rows.heads k) }

  opened : k < s.endpoints
  opened = open_within st k sound.ranges (ap has_endpoint unlinking)

  front_few : length front ≤ 256
  front_few = omega (arith, length-take-le s.descriptors st.owner (omega (arith, sound.ranges.good.descriptors_most, sound.owners)), sound.ranges.good.descriptors_most)

  tenant_elsewhere : (j : ℕ) → j ≢ k → tenant_at collected_world.state j ≡ tenant_at st j
  unfolding finish_of
  tenant_elsewhere j ne = ap tenant_of (endpoint_other (with_owner st _) k (Idle (with_toggle p toggle)) j ne ∙ owner_aside st _ j)

  new_front : take s.descriptors collected_world.state.owner ≡ clear_of (k + 1) front
  unfolding finish_of with_endpoint with_slot with_owner
  new_front = freed_front st.owner s.descriptors (k + 1)

  word_elsewhere : (j : ℕ) → j ≢ k → overlay_next (ended_overlay w.rows.heads k) j ≡ overlay_next w.rows.heads j
  word_elsewhere j ne =
      ended_others w.rows.heads k (omega (arith, opened, sound.heads_fit)) (17 * (j + 1) + 4) (λ x y. ne (omega (arith, x, y)))

  abbrev KeptNow : Use → Type 0
  KeptNow u = Kept s collected_world.state.owner (tenant_at collected_world.state) collected_world.rows.pool collected_world.rows.heads u

  abbrev KeptThen : Use → Type 0
  KeptThen u = Kept s st.owner (tenant_at st) w.rows.pool w.rows.heads u

  kept_other : (u : Use) → u.slot ≢ k → KeptThen u → KeptNow u
  kept_other u ne kept =
      record {
        below = kept.below;
        holds = tenant_elsewhere u.slot ne ∙ kept.holds;
        places_are = kept.places_are ∙ sym (finish_others st view k (with_toggle p toggle) r u.slot 256 ne);
        as_needed = kept.as_needed;
        leads = ap (next_walk s w.rows.pool) (word_elsewhere u.slot ne) ∙ kept.leads;
        written = kept.written;
      }

  pub collected_holds : (us : List Use) → HeldIn s us w → HeldIn s (without k r.id us) collected_world
  collected_holds us held =
      record {
        each = without_every k r.id KeptThen KeptNow
            (λ u kept e. kept_other u (left_other s st.owner (tenant_at st) w.rows.pool w.rows.heads k r.id front_few here u kept e) kept) us held.each;
        apart = without_apart k r.id us held.apart;
        rest = λ j e. by j e (dec_eq j k);
        room = ap (λ (o : List ℕ). count_of 0 o + needs s (without k r.id us)) new_front
            ∙ omega (
              arith,
              clear_count (k + 1) front (λ e. omega (arith, e)),
              needs_without s st.owner (tenant_at st) w.rows.pool w.rows.heads k r.id front_few here us held.each held.apart none,
              held.room,
            );
      }
    where
      here : tenant_id (tenant_at st k) ≡ r.id
      here = ap (λ (e : Endpoint). tenant_id (tenant_of e)) unlinking

      none : Avoids k us → count_of (k + 1) front ≡ 0
      none e = sym (all_counted front (k + 1) front_few) ∙ ap length (held.rest k e).1

      by : (j : ℕ) → Avoids j (without k r.id us) → Dec (j ≡ k)
          → (tenant_at collected_world.state j ≡ Nobody) × (places_from 0 (take s.descriptors collected_world.state.owner) (j + 1) 256 ≡ [])
      by j e (yes q) = (
        ap (tenant_at collected_world.state) q ∙ ap tenant_of (finish_idle st view k (with_toggle p toggle) r sound.wide (open_below st k (ap has_endpoint unlinking))),
        ap (λ (i : ℕ). places_from 0 (take s.descriptors collected_world.state.owner) (i + 1) 256) q ∙ finish_none st view k (with_toggle p toggle) r 256,
      )
      by j e (no ne) =
          let old = held.rest j (without_avoids k r.id j ne us e) in
          (tenant_elsewhere j ne ∙ old.0, finish_others st view k (with_toggle p toggle) r j 256 ne ∙ old.1)

pub collects_held : (w : World) (c : Call) (a : Applied) (h : History) → Sound w.state.settings w → (x : Collected w c a) → Held w.state.settings h w
    → Held w.state.settings (turn_of w.rows c a ∷ h) (left_by a)
collects_held w c a h sound x held =
    subst (λ (us : List Use). HeldIn s' us (left_by a)) (sym (uses_by s' (turn_of w.rows c a) h (Collects x.k x.r.id x.frame) x.collects))
    (subst (λ (v : World). HeldIn s' (without x.k x.r.id (uses s' h)) v) (sym left)
    (collected_holds w x.view x.k x.p x.toggle x.r x.u sound x.unlinking (uses s' h) held))
  where
    s' : Settings
    s' = w.state.settings

    left : left_by a ≡ collected_world w x.view x.k x.p x.toggle x.r x.u sound x.unlinking
    left = λ i. record { state = x.state_is i; rows = x.rows_are i }
