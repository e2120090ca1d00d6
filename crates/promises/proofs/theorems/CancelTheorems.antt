-- Cancel and collect of this port go by the id: a cancel answers 0 exactly where an uncollected request of the slot has it, and 3 elsewhere;
-- a collect answers 3 where the slot is not open or its request has another, and 9 where it has none.
use Rattle.std.specs.Prelude.{Err, Ok, Result}
use Prim.Native.Nat.{ℕ, ◌<◌}
use mathlib.Core.Bool.{Bool, true, false, ◌||◌, cond, true≢false, false≢true, ◌&&◌}
use mathlib.Core.List.{List, [], ◌∷◌}
use mathlib.Core.Path.{◌≡◌, refl, sym, ap, subst, ◌∙◌}
use native.Mathlib.Omega.{arith}
use borrow.Author.Tests.{eq-eqb, eqb-true, lt-leb, ne_eqb}
use lib.Dec.{eqb, leb}
use Rattle.settings.specs.declared.settings.Settings.{Settings}
use Rattle.common.specs.Answers.{first, passed, refusal_number, refused}
use Rattle.common.specs.declared.answer.Refusal.{Refusal}
use Rattle.common.specs.declared.answer.Refusal.TheVariants.{InvalidEndpoint}
use Rattle.pipe.specs.Endpoints.{endpoint_at}
use Rattle.pipe.specs.declared.endpoints.Endpoint.{Endpoint}
use Rattle.pipe.specs.declared.endpoints.Endpoint.TheVariants.{Closed, Idle, Linked, Unlinking}
use Rattle.pipe.specs.declared.endpoints.Pipe.{Pipe}
use Rattle.pipe.specs.declared.endpoints.Request.{Request}
use Rattle.controller.specs.Readers.{holds_request}
use Rattle.controller.specs.declared.lent.Readings.{Readings}
use Rattle.ehci.specs.declared.call.Call.TheVariants.{Cancel, Collect}
use Rattle.ehci.specs.declared.reply.Answered.TheVariants.{Done, Pending, Cancelled, Failed}
use Rattle.ehci.specs.Replies.{answered_number}
use Rattle.promises.specs.Runs.{EveryRun, History, World, core, history_of, moment, world_of}
use Rattle.promises.specs.Checks.{checks_of, refusal_in}
use Rattle.promises.specs.Events.{is_collected}
use Rattle.promises.specs.Opened.{Tied, is_busy, is_shut, kind_in, verdict_number}
use Rattle.promises.specs.Slots.{slot_in}
use Rattle.promises.specs.Uses.{Use, is_of, uses}
use Rattle.promises.specs.Rooms.{Every, number_at}
use Rattle.promises.specs.Chains.{Detaches}
use Rattle.promises.specs.Ids.{ById, CancelsById, CollectsById, is_held_as}
use Rattle.promises.proofs.invariants.Sound.{Sound, is_let_in}
use Rattle.promises.proofs.invariants.UseInv.{Avoids, Held, Nobody, Tenant, Waits, every_map, tenant_at, tenant_of, tenants_apart}
use Rattle.promises.proofs.theorems.BoundaryCalls.{collect_found}
use Rattle.promises.proofs.theorems.BoundaryCancels.{roomy}
use Rattle.promises.proofs.theorems.ChainTheorems.{no_detach}
use Rattle.promises.proofs.theorems.Order.{in_order}
use Rattle.promises.proofs.theorems.RoomPromises.{fields_tied, held}
use Rattle.promises.proofs.effects.RefusalNumbers.{refusal_some, refusal_within}
use Rattle.ehci.specs.declared.reply.Answered.{Answered}

-- ---- a request of that id

is_of_lem : (k id : ℕ) (u : Use) → is_of k id u ≡ true → (u.slot ≡ k) × (u.id ≡ id)
is_of_lem k id u e = by (eqb u.slot k) refl (eqb u.id id) refl e
  where
    by : (a : Bool) → eqb u.slot k ≡ a → (b : Bool) → eqb u.id id ≡ b → (a && b) ≡ true → (u.slot ≡ k) × (u.id ≡ id)
    by true p true q e = (eqb-true u.slot k p, eqb-true u.id id q)
    by true p false q e = absurd (false≢true e)
    by false p b q e = absurd (false≢true e)

module _ (s : Settings) (h : History) (w : World) (k id : ℕ) (rd : Readings) where
  held_zero : (us : List Use) → Every (Detaches s h (moment core w)) us → is_held_as k id us ≡ true → number_at (moment core w) (Cancel k id rd) ≡ 0
  held_zero [] each e = absurd (false≢true e)
  held_zero (u ∷ us) each e = by (is_of k id u) refl e (held_zero us each.1)
    where
      by : (b : Bool) → is_of k id u ≡ b → (b || is_held_as k id us) ≡ true → (is_held_as k id us ≡ true → number_at (moment core w) (Cancel k id rd) ≡ 0) → number_at (moment core w) (Cancel k id rd) ≡ 0
      by true q e rest =
          let at = is_of_lem k id u q in
          subst (λ (j : ℕ). number_at (moment core w) (Cancel j id rd) ≡ 0) at.0
          (subst (λ (i : ℕ). number_at (moment core w) (Cancel u.slot i rd) ≡ 0) at.1 (each.0.cancels rd))
      by false q e rest = rest e

-- ---- none of that id

abbrev id_of : Tenant → ℕ
id_of Nobody = 0
id_of (Waits kind z id d n) = id

module _ (s : Settings) (h : History) (w : World) (k id : ℕ) where
  abbrev Holds : Use → Type 0
  Holds u = tenant_at w.state u.slot ≡ Waits u.request.kind u.size u.id u.request.direction u.request.length

  -- were the slot's request of that id, it would be no use's
  none_of_it : id_of (tenant_at w.state k) ≡ id → (us : List Use) → Every Holds us → is_held_as k id us ≡ false → Avoids k us
  none_of_it own [] each e = tt
  none_of_it own (u ∷ us) each e = by (is_of k id u) refl e (none_of_it own us each.1)
    where
      by : (b : Bool) → is_of k id u ≡ b → (b || is_held_as k id us) ≡ false → (is_held_as k id us ≡ false → Avoids k us) → Avoids k (u ∷ us)
      by true q e rest = absurd (true≢false e)
      by false q e rest = (
        (λ z.
            let same : u.id ≡ id = ap id_of (sym each.0) ∙ ap (λ (j : ℕ). id_of (tenant_at w.state j)) z ∙ own in
            true≢false (sym (rw (eq-eqb u.slot k z, eq-eqb u.id id same)) ∙ q)),
        rest e,
      )

  other_id : Held s h w → is_held_as k id (uses s h) ≡ false → (tenant_at w.state k ≡ Nobody → ⊥) → id_of (tenant_at w.state k) ≡ id → ⊥
  other_id g e somebody own =
      somebody (g.rest k (none_of_it own (uses s h) (every_map _ Holds (λ u kept. kept.holds) (uses s h) g.each) e)).0

-- the request of a slot is another than that
another : (s : Settings) (h : History) (w : World) (k id : ℕ) (g : Held s h w) → is_held_as k id (uses s h) ≡ false → (p : Pipe) (r : Request) (x : Endpoint)
    → endpoint_at w.state k ≡ x → tenant_of x ≡ Waits p.kind p.size r.id r.direction r.length → r.id ≡ id → ⊥
another s h w k id g none p r x e is q =
    other_id s h w k id g none (λ z. tenants_apart p.kind p.size r.id r.direction r.length (tenant_at w.state k) z (ap tenant_of e ∙ is)) (ap id_of (ap tenant_of e ∙ is) ∙ q)

refusal_is : (n : ℕ) → refusal_in n ≡ 3 → n ≡ 3
refusal_is n e = by (leb 9 n) e
  where
    by : (b : Bool) → cond b 0 n ≡ 3 → n ≡ 3
    by true q = absurd (omega (arith, q))
    by false q = q

module _ (s : Settings) (h : History) (w : World) (sound : Sound s w) (g : Held s h w) (k id : ℕ) (rd : Readings) (few : (p : Pipe) (r : Request) → endpoint_at w.state k ≡ Linked p r → w.state.unanswered < 32)
    (none : is_held_as k id (uses s h) ≡ false) where
  refuses : (x : Endpoint) → endpoint_at w.state k ≡ x → first (checks_of (moment core w) (Cancel k id rd)) ≡ refused InvalidEndpoint
  refuses Closed e = rw (is_let_in s w sound, e)
  refuses (Idle p) e = rw (is_let_in s w sound, e)
  refuses (Linked p r) e =
      rw (is_let_in s w sound, e, lt-leb 32 w.state.unanswered (few p r e), ne_eqb r.id id (another s h w k id g none p r _ e refl))
  refuses (Unlinking p r b) e = rw (is_let_in s w sound, e, ne_eqb r.id id (another s h w k id g none p r _ e refl))

  none_three : number_at (moment core w) (Cancel k id rd) ≡ 3
  none_three = refusal_is _ (in_order w tt (Cancel k id rd) ∙ ap verdict_number (refuses (endpoint_at w.state k) refl))

pub cancels_by_id : EveryRun CancelsById core
cancels_by_id s w o cs k id rd = by (is_held_as k id (uses s h)) refl
  where
    h : History
    h = history_of core w cs

    now : World
    now = world_of core w cs

    by : (b : Bool) → is_held_as k id (uses s h) ≡ b → number_at (moment core now) (Cancel k id rd) ≡ cond b 0 3
    by true e = held_zero s h now k id rd (uses s h) (no_detach s w o cs) e
    by false e = none_three s h now (held s w o cs).0 (held s w o cs).1 k id rd (roomy s w o cs k) e

-- ---- collect

no_result : (r : Refusal) → refusal_in (refusal_number r) ≡ 0 → ⊥
no_result r e = refusal_some r (rw (lt-leb 9 (refusal_number r) (omega (arith, (refusal_within r).1))) at e)

-- a result that collects nothing is 9
waits_nine : (a : (Result Answered Refusal)) → refusal_in (answered_number a) ≡ 0 → is_collected a ≡ false → answered_number a ≡ 9
waits_nine (Ok (Done given)) e c = absurd (true≢false c)
waits_nine (Ok Pending) e c = refl
waits_nine (Ok Cancelled) e c = absurd (true≢false c)
waits_nine (Ok (Failed token)) e c = absurd (true≢false c)
waits_nine (Err r) e c = absurd (no_result r e)

abbrev is_idle : Endpoint → Bool
is_idle Closed = false
is_idle (Idle p) = true
is_idle (Linked p r) = false
is_idle (Unlinking p r b) = false

module _ (s : Settings) (h : History) (w : World) (sound : Sound s w) (g : Held s h w) (tied : Tied s h (moment core w)) (k id : ℕ) (rd : Readings) (few : (p : Pipe) (r : Request) → endpoint_at w.state k ≡ Linked p r → w.state.unanswered < 32) where
  abbrev answers : Result Answered Refusal
  answers = (core w (Collect k id rd)).reply.answer

  shut_is : (x : Endpoint) → endpoint_at w.state k ≡ x → is_shut (slot_in k h) ≡ is_shut (kind_in x)
  shut_is x e = ap is_shut (tied.slots k ∙ ap kind_in e)

  busy_is : (x : Endpoint) → endpoint_at w.state k ≡ x → is_busy s h k ≡ holds_request x
  busy_is x e = tied.held k ∙ ap holds_request e

  three : first (checks_of (moment core w) (Collect k id rd)) ≡ refused InvalidEndpoint → number_at (moment core w) (Collect k id rd) ≡ 3
  three e = refusal_is _ (in_order w tt (Collect k id rd) ∙ ap verdict_number e)

  at_shut : (x : Endpoint) → endpoint_at w.state k ≡ x → is_shut (kind_in x) ≡ true → number_at (moment core w) (Collect k id rd) ≡ 3
  at_shut Closed e o = three (rw (is_let_in s w sound, e))
  at_shut (Idle p) e o = absurd (false≢true o)
  at_shut (Linked p r) e o = absurd (false≢true o)
  at_shut (Unlinking p r b) e o = absurd (false≢true o)

  -- only what leaves is collected
  idle_none : (p : Pipe) → endpoint_at w.state k ≡ Idle p → (b : Bool) → is_collected answers ≡ b → b ≡ false
  idle_none p e true q = absurd (true≢false (sym (ap is_idle e) ∙ ap is_idle (collect_found w k id rd q).unlinking))
  idle_none p e false q = refl

  at_bare : (x : Endpoint) → endpoint_at w.state k ≡ x → is_shut (kind_in x) ≡ false → holds_request x ≡ false → number_at (moment core w) (Collect k id rd) ≡ 9
  at_bare Closed e o u = absurd (true≢false o)
  at_bare (Idle p) e o u =
      let free : first (checks_of (moment core w) (Collect k id rd)) ≡ passed = rw (is_let_in s w sound, e) in
      waits_nine answers (in_order w tt (Collect k id rd) ∙ ap verdict_number free) (idle_none p e (is_collected answers) refl)
  at_bare (Linked p r) e o u = absurd (true≢false u)
  at_bare (Unlinking p r b) e o u = absurd (true≢false u)

  at_wrong : is_held_as k id (uses s h) ≡ false → (x : Endpoint) → endpoint_at w.state k ≡ x → holds_request x ≡ true → number_at (moment core w) (Collect k id rd) ≡ 3
  at_wrong none Closed e u = absurd (false≢true u)
  at_wrong none (Idle p) e u = absurd (false≢true u)
  at_wrong none (Linked p r) e u =
      three (rw (is_let_in s w sound, e, lt-leb 32 w.state.unanswered (few p r e), ne_eqb r.id id (another s h w k id g none p r _ e refl)))
  at_wrong none (Unlinking p r b) e u = three (rw (is_let_in s w sound, e, ne_eqb r.id id (another s h w k id g none p r _ e refl)))

  by_id : ById s h (moment core w) k id rd
  by_id =
      let x = endpoint_at w.state k in
      record {
        not_open = λ o. at_shut x refl (sym (shut_is x refl) ∙ o);
        nothing = λ o u. at_bare x refl (sym (shut_is x refl) ∙ o) (sym (busy_is x refl) ∙ u);
        wrong_id_refused = λ u none. at_wrong none x refl (sym (busy_is x refl) ∙ u);
      }

pub collects_by_id : EveryRun CollectsById core
collects_by_id s w o cs k id rd =
    let now = held s w o cs in
    by_id s (history_of core w cs) (world_of core w cs) now.0 now.1 (fields_tied s w o cs) k id rd (roomy s w o cs k)
