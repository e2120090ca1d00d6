-- In every world of a run each record of an uncollected request is that of its plan, or has the token that was last written back to it.
use Prim.Native.Nat.{ℕ, zero, suc, ◌<◌}
use mathlib.Core.Path.{◌≡◌, refl, sym, ap, subst, ◌∙◌, subst₂}
use mathlib.Core.Logic.{inl, inr, ⊎_elim}
use mathlib.Core.Bool.{false}
use mathlib.Core.List.{List, [], ◌∷◌, ◌++◌, map}
use native.Mathlib.Decide.{ℕ_discrete as dec_eq}
use native.Mathlib.Omega.{arith}
use borrow.Author.Tests.{ne_eqb}
use lib.ListN.{get_or, length}
use Rattle.descriptor.specs.declared.qtd.QueueTransferDescriptor.{QueueTransferDescriptor}
use Rattle.pool.specs.Chains.{blank}
use Rattle.pool.specs.Places.{Each}
use Rattle.pool.proofs.Each.{each_at}
use Rattle.settings.specs.declared.settings.Settings.{Settings}
use Rattle.request.specs.Submit.{id_at}
use Rattle.ehci.specs.declared.call.Call.{Call}
use Rattle.ehci.specs.declared.call.Call.TheVariants.{StartBringUp, BringUpStep, AllocateAddress, OpenEndpoint, Close, SetAddress, SetPacketSize, Submit, Writeback, Cancel, Collect, Acknowledge, Drain, Rearm, Enable, Disable, ClearHalt}
use Rattle.ehci.specs.Door.{Applied}
use Rattle.ehci.specs.Replies.{answered_number}
use Rattle.promises.specs.Runs.{EveryRun, History, Rows, Turn, World, core, history_of, left_by, moment, rows_of, turn_of, world_of}
use Rattle.promises.specs.Events.{Collects, Drains, Event, Other, Reads, Submits, event, leaving}
use Rattle.promises.specs.Uses.{Use, uses, uses_after, without}
use Rattle.promises.specs.Walks.{chain_walk}
use Rattle.promises.specs.Bells.{is_submits_of, submits}
use Rattle.promises.specs.Rooms.{Every, Exclusive, RecordStays, places_in_use}
use Rattle.promises.specs.Submissions.{Fields, Stays, Submitted, TokenStands, TokensStand, WritesTo, fields_of, place_of, planned}
use Rattle.promises.proofs.effects.Effects.{Accepts, Effect, still, hears, joins, passes, counts, opens, closes, resizes, rewrites, accepts, writes_back, marks, unlinks, collects, clears}
use Rattle.promises.proofs.effects.EffectOf.{effect}
use Rattle.promises.proofs.invariants.Sound.{Sound}
use Rattle.promises.proofs.invariants.UseInv.{Held, every_both, every_map, tenant_at, vacant_avoids, without_every}
use Rattle.promises.proofs.invariants.UseAccepts.{vacant, limit_told}
use Rattle.promises.proofs.invariants.UseSteps.{uses_by, uses_leaving}
use Rattle.promises.proofs.invariants.MarkInv.{submits_leaving}
use Rattle.promises.proofs.theorems.RoomPromises.{exclusive_places, held, told}
use Rattle.promises.proofs.theorems.SubmissionLaws.{submitted_so, submitted_stays}
use Rattle.promises.proofs.invariants.OpenedInv.{Told}
use Rattle.promises.specs.Slots.{limit_in, size_in}

-- ---- lists

each_split : (P : ℕ → Type 0) (a b : List ℕ) → Each P (a ++ b) → Each P a × Each P b
each_split P [] b e = (tt, e)
each_split P (p ∷ a) b e = let rest = each_split P a b e.1 in ((e.0, rest.0), rest.1)

-- what holds of the places of all holds of those of each
each_of : (P : ℕ → Type 0) (us : List Use) → Each P (places_in_use us) → Every (λ u. Each P u.places) us
each_of P [] e = tt
each_of P (u ∷ us) e = let both = each_split P u.places (places_in_use us) e in (both.0, each_of P us both.1)

fields_at : (f : ℕ → QueueTransferDescriptor) (ps : List ℕ) (j : ℕ) → j < length ps → get_or (map fields_of (map f ps)) j (planned 1 0 0 0 0 0) ≡ fields_of (f (get_or ps j 0))
fields_at f [] j h = absurd (omega (arith, h))
fields_at f (p ∷ ps) zero h = refl
fields_at f (p ∷ ps) (suc j) h = fields_at f ps j (omega (arith, h))

-- ---- whether a turn writes a place back

-- its place and its token
abbrev pub back_at : Call → List ℕ
back_at StartBringUp = []
back_at (BringUpStep v) = []
back_at AllocateAddress = []
back_at (OpenEndpoint x) = []
back_at (Close k) = []
back_at (SetAddress k a) = []
back_at (SetPacketSize k size) = []
back_at (Submit k r readings) = []
back_at (Writeback place token) = place ∷ token ∷ []
back_at (Cancel k id readings) = []
back_at (Collect k id readings) = []
back_at (Acknowledge x) = []
back_at (Drain v) = []
back_at Rearm = []
back_at Enable = []
back_at Disable = []
back_at (ClearHalt k) = []

module _ (p : ℕ) (t : Turn) where
  abbrev Wrote : Type 0
  Wrote = (token : ℕ) × WritesTo p token t

  other : (c : Call) → t.call ≡ c → back_at c ≡ [] → Dec Wrote
  other c q n = no (λ x. let none : ◌≡◌ {A = ℕ} 0 2 = ap length (sym n ∙ ap back_at (sym q ∙ x.1.0)) in omega (arith, none))

  wrote? : Dec Wrote
  wrote? = go t.call refl
    where
      go : (c : Call) → t.call ≡ c → Dec Wrote
      go StartBringUp q = other StartBringUp q refl
      go (BringUpStep v) q = other (BringUpStep v) q refl
      go AllocateAddress q = other AllocateAddress q refl
      go (OpenEndpoint x) q = other (OpenEndpoint x) q refl
      go (Close k) q = other (Close k) q refl
      go (SetAddress k a) q = other (SetAddress k a) q refl
      go (SetPacketSize k size) q = other (SetPacketSize k size) q refl
      go (Submit k r readings) q = other (Submit k r readings) q refl
      go (Writeback place token) q = by (dec_eq place p) (dec_eq (answered_number t.answer) 0)
        where
          by : Dec (place ≡ p) → Dec (answered_number t.answer ≡ 0) → Dec Wrote
          by (yes e) (yes z) = yes (token, (q ∙ ap (λ (i : ℕ). Writeback i token) e, z))
          by (yes e) (no nz) = no (λ x. nz x.1.1)
          by (no ne) z = no (λ x. ne (ap (λ (l : List ℕ). get_or l 0 0) (ap back_at (sym q ∙ x.1.0))))
      go (Cancel k id readings) q = other (Cancel k id readings) q refl
      go (Collect k id readings) q = other (Collect k id readings) q refl
      go (Acknowledge x) q = other (Acknowledge x) q refl
      go (Drain v) q = other (Drain v) q refl
      go Rearm q = other Rearm q refl
      go Enable q = other Enable q refl
      go Disable q = other Disable q refl
      go (ClearHalt k) q = other (ClearHalt k) q refl

-- ---- one more call

abbrev AllStand : Settings → History → World → Use → Type 0
AllStand s h w u = (j : ℕ) → j < length u.places → TokenStands s h (moment core w) u j

module _ (w : World) (h : History) (c : Call) (sound : Sound w.state.settings w) (kept : Held w.state.settings h w) (told : Told h w.state)
    (exclusive : Exclusive w.state.settings h (moment core w)) (stays : Stays w.state.settings h (moment core w)) (stand : Every (AllStand w.state.settings h w) (uses w.state.settings h)) where
  abbrev s : Settings
  s = w.state.settings

  abbrev a : Applied
  a = core w c

  abbrev t : Turn
  t = turn_of w.rows c a

  -- a writeback wrote it
  writes_it : (u : Use) (j token : ℕ) → WritesTo (place_of u j) token t → TokenStands s (t ∷ h) (moment core (left_by a)) u j
  writes_it u j token x =
      let p = place_of u j in
      let same : (get_or (rows_of a).pool p blank).token ≡ token
      = ap (λ (d : Call). (get_or (rows_of (core w d)).pool p blank).token) x.0
      ∙ ap (λ (d : QueueTransferDescriptor). d.token) (stays.written p token (ap (λ (d : Call). answered_number (core w d).reply.answer) (sym x.0) ∙ x.1)) in
      record { since = []; last = t; before = h; picture = refl; untouched = tt; stands = inr (x.0 ∙ ap (λ (n : ℕ). Writeback p n) (sym same), x.1) }

  -- nothing did
  leaves_it : (u : Use) (j : ℕ) → (Wrote (place_of u j) t → ⊥) → submits s u.slot t ≡ false → get_or (rows_of a).pool (place_of u j) blank ≡ get_or w.rows.pool (place_of u j) blank
      → TokenStands s h (moment core w) u j → TokenStands s (t ∷ h) (moment core (left_by a)) u j
  leaves_it u j none quiet same x =
      record {
        since = t ∷ x.since;
        last = x.last;
        before = x.before;
        picture = ap (λ (l : History). t ∷ l) x.picture;
        untouched = ((λ token z. none (token, z)), quiet, x.untouched);
        stands = ⊎_elim (λ z. inl (z.0, ap fields_of same ∙ z.1)) (λ z. inr (z.0 ∙ ap (λ (d : QueueTransferDescriptor). Writeback (place_of u j) d.token) (sym same), z.1)) x.stands;
      }

  step_one : (u : Use) (j : ℕ) → RecordStays t (place_of u j) → submits s u.slot t ≡ false → TokenStands s h (moment core w) u j → TokenStands s (t ∷ h) (moment core (left_by a)) u j
  step_one u j stays-so quiet x = by (wrote? (place_of u j) t)
    where
      by : Dec (Wrote (place_of u j) t) → TokenStands s (t ∷ h) (moment core (left_by a)) u j
      by (yes z) = writes_it u j z.0 z.1
      by (no n) = leaves_it u j n quiet (⊎_elim (λ e. e) (λ z. absurd (n (z.token, (z.call_is, z.accepted)))) stays-so) x

  -- those that no submit replaces
  on : Every (λ u. submits s u.slot t ≡ false) (uses s h) → Every (AllStand s (t ∷ h) (left_by a)) (uses s h)
  on quiet =
      every_map (λ u. (AllStand s h w u × Each (RecordStays t) u.places) × (submits s u.slot t ≡ false)) (AllStand s (t ∷ h) (left_by a))
      (λ u e j l. step_one u j (each_at (RecordStays t) u.places j e.0.1 l) e.1 (e.0.0 j l)) (uses s h)
      (every_both (λ u. AllStand s h w u × Each (RecordStays t) u.places) (λ u. submits s u.slot t ≡ false) (uses s h)
      (every_both (AllStand s h w) (λ u. Each (RecordStays t) u.places) (uses s h) stand (each_of (RecordStays t) (uses s h) (exclusive.records c))) quiet)

  none_submits : (e : Event) → event s t ≡ e → ((k : ℕ) → is_submits_of k e ≡ false) → Every (λ u. submits s u.slot t ≡ false) (uses s h)
  none_submits e q f = every_map _ (λ u. submits s u.slot t ≡ false) (λ u k. ap (is_submits_of u.slot) q ∙ f u.slot) (uses s h) kept.each

  same : (us : List Use) → uses s (t ∷ h) ≡ us → Every (AllStand s (t ∷ h) (left_by a)) us → Every (AllStand s (t ∷ h) (left_by a)) (uses s (t ∷ h))
  same us e = subst (Every (AllStand s (t ∷ h) (left_by a))) (sym e)

  quietly : (e : Event) → event s t ≡ e → uses_after s t h e (uses s h) ≡ uses s h → ((k : ℕ) → is_submits_of k e ≡ false) → Every (AllStand s (t ∷ h) (left_by a)) (uses s (t ∷ h))
  quietly e q z f = same (uses s h) (uses_by s t h e q ∙ z) (on (none_submits e q f))

  -- the request that is accepted
  module _ (x : Accepts w c a) where
    after_so : Submitted s (limit_in s h x.k x.t) (rows_of a) x.k x.t
    after_so =
        subst₂ (λ (l : ℕ) (rows : Rows). Submitted s l rows x.k x.t) (limit_told w x.k x.t sound x.judged h told) (sym x.rows_are)
        (submitted_so w x.k x.t sound x.judged)

    abbrev new : Use
    new = record { slot = x.k; id = id_at w.state x.k; request = x.t; size = size_in x.k h; places = chain_walk s (rows_of a) x.k }

    new_stands : AllStand s (t ∷ h) (left_by a) new
    new_stands j l =
        record {
          since = [];
          last = t;
          before = h;
          picture = refl;
          untouched = tt;
          stands = inl (
            x.submits,
            sym (fields_at (λ p. get_or (rows_of a).pool p blank) new.places j l) ∙ ap (λ (fs : List Fields). get_or fs j (planned 1 0 0 0 0 0)) after_so.planned_so,
          );
        }

    joined : Every (AllStand s (t ∷ h) (left_by a)) (uses s (t ∷ h))
    joined =
        same (new ∷ uses s h) (uses_by s t h (Submits x.k (id_at w.state x.k) x.t) x.submits) (
          new_stands,
          on (every_map (λ u. u.slot ≡ x.k → ⊥) (λ u. submits s u.slot t ≡ false) (λ u ne. ap (is_submits_of u.slot) x.submits ∙ ne_eqb x.k u.slot (λ z. ne (sym z))) (uses s h)
              (vacant_avoids s w.state.owner (tenant_at w.state) w.rows.pool w.rows.heads (uses s h) x.k (vacant w x.k x.t sound x.judged) kept.each)),
        )

  stands_on : Effect w c a → Every (AllStand s (t ∷ h) (left_by a)) (uses s (t ∷ h))
  stands_on (still y) = quietly Other y.nothing refl (λ k. refl)
  stands_on (hears y) = quietly Reads y.hears refl (λ k. refl)
  stands_on (joins y) = quietly Other y.nothing refl (λ k. refl)
  stands_on (passes y) = quietly Drains y.drains refl (λ k. refl)
  stands_on (counts y) = quietly Drains y.drains refl (λ k. refl)
  stands_on (opens y) = quietly Other y.nothing refl (λ k. refl)
  stands_on (closes y) = quietly Other y.nothing refl (λ k. refl)
  stands_on (rewrites y) = quietly Other y.nothing refl (λ k. refl)
  stands_on (resizes y) = quietly Other y.nothing refl (λ k. refl)
  stands_on (clears y) = quietly Other y.nothing refl (λ k. refl)
  stands_on (accepts y) = joined y
  stands_on (writes_back y) = quietly Other y.nothing refl (λ k. refl)
  stands_on (marks y) = quietly Other y.nothing refl (λ k. refl)
  stands_on (unlinks y) =
      quietly (leaving s y.k y.readings.frame t) y.leaves (uses_leaving s t h y.k y.readings.frame (uses s h)) (λ k. submits_leaving s k y.k y.readings.frame t)
  stands_on (collects y) =
      same (without y.k y.r.id (uses s h)) (uses_by s t h (Collects y.k y.r.id y.frame) y.collects)
      (without_every y.k y.r.id (AllStand s (t ∷ h) (left_by a)) (AllStand s (t ∷ h) (left_by a)) (λ u e f. e) (uses s h) (on (none_submits _ y.collects (λ k. refl))))

-- ---- of a run

pub tokens_stand : EveryRun TokensStand core
unfolding world_of history_of uses
tokens_stand s w o [] = tt
tokens_stand s w o (c ∷ cs) =
    let now = world_of core w cs in
    let h = history_of core w cs in
    let at = held s w o cs in
    subst
    (λ (z : Settings). Sound z now → Held z h now → Told h now.state → Exclusive z h (moment core now) → Stays z h (moment core now) → Every (AllStand z h now) (uses z h)
    → Every (AllStand z (turn_of now.rows c (core now c) ∷ h) (left_by (core now c))) (uses z (turn_of now.rows c (core now c) ∷ h)))
    at.0.settings_are (λ sound kept knows exclusive stays stand. stands_on now h c sound kept knows exclusive stays stand (effect now c)) at.0 at.1 (told s w o cs).1 (exclusive_places s w o cs) (submitted_stays s w o cs)
    (tokens_stand s w o cs)
