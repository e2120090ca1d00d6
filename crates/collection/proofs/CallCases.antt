-- The returns of cancel and collect.
use Rattle.std.specs.Prelude.{◌≡◌, ℕ, ◌+◌, ◌<◌, ◌≤◌, Bool, true, false, not, List, length, Ok, Result}
use mathlib.Core.Path.{sym, ap, ◌∙◌}
use borrow.Author.Tests.{eq-eqb, le-leb, lt-leb, ne_eqb, not-false, not-true}
use Rattle.register.specs.Writes.{no_writes}
use Rattle.register.specs.declared.writes.Writes.{Writes}
use Rattle.pool.specs.declared.chain.Standing.{Standing}
use Rattle.pool.specs.declared.chain.Standing.TheVariants.{Active}
use Rattle.pool.specs.declared.chain.View.{View}
use Rattle.pool.proofs.StandingLaws.{waits_not}
use Rattle.state.specs.Plain.{Ehci}
use Rattle.state.specs.State.{with_owner}
use Rattle.pipe.specs.Endpoints.{endpoint_at, with_endpoint}
use Rattle.controller.specs.Lent.{accepts_of, lengths}
use Rattle.common.specs.declared.answer.Refusal.TheVariants.{InvalidEndpoint, InvalidParameter}
use Rattle.pipe.specs.declared.endpoints.Endpoint.{Endpoint}
use Rattle.pipe.specs.declared.endpoints.Endpoint.TheVariants.{Closed, Idle, Linked, Unlinking}
use Rattle.pipe.specs.declared.endpoints.Pipe.{Pipe}
use Rattle.pipe.specs.declared.endpoints.Request.{Request}
use Rattle.pipe.specs.declared.endpoints.UnlinkBoundary.{UnlinkBoundary}
use Rattle.controller.specs.declared.lent.Readings.{Readings}
use Rattle.schedule.specs.Links.{ended_overlay}
use Rattle.collection.specs.Plain.{Cancellation}
use Rattle.collection.specs.Plain.{Collection}
use Rattle.collection.specs.Answers.{outcome_of, pending_collect, pending_of, refused_cancel, refused_collect}
use Rattle.collection.specs.Unlinks.{left, passed_boundary, unlink_of}
use Rattle.collection.specs.Calls.{Ended, cancel_of, collect_of, ended, finish_of, freed, gathered, keeping, linked_of, marked, marked_of, unlinking_of}
use Rattle.collection.specs.declared.collected.Collected.{Collected}
use Rattle.common.specs.declared.answer.Refusal.{Refusal}

-- ---- cancel

pub marks : (s st : Ehci) (k : ℕ) (p : Pipe) (r q : Request) (u : UnlinkBoundary) (w : Writes) → q ≡ marked r
    → st ≡ with_endpoint s k (Unlinking p q u) → w ≡ no_writes
    → ◌≡◌ {A = Cancellation} (record { answer = Ok tt; state = st; writes = w }) (marked_of s k p r u)
marks s st k p r q u w eq es ew = rw (es, eq, ew)

module _ (s : Ehci) (pool : ℕ) (h f : List ℕ) (setups : ℕ) (rd : Readings) (k id : ℕ) (b : Bool)
    (eb : b ≡ accepts_of s (lengths pool (length h) (length f) setups)) (c : Cancellation) where
  module _ (t : not b ≡ false) (x : Endpoint) (ex : x ≡ endpoint_at s k) where
    pub cancel_closed : x ≡ Closed → c ≡ refused_cancel s InvalidEndpoint → left c h f ≡ cancel_of s pool h f setups rd k id
    unfolding cancel_of
    cancel_closed e ec = rw (ec, sym eb ∙ not-false b t, sym ex ∙ e)

    pub cancel_idle : (p : Pipe) → x ≡ Idle p → c ≡ refused_cancel s InvalidEndpoint → left c h f ≡ cancel_of s pool h f setups rd k id
    unfolding cancel_of
    cancel_idle p e ec = rw (ec, sym eb ∙ not-false b t, sym ex ∙ e)

    pub cancel_crowded : (p : Pipe) (r : Request) → x ≡ Linked p r → c ≡ refused_cancel s InvalidParameter → 32 ≤ s.unanswered
        → left c h f ≡ cancel_of s pool h f setups rd k id
    unfolding cancel_of
    cancel_crowded p r e ec u = rw (ec, sym eb ∙ not-false b t, sym ex ∙ e, le-leb 32 s.unanswered u)

    pub cancel_wrong : (p : Pipe) (r : Request) → x ≡ Linked p r → c ≡ refused_cancel s InvalidEndpoint → s.unanswered < 32 → (r.id ≡ id → ⊥)
        → left c h f ≡ cancel_of s pool h f setups rd k id
    unfolding cancel_of
    cancel_wrong p r e ec u n = rw (ec, sym eb ∙ not-false b t, sym ex ∙ e, lt-leb 32 s.unanswered u, ne_eqb r.id id n)

    pub cancel_unlinks : (p : Pipe) (r q : Request) (h' f' : List ℕ) → x ≡ Linked p r → q ≡ marked r
        → left c h' f' ≡ unlink_of s h f rd k p q → s.unanswered < 32 → r.id ≡ id
        → left c h' f' ≡ cancel_of s pool h f setups rd k id
    unfolding cancel_of
    cancel_unlinks p r q h' f' e eq ec u n = ec ∙ rw (eq, sym eb ∙ not-false b t, sym ex ∙ e, lt-leb 32 s.unanswered u, eq-eqb r.id id n)

    pub cancel_other : (p : Pipe) (r : Request) (u : UnlinkBoundary) → x ≡ Unlinking p r u → c ≡ refused_cancel s InvalidEndpoint → (r.id ≡ id → ⊥)
        → left c h f ≡ cancel_of s pool h f setups rd k id
    unfolding cancel_of
    cancel_other p r u e ec n = rw (ec, sym eb ∙ not-false b t, sym ex ∙ e, ne_eqb r.id id n)

    pub cancel_marks : (p : Pipe) (r : Request) (u : UnlinkBoundary) → x ≡ Unlinking p r u → c ≡ marked_of s k p r u → r.id ≡ id
        → left c h f ≡ cancel_of s pool h f setups rd k id
    unfolding cancel_of
    cancel_marks p r u e ec n = rw (ec, sym eb ∙ not-false b t, sym ex ∙ e, eq-eqb r.id id n)

-- ---- the parts of collect

pub finishes : (s st : Ehci) (v : View) (k : ℕ) (p : Pipe) (r : Request) (o : List ℕ) (a : (Result Collected Refusal)) (w : Writes)
    → o ≡ freed s.owner s.settings.descriptors (k + 1) → a ≡ outcome_of r.cancelled v
    → st ≡ with_endpoint (with_owner s o) k (Idle p) → w ≡ no_writes
    → ◌≡◌ {A = Collection} (record { answer = a; state = st; writes = w }) (finish_of s v k p r)
unfolding finish_of
finishes s st v k p r o a w eo ea es ew = rw (es, ea, ew, eo)

module _ (s : Ehci) (h f : List ℕ) (rd : Readings) (stage : Standing) (k : ℕ) (p : Pipe) (r : Request) where
  pub linked_waits : (c : Collection) → c ≡ pending_collect s → stage ≡ Active → gathered c h f ≡ linked_of s h f rd stage k p r
  unfolding linked_of
  linked_waits c ec e = rw (ec, e)

  pub linked_unlinks : (l : Cancellation) (a : Result Collected Refusal) (h' f' : List ℕ) → left l h' f' ≡ unlink_of s h f rd k p r → a ≡ pending_of l.answer
      → (stage ≡ Active → ⊥)
      → gathered (record { answer = a; state = l.state; writes = l.writes }) h' f' ≡ linked_of s h f rd stage k p r
  unfolding linked_of
  linked_unlinks l a h' f' e ea n = rw (ea, ← e, waits_not stage n)

module _ (s : Ehci) (h : List ℕ) (frame : ℕ) (v : View) (k : ℕ) (p : Pipe) (r : Request) (u : UnlinkBoundary) (b : Bool)
    (eb : b ≡ passed_boundary u frame) (c : Collection) where
  pub unlinking_waits : c ≡ pending_collect s → not b ≡ true → ended c h ≡ unlinking_of s h frame v k p r u
  unfolding unlinking_of
  unlinking_waits ec t = rw (ec, sym eb ∙ not-true b t)

  pub unlinking_ends : (h' : List ℕ) → h' ≡ ended_overlay h k → c ≡ finish_of s v k p r → not b ≡ false → ended c h' ≡ unlinking_of s h frame v k p r u
  unfolding unlinking_of
  unlinking_ends h' eh ec t = rw (ec, eh, sym eb ∙ not-false b t)

-- ---- collect

module _ (s : Ehci) (pool : ℕ) (h f : List ℕ) (setups : ℕ) (rd : Readings) (v : View) (k id : ℕ) (b : Bool)
    (eb : b ≡ accepts_of s (lengths pool (length h) (length f) setups)) (c : Collection) where
  module _ (t : not b ≡ false) (x : Endpoint) (ex : x ≡ endpoint_at s k) where
    pub collect_closed : x ≡ Closed → c ≡ refused_collect s InvalidEndpoint → gathered c h f ≡ collect_of s pool h f setups rd v k id
    unfolding collect_of
    collect_closed e ec = rw (ec, sym eb ∙ not-false b t, sym ex ∙ e)

    pub collect_idle : (p : Pipe) → x ≡ Idle p → c ≡ pending_collect s → gathered c h f ≡ collect_of s pool h f setups rd v k id
    unfolding collect_of
    collect_idle p e ec = rw (ec, sym eb ∙ not-false b t, sym ex ∙ e)

    pub collect_crowded : (p : Pipe) (r : Request) → x ≡ Linked p r → c ≡ refused_collect s InvalidParameter → 32 ≤ s.unanswered
        → gathered c h f ≡ collect_of s pool h f setups rd v k id
    unfolding collect_of
    collect_crowded p r e ec u = rw (ec, sym eb ∙ not-false b t, sym ex ∙ e, le-leb 32 s.unanswered u)

    pub collect_wrong : (p : Pipe) (r : Request) → x ≡ Linked p r → c ≡ refused_collect s InvalidEndpoint → s.unanswered < 32 → (r.id ≡ id → ⊥)
        → gathered c h f ≡ collect_of s pool h f setups rd v k id
    unfolding collect_of
    collect_wrong p r e ec u n = rw (ec, sym eb ∙ not-false b t, sym ex ∙ e, lt-leb 32 s.unanswered u, ne_eqb r.id id n)

    pub collect_looks : (p : Pipe) (r : Request) (h' f' : List ℕ) → x ≡ Linked p r
        → gathered c h' f' ≡ linked_of s h f rd v.stage k p r → s.unanswered < 32 → r.id ≡ id
        → gathered c h' f' ≡ collect_of s pool h f setups rd v k id
    unfolding collect_of
    collect_looks p r h' f' e ec u n = ec ∙ rw (sym eb ∙ not-false b t, sym ex ∙ e, lt-leb 32 s.unanswered u, eq-eqb r.id id n)

    pub collect_other : (p : Pipe) (r : Request) (u : UnlinkBoundary) → x ≡ Unlinking p r u → c ≡ refused_collect s InvalidEndpoint → (r.id ≡ id → ⊥)
        → gathered c h f ≡ collect_of s pool h f setups rd v k id
    unfolding collect_of
    collect_other p r u e ec n = rw (ec, sym eb ∙ not-false b t, sym ex ∙ e, ne_eqb r.id id n)

    pub collect_ends : (p : Pipe) (r : Request) (u : UnlinkBoundary) (h' : List ℕ) → x ≡ Unlinking p r u
        → ended c h' ≡ unlinking_of s h rd.frame v k (keeping rd p) r u → r.id ≡ id
        → gathered c h' f ≡ collect_of s pool h f setups rd v k id
    unfolding collect_of
    collect_ends p r u h' e ec n =
        ap (λ (y : Ended). gathered y.came y.heads f) ec
        ∙ rw (sym eb ∙ not-false b t, sym ex ∙ e, eq-eqb r.id id n)
