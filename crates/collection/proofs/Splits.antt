-- What holds of each thing that a call may leave holds of what it leaves.
use Rattle.std.specs.Prelude.{◌≡◌, ℕ, ◌<◌, Bool, true, false, eqb, leb, List, length}
use mathlib.Core.Path.{refl}
use borrow.Author.Tests.{eqb-false, eqb-true, leb-false}
use Rattle.pool.specs.declared.chain.Standing.TheVariants.{Active}
use Rattle.pool.specs.declared.chain.View.{View}
use Rattle.pool.specs.Chains.{stands_active}
use Rattle.pool.proofs.StandingLaws.{waits_other}
use Rattle.state.specs.Plain.{Ehci}
use Rattle.pipe.specs.Endpoints.{endpoint_at}
use Rattle.controller.specs.Lent.{accepts_of, lengths}
use Rattle.common.specs.declared.answer.Refusal.{Refusal}
use Rattle.common.specs.declared.answer.Refusal.TheVariants.{InvalidEndpoint, InvalidParameter}
use Rattle.pipe.specs.declared.endpoints.Endpoint.{Endpoint}
use Rattle.pipe.specs.declared.endpoints.Endpoint.TheVariants.{Closed, Idle, Linked, Unlinking}
use Rattle.pipe.specs.declared.endpoints.Pipe.{Pipe}
use Rattle.pipe.specs.declared.endpoints.Request.{Request}
use Rattle.pipe.specs.declared.endpoints.UnlinkBoundary.{UnlinkBoundary}
use Rattle.controller.specs.declared.lent.Readings.{Readings}
use Rattle.schedule.specs.Links.{detach_of, ended_overlay}
use Rattle.collection.specs.Answers.{pending_collect, refused_cancel, refused_collect}
use Rattle.collection.specs.Unlinks.{Left, is_missing, left, passed_boundary, unlink_of, waiting_of}
use Rattle.collection.specs.Calls.{Gathered, cancel_of, collect_of, finish_of, gathered, keeping, linked_of, marked, marked_of, pending_left, unlinking_of}

module _ (s : Ehci) (h f : List ℕ) (rd : Readings) (k : ℕ) (p : Pipe) (r : Request) where
  pub unlink_split : (P : Left → Type 0) → P (left (refused_cancel s InvalidEndpoint) h f)
      → (is_missing (detach_of s h f k).predecessor ≡ false → P (record { came = waiting_of s rd k p r; rows = (detach_of s h f k).rows }))
      → P (unlink_of s h f rd k p r)
  unfolding unlink_of
  unlink_split P old new = by (is_missing (detach_of s h f k).predecessor) refl
    where
      by : (b : Bool) → is_missing (detach_of s h f k).predecessor ≡ b → P (unlink_of s h f rd k p r)
      by true e = rw e old
      by false e = rw e (new e)

module _ (s : Ehci) (pool : ℕ) (h f : List ℕ) (setups : ℕ) (rd : Readings) (k id : ℕ) where
  abbrev Fits : Type 0
  Fits = accepts_of s (lengths pool (length h) (length f) setups) ≡ true

  pub cancel_split : (P : Left → Type 0) → ((x : Refusal) → P (left (refused_cancel s x) h f))
      → ((p : Pipe) (r : Request) → Fits → endpoint_at s k ≡ Linked p r → s.unanswered < 32 → r.id ≡ id → P (unlink_of s h f rd k p (marked r)))
      → ((p : Pipe) (r : Request) (u : UnlinkBoundary) → Fits → endpoint_at s k ≡ Unlinking p r u → r.id ≡ id → P (left (marked_of s k p r u) h f))
      → P (cancel_of s pool h f setups rd k id)
  unfolding cancel_of
  cancel_split P old unlinks marks = by (accepts_of s (lengths pool (length h) (length f) setups)) refl
    where
      at_linked : (p : Pipe) (r : Request) → Fits → endpoint_at s k ≡ Linked p r → (b : Bool) → leb 32 s.unanswered ≡ b
          → (c : Bool) → eqb r.id id ≡ c → P (cancel_of s pool h f setups rd k id)
      at_linked p r ok e true u c i = rw (ok, e, u) (old InvalidParameter)
      at_linked p r ok e false u false i = rw (ok, e, u, i) (old InvalidEndpoint)
      at_linked p r ok e false u true i = rw (ok, e, u, i) (unlinks p r ok e (leb-false 32 s.unanswered u) (eqb-true r.id id i))

      at_unlinking : (p : Pipe) (r : Request) (u : UnlinkBoundary) → Fits → endpoint_at s k ≡ Unlinking p r u
          → (c : Bool) → eqb r.id id ≡ c → P (cancel_of s pool h f setups rd k id)
      at_unlinking p r u ok e false i = rw (ok, e, i) (old InvalidEndpoint)
      at_unlinking p r u ok e true i = rw (ok, e, i) (marks p r u ok e (eqb-true r.id id i))

      at : Fits → (x : Endpoint) → endpoint_at s k ≡ x → P (cancel_of s pool h f setups rd k id)
      at ok Closed e = rw (ok, e) (old InvalidEndpoint)
      at ok (Idle p) e = rw (ok, e) (old InvalidEndpoint)
      at ok (Linked p r) e = at_linked p r ok e (leb 32 s.unanswered) refl (eqb r.id id) refl
      at ok (Unlinking p r u) e = at_unlinking p r u ok e (eqb r.id id) refl

      by : (b : Bool) → accepts_of s (lengths pool (length h) (length f) setups) ≡ b → P (cancel_of s pool h f setups rd k id)
      by true ok = at ok (endpoint_at s k) refl
      by false bad = rw bad (old InvalidParameter)

  pub collect_split : (v : View) (P : Gathered → Type 0) → ((x : Refusal) → P (gathered (refused_collect s x) h f)) → P (gathered (pending_collect s) h f)
      → ((p : Pipe) (r : Request) → Fits → endpoint_at s k ≡ Linked p r → s.unanswered < 32 → r.id ≡ id → (v.stage ≡ Active → ⊥)
      → P (pending_left (unlink_of s h f rd k p r)))
      → ((p : Pipe) (r : Request) (u : UnlinkBoundary) → Fits → endpoint_at s k ≡ Unlinking p r u → r.id ≡ id → passed_boundary u rd.frame ≡ true
      → P (gathered (finish_of s v k (keeping rd p) r) (ended_overlay h k) f))
      → P (collect_of s pool h f setups rd v k id)
  unfolding collect_of linked_of unlinking_of
  collect_split v P old waits unlinks ends = by (accepts_of s (lengths pool (length h) (length f) setups)) refl
    where
      at_linked : (p : Pipe) (r : Request) → Fits → endpoint_at s k ≡ Linked p r → (b : Bool) → leb 32 s.unanswered ≡ b
          → (c : Bool) → eqb r.id id ≡ c → (d : Bool) → stands_active v.stage ≡ d → P (collect_of s pool h f setups rd v k id)
      at_linked p r ok e true u c i d g = rw (ok, e, u) (old InvalidParameter)
      at_linked p r ok e false u false i d g = rw (ok, e, u, i) (old InvalidEndpoint)
      at_linked p r ok e false u true i true g = rw (ok, e, u, i, g) waits
      at_linked p r ok e false u true i false g =
          rw (ok, e, u, i, g) (unlinks p r ok e (leb-false 32 s.unanswered u) (eqb-true r.id id i) (waits_other v.stage g))

      at_unlinking : (p : Pipe) (r : Request) (u : UnlinkBoundary) → Fits → endpoint_at s k ≡ Unlinking p r u
          → (c : Bool) → eqb r.id id ≡ c → (d : Bool) → passed_boundary u rd.frame ≡ d → P (collect_of s pool h f setups rd v k id)
      at_unlinking p r u ok e false i d g = rw (ok, e, i) (old InvalidEndpoint)
      at_unlinking p r u ok e true i false g = rw (ok, e, i, g) waits
      at_unlinking p r u ok e true i true g = rw (ok, e, i, g) (ends p r u ok e (eqb-true r.id id i) g)

      at : Fits → (x : Endpoint) → endpoint_at s k ≡ x → P (collect_of s pool h f setups rd v k id)
      at ok Closed e = rw (ok, e) (old InvalidEndpoint)
      at ok (Idle p) e = rw (ok, e) waits
      at ok (Linked p r) e = at_linked p r ok e (leb 32 s.unanswered) refl (eqb r.id id) refl (stands_active v.stage) refl
      at ok (Unlinking p r u) e = at_unlinking p r u ok e (eqb r.id id) refl (passed_boundary u rd.frame) refl

      by : (b : Bool) → accepts_of s (lengths pool (length h) (length f) setups) ≡ b → P (collect_of s pool h f setups rd v k id)
      by true ok = at ok (endpoint_at s k) refl
      by false bad = rw bad (old InvalidParameter)
