-- How cancel and collect move the doorbell, the widths of the arrays, and what a collect's answer says of the tokens.
use Rattle.std.specs.Prelude.{◌≡◌, ℕ, ◌+◌, ◌⊎◌, List, length, Err, Ok, Result}
use mathlib.Core.Path.{refl, ap}
use mathlib.Core.Logic.{inl, inr}
use native.Mathlib.Omega.{arith}
use Rattle.register.specs.Writes.{no_writes}
use Rattle.register.specs.declared.writes.Writes.{Writes}
use Rattle.common.specs.declared.kinds.EndpointType.{EndpointType}
use Rattle.common.specs.declared.kinds.EndpointType.TheVariants.{Control, Isochronous, Bulk, Interrupt}
use Rattle.pool.specs.Chains.{Seen, first_error, length_of, retried_of, view_of}
use Rattle.pool.specs.declared.chain.View.{View}
use Rattle.state.specs.Plain.{Ehci}
use Rattle.state.specs.Slots.{with_slot}
use Rattle.state.specs.State.{with_bell, with_owner}
use Rattle.pipe.specs.Endpoints.{encoded, with_endpoint}
use Rattle.common.specs.declared.answer.Refusal.{Refusal}
use Rattle.common.specs.declared.answer.Refusal.TheVariants.{InvalidEndpoint}
use Rattle.pipe.specs.declared.endpoints.Endpoint.{Endpoint}
use Rattle.pipe.specs.declared.endpoints.Pipe.{Pipe}
use Rattle.pipe.specs.declared.endpoints.Request.{Request}
use Rattle.controller.specs.declared.lent.Readings.{Readings}
use Rattle.pipe.proofs.EndpointLaws.{Wide, bell_wide, owner_wide, slot_wide}
use Rattle.schedule.specs.Bell.{bell_of, unlinked_of}
use Rattle.schedule.specs.declared.bell.Bell.{Bell}
use Rattle.collection.specs.declared.collected.Collected.TheVariants.{Complete, Pending, Cancelled, Failed}
use Rattle.collection.specs.declared.collected.Completion.{Completion}
use Rattle.collection.specs.Unlinks.{Left, bounded_of, unlink_of, waiting_of}
use Rattle.collection.specs.Calls.{Gathered, cancel_of, collect_of, finish_of, keeping, marked, pending_left}
use Rattle.collection.proofs.CollectLaws.{complete-length, complete-retried, failed_token}
use Rattle.collection.proofs.FreedLaws.{freed_length}
use Rattle.collection.proofs.Splits.{cancel_split, collect_split, unlink_split}
use Rattle.collection.specs.declared.collected.Collected.{Collected}

-- ---- the doorbell: it stays and nothing is written, or there is one more unlink

abbrev pub BellMoves : ℕ → Bell → Bell → Writes → Type 0
BellMoves cmd b c w =
    ((c ≡ b) × (w ≡ no_writes)) ⊎ ((c ≡ (unlinked_of b no_writes cmd).bell) × (w ≡ (unlinked_of b no_writes cmd).writes))

bound_moves : (b : Bell) (kind : EndpointType) (rd : Readings)
    → BellMoves rd.command b (bounded_of b kind rd).rung.bell (bounded_of b kind rd).rung.writes
unfolding bounded_of
bound_moves b Control rd = inr (refl, refl)
bound_moves b Isochronous rd = inr (refl, refl)
bound_moves b Bulk rd = inr (refl, refl)
bound_moves b Interrupt rd = inl (refl, refl)

waiting_moves : (s : Ehci) (rd : Readings) (k : ℕ) (p : Pipe) (r : Request)
    → BellMoves rd.command (bell_of s) (bell_of (waiting_of s rd k p r).state) (waiting_of s rd k p r).writes
unfolding waiting_of with_endpoint with_slot with_bell
waiting_moves s rd k p r = bound_moves (bell_of s) p.kind rd

-- ---- widths

endpoint_wide : (s : Ehci) (k : ℕ) (x : Endpoint) → Wide s → Wide (with_endpoint s k x)
unfolding with_endpoint
endpoint_wide s k x w = slot_wide s k (encoded x) w

waiting_wide : (s : Ehci) (rd : Readings) (k : ℕ) (p : Pipe) (r : Request) → Wide s → Wide (waiting_of s rd k p r).state
unfolding waiting_of
waiting_wide s rd k p r w = endpoint_wide _ k _ (bell_wide s _ _ _ w)

finish_wide : (s : Ehci) (v : View) (k : ℕ) (p : Pipe) (r : Request) → Wide s → Wide (finish_of s v k p r).state
unfolding finish_of
finish_wide s v k p r w = endpoint_wide _ k _ (owner_wide s _ w)

-- ---- the calls

-- the answer of a collect that unlinks
pendings : (P : Result Collected Refusal → Type 0) (s : Ehci) (h f : List ℕ) (rd : Readings) (k : ℕ) (p : Pipe) (r : Request) → P (Ok Pending) → ((x : Refusal) → P (Err x))
    → P (pending_left (unlink_of s h f rd k p r)).came.answer
unfolding waiting_of
pendings P s h f rd k p r waits old =
    unlink_split s h f rd k p r (λ (l : Left). P (pending_left l).came.answer) (old InvalidEndpoint) (λ e. waits)

abbrev kind_in : Result Collected Refusal → ℕ
kind_in (Ok (Complete c)) = 1
kind_in (Ok Pending) = 2
kind_in (Ok Cancelled) = 3
kind_in (Ok (Failed t)) = 4
kind_in (Err x) = 0

refused_complete : (x : Refusal) (c : Completion) → Err x ≡ Ok (Complete c) → ⊥
refused_complete x c e = omega (arith, ap kind_in e)

refused_failed : (x : Refusal) (t : ℕ) → Err x ≡ Ok (Failed t) → ⊥
refused_failed x t e = omega (arith, ap kind_in e)

pending_complete : (c : Completion) → ◌≡◌ {A = Result Collected Refusal} (Ok Pending) (Ok (Complete c)) → ⊥
pending_complete c e = omega (arith, ap kind_in e)

pending_failed : (t : ℕ) → ◌≡◌ {A = Result Collected Refusal} (Ok Pending) (Ok (Failed t)) → ⊥
pending_failed t e = omega (arith, ap kind_in e)

module _ (s : Ehci) (pool : ℕ) (h f : List ℕ) (setups : ℕ) (rd : Readings) (k id : ℕ) where
  pub cancel_moves : BellMoves rd.command (bell_of s) (bell_of (cancel_of s pool h f setups rd k id).came.state) (cancel_of s pool h f setups rd k id).came.writes
  unfolding with_endpoint with_slot
  cancel_moves =
      cancel_split s pool h f setups rd k id (λ (l : Left). BellMoves rd.command (bell_of s) (bell_of l.came.state) l.came.writes)
      (λ x. inl (refl, refl)) (λ p r ok e u i. unlinks p (marked r)) (λ p r u ok e i. inl (refl, refl))
    where
      unlinks : (p : Pipe) (r : Request) → BellMoves rd.command (bell_of s) (bell_of (unlink_of s h f rd k p r).came.state) (unlink_of s h f rd k p r).came.writes
      unlinks p r =
          unlink_split s h f rd k p r (λ (l : Left). BellMoves rd.command (bell_of s) (bell_of l.came.state) l.came.writes)
          (inl (refl, refl)) (λ e. waiting_moves s rd k p r)

  pub collect_moves : (v : View)
      → BellMoves rd.command (bell_of s) (bell_of (collect_of s pool h f setups rd v k id).came.state) (collect_of s pool h f setups rd v k id).came.writes
  unfolding finish_of with_endpoint with_slot with_owner
  collect_moves v =
      collect_split s pool h f setups rd k id v (λ (g : Gathered). BellMoves rd.command (bell_of s) (bell_of g.came.state) g.came.writes)
      (λ x. inl (refl, refl)) (inl (refl, refl)) (λ p r ok e u i n. unlinks p r) (λ p r u ok e i t. inl (refl, refl))
    where
      unlinks : (p : Pipe) (r : Request) → BellMoves rd.command (bell_of s) (bell_of (unlink_of s h f rd k p r).came.state) (unlink_of s h f rd k p r).came.writes
      unlinks p r =
          unlink_split s h f rd k p r (λ (l : Left). BellMoves rd.command (bell_of s) (bell_of l.came.state) l.came.writes)
          (inl (refl, refl)) (λ e. waiting_moves s rd k p r)

  unlink_wide : (p : Pipe) (r : Request) → Wide s → Wide (unlink_of s h f rd k p r).came.state
  unlink_wide p r w = unlink_split s h f rd k p r (λ (l : Left). Wide l.came.state) w (λ e. waiting_wide s rd k p r w)

  pub cancel_wide : Wide s → Wide (cancel_of s pool h f setups rd k id).came.state
  cancel_wide w =
      cancel_split s pool h f setups rd k id (λ (l : Left). Wide l.came.state) (λ x. w)
      (λ p r ok e u i. unlink_wide p (marked r) w) (λ p r u ok e i. endpoint_wide s k _ w)

  pub collect_wide : (v : View) → Wide s → Wide (collect_of s pool h f setups rd v k id).came.state
  collect_wide v w =
      collect_split s pool h f setups rd k id v (λ (g : Gathered). Wide g.came.state) (λ x. w) w
      (λ p r ok e u i n. unlink_wide p r w) (λ p r u ok e i t. finish_wide s v k (keeping rd p) r w)

  -- complete: the length is the sum over the descriptors that were seen
  pub collect-length : (seen : List Seen) (c : Completion) → (collect_of s pool h f setups rd (view_of seen) k id).came.answer ≡ Ok (Complete c) → c.length ≡ length_of seen
  unfolding finish_of
  collect-length seen c =
      collect_split s pool h f setups rd k id (view_of seen) (λ (g : Gathered). g.came.answer ≡ Ok (Complete c) → c.length ≡ length_of seen)
      (λ x e. absurd (refused_complete x c e)) (λ e. absurd (pending_complete c e))
      (λ p r ok e u i n. pendings (λ (a : (Result Collected Refusal)). a ≡ Ok (Complete c) → c.length ≡ length_of seen) s h f rd k p r (λ q. absurd (pending_complete c q))
      (λ x q. absurd (refused_complete x c q)))
      (λ p r u ok e i t. complete-length r.cancelled seen c)

  -- and the count that of those that were retried
  pub collect-retried : (seen : List Seen) (c : Completion) → (collect_of s pool h f setups rd (view_of seen) k id).came.answer ≡ Ok (Complete c) → c.retried ≡ retried_of seen
  unfolding finish_of
  collect-retried seen c =
      collect_split s pool h f setups rd k id (view_of seen) (λ (g : Gathered). g.came.answer ≡ Ok (Complete c) → c.retried ≡ retried_of seen)
      (λ x e. absurd (refused_complete x c e)) (λ e. absurd (pending_complete c e))
      (λ p r ok e u i n. pendings (λ (a : (Result Collected Refusal)). a ≡ Ok (Complete c) → c.retried ≡ retried_of seen) s h f rd k p r (λ q. absurd (pending_complete c q))
      (λ x q. absurd (refused_complete x c q)))
      (λ p r u ok e i t. complete-retried r.cancelled seen c)

  -- failed: the token is the first erring one that was seen
  pub collect_token : (seen : List Seen) (t : ℕ) → (collect_of s pool h f setups rd (view_of seen) k id).came.answer ≡ Ok (Failed t) → t ≡ first_error seen
  unfolding finish_of
  collect_token seen t =
      collect_split s pool h f setups rd k id (view_of seen) (λ (g : Gathered). g.came.answer ≡ Ok (Failed t) → t ≡ first_error seen)
      (λ x e. absurd (refused_failed x t e)) (λ e. absurd (pending_failed t e))
      (λ p r ok e u i n. pendings (λ (a : (Result Collected Refusal)). a ≡ Ok (Failed t) → t ≡ first_error seen) s h f rd k p r (λ q. absurd (pending_failed t q))
      (λ x q. absurd (refused_failed x t q)))
      (λ p r u ok e i b. failed_token r.cancelled seen t)

-- the row of owners keeps its length
pub finish_long : (s : Ehci) (v : View) (k : ℕ) (p : Pipe) (r : Request) → length (finish_of s v k p r).state.owner ≡ length s.owner
unfolding finish_of with_endpoint with_slot with_owner
finish_long s v k p r = freed_length s.owner s.settings.descriptors (k + 1)
