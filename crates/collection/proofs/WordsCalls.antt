-- The returns of cancel and collect over words, where the rows fit.
use Rattle.std.specs.Prelude.{◌≡◌, ℕ, ◌<◌, ◌≤◌, true, List, length, ⊤}
use mathlib.Core.Path.{refl, sym}
use Rattle.common.specs.declared.answer.Refusal.TheVariants.{InvalidEndpoint, InvalidParameter}
use Rattle.settings.specs.declared.settings.Settings.{Settings}
use Rattle.pool.specs.declared.chain.View.{View}
use Rattle.words.specs.declared.cores.Rest.{Rest}
use Rattle.words.specs.Good.{Good}
use Rattle.words.specs.View.{state_of}
use Rattle.pipe.specs.Endpoints.{endpoint_at}
use Rattle.pipe.specs.declared.endpoints.Endpoint.{Endpoint}
use Rattle.pipe.specs.declared.endpoints.Endpoint.TheVariants.{Closed, Idle, Linked, Unlinking}
use Rattle.pipe.specs.declared.endpoints.Pipe.{Pipe}
use Rattle.pipe.specs.declared.endpoints.Request.{Request}
use Rattle.pipe.specs.declared.endpoints.UnlinkBoundary.{UnlinkBoundary}
use Rattle.opening.specs.Opening.{rows_are_fit}
use Rattle.controller.specs.Lent.{accepts_of, lengths}
use Rattle.controller.specs.declared.lent.Readings.{Readings}
use Rattle.controller.proofs.LentLaws.{accepts_is}
use Rattle.collection.specs.Calls.{cancel_of, collect_of, ended, gathered, keeping, linked_of, marked, marked_of, unlinking_of}
use Rattle.collection.specs.Unlinks.{left, unlink_of}
use Rattle.collection.specs.Words.{cancelled_view, collected_view, pending_words, refused_cancel_words, refused_collect_words}
use Rattle.collection.proofs.CallCases.{cancel_closed, cancel_crowded, cancel_idle, cancel_marks, cancel_other, cancel_unlinks, cancel_wrong, collect_closed, collect_crowded, collect_ends, collect_idle, collect_looks, collect_other, collect_wrong}
use Rattle.collection.proofs.WordsCases.{pending_view, refused_cancel_view, refused_collect_view}
use Rattle.controller.specs.declared.left.Settled.{Settled as SettledWords}
use Rattle.collection.specs.declared.collected.Collected.{Collected}

module _ (s : Settings) (r : Rest) (ws : List ℕ) (good : Good s r ws) (h f : List ℕ) (pool setups : ℕ)
    (fit : rows_are_fit s pool (length h) (length f) setups ≡ true) where
  accepted : true ≡ accepts_of (state_of s r ws) (lengths pool (length h) (length f) setups)
  unfolding state_of
  accepted = accepts_is (state_of s r ws) (lengths pool (length h) (length f) setups) true true (sym fit) (sym good.ranges)

  module _ (rd : Readings) (k id : ℕ) (x : Endpoint) (ex : x ≡ endpoint_at (state_of s r ws) k) where
    -- ---- cancel

    module _ (c : (SettledWords ⊤)) where
      pub cancels_closed : x ≡ Closed → c ≡ refused_cancel_words r InvalidEndpoint
          → left (cancelled_view s c ws) h f ≡ cancel_of (state_of s r ws) pool h f setups rd k id
      cancels_closed e ec =
          cancel_closed (state_of s r ws) pool h f setups rd k id true accepted (cancelled_view s c ws) refl x ex e
          (refused_cancel_view s r ws c InvalidEndpoint ec)

      pub cancels_idle : (p : Pipe) → x ≡ Idle p → c ≡ refused_cancel_words r InvalidEndpoint
          → left (cancelled_view s c ws) h f ≡ cancel_of (state_of s r ws) pool h f setups rd k id
      cancels_idle p e ec =
          cancel_idle (state_of s r ws) pool h f setups rd k id true accepted (cancelled_view s c ws) refl x ex p e
          (refused_cancel_view s r ws c InvalidEndpoint ec)

      pub cancels_crowded : (p : Pipe) (q : Request) → x ≡ Linked p q → c ≡ refused_cancel_words r InvalidParameter → 32 ≤ r.unanswered
          → left (cancelled_view s c ws) h f ≡ cancel_of (state_of s r ws) pool h f setups rd k id
      unfolding state_of
      cancels_crowded p q e ec u =
          cancel_crowded (state_of s r ws) pool h f setups rd k id true accepted (cancelled_view s c ws) refl x ex p q e
          (refused_cancel_view s r ws c InvalidParameter ec) u

      pub cancels_wrong : (p : Pipe) (q : Request) → x ≡ Linked p q → c ≡ refused_cancel_words r InvalidEndpoint → r.unanswered < 32
          → (q.id ≡ id → ⊥) → left (cancelled_view s c ws) h f ≡ cancel_of (state_of s r ws) pool h f setups rd k id
      unfolding state_of
      cancels_wrong p q e ec u n =
          cancel_wrong (state_of s r ws) pool h f setups rd k id true accepted (cancelled_view s c ws) refl x ex p q e
          (refused_cancel_view s r ws c InvalidEndpoint ec) u n

      pub cancels_other : (p : Pipe) (q : Request) (u : UnlinkBoundary) → x ≡ Unlinking p q u → c ≡ refused_cancel_words r InvalidEndpoint
          → (q.id ≡ id → ⊥) → left (cancelled_view s c ws) h f ≡ cancel_of (state_of s r ws) pool h f setups rd k id
      cancels_other p q u e ec n =
          cancel_other (state_of s r ws) pool h f setups rd k id true accepted (cancelled_view s c ws) refl x ex p q u e
          (refused_cancel_view s r ws c InvalidEndpoint ec) n

      pub cancels_unlinks : (p : Pipe) (q m : Request) (ws' h' f' : List ℕ) → x ≡ Linked p q → m ≡ marked q
          → left (cancelled_view s c ws') h' f' ≡ unlink_of (state_of s r ws) h f rd k p m → r.unanswered < 32 → q.id ≡ id
          → left (cancelled_view s c ws') h' f' ≡ cancel_of (state_of s r ws) pool h f setups rd k id
      unfolding state_of
      cancels_unlinks p q m ws' h' f' e em ec u n =
          cancel_unlinks (state_of s r ws) pool h f setups rd k id true accepted (cancelled_view s c ws') refl x ex p q m h' f' e em ec u n

      pub cancels_marks : (p : Pipe) (q : Request) (u : UnlinkBoundary) (ws' : List ℕ) → x ≡ Unlinking p q u
          → cancelled_view s c ws' ≡ marked_of (state_of s r ws) k p q u → q.id ≡ id
          → left (cancelled_view s c ws') h f ≡ cancel_of (state_of s r ws) pool h f setups rd k id
      cancels_marks p q u ws' e ec n =
          cancel_marks (state_of s r ws) pool h f setups rd k id true accepted (cancelled_view s c ws') refl x ex p q u e ec n

    -- ---- collect

    module _ (v : View) (c : (SettledWords Collected)) where
      pub collects_closed : x ≡ Closed → c ≡ refused_collect_words r InvalidEndpoint
          → gathered (collected_view s c ws) h f ≡ collect_of (state_of s r ws) pool h f setups rd v k id
      collects_closed e ec =
          collect_closed (state_of s r ws) pool h f setups rd v k id true accepted (collected_view s c ws) refl x ex e
          (refused_collect_view s r ws c InvalidEndpoint ec)

      pub collects_idle : (p : Pipe) → x ≡ Idle p → c ≡ pending_words r
          → gathered (collected_view s c ws) h f ≡ collect_of (state_of s r ws) pool h f setups rd v k id
      collects_idle p e ec =
          collect_idle (state_of s r ws) pool h f setups rd v k id true accepted (collected_view s c ws) refl x ex p e
          (pending_view s r ws c ec)

      pub collects_crowded : (p : Pipe) (q : Request) → x ≡ Linked p q → c ≡ refused_collect_words r InvalidParameter → 32 ≤ r.unanswered
          → gathered (collected_view s c ws) h f ≡ collect_of (state_of s r ws) pool h f setups rd v k id
      unfolding state_of
      collects_crowded p q e ec u =
          collect_crowded (state_of s r ws) pool h f setups rd v k id true accepted (collected_view s c ws) refl x ex p q e
          (refused_collect_view s r ws c InvalidParameter ec) u

      pub collects_wrong : (p : Pipe) (q : Request) → x ≡ Linked p q → c ≡ refused_collect_words r InvalidEndpoint → r.unanswered < 32
          → (q.id ≡ id → ⊥) → gathered (collected_view s c ws) h f ≡ collect_of (state_of s r ws) pool h f setups rd v k id
      unfolding state_of
      collects_wrong p q e ec u n =
          collect_wrong (state_of s r ws) pool h f setups rd v k id true accepted (collected_view s c ws) refl x ex p q e
          (refused_collect_view s r ws c InvalidEndpoint ec) u n

      pub collects_other : (p : Pipe) (q : Request) (u : UnlinkBoundary) → x ≡ Unlinking p q u → c ≡ refused_collect_words r InvalidEndpoint
          → (q.id ≡ id → ⊥) → gathered (collected_view s c ws) h f ≡ collect_of (state_of s r ws) pool h f setups rd v k id
      collects_other p q u e ec n =
          collect_other (state_of s r ws) pool h f setups rd v k id true accepted (collected_view s c ws) refl x ex p q u e
          (refused_collect_view s r ws c InvalidEndpoint ec) n

      pub collects_looks : (p : Pipe) (q : Request) (ws' h' f' : List ℕ) → x ≡ Linked p q
          → gathered (collected_view s c ws') h' f' ≡ linked_of (state_of s r ws) h f rd v.stage k p q → r.unanswered < 32 → q.id ≡ id
          → gathered (collected_view s c ws') h' f' ≡ collect_of (state_of s r ws) pool h f setups rd v k id
      unfolding state_of
      collects_looks p q ws' h' f' e ec u n =
          collect_looks (state_of s r ws) pool h f setups rd v k id true accepted (collected_view s c ws') refl x ex p q h' f' e ec u n

      pub collects_ends : (p : Pipe) (q : Request) (u : UnlinkBoundary) (ws' h' : List ℕ) → x ≡ Unlinking p q u
          → ended (collected_view s c ws') h' ≡ unlinking_of (state_of s r ws) h rd.frame v k (keeping rd p) q u → q.id ≡ id
          → gathered (collected_view s c ws') h' f ≡ collect_of (state_of s r ws) pool h f setups rd v k id
      collects_ends p q u ws' h' e ec n =
          collect_ends (state_of s r ws) pool h f setups rd v k id true accepted (collected_view s c ws') refl x ex p q u h' e ec n
