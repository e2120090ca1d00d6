-- The numbers of each call that is lent rows meet the call's shape.
use Rattle.std.specs.Prelude.{◌≡◌, ℕ, List, ⊤}
use mathlib.Core.Path.{subst, sym}
use Rattle.common.specs.declared.answer.Refusal.TheVariants.{InvalidParameter}
use Rattle.common.specs.declared.kinds.EndpointType.{EndpointType}
use Rattle.register.specs.Writes.{no_writes}
use Rattle.state.specs.Plain.{Ehci}
use Rattle.words.specs.declared.cores.Core.{Core}
use Rattle.endpoint.specs.Calls.{ChangeLeft, OpenLeft, change_left, open_left}
use Rattle.endpoint.specs.Plain.{Change as Changed}
use Rattle.endpoint.specs.Words.{changed_view, opened_view}
use Rattle.collection.specs.Unlinks.{Left, left}
use Rattle.collection.specs.Words.{cancelled_view, refused_cancel_words}
use Rattle.interrupt.specs.Plain.{Drainage as Drained}
use Rattle.interrupt.specs.Words.{drained_view}
use Rattle.bring_up.specs.Plain.{BroughtUp as Brought}
use Rattle.bring_up.specs.declared.answers.BroughtUp.{BroughtUp}
use Rattle.bring_up.specs.Words.{brought_view, refused_words}
use Rattle.direct_calls.specs.Refusals.{refused_change, refused_drainage, refused_endpoint}
use Rattle.direct_calls.specs.Shapes.{FramesCall, HeadsCall, SlotsCall}
use Rattle.ehci.specs.Replies.{brought_answer, drained_answer, opened_answer, simply}
use Rattle.bench_port.specs.declared.numbers.Replied.{Replied}
use Rattle.bench_port.specs.Numbers.{pack_of, refused_numbers}
use Rattle.bench_port.specs.Border.{Seen, SeenHeads, SeenLinks, beside_heads, beside_links, seen_brought, seen_cancelled, seen_change, seen_changed, seen_drained, seen_in, seen_opened}
use Rattle.bench_port.proofs.Mapped.{frames_mapped, heads_mapped, slots_mapped}
use Rattle.controller.specs.declared.left.Left.{Left as LeftWords}
use Rattle.controller.specs.declared.left.Settled.{Settled}
use Rattle.interrupt.specs.declared.answers.Event.{Event}

module _ (c : Core) (ws ws' : List ℕ) where
  abbrev InSlots : Replied → (Ehci → Seen) → Type 0
  InSlots r decides = SlotsCall c ws ws' r (refused_numbers c.rest) r.rest (seen_in c.settings r ws') decides

  pub drained : (x : (Settled Event)) (decides : Ehci → Drained) (r : Replied)
      → SlotsCall c ws ws' x (refused_drainage c.rest) x.rest (drained_view c.settings x ws') decides
      → r ≡ pack_of x.rest (drained_answer x.answer) x.writes → InSlots r (λ s. seen_drained (decides s))
  unfolding pack_of
  drained x decides r k e =
      subst (λ (y : Replied). InSlots y (λ s. seen_drained (decides s))) (sym e)
      (slots_mapped (λ (y : (Settled Event)). pack_of y.rest (drained_answer y.answer) y.writes) seen_drained
      c x (refused_drainage c.rest) x.rest ws ws' (drained_view c.settings x ws') decides k)

  pub started : (x : BroughtUp) (decides : Ehci → Brought) (r : Replied)
      → SlotsCall c ws ws' x (refused_words c.rest InvalidParameter) x.rest (brought_view c.settings x ws') decides
      → r ≡ pack_of x.rest (brought_answer x.answer x.read x.wait) x.writes → InSlots r (λ s. seen_brought (decides s))
  unfolding pack_of
  started x decides r k e =
      subst (λ (y : Replied). InSlots y (λ s. seen_brought (decides s))) (sym e)
      (slots_mapped (λ (y : BroughtUp). pack_of y.rest (brought_answer y.answer y.read y.wait) y.writes) seen_brought
      c x (refused_words c.rest InvalidParameter) x.rest ws ws' (brought_view c.settings x ws') decides k)

  pub cleared : (x : LeftWords ⊤) (decides : Ehci → Changed) (r : Replied)
      → SlotsCall c ws ws' x (refused_change c.rest) x.rest (changed_view c.settings x ws') decides
      → r ≡ pack_of x.rest (simply x.answer) no_writes → InSlots r (λ s. seen_change (decides s))
  unfolding pack_of
  cleared x decides r k e =
      subst (λ (y : Replied). InSlots y (λ s. seen_change (decides s))) (sym e)
      (slots_mapped (λ (y : LeftWords ⊤). pack_of y.rest (simply y.answer) no_writes) seen_change
      c x (refused_change c.rest) x.rest ws ws' (changed_view c.settings x ws') decides k)

  module _ (heads heads' : List ℕ) where
    abbrev InHeads : Replied → (ℕ → ℕ → ℕ → SeenHeads) → Type 0
    InHeads r decides =
        HeadsCall c ws ws' heads heads' r (refused_numbers c.rest) r.rest (beside_heads (seen_in c.settings r ws') heads') decides

    -- `kind` is what the number of a kind says
    pub opened : (x : LeftWords ℕ) (kind known : EndpointType) (decides : EndpointType → ℕ → ℕ → ℕ → OpenLeft) (r : Replied) → kind ≡ known
        → HeadsCall c ws ws' heads heads' x (refused_endpoint c.rest) x.rest (open_left (opened_view c.settings x ws') heads') (decides kind)
        → r ≡ pack_of x.rest (opened_answer x.answer) no_writes → InHeads r (λ pool frames setups. seen_opened (decides known pool frames setups))
    unfolding pack_of
    opened x kind known decides r same k e =
        subst (λ (y : EndpointType). InHeads r (λ pool frames setups. seen_opened (decides y pool frames setups))) same
        (subst (λ (y : Replied). InHeads y (λ pool frames setups. seen_opened (decides kind pool frames setups))) (sym e)
        (heads_mapped (λ (y : LeftWords ℕ). pack_of y.rest (opened_answer y.answer) no_writes) seen_opened
        c x (refused_endpoint c.rest) x.rest ws ws' heads heads' (open_left (opened_view c.settings x ws') heads') (decides kind) k))

    pub changed : (x : LeftWords ⊤) (decides : ℕ → ℕ → ℕ → ChangeLeft) (r : Replied)
        → HeadsCall c ws ws' heads heads' x (refused_change c.rest) x.rest (change_left (changed_view c.settings x ws') heads') decides
        → r ≡ pack_of x.rest (simply x.answer) no_writes → InHeads r (λ pool frames setups. seen_changed (decides pool frames setups))
    unfolding pack_of
    changed x decides r k e =
        subst (λ (y : Replied). InHeads y (λ pool frames setups. seen_changed (decides pool frames setups))) (sym e)
        (heads_mapped (λ (y : LeftWords ⊤). pack_of y.rest (simply y.answer) no_writes) seen_changed
        c x (refused_change c.rest) x.rest ws ws' heads heads' (change_left (changed_view c.settings x ws') heads') decides k)

    module _ (frames frames' : List ℕ) where
      abbrev InFrames : Replied → (ℕ → ℕ → SeenLinks) → Type 0
      InFrames r decides =
          FramesCall c ws ws' heads heads' frames frames' r (refused_numbers c.rest) r.rest
          (beside_links (seen_in c.settings r ws') heads' frames') decides

      pub cancelled : (x : (Settled ⊤)) (decides : ℕ → ℕ → Left) (r : Replied)
          → FramesCall c ws ws' heads heads' frames frames' x (refused_cancel_words c.rest InvalidParameter) x.rest
          (left (cancelled_view c.settings x ws') heads' frames') decides
          → r ≡ pack_of x.rest (simply x.answer) x.writes → InFrames r (λ pool setups. seen_cancelled (decides pool setups))
      unfolding pack_of
      cancelled x decides r k e =
          subst (λ (y : Replied). InFrames y (λ pool setups. seen_cancelled (decides pool setups))) (sym e)
          (frames_mapped (λ (y : (Settled ⊤)). pack_of y.rest (simply y.answer) y.writes) seen_cancelled
          c x (refused_cancel_words c.rest InvalidParameter) x.rest ws ws' heads heads' frames frames'
          (left (cancelled_view c.settings x ws') heads' frames') decides k)
