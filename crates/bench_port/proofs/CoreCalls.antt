-- The numbers of each call that is lent the core alone meet the call's shape.
use Rattle.std.specs.Prelude.{◌≡◌, Bool, ℕ, ⊤}
use mathlib.Core.Path.{subst, sym}
use Rattle.common.specs.declared.answer.Refusal.TheVariants.{InvalidParameter}
use Rattle.register.specs.Writes.{no_writes}
use Rattle.state.specs.Plain.{Ehci}
use Rattle.words.specs.declared.cores.Core.{Core}
use Rattle.controller.specs.Plain.{Allotment as Allotted}
use Rattle.controller.specs.Words.{allotted_view}
use Rattle.interrupt.specs.Plain.{Acknowledgement as Acknowledged}
use Rattle.interrupt.specs.Plain.{Settled as Settling}
use Rattle.interrupt.specs.Words.{acknowledged_view, settled_view}
use Rattle.bring_up.specs.Plain.{BroughtUp as Brought}
use Rattle.bring_up.specs.declared.answers.BroughtUp.{BroughtUp}
use Rattle.bring_up.specs.Words.{brought_view, refused_words}
use Rattle.direct_calls.specs.Refusals.{refused_acknowledgement, refused_allotment, refused_settled}
use Rattle.direct_calls.specs.Shapes.{CoreCall}
use Rattle.ehci.specs.Replies.{acknowledged_answer, allotted_answer, brought_answer, simply}
use Rattle.bench_port.specs.declared.numbers.Replied.{Replied}
use Rattle.bench_port.specs.Numbers.{pack_of, refused_numbers}
use Rattle.bench_port.specs.Border.{Seen, seen_acknowledged, seen_allotted, seen_brought, seen_in, seen_settled}
use Rattle.bench_port.proofs.Mapped.{core_mapped}
use Rattle.controller.specs.declared.left.Left.{Left}
use Rattle.controller.specs.declared.left.Settled.{Settled}

-- r is seen as what a plain state's call leaves
abbrev Numbered : Core → Replied → (Ehci → Seen) → Type 0
Numbered c r decides = CoreCall c r (refused_numbers c.rest) r.rest (seen_in c.settings r) decides

module _ (c : Core) where
  pub acknowledged : (x : (Settled Bool)) (decides : Ehci → Acknowledged) (r : Replied)
      → CoreCall c x (refused_acknowledgement c.rest) x.rest (acknowledged_view c.settings x) decides
      → r ≡ pack_of x.rest (acknowledged_answer x.answer) x.writes → Numbered c r (λ s. seen_acknowledged (decides s))
  unfolding pack_of
  acknowledged x decides r k e =
      subst (λ (y : Replied). Numbered c y (λ s. seen_acknowledged (decides s))) (sym e)
      (core_mapped (λ (y : (Settled Bool)). pack_of y.rest (acknowledged_answer y.answer) y.writes) seen_acknowledged
      c x (refused_acknowledgement c.rest) x.rest (acknowledged_view c.settings x) decides k)

  pub settled : (x : (Settled ⊤)) (decides : Ehci → Settling) (r : Replied)
      → CoreCall c x (refused_settled c.rest) x.rest (settled_view c.settings x) decides
      → r ≡ pack_of x.rest (simply x.answer) x.writes → Numbered c r (λ s. seen_settled (decides s))
  unfolding pack_of
  settled x decides r k e =
      subst (λ (y : Replied). Numbered c y (λ s. seen_settled (decides s))) (sym e)
      (core_mapped (λ (y : (Settled ⊤)). pack_of y.rest (simply y.answer) y.writes) seen_settled
      c x (refused_settled c.rest) x.rest (settled_view c.settings x) decides k)

  pub allotted : (x : (Left ℕ)) (decides : Ehci → Allotted) (r : Replied)
      → CoreCall c x (refused_allotment c.rest) x.rest (allotted_view c.settings x) decides
      → r ≡ pack_of x.rest (allotted_answer x.answer) no_writes → Numbered c r (λ s. seen_allotted (decides s))
  unfolding pack_of
  allotted x decides r k e =
      subst (λ (y : Replied). Numbered c y (λ s. seen_allotted (decides s))) (sym e)
      (core_mapped (λ (y : (Left ℕ)). pack_of y.rest (allotted_answer y.answer) no_writes) seen_allotted
      c x (refused_allotment c.rest) x.rest (allotted_view c.settings x) decides k)

  pub stepped : (x : BroughtUp) (decides : Ehci → Brought) (r : Replied)
      → CoreCall c x (refused_words c.rest InvalidParameter) x.rest (brought_view c.settings x) decides
      → r ≡ pack_of x.rest (brought_answer x.answer x.read x.wait) x.writes → Numbered c r (λ s. seen_brought (decides s))
  unfolding pack_of
  stepped x decides r k e =
      subst (λ (y : Replied). Numbered c y (λ s. seen_brought (decides s))) (sym e)
      (core_mapped (λ (y : BroughtUp). pack_of y.rest (brought_answer y.answer y.read y.wait) y.writes) seen_brought
      c x (refused_words c.rest InvalidParameter) x.rest (brought_view c.settings x) decides k)
