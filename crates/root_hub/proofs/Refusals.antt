-- A refused call on the ports' record leaves it as it was and writes nothing.
use Rattle.std.specs.Prelude.{Err, Ok, Result, ⊤}
use Prim.Native.Nat.{ℕ}
use mathlib.Core.Bool.{not}
use mathlib.Core.List.{[], ◌∷◌}
use mathlib.Core.Path.{◌≡◌, refl, sym, ap, ◌∙◌}
use lib.Dec.{eqb}
use Rattle.common.specs.Tests.{within}
use Rattle.common.specs.Answers.{Verdict, first, settle}
use Rattle.common.specs.declared.answer.Refusal.{Refusal}
use Rattle.common.specs.declared.answer.Refusal.TheVariants.{InvalidParameter}
use Rattle.common.proofs.CheckLaws.{answers_apart, settled_by}
use Rattle.opening.specs.declared.hub.EhciRootHub.{EhciRootHub}
use Rattle.root_hub.specs.Calls.{power_of, refused_power, refused_scan, scanned_of, start_of, step_of}
use Rattle.root_hub.specs.Ranges.{hub_good}
use Rattle.root_hub.specs.Refusals.{RefusalsKeep}
use Rattle.root_hub.specs.declared.calls.PortPower.{PortPower}
use Rattle.root_hub.specs.declared.calls.Scanned.{Scanned}

abbrev refusal_in : Result ⊤ Refusal → Refusal
refusal_in (Ok tt) = InvalidParameter
refusal_in (Err r) = r

-- checks, then settle: what is refused is the old with that answer
settled_old : {A : Type 0} (says : A → (Result ⊤ Refusal)) (v : Verdict) (old : Refusal → A) (new : A) → says new ≡ (Ok tt) → ((x : Refusal) → says (old x) ≡ Err x)
    → (r : Refusal) → says (settle v old new) ≡ Err r → settle v old new ≡ old r
settled_old says v old new done told r =
    settled_by v old new (λ y. says y ≡ Err r → y ≡ old r)
    (λ x q e. ap (λ (a : (Result ⊤ Refusal)). old (refusal_in a)) (sym (told x) ∙ e)) (λ q e. absurd (answers_apart r (sym e ∙ done)))

start_refused : (h : EhciRootHub) (r : Refusal) → (start_of h).reply.answer ≡ Err r → start_of h ≡ refused_scan h r
unfolding start_of
start_refused h r e = settled_old (λ (x : Scanned). x.reply.answer) (first ((not (hub_good h), InvalidParameter) ∷ [])) (refused_scan h) _ refl (λ x. refl) r e

step_refused : (h : EhciRootHub) (v : ℕ) (r : Refusal) → (step_of h v).reply.answer ≡ Err r → step_of h v ≡ refused_scan h r
unfolding step_of scanned_of
step_refused h v r e =
    settled_old (λ (x : Scanned). x.reply.answer) (first ((not (hub_good h), InvalidParameter) ∷ (eqb h.step 0, InvalidParameter) ∷ [])) (refused_scan h) _ refl (λ x. refl) r e

power_refused : (h : EhciRootHub) (port v : ℕ) (r : Refusal) → (power_of h port v).answer ≡ Err r → power_of h port v ≡ refused_power r
unfolding power_of
power_refused h port v r e =
    settled_old (λ (x : PortPower). x.answer) (first ((not (hub_good h), InvalidParameter) ∷ (not (within port 1 h.ports), InvalidParameter) ∷ [])) refused_power _ refl
    (λ x. refl) r e

pub refusals : RefusalsKeep
refusals = (start_refused, step_refused, power_refused)
