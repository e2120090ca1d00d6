-- The returns of the plan's functions: for each, the value that the code builds is the one that the definition says.
use Prim.Native.Nat.{ℕ}
use mathlib.Core.Path.{◌≡◌, refl, sym, ap}
use mathlib.Core.Bool.{true, false}
use borrow.Author.Tests.{eq-eqb, ne_eqb}
use lib.Dec.{eqb}
use Rattle.token.specs.declared.plan.ControlTdPlan.{ControlTdPlan}
use Rattle.std.specs.Prelude.{Some, None}
use Rattle.token.specs.declared.qtd.QtdPid.{QtdPid}
use Rattle.token.specs.declared.qtd.QtdPid.TheVariants.{Out as OutPid, In as InPid, Setup}
use Rattle.token.specs.declared.qtd.QtdToken.{QtdToken}
use Rattle.common.specs.declared.kinds.Direction.{Direction}
use Rattle.common.specs.declared.kinds.Direction.TheVariants.{Out, In}
use Rattle.token.specs.Tokens.{token_of}
use Rattle.token.specs.Plans.{pid_for, status_pid, control_plan}

pub status_empty : (d : Direction) (n : ℕ) → n ≡ 0 → InPid ≡ status_pid d (eqb n 0)
status_empty Out n e = refl
status_empty In n e = ap (status_pid In) (sym (eq-eqb n 0 e))

pub status_in_lem : (d : Direction) (n : ℕ) → d ≡ In → (n ≡ 0 → ⊥) → OutPid ≡ status_pid d (eqb n 0)
status_in_lem d n e f = rw (e, ne_eqb n 0 f)

module _ (d : Direction) (n : ℕ) (setup status : QtdToken) (pid : QtdPid)
    (es : setup ≡ token_of Setup 8 false false) (ep : pid ≡ status_pid d (eqb n 0)) (et : status ≡ token_of pid 0 true true) where
  pub plan_empty : n ≡ 0 → ◌≡◌ {A = ControlTdPlan} (record { setup = setup; «data» = None; status = status }) (control_plan d n)
  unfolding control_plan
  plan_empty e = rw (es, et, ep, eq-eqb n 0 e)

  pub plan_data : (n ≡ 0 → ⊥) → (way : QtdPid) (token : QtdToken) → way ≡ pid_for d → token ≡ token_of way n false true
      → ◌≡◌ {A = ControlTdPlan} (record { setup = setup; «data» = Some token; status = status }) (control_plan d n)
  unfolding control_plan
  plan_data e way token ew ed = rw (es, et, ep, ed, ew, ne_eqb n 0 e)
