-- Document 01, "Tokens and plans": what a control request is made of, and the token of a chunk.
use Rattle.std.specs.Prelude.{ℕ, Bool, true, false, eqb, Option, Some, None}
use Rattle.token.specs.declared.plan.ControlTdPlan.{ControlTdPlan}
use Rattle.token.specs.declared.qtd.QtdPid.{QtdPid}
use Rattle.token.specs.declared.qtd.QtdPid.TheVariants.{Out as OutPid, In as InPid, Setup}
use Rattle.token.specs.declared.qtd.QtdToken.{QtdToken}
use Rattle.common.specs.declared.kinds.Direction.{Direction}
use Rattle.common.specs.declared.kinds.Direction.TheVariants.{Out, In}
use Rattle.token.specs.Tokens.{token_of}

abbrev pub pid_for : Direction → QtdPid
pid_for Out = OutPid
pid_for In = InPid

-- data if length > 0
abbrev pub data_td : Direction → ℕ → Bool → Option QtdToken
data_td direction length true = None
data_td direction length false = Some (token_of (pid_for direction) length false true)

-- Out after In data, otherwise In
abbrev pub status_pid : Direction → Bool → QtdPid
status_pid Out empty = InPid
status_pid In true = InPid
status_pid In false = OutPid

-- setup (8 bytes, toggle 0); data if length > 0 (toggle 1); status (0 bytes, toggle 1, interrupt)
unfoldable pub control_plan : Direction → ℕ → ControlTdPlan
control_plan direction length =
    record {
      setup = token_of Setup 8 false false;
      «data» = data_td direction length (eqb length 0);
      status = token_of (status_pid direction (eqb length 0)) 0 true true;
    }

-- a chunk of a bulk or interrupt request: toggle 0; only the last interrupts
abbrev pub chunk_token : Direction → ℕ → Bool → QtdToken
chunk_token direction bytes last = token_of (pid_for direction) bytes last false
