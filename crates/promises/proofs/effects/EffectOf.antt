-- Every call on every world has one of the effects.
use Rattle.ehci.specs.declared.call.Call.{Call}
use Rattle.ehci.specs.declared.call.Call.TheVariants.{StartBringUp, BringUpStep, AllocateAddress, OpenEndpoint, Close, SetAddress, SetPacketSize, Submit, Writeback, Cancel, Collect, Acknowledge, Drain, Rearm, Enable, Disable, ClearHalt}
use Rattle.promises.specs.Runs.{World, core}
use Rattle.promises.proofs.effects.Effects.{Effect}
use Rattle.promises.proofs.effects.EffectMachine.{allot_effect, start_effect, step_effect}
use Rattle.promises.proofs.effects.EffectInterrupts.{acknowledge_effect, disable_effect, drain_effect, enable_effect, rearm_effect}
use Rattle.promises.proofs.effects.EffectEndpoints.{address_effect, clear_effect, close_effect, open_effect_lem, size_effect}
use Rattle.promises.proofs.effects.EffectRequests.{cancel_effect, collect_effect, submit_effect, writeback_effect}

pub effect : (w : World) (c : Call) → Effect w c (core w c)
effect w StartBringUp = start_effect w
effect w (BringUpStep v) = step_effect w v
effect w AllocateAddress = allot_effect w
effect w (OpenEndpoint x) = open_effect_lem w x
effect w (Close k) = close_effect w k
effect w (SetAddress k a) = address_effect w k a
effect w (SetPacketSize k size) = size_effect w k size
effect w (Submit k t readings) = submit_effect w k t readings
effect w (Writeback place token) = writeback_effect w place token
effect w (Cancel k id readings) = cancel_effect w k id readings
effect w (Collect k id readings) = collect_effect w k id readings
effect w (Acknowledge x) = acknowledge_effect w x
effect w (Drain command) = drain_effect w command
effect w Rearm = rearm_effect w
effect w Enable = enable_effect w
effect w Disable = disable_effect w
effect w (ClearHalt k) = clear_effect w k
