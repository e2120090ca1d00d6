use mathlib.Core.Bool.{Bool}
use mathlib.Core.Path.{ap, ◌∙◌}
use Rattle.token.specs.Tokens.{only_if}
use Rattle.descriptor.proofs.HeadCases.{control_only, interrupt_only, opened}
use Rattle.descriptor.proofs.head.QueueHead.endpoint.Goals as goal

pub returns : goal.returns
returns c =
    opened c.args.kind c.args.address c.args.number c.args.packet _ _ _
    (c.bit_if.ensures.value ∙ ap (λ (b : Bool). only_if b 16384) c.is_control.ensures ∙ control_only c.args.kind)
    (c.bit_if-2.ensures.value ∙ ap (λ (b : Bool). only_if b 1) c.is_interrupt.ensures ∙ interrupt_only c.args.kind)
    c.terminated.ensures
