-- Which kind of endpoint a kind is.
use Rattle.std.specs.Prelude.{Bool, true, false}
use Rattle.common.specs.declared.kinds.EndpointType.{EndpointType}
use Rattle.common.specs.declared.kinds.EndpointType.TheVariants.{Control, Isochronous, Bulk, Interrupt}

abbrev pub is_control : EndpointType → Bool
is_control Control = true
is_control Isochronous = false
is_control Bulk = false
is_control Interrupt = false

abbrev pub is_isochronous : EndpointType → Bool
is_isochronous Control = false
is_isochronous Isochronous = true
is_isochronous Bulk = false
is_isochronous Interrupt = false

abbrev pub is_interrupt : EndpointType → Bool
is_interrupt Control = false
is_interrupt Isochronous = false
is_interrupt Bulk = false
is_interrupt Interrupt = true
