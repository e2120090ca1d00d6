-- A kind that a test says is none.
use mathlib.Core.Path.{◌≡◌, sym, ap, ◌∙◌}
use mathlib.Core.Logic.{◌≢◌}
use mathlib.Core.Bool.{false}
use Rattle.common.specs.declared.kinds.EndpointType.{EndpointType}
use Rattle.common.specs.declared.kinds.EndpointType.TheVariants.{Isochronous}
use Rattle.common.proofs.TestLaws.{false_true}
use Rattle.common.specs.Kinds.{is_isochronous}

pub not_isochronous : (kind : EndpointType) → is_isochronous kind ≡ false → kind ≢ Isochronous
not_isochronous kind e q = false_true (sym e ∙ ap is_isochronous q)
