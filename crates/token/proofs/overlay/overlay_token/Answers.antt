use Rattle.token.proofs.OverlayLaws.{overlay_clear, overlay_none, overlay_set}
use Rattle.token.proofs.overlay.overlay_token.Goals as goal

pub returns-then-is_control : goal.returns-then-is_control
returns-then-is_control c = search overlay_none

pub returns-then-toggle : goal.returns-then-toggle
returns-then-toggle c = search overlay_set

pub returns : goal.returns
returns c = search overlay_clear
