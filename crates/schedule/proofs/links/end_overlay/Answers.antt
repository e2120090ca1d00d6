use Rattle.schedule.specs.Links.{ended_overlay}
use Rattle.schedule.proofs.links.end_overlay.Goals as goal

pub returns : goal.returns
unfolding ended_overlay
returns c = c.put_at.ensures
