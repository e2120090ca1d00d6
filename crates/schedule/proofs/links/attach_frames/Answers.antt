use Rattle.schedule.proofs.LinkCases.{frames_attached}
use Rattle.schedule.proofs.links.attach_frames.Goals as goal

pub returns : goal.returns
returns c = frames_attached c.args.heads.now c.args.frames.now _ c.args.k c.args.link c.fill.ensures
