use Rattle.text.proofs.Puts.{put_one}
use Rattle.text.proofs.digits.put.Goals as goal

pub returns-clause-out_after : goal.returns-clause-out_after
returns-clause-out_after c = put_one c.args.out.now c.args.at c.args.byte c.requires
