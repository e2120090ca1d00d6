use mathlib.Core.Path.{sym, ◌∙◌}
use Rattle.request.proofs.WordsSubmit.{limit_good, limit_viewed, need_viewed, refused_laying, refused_tidy, submit_refuses, submit_settles}
use Rattle.request.proofs.submit.submit.Goals as goal

pub need-wanted-requires : goal.need-wanted-requires
need-wanted-requires c =
    limit_good c.args.core.settings c.args.core.rest c.args.slots.now c.args.slot _ _ c.requires.good c.pipe_at.ensures c.limit_of-limit.ensures

pub judge-requires-clause-wanted_value : goal.judge-requires-clause-wanted_value
judge-requires-clause-wanted_value c = need_viewed c.args.core.settings c.args.core.rest c.args.slots.now c.args.slot _ _ c.requires.good c.pipe_at.ensures c.limit_of-limit.ensures c.args.request _ c.need-wanted.ensures

pub settle-requires-clause-limit_value : goal.settle-requires-clause-limit_value
settle-requires-clause-limit_value c = (limit_viewed c.args.core.settings c.args.core.rest c.args.slots.now c.args.slot _ _ c.requires.good c.pipe_at.ensures c.limit_of-limit.ensures, need_viewed c.args.core.settings c.args.core.rest c.args.slots.now c.args.slot _ _ c.requires.good c.pipe_at.ensures c.limit_of-limit.ensures c.args.request _ c.need-wanted.ensures)

pub returns-in-Err-clause-by_index : goal.returns-in-Err-clause-by_index
returns-in-Err-clause-by_index c = submit_refuses c.args.core.settings c.args.core.rest c.args.slots.now c.args.heads.now c.args.frames.now c.args.setups.now c.args.readings c.args.slot c.args.request _ c.requires.good c.judge.ensures _ _ c.in-Err.is c.refuse.ensures

pub returns-in-Err-clause-tidy : goal.returns-in-Err-clause-tidy
returns-in-Err-clause-tidy c = refused_tidy c.args.core.settings c.args.core.rest c.args.slots.now _ _ c.requires.good c.refuse.ensures

pub returns-in-Err-clause-laying_good : goal.returns-in-Err-clause-laying_good
returns-in-Err-clause-laying_good c = refused_laying _ _ _ _ c.refuse.ensures

pub returns-in-Ok-clause-by_index : goal.returns-in-Ok-clause-by_index
returns-in-Ok-clause-by_index c = submit_settles c.args.core.settings c.args.core.rest c.args.slots.now c.args.heads.now c.args.frames.now c.args.setups.now c.args.readings c.args.slot c.args.request _ c.requires.good c.judge.ensures _ _ _ _ _ c.in-Ok.is c.settle.ensures.setups_after
