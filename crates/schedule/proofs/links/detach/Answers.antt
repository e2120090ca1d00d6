use Rattle.words.specs.View.{view}
use Rattle.schedule.proofs.LinkCases.{detach_head, detach_none}
use Rattle.schedule.proofs.WordsCases.{detach_framed, detach_ringed}
use Rattle.schedule.proofs.links.detach.Goals as goal

pub returns-then-framed : goal.returns-then-framed
returns-then-framed c =
    detach_framed (view c.args.core c.args.slots.now) c.args.heads.now c.args.frames.now c.args.k c.args.framed
    c.requires.framed_value _ c.find_predecessor-found.ensures c.in-First.is c.if-framed.true _ c.fill.ensures

pub returns-else-framed : goal.returns-else-framed
returns-else-framed c =
    detach_ringed (view c.args.core c.args.slots.now) c.args.heads.now c.args.frames.now c.args.k c.args.framed
    c.requires.framed_value _ c.find_predecessor-found.ensures c.in-First.is c.if-framed.false

pub returns-in-Head : goal.returns-in-Head
returns-in-Head c =
    detach_head (view c.args.core c.args.slots.now) c.args.heads.now c.args.frames.now c.args.k _
    c.find_predecessor-found.ensures _ c.in-Head.is _ c.give_link.ensures

pub returns-in-Missing : goal.returns-in-Missing
returns-in-Missing c =
    detach_none (view c.args.core c.args.slots.now) c.args.heads.now c.args.frames.now c.args.k _
    c.find_predecessor-found.ensures c.in-Missing.is
