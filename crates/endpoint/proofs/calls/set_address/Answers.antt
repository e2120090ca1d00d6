use Rattle.common.proofs.ResultLaws.{passed_on}
use Rattle.endpoint.proofs.WordsChange.{addressing_done, addressing_refused, words_word}
use Rattle.endpoint.proofs.calls.set_address.Goals as goal

pub bounds-heads-at-2 : goal.bounds-heads-at-2
bounds-heads-at-2 c = words_word c.args.core.settings c.args.core.rest c.args.slots.now c.requires.good c.args.heads.now c.requires.heads_len c.args.slot _ _ c.check_slot.ensures c.in_ok-check_slot.was

pub bounds-heads-at : goal.bounds-heads-at
bounds-heads-at c = words_word c.args.core.settings c.args.core.rest c.args.slots.now c.requires.good c.args.heads.now c.requires.heads_len c.args.slot _ _ c.check_slot.ensures c.in_ok-check_slot.was

pub returns : goal.returns
returns c = addressing_done c.args.core.settings c.args.core.rest c.args.slots.now c.requires.good c.args.heads.now c.requires.heads_len c.args.slot _ c.args.address c.check_slot.ensures c.in_ok-check_slot.was _ c.set_device_address.ensures

pub returns-in_err-check_slot : goal.returns-in_err-check_slot
returns-in_err-check_slot c = addressing_refused c.args.core.settings c.args.core.rest c.args.slots.now c.requires.good c.args.heads.now c.requires.heads_len c.args.slot _ c.args.address c.check_slot.ensures _
    c.in_err-check_slot.was _ (passed_on _ _ _ (λ x p. p) c.from_residual.ensures.1)
