use mathlib.Core.Path.{ap, refl}
use Rattle.words.specs.declared.cores.Rest.{Rest}
use Rattle.words.proofs.TidyLaws.{tidy_rest}
use Rattle.controller.proofs.WordsLent.{accepts_viewed}
use Rattle.ehci.specs.Decides.{address_decided, clear_decided, close_decided, packet_decided}
use Rattle.ehci.proofs.Cases.{heads_call, links_call, no_rows}
use Rattle.ehci.proofs.WordsCalls.{frames_below, frames_fit, heads_below, heads_fit, keeps_call, rows_fit, setups_fit, tidies_call, waited_fits, words_good_lem, words_refuse, writes_call}
use Rattle.ehci.proofs.WordsCases.{brought_view_lem, changed_view_lem, keeps_words, settled_view_lem, slot_view, tidies_words}
use mathlib.Core.Bool.{not}
use Rattle.ehci.proofs.decide.decide.Goals as goal

clauses : {A B C : Type 0} → A × (B × C) → record { setups_after : A; words_after : B; writable : C }
clauses p = record { setups_after = p.0; words_after = p.1.0; writable = p.1.1 }

pub returns-then-not-good : goal.returns-then-not-good
returns-then-not-good c = clauses (let a = c.args in
    words_refuse a.core a.slots.now a.good a.records a.heads.now a.frames.now a.setups.now a.seen a.call (ap not c.if-not-good.true) _ c.refused.ensures)

pub start-requires : goal.start-requires
start-requires c = let on = (ap not c.if-not-good.false) in
    words_good_lem _ _ _ _ _ _ _ c.requires on

pub step-requires : goal.step-requires
step-requires c = let on = (ap not c.if-not-good.false) in record { waited_bound = waited_fits _ _ _ _ _ _ _ c.requires on; frames_bound = (frames_below _ _ _ _ _ _ _ c.requires on, heads_below _ _ _ _ _ _ _ c.requires on) }

pub on_open-requires : goal.on_open-requires
on_open-requires c = let on = (ap not c.if-not-good.false) in record { good = words_good_lem _ _ _ _ _ _ _ c.requires on; heads_len = heads_fit _ _ _ _ _ _ _ c.requires on }

pub close-requires : goal.close-requires
close-requires c = let on = (ap not c.if-not-good.false) in record { good = words_good_lem _ _ _ _ _ _ _ c.requires on; heads_len = heads_fit _ _ _ _ _ _ _ c.requires on }

pub set_address-requires : goal.set_address-requires
set_address-requires c = let on = (ap not c.if-not-good.false) in record { good = words_good_lem _ _ _ _ _ _ _ c.requires on; heads_len = heads_fit _ _ _ _ _ _ _ c.requires on }

pub set_packet_size-requires : goal.set_packet_size-requires
set_packet_size-requires c = let on = (ap not c.if-not-good.false) in record { good = words_good_lem _ _ _ _ _ _ _ c.requires on; heads_len = heads_fit _ _ _ _ _ _ _ c.requires on }

pub on_submit-requires : goal.on_submit-requires
on_submit-requires c = let on = (ap not c.if-not-good.false) in record { good = words_good_lem _ _ _ _ _ _ _ c.requires on; heads_len = (heads_fit _ _ _ _ _ _ _ c.requires on, frames_fit _ _ _ _ _ _ _ c.requires on, setups_fit _ _ _ _ _ _ _ c.requires on) }

pub on_cancel-requires : goal.on_cancel-requires
on_cancel-requires c = let on = (ap not c.if-not-good.false) in record { good = words_good_lem _ _ _ _ _ _ _ c.requires on; heads_len = (heads_fit _ _ _ _ _ _ _ c.requires on, frames_fit _ _ _ _ _ _ _ c.requires on) }

pub on_collect-requires : goal.on_collect-requires
on_collect-requires c = let on = (ap not c.if-not-good.false) in record { good = words_good_lem _ _ _ _ _ _ _ c.requires on; heads_len = (heads_fit _ _ _ _ _ _ _ c.requires on, frames_fit _ _ _ _ _ _ _ c.requires on) }

pub on_drain-requires : goal.on_drain-requires
on_drain-requires c = let on = (ap not c.if-not-good.false) in
    words_good_lem _ _ _ _ _ _ _ c.requires on

pub clear_halt-requires : goal.clear_halt-requires
clear_halt-requires c = let on = (ap not c.if-not-good.false) in
    words_good_lem _ _ _ _ _ _ _ c.requires on

pub returns-in-StartBringUp : goal.returns-in-StartBringUp
returns-in-StartBringUp c = clauses (
    let a = c.args in
    let on = (ap not c.if-not-good.false) in
    let is = c.in-StartBringUp.is in
    keeps_call a.core a.slots.now a.good a.records a.heads.now a.frames.now a.setups.now a.seen a.call on c.requires _ is _ _ _ _ (no_rows _ _ _ _ _ (brought_view_lem a.core _ _ _ _ c.of_brought_up.ensures c.start.ensures.slots_value)) (keeps_words a.core _ _ _ _ c.of_brought_up.ensures c.start.ensures.free_value))

pub returns-in-BringUpStep : goal.returns-in-BringUpStep
returns-in-BringUpStep c = clauses (
    let a = c.args in
    let on = (ap not c.if-not-good.false) in
    let is = c.in-BringUpStep.is in
    let good = words_good_lem _ _ _ _ _ _ _ c.requires on in
    keeps_call a.core a.slots.now a.good a.records a.heads.now a.frames.now a.setups.now a.seen a.call on c.requires _ is _ _ _ _ (no_rows _ _ _ _ _ (brought_view_lem a.core _ _ _ _ c.of_brought_up-in-BringUpStep.ensures (c.step.ensures.by_index a.slots.now good.ranges))) (keeps_words a.core _ _ _ _ c.of_brought_up-in-BringUpStep.ensures c.step.ensures.free_value))

pub returns-in-AllocateAddress : goal.returns-in-AllocateAddress
returns-in-AllocateAddress c = clauses (
    let a = c.args in
    let on = (ap not c.if-not-good.false) in
    let is = c.in-AllocateAddress.is in
    let good = words_good_lem _ _ _ _ _ _ _ c.requires on in
    keeps_call a.core a.slots.now a.good a.records a.heads.now a.frames.now a.setups.now a.seen a.call on c.requires _ is _ _ _ _ (no_rows _ _ _ _ _ (c.on_allocate.ensures.by_index a.slots.now good.ranges)) c.on_allocate.ensures.keeps)

pub returns-in-OpenEndpoint : goal.returns-in-OpenEndpoint
returns-in-OpenEndpoint c = clauses (
    let a = c.args in
    let on = (ap not c.if-not-good.false) in
    let is = c.in-OpenEndpoint.is in
    let rows = rows_fit _ _ _ _ _ _ _ c.requires on in
    tidies_call a.core a.slots.now a.good a.records a.heads.now a.frames.now a.setups.now a.seen a.call on c.requires _ is _ _ _ _ _ (heads_call _ _ _ _ _ (c.on_open.ensures.by_index a.records _ _ rows)) c.on_open.ensures.tidies)

pub returns-in-Close : goal.returns-in-Close
unfolding close_decided
returns-in-Close c = clauses (
    let a = c.args in
    let on = (ap not c.if-not-good.false) in
    let is = c.in-Close.is in
    let rows = rows_fit _ _ _ _ _ _ _ c.requires on in
    tidies_call a.core a.slots.now a.good a.records a.heads.now a.frames.now a.setups.now a.seen a.call on c.requires _ is _ _ _ _ _ (heads_call _ _ _ _ _ (changed_view_lem a.core _ _ _ _ _ c.of_change.ensures (c.close.ensures.by_index a.records _ _ rows))) (tidies_words a.core _ _ _ _ c.of_change.ensures _ c.close.ensures.tidy))

pub returns-in-SetAddress : goal.returns-in-SetAddress
unfolding address_decided
returns-in-SetAddress c = clauses (
    let a = c.args in
    let on = (ap not c.if-not-good.false) in
    let is = c.in-SetAddress.is in
    let rows = rows_fit _ _ _ _ _ _ _ c.requires on in
    keeps_call a.core a.slots.now a.good a.records a.heads.now a.frames.now a.setups.now a.seen a.call on c.requires _ is _ _ _ _ (heads_call _ _ _ _ _ (changed_view_lem a.core _ _ _ _ _ c.of_change-in-SetAddress.ensures (c.set_address.ensures a.records _ _ rows))) (keeps_words a.core _ _ _ _ c.of_change-in-SetAddress.ensures refl))

pub returns-in-SetPacketSize : goal.returns-in-SetPacketSize
unfolding packet_decided
returns-in-SetPacketSize c = clauses (
    let a = c.args in
    let on = (ap not c.if-not-good.false) in
    let is = c.in-SetPacketSize.is in
    let rows = rows_fit _ _ _ _ _ _ _ c.requires on in
    tidies_call a.core a.slots.now a.good a.records a.heads.now a.frames.now a.setups.now a.seen a.call on c.requires _ is _ _ _ _ _ (heads_call _ _ _ _ _ (changed_view_lem a.core _ _ _ _ _ c.of_change-in-SetPacketSize.ensures (c.set_packet_size.ensures.by_index a.records _ _ rows))) (tidies_words a.core _ _ _ _ c.of_change-in-SetPacketSize.ensures _ c.set_packet_size.ensures.tidy))

pub returns-in-Submit : goal.returns-in-Submit
returns-in-Submit c = clauses (
    let a = c.args in
    let on = (ap not c.if-not-good.false) in
    let is = c.in-Submit.is in
    let rows = rows_fit _ _ _ _ _ _ _ c.requires on in
    writes_call a.core a.slots.now a.good a.records a.heads.now a.frames.now a.setups.now a.seen a.call on c.requires _ is _ _ _ _ _ (c.on_submit.ensures.by_index a.records rows) c.on_submit.ensures.tidy c.on_submit.ensures.writable)

pub returns-in-Writeback : goal.returns-in-Writeback
returns-in-Writeback c = clauses (
    let a = c.args in
    let on = (ap not c.if-not-good.false) in
    let is = c.in-Writeback.is in
    let good = words_good_lem _ _ _ _ _ _ _ c.requires on in
    let rows = rows_fit _ _ _ _ _ _ _ c.requires on in
    writes_call a.core a.slots.now a.good a.records a.heads.now a.frames.now a.setups.now a.seen a.call on c.requires _ is _ _ _ _ _ (no_rows _ _ _ _ _ (c.on_writeback.ensures.by_index a.slots.now good _ (accepts_viewed _ _ _ good a.records _ _ _ rows))) (tidy_rest _ _ _ _ (ap (λ (x : Rest). x.free) c.on_writeback.ensures.rest_value) good.tidy) c.on_writeback.ensures.writable)

pub returns-in-Cancel : goal.returns-in-Cancel
returns-in-Cancel c = clauses (
    let a = c.args in
    let on = (ap not c.if-not-good.false) in
    let is = c.in-Cancel.is in
    let rows = rows_fit _ _ _ _ _ _ _ c.requires on in
    tidies_call a.core a.slots.now a.good a.records a.heads.now a.frames.now a.setups.now a.seen a.call on c.requires _ is _ _ _ _ _ (links_call _ _ _ _ _ (c.on_cancel.ensures.by_index a.records _ rows)) c.on_cancel.ensures.tidies)

pub returns-in-Collect : goal.returns-in-Collect
returns-in-Collect c = clauses (
    let a = c.args in
    let on = (ap not c.if-not-good.false) in
    let is = c.in-Collect.is in
    let rows = rows_fit _ _ _ _ _ _ _ c.requires on in
    tidies_call a.core a.slots.now a.good a.records a.heads.now a.frames.now a.setups.now a.seen a.call on c.requires _ is _ _ _ _ _ (links_call _ _ _ _ _ (c.on_collect.ensures.by_index a.records _ rows)) c.on_collect.ensures.tidies)

pub returns-in-Acknowledge : goal.returns-in-Acknowledge
returns-in-Acknowledge c = clauses (
    let a = c.args in
    let on = (ap not c.if-not-good.false) in
    let is = c.in-Acknowledge.is in
    let good = words_good_lem _ _ _ _ _ _ _ c.requires on in
    keeps_call a.core a.slots.now a.good a.records a.heads.now a.frames.now a.setups.now a.seen a.call on c.requires _ is _ _ _ _ (no_rows _ _ _ _ _ (c.on_acknowledge.ensures.by_index a.slots.now good.ranges)) c.on_acknowledge.ensures.keeps)

pub returns-in-Drain : goal.returns-in-Drain
returns-in-Drain c = clauses (
    let a = c.args in
    let on = (ap not c.if-not-good.false) in
    let is = c.in-Drain.is in
    tidies_call a.core a.slots.now a.good a.records a.heads.now a.frames.now a.setups.now a.seen a.call on c.requires _ is _ _ _ _ _ (no_rows _ _ _ _ _ c.on_drain.ensures.slots_after) c.on_drain.ensures.tidies)

pub returns-in-Rearm : goal.returns-in-Rearm
returns-in-Rearm c = clauses (
    let a = c.args in
    let on = (ap not c.if-not-good.false) in
    let is = c.in-Rearm.is in
    let good = words_good_lem _ _ _ _ _ _ _ c.requires on in
    keeps_call a.core a.slots.now a.good a.records a.heads.now a.frames.now a.setups.now a.seen a.call on c.requires _ is _ _ _ _ (no_rows _ _ _ _ _ (settled_view_lem a.core _ _ _ _ c.of_settled.ensures (c.rearm.ensures.by_index a.slots.now good.ranges))) (keeps_words a.core _ _ _ _ c.of_settled.ensures c.rearm.ensures.free_value))

pub returns-in-Enable : goal.returns-in-Enable
returns-in-Enable c = clauses (
    let a = c.args in
    let on = (ap not c.if-not-good.false) in
    let is = c.in-Enable.is in
    let good = words_good_lem _ _ _ _ _ _ _ c.requires on in
    keeps_call a.core a.slots.now a.good a.records a.heads.now a.frames.now a.setups.now a.seen a.call on c.requires _ is _ _ _ _ (no_rows _ _ _ _ _ (settled_view_lem a.core _ _ _ _ c.of_settled-in-Enable.ensures (c.enable.ensures.by_index a.slots.now good.ranges))) (keeps_words a.core _ _ _ _ c.of_settled-in-Enable.ensures c.enable.ensures.free_value))

pub returns-in-Disable : goal.returns-in-Disable
returns-in-Disable c = clauses (
    let a = c.args in
    let on = (ap not c.if-not-good.false) in
    let is = c.in-Disable.is in
    let good = words_good_lem _ _ _ _ _ _ _ c.requires on in
    keeps_call a.core a.slots.now a.good a.records a.heads.now a.frames.now a.setups.now a.seen a.call on c.requires _ is _ _ _ _ (no_rows _ _ _ _ _ (settled_view_lem a.core _ _ _ _ c.of_settled-in-Disable.ensures (c.disable.ensures.by_index a.slots.now good.ranges))) (keeps_words a.core _ _ _ _ c.of_settled-in-Disable.ensures c.disable.ensures.free_value))

pub returns-in-ClearHalt : goal.returns-in-ClearHalt
unfolding clear_decided
returns-in-ClearHalt c = clauses (
    let a = c.args in
    let on = (ap not c.if-not-good.false) in
    let is = c.in-ClearHalt.is in
    tidies_call a.core a.slots.now a.good a.records a.heads.now a.frames.now a.setups.now a.seen a.call on c.requires _ is _ _ _ _ _ (no_rows _ _ _ _ _ (slot_view a.core _ _ _ _ c.of_change-in-ClearHalt.ensures c.clear_halt.ensures.slots_after)) (tidies_words a.core _ _ _ _ c.of_change-in-ClearHalt.ensures _ c.clear_halt.ensures.tidy))
