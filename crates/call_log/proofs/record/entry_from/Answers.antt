use native.Mathlib.Omega.{arith}
use Rattle.call_log.specs.Records.{judged_as}
use Rattle.call_log.proofs.RecordCases.{judged_at, judged_none}
use Rattle.call_log.proofs.record.entry_from.Goals as goal

pub returns-in-1 : goal.returns-in-1
unfolding judged_as
returns-in-1 c = judged_at _ 1 _ _ c.in-1.is c.«open».ensures

pub returns-in-2 : goal.returns-in-2
unfolding judged_as
returns-in-2 c = judged_at _ 2 _ _ c.in-2.is c.plain_entry.ensures

pub returns-in-3 : goal.returns-in-3
unfolding judged_as
returns-in-3 c = judged_at _ 3 _ _ c.in-3.is c.bring_up_step.ensures

pub returns-in-4 : goal.returns-in-4
unfolding judged_as
returns-in-4 c = judged_at _ 4 _ _ c.in-4.is c.plain_entry-in-4.ensures

pub returns-in-5 : goal.returns-in-5
unfolding judged_as
returns-in-5 c = judged_at _ 5 _ _ c.in-5.is c.open_endpoint.ensures

pub returns-in-6 : goal.returns-in-6
unfolding judged_as
returns-in-6 c = judged_at _ 6 _ _ c.in-6.is c.close_slot.ensures

pub returns-in-7 : goal.returns-in-7
unfolding judged_as
returns-in-7 c = judged_at _ 7 _ _ c.in-7.is c.set_address.ensures

pub returns-in-8 : goal.returns-in-8
unfolding judged_as
returns-in-8 c = judged_at _ 8 _ _ c.in-8.is c.set_packet_size.ensures

pub returns-in-9 : goal.returns-in-9
unfolding judged_as
returns-in-9 c = judged_at _ 9 _ _ c.in-9.is c.submit_request.ensures

pub returns-in-10 : goal.returns-in-10
unfolding judged_as
returns-in-10 c = judged_at _ 10 _ _ c.in-10.is c.write_back.ensures

pub returns-in-11 : goal.returns-in-11
unfolding judged_as
returns-in-11 c = judged_at _ 11 _ _ c.in-11.is c.cancel_request.ensures

pub returns-in-12 : goal.returns-in-12
unfolding judged_as
returns-in-12 c = judged_at _ 12 _ _ c.in-12.is c.collect_request.ensures

pub returns-in-13 : goal.returns-in-13
unfolding judged_as
returns-in-13 c = judged_at _ 13 _ _ c.in-13.is c.acknowledge_interrupt.ensures

pub returns-in-14 : goal.returns-in-14
unfolding judged_as
returns-in-14 c = judged_at _ 14 _ _ c.in-14.is c.drain_events.ensures

pub returns-in-15 : goal.returns-in-15
unfolding judged_as
returns-in-15 c = judged_at _ 15 _ _ c.in-15.is c.plain_entry-in-15.ensures

pub returns-in-16 : goal.returns-in-16
unfolding judged_as
returns-in-16 c = judged_at _ 16 _ _ c.in-16.is c.plain_entry-in-16.ensures

pub returns-in-17 : goal.returns-in-17
unfolding judged_as
returns-in-17 c = judged_at _ 17 _ _ c.in-17.is c.plain_entry-in-17.ensures

pub returns-in-18 : goal.returns-in-18
unfolding judged_as
returns-in-18 c = judged_at _ 18 _ _ c.in-18.is c.plain_entry-in-18.ensures

pub returns-in-19 : goal.returns-in-19
unfolding judged_as
returns-in-19 c = judged_at _ 19 _ _ c.in-19.is c.scan_step.ensures

pub returns-in-20 : goal.returns-in-20
unfolding judged_as
returns-in-20 c = judged_at _ 20 _ _ c.in-20.is c.port_power.ensures

pub returns-in-21 : goal.returns-in-21
unfolding judged_as
returns-in-21 c = judged_at _ 21 _ _ c.in-21.is c.clear_halt.ensures

pub returns-in_default : goal.returns-in_default
returns-in_default c = judged_none _ _ (omega arith) (omega arith) (omega arith) (omega arith) (omega arith) (omega arith) (omega arith) (omega arith) (omega arith) (omega arith) (omega arith) (omega arith) (omega arith) (omega arith) (omega arith) (omega arith) (omega arith) (omega arith) (omega arith) (omega arith) (omega arith)
