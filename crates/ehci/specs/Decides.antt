-- What each call decides, over the rows of numbers and what the pool's records say: the crates' own definitions, as one kind of reply.
use Rattle.std.specs.Prelude.{ℕ, Bool, true, false, List, length}
use Rattle.register.specs.Writes.{no_writes}
use Rattle.pool.specs.Chains.{no_ask}
use Rattle.pool.specs.Plain.{Ask}
use Rattle.pool.specs.declared.chain.View.{View}
use Rattle.state.specs.Plain.{Ehci}
use Rattle.common.specs.declared.answer.Refusal.TheVariants.{InvalidParameter}
use Rattle.opening.specs.Opening.{rows_are_fit}
use Rattle.controller.specs.Plain.{Allotment}
use Rattle.controller.specs.Plain.{Lengths}
use Rattle.controller.specs.declared.lent.Readings.{Readings}
use Rattle.controller.specs.Address.{allot_of}
use Rattle.controller.specs.Lent.{lengths}
use Rattle.endpoint.specs.Calls.{ChangeLeft, OpenLeft, clear_halt_of, close_of, open_endpoint_of, set_address_of, set_packet_size_of}
use Rattle.request.specs.Plain.{WrittenBack}
use Rattle.request.specs.declared.judge.TransferRequest.{TransferRequest}
use Rattle.request.specs.Submit.{Outcome as SubmitOutcome, submit_of}
use Rattle.request.specs.Writeback.{writeback_of}
use Rattle.collection.specs.Asks.{ask_of}
use Rattle.collection.specs.Calls.{Gathered, cancel_of, collect_of}
use Rattle.collection.specs.Unlinks.{Left}
use Rattle.interrupt.specs.Plain.{Acknowledgement}
use Rattle.interrupt.specs.Plain.{Drainage}
use Rattle.interrupt.specs.Interrupts.{acknowledge_of, disable_of, drain_of, enable_of, rearm_of}
use Rattle.bring_up.specs.BringUp.{start_of, step_of}
use Rattle.ehci.specs.declared.call.Call.{Call}
use Rattle.ehci.specs.declared.call.Call.TheVariants.{StartBringUp, BringUpStep, AllocateAddress, OpenEndpoint, Close, SetAddress, SetPacketSize, Submit, Writeback, Cancel, Collect, Acknowledge, Drain, Rearm, Enable, Disable, ClearHalt}
use Rattle.ehci.specs.declared.call.EndpointFields.{EndpointFields}
use Rattle.ehci.specs.declared.call.InterruptReadings.{InterruptReadings}
use Rattle.ehci.specs.Plain.{Decided}
use Rattle.ehci.specs.Replies.{acknowledged_answer, allotted_answer, brought_reply, changed_reply, collected_answer, drained_answer, opened_answer, refused_reply, replied, settled_reply, simply, submitted_answer}

-- what is decided, and the rows of numbers then
pub record Outcome : Type 0 where
  pub decided : Decided
  pub heads : List ℕ
  pub frames : List ℕ
  pub setups : List ℕ

abbrev pub came : Decided → List ℕ → List ℕ → List ℕ → Outcome
came d heads frames setups = record { decided = d; heads = heads; frames = frames; setups = setups }

-- of a call that is lent the heads
pub record HeadsOutcome : Type 0 where
  pub decided : Decided
  pub heads : List ℕ

abbrev pub heads_came : Decided → List ℕ → HeadsOutcome
heads_came d heads = record { decided = d; heads = heads }

-- of a call that is lent the heads and the frames
pub record LinksOutcome : Type 0 where
  pub decided : Decided
  pub heads : List ℕ
  pub frames : List ℕ

abbrev pub links_came : Decided → List ℕ → List ℕ → LinksOutcome
links_came d heads frames = record { decided = d; heads = heads; frames = frames }

-- ---- the calls, by their crates' definitions

abbrev pub allot_reply : Allotment → Decided
allot_reply a = replied a.state (allotted_answer a.answer) no_writes

unfoldable pub allot_decided : Ehci → Decided
allot_decided s = allot_reply (allot_of s)

abbrev pub open_came : OpenLeft → HeadsOutcome
open_came o = heads_came (replied o.opening.state (opened_answer o.opening.answer) no_writes) o.heads

unfoldable pub open_decided : Ehci → ℕ → List ℕ → ℕ → ℕ → EndpointFields → HeadsOutcome
open_decided s pool heads frames setups x =
    open_came (open_endpoint_of s pool heads frames setups x.kind x.address x.number x.packet)

abbrev pub change_came : ChangeLeft → HeadsOutcome
change_came c = heads_came (changed_reply c.change) c.heads

unfoldable pub close_decided : Ehci → ℕ → List ℕ → ℕ → ℕ → ℕ → HeadsOutcome
close_decided s pool heads frames setups k = change_came (close_of s pool heads frames setups k)

unfoldable pub address_decided : Ehci → ℕ → List ℕ → ℕ → ℕ → ℕ → ℕ → HeadsOutcome
address_decided s pool heads frames setups k a = change_came (set_address_of s pool heads frames setups k a)

unfoldable pub packet_decided : Ehci → ℕ → List ℕ → ℕ → ℕ → ℕ → ℕ → HeadsOutcome
packet_decided s pool heads frames setups k size = change_came (set_packet_size_of s pool heads frames setups k size)

unfoldable pub clear_decided : Ehci → ℕ → Decided
clear_decided s k = changed_reply (clear_halt_of s k)

abbrev pub submit_came : SubmitOutcome → Outcome
submit_came o =
    came
    (record {
      reply = record {
        state = o.result.state;
        answer = submitted_answer o.result.answer;
        writes = o.result.writes;
      };
      chain = o.result.chain;
    })
    o.heads o.frames o.setups

unfoldable pub submit_decided : Ehci → ℕ → List ℕ → List ℕ → List ℕ → Readings → ℕ → TransferRequest → Outcome
submit_decided s pool heads frames setups readings k t = submit_came (submit_of s pool heads frames setups readings k t)

abbrev pub written_reply : WrittenBack → Decided
written_reply x =
    record { reply = record { state = x.state; answer = simply x.answer; writes = no_writes }; chain = x.chain }

unfoldable pub writeback_decided : Ehci → Lengths → ℕ → ℕ → Decided
writeback_decided s lent place token = written_reply (writeback_of s lent place token)

abbrev pub cancel_came : Left → LinksOutcome
cancel_came l =
    links_came (replied l.came.state (simply l.came.answer) l.came.writes) l.rows.heads l.rows.frames

unfoldable pub cancel_decided : Ehci → ℕ → List ℕ → List ℕ → ℕ → Readings → ℕ → ℕ → LinksOutcome
cancel_decided s pool heads frames setups readings k id = cancel_came (cancel_of s pool heads frames setups readings k id)

abbrev pub collect_came : Gathered → LinksOutcome
collect_came g =
    links_came (replied g.came.state (collected_answer g.came.answer) g.came.writes) g.rows.heads
    g.rows.frames

unfoldable pub collect_decided : Ehci → ℕ → List ℕ → List ℕ → ℕ → Readings → View → ℕ → ℕ → LinksOutcome
collect_decided s pool heads frames setups readings view k id =
    collect_came (collect_of s pool heads frames setups readings view k id)

abbrev pub acknowledge_reply : Acknowledgement → Decided
acknowledge_reply a = replied a.state (acknowledged_answer a.answer) a.writes

unfoldable pub acknowledge_decided : Ehci → InterruptReadings → Decided
acknowledge_decided s x = acknowledge_reply (acknowledge_of s x.status x.interrupts x.flag x.again)

abbrev pub drain_reply : Drainage → Decided
drain_reply d = replied d.state (drained_answer d.answer) d.writes

unfoldable pub drain_decided : Ehci → ℕ → Decided
drain_decided s command = drain_reply (drain_of s command)

-- ---- any call

abbrev pub with_frames : HeadsOutcome → List ℕ → List ℕ → Outcome
with_frames o frames setups = came o.decided o.heads frames setups

abbrev pub with_setups : LinksOutcome → List ℕ → Outcome
with_setups o setups = came o.decided o.heads o.frames setups

abbrev pub call_of : Ehci → ℕ → List ℕ → List ℕ → List ℕ → View → Call → Outcome
call_of s n hs fs us v StartBringUp = came (brought_reply (start_of s)) hs fs us
call_of s n hs fs us v (BringUpStep w) = came (brought_reply (step_of s w)) hs fs us
call_of s n hs fs us v AllocateAddress = came (allot_decided s) hs fs us
call_of s n hs fs us v (OpenEndpoint x) = with_frames (open_decided s n hs (length fs) (length us) x) fs us
call_of s n hs fs us v (Close k) = with_frames (close_decided s n hs (length fs) (length us) k) fs us
call_of s n hs fs us v (SetAddress k a) = with_frames (address_decided s n hs (length fs) (length us) k a) fs us
call_of s n hs fs us v (SetPacketSize k size) = with_frames (packet_decided s n hs (length fs) (length us) k size) fs us
call_of s n hs fs us v (Submit k t readings) = submit_decided s n hs fs us readings k t
call_of s n hs fs us v (Writeback place token) = came (writeback_decided s (lengths n (length hs) (length fs) (length us)) place token) hs fs us
call_of s n hs fs us v (Cancel k id readings) = with_setups (cancel_decided s n hs fs (length us) readings k id) us
call_of s n hs fs us v (Collect k id readings) = with_setups (collect_decided s n hs fs (length us) readings v k id) us
call_of s n hs fs us v (Acknowledge x) = came (acknowledge_decided s x) hs fs us
call_of s n hs fs us v (Drain w) = came (drain_decided s w) hs fs us
call_of s n hs fs us v Rearm = came (settled_reply (rearm_of s)) hs fs us
call_of s n hs fs us v Enable = came (settled_reply (enable_of s)) hs fs us
call_of s n hs fs us v Disable = came (settled_reply (disable_of s)) hs fs us
call_of s n hs fs us v (ClearHalt k) = came (clear_decided s k) hs fs us

abbrev pub fitting : Bool → Outcome → Outcome → Outcome
fitting true a b = a
fitting false a b = b

-- "First: a lent row of a length other than opening fixed .. 1", of all four rows, whatever the call
unfoldable pub decide_of : Ehci → ℕ → List ℕ → List ℕ → List ℕ → View → Call → Outcome
decide_of s n hs fs us v call =
    fitting (rows_are_fit s.settings n (length hs) (length fs) (length us))
    (call_of s n hs fs us v call)
    (came (refused_reply s InvalidParameter) hs fs us)

-- which records a call looks at
unfoldable pub asks_of : Ehci → ℕ → Call → Ask
asks_of s n StartBringUp = no_ask
asks_of s n (BringUpStep w) = no_ask
asks_of s n AllocateAddress = no_ask
asks_of s n (OpenEndpoint x) = no_ask
asks_of s n (Close k) = no_ask
asks_of s n (SetAddress k a) = no_ask
asks_of s n (SetPacketSize k size) = no_ask
asks_of s n (Submit k t readings) = no_ask
asks_of s n (Writeback place token) = no_ask
asks_of s n (Cancel k id readings) = no_ask
asks_of s n (Collect k id readings) = ask_of s n k
asks_of s n (Acknowledge x) = no_ask
asks_of s n (Drain w) = no_ask
asks_of s n Rearm = no_ask
asks_of s n Enable = no_ask
asks_of s n Disable = no_ask
asks_of s n (ClearHalt k) = no_ask
