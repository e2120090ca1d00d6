-- Document 01, "Numbers a call answers", for any call: the number, what goes with it, and what a call's own result says.
use Rattle.std.specs.Prelude.{ℕ, List, [], ◌∷◌, Bool, Err, None, Ok, Option, Result, Some, false, true, ⊤}
use Rattle.register.specs.Writes.{no_writes}
use Rattle.register.specs.declared.writes.Writes.{Writes}
use Rattle.pool.specs.Chains.{no_chain}
use Rattle.state.specs.Plain.{Ehci}
use Rattle.common.specs.Answers.{refusal_number}
use Rattle.common.specs.declared.answer.Refusal.{Refusal}
use Rattle.endpoint.specs.Plain.{Change}
use Rattle.collection.specs.declared.collected.Collected.TheVariants as C
use Rattle.interrupt.specs.declared.answers.Event.TheVariants as E
use Rattle.interrupt.specs.Plain.{Settled}
use Rattle.bring_up.specs.Plain.{BroughtUp}
use Rattle.ehci.specs.declared.reply.Answered.TheVariants.{Done, Pending, Cancelled, Failed}
use Rattle.ehci.specs.Plain.{Decided}
use Rattle.interrupt.specs.declared.answers.Event.{Event}
use Rattle.ehci.specs.declared.reply.Given.{Given}
use Rattle.ehci.specs.declared.reply.Given.TheVariants as G
use Rattle.collection.specs.declared.collected.Collected.{Collected}
use Rattle.ehci.specs.declared.reply.Answered.{Answered}

-- ---- the number and the values of an answer

abbrev pub answered_number : Result Answered Refusal → ℕ
answered_number (Ok (Done given)) = 0
answered_number (Ok Pending) = 9
answered_number (Ok Cancelled) = 10
answered_number (Ok (Failed token)) = 11
answered_number (Err r) = refusal_number r

abbrev pub event_number : Event → ℕ
event_number E.Nothing = 0
event_number E.PortChange = 1
event_number E.TransferActivity = 2
event_number E.Stopped = 3

-- PortChange says port 0, TransferActivity a count of 1
abbrev pub event_value : Event → ℕ
event_value E.Nothing = 0
event_value E.PortChange = 0
event_value E.TransferActivity = 1
event_value E.Stopped = 0

-- a register to read, or none
abbrev pub read_values : Option ℕ → List ℕ
read_values None = []
read_values (Some offset) = offset ∷ []

abbrev pub given_values : Given → List ℕ
given_values G.Nothing = []
given_values (G.Slot k) = k ∷ []
given_values (G.Address a) = a ∷ []
given_values (G.Id id) = id ∷ []
given_values (G.Length n retried) = n ∷ retried ∷ []
given_values G.No = 0 ∷ []
given_values G.Yes = 1 ∷ []
given_values (G.Event e) = event_number e ∷ event_value e ∷ []
given_values (G.Next read wait) = wait ∷ read_values read

-- "collected complete, with its length"; "gives the raw token"
abbrev pub answered_values : Result Answered Refusal → List ℕ
answered_values (Ok (Done given)) = given_values given
answered_values (Ok Pending) = []
answered_values (Ok Cancelled) = []
answered_values (Ok (Failed token)) = token ∷ []
answered_values (Err r) = []

-- ---- what a call's own result says

unfoldable pub replied : Ehci → Result Answered Refusal → Writes → Decided
replied s a w = record { reply = record { state = s; answer = a; writes = w }; chain = no_chain }

abbrev pub simply : Result ⊤ Refusal → Result Answered Refusal
simply (Ok tt) = Ok (Done G.Nothing)
simply (Err r) = Err r

unfoldable pub refused_reply : Ehci → Refusal → Decided
refused_reply s r = replied s (Err r) no_writes

unfoldable pub changed_reply : Change → Decided
changed_reply c = replied c.state (simply c.answer) no_writes

abbrev pub opened_answer : Result ℕ Refusal → Result Answered Refusal
opened_answer (Ok k) = Ok (Done (G.Slot k))
opened_answer (Err r) = Err r

abbrev pub allotted_answer : Result ℕ Refusal → Result Answered Refusal
allotted_answer (Ok a) = Ok (Done (G.Address a))
allotted_answer (Err r) = Err r

abbrev pub submitted_answer : Result ℕ Refusal → Result Answered Refusal
submitted_answer (Ok id) = Ok (Done (G.Id id))
submitted_answer (Err r) = Err r

abbrev pub collected_answer : Result Collected Refusal → Result Answered Refusal
collected_answer (Ok (C.Complete done)) = Ok (Done (G.Length done.length done.retried))
collected_answer (Ok C.Pending) = Ok Pending
collected_answer (Ok C.Cancelled) = Ok Cancelled
collected_answer (Ok (C.Failed token)) = Ok (Failed token)
collected_answer (Err r) = Err r

abbrev pub acknowledged_answer : Result Bool Refusal → Result Answered Refusal
acknowledged_answer (Ok false) = Ok (Done G.No)
acknowledged_answer (Ok true) = Ok (Done G.Yes)
acknowledged_answer (Err r) = Err r

abbrev pub drained_answer : Result Event Refusal → Result Answered Refusal
drained_answer (Ok E.Nothing) = Ok (Done (G.Event E.Nothing))
drained_answer (Ok E.PortChange) = Ok (Done (G.Event E.PortChange))
drained_answer (Ok E.TransferActivity) = Ok (Done (G.Event E.TransferActivity))
drained_answer (Ok E.Stopped) = Ok (Done (G.Event E.Stopped))
drained_answer (Err r) = Err r

unfoldable pub settled_reply : Settled → Decided
settled_reply x = replied x.state (simply x.answer) x.writes

-- a start or a step: the register to read next, and the milliseconds before it
abbrev pub brought_answer : Result ⊤ Refusal → Option ℕ → ℕ → Result Answered Refusal
brought_answer (Ok tt) read wait = Ok (Done (G.Next read wait))
brought_answer (Err r) read wait = Err r

unfoldable pub brought_reply : BroughtUp → Decided
brought_reply b = replied b.state (brought_answer b.answer b.read b.wait) b.writes
