-- The first line of a block: C, the record's number, the call's number, the answer, and its values.
use Rattle.std.specs.Prelude.{ℕ, List, [], ◌∷◌, Err, None, Ok, Option, Result, Some, ⊤}
use Rattle.common.specs.Answers.{refusal_number}
use Rattle.ehci.specs.Replies.{answered_number, event_number, event_value}
use Rattle.ehci.specs.declared.reply.Answered.TheVariants.{Done, Pending, Cancelled, Failed}
use Rattle.ehci.specs.declared.reply.Given.{Given}
use Rattle.ehci.specs.declared.reply.Given.TheVariants as G
use Rattle.root_hub.specs.Ports.{event_port, port_event_number}
use Rattle.text.specs.Text.{decimal, hex}
use Rattle.call_log.specs.Lines.{line_of, word}
use Rattle.call_log.specs.declared.line.Part.{Part}
use Rattle.call_log.specs.declared.line.Part.TheVariants.{Byte, Dash}
use Rattle.ehci.specs.declared.reply.Answered.{Answered}
use Rattle.root_hub.specs.declared.ports.PortEvent.{PortEvent}
use Rattle.common.specs.declared.answer.Refusal.{Refusal}

-- C record-number call-number answer values
unfoldable pub call_line : ℕ → ℕ → ℕ → List (List ℕ) → List ℕ
call_line n call answer values = line_of 67 (decimal n ∷ decimal call ∷ decimal answer ∷ values)

-- the register to read next: two hex digits, `-` for none
abbrev pub register : Option ℕ → List ℕ
register None = 45 ∷ []
register (Some offset) = hex offset 2

abbrev pub register_part : Option ℕ → Part
register_part None = Dash
register_part (Some offset) = Byte offset

-- start, step and power calls: the register, the milliseconds to wait, the event and its port
abbrev pub step_values : Option ℕ → ℕ → ℕ → ℕ → List (List ℕ)
step_values read wait event port = register read ∷ decimal wait ∷ decimal event ∷ decimal port ∷ []

unfoldable pub step_line : ℕ → ℕ → Option ℕ → ℕ → ℕ → ℕ → List ℕ
step_line n call read wait event port = call_line n call 0 (step_values read wait event port)

abbrev pub given_values : Given → List (List ℕ)
given_values G.Nothing = []
given_values (G.Slot slot) = decimal slot ∷ []
given_values (G.Address address) = decimal address ∷ []
given_values (G.Id id) = decimal id ∷ []
given_values (G.Length length retried) = decimal length ∷ decimal retried ∷ []
given_values G.No = decimal 0 ∷ []
given_values G.Yes = decimal 1 ∷ []
given_values (G.Event event) = decimal (event_number event) ∷ decimal (event_value event) ∷ []
given_values (G.Next read wait) = step_values read wait 0 0

-- collect 11 the token; every other answer but 0 gives no values
abbrev pub answered_values : Result Answered Refusal → List (List ℕ)
answered_values (Ok (Done given)) = given_values given
answered_values (Ok Pending) = []
answered_values (Ok Cancelled) = []
answered_values (Ok (Failed token)) = word token ∷ []
answered_values (Err refusal) = []

abbrev pub given_line : ℕ → ℕ → Given → List ℕ
given_line n call given = call_line n call 0 (given_values given)

abbrev pub answered_line : ℕ → ℕ → Result Answered Refusal → List ℕ
answered_line n call answered = call_line n call (answered_number answered) (answered_values answered)

-- a scan's start or step, or port power: refused, it gives no values
abbrev pub scan_line : ℕ → ℕ → Result ⊤ Refusal → Option ℕ → ℕ → Option PortEvent → List ℕ
scan_line n call (Ok tt) read wait event = step_line n call read wait (port_event_number event) (event_port event)
scan_line n call (Err refusal) read wait event = call_line n call (refusal_number refusal) []
