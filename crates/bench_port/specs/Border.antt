-- What C sees of a call: the state that the words then stand for, the numbers of its answer, and the rows that it was lent.
use Rattle.std.specs.Prelude.{ℕ, List, Result}
use Rattle.descriptor.specs.declared.qtd.QueueTransferDescriptor.{QueueTransferDescriptor}
use Rattle.register.specs.Writes.{no_writes}
use Rattle.register.specs.declared.writes.Writes.{Writes}
use Rattle.settings.specs.declared.settings.Settings.{Settings}
use Rattle.state.specs.Plain.{Ehci}
use Rattle.words.specs.Record.{places_at}
use Rattle.words.specs.View.{state_of}
use Rattle.pipe.specs.Endpoints.{direction_of, kind_of}
use Rattle.controller.specs.Plain.{Allotment}
use Rattle.controller.specs.declared.lent.Readings.{Readings}
use Rattle.endpoint.specs.Calls.{ChangeLeft, OpenLeft}
use Rattle.endpoint.specs.Plain.{Change}
use Rattle.request.specs.declared.judge.TransferRequest.{TransferRequest}
use Rattle.collection.specs.Unlinks.{Left}
use Rattle.interrupt.specs.Plain.{Acknowledgement}
use Rattle.interrupt.specs.Plain.{Drainage}
use Rattle.interrupt.specs.Plain.{Settled}
use Rattle.bring_up.specs.Plain.{BroughtUp}
use Rattle.ehci.specs.declared.call.Call.{Call}
use Rattle.ehci.specs.declared.call.Call.TheVariants.{Submit, Collect}
use Rattle.ehci.specs.Door.{Applied}
use Rattle.ehci.specs.Replies.{acknowledged_answer, allotted_answer, brought_answer, drained_answer, opened_answer, simply}
use Rattle.bench_port.specs.declared.numbers.Replied.{Replied}
use Rattle.bench_port.specs.declared.placed.PortPlaces.{PortPlaces}
use Rattle.bench_port.specs.Numbers.{Numbers, numbers_in, numbers_of}
use Rattle.ehci.specs.declared.reply.Answered.{Answered}
use Rattle.common.specs.declared.answer.Refusal.{Refusal}

-- ---- the calls that are lent the pool

abbrev pub readings_of : ℕ → ℕ → ℕ → Readings
readings_of command frame overlay = record { command = command; frame = frame; overlay = overlay }

abbrev pub request_of : ℕ → ℕ → ℕ → ℕ → ℕ → TransferRequest
request_of kind direction setup address length =
    record { kind = kind_of kind; direction = direction_of direction; setup = setup; address = address; length = length }

abbrev pub submit_of : ℕ → ℕ → ℕ → ℕ → ℕ → ℕ → ℕ → ℕ → Call
submit_of slot kind direction setup address length command frame =
    Submit slot (request_of kind direction setup address length) (readings_of command frame 0)

abbrev pub collect_of : ℕ → ℕ → ℕ → ℕ → ℕ → Call
collect_of slot id command frame overlay = Collect slot id (readings_of command frame overlay)

-- ---- what is seen

pub record Seen : Type 0 where
  pub state : Ehci
  pub numbers : Numbers

abbrev pub seen_in : Settings → Replied → List ℕ → Seen
seen_in s r ws = record { state = state_of s r.rest ws; numbers = numbers_in r }

abbrev pub seen_of : Ehci → Result Answered Refusal → Writes → Seen
seen_of s answer writes = record { state = s; numbers = numbers_of answer writes }

pub record SeenHeads : Type 0 where
  pub seen : Seen
  pub heads : List ℕ

abbrev pub beside_heads : Seen → List ℕ → SeenHeads
beside_heads seen heads = record { seen = seen; heads = heads }

pub record SeenLinks : Type 0 where
  pub seen : Seen
  pub heads : List ℕ
  pub frames : List ℕ

abbrev pub beside_links : Seen → List ℕ → List ℕ → SeenLinks
beside_links seen heads frames = record { seen = seen; heads = heads; frames = frames }

pub record SeenRows : Type 0 where
  pub seen : Seen
  pub pool : List QueueTransferDescriptor
  pub heads : List ℕ
  pub frames : List ℕ
  pub setups : List ℕ

abbrev pub beside_rows : Seen → List QueueTransferDescriptor → List ℕ → List ℕ → List ℕ → SeenRows
beside_rows seen pool heads frames setups =
    record { seen = seen; pool = pool; heads = heads; frames = frames; setups = setups }

-- ---- of what each call leaves

abbrev pub seen_acknowledged : Acknowledgement → Seen
seen_acknowledged x = seen_of x.state (acknowledged_answer x.answer) x.writes

abbrev pub seen_drained : Drainage → Seen
seen_drained x = seen_of x.state (drained_answer x.answer) x.writes

abbrev pub seen_settled : Settled → Seen
seen_settled x = seen_of x.state (simply x.answer) x.writes

abbrev pub seen_allotted : Allotment → Seen
seen_allotted x = seen_of x.state (allotted_answer x.answer) no_writes

abbrev pub seen_brought : BroughtUp → Seen
seen_brought x = seen_of x.state (brought_answer x.answer x.read x.wait) x.writes

abbrev pub seen_opened : OpenLeft → SeenHeads
seen_opened x = beside_heads (seen_of x.opening.state (opened_answer x.opening.answer) no_writes) x.heads

abbrev pub seen_change : Change → Seen
seen_change x = seen_of x.state (simply x.answer) no_writes

abbrev pub seen_changed : ChangeLeft → SeenHeads
seen_changed x = beside_heads (seen_change x.change) x.heads

abbrev pub seen_cancelled : Left → SeenLinks
seen_cancelled x = beside_links (seen_of x.came.state (simply x.came.answer) x.came.writes) x.rows.heads x.rows.frames

abbrev pub seen_applied : Applied → SeenRows
seen_applied a = beside_rows (seen_of a.reply.state a.reply.answer a.reply.writes) a.pool a.heads a.frames a.setups

-- ---- the descriptors of a slot's request

abbrev pub seen_places : List ℕ → ℕ → PortPlaces
seen_places ws k = record { words = places_at ws k }
