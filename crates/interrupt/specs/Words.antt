-- What the calls over words leave, as the state that the words stand for.
use Rattle.std.specs.Prelude.{ℕ, List, Bool, ⊤}
use Rattle.settings.specs.declared.settings.Settings.{Settings}
use Rattle.words.specs.View.{state_of}
use Rattle.interrupt.specs.Plain.{Acknowledgement}
use Rattle.interrupt.specs.Plain.{Drainage}
use Rattle.interrupt.specs.Plain.{Settled}
use Rattle.interrupt.specs.Plain.{Counted}
use Rattle.interrupt.specs.declared.drain.Counted.{Counted as CountedWords}
use Rattle.controller.specs.declared.left.Settled.{Settled as SettledWords}
use Rattle.interrupt.specs.declared.answers.Event.{Event}

abbrev pub acknowledged_view : Settings → SettledWords Bool → List ℕ → Acknowledgement
acknowledged_view s r ws = record { answer = r.answer; state = state_of s r.rest ws; writes = r.writes }

abbrev pub counted_view : Settings → CountedWords → List ℕ → Counted
counted_view s r ws = record { state = state_of s r.rest ws; writes = r.writes }

abbrev pub drained_view : Settings → SettledWords Event → List ℕ → Drainage
drained_view s r ws = record { answer = r.answer; state = state_of s r.rest ws; writes = r.writes }

abbrev pub settled_view : Settings → SettledWords ⊤ → List ℕ → Settled
settled_view s r ws = record { answer = r.answer; state = state_of s r.rest ws; writes = r.writes }
