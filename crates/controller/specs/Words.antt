-- What an allotment over words leaves, as the state that the words stand for; and what a slot's first word says.
use Rattle.std.specs.Prelude.{ℕ, Bool, not, List, ◌==◌, nat_le, Result}
use Rattle.words.specs.Record.{phase_in, word_at}
use Rattle.settings.specs.declared.settings.Settings.{Settings}
use Rattle.words.specs.View.{state_of}
use Rattle.controller.specs.Plain.{Allotment}
use Rattle.controller.specs.declared.left.Left.{Left as LeftWords}
use Rattle.controller.specs.declared.left.Settled.{Settled as SettledWords}
use Rattle.common.specs.declared.answer.Refusal.{Refusal}
use Rattle.register.specs.Writes.{no_writes}
use Rattle.words.specs.declared.cores.Core.{Core}
use Rattle.words.specs.declared.cores.Rest.{Rest}

abbrev pub allotted_view : Settings → LeftWords ℕ → List ℕ → Allotment
allotted_view s r ws = record { answer = r.answer; state = state_of s r.rest ws }

-- an answer with no register write
abbrev pub unwritten : {T : Type 0} → Rest → Result T Refusal → SettledWords T
unwritten rest answer = record { answer = answer; rest = rest; writes = no_writes }

-- an answer that leaves the rest of the core as it was
abbrev pub leaving : {T : Type 0} → Core → Result T Refusal → LeftWords T
leaving c answer = record { answer = answer; rest = c.rest }

-- the slot has an endpoint; it has an uncollected request
abbrev pub open_at : List ℕ → ℕ → Bool
open_at ws k = not (phase_in (word_at ws k) == 0)

abbrev pub held_at : List ℕ → ℕ → Bool
held_at ws k = nat_le 2 (phase_in (word_at ws k))
