-- What the calls over words leave, as the state that the words stand for.
use Rattle.std.specs.Prelude.{ℕ, zero, suc, Bool, false, ◌||◌, List, nat_le, Err, None}
use Rattle.register.specs.Writes.{no_writes}
use Rattle.settings.specs.declared.settings.Settings.{Settings}
use Rattle.common.specs.declared.answer.Refusal.{Refusal}
use Rattle.words.specs.declared.cores.Rest.{Rest}
use Rattle.words.specs.Record.{phase_in, word_at}
use Rattle.words.specs.View.{state_of}
use Rattle.bring_up.specs.Plain.{BroughtUp}
use Rattle.bring_up.specs.declared.answers.BroughtUp.{BroughtUp as BroughtUpWords}

abbrev pub brought_view : Settings → BroughtUpWords → List ℕ → BroughtUp
brought_view s r ws =
    record { answer = r.answer; state = state_of s r.rest ws; writes = r.writes; read = r.read; wait = r.wait }

abbrev pub refused_words : Rest → Refusal → BroughtUpWords
refused_words rest r = record { answer = Err r; rest = rest; writes = no_writes; read = None; wait = 0 }

-- any of n slots, from slot k on, has a request: its phase is linked or unlinking
unfoldable pub any_held : ℕ → ℕ → List ℕ → Bool
any_held k zero ws = false
any_held k (suc n) ws = nat_le 2 (phase_in (word_at ws k)) || any_held (suc k) n ws
