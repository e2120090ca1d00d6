-- What a call asks first of a state in words.
use Rattle.std.specs.Prelude.{ℕ, ◌*◌, Bool, ◌&&◌, List, [], ◌∷◌, length, ◌==◌}
use Rattle.common.specs.Tests.{every}
use Rattle.settings.specs.declared.settings.Settings.{Settings}
use Rattle.settings.specs.Settings.{settings_good}
use Rattle.state.specs.Plain.{Ehci}
use Rattle.state.specs.Ranges.{machine_good, interrupt_good, doorbell_good}
use Rattle.words.specs.declared.cores.Rest.{Rest}
use Rattle.words.specs.View.{state_of}
use Rattle.word_ranges.specs.Seen.{all_met, free_met, seen_from}

-- the core's state, with no slot
abbrev pub bare_state : Settings → Rest → Ehci
bare_state s r = state_of s r []

unfoldable pub scalars_good : Settings → Rest → Bool
scalars_good s r =
    every
    (machine_good (bare_state s r) ∷ interrupt_good (bare_state s r) ∷ doorbell_good (bare_state s r) ∷ [])

unfoldable pub core_good : Settings → Rest → Bool
core_good s r = settings_good s && scalars_good s r

unfoldable pub slots_good : List ℕ → ℕ → ℕ → ℕ → ℕ → List ℕ → Bool
slots_good ws E D limit unanswered free = all_met (seen_from ws limit unanswered 0 E (free_met free)) D

unfoldable pub words_good : Settings → Rest → List ℕ → Bool
words_good s r ws =
    core_good s r
    && (length ws == 6 * s.endpoints && slots_good ws s.endpoints s.descriptors s.limit r.unanswered r.free)
