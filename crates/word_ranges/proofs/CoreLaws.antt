-- The core's judge is the ranges' part on the settings and the scalars, whatever the slots are.
use Rattle.std.specs.Prelude.{◌≡◌, ℕ, Bool, true, ◌&&◌, List, [], ◌∷◌}
use mathlib.Core.Path.{refl, sym, ◌∙◌}
use Rattle.common.specs.Tests.{every}
use Rattle.common.proofs.TestLaws.{both_tells}
use Rattle.settings.specs.declared.settings.Settings.{Settings}
use Rattle.settings.specs.Settings.{settings_good}
use Rattle.state.specs.Plain.{Ehci}
use Rattle.state.specs.Ranges.{doorbell_good, in_ranges, interrupt_good, machine_good, owner_good, rest_good, slots_good}
use Rattle.words.specs.declared.cores.Rest.{Rest}
use Rattle.words.specs.View.{state_of}
use Rattle.word_ranges.specs.Judge.{core_good, scalars_good}

-- settings and scalars, in the ranges' own tests
abbrev pub core_tests : Ehci → Bool
core_tests e = settings_good e.settings && every (machine_good e ∷ interrupt_good e ∷ doorbell_good e ∷ [])

module _ (s : Settings) (r : Rest) (ws : List ℕ) where
  pub core_judged : core_good s r ≡ core_tests (state_of s r ws)
  unfolding core_good scalars_good machine_good interrupt_good doorbell_good state_of
  core_judged = refl

  -- ---- the ranges: the core's, the owners', the slots'

  abbrev owners : Bool
  owners = owner_good (state_of s r ws).owner s.descriptors s.endpoints

  abbrev slots : Bool
  slots = slots_good 0 32 (state_of s r ws)

  split : in_ranges (state_of s r ws) ≡ true → (core_tests (state_of s r ws) ≡ true) × (owners ≡ true) × (slots ≡ true)
  unfolding in_ranges rest_good state_of
  split e =
      let x = state_of s r ws in
      let settings = both_tells (settings_good s) _ e in
      let machine = both_tells (machine_good x) _ settings.1 in
      let interrupt = both_tells (interrupt_good x) _ machine.1 in
      let bell = both_tells (doorbell_good x) _ interrupt.1 in
      let owner = both_tells owners _ bell.1 in
      let slot = both_tells slots true owner.1 in
      (rw (settings.0, machine.0, interrupt.0, bell.0), owner.0, slot.0)

  pub ranges_core : in_ranges (state_of s r ws) ≡ true → core_good s r ≡ true
  ranges_core e = core_judged ∙ (split e).0

  pub ranges_slots : in_ranges (state_of s r ws) ≡ true → slots ≡ true
  ranges_slots e = (split e).2

  join : core_tests (state_of s r ws) ≡ true → owners ≡ true → slots ≡ true → in_ranges (state_of s r ws) ≡ true
  unfolding in_ranges rest_good state_of
  join t o l =
      let x = state_of s r ws in
      let settings = both_tells (settings_good s) _ t in
      let machine = both_tells (machine_good x) _ settings.1 in
      let interrupt = both_tells (interrupt_good x) _ machine.1 in
      let bell = both_tells (doorbell_good x) true interrupt.1 in
      rw (settings.0, machine.0, interrupt.0, bell.0, o, l)

  pub core_ranges : core_good s r ≡ true → owners ≡ true → slots ≡ true → in_ranges (state_of s r ws) ≡ true
  core_ranges c o l = join (sym core_judged ∙ c) o l
