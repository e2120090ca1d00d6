-- The returns of the functions that judge the core: those of the state's ranges, at the state that the core stands for.
use Rattle.std.specs.Prelude.{◌≡◌, ℕ, Bool, true, false, ◌&&◌, eqb, ltb, leb}
use mathlib.Core.Path.{sym, ◌∙◌}
use Rattle.common.specs.Tests.{within}
use Rattle.common.proofs.TestLaws.{every_3}
use Rattle.register.specs.Bits.{without_bits}
use Rattle.settings.specs.declared.settings.Settings.{Settings}
use Rattle.settings.specs.Settings.{settings_good}
use Rattle.state.specs.Ranges.{doorbell_good, interrupt_good, machine_good}
use Rattle.state.proofs.RangesCases.{doorbell_is, interrupt_is, machine_is}
use Rattle.words.specs.declared.cores.Rest.{Rest}
use Rattle.words.specs.View.{state_of}
use Rattle.word_ranges.specs.Judge.{bare_state, core_good, scalars_good}

module _ (s : Settings) (r : Rest) where
  pub core_machine : (leb r.running 1 && leb r.step 6 && ltb r.waited s.wait && within r.address 1 128) ≡ machine_good (bare_state s r)
  unfolding state_of
  core_machine = machine_is (bare_state s r)

  pub core_interrupt : (p m : ℕ) → p ≡ without_bits r.pending 0x37 → m ≡ without_bits r.masked 0x27
      → (leb r.enabled 1 && eqb p 0 && eqb m 0) ≡ interrupt_good (bare_state s r)
  unfolding state_of
  core_interrupt p m ep em = interrupt_is (bare_state s r) p m ep em

  pub core_doorbell : (leb r.doorbell 1 && leb r.noted r.doorbell && within r.unanswered r.doorbell 32) ≡ doorbell_good (bare_state s r)
  unfolding state_of
  core_doorbell = doorbell_is (bare_state s r)

  pub core_scalars : (m i d : Bool) → m ≡ machine_good (bare_state s r) → i ≡ interrupt_good (bare_state s r) → d ≡ doorbell_good (bare_state s r)
      → (m && i && d) ≡ scalars_good s r
  unfolding scalars_good
  core_scalars m i d em ei ed = every_3 m i d ∙ rw (em, ei, ed)

  pub core_not : (g : Bool) → g ≡ settings_good s → g ≡ false → g ≡ core_good s r
  unfolding core_good
  core_not g eg f = f ∙ rw (sym eg ∙ f)

  pub core_rest : (g c : Bool) → g ≡ settings_good s → g ≡ true → c ≡ scalars_good s r → c ≡ core_good s r
  unfolding core_good
  core_rest g c eg t ec = ec ∙ rw (sym eg ∙ t)
