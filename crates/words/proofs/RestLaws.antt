-- The state of a rest with some of its fields replaced.
use Prim.Native.Nat.{ℕ}
use mathlib.Core.Path.{◌≡◌, refl}
use mathlib.Core.List.{List}
use Rattle.settings.specs.declared.settings.Settings.{Settings}
use Rattle.state.specs.State.{with_bell, with_bring_up, with_interrupt, with_next_address}
use Rattle.words.specs.declared.cores.Rest.{Rest}
use Rattle.words.specs.Rest.{rest_with_bell, rest_with_bring_up, rest_with_free, rest_with_interrupt, rest_with_next_address}
use Rattle.words.specs.View.{state_of}

module _ (s : Settings) (r : Rest) (ws : List ℕ) where
  pub view_bring_up : (running step waited enabled : ℕ)
      → state_of s (rest_with_bring_up r running step waited enabled) ws ≡ with_bring_up (state_of s r ws) running step waited enabled
  unfolding state_of with_bring_up
  view_bring_up running step waited enabled = refl

  pub view_next_address : (address : ℕ) → state_of s (rest_with_next_address r address) ws ≡ with_next_address (state_of s r ws) address
  unfolding state_of with_next_address
  view_next_address address = refl

  pub view_interrupt : (enabled pending masked : ℕ)
      → state_of s (rest_with_interrupt r enabled pending masked) ws ≡ with_interrupt (state_of s r ws) enabled pending masked
  unfolding state_of with_interrupt
  view_interrupt enabled pending masked = refl

  pub view_bell : (noted doorbell unanswered : ℕ)
      → state_of s (rest_with_bell r noted doorbell unanswered) ws ≡ with_bell (state_of s r ws) noted doorbell unanswered
  unfolding state_of with_bell
  view_bell noted doorbell unanswered = refl

  pub view_free : (free : List ℕ) → state_of s (rest_with_free r free) ws ≡ state_of s r ws
  unfolding state_of
  view_free free = refl
