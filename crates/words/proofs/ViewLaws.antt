-- What the state that words stand for has in each slot, and how long its lists are.
use Prim.Native.Nat.{ℕ, ◌<◌}
use mathlib.Core.Path.{◌≡◌}
use mathlib.Core.List.{List}
use lib.ListN.{get_or, length}
use Rattle.settings.specs.declared.settings.Settings.{Settings}
use Rattle.state.specs.Slots.{slot_at}
use Rattle.words.specs.declared.cores.Rest.{Rest}
use Rattle.words.specs.Record.{boundary_in, cancel_in, direction_in, id_in, kind_in, last_at, length_in, phase_in, request_in, size_in, slot_in, toggle_in, word_at}
use Rattle.words.specs.View.{owner_from, state_of}
use Rattle.words.proofs.Each.{each_here, each_length}

module _ (s : Settings) (r : Rest) (ws : List ℕ) where
  -- ---- lengths

  pub owner_length : length (state_of s r ws).owner ≡ 256
  unfolding state_of
  owner_length = each_length (owner_from 0 32 ws) 0 256

  -- ---- a place

  pub view_owner : (i : ℕ) → i < 256 → get_or (state_of s r ws).owner i 0 ≡ owner_from 0 32 ws i
  unfolding state_of
  view_owner i h = each_here (owner_from 0 32 ws) 256 i h

  -- ---- the fields of slot k

  module _ (k : ℕ) (below : k < 32) where
    pub view_phase : get_or (state_of s r ws).phases k 0 ≡ phase_in (word_at ws k)
    unfolding state_of
    view_phase = each_here (λ j. phase_in (word_at ws j)) 32 k below

    pub view_kind : get_or (state_of s r ws).kinds k 0 ≡ kind_in (word_at ws k)
    unfolding state_of
    view_kind = each_here (λ j. kind_in (word_at ws j)) 32 k below

    pub view_size : get_or (state_of s r ws).sizes k 0 ≡ size_in (word_at ws k)
    unfolding state_of
    view_size = each_here (λ j. size_in (word_at ws j)) 32 k below

    pub view_toggle : get_or (state_of s r ws).toggles k 0 ≡ toggle_in (word_at ws k)
    unfolding state_of
    view_toggle = each_here (λ j. toggle_in (word_at ws j)) 32 k below

    pub view_id : get_or (state_of s r ws).ids k 0 ≡ id_in (last_at ws k)
    unfolding state_of
    view_id = each_here (λ j. id_in (last_at ws j)) 32 k below

    pub view_request : get_or (state_of s r ws).requests k 0 ≡ request_in (phase_in (word_at ws k)) (last_at ws k)
    unfolding state_of
    view_request = each_here (λ j. request_in (phase_in (word_at ws j)) (last_at ws j)) 32 k below

    pub view_direction : get_or (state_of s r ws).directions k 0 ≡ direction_in (word_at ws k)
    unfolding state_of
    view_direction = each_here (λ j. direction_in (word_at ws j)) 32 k below

    pub view_length : get_or (state_of s r ws).lengths k 0 ≡ length_in (word_at ws k)
    unfolding state_of
    view_length = each_here (λ j. length_in (word_at ws j)) 32 k below

    pub view_cancel : get_or (state_of s r ws).cancels k 0 ≡ cancel_in (word_at ws k)
    unfolding state_of
    view_cancel = each_here (λ j. cancel_in (word_at ws j)) 32 k below

    pub view_boundary : get_or (state_of s r ws).boundaries k 0 ≡ boundary_in (word_at ws k)
    unfolding state_of
    view_boundary = each_here (λ j. boundary_in (word_at ws j)) 32 k below

    pub view_slot : slot_at (state_of s r ws) k ≡ slot_in (word_at ws k) (last_at ws k)
    unfolding slot_at slot_in
    view_slot =
        rw (view_phase, view_kind, view_size, view_toggle, view_id, view_request, view_direction, view_length, view_cancel, view_boundary)
