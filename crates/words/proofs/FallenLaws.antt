-- The state of a row that has fallen.
use Prim.Native.Nat.{ℕ, ◌-◌, ◌*◌}
use mathlib.Core.Path.{◌≡◌, ap, ◌∙◌}
use mathlib.Core.Bool.{not, ◌&&◌, cond}
use mathlib.Core.List.{List}
use lib.Dec.{eqb}
use lib.ListN.{length}
use Rattle.settings.specs.declared.settings.Settings.{Settings}
use Rattle.state.specs.State.{with_bell, with_boundaries}
use Rattle.words.specs.declared.cores.Rest.{Rest}
use Rattle.words.specs.Record.{boundary_in, cancel_in, direction_in, fall_to, fallen_word, id_in, kind_in, last_at, length_in, phase_in, request_in, size_in, toggle_in, word_at}
use Rattle.words.specs.Rest.{rest_with_bell}
use Rattle.words.specs.View.{each_from, state_of}
use Rattle.words.proofs.Each.{each_same}
use Rattle.words.proofs.FallLaws.{fall_last, fall_part, fall_word, fallen_boundary_lem, fallen_cancel, fallen_direction, fallen_kind, fallen_length, fallen_phase, fallen_size, fallen_toggle}
use Rattle.words.proofs.PutLaws.{owners_same}

module _ (ws : List ℕ) (e : ℕ) (fits : length ws ≡ 6 * e) where
  field_same : (f : ℕ → ℕ) → ((w : ℕ) → f (fallen_word w) ≡ f w)
      → each_from (λ k. f (word_at (fall_to ws e) k)) 0 32 ≡ each_from (λ k. f (word_at ws k)) 0 32
  field_same f h =
      each_same (λ k. f (word_at (fall_to ws e) k)) (λ k. f (word_at ws k)) 0 32
      (λ k l. ap f (fall_word ws e k fits) ∙ h (word_at ws k))

  phase_same : (k : ℕ) → phase_in (word_at (fall_to ws e) k) ≡ phase_in (word_at ws k)
  phase_same k = ap (λ w. phase_in w) (fall_word ws e k fits) ∙ fallen_phase (word_at ws k)

  ids_same : each_from (λ k. id_in (last_at (fall_to ws e) k)) 0 32 ≡ each_from (λ k. id_in (last_at ws k)) 0 32
  ids_same =
      each_same (λ k. id_in (last_at (fall_to ws e) k)) (λ k. id_in (last_at ws k)) 0 32 (λ k l. ap id_in (fall_last ws e k))

  requests_same : each_from (λ k. request_in (phase_in (word_at (fall_to ws e) k)) (last_at (fall_to ws e) k)) 0 32
      ≡ each_from (λ k. request_in (phase_in (word_at ws k)) (last_at ws k)) 0 32
  requests_same =
      each_same (λ k. request_in (phase_in (word_at (fall_to ws e) k)) (last_at (fall_to ws e) k))
      (λ k. request_in (phase_in (word_at ws k)) (last_at ws k)) 0 32
      (λ k l. rw (phase_same k, fall_last ws e k))

  boundaries_fall : each_from (λ k. boundary_in (word_at (fall_to ws e) k)) 0 32
      ≡ each_from (λ k. boundary_in (fallen_word (word_at ws k))) 0 32
  boundaries_fall =
      each_same (λ k. boundary_in (word_at (fall_to ws e) k)) (λ k. boundary_in (fallen_word (word_at ws k))) 0 32
      (λ k l. ap (λ w. boundary_in w) (fall_word ws e k fits))

  -- under another bell
  pub view_fallen : (s : Settings) (r : Rest) (n d u : ℕ)
      → state_of s (rest_with_bell r n d u) (fall_to ws e)
      ≡ with_boundaries (with_bell (state_of s r ws) n d u) (each_from (λ k. boundary_in (fallen_word (word_at ws k))) 0 32)
  unfolding state_of with_bell with_boundaries
  view_fallen s r n d u =
      rw (
        field_same (λ w. phase_in w) fallen_phase,
        field_same (λ w. kind_in w) fallen_kind,
        field_same (λ w. size_in w) fallen_size,
        field_same (λ w. toggle_in w) fallen_toggle,
        ids_same,
        requests_same,
        field_same (λ w. direction_in w) fallen_direction,
        field_same (λ w. length_in w) fallen_length,
        field_same (λ w. cancel_in w) fallen_cancel,
        boundaries_fall,
        owners_same (fall_to ws e) ws (fall_part ws e),
      )

-- the boundaries by the numbers of the slots
pub boundaries_fallen : (ws : List ℕ)
    → each_from (λ k. boundary_in (fallen_word (word_at ws k))) 0 32
    ≡ each_from
    (λ k. cond (eqb (phase_in (word_at ws k)) 3 && not (eqb (kind_in (word_at ws k)) 3)) (boundary_in (word_at ws k) - 1) (boundary_in (word_at ws k)))
    0
    32
boundaries_fallen ws =
    each_same _ _ 0 32 (λ k l. fallen_boundary_lem (word_at ws k))
