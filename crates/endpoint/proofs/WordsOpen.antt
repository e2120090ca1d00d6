-- Open endpoint over words: what it is that the slot is chosen, and what is left.
use Rattle.std.specs.Prelude.{◌≡◌, ℕ, ◌+◌, ◌*◌, ◌^◌, ◌<◌, ◌≤◌, Bool, true, false, List, length, Err, Ok, Result}
use mathlib.Core.Path.{sym, ap, subst, ◌∙◌}
use native.Mathlib.Omega.{arith}
use Rattle.common.specs.declared.answer.Refusal.{Refusal}
use Rattle.common.specs.declared.kinds.EndpointType.{EndpointType}
use Rattle.descriptor.specs.Heads.{endpoint_head, words_of}
use Rattle.opening.specs.Opening.{rows_are_fit}
use Rattle.settings.specs.declared.settings.Settings.{Settings}
use Rattle.settings.specs.Settings.{pool_length}
use Rattle.state.specs.Plain.{Ehci}
use Rattle.words.specs.declared.cores.Rest.{Rest}
use Rattle.words.specs.Good.{Good, Tidy, no_places}
use Rattle.words.specs.Record.{SlotFits, places_at, put_slot}
use Rattle.words.specs.View.{state_of}
use Rattle.words.proofs.GoodLaws.{good_ranges, good_room}
use Rattle.pipe.specs.Endpoints.{encoded, endpoint_at}
use Rattle.pipe.specs.declared.endpoints.Endpoint.TheVariants.{Closed, Idle}
use Rattle.pipe.proofs.WordsFits.{idle_fits}
use Rattle.pipe.proofs.WordsLaws.{tidy_endpoint_put, view_endpoint_put}
use Rattle.pipe.proofs.WordsTells.{closed_at_lem}
use Rattle.controller.specs.Lent.{accepts_of, lengths}
use Rattle.controller.proofs.WordsLent.{accepts_viewed, rows_fixed}
use Rattle.endpoint.specs.Calls.{chosen_of, fields_good, lowest_slot, new_endpoint, open_checks, open_endpoint_of, open_left, with_head}
use Rattle.endpoint.specs.Words.{chosen_words}
use Rattle.endpoint.proofs.Cases.{open_done, open_fields, open_passed, open_refused, open_room_for, slot_is}
use Rattle.endpoint.proofs.LowestLaws.{lowest_closed_lem}

-- where the lent rows and the state are accepted the first check says nothing
pub chosen_accepted : (s : Ehci) (pool h f u : ℕ) (kind : EndpointType) (good : Bool) → accepts_of s (lengths pool h f u) ≡ true
    → chosen_words s kind good ≡ chosen_of s (lengths pool h f u) kind good
unfolding chosen_words chosen_of open_checks
chosen_accepted s pool h f u kind good e = rw e

module _ (s : Settings) (r : Rest) (ws : List ℕ) (good : Good s r ws) (h : List ℕ) (fit : length h ≡ 17 * (s.endpoints + 1))
    (kind : EndpointType) (a n p : ℕ) (g : Bool) (eg : g ≡ fields_good s.limit kind a n p) (o : (Result ℕ Refusal)) (eo : o ≡ chosen_words (state_of s r ws) kind g) where
  chosen_lent : (pool f u : ℕ) → rows_are_fit s pool (length h) f u ≡ true
      → o ≡ chosen_of (state_of s r ws) (lengths pool (length h) f u) kind g
  chosen_lent pool f u e = eo ∙ chosen_accepted (state_of s r ws) pool (length h) f u kind g (accepts_viewed s r ws good pool (length h) f u e)

  asked : g ≡ fields_good (state_of s r ws).settings.limit kind a n p
  unfolding state_of
  asked = eg

  -- the lengths that opening fixed
  chosen_fixed : o ≡ chosen_of (state_of s r ws) (lengths (pool_length s) (length h) 1024 (8 * s.endpoints)) kind g
  chosen_fixed = chosen_lent (pool_length s) 1024 (8 * s.endpoints) (rows_fixed s (length h) fit)

  pub opened_refused : (q : Refusal) → o ≡ Err q → (b : Result ℕ Refusal) → b ≡ Err q → (pool f u : ℕ) → rows_are_fit s pool (length h) f u ≡ true
      → open_left (record { answer = b; state = state_of s r ws }) h ≡ open_endpoint_of (state_of s r ws) pool h f u kind a n p
  opened_refused q e b eb pool f u t =
      ap (λ (z : Result ℕ Refusal). open_left (record { answer = z; state = state_of s r ws }) h) eb
      ∙ open_refused (state_of s r ws) pool h f u kind a n p g asked o (chosen_lent pool f u t) q e

  module _ (k : ℕ) (e : o ≡ Ok k) where
    pub opened_room : (k < 32) × (k + 1 ≤ 32) × (17 * (k + 1) + 17 ≤ length h)
    opened_room =
        open_room_for (state_of s r ws) (pool_length s) h 1024 (8 * s.endpoints) kind a n p g asked o chosen_fixed k e

    pub opened_head : (k + 1 ≤ 32) × (17 * (k + 1) + 17 ≤ length h)
    opened_head = (opened_room.1, opened_room.2)

    pub opened_fields : (a ≤ 127) × (n ≤ 15) × (p ≤ 1024)
    opened_fields =
        let t = open_fields (state_of s r ws) (pool_length s) h 1024 (8 * s.endpoints) kind a n p g asked o chosen_fixed k e in
        (t.0, t.1, t.2.size_most)

    -- whatever the id that it starts with
    pub opened_fits : (next : ℕ) → 1 ≤ next → next < 2 ^ 64 → SlotFits (encoded (Idle (record { kind = kind; size = p; toggle = false; next = next })))
    opened_fits next least below =
        idle_fits (record { kind = kind; size = p; toggle = false; next = next }) (omega (arith, opened_fields.2)) least below

    new_fits : SlotFits (encoded (new_endpoint kind p))
    new_fits = opened_fits 1 (omega arith) (omega arith)

    pub opened_within : k < s.endpoints
    unfolding state_of
    opened_within = (open_passed (state_of s r ws) (pool_length s) h 1024 (8 * s.endpoints) kind a n p g asked o chosen_fixed k e).3

    pub opened_slot_room : 6 * k + 6 ≤ length ws
    opened_slot_room = good_room s r ws good k opened_within

    slot_lowest : k ≡ lowest_slot (state_of s r ws)
    slot_lowest = slot_is (state_of s r ws) (pool_length s) h 1024 (8 * s.endpoints) kind a n p g asked o chosen_fixed k e

    lowest_within : lowest_slot (state_of s r ws) < (state_of s r ws).settings.endpoints
    unfolding state_of
    lowest_within = omega (arith, slot_lowest, opened_within)

    was_closed : endpoint_at (state_of s r ws) k ≡ Closed
    was_closed =
        ap (λ (j : ℕ). endpoint_at (state_of s r ws) j) slot_lowest
        ∙ lowest_closed_lem (state_of s r ws) (good_ranges s r ws good) lowest_within

    had_none : places_at ws k ≡ no_places
    had_none = (good.tidy.held k opened_within).empty (omega (arith, closed_at_lem s r ws good k was_closed))

    module _ (ws' : List ℕ) (ew : ws' ≡ put_slot ws k (encoded (new_endpoint kind p))) where
      pub opened_done : (h' : List ℕ) → h' ≡ with_head h k (words_of (endpoint_head kind a n p)) → (pool f u : ℕ)
          → rows_are_fit s pool (length h) f u ≡ true
          → open_left (record { answer = Ok k; state = state_of s r ws' }) h' ≡ open_endpoint_of (state_of s r ws) pool h f u kind a n p
      opened_done h' eh pool f u t =
          open_done (state_of s r ws) pool h f u kind a n p g asked o (chosen_lent pool f u t) k e (state_of s r ws') h'
          (ap (λ (l : List ℕ). state_of s r l) ew
          ∙ view_endpoint_put ws k (new_endpoint kind p) opened_room.0 opened_slot_room new_fits s r)
          eh

      pub opened_tidy : Tidy s r ws'
      opened_tidy =
          subst (λ (l : List ℕ). Tidy s r l) (sym ew)
          (tidy_endpoint_put ws k (new_endpoint kind p) opened_slot_room new_fits s r (λ _. had_none) good.tidy)
