-- The state of a row where a slot is put and takes the lowest free places, and where it is put and frees its own.
use Prim.Native.Nat.{ℕ, ◌+◌, ◌*◌, ◌≤◌, ◌<◌}
use mathlib.Core.Path.{◌≡◌, refl, ap, ◌∙◌}
use mathlib.Core.List.{List, ◌++◌}
use native.Mathlib.Omega.{arith}
use lib.ListN.{drop, length, take}
use Rattle.bitset.specs.Places.{Words, lowest_of}
use Rattle.pool.specs.Places.{clear_of, mark_of}
use Rattle.settings.specs.declared.settings.Settings.{Settings}
use Rattle.slot.specs.declared.slot.Slot.{Slot}
use Rattle.state.specs.Plain.{Ehci}
use Rattle.state.specs.Slots.{with_slot}
use Rattle.state.specs.State.{with_owner}
use Rattle.words.specs.declared.cores.Rest.{Rest}
use Rattle.words.specs.Good.{Tidy, no_places}
use Rattle.words.specs.Record.{SlotFits, places_at, put_places, put_slot}
use Rattle.words.specs.Rest.{rest_with_free}
use Rattle.words.specs.View.{state_of}
use Rattle.words.proofs.MovedLaws.{freed_owner, moved_slot, taken_owner}
use Rattle.words.proofs.OwnerLaws.{owners_of}
use Rattle.words.proofs.PutLaws.{put_places_view, view_put}
use Rattle.words.proofs.RestLaws.{view_free}

-- one slot and the owners, in either order
slot_owner : (v : Ehci) (k : ℕ) (e : Slot) (o : List ℕ) → with_owner (with_slot v k e) o ≡ with_slot (with_owner v o) k e
unfolding with_owner with_slot
slot_owner v k e o = refl

module _ (s : Settings) (r : Rest) (ws : List ℕ) (t : Tidy s r ws) (few : s.descriptors ≤ 256) (slots : s.endpoints ≤ 32)
    (k : ℕ) (e : Slot) (below : k < s.endpoints) (fits : SlotFits e) where
  room : 6 * k + 6 ≤ length ws
  room = omega (arith, t.has_row_length)

  put_both : (free x : List ℕ)
      → state_of s (rest_with_free r free) (put_places (put_slot ws k e) k x)
      ≡ with_slot (with_owner (state_of s r ws) (owners_of (put_places (put_slot ws k e) k x))) k e
  put_both free x =
      view_free s r (put_places (put_slot ws k e) k x) free
      ∙ put_places_view (put_slot ws k e) k x s r
      ∙ ap (λ (v : Ehci). with_owner v (owners_of (put_places (put_slot ws k e) k x))) (view_put ws k e (omega arith) room fits s r)
      ∙ slot_owner (state_of s r ws) k e (owners_of (put_places (put_slot ws k e) k x))

  pub view_taken : places_at ws k ≡ no_places → Words r.free → (n : ℕ) (free : List ℕ)
      → state_of s (rest_with_free r free) (put_places (put_slot ws k e) k (lowest_of r.free n))
      ≡ with_slot
      (with_owner (state_of s r ws) (mark_of (take s.descriptors (owners_of ws)) n (k + 1) ++ drop s.descriptors (owners_of ws)))
      k
      e
  view_taken empty fit n free =
      put_both free x
      ∙ ap (λ (o : List ℕ). with_slot (with_owner (state_of s r ws) o) k e)
      (taken_owner s r ws t few slots k below empty fit n (put_places (put_slot ws k e) k x) (moved_slot ws k x room e))
    where
      x : List ℕ
      x = lowest_of r.free n

  pub view_freed : (free : List ℕ)
      → state_of s (rest_with_free r free) (put_places (put_slot ws k e) k no_places)
      ≡ with_slot
      (with_owner (state_of s r ws) (clear_of (k + 1) (take s.descriptors (owners_of ws)) ++ drop s.descriptors (owners_of ws)))
      k
      e
  view_freed free =
      put_both free no_places
      ∙ ap (λ (o : List ℕ). with_slot (with_owner (state_of s r ws) o) k e)
      (freed_owner s r ws t few slots k (put_places (put_slot ws k e) k no_places) (moved_slot ws k no_places room e))
