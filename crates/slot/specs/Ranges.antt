-- The ranges of one slot, by its phase: closed 0, idle 1, linked 2, unlinking 3.
use Rattle.std.specs.Prelude.{ℕ, Bool, false, ◌&&◌, ◌||◌, cond, [], ◌∷◌, eqb, leb, ltb}
use Rattle.common.specs.Tests.{every, within}
use Rattle.slot.specs.declared.slot.Slot.{Slot}

abbrev pub flag : ℕ → Bool
flag n = leb n 1

-- control 0, bulk 2 or interrupt 3: an isochronous slot is never open
unfoldable pub open_kind : ℕ → Bool
open_kind kind = eqb kind 0 || within kind 2 3

unfoldable pub no_request : Slot → Bool
no_request e =
    every
    (eqb e.request 0 ∷ eqb e.direction 0 ∷ eqb e.length 0 ∷ eqb e.cancel 0 ∷ eqb e.boundary 0 ∷ [])

unfoldable pub closed_good : Slot → Bool
closed_good e = every (eqb e.kind 0 ∷ eqb e.id 1 ∷ no_request e ∷ [])

unfoldable pub idle_good : Slot → Bool
idle_good e = open_kind e.kind && no_request e

-- a request has an id, and a direction; while it is linked it is not cancelled
unfoldable pub linked_good : Slot → Bool
linked_good e =
    every
    (open_kind e.kind ∷ leb 1 e.request ∷ flag e.direction ∷ eqb e.cancel 0 ∷ eqb e.boundary 0 ∷ [])

-- the boundary of control and bulk: advances still to come, at most those unanswered; of interrupt: a FRINDEX
unfoldable pub boundary_good : ℕ → ℕ → ℕ → Bool
boundary_good kind boundary unanswered = cond (eqb kind 3) (ltb boundary 16384) (leb boundary unanswered)

unfoldable pub unlinking_good : Slot → ℕ → Bool
unlinking_good e unanswered =
    every
    (open_kind e.kind
    ∷ leb 1 e.request
    ∷ flag e.direction
    ∷ flag e.cancel
    ∷ boundary_good e.kind e.boundary unanswered
    ∷ [])

unfoldable pub phase_good : Slot → ℕ → Bool
phase_good e unanswered =
    cond (eqb e.phase 0) (closed_good e)
    (cond (eqb e.phase 1) (idle_good e)
    (cond (eqb e.phase 2) (linked_good e)
    (cond (eqb e.phase 3) (unlinking_good e unanswered) false)))

-- "packet size 1..=1024"; of a bulk or interrupt endpoint it is at most C, so that one packet at least fits a chunk
unfoldable pub size_good : ℕ → ℕ → ℕ → Bool
size_good limit kind size = within size 1 1024 && (eqb kind 0 || leb size limit)

-- a closed slot has none
unfoldable pub size_kept : ℕ → Slot → Bool
size_kept limit e = cond (eqb e.phase 0) (eqb e.size 0) (size_good limit e.kind e.size)

-- the toggle is a bit; a closed slot's is 0
unfoldable pub toggle_kept : Slot → Bool
toggle_kept e = cond (eqb e.phase 0) (eqb e.toggle 0) (flag e.toggle)

-- ids are at least 1; slots from E on are closed
unfoldable pub slot_good : ℕ → ℕ → ℕ → ℕ → Slot → Bool
slot_good E limit k unanswered e =
    every (leb 1 e.id ∷ (ltb k E || eqb e.phase 0) ∷ size_kept limit e ∷ toggle_kept e ∷ phase_good e unanswered ∷ [])
