-- A run of a machine by its script: each call with what it comes to, newest first.
use mathlib.Core.Path.{◌≡◌, refl, ap, ◌∙◌}
use mathlib.Core.List.{List, [], ◌∷◌}
use Rattle.ehci.specs.declared.call.Call.{Call}
use Rattle.ehci.specs.Door.{Applied}
use Rattle.promises.specs.Runs.{History, Machine, World, in_plain, history_of, left_by, turn_of, world_of}

abbrev pub Script : Type 0
Script = List (Call × Applied)

abbrev pub calls_of : List Call → Script → List Call
calls_of cs [] = cs
calls_of cs (x ∷ xs) = x.0 ∷ calls_of cs xs

abbrev pub end_of : World → Script → World
end_of v [] = v
end_of v (x ∷ xs) = left_by x.1

abbrev pub turns_of : World → History → Script → History
turns_of v h [] = h
turns_of v h (x ∷ xs) = turn_of (end_of v xs).rows x.0 x.1 ∷ turns_of v h xs

-- from that world on the machine does so
abbrev pub Follows : Machine in_plain → World → Script → Type 0
Follows m v [] = Unit {0}
Follows m v (x ∷ xs) = (m (end_of v xs) x.0 ≡ x.1) × Follows m v xs

module _ (m : Machine in_plain) (w : World) (cs : List Call) (v : World) (begins : world_of m w cs ≡ v) where
  pub arrives : (xs : Script) → Follows m v xs → world_of m w (calls_of cs xs) ≡ end_of v xs
  unfolding world_of
  arrives [] f = begins
  arrives (x ∷ xs) f = ap (λ (y : World). left_by (m y x.0)) (arrives xs f.1) ∙ ap left_by f.0

  pub is_told : (xs : Script) → Follows m v xs → history_of m w (calls_of cs xs) ≡ turns_of v (history_of m w cs) xs
  unfolding history_of
  is_told [] f = refl
  is_told (x ∷ xs) f =
      ap (λ (y : World). turn_of y.rows x.0 (m y x.0) ∷ history_of m w (calls_of cs xs)) (arrives xs f.1)
      ∙ ap (λ (a : Applied). turn_of (end_of v xs).rows x.0 a ∷ history_of m w (calls_of cs xs)) f.0
      ∙ ap (λ (h : History). turn_of (end_of v xs).rows x.0 x.1 ∷ h) (is_told xs f.1)
