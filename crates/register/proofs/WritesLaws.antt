-- The writes of an answer are those of a list: nothing at first, and each further one at its end.
use Prim.Native.Nat.{ℕ, suc, ◌+◌, ◌-◌, ◌<◌}
use mathlib.Core.Path.{◌≡◌, refl, sym, ◌∙◌}
use mathlib.Core.List.{List, [], ◌∷◌, ◌++◌, append_assoc}
use native.Mathlib.Omega.{arith}
use lib.ListN.{length, length-append, replicate, set}
use lib.Seq.{set-append_seam, take-append_seam}
use Rattle.register.specs.Writes.{write_of, packed, list_of, no_writes, and_then}
use Rattle.register.specs.declared.writes.Write.{Write}

pub list_packed : (ws : List Write) → list_of (packed ws) ≡ ws
list_packed ws = take-append_seam ws (replicate (6 - length ws) (write_of 0 0))

pub none_packed : no_writes ≡ packed []
unfolding no_writes
none_packed = refl

pub then_packed : (ws : List Write) (offset value : ℕ) → length ws < 6
    → and_then (packed ws) offset value ≡ packed (ws ++ (write_of offset value ∷ []))
unfolding and_then
then_packed ws offset value h = λ i. record { count = counted i; writes = written i }
  where
    new : Write
    new = write_of offset value

    rest : 6 - length ws ≡ suc (6 - (length ws + 1))
    rest = omega arith

    counted : length ws + 1 ≡ length (ws ++ (new ∷ []))
    counted = sym (length-append ws (new ∷ []))

    written : set (ws ++ replicate (6 - length ws) (write_of 0 0)) (length ws) new
        ≡ (ws ++ (new ∷ [])) ++ replicate (6 - length (ws ++ (new ∷ []))) (write_of 0 0)
    written = rw (rest, ← counted) (set-append_seam ws _ _ new ∙ sym (append_assoc ws (new ∷ []) _))
