-- Which requests may end short: those of more than one descriptor; of one the rule is the same either way.
use Prim.Native.Nat.{◌≤◌}
use mathlib.Core.Path.{◌≡◌, refl}
use mathlib.Core.Bool.{Bool, true, false, not, ◌&&◌}
use borrow.Author.Tests.{ltb-false}
use lib.Dec.{ltb}
use lib.ListN.{length}
use Rattle.common.specs.Kinds.{is_control}
use Rattle.common.specs.declared.kinds.Direction.{Direction}
use Rattle.common.specs.declared.kinds.Direction.TheVariants.{Out, In}
use Rattle.pool.specs.Transfers.{ends_short}
use Rattle.promises.specs.Uses.{Use, comes_in, may_end_short}

-- so what does not tell them apart for one descriptor is the same by either
pub by_count : {X : Type 0} (f : Bool → X) (u : Use) → (length u.places ≤ 1 → (b c : Bool) → f b ≡ f c)
    → f (ends_short u.request.kind u.request.direction) ≡ f (may_end_short u)
by_count {X} f u alike = by u.request.direction (not (is_control u.request.kind)) refl (ltb 1 (length u.places)) refl
  where
    by : (d : Direction) (o : Bool) → not (is_control u.request.kind) ≡ o → (m : Bool) → ltb 1 (length u.places) ≡ m
        → f (ends_short u.request.kind d) ≡ f (comes_in d && (not (is_control u.request.kind) && ltb 1 (length u.places)))
    by Out o eo m em = refl
    by In true eo true em = rw (eo, em)
    by In true eo false em = alike (ltb-false 1 (length u.places) em) _ _
    by In false eo m em = rw eo
