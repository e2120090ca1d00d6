-- What the test says of where descriptors stand, and of where a number says that they stand.
use Prim.Native.Nat.{ℕ}
use mathlib.Core.Path.{◌≡◌, refl, ◌∙◌}
use mathlib.Core.Bool.{Bool, true, false}
use borrow.Author.Tests.{eqb-true, ne_eqb}
use lib.Dec.{eqb}
use Rattle.pool.specs.declared.chain.Standing.{Standing}
use Rattle.pool.specs.declared.chain.Standing.TheVariants.{Inactive, Erring, Active}
use Rattle.pool.specs.Chains.{is_active, is_erring, number_if, or_else, stage_else, stage_of, standing_numbered, stands_active}

pub waits_active : (s : Standing) → stands_active s ≡ true → s ≡ Active
waits_active Inactive e = cc
waits_active Erring e = cc
waits_active Active e = refl

pub waits_other : (s : Standing) → stands_active s ≡ false → s ≡ Active → ⊥
waits_other Inactive e q = cc
waits_other Erring e q = cc
waits_other Active e q = cc

pub waits_not : (s : Standing) → (s ≡ Active → ⊥) → stands_active s ≡ false
waits_not Inactive n = refl
waits_not Erring n = refl
waits_not Active n = absurd (n refl)

-- of any number, 2 alone stands active
pub numbered_stands : (n : ℕ) → stands_active (standing_numbered n) ≡ eqb n 2
numbered_stands n = by (eqb n 0) refl (eqb n 2) refl
  where
    by : (z : Bool) → eqb n 0 ≡ z → (t : Bool) → eqb n 2 ≡ t → stands_active (standing_numbered n) ≡ eqb n 2
    by true e t q = rw (eqb-true n 0 e)
    by false e true q = rw (e, q)
    by false e false q = rw (e, q)

pub numbered_active : (n : ℕ) → n ≡ 2 → standing_numbered n ≡ Active
numbered_active n e = rw e

pub numbered_other : (n : ℕ) → (n ≡ 2 → ⊥) → standing_numbered n ≡ Active → ⊥
numbered_other n o = waits_other (standing_numbered n) (numbered_stands n ∙ ne_eqb n 2 o)

-- a token more: any number but 0 is kept, else the token says 2, 1 or 0
pub numbered_kept : (n w : ℕ)
    → stage_else (standing_numbered n) (stage_of w) ≡ standing_numbered (or_else n (number_if (is_active w) 2 (number_if (is_erring w) 1 0)))
numbered_kept n w = by (eqb n 0) refl (eqb n 2) refl (is_active w) refl (is_erring w) refl
  where
    by : (z : Bool) → eqb n 0 ≡ z → (t : Bool) → eqb n 2 ≡ t → (a : Bool) → is_active w ≡ a → (r : Bool) → is_erring w ≡ r
        → stage_else (standing_numbered n) (stage_of w) ≡ standing_numbered (or_else n (number_if (is_active w) 2 (number_if (is_erring w) 1 0)))
    by true e t q true ea r er = rw (e, ea)
    by true e t q false ea true er = rw (e, ea, er)
    by true e t q false ea false er = rw (e, ea, er)
    by false e true q a ea r er = rw (e, e, q)
    by false e false q a ea r er = rw (e, e, q)
