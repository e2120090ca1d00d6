-- The returns of the functions that decide what is seen and what is written.
use Prim.Native.Nat.{ℕ, ◌+◌, ◌-◌, ◌≤◌, ◌<◌, ◌^◌}
use mathlib.Core.Path.{◌≡◌, refl, sym, ◌∙◌}
use mathlib.Core.Bool.{Bool, true, false, not}
use mathlib.Core.List.{[]}
use native.Mathlib.Omega.{arith}
use borrow.Author.Tests.{eq-eqb, ne_eqb}
use lib.Dec.{eqb}
use lib.ListN.{length}
use Rattle.common.specs.declared.kinds.EndpointType.{EndpointType}
use Rattle.common.specs.declared.kinds.EndpointType.TheVariants.{Control, Isochronous, Bulk, Interrupt}
use Rattle.token.specs.EhciQtd.{total_bytes}
use Rattle.token.specs.Tokens.{only_if}
use Rattle.pool.specs.declared.chain.Standing.{Standing}
use Rattle.pool.specs.declared.chain.Standing.TheVariants.{Inactive, Erring, Active}
use Rattle.pool.specs.declared.chain.View.{View}
use Rattle.pool.specs.Transfers.{requested_at}
use Rattle.pool.specs.Chains.{first_error, is_active, is_erring, is_retried, is_short, length_of, number_if, or_else, retried_of, see_of, stage_else, stage_of, standing_of, view_of}

pub seen_none : record { stage = Inactive; failed = 0; moved = 0; retried = 0 } ≡ view_of []
unfolding view_of standing_of first_error length_of retried_of
seen_none = refl

pub was_set : (a b : ℕ) → (a ≡ 0 → ⊥) → a ≡ or_else a b
was_set a b h = rw (ne_eqb a 0 h)

pub stage_kept : (a b : Standing) → (a ≡ Inactive → ⊥) → a ≡ stage_else a b
stage_kept Inactive b h = absurd (h refl)
stage_kept Erring b h = refl
stage_kept Active b h = refl

pub stage_first : (a b s : Standing) → a ≡ Inactive → s ≡ b → s ≡ stage_else a b
stage_first a b s z e = rw z e

module _ (w : ℕ) (b : Bool) (e : b ≡ is_active w) where
  pub stage_active : b ≡ true → Active ≡ stage_of w
  stage_active t = rw (sym e ∙ t)

  module _ (b' : Bool) (e' : b' ≡ is_erring w) (f : b ≡ false) where
    pub stage_erring : b' ≡ true → Erring ≡ stage_of w
    stage_erring t = rw (sym e ∙ f, sym e' ∙ t)

    pub stage_clean : b' ≡ false → Inactive ≡ stage_of w
    stage_clean t = rw (sym e ∙ f, sym e' ∙ t)

module _ (a w : ℕ) (z : a ≡ 0) where
  pub failed_here : (b : Bool) → b ≡ is_erring w → b ≡ true → w ≡ or_else a (number_if (is_erring w) w 0)
  failed_here b e t = rw (eq-eqb a 0 z, sym e ∙ t)

  pub failed_not : (b : Bool) → b ≡ is_erring w → b ≡ false → 0 ≡ or_else a (number_if (is_erring w) w 0)
  failed_not b e t = rw (eq-eqb a 0 z, sym e ∙ t)

module _ (w : ℕ) (b : Bool) (e : b ≡ is_retried w) where
  pub retried_one : b ≡ true → 1 ≡ number_if (is_retried w) 1 0
  retried_one t = rw (sym e ∙ t)

  pub retried_not : b ≡ false → 0 ≡ number_if (is_retried w) 1 0
  retried_not t = rw (sym e ∙ t)

pub retried_few : (w : ℕ) → number_if (is_retried w) 1 0 ≤ 1
retried_few w = by (is_retried w)
  where
    by : (b : Bool) → number_if b 1 0 ≤ 1
    by true = omega arith
    by false = omega arith

-- "inactive without error and has bytes left"
module _ (w : ℕ) (b : Bool) (e : b ≡ is_active w) where
  pub short_active : b ≡ true → false ≡ is_short w
  short_active t = rw (sym e ∙ t)

  module _ (b' : Bool) (t : b ≡ false) (e' : b' ≡ is_erring w) where
    pub short_erring : b' ≡ true → false ≡ is_short w
    short_erring t' = rw (sym e ∙ t, sym e' ∙ t')

    pub short_left : (n : ℕ) → b' ≡ false → n ≡ total_bytes w → not (eqb n 0) ≡ is_short w
    short_left n t' en = rw (sym e ∙ t, sym e' ∙ t', en)

pub requested_lt : (kind : EndpointType) (length limit k : ℕ) → length < 2 ^ 32 → limit ≤ 16384 → requested_at kind length limit k < 2 ^ 32
unfolding requested_at
requested_lt Control length limit k h h' = go (eqb k 1)
  where
    go : (b : Bool) → only_if b length < 2 ^ 32
    go true = h
    go false = omega arith
requested_lt Isochronous length limit k h h' = omega (arith, h')
requested_lt Bulk length limit k h h' = omega (arith, h')
requested_lt Interrupt length limit k h h' = omega (arith, h')

pub see_made : (u : View) (s : Standing) (asked requested w f r m : ℕ) → asked ≡ requested → s ≡ stage_else u.stage (stage_of w)
    → f ≡ or_else u.failed (number_if (is_erring w) w 0) → r ≡ asked - total_bytes w
    → m ≡ number_if (is_retried w) 1 0 → record { stage = s; failed = f; moved = u.moved + r; retried = u.retried + m } ≡ see_of u requested w
unfolding view_of standing_of first_error length_of retried_of
see_made u s asked requested w f r m ea es ef er em =
    let sum : u.moved + r ≡ u.moved + ((requested - total_bytes w) + 0) = omega (arith, ea, er) in
    let count : u.retried + m ≡ u.retried + (number_if (is_retried w) 1 0 + 0) = omega (arith, em) in
    rw (es, ef, sum, count)

-- the list's end, and the place to come
