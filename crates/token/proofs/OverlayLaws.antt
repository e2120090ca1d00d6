-- The overlay's token: the returns of its function, and what EHCI 3.5.3 reads in it.
use Prim.Native.Nat.{ℕ, ◌*◌, ◌^◌}
use mathlib.Core.Path.{◌≡◌, refl, sym, ◌∙◌}
use mathlib.Core.Bool.{Bool, true, false, cond}
use native.Mathlib.Decide.{ℕ_discrete as dec_eq}
use native.Mathlib.Omega.{arith}
use borrow.Author.Tests.{ne_eqb}
use Rattle.common.specs.Kinds.{is_control}
use Rattle.common.specs.declared.kinds.EndpointType.{EndpointType}
use Rattle.token.specs.EhciQtd.{data_toggle}
use Rattle.token.specs.Overlay.{kept_toggle, overlay_token}
use Rattle.token.specs.Tokens.{only_if}

module _ (kind : EndpointType) (toggle c : Bool) (ec : c ≡ is_control kind) where
  pub overlay_none : c ≡ true → 0 ≡ overlay_token kind toggle
  unfolding overlay_token
  overlay_none t = rw (sym ec ∙ t)

  pub overlay_set : c ≡ false → toggle ≡ true → 2 ^ 31 ≡ overlay_token kind toggle
  unfolding overlay_token
  overlay_set t g = rw (sym ec ∙ t, g)

  pub overlay_clear : c ≡ false → toggle ≡ false → 0 ≡ overlay_token kind toggle
  unfolding overlay_token
  overlay_clear t g = rw (sym ec ∙ t, g)

-- the toggle is in bit 31, and nothing is in any other bit
pub overlay_toggle : (kind : EndpointType) (toggle : Bool) → data_toggle (overlay_token kind toggle) ≡ cond (is_control kind) 0 (only_if toggle 1)
unfolding overlay_token
overlay_toggle kind toggle = by (is_control kind) toggle
  where
    by : (c t : Bool) → data_toggle (cond c 0 (only_if t (2 ^ 31))) ≡ cond c 0 (only_if t 1)
    by true t = refl
    by false true = refl
    by false false = refl

pub overlay_alone : (kind : EndpointType) (toggle : Bool) → overlay_token kind toggle ≡ 2 ^ 31 * data_toggle (overlay_token kind toggle)
unfolding overlay_token
overlay_alone kind toggle = by (is_control kind) toggle
  where
    by : (c t : Bool) → cond c 0 (only_if t (2 ^ 31)) ≡ 2 ^ 31 * data_toggle (cond c 0 (only_if t (2 ^ 31)))
    by true t = refl
    by false true = refl
    by false false = refl

-- what is kept is the bit
pub kept_flag : (token : ℕ) → only_if (kept_toggle token) 1 ≡ data_toggle token
kept_flag token = by (dec_eq (data_toggle token) 0)
  where
    by : Dec (data_toggle token ≡ 0) → only_if (kept_toggle token) 1 ≡ data_toggle token
    by (yes z) = rw z
    by (no ne) = rw (ne_eqb (data_toggle token) 0 ne) (omega (arith, ne))
