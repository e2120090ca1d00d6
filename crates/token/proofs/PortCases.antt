-- The returns of `is_high_speed_device_ready`.
use mathlib.Core.Path.{◌≡◌, sym, ◌∙◌}
use mathlib.Core.Bool.{Bool, true, false, ◌&&◌}

pub ready : (x a r b : Bool) → x ≡ a → x ≡ true → r ≡ b → r ≡ (a && b)
ready x a r b e t f = f ∙ rw (sym e ∙ t)

pub not_connected : (x a b : Bool) → x ≡ a → x ≡ false → false ≡ (a && b)
not_connected x a b e t = rw (sym e ∙ t)
