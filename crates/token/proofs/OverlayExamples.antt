-- The overlay's token, worked out by hand.
use mathlib.Core.Path.{◌≡◌, refl}
use mathlib.Core.Bool.{true, false}
use Rattle.common.specs.declared.kinds.EndpointType.TheVariants.{Bulk, Control, Interrupt}
use Rattle.token.specs.Overlay.{kept_toggle, overlay_token}

-- bit 31, whatever the others are
kept : (kept_toggle 0x80000D00 ≡ true) × (kept_toggle 0xFFFFFFFF ≡ true) × (kept_toggle 0x7FFFFFFF ≡ false) × (kept_toggle 0 ≡ false)
kept = (refl, refl, refl, refl)

written : (overlay_token Bulk true ≡ 0x80000000) × (overlay_token Interrupt true ≡ 0x80000000) × (overlay_token Bulk false ≡ 0) × (overlay_token Control true ≡ 0)
unfolding overlay_token
written = (refl, refl, refl, refl)
