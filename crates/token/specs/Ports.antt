-- A port's status as document 01 reads it: connected, enabled, and both: a high-speed device that is ready.
use Rattle.std.specs.Prelude.{ℕ, Bool, not, ◌&&◌, eqb}
use Rattle.token.specs.EhciPortsc.{current_connect, port_enabled}

abbrev pub is_set : ℕ → Bool
is_set bit = not (eqb bit 0)

abbrev pub high_speed_ready : ℕ → Bool
high_speed_ready w = is_set (current_connect w) && is_set (port_enabled w)
