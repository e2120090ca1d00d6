-- Document 01, "Ports and bring-up": what the reading of one step of a scan does.
use Rattle.std.specs.Prelude.{ℕ, ◌+◌, Bool, true, false, cond, eqb, ltb, None, Option, Some}
use Rattle.register.specs.Bits.{with_bits, without_bits}
use Rattle.register.specs.EhciRegisters.{portsc_of}
use Rattle.register.specs.Writes.{no_writes, and_then}
use Rattle.register.specs.declared.writes.Writes.{Writes}
use Rattle.token.specs.EhciPortsc.{current_connect, port_enabled}
use Rattle.token.specs.Ports.{is_set}
use Rattle.root_hub.specs.declared.ports.PortEvent.TheVariants.{Connected, Disconnected}
use Rattle.root_hub.specs.declared.ports.PortState.{PortState}
use Rattle.root_hub.specs.declared.ports.PortState.TheVariants.{Uninit, Reseted, Probed}
use Rattle.root_hub.specs.declared.ports.Speed.TheVariants.{High}
use Rattle.root_hub.specs.declared.scan.Awaited.{Awaited}
use Rattle.root_hub.specs.declared.scan.Awaited.TheVariants.{Status, Gone, Reset, Release, Again, Owner}
use Rattle.root_hub.specs.declared.scan.Place.{Place}
use Rattle.root_hub.specs.declared.scan.Turned.{Turned}
use Rattle.root_hub.specs.Ports.{port_state}

-- ---- the steps of a port, numbered 1 to 6

abbrev pub awaited_of : ℕ → Awaited
awaited_of n =
    cond (eqb n 1) Status
    (cond (eqb n 2) Gone
    (cond (eqb n 3) Reset
    (cond (eqb n 4) Release
    (cond (eqb n 5) Again
    Owner))))

-- ---- what a reading does

-- nothing, and the port is done with
abbrev pub onward : ℕ → Turned
onward state = record { state = state; step = 0; change = None; event = None; wait = 0 }

-- nothing yet
abbrev pub await : ℕ → ℕ → Turned
await state step = record { state = state; step = step; change = None; event = None; wait = 0 }

-- "Probed, not connected: .."; "Uninit, connected: .."; Reseted and connected is read again;
-- "Any other Probed or unconnected port: nothing."
abbrev pub status_turn : PortState → ℕ → Bool → Turned
status_turn Uninit state true = await state 3
status_turn Uninit state false = onward state
status_turn Reseted state true = await state 5
status_turn Reseted state false = onward state
status_turn Probed state true = onward state
status_turn Probed state false = await state 2

-- "Uninit, write (v or 2) without 0x28, Disconnected"
abbrev pub gone_turn : ℕ → ℕ → Turned
gone_turn port v =
    record {
      state = 0;
      step = 0;
      change = Some (without_bits (with_bits v 2) 0x28);
      event = Some (Disconnected port);
      wait = 0;
    }

-- "write (v or 0x1100) without 0x2A, wait 50 ms"
abbrev pub reset_turn : ℕ → ℕ → Turned
reset_turn state v =
    record {
      state = state;
      step = 4;
      change = Some (without_bits (with_bits v 0x1100) 0x2A);
      event = None;
      wait = 50;
    }

-- "write v without 0x100, wait 20 ms; Reseted"
abbrev pub release_turn : ℕ → Turned
release_turn v =
    record { state = 1; step = 5; change = Some (without_bits v 0x100); event = None; wait = 20 }

-- "connected and enabled gives Probed and Connected, High; connected and not enabled writes v or 0x2000"
abbrev pub again_turn : ℕ → ℕ → Bool → Bool → Turned
again_turn state port true true =
    record { state = 2; step = 0; change = None; event = Some (Connected port High); wait = 0 }
again_turn state port true false = await state 6
again_turn state port false enabled = onward state

abbrev pub owner_turn : ℕ → ℕ → Turned
owner_turn state v =
    record { state = state; step = 0; change = Some (with_bits v 0x2000); event = None; wait = 0 }

abbrev pub connected : ℕ → Bool
connected v = is_set (current_connect v)

abbrev pub enabled : ℕ → Bool
enabled v = is_set (port_enabled v)

abbrev pub turn_of : Awaited → ℕ → ℕ → ℕ → Turned
turn_of Status state port v = status_turn (port_state state) state (connected v)
turn_of Gone state port v = gone_turn port v
turn_of Reset state port v = reset_turn state v
turn_of Release state port v = release_turn v
turn_of Again state port v = again_turn state port (connected v) (enabled v)
turn_of Owner state port v = owner_turn state v

-- ---- where the scan goes: on at the port, to the next ("Ports ascend"), or to its end

abbrev pub at : ℕ → ℕ → Place
at port step = record { port = port; step = step; read = Some (portsc_of port) }

abbrev pub no_place : Place
no_place = record { port = 0; step = 0; read = None }

unfoldable pub place_after : ℕ → ℕ → ℕ → Place
place_after port ports step =
    cond (eqb step 0) (cond (ltb port ports) (at (port + 1) 1) no_place) (at port step)

-- the port's own register, or none
abbrev pub port_writes : ℕ → Option ℕ → Writes
port_writes port None = no_writes
port_writes port (Some v) = and_then no_writes (portsc_of port) v
