-- A port's state and what a scan reports of it.
use Rattle.std.specs.Prelude.{ℕ, cond, List, [], ◌∷◌, ◌≡◌, eqb, None, Option, Some}
use Rattle.root_hub.specs.declared.ports.PortState.{PortState}
use Rattle.root_hub.specs.declared.ports.PortState.TheVariants.{Uninit, Reseted, Probed}
use Rattle.root_hub.specs.declared.ports.PortEvent.TheVariants.{Connected, Disconnected}
use Rattle.root_hub.specs.declared.ports.Speed.{Speed}
use Rattle.root_hub.specs.declared.ports.Speed.TheVariants.{Low, Full, High}
use Rattle.root_hub.specs.declared.ports.PortEvent.{PortEvent}

-- Uninit 0, Reseted 1, Probed 2
abbrev pub port_state : ℕ → PortState
port_state n = cond (eqb n 0) Uninit (cond (eqb n 1) Reseted Probed)

-- the port that an event is of, 0 where there is none
abbrev pub event_port : Option PortEvent → ℕ
event_port None = 0
event_port (Some (Connected port speed)) = port
event_port (Some (Disconnected port)) = port

-- 0 none, 1 Connected, 2 Disconnected
abbrev pub port_event_number : Option PortEvent → ℕ
port_event_number None = 0
port_event_number (Some (Connected port speed)) = 1
port_event_number (Some (Disconnected port)) = 2

-- as a head's endpoint speed counts them (EHCI 3.6)
abbrev pub speed_number : Speed → ℕ
speed_number Full = 0
speed_number Low = 1
speed_number High = 2

-- the port, and the speed of a device that came
abbrev pub port_event_values : Option PortEvent → List ℕ
port_event_values None = []
port_event_values (Some (Connected port speed)) = port ∷ speed_number speed ∷ []
port_event_values (Some (Disconnected port)) = port ∷ []

-- an event is the one with a number and values
abbrev pub Reports : Option PortEvent → ℕ → List ℕ → Type 0
Reports event number values = (port_event_number event ≡ number) × (port_event_values event ≡ values)
