-- 000's traces of a port, as the scan makes them: a connect, a disconnect, a device that is not of high speed.
use Rattle.std.specs.Prelude.{ℕ, List, [], ◌∷◌, replicate, None, Option, Some}
use Rattle.register.specs.Writes.{write_of, list_of}
use Rattle.register.specs.declared.writes.Write.{Write}
use Rattle.opening.specs.declared.hub.EhciRootHub.{EhciRootHub}
use Rattle.root_hub.specs.declared.ports.PortEvent.TheVariants.{Connected, Disconnected}
use Rattle.root_hub.specs.declared.ports.Speed.TheVariants.{High}
use Rattle.root_hub.specs.declared.calls.Scanned.{Scanned}
use Rattle.root_hub.specs.Calls.{start_of, step_of}
use Rattle.root_hub.specs.declared.ports.PortEvent.{PortEvent}

-- what is seen of an answer, and the states of the ports after it
pub record Seen : Type 0 where
  pub event : Option PortEvent
  pub writes : List Write
  pub wait : ℕ
  pub read : Option ℕ
  pub states : List ℕ

abbrev pub seen : Scanned → Seen
seen s =
    record {
      event = s.reply.event;
      writes = list_of s.reply.writes;
      wait = s.reply.wait;
      read = s.reply.read;
      states = s.hub.states;
    }

abbrev pub seen_by : EhciRootHub → List ℕ → List Seen
seen_by h [] = []
seen_by h (v ∷ vs) = seen (step_of h v) ∷ seen_by (step_of h v).hub vs

-- a record of one port in a state
abbrev pub one_port : ℕ → EhciRootHub
one_port state = record { ports = 1; states = state ∷ replicate 14 0; port = 0; step = 0 }

abbrev pub row : Option PortEvent → List Write → ℕ → Option ℕ → ℕ → Seen
row event writes wait read state =
    record { event = event; writes = writes; wait = wait; read = read; states = state ∷ replicate 14 0 }

abbrev pub scan : ℕ → List ℕ → List Seen
scan state vs = seen_by (start_of (one_port state)).hub vs

-- `R R W(v|1100 &!2a) wait50 R W(v&!100) wait20 R`
abbrev pub connects : List Seen × List Seen
connects = (
  scan 0 (0x1803 ∷ 0x1803 ∷ 0x1901 ∷ 0x1005 ∷ []),
  row None [] 0 (Some 0x44) 0
      ∷ row None (write_of 0x44 0x1901 ∷ []) 50 (Some 0x44) 0
      ∷ row None (write_of 0x44 0x1801 ∷ []) 20 (Some 0x44) 1
      ∷ row (Some (Connected 1 High)) [] 0 None 2
      ∷ [],
)

-- `R R W(v|2 &!28)`
abbrev pub disconnects : List Seen × List Seen
disconnects = (
  scan 2 (0x1000 ∷ 0x100A ∷ []),
  row None [] 0 (Some 0x44) 2
      ∷ row (Some (Disconnected 1)) (write_of 0x44 0x1002 ∷ []) 0 None 0
      ∷ [],
)

-- `.. R R W v|2000`
abbrev pub is_slow : List Seen × List Seen
is_slow = (
  scan 1 (0x1001 ∷ 0x1401 ∷ 0x1401 ∷ []),
  row None [] 0 (Some 0x44) 1
      ∷ row None [] 0 (Some 0x44) 1
      ∷ row None (write_of 0x44 0x3401 ∷ []) 0 None 1
      ∷ [],
)
