-- Document 01, "Ports and bring-up": the calls on the ports' record.
use Rattle.std.specs.Prelude.{ℕ, ◌-◌, not, List, [], ◌∷◌, eqb, set, Err, None, Ok, Some}
use Rattle.register.specs.Bits.{with_bits, without_bits}
use Rattle.register.specs.EhciRegisters.{portsc_of}
use Rattle.register.specs.Writes.{no_writes, and_then}
use Rattle.common.specs.Tests.{within}
use Rattle.common.specs.Answers.{first, settle}
use Rattle.common.specs.declared.answer.Refusal.{Refusal}
use Rattle.common.specs.declared.answer.Refusal.TheVariants.{InvalidParameter}
use Rattle.opening.specs.declared.hub.EhciRootHub.{EhciRootHub}
use Rattle.root_hub.specs.declared.scan.Place.{Place}
use Rattle.root_hub.specs.declared.scan.Turned.{Turned}
use Rattle.root_hub.specs.declared.calls.Scanned.{Scanned}
use Rattle.root_hub.specs.declared.calls.PortPower.{PortPower}
use Rattle.root_hub.specs.Scan.{awaited_of, turn_of, place_after, port_writes}
use Rattle.root_hub.specs.Ranges.{state_at, hub_good}

-- the record with other states and another place
unfoldable pub with_scan : EhciRootHub → List ℕ → ℕ → ℕ → EhciRootHub
with_scan h states port step = record { ports = h.ports; states = states; port = port; step = step }

abbrev pub refused_scan : EhciRootHub → Refusal → Scanned
refused_scan h r =
    record {
      hub = h;
      reply = record { answer = Err r; event = None; writes = no_writes; read = None; wait = 0 };
    }

-- "Scan and bring-up each begin by a start call, which starts one already begun over"
unfoldable pub start_of : EhciRootHub → Scanned
start_of h =
    settle (first ((not (hub_good h), InvalidParameter) ∷ [])) (refused_scan h)
    (record {
      hub = with_scan h h.states 1 1;
      reply = record { answer = Ok tt; event = None; writes = no_writes; read = Some (portsc_of 1); wait = 0 };
    })

-- what a reading does to the port, and where the scan goes
unfoldable pub scanned_of : EhciRootHub → Turned → Place → Scanned
scanned_of h t p =
    record {
      hub = with_scan h (set h.states (h.port - 1) t.state) p.port p.step;
      reply = record { answer = Ok tt; event = t.event; writes = port_writes h.port t.change; read = p.read; wait = t.wait };
    }

abbrev pub turn_at : EhciRootHub → ℕ → Turned
turn_at h v = turn_of (awaited_of h.step) (state_at h) h.port v

-- a step with none begun: 1
unfoldable pub step_of : EhciRootHub → ℕ → Scanned
step_of h v =
    settle (first ((not (hub_good h), InvalidParameter) ∷ (eqb h.step 0, InvalidParameter) ∷ [])) (refused_scan h)
    (scanned_of h (turn_at h v) (place_after h.port h.ports (turn_at h v).step))

-- ---- port power

abbrev pub refused_power : Refusal → PortPower
refused_power r = record { answer = Err r; writes = no_writes; wait = 0 }

-- 000's `init_ports` for one port: (v or 0x1000) without 0x2A, 20 ms
unfoldable pub power_of : EhciRootHub → ℕ → ℕ → PortPower
power_of h port v =
    settle
    (first ((not (hub_good h), InvalidParameter) ∷ (not (within port 1 h.ports), InvalidParameter) ∷ []))
    refused_power
    (record {
      answer = Ok tt;
      writes = and_then no_writes (portsc_of port) (without_bits (with_bits v 0x1000) 0x2A);
      wait = 20;
    })
