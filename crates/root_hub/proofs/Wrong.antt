-- A scan that reports a device on port 1 only breaks 01's table, and a whole scan of two fresh ports shows it.
use Rattle.std.specs.Prelude.{None}
use Prim.Native.Nat.{ℕ}
use mathlib.Core.Bool.{Bool, cond, not, ◌&&◌}
use mathlib.Core.List.{List, [], ◌∷◌}
use mathlib.Core.Path.{◌≡◌, refl, ap, ◌∙◌}
use native.Mathlib.Omega.{arith}
use lib.Dec.{eqb}
use lib.ListN.{length, replicate}
use Rattle.opening.specs.declared.hub.EhciRootHub.{EhciRootHub}
use Rattle.root_hub.specs.declared.calls.Scanned.{Scanned}
use Rattle.root_hub.specs.Calls.{power_of, scanned_of, start_of, step_of, with_scan}
use Rattle.root_hub.specs.Ports.{port_event_number}
use Rattle.root_hub.specs.Ranges.{hub_good, place_good, state_good, states_good}
use Rattle.root_hub.specs.Scan.{place_after}
use Rattle.root_hub.specs.Runs.{Right}
use Rattle.root_hub.specs.Stories.{Event, Readings, WholeScan, all_taken, all_told, reports}
use Rattle.root_hub.specs.Table.{HubMachine, StepsByTable}

-- the port keeps its state and nothing is said
hushed : EhciRootHub → Scanned → Scanned
hushed h s =
    record {
      hub = record { ports = h.ports; states = h.states; port = s.hub.port; step = s.hub.step };
      reply = record { answer = s.reply.answer; event = None; writes = s.reply.writes; read = s.reply.read; wait = s.reply.wait };
    }

-- Connected, of a port that is not the first
elsewhere : EhciRootHub → Scanned → Bool
elsewhere h s = eqb (port_event_number s.reply.event) 1 && not (eqb h.port 1)

pub first_port_only : HubMachine
first_port_only =
    record { start = start_of; step = λ h v. cond (elsewhere h (step_of h v)) (hushed h (step_of h v)) (step_of h v); power = power_of }

-- a scan that has come to its second port, which is Reseted and is read again
second : EhciRootHub
second = record { ports = 2; states = 0 ∷ 1 ∷ replicate 13 0; port = 2; step = 5 }

second_right : Right second
unfolding second hub_good states_good state_good place_good
second_right = record { good = refl; sized = refl }

nothing_said : port_event_number (first_port_only.step second 5).reply.event ≡ 0
unfolding first_port_only elsewhere hushed second step_of scanned_of with_scan place_after hub_good states_good state_good place_good
nothing_said = refl

pub first_port_only_lem : StepsByTable first_port_only → ⊥
unfolding second
first_port_only_lem steps =
    let brings = (steps second 5 second_right (λ z. omega (arith, z))).1.1.1.1.1.1.1.1.1.1.1.0 (refl, refl, refl) in
    omega (arith, brings.reports.0, nothing_said)

-- two ports as opening makes them, with a device of high speed at each
fresh : EhciRootHub
fresh = record { ports = 2; states = replicate 15 0; port = 0; step = 0 }

fresh_right : Right fresh
unfolding fresh hub_good states_good state_good place_good
fresh_right = record { good = refl; sized = refl }

abbrev plugged : ℕ → Readings
plugged port = record { status = 5; loss = 5; reset = 5; release = 5; again = 5; owner = 5 }

one_said : length (reports first_port_only (first_port_only.start fresh).hub (all_taken plugged fresh.states 1 fresh.ports)) ≡ 1
unfolding first_port_only elsewhere hushed fresh start_of step_of scanned_of with_scan place_after hub_good states_good state_good place_good
one_said = refl

two_said : all_told plugged fresh.states 1 fresh.ports ≡ (1, 1 ∷ 2 ∷ []) ∷ (1, 2 ∷ 2 ∷ []) ∷ []
unfolding fresh
two_said = refl

pub second_port_unheard : WholeScan first_port_only → ⊥
second_port_unheard whole =
    let same = ap (λ (es : List Event). length es) ((whole fresh plugged fresh_right).0 ∙ two_said) in
    omega (arith, same, one_said)
