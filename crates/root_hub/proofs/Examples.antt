-- The traces of a port hold, every row.
use Rattle.std.specs.Prelude.{None, Ok, Option, Some}
use Prim.Native.Nat.{ℕ}
use mathlib.Core.Bool.{true}
use mathlib.Core.List.{List, [], ◌∷◌}
use mathlib.Core.Path.{◌≡◌, refl, ap, ◌∙◌}
use lib.ListN.{replicate}
use Rattle.register.specs.Bits.{with_bits, without_bits}
use Rattle.register.specs.Writes.{and_then, no_writes, packed, write_of}
use Rattle.register.specs.declared.writes.Write.{Write}
use Rattle.opening.specs.declared.hub.EhciRootHub.{EhciRootHub}
use Rattle.root_hub.specs.declared.ports.PortEvent.TheVariants.{Connected, Disconnected}
use Rattle.root_hub.specs.declared.ports.Speed.TheVariants.{High}
use Rattle.root_hub.specs.declared.calls.Scanned.{Scanned}
use Rattle.root_hub.specs.Scan.{place_after}
use Rattle.root_hub.specs.Ranges.{hub_good, place_good, state_good, states_good}
use Rattle.root_hub.specs.Calls.{scanned_of, start_of, step_of, with_scan}
use Rattle.root_hub.specs.Examples.{Seen, seen, seen_by, one_port, connects, disconnects, is_slow}
use Rattle.root_hub.specs.declared.ports.PortEvent.{PortEvent}

-- one port in a state, a scan at a place of it
at : ℕ → ℕ → ℕ → EhciRootHub
at state port step = record { ports = 1; states = state ∷ replicate 14 0; port = port; step = step }

gives : EhciRootHub → Option PortEvent → List Write → ℕ → Option ℕ → Scanned
gives h event writes wait read =
    record { hub = h; reply = record { answer = Ok tt; event = event; writes = packed writes; read = read; wait = wait } }

started : (state : ℕ) → hub_good (one_port state) ≡ true → (start_of (one_port state)).hub ≡ at state 1 1
unfolding start_of with_scan at
started state e = rw e

follows : (h : EhciRootHub) (v : ℕ) (vs : List ℕ) (s : Scanned) (l : List Seen) → step_of h v ≡ s → seen_by s.hub vs ≡ l → seen_by h (v ∷ vs) ≡ seen s ∷ l
follows h v vs s l e el = ap (λ (x : Scanned). seen x ∷ seen_by x.hub vs) e ∙ ap (λ (m : List Seen). seen s ∷ m) el

good_0 : hub_good (one_port 0) ≡ true
unfolding hub_good states_good state_good place_good
good_0 = refl

good_1 : hub_good (one_port 1) ≡ true
unfolding hub_good states_good state_good place_good
good_1 = refl

good_2 : hub_good (one_port 2) ≡ true
unfolding hub_good states_good state_good place_good
good_2 = refl

-- ---- a connect

seen_connected : step_of (at 0 1 1) 0x1803 ≡ gives (at 0 1 3) None [] 0 (Some 0x44)
unfolding step_of scanned_of with_scan place_after hub_good states_good state_good place_good no_writes at gives
seen_connected = refl

reset_written : step_of (at 0 1 3) 0x1803 ≡ gives (at 0 1 4) None (write_of 0x44 0x1901 ∷ []) 50 (Some 0x44)
unfolding step_of scanned_of with_scan place_after hub_good states_good state_good place_good no_writes and_then with_bits without_bits at gives
reset_written = refl

reset_released : step_of (at 0 1 4) 0x1901 ≡ gives (at 1 1 5) None (write_of 0x44 0x1801 ∷ []) 20 (Some 0x44)
unfolding step_of scanned_of with_scan place_after hub_good states_good state_good place_good no_writes and_then with_bits without_bits at gives
reset_released = refl

seen_enabled : step_of (at 1 1 5) 0x1005 ≡ gives (at 2 0 0) (Some (Connected 1 High)) [] 0 None
unfolding step_of scanned_of with_scan place_after hub_good states_good state_good place_good no_writes at gives
seen_enabled = refl

pub connects_hold : connects.0 ≡ connects.1
unfolding at gives
connects_hold =
    ap (λ (h : EhciRootHub). seen_by h (0x1803 ∷ 0x1803 ∷ 0x1901 ∷ 0x1005 ∷ [])) (started 0 good_0)
    ∙ follows (at 0 1 1) 0x1803 (0x1803 ∷ 0x1901 ∷ 0x1005 ∷ []) (gives (at 0 1 3) None [] 0 (Some 0x44)) _ seen_connected
    (follows (at 0 1 3) 0x1803 (0x1901 ∷ 0x1005 ∷ []) (gives (at 0 1 4) None (write_of 0x44 0x1901 ∷ []) 50 (Some 0x44)) _ reset_written
    (follows (at 0 1 4) 0x1901 (0x1005 ∷ []) (gives (at 1 1 5) None (write_of 0x44 0x1801 ∷ []) 20 (Some 0x44)) _ reset_released
    (follows (at 1 1 5) 0x1005 [] (gives (at 2 0 0) (Some (Connected 1 High)) [] 0 None) _ seen_enabled refl)))

-- ---- a disconnect

seen_gone : step_of (at 2 1 1) 0x1000 ≡ gives (at 2 1 2) None [] 0 (Some 0x44)
unfolding step_of scanned_of with_scan place_after hub_good states_good state_good place_good no_writes at gives
seen_gone = refl

gone_written : step_of (at 2 1 2) 0x100A ≡ gives (at 0 0 0) (Some (Disconnected 1)) (write_of 0x44 0x1002 ∷ []) 0 None
unfolding step_of scanned_of with_scan place_after hub_good states_good state_good place_good no_writes and_then with_bits without_bits at gives
gone_written = refl

pub disconnects_hold : disconnects.0 ≡ disconnects.1
unfolding at gives
disconnects_hold =
    ap (λ (h : EhciRootHub). seen_by h (0x1000 ∷ 0x100A ∷ [])) (started 2 good_2)
    ∙ follows (at 2 1 1) 0x1000 (0x100A ∷ []) (gives (at 2 1 2) None [] 0 (Some 0x44)) _ seen_gone
    (follows (at 2 1 2) 0x100A [] (gives (at 0 0 0) (Some (Disconnected 1)) (write_of 0x44 0x1002 ∷ []) 0 None) _ gone_written refl)

-- ---- a device that is not of high speed

seen_reseted : step_of (at 1 1 1) 0x1001 ≡ gives (at 1 1 5) None [] 0 (Some 0x44)
unfolding step_of scanned_of with_scan place_after hub_good states_good state_good place_good no_writes at gives
seen_reseted = refl

seen_slow : step_of (at 1 1 5) 0x1401 ≡ gives (at 1 1 6) None [] 0 (Some 0x44)
unfolding step_of scanned_of with_scan place_after hub_good states_good state_good place_good no_writes at gives
seen_slow = refl

owner_written : step_of (at 1 1 6) 0x1401 ≡ gives (at 1 0 0) None (write_of 0x44 0x3401 ∷ []) 0 None
unfolding step_of scanned_of with_scan place_after hub_good states_good state_good place_good no_writes and_then with_bits without_bits at gives
owner_written = refl

pub slow_holds : is_slow.0 ≡ is_slow.1
unfolding at gives
slow_holds =
    ap (λ (h : EhciRootHub). seen_by h (0x1001 ∷ 0x1401 ∷ 0x1401 ∷ [])) (started 1 good_1)
    ∙ follows (at 1 1 1) 0x1001 (0x1401 ∷ 0x1401 ∷ []) (gives (at 1 1 5) None [] 0 (Some 0x44)) _ seen_reseted
    (follows (at 1 1 5) 0x1401 (0x1401 ∷ []) (gives (at 1 1 6) None [] 0 (Some 0x44)) _ seen_slow
    (follows (at 1 1 6) 0x1401 [] (gives (at 1 0 0) None (write_of 0x44 0x3401 ∷ []) 0 None) _ owner_written refl))
