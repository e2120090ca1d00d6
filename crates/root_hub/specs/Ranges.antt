-- The ranges of the ports' record: what every call asks first.
use Rattle.std.specs.Prelude.{ℕ, zero, suc, ◌-◌, Bool, true, ◌&&◌, cond, eqb, leb, ltb, get_or}
use Rattle.common.specs.Tests.{within}
use Rattle.opening.specs.declared.hub.EhciRootHub.{EhciRootHub}
use Rattle.root_hub.specs.declared.scan.Awaited.{Awaited}
use Rattle.root_hub.specs.declared.scan.Awaited.TheVariants.{Status, Gone, Reset, Release, Again, Owner}
use Rattle.root_hub.specs.Scan.{awaited_of}

-- a port's state is one of the three; past the last port it is Uninit
unfoldable pub state_good : ℕ → ℕ → ℕ → Bool
state_good ports k state = cond (ltb k ports) (leb state 2) (eqb state 0)

-- n ports, from place k on
unfoldable pub states_good : ℕ → ℕ → EhciRootHub → Bool
states_good k zero h = true
states_good k (suc n) h = state_good h.ports k (get_or h.states k 0) && states_good (suc k) n h

-- the step that a scan has come to is one of those of its port's state
abbrev pub fits : Awaited → ℕ → Bool
fits Status state = true
fits Gone state = eqb state 2
fits Reset state = eqb state 0
fits Release state = eqb state 0
fits Again state = eqb state 1
fits Owner state = eqb state 1

-- the state of the port that a scan has come to
abbrev pub state_at : EhciRootHub → ℕ
state_at h = get_or h.states (h.port - 1) 0

-- no scan is begun, or it is at one of the ports
unfoldable pub place_good : EhciRootHub → Bool
place_good h =
    cond (eqb h.port 0) (eqb h.step 0)
    (leb h.port h.ports && (within h.step 1 6 && fits (awaited_of h.step) (state_at h)))

unfoldable pub hub_good : EhciRootHub → Bool
hub_good h = within h.ports 1 15 && (states_good 0 15 h && place_good h)
