-- Document 01: "the rest are refusals and leave all as before", of the calls on the ports' record.
use Rattle.std.specs.Prelude.{ℕ, ◌≡◌, Err}
use Rattle.common.specs.declared.answer.Refusal.{Refusal}
use Rattle.opening.specs.declared.hub.EhciRootHub.{EhciRootHub}
use Rattle.root_hub.specs.Calls.{power_of, refused_power, refused_scan, start_of, step_of}

-- whatever the record and the reading: where a call is refused, the record is as it was, nothing is written and nothing said
abbrev pub RefusalsKeep : Type 0
RefusalsKeep =
    ((h : EhciRootHub) (r : Refusal) → (start_of h).reply.answer ≡ Err r → start_of h ≡ refused_scan h r)
    × ((h : EhciRootHub) (v : ℕ) (r : Refusal) → (step_of h v).reply.answer ≡ Err r → step_of h v ≡ refused_scan h r)
    × ((h : EhciRootHub) (port v : ℕ) (r : Refusal) → (power_of h port v).answer ≡ Err r → power_of h port v ≡ refused_power r)
