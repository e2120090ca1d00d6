-- "any two results allowed are proved the same", of the scan's two calls and of port power: each contract is an equation.
use Prim.Native.Nat.{ℕ}
use mathlib.Core.Path.{◌≡◌, sym, ◌∙◌}
use Rattle.opening.specs.declared.hub.EhciRootHub.{EhciRootHub}
use Rattle.root_hub.specs.declared.calls.PortPower.{PortPower}
use Rattle.root_hub.specs.declared.calls.ScanReply.{ScanReply}
use Rattle.root_hub.specs.declared.calls.Scanned.{Scanned}
use Rattle.root_hub.specs.Calls.{power_of, start_of, step_of}

-- what a call that is lent the record may answer and leave, as `scan_start` and `scan_step` say it
abbrev Allows : Scanned → ScanReply → EhciRootHub → Type 0
Allows s reply left = (reply ≡ s.reply) × (left ≡ s.hub)

same_left : (s : Scanned) (a b : ScanReply) (g h : EhciRootHub) → Allows s a g → Allows s b h → (a ≡ b) × (g ≡ h)
same_left s a b g h e f = (e.0 ∙ sym f.0, e.1 ∙ sym f.1)

pub same_start : (hub : EhciRootHub) (a b : ScanReply) (g h : EhciRootHub) → Allows (start_of hub) a g → Allows (start_of hub) b h → (a ≡ b) × (g ≡ h)
same_start hub = same_left (start_of hub)

pub same_step : (hub : EhciRootHub) (v : ℕ) (a b : ScanReply) (g h : EhciRootHub) → Allows (step_of hub v) a g → Allows (step_of hub v) b h → (a ≡ b) × (g ≡ h)
same_step hub v = same_left (step_of hub v)

pub same_power : (hub : EhciRootHub) (port v : ℕ) (a b : PortPower) → a ≡ power_of hub port v → b ≡ power_of hub port v → a ≡ b
same_power hub port v a b e f = e ∙ sym f
