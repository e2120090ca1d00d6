-- The root ports' record as opening makes it: every port Uninit, no scan begun.
use Rattle.std.specs.Prelude.{ℕ, replicate}
use Rattle.opening.specs.declared.hub.EhciRootHub.{EhciRootHub}

unfoldable pub opened_hub : ℕ → EhciRootHub
opened_hub ports = record { ports = ports; states = replicate 15 0; port = 0; step = 0 }
