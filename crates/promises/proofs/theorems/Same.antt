-- "any two results allowed are proved the same": a call's contract is one equation.
use mathlib.Core.List.{List}
use mathlib.Core.Path.{◌≡◌, sym, ◌∙◌}
use Prim.Native.Nat.{ℕ}
use Rattle.descriptor.specs.declared.qtd.QueueTransferDescriptor.{QueueTransferDescriptor}
use Rattle.state.specs.Plain.{Ehci}
use Rattle.ehci.specs.declared.call.Call.{Call}
use Rattle.ehci.specs.Door.{Applied, apply_of}

-- two results, with every lent row at exit, that `apply` may have on the same world and call
pub same_result : (s : Ehci) (pool : List QueueTransferDescriptor) (heads frames setups : List ℕ) (call : Call) (a b : Applied)
    → a ≡ apply_of s pool heads frames setups call → b ≡ apply_of s pool heads frames setups call → a ≡ b
same_result s pool heads frames setups call a b e f = e ∙ sym f
