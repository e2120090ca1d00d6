-- Over words a call is that of the state that they stand for, but for the refusals by range: outside the rows' lengths or the words' ranges 1, and all as it was.
use Rattle.std.specs.Prelude.{◌≡◌, ℕ, true, false, List, length}
use Rattle.common.specs.declared.answer.Refusal.TheVariants.{InvalidParameter}
use Rattle.descriptor.specs.declared.qtd.QueueTransferDescriptor.{QueueTransferDescriptor}
use Rattle.words.specs.declared.cores.Core.{Core}
use Rattle.words.specs.View.{view}
use Rattle.ehci.specs.declared.call.Call.{Call}
use Rattle.ehci.specs.Door.{apply_of}
use Rattle.ehci.specs.Refusals.{refused_world}
use Rattle.ehci.specs.WordsDoor.{accepts_words, apply_words}

pub record ByRange (c : Core) (ws : List ℕ) (pool : List QueueTransferDescriptor) (heads frames setups : List ℕ) (call : Call) : Type 0 where
  pub accepted : accepts_words c ws (length pool) (length heads) (length frames) (length setups) ≡ true
      → apply_words c ws pool heads frames setups call ≡ apply_of (view c ws) pool heads frames setups call
  pub refused : accepts_words c ws (length pool) (length heads) (length frames) (length setups) ≡ false
      → apply_words c ws pool heads frames setups call ≡ refused_world (view c ws) pool heads frames setups InvalidParameter

abbrev pub RefusalsByRange : Type 0
RefusalsByRange =
    (c : Core) (ws : List ℕ) (pool : List QueueTransferDescriptor) (heads frames setups : List ℕ) (call : Call)
    → ByRange c ws pool heads frames setups call
