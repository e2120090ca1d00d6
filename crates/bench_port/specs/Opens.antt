-- What C sees of opening: the number of its answer, the root hub's record and the rows; and the core with the row of slots.
use Rattle.std.specs.Prelude.{◌≡◌, ℕ, ◌≢◌, List}
use Rattle.common.specs.Answers.{number_of}
use Rattle.descriptor.specs.declared.qtd.QueueTransferDescriptor.{QueueTransferDescriptor}
use Rattle.settings.specs.declared.settings.Settings.{Settings}
use Rattle.opening.specs.declared.hub.EhciRootHub.{EhciRootHub}
use Rattle.opening.specs.declared.open.Opening.{Opening}
use Rattle.opening.specs.Words.{BlankWords, FreshWords, OpenedRows}
use Rattle.bench_port.specs.declared.opens.PortOpened.{PortOpened}

abbrev pub pack_opening : Opening → PortOpened
pack_opening o = record { core = o.core; hub = o.hub; number = number_of o.answer }

pub record SeenOpening : Type 0 where
  pub number : ℕ
  pub hub : EhciRootHub
  pub pool : List QueueTransferDescriptor
  pub heads : List ℕ
  pub frames : List ℕ
  pub setups : List ℕ

abbrev pub beside_opened : PortOpened → List QueueTransferDescriptor → List ℕ → List ℕ → List ℕ → SeenOpening
beside_opened r pool heads frames setups =
    record { number = r.number; hub = r.hub; pool = pool; heads = heads; frames = frames; setups = setups }

abbrev pub seen_opening : OpenedRows → SeenOpening
seen_opening o =
    record {
      number = number_of o.answer;
      hub = o.hub;
      pool = o.pool;
      heads = o.heads;
      frames = o.frames;
      setups = o.setups;
    }

-- 0 leaves words that stand for the fresh state; any other number nothing that a call accepts
pub record OpensPort (s : Settings) (r : PortOpened) (old new : List ℕ) : Type 0 where
  pub accepted : r.number ≡ 0 → FreshWords s r.core new
  pub refused : r.number ≢ 0 → BlankWords r.core old new
