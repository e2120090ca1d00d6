-- A store: the state and the four rows, by value. Of each row the first places are lent, and the rest stays as it was.
use Rattle.std.specs.Prelude.{ℕ, min, List, ◌++◌, take, drop, replicate, Err, Ok, Result, ⊤}
use Rattle.descriptor.specs.declared.qtd.QueueTransferDescriptor.{QueueTransferDescriptor}
use Rattle.pool.specs.Chains.{blank}
use Rattle.settings.specs.declared.settings.Settings.{Settings}
use Rattle.settings.specs.Settings.{pool_length, heads_length, setups_length}
use Rattle.state.specs.Plain.{Ehci}
use Rattle.ehci.specs.declared.call.Call.{Call}
use Rattle.ehci.specs.Plain.{Reply}
use Rattle.ehci.specs.Door.{Applied, apply_of}
use Rattle.opening.specs.Plain.{Opening}
use Rattle.opening.specs.Opening.{Opened, fresh_state, no_settings, open_of}
use Rattle.store.specs.Plain.{Called, OpenedRows, OpenedStore, Store}
use Rattle.common.specs.declared.answer.Refusal.{Refusal}

-- how much of each row is lent: what the settings say, and never more than there is. The frame list is lent whole
abbrev pub records_lent : Settings → ℕ
records_lent s = min (pool_length s) 257

abbrev pub words_lent : Settings → ℕ
words_lent s = min (heads_length s) 561

abbrev pub bytes_lent : Settings → ℕ
bytes_lent s = min (setups_length s) 256

-- the state that a refused opening gives
abbrev pub blank_state : Ehci
blank_state = fresh_state no_settings

-- before any opening
unfoldable pub blank_store : Store
blank_store =
    record {
      state = blank_state;
      pool = replicate 257 blank;
      heads = replicate 561 0;
      frames = replicate 1024 0;
      setups = replicate 256 0;
    }

abbrev pub owned_rows : Opening → List QueueTransferDescriptor → List ℕ → List ℕ → List ℕ → OpenedRows
owned_rows o pool heads frames setups =
    record { opening = o; pool = pool; heads = heads; frames = frames; setups = setups }

-- the lent parts as opening leaves them, and after each the rest of its row
abbrev pub rows_after : Opened → List QueueTransferDescriptor → List ℕ → List ℕ → ℕ → ℕ → ℕ → OpenedRows
rows_after o pool heads setups d h u =
    owned_rows o.opening (o.pool ++ drop d pool) (o.heads ++ drop h heads) o.frames (o.setups ++ drop u setups)

-- an opening that is lent the first d records, h words, all the entries and the first u bytes
unfoldable pub open_rows :
    Settings → List QueueTransferDescriptor → List ℕ → List ℕ → List ℕ → ℕ → ℕ → ℕ → OpenedRows
open_rows s pool heads frames setups d h u =
    rows_after (open_of s (take d pool) (take h heads) frames (take u setups)) pool heads setups d h u

-- an opening that is accepted
abbrev pub store_after : OpenedRows → Store
store_after o =
    record {
      state = o.opening.state;
      pool = o.pool;
      heads = o.heads;
      frames = o.frames;
      setups = o.setups;
    }

-- a refused opening leaves the store as it was
abbrev pub store_opened : Result ⊤ Refusal → Store → OpenedRows → Store
store_opened (Ok tt) w o = store_after o
store_opened (Err r) w o = w

abbrev pub opened_store : Store → OpenedRows → OpenedStore
opened_store w o =
    record { store = store_opened o.opening.answer w o; hub = o.opening.hub; answer = o.opening.answer }

-- an opening in a store
unfoldable pub open_store : Store → Settings → OpenedStore
open_store w s =
    opened_store w
    (open_rows s w.pool w.heads w.frames w.setups (records_lent s) (words_lent s) (bytes_lent s))

abbrev pub gathered_of : Reply → List QueueTransferDescriptor → List ℕ → List ℕ → List ℕ → Called
gathered_of r pool heads frames setups =
    record {
      store = record { state = r.state; pool = pool; heads = heads; frames = frames; setups = setups };
      answer = r.answer;
      writes = r.writes;
    }

-- the reply; the lent parts as the call leaves them, and after each the rest of its row
abbrev pub called_after : Applied → List QueueTransferDescriptor → List ℕ → List ℕ → ℕ → ℕ → ℕ → Called
called_after a pool heads setups d h u =
    gathered_of a.reply (a.pool ++ drop d pool) (a.heads ++ drop h heads) a.frames (a.setups ++ drop u setups)

-- a call that is lent the first d records, h words, all the entries and the first u bytes
unfoldable pub call_rows :
    Ehci → List QueueTransferDescriptor → List ℕ → List ℕ → List ℕ → ℕ → ℕ → ℕ → Call → Called
call_rows s pool heads frames setups d h u call =
    called_after (apply_of s (take d pool) (take h heads) frames (take u setups) call) pool heads setups d h u

-- a call on a store
unfoldable pub call_store : Store → Call → Called
call_store w call =
    call_rows w.state w.pool w.heads w.frames w.setups
    (records_lent w.state.settings) (words_lent w.state.settings) (bytes_lent w.state.settings) call
