-- A log replayed: what one record does to the controller that is kept, and the block that is shown of it.
use Rattle.std.specs.Prelude.{ℕ, Bool, true, false, Option, Some, None, List, [], ◌∷◌, ◌++◌, get_or, length, Err, Ok, Result, ⊤}
use Rattle.call_log.specs.Block.{block_of}
use Rattle.call_log.specs.CallLine.{answered_line, scan_line}
use Rattle.call_log.specs.Records.{entry_of}
use Rattle.call_log.specs.declared.block.Rows.{Rows}
use Rattle.call_log.specs.declared.record.Entry.{Entry}
use Rattle.call_log.specs.declared.record.Entry.TheVariants as E
use Rattle.ehci.specs.declared.reply.Answered.TheVariants as R
use Rattle.ehci.specs.declared.reply.Given.TheVariants as G
use Rattle.opening.specs.Hub.{opened_hub}
use Rattle.register.specs.Writes.{no_writes}
use Rattle.register.specs.declared.writes.Writes.{Writes}
use Rattle.root_hub.specs.Calls.{power_of, start_of, step_of}
use Rattle.root_hub.specs.declared.calls.PortPower.{PortPower}
use Rattle.root_hub.specs.declared.calls.Scanned.{Scanned}
use Rattle.root_hub.specs.declared.ports.PortEvent.TheVariants as P
use Rattle.text.specs.Text.{decimal}
use Rattle.store.specs.Stores.{blank_store, call_store, open_store}
use Rattle.store.specs.Plain.{Called, OpenedStore}
use Rattle.replayer.specs.Plain.{Keeper, Turned}
use Rattle.common.specs.declared.answer.Refusal.{Refusal}

-- rows zero at the start, and no controller opened
unfoldable pub fresh_keeper : Keeper
fresh_keeper = record { store = blank_store; hub = opened_hub 0; opened = false }

unfoldable pub rows_of : Keeper → Rows
rows_of k =
    record {
      pool = k.store.pool;
      heads = k.store.heads;
      frames = k.store.frames;
      setups = k.store.setups;
      ports = k.hub.states;
    }

-- what a record did: what is kept then, the first line of its block, whether it opened a controller, its register writes
pub record Effect : Type 0 where
  pub keeper : Keeper
  pub first : List ℕ
  pub opening : Bool
  pub writes : Writes

-- a refused opening leaves the earlier controller as it was; an accepted one replaces it
abbrev pub opened_as : Result ⊤ Refusal → Keeper → ℕ → ℕ → OpenedStore → Effect
opened_as (Ok tt) k n number o =
    record {
      keeper = record { store = o.store; hub = o.hub; opened = true };
      first = answered_line n number (Ok (R.Done G.Nothing));
      opening = true;
      writes = no_writes;
    }
opened_as (Err refusal) k n number o =
    record { keeper = k; first = answered_line n number (Err refusal); opening = false; writes = no_writes }

unfoldable pub open_effect : Keeper → ℕ → ℕ → OpenedStore → Effect
open_effect k n number o = opened_as o.answer k n number o

-- a call on the controller
unfoldable pub call_effect : Keeper → ℕ → ℕ → Called → Effect
call_effect k n number c =
    record {
      keeper = record { store = c.store; hub = k.hub; opened = k.opened };
      first = answered_line n number c.answer;
      opening = false;
      writes = c.writes;
    }

-- a scan's start or step
unfoldable pub scan_effect : Keeper → ℕ → ℕ → Scanned → Effect
scan_effect k n number s =
    record {
      keeper = record { store = k.store; hub = s.hub; opened = k.opened };
      first = scan_line n number s.reply.answer s.reply.read s.reply.wait s.reply.event;
      opening = false;
      writes = s.reply.writes;
    }

-- port power reads nothing next and has no event
unfoldable pub power_effect : Keeper → ℕ → ℕ → PortPower → Effect
power_effect k n number p =
    record { keeper = k; first = scan_line n number p.answer None p.wait None; opening = false; writes = p.writes }

-- a bad record does nothing; no block is shown of it
unfoldable pub no_effect : Keeper → ℕ → ℕ → Effect
no_effect k n number = record { keeper = k; first = answered_line n number (Ok R.Pending); opening = false; writes = no_writes }

-- the record's number, the call's number, the call; a bad record has none
abbrev pub act_of : Keeper → ℕ → ℕ → Option Entry → Effect
act_of k n number (Some (E.Open settings)) = open_effect k n number (open_store k.store settings)
act_of k n number (Some (E.Call call)) = call_effect k n number (call_store k.store call)
act_of k n number (Some E.StartScan) = scan_effect k n number (start_of k.hub)
act_of k n number (Some (E.ScanStep reading)) = scan_effect k n number (step_of k.hub reading)
act_of k n number (Some (E.PortPower port reading)) = power_effect k n number (power_of k.hub port reading)
act_of k n number None = no_effect k n number

-- the block: the rows are held against those before the call
unfoldable pub shown_of : Keeper → Effect → List ℕ
shown_of k e =
    block_of e.first e.opening (rows_of k) (rows_of e.keeper) e.keeper.opened e.keeper.store.state e.writes

-- "`bad record N` (N from 0)"
unfoldable pub bad_line : ℕ → List ℕ
bad_line n = 98 ∷ 97 ∷ 100 ∷ 32 ∷ 114 ∷ 101 ∷ 99 ∷ 111 ∷ 114 ∷ 100 ∷ 32 ∷ (decimal n ++ (10 ∷ []))

-- what is said of an entry with a call's number: its block, or that it is bad
abbrev pub said_as : Keeper → ℕ → ℕ → Option Entry → List ℕ
said_as k n number None = bad_line n
said_as k n number (Some entry) = shown_of k (act_of k n number (Some entry))

-- what is said of record n, by its bytes
unfoldable pub said_of : Keeper → ℕ → List ℕ → List ℕ
said_of k n bytes = said_as k n (get_or bytes 0 0) (entry_of bytes)

-- a bad record does nothing, and the log ends at it
abbrev pub kept_as : Keeper → ℕ → ℕ → Option Entry → Option Keeper
kept_as k n number None = None
kept_as k n number (Some entry) = Some (act_of k n number (Some entry)).keeper

unfoldable pub turned_of : Keeper → ℕ → List ℕ → Turned
turned_of k n bytes =
    record { keeper = kept_as k n (get_or bytes 0 0) (entry_of bytes); end = length (said_of k n bytes) }
