-- The returns of what a record does.
use Rattle.std.specs.Prelude.{Err, None, Ok, Option}
use Prim.Native.Nat.{ℕ}
use mathlib.Core.Bool.{Bool, true, false}
use mathlib.Core.Path.{◌≡◌, sym, ap, ◌∙◌}
use Rattle.common.specs.declared.answer.Refusal.{Refusal}
use Rattle.call_log.specs.CallLine.{answered_line, scan_line}
use Rattle.call_log.specs.Lines.{line_bytes}
use Rattle.call_log.specs.declared.line.Line.{Line}
use Rattle.call_log.specs.declared.record.Entry.{Entry}
use Rattle.ehci.specs.declared.call.Call.{Call}
use Rattle.ehci.specs.declared.reply.Answered.TheVariants as R
use Rattle.ehci.specs.declared.reply.Given.TheVariants as G
use Rattle.opening.specs.Hub.{opened_hub}
use Rattle.opening.specs.declared.hub.EhciRootHub.{EhciRootHub}
use Rattle.register.specs.Writes.{no_writes}
use Rattle.register.specs.declared.writes.Writes.{Writes}
use Rattle.root_hub.specs.Calls.{power_of}
use Rattle.root_hub.specs.declared.calls.PortPower.{PortPower}
use Rattle.root_hub.specs.declared.calls.Scanned.{Scanned}
use Rattle.root_hub.specs.declared.ports.PortEvent.TheVariants as P
use Rattle.settings.specs.declared.settings.Settings.{Settings}
use Rattle.store.specs.Stores.{blank_store, call_store, open_store}
use Rattle.store.specs.Plain as plain
use Rattle.store.specs.Words.{called_view, opened_view, store_view}
use Rattle.store.specs.declared.store.Called.{Called}
use Rattle.store.specs.declared.store.OpenedStore.{OpenedStore}
use Rattle.replayer.specs.Plain as plain-keeper
use Rattle.replayer.specs.Replays.{Effect, act_of, call_effect, fresh_keeper, no_effect, open_effect, power_effect, scan_effect}
use Rattle.replayer.specs.Words.{keeper_view}
use Rattle.replayer.specs.declared.kept.Keeper.{Keeper}

abbrev closed : plain.Store → EhciRootHub → plain-keeper.Keeper
closed w h = record { store = w; hub = h; opened = false }

pub fresh_kept : (w : plain.Store) (h : EhciRootHub) → w ≡ blank_store → h ≡ opened_hub 0 → closed w h ≡ fresh_keeper
unfolding fresh_keeper
fresh_kept w h e f = ap (λ (x : plain.Store). closed x h) e ∙ ap (closed blank_store) f

module _ (k : Keeper) (n number : ℕ) (line : Line) (w : Writes) where
  abbrev done : plain-keeper.Keeper → Bool → Effect
  done keeper opening = record { keeper = keeper; first = line_bytes line; opening = opening; writes = w }

  module _ (s : Settings) (o : OpenedStore) (opened : opened_view o ≡ open_store (store_view k.store) s) (none : w ≡ no_writes) where
    done_view : o.answer ≡ (Ok tt) → line_bytes line ≡ answered_line n number (Ok (R.Done G.Nothing))
        → done (record { store = store_view o.store; hub = o.hub; opened = true }) true ≡ open_effect (keeper_view k) n number (opened_view o)
    unfolding open_effect
    done_view a l = rw (a, l, none)

    pub open_done : o.answer ≡ (Ok tt) → line_bytes line ≡ answered_line n number (Ok (R.Done G.Nothing))
        → done (record { store = store_view o.store; hub = o.hub; opened = true }) true ≡ open_effect (keeper_view k) n number (open_store (store_view k.store) s)
    open_done a l = done_view a l ∙ ap (open_effect (keeper_view k) n number) opened

    refused_view : (refusal : Refusal) → o.answer ≡ Err refusal → line_bytes line ≡ answered_line n number (Err refusal)
        → done (keeper_view k) false ≡ open_effect (keeper_view k) n number (opened_view o)
    unfolding open_effect
    refused_view refusal a l = rw (a, l, none)

    pub open_refused : (refusal : Refusal) → o.answer ≡ Err refusal → line_bytes line ≡ answered_line n number (Err refusal)
        → done (keeper_view k) false ≡ open_effect (keeper_view k) n number (open_store (store_view k.store) s)
    open_refused refusal a l = refused_view refusal a l ∙ ap (open_effect (keeper_view k) n number) opened

  pub nothing_done : line_bytes line ≡ answered_line n number (Ok R.Pending) → w ≡ no_writes → done (keeper_view k) false ≡ no_effect (keeper_view k) n number
  unfolding no_effect
  nothing_done l none = rw (l, none)

module _ (k : Keeper) (n number : ℕ) (line : Line) where
  module _ (call : Call) (c : Called) (called : called_view c ≡ call_store (store_view k.store) call) (l : line_bytes line ≡ answered_line n number c.answer) where
    abbrev after : Effect
    after =
        record {
          keeper = record { store = store_view c.store; hub = k.hub; opened = k.opened };
          first = line_bytes line;
          opening = false;
          writes = c.writes;
        }

    call_view : after ≡ call_effect (keeper_view k) n number (called_view c)
    unfolding call_effect
    call_view = rw l

    pub call_done : after ≡ call_effect (keeper_view k) n number (call_store (store_view k.store) call)
    call_done = call_view ∙ ap (call_effect (keeper_view k) n number) called

  pub scan_done : (s : Scanned) → line_bytes line ≡ scan_line n number s.reply.answer s.reply.read s.reply.wait s.reply.event
      → record {
        keeper = record { store = store_view k.store; hub = s.hub; opened = k.opened };
        first = line_bytes line;
        opening = false;
        writes = s.reply.writes;
      }
      ≡ scan_effect (keeper_view k) n number s
  unfolding scan_effect
  scan_done s l = rw l

  pub power_done : (port reading : ℕ) (p : PortPower) → p ≡ power_of k.hub port reading
      → line_bytes line ≡ scan_line n number p.answer None p.wait None
      → record { keeper = keeper_view k; first = line_bytes line; opening = false; writes = p.writes }
      ≡ power_effect (keeper_view k) n number (power_of k.hub port reading)
  unfolding power_effect
  power_done port reading p e l = rw (← e, l)

module _ (k : Keeper) (n number : ℕ) (entry : Option Entry) (r : Effect) where
  pub act_as : (e : Option Entry) → entry ≡ e → r ≡ act_of (keeper_view k) n number e → r ≡ act_of (keeper_view k) n number entry
  act_as e f g = rw f g

  -- where what was done is told by a scan of its own
  pub scanned_as : (e : Option Entry) (s t : Scanned) → entry ≡ e → act_of (keeper_view k) n number e ≡ scan_effect (keeper_view k) n number t → s ≡ t
      → r ≡ scan_effect (keeper_view k) n number s → r ≡ act_of (keeper_view k) n number entry
  scanned_as e s t f a q g = rw f (g ∙ ap (scan_effect (keeper_view k) n number) q ∙ sym a)
