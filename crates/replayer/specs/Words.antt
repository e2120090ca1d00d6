-- The keeper of the code: its words stand for the state of a plain one.
use Rattle.std.specs.Prelude.{option_map}
use Rattle.call_log.specs.Lines.{line_bytes}
use Rattle.store.specs.Words.{store_view}
use Rattle.replayer.specs.declared.keeper.Acted.{Acted}
use Rattle.replayer.specs.declared.kept.Keeper.{Keeper}
use Rattle.replayer.specs.declared.turn.Turned.{Turned}
use Rattle.replayer.specs.Plain as plain
use Rattle.replayer.specs.Replays.{Effect}

abbrev pub keeper_view : Keeper → plain.Keeper
keeper_view k = record { store = store_view k.store; hub = k.hub; opened = k.opened }

abbrev pub effect_of : Acted → Effect
effect_of a = record { keeper = keeper_view a.keeper; first = line_bytes a.line; opening = a.opening; writes = a.writes }

abbrev pub turned_view : Turned → plain.Turned
turned_view t = record { keeper = option_map keeper_view t.keeper; end = t.end }
