-- The store of the code: its words stand for the state of a plain store. Of the row of slots the first places are lent too.
use Rattle.std.specs.Prelude.{◌≡◌, List, ℕ, Ok}
use Rattle.words.specs.declared.cores.Core.{Core}
use Rattle.words.specs.View.{view}
use Rattle.store.specs.declared.rows.Rows.{Rows}
use Rattle.store.specs.declared.rows.Store.{Store}
use Rattle.store.specs.declared.store.Called.{Called}
use Rattle.store.specs.declared.store.OpenedStore.{OpenedStore}
use Rattle.store.specs.Plain as plain
use Rattle.store.specs.Tended.{WordsOpened, lent_of}
pub use Rattle.store.specs.Tended.{slots_lent}

abbrev pub lent_slots : Store → List ℕ
lent_slots w = lent_of w.core w.rows.slots

-- ---- what the words stand for

abbrev pub rows_view : Core → Rows → plain.Store
rows_view core r =
    record { state = view core (lent_of core r.slots); pool = r.pool; heads = r.heads; frames = r.frames; setups = r.setups }

abbrev pub store_view : Store → plain.Store
store_view w = rows_view w.core w.rows

abbrev pub called_view : Called → plain.Called
called_view c = record { store = store_view c.store; answer = c.answer; writes = c.writes }

abbrev pub opened_view : OpenedStore → plain.OpenedStore
opened_view o = record { store = store_view o.store; hub = o.hub; answer = o.answer }

-- a controller was opened in it
abbrev pub OpenedIn : Store → Type 0
OpenedIn w = WordsOpened w.core w.rows.slots

-- by an opening that is accepted
abbrev pub Opens : OpenedStore → Type 0
Opens o = o.answer ≡ (Ok tt) → OpenedIn o.store
