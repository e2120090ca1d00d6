-- Any calls from an accepted opening, in whatever form the state is held: worlds, machines, runs, and what is seen of them.
use Rattle.std.specs.Prelude.{ℕ, Bool, List, [], ◌∷◌, ◌≡◌, refl, length, Ok, Result}
use Rattle.register.specs.Writes.{list_of}
use Rattle.register.specs.declared.writes.Write.{Write}
use Rattle.descriptor.specs.declared.qtd.QueueTransferDescriptor.{QueueTransferDescriptor}
use Rattle.settings.specs.declared.settings.Settings.{Settings}
use Rattle.state.specs.Plain.{Ehci}
use Rattle.opening.specs.Opening.{Opened, open_of}
use Rattle.controller.specs.Lent.{accepts_of, lengths}
use Rattle.ehci.specs.declared.call.Call.{Call}
use Rattle.ehci.specs.Door.{Applied, apply_of}
use Rattle.ehci.specs.declared.reply.Answered.{Answered}
use Rattle.common.specs.declared.answer.Refusal.{Refusal}

-- the four lent rows
pub record Rows : Type 0 where
  pub pool : List QueueTransferDescriptor
  pub heads : List ℕ
  pub frames : List ℕ
  pub setups : List ℕ

-- ---- forms of the state

-- a form in which a state is held
pub record Form : Type 1 where
  -- what a machine is lent of it, and what a call gives
  pub State : Type 0
  pub Result : Type 0
  -- the state that is held; what a call on it did; and what it left, which is the state of what it did
  pub view : State → Ehci
  pub shows : State → Result → Applied
  pub leaves : State → Result → State
  pub agrees : (x : State) (r : Result) → view (leaves x r) ≡ (shows x r).reply.state
  -- whether a call's first check lets it in with these rows
  pub fits : State → Rows → Bool
  -- what the types of the code say of it; and what an accepted opening says of it beside `view`
  pub Typed : State → Type 0
  pub Fresh : Settings → State → Type 0

-- the state itself
abbrev pub in_plain : Form
in_plain =
    record {
      State = Ehci;
      Result = Applied;
      view = λ state. state;
      shows = λ state a. a;
      leaves = λ state a. a.reply.state;
      agrees = λ state a. refl;
      fits = λ state rows. accepts_of state (lengths (length rows.pool) (length rows.heads) (length rows.frames) (length rows.setups));
      Typed = λ state. Unit {0};
      Fresh = λ s state. Unit {0};
    }

-- ---- worlds and machines

pub record WorldIn (f : Form) : Type 0 where
  pub state : f.State
  pub rows : Rows

abbrev pub World : Type 0
World = WorldIn in_plain

-- what a world stands for
abbrev pub viewed : {f : Form} → WorldIn f → World
viewed {f} w = record { state = f.view w.state; rows = w.rows }

-- a machine is what it does with a call; `core` is this one
abbrev pub Machine : Form → Type 0
Machine f = WorldIn f → Call → f.Result

abbrev pub core : Machine in_plain
core w c = apply_of w.state w.rows.pool w.rows.heads w.rows.frames w.rows.setups c

abbrev pub rows_of : Applied → Rows
rows_of a = record { pool = a.pool; heads = a.heads; frames = a.frames; setups = a.setups }

abbrev pub left_by : Applied → World
left_by a = record { state = a.reply.state; rows = rows_of a }

-- all that a promise sees of a machine in a world: the state that it stands for, the rows, whether they are let in, and what each call would do
pub record Moment : Type 0 where
  pub view : Ehci
  pub rows : Rows
  pub fits : Bool
  pub does : Call → Applied

abbrev pub moment : {f : Form} → Machine f → WorldIn f → Moment
moment {f} m w =
    record {
      view = f.view w.state;
      rows = w.rows;
      fits = f.fits w.state w.rows;
      does = λ c. f.shows w.state (m w c);
    }

-- ---- runs

-- the calls, NEWEST FIRST, from a world on
unfoldable pub world_of : {f : Form} → Machine f → WorldIn f → List Call → WorldIn f
world_of {f} m w [] = w
world_of {f} m w (c ∷ cs) =
    record {
      state = f.leaves (world_of m w cs).state (m (world_of m w cs) c);
      rows = rows_of ((moment m (world_of m w cs)).does c);
    }

-- one call as its caller sees it: its answer, its register writes, and the lent rows before and after. Nothing of the state
pub record Turn : Type 0 where
  pub call : Call
  pub answer : Result Answered Refusal
  pub wrote : List Write
  pub before : Rows
  pub after : Rows

abbrev pub History : Type 0
History = List Turn

abbrev pub turn_of : Rows → Call → Applied → Turn
turn_of rows c a =
    record { call = c; answer = a.reply.answer; wrote = list_of a.reply.writes; before = rows; after = rows_of a }

-- one more call
abbrev pub turn_by : Moment → Call → Turn
turn_by w c = turn_of w.rows c (w.does c)

unfoldable pub history_of : {f : Form} → Machine f → WorldIn f → List Call → History
history_of {f} m w [] = []
history_of {f} m w (c ∷ cs) = turn_by (moment m (world_of m w cs)) c ∷ history_of m w cs

-- after each list of calls, what they were to their caller and what is seen then
pub record Run : Type 0 where
  pub past : List Call → History
  pub now : List Call → Moment

abbrev pub run_of : {f : Form} → Machine f → WorldIn f → Run
run_of {f} m w = record { past = history_of m w; now = λ cs. moment m (world_of m w cs) }

-- what an opening that is accepted leaves
abbrev pub world_opened : Opened → World
world_opened o =
    record {
      state = o.opening.state;
      rows = record { pool = o.pool; heads = o.heads; frames = o.frames; setups = o.setups };
    }

pub record Opening {f : Form} (s : Settings) (w : WorldIn f) : Type 0 where
  pub lent : Rows
  pub accepted : (open_of s lent.pool lent.heads lent.frames lent.setups).opening.answer ≡ (Ok tt)
  pub left : viewed w ≡ world_opened (open_of s lent.pool lent.heads lent.frames lent.setups)
  pub fresh : f.Fresh s w.state

-- ---- what is promised of a machine

-- a promise is about a run, and a machine keeps it where every run of it from an accepted opening does
abbrev pub Promise : Type 1
Promise = Settings → Run → Type 0

abbrev pub EveryRun : {f : Form} → Promise → Machine f → Type 0
EveryRun {f} P m = (s : Settings) (w : WorldIn f) → Opening s w → P s (run_of m w)

-- most say something of every moment, and of the calls so far
abbrev pub Always : (Settings → History → Moment → Type 0) → Promise
Always P s r = (cs : List Call) → P s (r.past cs) (r.now cs)

-- a few are about every world, and not only those of a run
abbrev pub Everywhere : {f : Form} → (Moment → Type 0) → Machine f → Type 0
Everywhere {f} P m = (w : WorldIn f) → f.Typed w.state → P (moment m w)
