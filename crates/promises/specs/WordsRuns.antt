-- A controller whose state is held in words: what its calls do, and that over any calls both forms do and leave the same.
use Rattle.std.specs.Prelude.{ℕ, ◌+◌, Bool, true, List, [], ◌≢◌, ◌≡◌, refl, length}
use Rattle.bitset.specs.Places.{Words, set_places}
use Rattle.bitset.specs.Words.{Fitting}
use Rattle.descriptor.specs.declared.qtd.QueueTransferDescriptor.{QueueTransferDescriptor}
use Rattle.settings.specs.declared.settings.Settings.{Settings}
use Rattle.state.specs.Ranges.{in_ranges}
use Rattle.words.specs.declared.cores.Core.{Core}
use Rattle.words.specs.declared.cores.Rest.{Rest}
use Rattle.words.specs.Good.{Good, Tidy}
use Rattle.words.specs.Record.{places_at}
use Rattle.words.specs.View.{view}
use Rattle.opening.specs.Words.{FreshWords}
use Rattle.ehci.specs.declared.call.Call.{Call}
use Rattle.ehci.specs.declared.reply.Reply.{Reply}
use Rattle.ehci.specs.Door.{Applied, applied}
use Rattle.ehci.specs.WordsDoor.{WordsAfter, accepts_words, apply_words, reply_view}
use Rattle.promises.specs.Rooms.{Every, number_at}
use Rattle.promises.specs.Runs.{Form, History, Machine, Opening, WorldIn, core, history_of, moment, run_of, viewed, world_of}
use Rattle.promises.specs.Uses.{needs, uses}

-- ---- worlds

-- the state: a core, and the lent row of slots
pub record Stored : Type 0 where
  pub core : Core
  pub slots : List ℕ

-- what a call gives: its reply, and every row then
pub record WordsApplied : Type 0 where
  pub reply : Reply
  pub slots : List ℕ
  pub pool : List QueueTransferDescriptor
  pub heads : List ℕ
  pub frames : List ℕ
  pub setups : List ℕ

abbrev pub view_applied : Settings → WordsApplied → Applied
view_applied s a = applied (reply_view s a.reply a.slots) a.pool a.heads a.frames a.setups

-- what the types of the code say of the words: four free words, and every word has 64 bits
pub record Typed (r : Rest) (ws : List ℕ) : Type 0 where
  pub four : length r.free ≡ 4
  pub free_fits : Words r.free
  pub row_fits : Fitting ws

-- what the contract of `open` says of the words that it leaves, and what its types say
pub record OpenedWords (s : Settings) (x : Stored) : Type 0 where
  pub words : FreshWords s x.core x.slots
  pub typed : Typed x.core.rest x.slots

-- a call gives the rest of a core, and its settings stay. Words that are not tidy are refused, whatever they stand for
abbrev pub in_words : Form
in_words =
    record {
      State = Stored;
      Result = WordsApplied;
      view = λ x. view x.core x.slots;
      shows = λ x a. view_applied x.core.settings a;
      leaves = λ x a. record { core = record { settings = x.core.settings; rest = a.reply.rest }; slots = a.slots };
      agrees = λ x a. refl;
      fits = λ x rows. accepts_words x.core x.slots (length rows.pool) (length rows.heads) (length rows.frames) (length rows.setups);
      Typed = λ x. Typed x.core.rest x.slots;
      Fresh = OpenedWords;
    }

-- whether the words and the rows of a world are let in
abbrev pub let_in : WorldIn in_words → Bool
let_in w = in_words.fits w.state w.rows

-- ---- what a call does

-- what the contract of `apply` says of a machine, and what its types say
pub record Does (m : Machine in_words) : Type 0 where
  pub replies : (w : WorldIn in_words) (c : Call) → Typed w.state.core.rest w.state.slots
      → (moment m w).does c
      ≡ apply_words w.state.core w.state.slots w.rows.pool w.rows.heads w.rows.frames w.rows.setups c
  pub leaves : (w : WorldIn in_words) (c : Call) → Typed w.state.core.rest w.state.slots
      → WordsAfter (let_in w) w.state.core w.state.slots (m w c).reply.rest (m w c).slots
  pub typed : (w : WorldIn in_words) (c : Call) → Typed w.state.core.rest w.state.slots → Typed (m w c).reply.rest (m w c).slots

-- ---- both forms give the same

-- after any calls every answer, register write and word of the four rows on the way was the same, the words stand for the other form's state,
-- and any further call does the same in both
abbrev pub SameRun : Machine in_words → WorldIn in_words → Type 0
SameRun m w = run_of m w ≡ run_of core (viewed w)

-- from every accepted opening
abbrev pub SameRuns : Machine in_words → Type 0
SameRuns m = (s : Settings) (w : WorldIn in_words) → Opening s w → SameRun m w

-- and from every world whose words are tidy where the state that they stand for is in its ranges: it may be outside them, and rows of any
-- length may be lent
pub record Faithful (w : WorldIn in_words) : Type 0 where
  pub typed : Typed w.state.core.rest w.state.slots
  pub tidy : in_ranges (view w.state.core w.state.slots) ≡ true → Tidy w.state.core.settings w.state.core.rest w.state.slots

abbrev pub SameFrom : Machine in_words → Type 0
SameFrom m = (w : WorldIn in_words) → Faithful w → SameRun m w

-- ---- what the words of a run are

-- the words are good; the free words have a bit for each descriptor less those that the uncollected requests need, a request's slot has the
-- bits of its places, and a slot of no request has none
pub record GoodWords (s : Settings) (h : History) (x : Stored) : Type 0 where
  pub settings_stay : x.core.settings ≡ s
  pub good : Good s x.core.rest x.slots
  pub free : length (set_places x.core.rest.free) + needs s (uses s h) ≡ s.descriptors
  pub held : Every (λ u. set_places (places_at x.slots u.slot) ≡ u.places) (uses s h)
  pub empty : (k : ℕ) → Every (λ u. u.slot ≡ k → ⊥) (uses s h) → set_places (places_at x.slots k) ≡ []

abbrev pub WordsKept : Machine in_words → Type 0
WordsKept m =
    (s : Settings) (w : WorldIn in_words) → Opening s w → (cs : List Call) → GoodWords s (history_of m w cs) (world_of m w cs).state

-- ---- refusals leave the words too

-- not running, and no bring-up begun
abbrev pub stopped_rest : Rest → Rest
stopped_rest r =
    record {
      running = 0;
      step = 0;
      address = r.address;
      enabled = r.enabled;
      noted = r.noted;
      doorbell = r.doorbell;
      unanswered = r.unanswered;
      pending = r.pending;
      masked = r.masked;
      waited = 0;
      free = r.free;
    }

-- what a call that answered the number n left of the words
pub record WordsStay (x : Stored) (n : ℕ) (a : WordsApplied) : Type 0 where
  pub rest_stays : n ≢ 7 → a.reply.rest ≡ x.core.rest
  pub only_stopped : n ≡ 7 → a.reply.rest ≡ stopped_rest x.core.rest
  pub row_stays : a.slots ≡ x.slots

abbrev pub RefusedStay : Machine in_words → Type 0
RefusedStay m =
    (w : WorldIn in_words) → Typed w.state.core.rest w.state.slots
    → (c : Call) (n : ℕ) → number_at (moment m w) c ≡ n → n ≢ 0 → n ≢ 9 → n ≢ 10 → n ≢ 11 → WordsStay w.state n (m w c)

-- ---- and the contract leaves no choice

-- any two machines that do what it says leave the same answer, writes, words and rows
abbrev pub OneResult : Type 0
OneResult =
    (m m' : Machine in_words) → Does m → Does m' → (w : WorldIn in_words) (c : Call) → Typed w.state.core.rest w.state.slots → m w c ≡ m' w c
