-- Machines over words that do not do what the contract says: one place in two slots, places of a slot that has no request. And words that are
-- refused though the state that they stand for is in its ranges.
use Rattle.std.specs.Prelude.{Ok}
use Prim.Native.Nat.{ℕ, suc, ◌<◌}
use mathlib.Core.Bool.{Bool, true, false}
use mathlib.Core.List.{List, []}
use mathlib.Core.Path.{◌≡◌, refl, sym, ap, subst, ◌∙◌}
use native.Mathlib.Omega.{arith}
use lib.ListN.{get_or, set}
use Rattle.bitset.specs.Judge.{sum_bit}
use Rattle.bitset.specs.Places.{all_below}
use Rattle.bitset.specs.Words.{bit, ones_below}
use Rattle.register.specs.Writes.{no_writes}
use Rattle.settings.specs.Settings.{apart_areas, area_good, each_good, no_overlap, numbers_good, settings_good}
use Rattle.settings.specs.declared.settings.Settings.{Settings}
use Rattle.words.specs.Good.{column, no_places}
use Rattle.words.specs.Opened.{opened_rest, opened_row}
use Rattle.words.specs.Record.{phase_in, places_at, word_at}
use Rattle.words.specs.View.{holds_bit, state_of}
use Rattle.words.proofs.GoodLaws.{good_settings}
use Rattle.words.proofs.OwnerLaws.{held_owner}
use Rattle.ehci.specs.declared.call.Call.{Call}
use Rattle.ehci.specs.declared.call.Call.TheVariants.{AllocateAddress}
use Rattle.ehci.specs.declared.reply.Answered.TheVariants.{Pending}
use Rattle.promises.specs.Ranges.{RangesKept}
use Rattle.promises.specs.Runs.{Machine, Opening, World, WorldIn, core, moment, viewed, world_of}
use Rattle.promises.specs.WordsRuns.{Does, Typed, in_words, let_in}
use Rattle.promises.proofs.invariants.Reached.{fresh_rows}
use Rattle.promises.proofs.theorems.WordsCalls.{let_in_good}
use Rattle.promises.proofs.theorems.WordsOpened.{fresh_words, opens_words}
use Rattle.promises.proofs.theorems.WordsRuns.{carried, opening_viewed}
use Rattle.promises.proofs.theorems.RangeTheorems.{ranges_kept}

-- ---- what a machine that does it never leaves

module _ (m : Machine in_words) (does : Does m) (w : WorldIn in_words) (c : Call) (typed : Typed w.state.core.rest w.state.slots) (is_let_in : let_in w ≡ true) where
  -- the state that the words stand for has one owner a place, so it says nothing of a second slot: the tidy words do
  pub never_twice : (i k l : ℕ) → i < 256 → k < l → holds_bit (m w c).slots k i ≡ 1 → holds_bit (m w c).slots l i ≡ 1 → ⊥
  never_twice i k l h less p q =
      let few = (good_settings w.state.core.settings w.state.core.rest w.state.slots (let_in_good w is_let_in)).endpoints_most in
      let tidy = (does.leaves w c typed).tidy is_let_in in
      let owner : (j : ℕ) → holds_bit (m w c).slots j i ≡ 1 → _ ≡ suc j = held_owner w.state.core.settings (m w c).reply.rest (m w c).slots tidy i h few in
      omega (arith, sym (owner k p) ∙ owner l q, less)

  pub never_left : (k : ℕ) → k < w.state.core.settings.endpoints → phase_in (word_at (m w c).slots k) < 2 → places_at (m w c).slots k ≡ no_places
  never_left k h = (((does.leaves w c typed).tidy is_let_in).held k h).empty

-- ---- a machine that leaves a place in a closed slot

abbrev careless : Machine in_words
careless w c =
    record {
      reply = record { rest = w.state.core.rest; answer = Ok Pending; writes = no_writes };
      slots = set w.state.slots 2 1;
      pool = w.rows.pool;
      heads = w.rows.heads;
      frames = w.rows.frames;
      setups = w.rows.setups;
    }

-- two descriptors, two slots
abbrev pair : Settings
pair =
    record {
      descriptors = 2;
      endpoints = 2;
      ports = 1;
      limit = 16384;
      wait = 1;
      pool = 0x100000;
      heads = 0x200000;
      frames = 0x300000;
      setups = 0x400000;
    }

pair_good : settings_good pair ≡ true
unfolding settings_good numbers_good each_good no_overlap area_good apart_areas
pair_good = refl

opening : Opening pair (fresh_words pair)
opening = opens_words pair pair_good

pub careless_refuted : Does careless → ⊥
unfolding world_of
careless_refuted does =
    let is_let_in : let_in (fresh_words pair) ≡ true = (carried RangesKept ranges_kept careless does pair (fresh_words pair) opening []).is_let_in in
    let none = never_left careless does (fresh_words pair) AllocateAddress opening.fresh.typed is_let_in 0 (omega arith) (omega arith) in
    let z : ◌≡◌ {A = ℕ} 1 0 = ap (λ (x : List ℕ). get_or x 0 0) none in
    omega (arith, z)

-- ---- why the first check is the form's own

-- the words of an opening, but that no place is free: they stand for the same state, and are refused, for the places are nowhere
abbrev pub astray : WorldIn in_words
astray =
    record {
      state = record { core = record { settings = pair; rest = opened_rest 0 }; slots = opened_row pair.endpoints };
      rows = fresh_rows pair;
    }

astray_stands : viewed astray ≡ viewed (fresh_words pair)
unfolding state_of opened_rest
astray_stands = refl

pub astray_fits : (moment core (viewed astray)).fits ≡ true
unfolding world_of
astray_fits =
    subst (λ (x : World). (moment core x).fits ≡ true) (sym astray_stands)
    (ranges_kept pair (viewed (fresh_words pair)) (opening_viewed pair (fresh_words pair) opening) []).is_let_in

pub astray_refused : let_in astray ≡ false
unfolding opened_rest all_below ones_below bit sum_bit column
astray_refused = by (let_in astray) refl
  where
    by : (b : Bool) → let_in astray ≡ b → let_in astray ≡ false
    by true e =
        let nowhere : ◌≡◌ {A = ℕ} 0 1 = (let_in_good astray e).tidy.shared_out 0 0 (omega arith) (omega arith) in
        absurd (omega (arith, nowhere))
    by false e = e
