-- The returns and the loop of the functions on links, over the row of slots.
use Rattle.std.specs.Prelude.{◌≡◌, ℕ, ◌+◌, ◌-◌, ◌*◌, ◌/◌, ◌<◌, ◌≤◌, Bool, true, false, cond, not, ◌&&◌, eqb, List, length, get_or, set, replicate}
use mathlib.Core.Bool.{beq}
use mathlib.Core.Path.{refl, sym, ◌∙◌}
use native.Mathlib.Nat.{sub-zero}
use native.Mathlib.Omega.{arith}
use borrow.Author.Tests.{eqb-true, eqb-false}
use Rattle.common.proofs.TestLaws.{every_4}
use Rattle.settings.specs.declared.settings.Settings.{Settings}
use Rattle.state.specs.Plain.{Ehci}
use Rattle.words.specs.declared.cores.Rest.{Rest}
use Rattle.words.specs.Good.{Good}
use Rattle.words.specs.Record.{kind_in, phase_in, word_at}
use Rattle.words.specs.View.{state_of}
use Rattle.words.proofs.GoodLaws.{good_length, good_settings}
use Rattle.words.proofs.ViewLaws.{view_kind, view_phase}
use Rattle.schedule.specs.declared.links.Predecessor.{Predecessor}
use Rattle.schedule.specs.declared.links.Predecessor.TheVariants.{First, Head, Missing}
use Rattle.schedule.specs.Links.{detached, detach_of, head_address, leads_to, link_word, periodic, precedes, precedes_one, predecessor_of, same, search_from}
use Rattle.schedule.specs.Words.{precedes_word}
use Rattle.schedule.proofs.LinkCases.{detach_frames, detach_ring, first_leads, found, not_first, not_here, nowhere}

-- ---- `precedes`

pub same_is : (a b : Bool) → beq a b ≡ same a b
same_is true true = refl
same_is true false = refl
same_is false true = refl
same_is false false = refl

pub precedes_word_is : (j k mark : ℕ) (framed : Bool) (word address : ℕ) (t : Bool) → t ≡ same framed (eqb (kind_in mark) 3)
    → (not (eqb j k) && eqb (phase_in mark) 2 && t && leads_to word address) ≡ precedes_word j k mark framed word address
unfolding precedes_word
precedes_word_is j k mark framed word address t e =
    every_4 (not (eqb j k)) (eqb (phase_in mark) 2) t (leads_to word address) ∙ rw e

-- the test of a slot's word, at the state that the words stand for
module _ (s : Settings) (r : Rest) (ws h : List ℕ) (k j a : ℕ) (framed t : Bool) where
  pub word_precedes : j < 32 → framed ≡ periodic (state_of s r ws) k → a ≡ head_address (state_of s r ws) k
      → t ≡ precedes_word j k (word_at ws j) framed (link_word h j) a → t ≡ precedes (state_of s r ws) h k j
  unfolding precedes_word precedes_one
  word_precedes below ef ea et = et ∙ rw (ef, ea, view_phase s r ws j below, view_kind s r ws j below)

-- ---- `search`: what is found from slot j on is what is found, whatever the rest of the state

abbrev pub Searched : List ℕ → List ℕ → ℕ → Bool → ℕ → ℕ → ℕ → Type 0
Searched ws h k framed a j n =
    (s : Settings) (r : Rest) → framed ≡ periodic (state_of s r ws) k → a ≡ head_address (state_of s r ws) k
    → search_from (state_of s r ws) h k j (n - j) ≡ search_from (state_of s r ws) h k 0 n

module _ (ws h : List ℕ) (k : ℕ) (framed : Bool) (a n : ℕ) where
  pub search_starts : Searched ws h k framed a 0 n
  search_starts s r ef ea = rw (sub-zero n)

  module _ (j : ℕ) (t : Bool) (lt : j < n) (most : n ≤ 32) (et : t ≡ precedes_word j k (word_at ws j) framed (link_word h j) a) where
    pub search_goes_on : t ≡ false → Searched ws h k framed a j n → Searched ws h k framed a (j + 1) n
    search_goes_on e inv s r ef ea =
        not_here (state_of s r ws) h k j n t lt (word_precedes s r ws h k j a framed t (omega arith) ef ea et) e
        (search_from (state_of s r ws) h k 0 n) (inv s r ef ea)

    pub search_finds : t ≡ true → Searched ws h k framed a j n → (s : Settings) (r : Rest)
        → framed ≡ periodic (state_of s r ws) k → a ≡ head_address (state_of s r ws) k → Head j ≡ search_from (state_of s r ws) h k 0 n
    search_finds e inv s r ef ea =
        found (state_of s r ws) h k j n t lt (word_precedes s r ws h k j a framed t (omega arith) ef ea et) e
        (search_from (state_of s r ws) h k 0 n) (inv s r ef ea)

  pub search_ends : (j : ℕ) → n ≤ j → Searched ws h k framed a j n → (s : Settings) (r : Rest)
      → framed ≡ periodic (state_of s r ws) k → a ≡ head_address (state_of s r ws) k → Missing ≡ search_from (state_of s r ws) h k 0 n
  search_ends j le inv s r ef ea =
      nowhere (state_of s r ws) h k j n le (search_from (state_of s r ws) h k 0 n) (inv s r ef ea)

pub word_inside : (s : Settings) (r : Rest) (ws : List ℕ) (j : ℕ) → Good s r ws → j < s.endpoints → 6 * j < length ws
word_inside s r ws j good h = omega (arith, good_length s r ws good)

pub good_most : (s : Settings) (r : Rest) (ws : List ℕ) → Good s r ws → s.endpoints ≤ 32
good_most s r ws good = (good_settings s r ws good).endpoints_most

-- ---- `first_word`

-- ---- `find_predecessor` and `detach`, where the schedule is given

module _ (s : Ehci) (h f : List ℕ) (k : ℕ) (framed : Bool) (ef : framed ≡ periodic s k) where
  module _ (w a : ℕ) (ew : w ≡ cond framed (get_or f 0 0) (get_or h 0 0)) (ea : a ≡ head_address s k) where
    word_given : w ≡ cond (periodic s k) (get_or f 0 0) (get_or h 0 0)
    word_given = rw ef at ew

    pub first_given : w / 32 ≡ a / 32 → First ≡ predecessor_of s h f k
    first_given e = first_leads s h f k w a word_given ea e

    pub search_given : (w / 32 ≡ a / 32 → ⊥) → (p : Predecessor) → p ≡ search_from s h k 0 s.settings.endpoints
        → p ≡ predecessor_of s h f k
    search_given e p ep = not_first s h f k w a word_given ea e p ep

  module _ (p : Predecessor) (ep : p ≡ predecessor_of s h f k) where
    pub detach_framed : p ≡ First → framed ≡ true → (f' : List ℕ) → f' ≡ replicate (length f) (link_word h k)
        → detached p h f' ≡ detach_of s h f k
    detach_framed e q f' g = detach_frames s h f k p ep e (eqb-true (get_or s.kinds k 0) 3 (sym ef ∙ q)) f' g

    pub detach_ringed : p ≡ First → framed ≡ false → detached p (set h 0 (link_word h k)) f ≡ detach_of s h f k
    detach_ringed e q = detach_ring s h f k p ep e (eqb-false (get_or s.kinds k 0) 3 (sym ef ∙ q))

-- what the search over the row finds, where the first word leads elsewhere
module _ (s : Settings) (r : Rest) (ws h f : List ℕ) (k : ℕ) (framed : Bool) (w a : ℕ) where
  pub search_viewed : framed ≡ periodic (state_of s r ws) k → w ≡ cond framed (get_or f 0 0) (get_or h 0 0) → a ≡ head_address (state_of s r ws) k
      → (w / 32 ≡ a / 32 → ⊥) → (p : Predecessor) → p ≡ search_from (state_of s r ws) h k 0 s.endpoints
      → p ≡ predecessor_of (state_of s r ws) h f k
  unfolding state_of
  search_viewed ef ew ea e p ep = search_given (state_of s r ws) h f k framed ef w a ew ea e p ep
