-- What a call that is made directly leaves, by what it is lent. It judges that once: where it is not in its ranges the call refuses with 1 and all
-- stays as it was, else it leaves what the call's definition says of the state that the words stand for.
use Rattle.std.specs.Prelude.{◌≡◌, ℕ, ◌+◌, ◌*◌, Bool, true, false, ◌&&◌, List, length, ◌==◌}
use Rattle.opening.specs.Opening.{rows_are_fit}
use Rattle.state.specs.Plain.{Ehci}
use Rattle.state.specs.Ranges.{in_ranges}
use Rattle.words.specs.declared.cores.Core.{Core}
use Rattle.words.specs.declared.cores.Rest.{Rest}
use Rattle.words.specs.Good.{Tidy}
use Rattle.words.specs.View.{view}
use Rattle.word_ranges.specs.Judge.{core_good, words_good}

-- ---- what is judged

abbrev pub takes_core : Core → Bool
takes_core c = core_good c.settings c.rest

abbrev pub takes_slots : Core → List ℕ → Bool
takes_slots c ws = words_good c.settings c.rest ws

unfoldable pub takes_heads : Core → List ℕ → ℕ → Bool
takes_heads c ws heads = heads == 17 * (c.settings.endpoints + 1) && takes_slots c ws

unfoldable pub takes_frames : Core → List ℕ → ℕ → ℕ → Bool
takes_frames c ws heads frames = frames == 1024 && takes_heads c ws heads

-- ---- what is left. R is what the call returns, S the same of a plain state; `rest` is the rest that r returns

-- the slots are not judged: what is left is that of any slots with which the state is in its ranges
pub record CoreCall {R S : Type 0} (c : Core) (r refusal : R) (rest : Rest) (seen : List ℕ → S) (decides : Ehci → S) : Type 0 where
  pub refused : takes_core c ≡ false → r ≡ refusal
  pub decided : (ws : List ℕ) → in_ranges (view c ws) ≡ true → seen ws ≡ decides (view c ws)
  pub free_stays : takes_core c ≡ true → rest.free ≡ c.rest.free

pub record SlotsCall {R S : Type 0} (c : Core) (ws ws' : List ℕ) (r refusal : R) (rest : Rest) (seen : S) (decides : Ehci → S) : Type 0 where
  pub refused : takes_slots c ws ≡ false → (r ≡ refusal) × (ws' ≡ ws)
  pub decided : takes_slots c ws ≡ true → seen ≡ decides (view c ws)
  pub tidy : takes_slots c ws ≡ true → Tidy c.settings rest ws'

-- the rows that are not lent have the lengths that opening fixed
pub record HeadsCall {R S : Type 0} (c : Core) (ws ws' heads heads' : List ℕ) (r refusal : R) (rest : Rest) (seen : S) (decides : ℕ → ℕ → ℕ → S) : Type 0 where
  pub refused : takes_heads c ws (length heads) ≡ false → (r ≡ refusal) × (ws' ≡ ws) × (heads' ≡ heads)
  pub decided : takes_heads c ws (length heads) ≡ true → (pool frames setups : ℕ)
      → rows_are_fit c.settings pool (length heads) frames setups ≡ true → seen ≡ decides pool frames setups
  pub tidy : takes_heads c ws (length heads) ≡ true → Tidy c.settings rest ws'

pub record FramesCall {R S : Type 0} (c : Core) (ws ws' heads heads' frames frames' : List ℕ) (r refusal : R) (rest : Rest) (seen : S) (decides : ℕ → ℕ → S) : Type 0 where
  pub refused : takes_frames c ws (length heads) (length frames) ≡ false → (r ≡ refusal) × (ws' ≡ ws) × (heads' ≡ heads) × (frames' ≡ frames)
  pub decided : takes_frames c ws (length heads) (length frames) ≡ true → (pool setups : ℕ)
      → rows_are_fit c.settings pool (length heads) (length frames) setups ≡ true → seen ≡ decides pool setups
  pub tidy : takes_frames c ws (length heads) (length frames) ≡ true → Tidy c.settings rest ws'
