-- The contract fixes every word that a call leaves.
use Prim.Native.Nat.{ℕ, ◌≤◌}
use mathlib.Core.Bool.{Bool, true, false}
use mathlib.Core.List.{List}
use mathlib.Core.Path.{◌≡◌, refl, sym, ap, ◌∙◌}
use Rattle.settings.specs.declared.settings.Settings.{Settings}
use Rattle.words.specs.declared.cores.Rest.{Rest}
use Rattle.words.proofs.GoodLaws.{good_settings}
use Rattle.words.proofs.OneLaws as One
use Rattle.ehci.specs.declared.call.Call.{Call}
use Rattle.ehci.specs.Door.{Applied}
use Rattle.promises.specs.Runs.{Machine, WorldIn}
use Rattle.promises.specs.WordsRuns.{Does, OneResult, Typed, WordsApplied, in_words, let_in, view_applied}
use Rattle.promises.proofs.theorems.WordsCalls.{let_in_good}

pub typed_one : (r : Rest) (ws : List ℕ) → Typed r ws → One.Typed r ws
typed_one r ws t = record { four = t.four; free_fits = t.free_fits; row_fits = t.row_fits }

-- what a call leaves is what it stands for, and the words
whole : (s : Settings) (a b : WordsApplied) → view_applied s a ≡ view_applied s b → a.reply.rest ≡ b.reply.rest → a.slots ≡ b.slots → a ≡ b
whole s a b e rest slots =
    parts rest (ap (λ (x : Applied). x.reply.answer) e) (ap (λ (x : Applied). x.reply.writes) e) slots (ap (λ (x : Applied). x.pool) e)
    (ap (λ (x : Applied). x.heads) e) (ap (λ (x : Applied). x.frames) e) (ap (λ (x : Applied). x.setups) e)
  where
    parts : a.reply.rest ≡ b.reply.rest → a.reply.answer ≡ b.reply.answer → a.reply.writes ≡ b.reply.writes → a.slots ≡ b.slots
        → a.pool ≡ b.pool → a.heads ≡ b.heads → a.frames ≡ b.frames → a.setups ≡ b.setups
        → ◌≡◌ {A = WordsApplied}
        (record { reply = record { rest = a.reply.rest; answer = a.reply.answer; writes = a.reply.writes }; slots = a.slots; pool = a.pool; heads = a.heads; frames = a.frames; setups = a.setups })
        (record { reply = record { rest = b.reply.rest; answer = b.reply.answer; writes = b.reply.writes }; slots = b.slots; pool = b.pool; heads = b.heads; frames = b.frames; setups = b.setups })
    parts p q r t u v x y = rw (p, q, r, t, u, v, x, y)

module _ (m m' : Machine in_words) (does : Does m) (does' : Does m') (w : WorldIn in_words) (c : Call) (typed : Typed w.state.core.rest w.state.slots) where
  abbrev a : WordsApplied
  a = m w c

  abbrev b : WordsApplied
  b = m' w c

  views : view_applied w.state.core.settings a ≡ view_applied w.state.core.settings b
  views = does.replies w c typed ∙ sym (does'.replies w c typed)

  words : (x : Bool) → let_in w ≡ x → (a.reply.rest ≡ b.reply.rest) × (a.slots ≡ b.slots)
  words true e =
      One.view_one w.state.core.settings few a.reply.rest b.reply.rest a.slots b.slots (ap (λ (x : Applied). x.reply.state) views)
      ((does.leaves w c typed).tidy e) ((does'.leaves w c typed).tidy e) (typed_one _ _ (does.typed w c typed)) (typed_one _ _ (does'.typed w c typed))
    where
      few : w.state.core.settings.endpoints ≤ 32
      few = (good_settings w.state.core.settings w.state.core.rest w.state.slots (let_in_good w e)).endpoints_most
  words false e =
      let l = does.leaves w c typed in
      let r = does'.leaves w c typed in
      (l.rest_stays e ∙ sym (r.rest_stays e), l.row_stays e ∙ sym (r.row_stays e))

  one : a ≡ b
  one = let same = words (let_in w) refl in whole w.state.core.settings a b views same.0 same.1

pub one_result : OneResult
one_result m m' does does' w c typed = one m m' does does' w c typed
