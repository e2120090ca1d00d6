-- A row of slots has a request in a slot exactly where the state that it stands for has an uncollected one; and the loop over the row.
use Rattle.std.specs.Prelude.{◌≡◌, ℕ, zero, suc, ◌+◌, ◌-◌, ◌*◌, ◌%◌, ◌<◌, ◌≤◌, Bool, false, ◌||◌, leb, List, length, get_or}
use mathlib.Core.Path.{refl, sym, ap, ◌∙◌}
use native.Mathlib.Numerals.{add-one}
use native.Mathlib.Omega.{arith}
use Rattle.common.proofs.TestLaws.{either_assoc}
use Rattle.settings.specs.declared.settings.Settings.{Settings}
use Rattle.controller.specs.Readers.{is_uncollected}
use Rattle.words.specs.declared.cores.Rest.{Rest}
use Rattle.words.specs.Good.{Good}
use Rattle.words.specs.Record.{phase_in, word_at}
use Rattle.words.specs.View.{state_of}
use Rattle.words.proofs.GoodLaws.{good_settings}
use Rattle.words.proofs.RowLaws.{word_beyond}
use Rattle.words.proofs.ViewLaws.{view_phase}
use Rattle.bring_up.specs.BringUp.{any_uncollected, held_in}
use Rattle.bring_up.specs.Words.{any_held}
use Rattle.bring_up.proofs.Cases.{either_false, held_is}

-- ---- a slot

phase_held : (n : ℕ) → n < 4 → leb 2 n ≡ held_in n
phase_held zero h = refl
phase_held (suc zero) h = refl
phase_held (suc (suc zero)) h = refl
phase_held (suc (suc (suc zero))) h = refl
phase_held (suc (suc (suc (suc n)))) h = absurd (omega arith)

module _ (s : Settings) (r : Rest) (ws : List ℕ) where
  slot_held : (k : ℕ) → k < 32 → leb 2 (phase_in (word_at ws k)) ≡ is_uncollected (state_of s r ws) k
  slot_held k h =
      phase_held (phase_in (word_at ws k)) (omega arith) ∙ ap (λ n. held_in n) (sym (view_phase s r ws k h)) ∙ held_is (state_of s r ws) k h

  -- ---- the row

  none_beyond : (k n : ℕ) → length ws ≤ 6 * k → k + n ≤ 32 → any_uncollected k n (state_of s r ws) ≡ false
  unfolding any_uncollected
  none_beyond k zero l h = refl
  none_beyond k (suc n) l h =
      rw (sym (slot_held k (omega arith)), word_beyond ws k l) (none_beyond (suc k) n (omega arith) (omega arith))

  -- m slots of the row, and n of the state
  held_row : (k m n : ℕ) → m ≤ n → k + n ≤ 32 → length ws ≡ 6 * (k + m) → any_held k m ws ≡ any_uncollected k n (state_of s r ws)
  unfolding any_held any_uncollected
  held_row k zero n l h e = sym (none_beyond k n (omega arith) h)
  held_row k (suc m) zero l h e = absurd (omega arith)
  held_row k (suc m) (suc n) l h e =
      rw (slot_held k (omega arith), held_row (suc k) m n (omega arith) (omega arith) (omega arith))

  pub held_view : Good s r ws → any_held 0 s.endpoints ws ≡ any_uncollected 0 32 (state_of s r ws)
  held_view good =
      held_row 0 s.endpoints 32 (good_settings s r ws good).endpoints_most (omega arith)
      (omega (arith, good.tidy.has_row_length))

-- ---- the loop

pub held_begun : (ws : List ℕ) (end : ℕ) → (false || any_held 0 (end - 0) ws) ≡ any_held 0 end ws
held_begun ws end = ap (λ n. any_held 0 n ws) (omega arith)

pub held_turn : (ws : List ℕ) (end k : ℕ) (b : Bool) → k < end
    → (b || leb 2 (get_or ws (6 * k) 0 % 4) || any_held (k + 1) (end - (k + 1)) ws) ≡ (b || any_held k (end - k) ws)
unfolding any_held
held_turn ws end k b h = rw (add-one k, more) (either_assoc b _ _)
  where
    more : end - k ≡ suc (end - suc k)
    more = omega arith

pub held_done : (ws : List ℕ) (end k : ℕ) (b all : Bool) → end ≤ k → (b || any_held k (end - k) ws) ≡ all → b ≡ all
unfolding any_held
held_done ws end k b all h e = sym (either_false b) ∙ (rw none at e)
  where
    none : end - k ≡ 0
    none = omega arith
