-- The returns of opening.
use Rattle.std.specs.Prelude.{◌≡◌, ℕ, zero, suc, ◌+◌, ◌-◌, ◌%◌, ◌^◌, ◌<◌, ◌≤◌, Bool, true, false, not, ◌&&◌, eqb, List, ◌++◌, length, drop, replicate, Err, Ok, Result, ⊤}
use mathlib.Core.Path.{sym, ap, ◌∙◌}
use native.Mathlib.Decide.{ℕ_discrete as dec_eq}
use native.Mathlib.Omega.{arith}
use borrow.Author.Tests.{eq-eqb, eqb-true, leb-true, ne_eqb, not-false}
use native.Mathlib.Nat.{sub-zero, suc-sub-suc, zero-sub}
use Rattle.descriptor.specs.Descriptors.{terminated}
use Rattle.descriptor.specs.Heads.{ring_head, words_of}
use Rattle.descriptor.specs.declared.head.QueueHead.{QueueHead}
use Rattle.settings.specs.declared.settings.Settings.{Settings}
use Rattle.opening.specs.Opening.{rows_are_fit, opened_heads}
use Rattle.opening.specs.Words.{open_count}
use Rattle.common.specs.declared.answer.Refusal.{Refusal}
use Rattle.common.specs.Rows.{put_at}
use Rattle.settings.specs.Settings.{settings_good, numbers_good, each_good, area_good, pool_size, heads_size, heads_length, setups_length, pool_length, frames_length}
use Rattle.common.proofs.TestLaws.{every_4, both_first, both_second}

pub fit_is : (s : Settings) (p h f u : ℕ) (fits : Bool) → fits ≡ eqb p (pool_length s)
    → (fits && eqb h (heads_length s) && eqb f frames_length && eqb u (setups_length s)) ≡ rows_are_fit s p h f u
unfolding rows_are_fit
fit_is s p h f u fits e = rw e (every_4 (eqb p (pool_length s)) (eqb h (heads_length s)) (eqb f frames_length) (eqb u (setups_length s)))

-- how many records are opened
pub count_done : (a : (Result ⊤ Refusal)) (pool : ℕ) → a ≡ (Ok tt) → pool ≡ open_count a pool
count_done a pool e = rw e

pub count_refused : (a : (Result ⊤ Refusal)) (pool : ℕ) (r : Refusal) → a ≡ Err r → 0 ≡ open_count a pool
count_refused a pool r e = rw e

-- D records and the shared one
pub none_fits : (d p : ℕ) → p ≡ 0 → not (eqb p 0) ≡ eqb p (d + 1)
none_fits d p z = ap not (eq-eqb p 0 z) ∙ sym (ne_eqb p (d + 1) (λ e. omega (arith, z, e)))

pub one_less : (d p : ℕ) → (p ≡ 0 → ⊥) → eqb (p - 1) d ≡ eqb p (d + 1)
one_less d p z = by (dec_eq (p - 1) d)
  where
    by : Dec (p - 1 ≡ d) → eqb (p - 1) d ≡ eqb p (d + 1)
    by (yes e) = eq-eqb (p - 1) d e ∙ sym (eq-eqb p (d + 1) (omega (arith, z, e)))
    by (no n) = ne_eqb (p - 1) d n ∙ sym (ne_eqb p (d + 1) (λ e. n (omega (arith, e))))

module _ (s : Settings) (pool : ℕ) (h f u : List ℕ) (g : Bool) (eg : g ≡ settings_good s) where
  module _ (fit : Bool) (ef : fit ≡ rows_are_fit s pool (length h) (length f) (length u)) where
    -- rows that fit have the lengths that the settings ask
    pub fit_lengths : not fit ≡ false → (length h ≡ heads_length s) × (length f ≡ 1024) × (length u ≡ setups_length s)
    unfolding rows_are_fit
    fit_lengths t =
        let all = sym ef ∙ not-false fit t in
        let after = both_second (eqb pool (pool_length s)) _ all in
        let later = both_second (eqb (length h) (heads_length s)) _ after in (
          eqb-true (length h) (heads_length s) (both_first _ _ after),
          eqb-true (length f) 1024 (both_first _ _ later),
          eqb-true (length u) (setups_length s) (both_first _ _ (both_second (eqb (length f) 1024) _ later)),
        )

pub area_ends : (a n size : ℕ) → area_good a n size ≡ true → a + size ≤ 2 ^ 32
unfolding area_good
area_ends a n size e = leb-true (a + size) (2 ^ 32) (both_second (eqb (a % n) 0) _ e)

-- good settings have their heads below the end of memory
pub heads_below : (s : Settings) (g : Bool) → g ≡ settings_good s → not g ≡ false → s.heads < 2 ^ 32
unfolding settings_good each_good
heads_below s g eg t =
    let each = both_first (each_good s) _ (both_second (numbers_good s) _ (sym eg ∙ not-false g t)) in
    let later = both_second (area_good s.pool 64 (pool_size s)) _ each in
    omega (arith, area_ends s.heads 128 (heads_size s) (both_first (area_good s.heads 128 (heads_size s)) _ later))

drop_zeros : (n m : ℕ) → drop {A = ℕ} n (replicate m 0) ≡ replicate (m - n) 0
drop_zeros zero m = rw (sub-zero m)
drop_zeros (suc n) zero = rw (zero-sub (suc n))
drop_zeros (suc n) (suc m) = rw (suc-sub-suc m n) (drop_zeros n m)

pub heads_opened : (a n : ℕ) (l l' ws : List ℕ) (q : QueueHead) → l ≡ replicate n 0 → q ≡ ring_head a → ws ≡ words_of q
    → l' ≡ put_at l 0 ws → l' ≡ opened_heads a n
unfolding opened_heads put_at ring_head terminated
heads_opened a n l l' ws q el eq ew e = rw (e, ew, eq, el) (ap (λ (x : List ℕ). words_of (ring_head a) ++ x) (drop_zeros 17 n))
