-- The returns of the functions on settings.
use Prim.Native.Nat.{ℕ, ◌+◌, ◌-◌, ◌%◌, ◌^◌, ◌≤◌, ◌<◌}
use mathlib.Core.Path.{◌≡◌, sym, ap, ◌∙◌}
use mathlib.Core.Bool.{Bool, true, false, ◌&&◌}
use native.Mathlib.Omega.{arith}
use borrow.Author.Tests.{le-leb, lt-leb}
use lib.Dec.{eqb, leb}
use Rattle.settings.specs.declared.settings.Settings.{Settings}
use Rattle.common.specs.Tests.{within}
use Rattle.settings.specs.Settings.{area_good, apart_areas, numbers_good, each_good, no_overlap, settings_good, pool_size, heads_size, frames_size, setups_size}
use Rattle.common.proofs.TestLaws.{both_first, both_second, every_4, every_5, every_6, same_test, within_most}

pub area_is : (a n s : ℕ) → s ≤ 2 ^ 32 → (eqb (a % n) 0 && leb a (4294967296 - s)) ≡ area_good a n s
unfolding area_good
area_is a n s h = ap (λ t. eqb (a % n) 0 && t) (same_test a (4294967296 - s) (a + s) (2 ^ 32) (λ p. omega arith) (λ p. omega arith))

pub apart_first_lem : (a m b n : ℕ) → a ≤ b → leb m (b - a) ≡ apart_areas a m b n
unfolding apart_areas
apart_first_lem a m b n h = rw (le-leb a b h) (same_test m (b - a) (a + m) b (λ p. omega arith) (λ p. omega arith))

pub apart_second : (a m b n : ℕ) → b < a → leb n (a - b) ≡ apart_areas a m b n
unfolding apart_areas
apart_second a m b n h = rw (lt-leb a b h) (same_test n (a - b) (b + n) a (λ p. omega arith) (λ p. omega arith))

-- settings whose numbers are good have at most 256 descriptors and 32 endpoints
pub numbers_tell : (s : Settings) (r : Bool) → r ≡ numbers_good s → r ≡ true → (s.descriptors ≤ 256) × (s.endpoints ≤ 32)
unfolding numbers_good
numbers_tell s r e t =
    let all = sym e ∙ t in (
      within_most s.descriptors 1 256 (both_first _ _ all),
      within_most s.endpoints 1 32 (both_first _ _ (both_second (within s.descriptors 1 256) _ all)),
    )

pub numbers_is : (s : Settings) → (within s.descriptors 1 256 && within s.endpoints 1 32 && within s.ports 1 15 && within s.limit 1 16384 && within s.wait 1 65536) ≡ numbers_good s
unfolding numbers_good
numbers_is s = every_5 (within s.descriptors 1 256) (within s.endpoints 1 32) (within s.ports 1 15) (within s.limit 1 16384) (within s.wait 1 65536)

pub each_is : (s : Settings) (p h f u : Bool) → p ≡ area_good s.pool 64 (pool_size s) → h ≡ area_good s.heads 128 (heads_size s)
    → f ≡ area_good s.frames 4096 frames_size → u ≡ area_good s.setups 8 (setups_size s) → (p && h && f && u) ≡ each_good s
unfolding each_good
each_is s p h f u ep eh ef eu = every_4 p h f u ∙ rw (ep, eh, ef, eu)

pub overlap_is : (s : Settings) (a b c d e f : Bool) → a ≡ apart_areas s.pool (pool_size s) s.heads (heads_size s)
    → b ≡ apart_areas s.pool (pool_size s) s.frames frames_size → c ≡ apart_areas s.pool (pool_size s) s.setups (setups_size s)
    → d ≡ apart_areas s.heads (heads_size s) s.frames frames_size → e ≡ apart_areas s.heads (heads_size s) s.setups (setups_size s)
    → f ≡ apart_areas s.frames frames_size s.setups (setups_size s) → (a && b && c && d && e && f) ≡ no_overlap s
unfolding no_overlap
overlap_is s a b c d e f ea eb ec ed ee ef = every_6 a b c d e f ∙ rw (ea, eb, ec, ed, ee, ef)

pub good_numbers : (s : Settings) (n each apart : Bool) → n ≡ numbers_good s → n ≡ true → each ≡ each_good s → apart ≡ no_overlap s
    → (each && apart) ≡ settings_good s
unfolding settings_good
good_numbers s n each apart en t ee ea = rw (ee, ea, sym en ∙ t)

pub good_not : (s : Settings) (n : Bool) → n ≡ numbers_good s → n ≡ false → false ≡ settings_good s
unfolding settings_good
good_not s n en t = rw (sym en ∙ t)
