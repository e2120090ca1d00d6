-- What good settings are, in plain facts; and that the test of two areas is the right one: it is true where no address is
-- in both, and false where one is.
use Prim.Native.Nat.{ℕ, ◌+◌, ◌%◌, ◌^◌, ◌≤◌, ◌<◌, max}
use mathlib.Core.Path.{◌≡◌, refl}
use mathlib.Core.Bool.{Bool, true, false}
use native.Mathlib.Omega.{arith}
use borrow.Author.Tests.{eq-eqb, eqb-true, le-leb, leb-false, leb-true}
use lib.Dec.{leb}
use Rattle.settings.specs.declared.settings.Settings.{Settings}
use Rattle.common.specs.Tests.{within}
use Rattle.settings.specs.Settings.{apart_areas, area_good, each_good, frames_size, heads_size, no_overlap, numbers_good, pool_size, settings_good, setups_size}
use Rattle.common.proofs.TestLaws.{both_tells, within_least, within_makes, within_most}

-- ---- two areas

module _ (a m b n : ℕ) where
  -- no address is in both
  pub apart_disjoint : apart_areas a m b n ≡ true → (x : ℕ) → a ≤ x → x < a + m → b ≤ x → x < b + n → ⊥
  unfolding apart_areas
  apart_disjoint e x ha hm hb hn = by (leb a b) refl
    where
      by : (t : Bool) → leb a b ≡ t → ⊥
      by true q = omega (arith, leb-true (a + m) b (rw q at e))
      by false q = omega (arith, leb-true (b + n) a (rw q at e))

  -- the larger of the two starts is in both
  pub overlap_shares : apart_areas a m b n ≡ false → 1 ≤ m → 1 ≤ n
      → (a ≤ max a b) × (max a b < a + m) × (b ≤ max a b) × (max a b < b + n)
  unfolding apart_areas
  overlap_shares e hm hn = by (leb a b) refl
    where
      by : (t : Bool) → leb a b ≡ t → (a ≤ max a b) × (max a b < a + m) × (b ≤ max a b) × (max a b < b + n)
      by true q = omega (arith, leb-true a b q, leb-false (a + m) b (rw q at e))
      by false q = omega (arith, leb-false a b q, leb-false (b + n) a (rw q at e))

-- ---- settings

pub record Good (s : Settings) : Type 0 where
  pub descriptors_least : 1 ≤ s.descriptors
  pub descriptors_most : s.descriptors ≤ 256
  pub endpoints_least : 1 ≤ s.endpoints
  pub endpoints_most : s.endpoints ≤ 32
  pub ports_least : 1 ≤ s.ports
  pub ports_most : s.ports ≤ 15
  pub limit_least : 1 ≤ s.limit
  pub limit_most : s.limit ≤ 16384
  pub wait_least : 1 ≤ s.wait
  pub wait_most : s.wait ≤ 65536
  pub pool_aligned : s.pool % 64 ≡ 0
  pub heads_aligned : s.heads % 128 ≡ 0
  pub frames_aligned : s.frames % 4096 ≡ 0
  pub setups_aligned : s.setups % 8 ≡ 0
  pub pool_ends : s.pool + pool_size s ≤ 2 ^ 32
  pub heads_end : s.heads + heads_size s ≤ 2 ^ 32
  pub frames_end : s.frames + frames_size ≤ 2 ^ 32
  pub setups_end : s.setups + setups_size s ≤ 2 ^ 32
  pub pool_heads : apart_areas s.pool (pool_size s) s.heads (heads_size s) ≡ true
  pub pool_frames : apart_areas s.pool (pool_size s) s.frames frames_size ≡ true
  pub pool_setups : apart_areas s.pool (pool_size s) s.setups (setups_size s) ≡ true
  pub heads_frames : apart_areas s.heads (heads_size s) s.frames frames_size ≡ true
  pub heads_setups : apart_areas s.heads (heads_size s) s.setups (setups_size s) ≡ true
  pub frames_setups : apart_areas s.frames frames_size s.setups (setups_size s) ≡ true

area_tells : (a n size : ℕ) → area_good a n size ≡ true → (a % n ≡ 0) × (a + size ≤ 2 ^ 32)
unfolding area_good
area_tells a n size e =
    let p = both_tells _ _ e in
    (eqb-true (a % n) 0 p.0, leb-true (a + size) (2 ^ 32) p.1)

area_makes : (a n size : ℕ) → a % n ≡ 0 → a + size ≤ 2 ^ 32 → area_good a n size ≡ true
unfolding area_good
area_makes a n size ea es = rw (eq-eqb (a % n) 0 ea, le-leb (a + size) (2 ^ 32) es)

module _ (s : Settings) where
  pub good_tells : settings_good s ≡ true → Good s
  unfolding settings_good numbers_good each_good no_overlap
  good_tells e =
      let parts = both_tells (numbers_good s) _ e in
      let areas = both_tells (each_good s) (no_overlap s) parts.1 in
      let d = both_tells (within s.descriptors 1 256) _ parts.0 in
      let en = both_tells (within s.endpoints 1 32) _ d.1 in
      let po = both_tells (within s.ports 1 15) _ en.1 in
      let li = both_tells (within s.limit 1 16384) _ po.1 in
      let wa = both_tells (within s.wait 1 65536) _ li.1 in
      let p = both_tells (area_good s.pool 64 (pool_size s)) _ areas.0 in
      let h = both_tells (area_good s.heads 128 (heads_size s)) _ p.1 in
      let f = both_tells (area_good s.frames 4096 frames_size) _ h.1 in
      let u = both_tells (area_good s.setups 8 (setups_size s)) _ f.1 in
      let ph = both_tells (apart_areas s.pool (pool_size s) s.heads (heads_size s)) _ areas.1 in
      let pf = both_tells (apart_areas s.pool (pool_size s) s.frames frames_size) _ ph.1 in
      let pu = both_tells (apart_areas s.pool (pool_size s) s.setups (setups_size s)) _ pf.1 in
      let hf = both_tells (apart_areas s.heads (heads_size s) s.frames frames_size) _ pu.1 in
      let hu = both_tells (apart_areas s.heads (heads_size s) s.setups (setups_size s)) _ hf.1 in
      let fu = both_tells (apart_areas s.frames frames_size s.setups (setups_size s)) _ hu.1 in
      record {
        descriptors_least = within_least s.descriptors 1 256 d.0;
        descriptors_most = within_most s.descriptors 1 256 d.0;
        endpoints_least = within_least s.endpoints 1 32 en.0;
        endpoints_most = within_most s.endpoints 1 32 en.0;
        ports_least = within_least s.ports 1 15 po.0;
        ports_most = within_most s.ports 1 15 po.0;
        limit_least = within_least s.limit 1 16384 li.0;
        limit_most = within_most s.limit 1 16384 li.0;
        wait_least = within_least s.wait 1 65536 wa.0;
        wait_most = within_most s.wait 1 65536 wa.0;
        pool_aligned = (area_tells s.pool 64 (pool_size s) p.0).0;
        heads_aligned = (area_tells s.heads 128 (heads_size s) h.0).0;
        frames_aligned = (area_tells s.frames 4096 frames_size f.0).0;
        setups_aligned = (area_tells s.setups 8 (setups_size s) u.0).0;
        pool_ends = (area_tells s.pool 64 (pool_size s) p.0).1;
        heads_end = (area_tells s.heads 128 (heads_size s) h.0).1;
        frames_end = (area_tells s.frames 4096 frames_size f.0).1;
        setups_end = (area_tells s.setups 8 (setups_size s) u.0).1;
        pool_heads = ph.0;
        pool_frames = pf.0;
        pool_setups = pu.0;
        heads_frames = hf.0;
        heads_setups = hu.0;
        frames_setups = fu.0;
      }

  pub good_makes : Good s → settings_good s ≡ true
  unfolding settings_good numbers_good each_good no_overlap
  good_makes g =
      rw (
        within_makes s.descriptors 1 256 g.descriptors_least g.descriptors_most,
        within_makes s.endpoints 1 32 g.endpoints_least g.endpoints_most,
        within_makes s.ports 1 15 g.ports_least g.ports_most,
        within_makes s.limit 1 16384 g.limit_least g.limit_most,
        within_makes s.wait 1 65536 g.wait_least g.wait_most,
        area_makes s.pool 64 (pool_size s) g.pool_aligned g.pool_ends,
        area_makes s.heads 128 (heads_size s) g.heads_aligned g.heads_end,
        area_makes s.frames 4096 frames_size g.frames_aligned g.frames_end,
        area_makes s.setups 8 (setups_size s) g.setups_aligned g.setups_end,
        g.pool_heads,
        g.pool_frames,
        g.pool_setups,
        g.heads_frames,
        g.heads_setups,
        g.frames_setups,
      )
