-- What a good slot is, in plain facts by its phase, both ways.
use Prim.Native.Nat.{ℕ, ◌≤◌, ◌<◌}
use mathlib.Core.Path.{◌≡◌, refl, ◌∙◌}
use mathlib.Core.Logic.{◌≢◌}
use mathlib.Core.Bool.{Bool, true, false, ◌||◌}
use native.Mathlib.Decide.{ℕ_discrete as dec_eq}
use native.Mathlib.Omega.{arith}
use borrow.Author.Tests.{eq-eqb, eqb-false, eqb-true, le-leb, le-ltb, leb-true, lt-ltb, ltb-true, ltb-false, ne_eqb}
use lib.Dec.{eqb, leb, ltb}
use Rattle.slot.specs.declared.slot.Slot.{Slot}
use Rattle.slot.specs.Ranges.{boundary_good, closed_good, idle_good, linked_good, no_request, open_kind, phase_good, size_good, size_kept, slot_good, toggle_kept, unlinking_good}
use Rattle.common.specs.Tests.{within}
use Rattle.slot.proofs.SlotCases.{phase_closed, phase_idle, phase_linked, phase_unknown, phase_unlinking}
use Rattle.common.proofs.TestLaws.{within_least, within_most, both_tells, within_makes}

-- ---- the facts

-- control 0, bulk 2 or interrupt 3
pub record OpenKind (kind : ℕ) : Type 0 where
  pub most : kind ≤ 3
  pub never : kind ≢ 1

pub record NoRequest (e : Slot) : Type 0 where
  pub request_none : e.request ≡ 0
  pub direction_none : e.direction ≡ 0
  pub length_none : e.length ≡ 0
  pub cancel_none : e.cancel ≡ 0
  pub boundary_none : e.boundary ≡ 0

pub record Bounded (kind boundary unanswered : ℕ) : Type 0 where
  pub frame : kind ≡ 3 → boundary < 16384
  pub advances : kind ≢ 3 → boundary ≤ unanswered

pub data Phase (e : Slot) (unanswered : ℕ) : Type 0 where
  closed : e.phase ≡ 0 → e.kind ≡ 0 → e.id ≡ 1 → NoRequest e → Phase e unanswered
  idle : e.phase ≡ 1 → OpenKind e.kind → NoRequest e → Phase e unanswered
  linked : e.phase ≡ 2 → OpenKind e.kind → 1 ≤ e.request → e.direction ≤ 1 → e.cancel ≡ 0 → e.boundary ≡ 0 → Phase e unanswered
  unlinking : e.phase ≡ 3 → OpenKind e.kind → 1 ≤ e.request → e.direction ≤ 1 → e.cancel ≤ 1
      → Bounded e.kind e.boundary unanswered → Phase e unanswered

-- a packet size: of bulk and interrupt at most the limit
pub record SizeGood (limit kind size : ℕ) : Type 0 where
  pub size_least : 1 ≤ size
  pub size_most : size ≤ 1024
  pub size_fits : kind ≢ 0 → size ≤ limit

pub record SlotGood (E limit k unanswered : ℕ) (e : Slot) : Type 0 where
  pub id_least : 1 ≤ e.id
  pub closed_from_lem : E ≤ k → e.phase ≡ 0
  pub size_none : e.phase ≡ 0 → e.size ≡ 0
  pub size_open : e.phase ≢ 0 → SizeGood limit e.kind e.size
  pub toggle_none : e.phase ≡ 0 → e.toggle ≡ 0
  pub toggle_flag : e.toggle ≤ 1
  pub by_phase : Phase e unanswered

-- ---- what the tests tell

either_tells : (a b : Bool) → (a || b) ≡ true → a ≡ false → b ≡ true
either_tells a b e f = rw f at e

either_makes : (a b : Bool) → (a ≡ false → b ≡ true) → (a || b) ≡ true
either_makes true b h = refl
either_makes false b h = h refl

pub kind_tells : (kind : ℕ) → open_kind kind ≡ true → OpenKind kind
unfolding open_kind
kind_tells kind e = by (dec_eq kind 0)
  where
    by : Dec (kind ≡ 0) → OpenKind kind
    by (yes q) = record { most = omega arith; never = λ n. omega arith }
    by (no ne) =
        let w : within kind 2 3 ≡ true = rw (ne_eqb kind 0 ne) at e in
        record { most = within_most kind 2 3 w; never = λ n. omega (arith, within_least kind 2 3 w) }

pub kind_makes : (kind : ℕ) → OpenKind kind → open_kind kind ≡ true
unfolding open_kind
kind_makes kind o =
    either_makes (eqb kind 0) (within kind 2 3)
    (λ f. within_makes kind 2 3 (omega (arith, o.never, o.most, eqb-false kind 0 f)) o.most)

module _ (e : Slot) where
  pub none_tells : no_request e ≡ true → NoRequest e
  unfolding no_request
  none_tells t =
      let r = both_tells (eqb e.request 0) _ t in
      let d = both_tells (eqb e.direction 0) _ r.1 in
      let l = both_tells (eqb e.length 0) _ d.1 in
      let c = both_tells (eqb e.cancel 0) _ l.1 in
      let b = both_tells (eqb e.boundary 0) true c.1 in
      record {
        request_none = eqb-true e.request 0 r.0;
        direction_none = eqb-true e.direction 0 d.0;
        length_none = eqb-true e.length 0 l.0;
        cancel_none = eqb-true e.cancel 0 c.0;
        boundary_none = eqb-true e.boundary 0 b.0;
      }

  pub none_makes : NoRequest e → no_request e ≡ true
  unfolding no_request
  none_makes n = rw (n.request_none, n.direction_none, n.length_none, n.cancel_none, n.boundary_none)

pub boundary_tells : (kind boundary unanswered : ℕ) → boundary_good kind boundary unanswered ≡ true → Bounded kind boundary unanswered
unfolding boundary_good
boundary_tells kind boundary unanswered t =
    record {
      frame = λ q. ltb-true boundary 16384 (rw (eq-eqb kind 3 q) at t);
      advances = λ ne. leb-true boundary unanswered (rw (ne_eqb kind 3 ne) at t);
    }

pub boundary_makes : (kind boundary unanswered : ℕ) → Bounded kind boundary unanswered → boundary_good kind boundary unanswered ≡ true
unfolding boundary_good
boundary_makes kind boundary unanswered b = by (dec_eq kind 3)
  where
    by : Dec (kind ≡ 3) → boundary_good kind boundary unanswered ≡ true
    by (yes q) = rw (eq-eqb kind 3 q) (lt-ltb boundary 16384 (b.frame q))
    by (no ne) = rw (ne_eqb kind 3 ne) (le-leb boundary unanswered (b.advances ne))

module _ (e : Slot) (unanswered : ℕ) where
  closed_tells : e.phase ≡ 0 → closed_good e ≡ true → Phase e unanswered
  unfolding closed_good
  closed_tells p t =
      let k = both_tells (eqb e.kind 0) _ t in
      let i = both_tells (eqb e.id 1) _ k.1 in
      let n = both_tells (no_request e) true i.1 in
      closed p (eqb-true e.kind 0 k.0) (eqb-true e.id 1 i.0) (none_tells e n.0)

  idle_tells : e.phase ≡ 1 → idle_good e ≡ true → Phase e unanswered
  unfolding idle_good
  idle_tells p t =
      let k = both_tells (open_kind e.kind) (no_request e) t in
      idle p (kind_tells e.kind k.0) (none_tells e k.1)

  linked_tells : e.phase ≡ 2 → linked_good e ≡ true → Phase e unanswered
  unfolding linked_good
  linked_tells p t =
      let k = both_tells (open_kind e.kind) _ t in
      let r = both_tells (leb 1 e.request) _ k.1 in
      let d = both_tells (leb e.direction 1) _ r.1 in
      let c = both_tells (eqb e.cancel 0) _ d.1 in
      let b = both_tells (eqb e.boundary 0) true c.1 in
      linked p (kind_tells e.kind k.0) (leb-true 1 e.request r.0) (leb-true e.direction 1 d.0)
      (eqb-true e.cancel 0 c.0) (eqb-true e.boundary 0 b.0)

  unlinking_tells : e.phase ≡ 3 → unlinking_good e unanswered ≡ true → Phase e unanswered
  unfolding unlinking_good
  unlinking_tells p t =
      let k = both_tells (open_kind e.kind) _ t in
      let r = both_tells (leb 1 e.request) _ k.1 in
      let d = both_tells (leb e.direction 1) _ r.1 in
      let c = both_tells (leb e.cancel 1) _ d.1 in
      let b = both_tells (boundary_good e.kind e.boundary unanswered) true c.1 in
      unlinking p (kind_tells e.kind k.0) (leb-true 1 e.request r.0) (leb-true e.direction 1 d.0)
      (leb-true e.cancel 1 c.0) (boundary_tells e.kind e.boundary unanswered b.0)

  pub phase_tells : phase_good e unanswered ≡ true → Phase e unanswered
  unfolding idle_good
  phase_tells t = from_closed (dec_eq e.phase 0)
    where
      from_unlinking : e.phase ≢ 0 → e.phase ≢ 1 → e.phase ≢ 2 → Dec (e.phase ≡ 3) → Phase e unanswered
      from_unlinking n₀ n₁ n₂ (yes p) = unlinking_tells p (phase_unlinking e unanswered _ p refl ∙ t)
      from_unlinking n₀ n₁ n₂ (no n₃) =
          let never : false ≡ true = phase_unknown e unanswered n₀ n₁ n₂ n₃ ∙ t in
          let z : ◌≡◌ {A = ℕ} 0 1 = cc in
          absurd (omega arith)

      from_linked : e.phase ≢ 0 → e.phase ≢ 1 → Dec (e.phase ≡ 2) → Phase e unanswered
      from_linked n₀ n₁ (yes p) = linked_tells p (phase_linked e unanswered _ p refl ∙ t)
      from_linked n₀ n₁ (no n₂) = from_unlinking n₀ n₁ n₂ (dec_eq e.phase 3)

      from_idle : e.phase ≢ 0 → Dec (e.phase ≡ 1) → Phase e unanswered
      from_idle n₀ (yes p) = idle_tells p (phase_idle e unanswered (open_kind e.kind) (no_request e) p refl refl ∙ t)
      from_idle n₀ (no n₁) = from_linked n₀ n₁ (dec_eq e.phase 2)

      from_closed : Dec (e.phase ≡ 0) → Phase e unanswered
      from_closed (yes p) = closed_tells p (phase_closed e unanswered _ p refl ∙ t)
      from_closed (no n₀) = from_idle n₀ (dec_eq e.phase 1)

  pub phase_makes : Phase e unanswered → phase_good e unanswered ≡ true
  unfolding phase_good closed_good idle_good linked_good unlinking_good
  phase_makes (closed p k i n) = rw (none_makes e n, p, k, i)
  phase_makes (idle p o n) = rw (none_makes e n, p, kind_makes e.kind o)
  phase_makes (linked p o r d c b) =
      rw (p, kind_makes e.kind o, le-leb 1 e.request r, le-leb e.direction 1 d, c, b)
  phase_makes (unlinking p o r d c b) =
      rw (
        p,
        kind_makes e.kind o,
        le-leb 1 e.request r,
        le-leb e.direction 1 d,
        le-leb e.cancel 1 c,
        boundary_makes e.kind e.boundary unanswered b,
      )

module _ (limit kind size : ℕ) where
  pub size_tells : size_good limit kind size ≡ true → SizeGood limit kind size
  unfolding size_good
  size_tells t =
      let w = both_tells (within size 1 1024) (eqb kind 0 || leb size limit) t in
      record {
        size_least = within_least size 1 1024 w.0;
        size_most = within_most size 1 1024 w.0;
        size_fits = λ ne. leb-true size limit (either_tells (eqb kind 0) (leb size limit) w.1 (ne_eqb kind 0 ne));
      }

  pub size_makes : SizeGood limit kind size → size_good limit kind size ≡ true
  unfolding size_good
  size_makes g =
      rw (
        within_makes size 1 1024 g.size_least g.size_most,
        either_makes (eqb kind 0) (leb size limit) (λ f. le-leb size limit (g.size_fits (eqb-false kind 0 f))),
      )

module _ (limit : ℕ) (e : Slot) where
  kept_none : size_kept limit e ≡ true → e.phase ≡ 0 → e.size ≡ 0
  unfolding size_kept
  kept_none t p = eqb-true e.size 0 (rw (eq-eqb e.phase 0 p) at t)

  kept_open : size_kept limit e ≡ true → e.phase ≢ 0 → SizeGood limit e.kind e.size
  unfolding size_kept
  kept_open t n = size_tells limit e.kind e.size (rw (ne_eqb e.phase 0 n) at t)

  kept_makes : (e.phase ≡ 0 → e.size ≡ 0) → (e.phase ≢ 0 → SizeGood limit e.kind e.size) → size_kept limit e ≡ true
  unfolding size_kept
  kept_makes none sized = by (dec_eq e.phase 0)
    where
      by : Dec (e.phase ≡ 0) → size_kept limit e ≡ true
      by (yes p) = rw (eq-eqb e.phase 0 p) (eq-eqb e.size 0 (none p))
      by (no n) = rw (ne_eqb e.phase 0 n) (size_makes limit e.kind e.size (sized n))

module _ (e : Slot) where
  toggle_tells : toggle_kept e ≡ true → (e.phase ≡ 0 → e.toggle ≡ 0) × (e.toggle ≤ 1)
  unfolding toggle_kept
  toggle_tells t = by (dec_eq e.phase 0)
    where
      by : Dec (e.phase ≡ 0) → (e.phase ≡ 0 → e.toggle ≡ 0) × (e.toggle ≤ 1)
      by (yes p) =
          let z : e.toggle ≡ 0 = eqb-true e.toggle 0 (rw (eq-eqb e.phase 0 p) at t) in
          (λ q. z, omega (arith, z))
      by (no n) = (λ q. absurd (n q), leb-true e.toggle 1 (rw (ne_eqb e.phase 0 n) at t))

  toggle_makes : (e.phase ≡ 0 → e.toggle ≡ 0) → e.toggle ≤ 1 → toggle_kept e ≡ true
  unfolding toggle_kept
  toggle_makes none flag = by (dec_eq e.phase 0)
    where
      by : Dec (e.phase ≡ 0) → toggle_kept e ≡ true
      by (yes p) = rw (eq-eqb e.phase 0 p) (eq-eqb e.toggle 0 (none p))
      by (no n) = rw (ne_eqb e.phase 0 n) (le-leb e.toggle 1 flag)

module _ (E limit k unanswered : ℕ) (e : Slot) where
  pub slot_tells : slot_good E limit k unanswered e ≡ true → SlotGood E limit k unanswered e
  unfolding slot_good
  slot_tells t =
      let i = both_tells (leb 1 e.id) _ t in
      let o = both_tells (ltb k E || eqb e.phase 0) _ i.1 in
      let z = both_tells (size_kept limit e) _ o.1 in
      let g = both_tells (toggle_kept e) _ z.1 in
      let p = both_tells (phase_good e unanswered) true g.1 in
      record {
        id_least = leb-true 1 e.id i.0;
        closed_from_lem = λ h. eqb-true e.phase 0 (either_tells (ltb k E) (eqb e.phase 0) o.0 (le-ltb k E h));
        size_none = kept_none limit e z.0;
        size_open = kept_open limit e z.0;
        toggle_none = (toggle_tells e g.0).0;
        toggle_flag = (toggle_tells e g.0).1;
        by_phase = phase_tells e unanswered p.0;
      }

  pub slot_makes : SlotGood E limit k unanswered e → slot_good E limit k unanswered e ≡ true
  unfolding slot_good
  slot_makes g =
      rw (
        phase_makes e unanswered g.by_phase,
        kept_makes limit e g.size_none g.size_open,
        toggle_makes e g.toggle_none g.toggle_flag,
        le-leb 1 e.id g.id_least,
        either_makes (ltb k E) (eqb e.phase 0) (λ f. eq-eqb e.phase 0 (g.closed_from_lem (ltb-false k E f))),
      )
