-- How many slots wait for v more advances.
use Prim.Native.Nat.{ℕ, zero, suc, ◌+◌, ◌-◌, ◌≤◌, ◌<◌}
use mathlib.Core.Bool.{Bool, true, false}
use mathlib.Core.Path.{◌≡◌, refl, sym, ap, ◌∙◌}
use native.Mathlib.Decide.{ℕ_discrete as dec_eq}
use native.Mathlib.Omega.{arith}
use borrow.Author.Tests.{eq-eqb, eqb-true, eqb-false, lt-ltb, ne_eqb}
use lib.Dec.{eqb, ltb}
use Rattle.pipe.specs.Endpoints.{flag_number}
use Rattle.pipe.specs.declared.endpoints.Endpoint.{Endpoint}
use Rattle.pipe.specs.declared.endpoints.Endpoint.TheVariants.{Closed, Idle, Linked, Unlinking}
use Rattle.pipe.specs.declared.endpoints.UnlinkBoundary.{UnlinkBoundary}
use Rattle.pipe.specs.declared.endpoints.UnlinkBoundary.TheVariants.{Async, Periodic}

abbrev pub is_left : ℕ → UnlinkBoundary → Bool
is_left v (Async n) = eqb n v
is_left v (Periodic start) = false

abbrev pub waits_for : ℕ → Endpoint → Bool
waits_for v Closed = false
waits_for v (Idle p) = false
waits_for v (Linked p r) = false
waits_for v (Unlinking p r b) = is_left v b

-- of the first so many slots
abbrev pub waiting : ℕ → (ℕ → Endpoint) → ℕ → ℕ
waiting v f zero = 0
waiting v f (suc n) = flag_number (waits_for v (f n)) + waiting v f n

pub waiting_same : (v : ℕ) (f g : ℕ → Endpoint) (n : ℕ) → ((k : ℕ) → waits_for v (f k) ≡ waits_for v (g k)) → waiting v f n ≡ waiting v g n
waiting_same v f g zero e = refl
waiting_same v f g (suc n) e = simp (e n, waiting_same v f g n e)

-- one slot changes
module _ (v : ℕ) (f g : ℕ → Endpoint) (k : ℕ) (others : (j : ℕ) → (j ≡ k → ⊥) → g j ≡ f j) where
  beyond : (n : ℕ) → n ≤ k → waiting v g n ≡ waiting v f n
  beyond zero h = refl
  beyond (suc n) h = simp (others n (λ e. omega arith), beyond n (omega arith))

  pub waiting_set : (n : ℕ) → k < n → waiting v g n + flag_number (waits_for v (f k)) ≡ waiting v f n + flag_number (waits_for v (g k))
  waiting_set zero h = absurd (omega arith)
  waiting_set (suc n) h = by (dec_eq n k) (waiting_set n)
    where
      by : Dec (n ≡ k) → (k < n → waiting v g n + flag_number (waits_for v (f k)) ≡ waiting v f n + flag_number (waits_for v (g k)))
          → flag_number (waits_for v (g n)) + waiting v g n + flag_number (waits_for v (f k)) ≡ flag_number (waits_for v (f n)) + waiting v f n + flag_number (waits_for v (g k))
      by (yes e) rec = omega (arith, beyond n (omega arith), ap (λ (i : ℕ). flag_number (waits_for v (g i))) e, ap (λ (i : ℕ). flag_number (waits_for v (f i))) e)
      by (no ne) rec = omega (arith, rec (omega arith), ap (λ (x : Endpoint). flag_number (waits_for v x)) (others n ne))

-- every count falls by one
abbrev pub fallen_boundary : UnlinkBoundary → UnlinkBoundary
fallen_boundary (Async n) = Async (n - 1)
fallen_boundary (Periodic start) = Periodic start

abbrev pub fallen : Endpoint → Endpoint
fallen Closed = Closed
fallen (Idle p) = Idle p
fallen (Linked p r) = Linked p r
fallen (Unlinking p r b) = Unlinking p r (fallen_boundary b)

left_fall : (v : ℕ) (b : UnlinkBoundary) → is_left (suc v) (fallen_boundary b) ≡ is_left (suc (suc v)) b
left_fall v (Periodic start) = refl
left_fall v (Async n) = go (eqb n (suc (suc v))) refl
  where
    go : (b : Bool) → eqb n (suc (suc v)) ≡ b → eqb (n - 1) (suc v) ≡ eqb n (suc (suc v))
    go true e = eq-eqb (n - 1) (suc v) (omega (arith, eqb-true n (suc (suc v)) e)) ∙ sym e
    go false e = ne_eqb (n - 1) (suc v) (λ x. eqb-false n (suc (suc v)) e (omega arith)) ∙ sym e

waits_fall : (v : ℕ) (x : Endpoint) → waits_for (suc v) (fallen x) ≡ waits_for (suc (suc v)) x
waits_fall v Closed = refl
waits_fall v (Idle p) = refl
waits_fall v (Linked p r) = refl
waits_fall v (Unlinking p r b) = left_fall v b

pub waiting_fall : (v : ℕ) (f g : ℕ → Endpoint) → ((k : ℕ) → g k ≡ fallen (f k)) → (n : ℕ) → waiting (suc v) g n ≡ waiting (suc (suc v)) f n
waiting_fall v f g e zero = refl
waiting_fall v f g e (suc n) = simp (e n, waits_fall v (f n), waiting_fall v f g e n)

pub waiting_none : (v : ℕ) (f : ℕ → Endpoint) → ((k : ℕ) → f k ≡ Closed) → (n : ℕ) → waiting v f n ≡ 0
waiting_none v f e zero = refl
waiting_none v f e (suc n) = simp (e n, waiting_none v f e n)

-- ---- how many wait for 1 to u: at most all of them

abbrev up_to : ℕ → (ℕ → Endpoint) → ℕ → ℕ
up_to zero f n = 0
up_to (suc u) f n = waiting (suc u) f n + up_to u f n

abbrev one_up_to : ℕ → Endpoint → ℕ
one_up_to zero x = 0
one_up_to (suc u) x = flag_number (waits_for (suc u) x) + one_up_to u x

none_waits : (u : ℕ) (x : Endpoint) → ((v : ℕ) → waits_for v x ≡ false) → one_up_to u x ≡ 0
none_waits zero x e = refl
none_waits (suc u) x e = omega (arith, ap flag_number (e (suc u)), none_waits u x e)

abbrev left : ℕ → UnlinkBoundary → ℕ
left zero b = 0
left (suc u) b = flag_number (is_left (suc u) b) + left u b

left_least : (u n : ℕ) → u < n → left u (Async n) ≡ 0
left_least zero n h = refl
left_least (suc u) n h = simp (ne_eqb n (suc u) (λ e. omega arith)) (omega (arith, left_least u n (omega arith)))

left_most : (u : ℕ) (b : UnlinkBoundary) → left u b ≤ 1
left_most zero b = omega arith
left_most (suc u) (Periodic start) = omega (arith, left_most u (Periodic start))
left_most (suc u) (Async n) = go (eqb n (suc u)) refl (left_most u (Async n))
  where
    go : (b : Bool) → eqb n (suc u) ≡ b → left u (Async n) ≤ 1 → flag_number (eqb n (suc u)) + left u (Async n) ≤ 1
    go true e rec = simp e (omega (arith, left_least u n (omega (arith, eqb-true n (suc u) e))))
    go false e rec = simp e (omega arith)

one_most : (u : ℕ) (x : Endpoint) → one_up_to u x ≤ 1
one_most u Closed = omega (arith, none_waits u Closed (λ v. refl))
one_most u (Idle p) = omega (arith, none_waits u (Idle p) (λ v. refl))
one_most u (Linked p r) = omega (arith, none_waits u (Linked p r) (λ v. refl))
one_most u (Unlinking p r b) = omega (arith, same u, left_most u b)
  where
    same : (u : ℕ) → one_up_to u (Unlinking p r b) ≡ left u b
    same zero = refl
    same (suc u) = simp (same u)

up_to_slot : (u : ℕ) (f : ℕ → Endpoint) (n : ℕ) → up_to u f (suc n) ≡ one_up_to u (f n) + up_to u f n
up_to_slot zero f n = refl
up_to_slot (suc u) f n = omega (arith, up_to_slot u f n)

up_to_none : (u : ℕ) (f : ℕ → Endpoint) → up_to u f 0 ≡ 0
up_to_none zero f = refl
up_to_none (suc u) f = omega (arith, up_to_none u f)

up_to_most : (u : ℕ) (f : ℕ → Endpoint) (n : ℕ) → up_to u f n ≤ n
up_to_most u f zero = omega (arith, up_to_none u f)
up_to_most u f (suc n) = omega (arith, up_to_slot u f n, one_most u (f n), up_to_most u f n)

-- if each of 1 to u is waited for once, u is at most their number
pub most : (u : ℕ) (f : ℕ → Endpoint) (n : ℕ) → ((v : ℕ) → waiting (suc v) f n ≡ flag_number (ltb v u)) → u ≤ n
most u f n each = omega (arith, all u (omega arith), up_to_most u f n)
  where
    all : (m : ℕ) → m ≤ u → up_to m f n ≡ m
    all zero h = refl
    all (suc m) h = omega (arith, each m, all m (omega arith), ap flag_number (lt-ltb m u (omega arith)))
