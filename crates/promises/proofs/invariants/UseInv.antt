-- The tie between the uses that a history tells of and a world: which slots hold them, which places, and what their records say.
use Prim.Native.Nat.{ℕ, suc, ◌+◌, ◌*◌, ◌≤◌, ◌<◌}
use mathlib.Core.Path.{◌≡◌, refl, sym, ap, ◌∙◌}
use mathlib.Core.Bool.{Bool, true, false, cond, false≢true}
use mathlib.Core.List.{List, [], ◌∷◌}
use native.Mathlib.Omega.{arith}
use borrow.Author.Tests.{eqb-true}
use lib.Dec.{eqb}
use lib.ListN.{drop, get_or, length, take}
use Rattle.common.specs.declared.kinds.Direction.{Direction}
use Rattle.common.specs.declared.kinds.EndpointType.{EndpointType}
use Rattle.descriptor.specs.declared.qtd.QueueTransferDescriptor.{QueueTransferDescriptor}
use Rattle.pool.specs.Chains.{blank}
use Rattle.pool.specs.Places.{count_of, places_from}
use Rattle.pool.specs.Transfers.{record_at}
use Rattle.pool.proofs.PlaceLaws.{places_few, places_length}
use Rattle.settings.specs.declared.settings.Settings.{Settings}
use Rattle.state.specs.Plain.{Ehci}
use Rattle.pipe.specs.Endpoints.{endpoint_at}
use Rattle.pipe.specs.declared.endpoints.Endpoint.{Endpoint}
use Rattle.pipe.specs.declared.endpoints.Endpoint.TheVariants.{Closed, Idle, Linked, Unlinking}
use Rattle.promises.specs.Runs.{History, World}
use Rattle.promises.specs.Walks.{Terminated, next_walk}
use Rattle.promises.specs.Rooms.{Every, transfer_for, untold}
use Rattle.promises.specs.Uses.{Use, is_of, need_of_use, needs, uses, without}

-- ---- who is in a slot

pub data Tenant : Type 0 where
  Nobody : Tenant
  Waits : EndpointType → ℕ → ℕ → Direction → ℕ → Tenant

abbrev pub tenant_of : Endpoint → Tenant
tenant_of Closed = Nobody
tenant_of (Idle p) = Nobody
tenant_of (Linked p r) = Waits p.kind p.size r.id r.direction r.length
tenant_of (Unlinking p r b) = Waits p.kind p.size r.id r.direction r.length

abbrev pub tenant_at : Ehci → ℕ → Tenant
tenant_at s k = tenant_of (endpoint_at s k)

abbrev tenant_number : Tenant → ℕ
tenant_number Nobody = 0
tenant_number (Waits kind z id d n) = 1

pub tenants_apart : (kind : EndpointType) (z id : ℕ) (d : Direction) (n : ℕ) (x : Tenant) → x ≡ Nobody → x ≡ Waits kind z id d n → ⊥
tenants_apart kind z id d n x e f = let z : ◌≡◌ {A = ℕ} 0 1 = ap tenant_number (sym e ∙ f) in omega (arith, z)

-- ---- lists of uses

-- no use is slot k's
abbrev pub Avoids : ℕ → List Use → Type 0
Avoids k us = Every (λ u. u.slot ≡ k → ⊥) us

-- no slot has two
abbrev pub Apart : List Use → Type 0
Apart [] = Unit {0}
Apart (u ∷ us) = Avoids u.slot us × Apart us

pub every_map : (P Q : Use → Type 0) → ((u : Use) → P u → Q u) → (us : List Use) → Every P us → Every Q us
every_map P Q f [] e = tt
every_map P Q f (u ∷ us) e = (f u e.0, every_map P Q f us e.1)

pub every_both : (P Q : Use → Type 0) (us : List Use) → Every P us → Every Q us → Every (λ u. P u × Q u) us
every_both P Q [] e f = tt
every_both P Q (u ∷ us) e f = ((e.0, f.0), every_both P Q us e.1 f.1)

-- what is left of a list by a collection
pub without_every : (k id : ℕ) (P Q : Use → Type 0) → ((u : Use) → P u → is_of k id u ≡ false → Q u) → (us : List Use) → Every P us → Every Q (without k id us)
without_every k id P Q f [] e = tt
without_every k id P Q f (u ∷ us) e = by (is_of k id u) refl (without_every k id P Q f us e.1)
  where
    by : (b : Bool) → is_of k id u ≡ b → Every Q (without k id us) → Every Q (cond (is_of k id u) (without k id us) (u ∷ without k id us))
    by true q rest = rw q rest
    by false q rest = rw q (f u e.0 q, rest)

pub without_apart : (k id : ℕ) (us : List Use) → Apart us → Apart (without k id us)
without_apart k id [] a = tt
without_apart k id (u ∷ us) a = by (is_of k id u) refl (without_apart k id us a.1)
  where
    by : (b : Bool) → is_of k id u ≡ b → Apart (without k id us) → Apart (cond (is_of k id u) (without k id us) (u ∷ without k id us))
    by true q rest = rw q rest
    by false q rest =
        rw q (without_every k id (λ v. v.slot ≡ u.slot → ⊥) (λ v. v.slot ≡ u.slot → ⊥) (λ v n z. n) us a.0, rest)

of_slot : (k id : ℕ) (u : Use) → is_of k id u ≡ true → u.slot ≡ k
of_slot k id u e = by (eqb u.slot k) refl
  where
    by : (b : Bool) → eqb u.slot k ≡ b → u.slot ≡ k
    by true q = eqb-true u.slot k q
    by false q = absurd (false≢true (rw q at e))

-- another slot's use stays in the list
pub without_avoids : (k id j : ℕ) → (j ≡ k → ⊥) → (us : List Use) → Avoids j (without k id us) → Avoids j us
without_avoids k id j ne [] e = tt
without_avoids k id j ne (u ∷ us) e = by (is_of k id u) refl (without_avoids k id j ne us)
  where
    by : (b : Bool) → is_of k id u ≡ b → (Avoids j (without k id us) → Avoids j us) → Avoids j (u ∷ us)
    by true q on = ((λ z. ne (sym z ∙ of_slot k id u q)), on (rw q at e))
    by false q on = let r : Avoids j (u ∷ without k id us) = rw q at e in (r.0, on r.1)

-- ---- the invariant

abbrev pub overlay_next : List ℕ → ℕ → ℕ
overlay_next heads k = get_or heads (17 * (k + 1) + 4) 0

module _ (s : Settings) (owner : List ℕ) (tenant : ℕ → Tenant) (pool : List QueueTransferDescriptor) (heads : List ℕ) where
  abbrev pub places_at : ℕ → List ℕ
  places_at k = places_from 0 (take s.descriptors owner) (k + 1) 256

  pub record Kept (u : Use) : Type 0 where
    pub below : u.slot < s.endpoints
    pub holds : tenant u.slot ≡ Waits u.request.kind u.size u.id u.request.direction u.request.length
    pub places_are : u.places ≡ places_at u.slot
    pub as_needed : length u.places ≡ need_of_use s u
    pub leads : next_walk s pool (overlay_next heads u.slot) ≡ record { met = u.places; end = Terminated }
    -- the records are those that its submit wrote, but for their tokens
    pub written : (j : ℕ) → j < length u.places
        → untold (get_or pool (get_or u.places j 0) blank) ≡ untold (record_at (transfer_for s u) j (drop (suc j) u.places) s.pool)

  pub record HeldBy (us : List Use) : Type 0 where
    pub each : Every Kept us
    pub apart : Apart us
    -- a slot of no use has no request and no place
    pub rest : (k : ℕ) → Avoids k us → (tenant k ≡ Nobody) × (places_at k ≡ [])
    pub room : count_of 0 (take s.descriptors owner) + needs s us ≡ s.descriptors

abbrev pub HeldIn : Settings → List Use → World → Type 0
HeldIn s us w = HeldBy s w.state.owner (tenant_at w.state) w.rows.pool w.rows.heads us

abbrev pub Held : Settings → History → World → Type 0
Held s h w = HeldIn s (uses s h) w

-- ---- consequences

-- a slot without a request is of no use
pub vacant_avoids : (s : Settings) (owner : List ℕ) (tenant : ℕ → Tenant) (pool : List QueueTransferDescriptor) (heads : List ℕ) (us : List Use) (k : ℕ)
    → tenant k ≡ Nobody → Every (Kept s owner tenant pool heads) us → Avoids k us
vacant_avoids s owner tenant pool heads us k e each =
    every_map (Kept s owner tenant pool heads) (λ u. u.slot ≡ k → ⊥)
    (λ u kept z. tenants_apart u.request.kind u.size u.id u.request.direction u.request.length (tenant u.slot) (ap tenant z ∙ e) kept.holds) us each

-- 256 places are all places
pub all_counted : (owner : List ℕ) (x : ℕ) → length owner ≤ 256 → length (places_from 0 owner x 256) ≡ count_of x owner
all_counted owner x h = places_length 0 owner x 256 ∙ omega (arith, places_length 0 owner x (count_of x owner), places_few 0 owner x (count_of x owner))
