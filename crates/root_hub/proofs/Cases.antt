-- The returns of the root hub's functions, and the loop over the ports.
use Rattle.std.specs.Prelude.{None, Ok, Option, Some}
use Prim.Native.Nat.{ℕ, suc, ◌+◌, ◌-◌, ◌≤◌, ◌<◌}
use mathlib.Core.Path.{◌≡◌, refl, sym, ◌∙◌}
use mathlib.Core.Bool.{Bool, true, false, not, ◌&&◌}
use native.Mathlib.Numerals.{add-one}
use native.Mathlib.Omega.{arith}
use borrow.Author.Tests.{eq-eqb, ne_eqb, le-leb, lt-leb, lt-ltb, le-ltb, eqb-false, eqb-true, leb-true, not-false, not-true}
use lib.Dec.{eqb, leb}
use lib.ListN.{get_or, set}
use Rattle.register.specs.Bits.{with_bits, without_bits}
use Rattle.register.specs.EhciRegisters.{portsc_of}
use Rattle.register.specs.Writes.{no_writes, and_then}
use Rattle.register.specs.declared.writes.Writes.{Writes}
use Rattle.token.specs.EhciPortsc.{current_connect, port_enabled}
use Rattle.token.specs.Ports.{is_set}
use Rattle.token.specs.declared.port.EhciPortStatus.{EhciPortStatus}
use Rattle.common.specs.Tests.{within}
use Rattle.common.proofs.TestLaws.{both_assoc, both_true, both_first, both_second, within_least, within_most}
use Rattle.common.specs.declared.answer.Refusal.TheVariants.{InvalidParameter}
use Rattle.opening.specs.declared.hub.EhciRootHub.{EhciRootHub}
use Rattle.root_hub.specs.declared.ports.PortEvent.TheVariants.{Connected, Disconnected}
use Rattle.root_hub.specs.declared.ports.PortState.{PortState}
use Rattle.root_hub.specs.declared.ports.PortState.TheVariants.{Probed}
use Rattle.root_hub.specs.declared.ports.Speed.TheVariants.{High}
use Rattle.root_hub.specs.declared.scan.Awaited.{Awaited}
use Rattle.root_hub.specs.declared.scan.Awaited.TheVariants.{Status, Again, Owner}
use Rattle.root_hub.specs.declared.scan.Place.{Place}
use Rattle.root_hub.specs.declared.scan.Turned.{Turned}
use Rattle.root_hub.specs.declared.calls.Scanned.{Scanned}
use Rattle.root_hub.specs.declared.calls.PortPower.{PortPower}
use Rattle.root_hub.specs.Ports.{port_state}
use Rattle.root_hub.specs.Scan.{awaited_of, onward, await, status_turn, gone_turn, reset_turn, release_turn, again_turn, owner_turn, turn_of, place_after, port_writes}
use Rattle.root_hub.specs.Ranges.{state_good, states_good, fits, state_at, place_good, hub_good}
use Rattle.root_hub.specs.Calls.{with_scan, refused_scan, start_of, scanned_of, step_of, refused_power, power_of}

-- ---- numbers to names

pub state_is : (k n : ℕ) → n ≡ k → port_state k ≡ port_state n
state_is k n e = rw e

pub state_probed : (n : ℕ) → (n ≡ 0 → ⊥) → (n ≡ 1 → ⊥) → Probed ≡ port_state n
state_probed n a b = rw (ne_eqb n 0 a, ne_eqb n 1 b)

pub await_is : (k n : ℕ) → n ≡ k → awaited_of k ≡ awaited_of n
await_is k n e = rw e

pub await_owner : (n : ℕ) → (n ≡ 1 → ⊥) → (n ≡ 2 → ⊥) → (n ≡ 3 → ⊥) → (n ≡ 4 → ⊥) → (n ≡ 5 → ⊥) → Owner ≡ awaited_of n
await_owner n a b c d e = rw (ne_eqb n 1 a, ne_eqb n 2 b, ne_eqb n 3 c, ne_eqb n 4 d, ne_eqb n 5 e)

-- ---- what a reading does

pub status_is : (q : PortState) (d : Bool) (n : ℕ) (c : Bool) (p : PortState) (t : Turned) → p ≡ port_state n → p ≡ q → c ≡ d → t ≡ status_turn q n d
    → t ≡ status_turn (port_state n) n c
status_is q d n c p t ep e h et = et ∙ rw (sym ep ∙ e, h)

module _ (n p : ℕ) (c e : Bool) (t : Turned) where
  pub again_lost : not c ≡ true → t ≡ onward n → t ≡ again_turn n p c e
  again_lost h et = et ∙ rw (not-true c h)

  pub again_slow : not c ≡ false → not e ≡ true → t ≡ await n 6 → t ≡ again_turn n p c e
  again_slow h g et = et ∙ rw (not-false c h, not-true e g)

pub again_high : (n p : ℕ) (c e : Bool) → not c ≡ false → not e ≡ false
    → ◌≡◌ {A = Turned} (record { state = 2; step = 0; change = None; event = Some (Connected p High); wait = 0 }) (again_turn n p c e)
again_high n p c e h g = rw (not-false c h, not-false e g)

pub gone_is : (p v a b : ℕ) → a ≡ with_bits v 2 → b ≡ without_bits a 40
    → ◌≡◌ {A = Turned} (record { state = 0; step = 0; change = Some b; event = Some (Disconnected p); wait = 0 }) (gone_turn p v)
gone_is p v a b ea eb = rw (eb, ea)

pub reset_is : (n v a b : ℕ) → a ≡ with_bits v 4352 → b ≡ without_bits a 42
    → ◌≡◌ {A = Turned} (record { state = n; step = 4; change = Some b; event = None; wait = 50 }) (reset_turn n v)
reset_is n v a b ea eb = rw (eb, ea)

pub release_is : (v b : ℕ) → b ≡ without_bits v 256
    → ◌≡◌ {A = Turned} (record { state = 1; step = 5; change = Some b; event = None; wait = 20 }) (release_turn v)
release_is v b eb = rw eb

pub owner_is : (n v b : ℕ) → b ≡ with_bits v 8192
    → ◌≡◌ {A = Turned} (record { state = n; step = 0; change = Some b; event = None; wait = 0 }) (owner_turn n v)
owner_is n v b eb = rw eb

module _ (a : Awaited) (n p v : ℕ) (t : Turned) where
  pub turn_status : (q : EhciPortStatus) (c : Bool) → a ≡ Status → q.0 ≡ v → c ≡ is_set (current_connect q.0) → t ≡ status_turn (port_state n) n c
      → t ≡ turn_of a n p v
  turn_status q c e eq ec et = et ∙ rw (ec, eq, e)

  pub turn_again : (q : EhciPortStatus) (c d : Bool) → a ≡ Again → q.0 ≡ v → c ≡ is_set (current_connect q.0) → d ≡ is_set (port_enabled q.0)
      → t ≡ again_turn n p c d → t ≡ turn_of a n p v
  turn_again q c d e eq ec ed et = et ∙ rw (ec, ed, eq, e)

pub turn_is : (b a : Awaited) (n p v : ℕ) (t : Turned) → a ≡ b → t ≡ turn_of b n p v → t ≡ turn_of a n p v
turn_is b a n p v t e et = et ∙ rw e

-- ---- where the scan goes

module _ (p n k : ℕ) where
  pub place_on : (o : ℕ) → o ≡ portsc_of p → (k ≡ 0 → ⊥)
      → ◌≡◌ {A = Place} (record { port = p; step = k; read = Some o }) (place_after p n k)
  unfolding place_after
  place_on o eo h = rw (eo, ne_eqb k 0 h)

  pub place_next : (o : ℕ) → o ≡ portsc_of (p + 1) → k ≡ 0 → p < n
      → ◌≡◌ {A = Place} (record { port = p + 1; step = 1; read = Some o }) (place_after p n k)
  unfolding place_after
  place_next o eo h l = rw (eo, eq-eqb k 0 h, lt-ltb p n l)

  pub place_end : k ≡ 0 → n ≤ p → ◌≡◌ {A = Place} (record { port = 0; step = 0; read = None }) (place_after p n k)
  unfolding place_after
  place_end h l = rw (eq-eqb k 0 h, le-ltb p n l)

pub writes_none : (p : ℕ) (c : (Option ℕ)) (w : Writes) → c ≡ None → w ≡ no_writes → w ≡ port_writes p c
writes_none p c w e ew = ew ∙ rw e

pub writes_value : (p v o : ℕ) (c : (Option ℕ)) (w w' : Writes) → c ≡ Some v → w ≡ no_writes → o ≡ portsc_of p → w' ≡ and_then w o v → w' ≡ port_writes p c
writes_value p v o c w w' e ew eo e' = e' ∙ rw (ew, eo, e)

-- ---- the ranges

module _ (n k st : ℕ) where
  pub good_port : k < n → leb st 2 ≡ state_good n k st
  unfolding state_good
  good_port h = rw (lt-ltb k n h)

  pub good_past : n ≤ k → eqb st 0 ≡ state_good n k st
  unfolding state_good
  good_past h = rw (le-ltb k n h)

pub fits_is : (b a : Awaited) (st : ℕ) → a ≡ b → fits b st ≡ fits a st
fits_is b a st e = rw e

pub ports_turn : (h : EhciRootHub) (k : ℕ) (g t : Bool) → k < 15 → t ≡ state_good h.ports k (get_or h.states k 0)
    → (g && t && states_good (k + 1) (15 - (k + 1)) h) ≡ (g && states_good k (15 - k) h)
unfolding states_good
ports_turn h k g t l et = rw (et, add-one k, more) (both_assoc g _ _)
  where
    more : 15 - k ≡ suc (15 - suc k)
    more = omega arith

pub ports_done : (h : EhciRootHub) (k : ℕ) (g all : Bool) → 15 ≤ k → (g && states_good k (15 - k) h) ≡ all → g ≡ all
unfolding states_good
ports_done h k g all l e = sym (both_true g) ∙ (rw none at e)
  where
    none : 15 - k ≡ 0
    none = omega arith

module _ (h : EhciRootHub) where
  pub place_idle : h.port ≡ 0 → eqb h.step 0 ≡ place_good h
  unfolding place_good
  place_idle e = rw (eq-eqb h.port 0 e)

  pub place_beyond : (h.port ≡ 0 → ⊥) → h.ports < h.port → false ≡ place_good h
  unfolding place_good
  place_beyond e l = rw (ne_eqb h.port 0 e, lt-leb h.port h.ports l)

  pub place_begun : (i : ℕ) (a : Awaited) (f : Bool) → i ≡ h.port - 1 → a ≡ awaited_of h.step
      → f ≡ fits a (get_or h.states i 0) → (h.port ≡ 0 → ⊥) → h.port ≤ h.ports → (within h.step 1 6 && f) ≡ place_good h
  unfolding place_good
  place_begun i a f ei ea ef e l = rw (ef, ea, ei, ne_eqb h.port 0 e, le-leb h.port h.ports l)

  pub hub_is : (s p : Bool) → within h.ports 1 15 ≡ true → s ≡ states_good 0 15 h → p ≡ place_good h → (s && p) ≡ hub_good h
  unfolding hub_good
  hub_is s p t es ep = rw (es, ep, t)

  pub hub_not : within h.ports 1 15 ≡ false → within h.ports 1 15 ≡ hub_good h
  unfolding hub_good
  hub_not t = rw t

  pub ports_most : within h.ports 1 15 ≡ true → h.ports ≤ 15
  ports_most t = within_most h.ports 1 15 t

-- what a good record with a scan begun tells of its place
module _ (h : EhciRootHub) (e : hub_good h ≡ true) where
  pub good_most : h.ports ≤ 15
  unfolding hub_good
  good_most = within_most h.ports 1 15 (both_first _ _ e)

  pub good_place : place_good h ≡ true
  unfolding hub_good
  good_place = both_second (states_good 0 15 h) _ (both_second (within h.ports 1 15) _ e)

  -- no scan is begun where the port is 0
  pub port_some : (h.step ≡ 0 → ⊥) → 1 ≤ h.port
  unfolding place_good
  port_some z = by (eqb h.port 0) refl
    where
      by : (b : Bool) → eqb h.port 0 ≡ b → 1 ≤ h.port
      by true q = absurd (z (eqb-true h.step 0 (place_idle h (eqb-true h.port 0 q) ∙ good_place)))
      by false q = omega (arith, eqb-false h.port 0 q)

  begun_tells : (h.step ≡ 0 → ⊥) → (leb h.port h.ports && (within h.step 1 6 && fits (awaited_of h.step) (state_at h))) ≡ true
  unfolding place_good
  begun_tells z = let some : h.port ≡ 0 → ⊥ = λ q. omega (arith, port_some z) in rw (ne_eqb h.port 0 some) at good_place

  pub port_most : (h.step ≡ 0 → ⊥) → h.port ≤ h.ports
  port_most z = leb-true h.port h.ports (both_first _ _ (begun_tells z))

  pub step_within : (h.step ≡ 0 → ⊥) → within h.step 1 6 ≡ true
  step_within z = both_first _ _ (both_second (leb h.port h.ports) _ (begun_tells z))

  pub step_fits : (h.step ≡ 0 → ⊥) → fits (awaited_of h.step) (state_at h) ≡ true
  step_fits z = both_second (within h.step 1 6) _ (both_second (leb h.port h.ports) _ (begun_tells z))

-- ---- the calls

module _ (h : EhciRootHub) (b : Bool) (eb : b ≡ hub_good h) where
  good : not b ≡ false → hub_good h ≡ true
  good t = sym eb ∙ not-false b t

  pub at_port : not b ≡ false → (h.step ≡ 0 → ⊥) → 1 ≤ h.port
  at_port t z = port_some h (good t) z

  pub at_most : not b ≡ false → h.ports ≤ 15
  at_most t = good_most h (good t)

  pub at_index : (i : ℕ) → not b ≡ false → (h.step ≡ 0 → ⊥) → i ≡ h.port - 1 → i < 15
  at_index i t z ei = omega (arith, port_some h (good t) z, port_most h (good t) z, good_most h (good t))

  pub start_bad : (r : Scanned) → not b ≡ true → r ≡ refused_scan h InvalidParameter → r ≡ start_of h
  unfolding start_of
  start_bad r t er = er ∙ rw (sym eb ∙ not-true b t)

  pub start_done : (o : ℕ) (w : Writes) → not b ≡ false → o ≡ portsc_of 1 → w ≡ no_writes
      → ◌≡◌ {A = Scanned}
      (record {
        hub = with_scan h h.states 1 1;
        reply = record { answer = Ok tt; event = None; writes = w; read = Some o; wait = 0 };
      })
      (start_of h)
  unfolding start_of
  start_done o w t eo ew = rw (ew, eo, sym eb ∙ not-false b t)

  pub step_bad : (v : ℕ) (r : Scanned) → not b ≡ true → r ≡ refused_scan h InvalidParameter → r ≡ step_of h v
  unfolding step_of
  step_bad v r t er = er ∙ rw (sym eb ∙ not-true b t)

  pub step_none : (v : ℕ) (r : Scanned) → not b ≡ false → h.step ≡ 0 → r ≡ refused_scan h InvalidParameter → r ≡ step_of h v
  unfolding step_of
  step_none v r t z er = er ∙ rw (sym eb ∙ not-false b t, eq-eqb h.step 0 z)

  pub step_done : (v i : ℕ) (a : Awaited) (t : Turned) (p : Place) (w : Writes) → not b ≡ false → (h.step ≡ 0 → ⊥) → i ≡ h.port - 1
      → a ≡ awaited_of h.step → t ≡ turn_of a (get_or h.states i 0) h.port v → p ≡ place_after h.port h.ports t.step
      → w ≡ port_writes h.port t.change
      → ◌≡◌ {A = Scanned}
      (record {
        hub = with_scan h (set h.states i t.state) p.port p.step;
        reply = record { answer = Ok tt; event = t.event; writes = w; read = p.read; wait = t.wait };
      })
      (step_of h v)
  unfolding step_of scanned_of
  step_done v i a t p w g z ei ea et ep ew =
      rw (ew, ep, et, ea, ei, sym eb ∙ not-false b g, ne_eqb h.step 0 z)

  pub power_bad : (p v : ℕ) (r : PortPower) → not b ≡ true → r ≡ refused_power InvalidParameter → r ≡ power_of h p v
  unfolding power_of
  power_bad p v r t er = er ∙ rw (sym eb ∙ not-true b t)

  pub power_none : (p v : ℕ) (r : PortPower) → not b ≡ false → not (within p 1 h.ports) ≡ true
      → r ≡ refused_power InvalidParameter → r ≡ power_of h p v
  unfolding power_of
  power_none p v r t n er = er ∙ rw (sym eb ∙ not-false b t, not-true (within p 1 h.ports) n)

  pub power_done : (p v x y o : ℕ) (w w' : Writes) → not b ≡ false → not (within p 1 h.ports) ≡ false
      → x ≡ with_bits v 4096 → y ≡ without_bits x 42 → o ≡ portsc_of p → w ≡ no_writes → w' ≡ and_then w o y
      → ◌≡◌ {A = PortPower} (record { answer = Ok tt; writes = w'; wait = 20 }) (power_of h p v)
  unfolding power_of
  power_done p v x y o w w' t n ex ey eo ew ew' =
      rw (ew', ew, eo, ey, ex, sym eb ∙ not-false b t, not-false (within p 1 h.ports) n)

pub power_port : (p n : ℕ) → not (within p 1 n) ≡ false → 1 ≤ p
power_port p n t = within_least p 1 n (not-false (within p 1 n) t)
