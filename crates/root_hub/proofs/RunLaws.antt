-- Any scan: the ranges, the end in time, the ports in order, one event each, a state's changes, the registers.
use Rattle.std.specs.Prelude.{None, Ok, Option, Some}
use Prim.Native.Nat.{ℕ, zero, suc, ◌+◌, ◌-◌, ◌*◌, ◌≤◌, ◌<◌}
use mathlib.Core.Bool.{Bool, true, false, cond}
use mathlib.Core.List.{List, [], ◌∷◌, map}
use mathlib.Core.Logic.{◌⊎◌, inl, inr, ⊎_elim}
use mathlib.Core.Path.{◌≡◌, refl, sym, subst, ap, ◌∙◌}
use native.Mathlib.Decide.{ℕ_discrete as dec_eq}
use native.Mathlib.Numerals.{add-one}
use native.Mathlib.Omega.{arith}
use borrow.Author.Tests.{eq-eqb, ne_eqb, eqb-true, le-leb, leb-true, lt-ltb, ltb-true, ltb-false}
use lib.Dec.{eqb, leb, ltb}
use lib.ListN.{get_or, length, length-set, set}
use lib.Seq.{get_or-set_other, get_or-set_same}
use Rattle.register.specs.EhciRegisters.{portsc_of}
use Rattle.register.specs.Writes.{list_of, no_writes, and_then}
use Rattle.register.specs.declared.writes.Write.{Write}
use Rattle.common.specs.Tests.{within}
use Rattle.common.proofs.TestLaws.{both_first, both_second, within_least, both_tells, within_makes}
use Rattle.state.proofs.Arrays.{zeros_at}
use Rattle.common.specs.Answers.{number_of}
use Rattle.common.specs.declared.answer.Refusal.TheVariants.{InvalidParameter}
use Rattle.opening.specs.Hub.{opened_hub}
use Rattle.opening.specs.declared.hub.EhciRootHub.{EhciRootHub}
use Rattle.root_hub.specs.declared.ports.PortEvent.TheVariants.{Connected, Disconnected}
use Rattle.root_hub.specs.declared.scan.Awaited.{Awaited}
use Rattle.root_hub.specs.declared.scan.Awaited.TheVariants.{Status, Gone, Reset, Release, Again, Owner}
use Rattle.root_hub.specs.declared.scan.Place.{Place}
use Rattle.root_hub.specs.declared.scan.Turned.{Turned}
use Rattle.root_hub.specs.declared.calls.Scanned.{Scanned}
use Rattle.root_hub.specs.Ports.{Reports, event_port, port_event_number, port_event_values, port_state}
use Rattle.root_hub.specs.Scan.{awaited_of, connected, enabled, status_turn, again_turn, turn_of, place_after, port_writes}
use Rattle.root_hub.specs.Ranges.{state_good, states_good, fits, state_at, place_good, hub_good}
use Rattle.root_hub.specs.Calls.{with_scan, refused_scan, start_of, scanned_of, turn_at, step_of}
use Rattle.root_hub.specs.Runs.{Right, StaysRight, EndsBy, EndsInTime, read_of, asked, stretches, up_from, VisitsAll, reported, Ascends, OneEventEach, ByRule, stays, reseted, probed, gone, OnlyByRule, OnlyWhenSeen, OpenedRight, RefusedOut, OnlyOwn}
use Rattle.root_hub.proofs.Cases.{start_done, step_bad, step_none, step_done, good_most, port_some, port_most, step_fits, place_on, place_next, place_end}
use Rattle.root_hub.specs.declared.ports.PortEvent.{PortEvent}

-- ---- the calls by their cases

module _ (h : EhciRootHub) (e : hub_good h ≡ true) where
  pub start_is : start_of h ≡ record { hub = with_scan h h.states 1 1; reply = record { answer = Ok tt; event = None; writes = no_writes; read = Some (portsc_of 1); wait = 0 } }
  start_is = sym (start_done h true (sym e) _ _ refl refl refl)

  pub step_idle : (v : ℕ) → h.step ≡ 0 → step_of h v ≡ refused_scan h InvalidParameter
  step_idle v z = sym (step_none h true (sym e) v _ refl z refl)

  pub step_is : (v : ℕ) → (h.step ≡ 0 → ⊥) → step_of h v ≡ scanned_of h (turn_at h v) (place_after h.port h.ports (turn_at h v).step)
  unfolding scanned_of
  step_is v z = sym (step_done h true (sym e) v _ _ _ _ _ refl z refl refl refl refl refl)

pub step_out : (h : EhciRootHub) (v : ℕ) → hub_good h ≡ false → step_of h v ≡ refused_scan h InvalidParameter
step_out h v e = sym (step_bad h false (sym e) v _ refl refl)

-- ---- what a reading does

-- how many readings a port can still need
rank : Awaited → ℕ
rank Status = 5
rank Gone = 1
rank Reset = 4
rank Release = 3
rank Again = 2
rank Owner = 1

record Turns (a : Awaited) (st p v : ℕ) (t : Turned) : Type 0 where
  state_most : t.state ≤ 2
  step_most : t.step ≤ 6
  fitting : (t.step ≡ 0 → ⊥) → fits (awaited_of t.step) t.state ≡ true
  nearer : (t.step ≡ 0 → ⊥) → rank (awaited_of t.step) < rank a
  eventful : (port_event_number t.event ≡ 0) ⊎ ((event_port t.event ≡ p) × (t.step ≡ 0))

pub by_state : (P : ℕ → Type 0) → P 0 → P 1 → P 2 → (st : ℕ) → st ≤ 2 → P st
by_state P a b c zero h = a
by_state P a b c (suc zero) h = b
by_state P a b c (suc (suc zero)) h = c
by_state P a b c (suc (suc (suc n))) h = absurd (omega arith)

module _ (p v : ℕ) where
  -- the port is done with, and nothing is reported
  done : (a : Awaited) (st : ℕ) (c : (Option ℕ)) (w : ℕ) → st ≤ 2 → Turns a st p v (record { state = st; step = 0; change = c; event = None; wait = w })
  done a st c w h =
      record {
        state_most = h;
        step_most = omega arith;
        fitting = λ n. absurd (n refl);
        nearer = λ n. absurd (n refl);
        eventful = inl refl;
      }

  status_turns : (c : Bool) (st : ℕ) → st ≤ 2 → Turns Status st p v (status_turn (port_state st) st c)
  unfolding rank
  status_turns true st h =
      by_state (λ s. Turns Status s p v (status_turn (port_state s) s true))
      (record { state_most = omega arith; step_most = omega arith; fitting = λ n. refl; nearer = λ n. omega arith; eventful = inl refl })
      (record { state_most = omega arith; step_most = omega arith; fitting = λ n. refl; nearer = λ n. omega arith; eventful = inl refl })
      (done Status 2 None 0 (omega arith))
      st h
  status_turns false st h =
      by_state (λ s. Turns Status s p v (status_turn (port_state s) s false))
      (done Status 0 None 0 (omega arith))
      (done Status 1 None 0 (omega arith))
      (record { state_most = omega arith; step_most = omega arith; fitting = λ n. refl; nearer = λ n. omega arith; eventful = inl refl })
      st h

  again_turns : (c d : Bool) (st : ℕ) → st ≤ 2 → st ≡ 1 → Turns Again st p v (again_turn st p c d)
  unfolding rank
  again_turns true true st h q =
      record {
        state_most = omega arith;
        step_most = omega arith;
        fitting = λ n. absurd (n refl);
        nearer = λ n. absurd (n refl);
        eventful = inr (refl, refl);
      }
  again_turns true false st h q =
      record {
        state_most = h;
        step_most = omega arith;
        fitting = λ n. eq-eqb st 1 q;
        nearer = λ n. omega arith;
        eventful = inl refl;
      }
  again_turns false d st h q = done Again st None 0 h

  turn_turns : (a : Awaited) (st : ℕ) → st ≤ 2 → fits a st ≡ true → Turns a st p v (turn_of a st p v)
  unfolding rank
  turn_turns Status st h f = status_turns (connected v) st h
  turn_turns Gone st h f =
      record {
        state_most = omega arith;
        step_most = omega arith;
        fitting = λ n. absurd (n refl);
        nearer = λ n. absurd (n refl);
        eventful = inr (refl, refl);
      }
  turn_turns Reset st h f =
      record {
        state_most = h;
        step_most = omega arith;
        fitting = λ n. f;
        nearer = λ n. omega arith;
        eventful = inl refl;
      }
  turn_turns Release st h f =
      record {
        state_most = omega arith;
        step_most = omega arith;
        fitting = λ n. refl;
        nearer = λ n. omega arith;
        eventful = inl refl;
      }
  turn_turns Again st h f = again_turns (connected v) (enabled v) st h (eqb-true st 1 f)
  turn_turns Owner st h f = done Owner st _ 0 h

-- ---- the ranges

-- the state of the port at a place is as it must be
abbrev state_right : EhciRootHub → ℕ → Bool
state_right h k = state_good h.ports k (get_or h.states k 0)

states_tell : (h : EhciRootHub) (k n : ℕ) → states_good k n h ≡ true → (i : ℕ) → k ≤ i → i < k + n → state_right h i ≡ true
unfolding states_good
states_tell h k zero e i l m = absurd (omega arith)
states_tell h k (suc n) e i l m =
    let p = both_tells (state_right h k) (states_good (suc k) n h) e in
    by p.0 (dec_eq k i) (λ g. states_tell h (suc k) n p.1 i g (omega arith))
  where
    by : state_right h k ≡ true → Dec (k ≡ i) → (suc k ≤ i → state_right h i ≡ true) → state_right h i ≡ true
    by here (yes q) later = rw q at here
    by here (no ne) later = later (omega arith)

states_make : (h : EhciRootHub) (k n : ℕ) → ((i : ℕ) → k ≤ i → i < k + n → state_right h i ≡ true) → states_good k n h ≡ true
unfolding states_good
states_make h k zero g = refl
states_make h k (suc n) g =
    rw (g k (omega arith) (omega arith)) (states_make h (suc k) n (λ i l m. g i (omega arith) (omega arith)))

pub hub_makes : (h : EhciRootHub) → within h.ports 1 15 ≡ true → ((i : ℕ) → i < 15 → state_right h i ≡ true) → place_good h ≡ true → hub_good h ≡ true
unfolding hub_good
hub_makes h w g p = rw (w, states_make h 0 15 (λ i l m. g i (omega arith)), p)

module _ (h : EhciRootHub) (e : hub_good h ≡ true) where
  pub ports_within : within h.ports 1 15 ≡ true
  unfolding hub_good
  ports_within = both_first _ _ e

  states_right : (i : ℕ) → i < 15 → state_right h i ≡ true
  unfolding hub_good
  states_right i l =
      states_tell h 0 15 (both_first _ _ (both_second (within h.ports 1 15) _ e)) i (omega arith) (omega arith)

-- a state of a port that is there
state_most : (n k st : ℕ) → k < n → state_good n k st ≡ true → st ≤ 2
unfolding state_good
state_most n k st l e = leb-true st 2 (rw (lt-ltb k n l) at e)

state_makes : (n k st : ℕ) → k < n → st ≤ 2 → state_good n k st ≡ true
unfolding state_good
state_makes n k st l m = rw (lt-ltb k n l, le-leb st 2 m)

-- ---- a scan that is begun

pub record Begun (h : EhciRootHub) : Type 0 where
  pub right : Right h
  pub begun : h.step ≡ 0 → ⊥

module _ (h : EhciRootHub) (b : Begun h) where
  pub port_least : 1 ≤ h.port
  port_least = port_some h b.right.good b.begun

  pub port_within : h.port ≤ h.ports
  port_within = port_most h b.right.good b.begun

  pub ports_most : h.ports ≤ 15
  ports_most = good_most h b.right.good

  pub here_most : state_at h ≤ 2
  here_most =
      let l : h.port - 1 < 15 = omega (arith, port_least, port_within, ports_most) in
      let m : h.port - 1 < h.ports = omega (arith, port_least, port_within) in
      state_most h.ports (h.port - 1) (state_at h) m (states_right h b.right.good (h.port - 1) l)

  turns : (v : ℕ) → Turns (awaited_of h.step) (state_at h) h.port v (turn_at h v)
  turns v = turn_turns h.port v (awaited_of h.step) (state_at h) here_most (step_fits h b.right.good b.begun)

  -- the port's state replaced, every state is as it must be
  pub set_right : (n : ℕ) → n ≤ 2 → (i : ℕ) → i < 15 → state_good h.ports i (get_or (set h.states (h.port - 1) n) i 0) ≡ true
  set_right n m i l = by (dec_eq i (h.port - 1))
    where
      by : Dec (i ≡ h.port - 1) → state_good h.ports i (get_or (set h.states (h.port - 1) n) i 0) ≡ true
      by (yes q) =
          let inside : h.port - 1 < length h.states = omega (arith, b.right.sized) in
          rw (q, get_or-set_same h.states (h.port - 1) n 0 inside)
          (state_makes h.ports (h.port - 1) n (omega (arith, port_least, port_within)) m)
      by (no ne) = rw (get_or-set_other h.states (h.port - 1) i n 0 ne) (states_right h b.right.good i l)

  pub here_set : (n : ℕ) → get_or (set h.states (h.port - 1) n) (h.port - 1) 0 ≡ n
  here_set n =
      let inside : h.port - 1 < length h.states = omega (arith, b.right.sized, port_least, port_within, ports_most) in
      get_or-set_same h.states (h.port - 1) n 0 inside

  pub set_sized : (n : ℕ) → length (set h.states (h.port - 1) n) ≡ 15
  set_sized n = length-set h.states (h.port - 1) n ∙ b.right.sized

-- ---- where a step goes

-- nothing is reported, or something of the port that the scan was at
abbrev Tells : EhciRootHub → Scanned → Type 0
Tells h r = (port_event_number r.reply.event ≡ 0) ⊎ (event_port r.reply.event ≡ h.port)

data Moves (h : EhciRootHub) (r : Scanned) : Type 0 where
  on : r.hub.port ≡ h.port → (r.hub.step ≡ 0 → ⊥)
      → rank (awaited_of r.hub.step) < rank (awaited_of h.step) → port_event_number r.reply.event ≡ 0 → r.reply.read ≡ Some (portsc_of h.port) → Moves h r
  next : r.hub.port ≡ h.port + 1 → r.hub.step ≡ 1 → h.port < h.ports → Tells h r → r.reply.read ≡ Some (portsc_of (h.port + 1)) → Moves h r
  over : r.hub.step ≡ 0 → r.reply.read ≡ None → h.ports ≤ h.port → Tells h r → Moves h r

pub record After (h : EhciRootHub) (r : Scanned) : Type 0 where
  pub right : Right r.hub
  same_ports : r.hub.ports ≡ h.ports
  accepted : number_of r.reply.answer ≡ 0
  moves : Moves h r

module _ (h : EhciRootHub) (b : Begun h) (v : ℕ) (t : Turned) (k : Turns (awaited_of h.step) (state_at h) h.port v t) where
  -- the record with the port's new state, at a place
  at : ℕ → ℕ → EhciRootHub
  at port step = with_scan h (set h.states (h.port - 1) t.state) port step

  at_right : (port step : ℕ) → place_good (at port step) ≡ true → Right (at port step)
  unfolding at with_scan
  at_right port step p =
      record {
        good = hub_makes (at port step) (ports_within h b.right.good) (set_right h b t.state k.state_most) p;
        sized = set_sized h b t.state;
      }

  on_right : (t.step ≡ 0 → ⊥) → place_good (at h.port t.step) ≡ true
  unfolding at with_scan place_good
  on_right n =
      let some : h.port ≡ 0 → ⊥ = λ q. omega (arith, port_least h b) in
      let fit = k.fitting n in
      rw (
        ne_eqb h.port 0 some,
        le-leb h.port h.ports (port_within h b),
        within_makes t.step 1 6 (some_step n) k.step_most,
        here_set h b t.state,
      )
      fit
    where
      some_step : (t.step ≡ 0 → ⊥) → 1 ≤ t.step
      some_step m = by (dec_eq t.step 0)
        where
          by : Dec (t.step ≡ 0) → 1 ≤ t.step
          by (yes q) = absurd (m q)
          by (no ne) = omega arith

  next_right : h.port < h.ports → place_good (at (h.port + 1) 1) ≡ true
  unfolding at with_scan place_good
  next_right l =
      let some : h.port + 1 ≡ 0 → ⊥ = λ q. omega arith in
      let most : h.port + 1 ≤ h.ports = omega arith in
      rw (ne_eqb (h.port + 1) 0 some, le-leb (h.port + 1) h.ports most)

  end_right : place_good (at 0 0) ≡ true
  unfolding at with_scan place_good
  end_right = refl

  after_on : (t.step ≡ 0 → ⊥) → After h (scanned_of h t (record { port = h.port; step = t.step; read = Some (portsc_of h.port) }))
  unfolding scanned_of at with_scan
  after_on n =
      record {
        right = at_right h.port t.step (on_right n);
        same_ports = refl;
        accepted = refl;
        moves = on refl n (k.nearer n) (⊎_elim (λ w. w) (λ w. absurd (n w.1)) k.eventful) refl;
      }

  after_next : h.port < h.ports → After h (scanned_of h t (record { port = h.port + 1; step = 1; read = Some (portsc_of (h.port + 1)) }))
  unfolding scanned_of at with_scan
  after_next l =
      record {
        right = at_right (h.port + 1) 1 (next_right l);
        same_ports = refl;
        accepted = refl;
        moves = next refl refl l (⊎_elim inl (λ w. inr w.0) k.eventful) refl;
      }

  after_end : h.ports ≤ h.port → After h (scanned_of h t (record { port = 0; step = 0; read = None }))
  unfolding scanned_of at with_scan
  after_end l =
      record {
        right = at_right 0 0 end_right;
        same_ports = refl;
        accepted = refl;
        moves = over refl refl l (⊎_elim inl (λ w. inr w.0) k.eventful);
      }

  after_turn : Dec (t.step ≡ 0) → (l : Bool) → ltb h.port h.ports ≡ l → After h (scanned_of h t (place_after h.port h.ports t.step))
  after_turn (no n) l q = rw (← place_on h.port h.ports t.step _ refl n) (after_on n)
  after_turn (yes z) true q =
      let m : h.port < h.ports = ltb-true h.port h.ports q in
      rw (← place_next h.port h.ports t.step _ refl z m) (after_next m)
  after_turn (yes z) false q =
      let m : h.ports ≤ h.port = ltb-false h.port h.ports q in
      rw (← place_end h.port h.ports t.step z m) (after_end m)

pub after : (h : EhciRootHub) (b : Begun h) (v : ℕ) → After h (step_of h v)
after h b v =
    rw (step_is h b.right.good v b.begun)
    (after_turn h b v (turn_at h v) (turns h b v) (dec_eq (turn_at h v).step 0) (ltb h.port h.ports) refl)

-- ---- the start

unfoldable pub started : EhciRootHub → EhciRootHub
started h = with_scan h h.states 1 1

module _ (h : EhciRootHub) (r : Right h) where
  pub started_is : (start_of h).hub ≡ started h
  unfolding started
  started_is = ap (λ (s : Scanned). s.hub) (start_is h r.good)

  started_place : place_good (started h) ≡ true
  unfolding started with_scan place_good
  started_place = rw (le-leb 1 h.ports (within_least h.ports 1 15 (ports_within h r.good)))

  pub started_begun : Begun (started h)
  unfolding started with_scan
  started_begun =
      record {
        right = record {
          good = hub_makes (started h) (ports_within h r.good) (states_right h r.good) started_place;
          sized = r.sized;
        };
        begun = λ z. omega arith;
      }

pub stays_right : StaysRight
stays_right h v r = (rw (started_is h r) (started_begun h r).right, by (dec_eq h.step 0))
  where
    by : Dec (h.step ≡ 0) → Right (step_of h v).hub
    by (yes z) = rw (step_idle h r.good v z) r
    by (no n) = (after h (record { right = r; begun = n }) v).right

-- ---- the end

-- how many readings a scan can still need
left : EhciRootHub → ℕ
left h = rank (awaited_of h.step) + 5 * (h.ports - h.port)

rank_least : (a : Awaited) → 1 ≤ rank a
unfolding rank
rank_least Status = omega arith
rank_least Gone = omega arith
rank_least Reset = omega arith
rank_least Release = omega arith
rank_least Again = omega arith
rank_least Owner = omega arith

rank_first : rank (awaited_of 1) ≡ 5
unfolding rank
rank_first = refl

left_some : (h : EhciRootHub) → left h ≤ 0 → ⊥
unfolding left
left_some h l = omega (arith, rank_least (awaited_of h.step))

-- a step that goes on comes nearer
on_nearer : (h k : EhciRootHub) → k.ports ≡ h.ports → k.port ≡ h.port → rank (awaited_of k.step) < rank (awaited_of h.step) → left k < left h
unfolding left
on_nearer h k ep eq l = rw (ep, eq) (omega arith)

next_nearer : (h k : EhciRootHub) → k.ports ≡ h.ports → k.port ≡ h.port + 1 → k.step ≡ 1 → h.port < h.ports → left k < left h
unfolding left
next_nearer h k ep eq es l = rw (ep, eq, es, rank_first) (omega (arith, rank_least (awaited_of h.step)))

ends : (h : EhciRootHub) (vs : List ℕ) → Begun h → left h ≤ length vs → EndsBy h vs
ends h [] b m = absurd (left_some h m)
ends h (v ∷ vs) b m = go (λ c l. ends (step_of h v).hub vs c l) (after h b v) (after h b v).moves
  where
    go : (Begun (step_of h v).hub → left (step_of h v).hub ≤ length vs → EndsBy (step_of h v).hub vs)
        → After h (step_of h v) → Moves h (step_of h v) → EndsBy h (v ∷ vs)
    go later a (on ep n0 near ev rd) =
        (a.accepted, inr (later (record { right = a.right; begun = n0 }) (omega (arith, on_nearer h (step_of h v).hub a.same_ports ep near))))
    go later a (next ep es l ev rd) = (
      a.accepted,
      inr (later (record { right = a.right; begun = λ z. omega (arith, es, z) }) (omega (arith, next_nearer h (step_of h v).hub a.same_ports ep es l))),
    )
    go later a (over es er l ev) = (a.accepted, inl (er, es))

started_left : (h : EhciRootHub) → 1 ≤ h.ports → left (started h) ≡ 5 * h.ports
unfolding left started with_scan rank
started_left h l = omega arith

started_port : (h : EhciRootHub) → 0 < (started h).port
unfolding started with_scan
started_port h = omega arith

pub ends_in_time : EndsInTime
ends_in_time h vs r l =
    rw (started_is h r)
    (ends (started h) vs (started_begun h r) (omega (arith, started_left h (within_least h.ports 1 15 (ports_within h r.good)))))

-- ---- the ports in order

-- a step where none is begun leaves the record as it is, tells nothing and asks for nothing
record Idles (h : EhciRootHub) (r : Scanned) : Type 0 where
  kept : r.hub ≡ h
  untold : port_event_number r.reply.event ≡ 0
  unread : r.reply.read ≡ None

idle_stays : (h : EhciRootHub) (v : ℕ) → h.step ≡ 0 → Idles h (step_of h v)
idle_stays h v z = by (hub_good h) refl
  where
    refused : Idles h (refused_scan h InvalidParameter)
    refused = record { kept = refl; untold = refl; unread = refl }

    by : (g : Bool) → hub_good h ≡ g → Idles h (step_of h v)
    by true e = subst (λ (r : Scanned). Idles h r) (sym (step_idle h e v z)) refused
    by false e = subst (λ (r : Scanned). Idles h r) (sym (step_out h v e)) refused

idle_asks : (h : EhciRootHub) (vs : List ℕ) → h.step ≡ 0 → asked h vs ≡ []
idle_asks h [] z = refl
idle_asks h (v ∷ vs) z = rw ((idle_stays h v z).unread, (idle_stays h v z).kept) (idle_asks h vs z)

idle_reports : (h : EhciRootHub) (vs : List ℕ) → h.step ≡ 0 → reported h vs ≡ []
idle_reports h [] z = refl
idle_reports h (v ∷ vs) z =
    rw (eq-eqb (port_event_number (step_of h v).reply.event) 0 (idle_stays h v z).untold, (idle_stays h v z).kept) (idle_reports h vs z)

same_stretch : (p : ℕ) (l : List ℕ) → stretches (p ∷ p ∷ l) ≡ stretches (p ∷ l)
same_stretch p l = rw (eq-eqb p p refl)

new_stretch : (p q : ℕ) (l : List ℕ) → (p ≡ q → ⊥) → stretches (p ∷ q ∷ l) ≡ p ∷ stretches (q ∷ l)
new_stretch p q l n = rw (ne_eqb p q n)

-- the registers of a port and of those that follow it
registers : ℕ → ℕ → List ℕ
registers port more = portsc_of port ∷ map portsc_of (up_from (suc port) more)

next_registers : (port ports : ℕ) → port < ports → registers port (ports - port) ≡ portsc_of port ∷ registers (port + 1) (ports - (port + 1))
unfolding registers
next_registers port ports l =
    let more : ports - port ≡ suc (ports - (port + 1)) = omega arith in rw (more, add-one port)

last_register : (port ports : ℕ) → ports ≤ port → registers port (ports - port) ≡ portsc_of port ∷ []
unfolding registers
last_register port ports l = let none : ports - port ≡ 0 = omega arith in rw none

-- with its own register asked for, a scan asks for that and for those that follow
all_asked : (h : EhciRootHub) (vs : List ℕ) → Begun h → left h ≤ length vs
    → stretches (portsc_of h.port ∷ asked h vs) ≡ registers h.port (h.ports - h.port)
all_asked h [] b m = absurd (left_some h m)
all_asked h (v ∷ vs) b m = go (λ c l. all_asked (step_of h v).hub vs c l) (after h b v) (after h b v).moves
  where
    go : (Begun (step_of h v).hub → left (step_of h v).hub ≤ length vs
        → stretches (portsc_of (step_of h v).hub.port ∷ asked (step_of h v).hub vs)
        ≡ registers (step_of h v).hub.port ((step_of h v).hub.ports - (step_of h v).hub.port))
        → After h (step_of h v) → Moves h (step_of h v)
        → stretches (portsc_of h.port ∷ asked h (v ∷ vs)) ≡ registers h.port (h.ports - h.port)
    go later a (on ep n0 near ev rd) =
        let rest = later (record { right = a.right; begun = n0 }) (omega (arith, on_nearer h (step_of h v).hub a.same_ports ep near)) in
        rw rd (same_stretch (portsc_of h.port) (asked (step_of h v).hub vs) ∙ (rw (ep, a.same_ports) at rest))
    go later a (next ep es l ev rd) =
        let rest = later (record { right = a.right; begun = λ z. omega (arith, es, z) }) (omega (arith, next_nearer h (step_of h v).hub a.same_ports ep es l)) in
        let apart : portsc_of h.port ≡ portsc_of (h.port + 1) → ⊥ = λ q. omega (arith, port_least h b) in
        rw rd
        (new_stretch (portsc_of h.port) (portsc_of (h.port + 1)) (asked (step_of h v).hub vs) apart
        ∙ ap (λ (l : List ℕ). portsc_of h.port ∷ l) (rw (ep, a.same_ports) at rest)
        ∙ sym (next_registers h.port h.ports l))
    go later a (over es er l ev) = rw (er, idle_asks (step_of h v).hub vs es) (sym (last_register h.port h.ports l))

started_registers : (h : EhciRootHub) → 1 ≤ h.ports
    → registers (started h).port ((started h).ports - (started h).port) ≡ map portsc_of (up_from 1 h.ports)
unfolding started with_scan registers
started_registers h l = let more : h.ports ≡ suc (h.ports - 1) = omega arith in sym (ap (λ (n : ℕ). map portsc_of (up_from 1 n)) more)

started_at : (h : EhciRootHub) → (started h).port ≡ 1
unfolding started with_scan
started_at h = refl

start_asks : (h : EhciRootHub) → Right h → read_of (start_of h).reply.read ≡ portsc_of 1 ∷ []
start_asks h r = ap (λ (s : Scanned). read_of s.reply.read) (start_is h r.good)

pub visits_all : VisitsAll
visits_all h vs r l =
    let least = within_least h.ports 1 15 (ports_within h r.good) in
    rw (start_asks h r, started_is h r)
    (ap (λ (p : ℕ). stretches (portsc_of p ∷ asked (started h) vs)) (sym (started_at h))
    ∙ all_asked (started h) vs (started_begun h r) (omega (arith, started_left h least))
    ∙ started_registers h least)

-- ---- one event each

-- where nothing is told no port is
none_of : (e : (Option PortEvent)) → port_event_number e ≡ 0 → 0 < event_port e → ⊥
none_of None z l = omega arith
none_of (Some (Connected port speed)) z l = omega (arith, z)
none_of (Some (Disconnected port)) z l = omega (arith, z)

ascends : (h : EhciRootHub) (vs : List ℕ) (q : ℕ) → Begun h → q < h.port → Ascends q (reported h vs)
ascends h [] q b l = tt
ascends h (v ∷ vs) q b l =
    go (λ p c m. ascends (step_of h v).hub vs p c m) (after h b v) (after h b v).moves
  where
    -- what is told of this port, and then what follows above it
    told : Tells h (step_of h v) → ((p : ℕ) → p ≤ h.port → Ascends p (reported (step_of h v).hub vs)) → Ascends q (reported h (v ∷ vs))
    told (inl z) rest = rw (eq-eqb (port_event_number (step_of h v).reply.event) 0 z) (rest q (omega arith))
    told (inr z) rest =
        let some : port_event_number (step_of h v).reply.event ≡ 0 → ⊥ = λ w. none_of (step_of h v).reply.event w (omega (arith, z, l)) in
        rw (ne_eqb (port_event_number (step_of h v).reply.event) 0 some, z) (l, rest h.port (omega arith))

    go : ((p : ℕ) → Begun (step_of h v).hub → p < (step_of h v).hub.port → Ascends p (reported (step_of h v).hub vs))
        → After h (step_of h v) → Moves h (step_of h v) → Ascends q (reported h (v ∷ vs))
    go later a (on ep n0 near ev rd) =
        rw (eq-eqb (port_event_number (step_of h v).reply.event) 0 ev) (later q (record { right = a.right; begun = n0 }) (omega (arith, ep)))
    go later a (next ep es m ev rd) =
        told ev (λ p w. later p (record { right = a.right; begun = λ z. omega (arith, es, z) }) (omega (arith, ep)))
    go later a (over es er m ev) = told ev (λ p w. rw (idle_reports (step_of h v).hub vs es) tt)

pub one_event_each : OneEventEach
one_event_each h vs r = rw (started_is h r) (ascends (started h) vs 0 (started_begun h r) (started_port h))

-- ---- a port's state

-- an event that is known, by its number and values
says : (r : Scanned) (e : (Option PortEvent)) → r.reply.event ≡ e → Reports r.reply.event (port_event_number e) (port_event_values e)
says r e q = (ap port_event_number q, ap port_event_values q)

again_rule : (c d : Bool) (p v st : ℕ) (r : Scanned) → connected v ≡ c → enabled v ≡ d → st ≡ 1
    → r.reply.event ≡ (again_turn st p c d).event → ByRule Again p v st (again_turn st p c d).state r
again_rule true true p v st r ec ed q e = probed refl q refl ec ed (says r _ e)
again_rule true false p v st r ec ed q e = stays refl (says r _ e)
again_rule false d p v st r ec ed q e = stays refl (says r _ e)

status_event : (c : Bool) (st p v : ℕ) → st ≤ 2 → ((status_turn (port_state st) st c).state ≡ st) × ((status_turn (port_state st) st c).event ≡ None)
status_event true st p v h =
    by_state (λ s. ((status_turn (port_state s) s true).state ≡ s) × ((status_turn (port_state s) s true).event ≡ None)) (refl, refl) (refl, refl) (refl, refl) st h
status_event false st p v h =
    by_state (λ s. ((status_turn (port_state s) s false).state ≡ s) × ((status_turn (port_state s) s false).event ≡ None)) (refl, refl) (refl, refl) (refl, refl) st h

turn_rule : (a : Awaited) (p v st : ℕ) (r : Scanned) → st ≤ 2 → fits a st ≡ true → r.reply.event ≡ (turn_of a st p v).event
    → ByRule a p v st (turn_of a st p v).state r
turn_rule Status p v st r h f e = stays (status_event (connected v) st p v h).0 (says r None (e ∙ (status_event (connected v) st p v h).1))
turn_rule Gone p v st r h f e = gone refl (eqb-true st 2 f) refl (says r _ e)
turn_rule Reset p v st r h f e = stays refl (says r _ e)
turn_rule Release p v st r h f e = reseted refl (eqb-true st 0 f) refl (says r _ e)
turn_rule Again p v st r h f e = again_rule (connected v) (enabled v) p v st r refl refl (eqb-true st 1 f) e
turn_rule Owner p v st r h f e = stays refl (says r _ e)

pub scanned_event : (h : EhciRootHub) (t : Turned) (p : Place) → (scanned_of h t p).reply.event ≡ t.event
unfolding scanned_of
scanned_event h t p = refl

pub scanned_states : (h : EhciRootHub) (t : Turned) (p : Place) → (scanned_of h t p).hub.states ≡ set h.states (h.port - 1) t.state
unfolding scanned_of with_scan
scanned_states h t p = refl

pub only_by_rule : OnlyByRule
only_by_rule h v r z =
    let b : Begun h = record { right = r; begun = z } in
    let t = turn_at h v in
    let p = place_after h.port h.ports t.step in
    let states : (step_of h v).hub.states ≡ set h.states (h.port - 1) t.state
    = ap (λ (s : Scanned). s.hub.states) (step_is h r.good v z) ∙ scanned_states h t p in
    let event : (step_of h v).reply.event ≡ t.event
    = ap (λ (s : Scanned). s.reply.event) (step_is h r.good v z) ∙ scanned_event h t p in (
      subst (λ (n : ℕ). ByRule (awaited_of h.step) h.port v (state_at h) n (step_of h v))
          (sym (ap (λ (l : List ℕ). get_or l (h.port - 1) 0) states ∙ here_set h b t.state))
          (turn_rule (awaited_of h.step) h.port v (state_at h) (step_of h v) (here_most h b) (step_fits h r.good z) event),
      λ k ne. rw states (get_or-set_other h.states (h.port - 1) k t.state 0 ne),
    )

-- where a reading leads
status_seen : (n : ℕ) (c : Bool) (st : ℕ) → st ≤ 2 → (status_turn (port_state st) st c).step ≡ n
    → (n ≡ 2 → (st ≡ 2) × (c ≡ false)) × (n ≡ 3 → (st ≡ 0) × (c ≡ true))
status_seen n true st h =
    by_state (λ s. (status_turn (port_state s) s true).step ≡ n → (n ≡ 2 → (s ≡ 2) × (true ≡ false)) × (n ≡ 3 → (s ≡ 0) × (true ≡ true)))
    (λ e. (λ q. absurd (omega arith), λ q. (refl, refl)))
    (λ e. (λ q. absurd (omega arith), λ q. absurd (omega arith)))
    (λ e. (λ q. absurd (omega arith), λ q. absurd (omega arith))) st h
status_seen n false st h =
    by_state (λ s. (status_turn (port_state s) s false).step ≡ n → (n ≡ 2 → (s ≡ 2) × (false ≡ false)) × (n ≡ 3 → (s ≡ 0) × (false ≡ true)))
    (λ e. (λ q. absurd (omega arith), λ q. absurd (omega arith)))
    (λ e. (λ q. absurd (omega arith), λ q. absurd (omega arith)))
    (λ e. (λ q. (refl, refl), λ q. absurd (omega arith))) st h

again_steps : (c d : Bool) (st p n : ℕ) → (again_turn st p c d).step ≡ n → (n ≡ 2 → ⊥) × (n ≡ 3 → ⊥)
again_steps true true st p n e = (λ q. omega arith, λ q. omega arith)
again_steps true false st p n e = (λ q. omega arith, λ q. omega arith)
again_steps false d st p n e = (λ q. omega arith, λ q. omega arith)

Seen : Awaited → ℕ → ℕ → ℕ → Type 0
Seen a st v n =
    (n ≡ 2 → (a ≡ Status) × (st ≡ 2) × (connected v ≡ false)) × (n ≡ 3 → (a ≡ Status) × (st ≡ 0) × (connected v ≡ true))

turn_seen : (a : Awaited) (p v st n : ℕ) → st ≤ 2 → (turn_of a st p v).step ≡ n → Seen a st v n
unfolding Seen
turn_seen Status p v st n h e =
    let s = status_seen n (connected v) st h e in
    (λ q. (refl, (s.0 q).0, (s.0 q).1), λ q. (refl, (s.1 q).0, (s.1 q).1))
turn_seen Gone p v st n h e = (λ q. absurd (omega arith), λ q. absurd (omega arith))
turn_seen Reset p v st n h e = (λ q. absurd (omega arith), λ q. absurd (omega arith))
turn_seen Release p v st n h e = (λ q. absurd (omega arith), λ q. absurd (omega arith))
turn_seen Again p v st n h e =
    let s = again_steps (connected v) (enabled v) st p n e in
    (λ q. absurd (s.0 q), λ q. absurd (s.1 q))
turn_seen Owner p v st n h e = (λ q. absurd (omega arith), λ q. absurd (omega arith))

place_kept : (port ports st n : ℕ) → 2 ≤ n → (place_after port ports st).step ≡ n → st ≡ n
unfolding place_after
place_kept port ports st n l e = by (dec_eq st 0) (ltb port ports) refl
  where
    by : Dec (st ≡ 0) → (b : Bool) → ltb port ports ≡ b → st ≡ n
    by (yes z) true q = absurd (omega (arith, rw (eq-eqb st 0 z, q) at e))
    by (yes z) false q = absurd (omega (arith, rw (eq-eqb st 0 z, q) at e))
    by (no z) b q = rw (ne_eqb st 0 z) at e

pub scanned_step : (h : EhciRootHub) (t : Turned) (p : Place) → (scanned_of h t p).hub.step ≡ p.step
unfolding scanned_of with_scan
scanned_step h t p = refl

pub only_when_seen : OnlyWhenSeen
unfolding Seen
only_when_seen h v r z =
    let b : Begun h = record { right = r; begun = z } in
    let t = turn_at h v in
    let p = place_after h.port h.ports t.step in
    let on : (step_of h v).hub.step ≡ p.step = ap (λ (s : Scanned). s.hub.step) (step_is h r.good v z) ∙ scanned_step h t p in
    let seen = turn_seen (awaited_of h.step) h.port v (state_at h) t.step (here_most h b) refl in (
      λ q. seen.0 (place_kept h.port h.ports t.step 2 (omega arith) (sym on ∙ q)),
      λ q. seen.1 (place_kept h.port h.ports t.step 3 (omega arith) (sym on ∙ q)),
    )

-- ---- the record as opening makes it

uninit_right : (ports k : ℕ) → state_good ports k 0 ≡ true
unfolding state_good
uninit_right ports k = by (ltb k ports)
  where
    by : (b : Bool) → cond b (leb 0 2) (eqb 0 0) ≡ true
    by true = refl
    by false = refl

pub opened_right : OpenedRight
unfolding opened_hub place_good
opened_right ports l m =
    record {
      good = hub_makes (opened_hub ports) (within_makes ports 1 15 l m) (λ i h. rw (zeros_at 15 i) (uninit_right ports i)) refl;
      sized = refl;
    }

pub refused_out : RefusedOut
unfolding hub_good opened_hub
refused_out = refl

-- ---- the registers

own_writes : (port : ℕ) (c : (Option ℕ))
    → (map (λ (w : Write). w.offset) (list_of (port_writes port c)) ≡ [])
    ⊎ (map (λ (w : Write). w.offset) (list_of (port_writes port c)) ≡ portsc_of port ∷ [])
unfolding no_writes and_then
own_writes port None = inl refl
own_writes port (Some v) = inr refl

silent : map (λ (w : Write). w.offset) (list_of no_writes) ≡ []
unfolding no_writes
silent = refl

pub scanned_writes : (h : EhciRootHub) (t : Turned) (p : Place) → (scanned_of h t p).reply.writes ≡ port_writes h.port t.change
unfolding scanned_of
scanned_writes h t p = refl

pub only_own : OnlyOwn
only_own h v = by (hub_good h) refl (dec_eq h.step 0)
  where
    by : (g : Bool) → hub_good h ≡ g → Dec (h.step ≡ 0)
        → (map (λ (w : Write). w.offset) (list_of (step_of h v).reply.writes) ≡ [])
        ⊎ (map (λ (w : Write). w.offset) (list_of (step_of h v).reply.writes) ≡ portsc_of h.port ∷ [])
    by false e d = inl (rw (step_out h v e) silent)
    by true e (yes z) = inl (rw (step_idle h e v z) silent)
    by true e (no n) =
        rw (step_is h e v n, scanned_writes h (turn_at h v) (place_after h.port h.ports (turn_at h v).step))
        (own_writes h.port (turn_at h v).change)
