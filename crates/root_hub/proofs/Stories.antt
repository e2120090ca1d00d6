-- A whole scan reports and writes for each port what its readings bring, and leaves it in its state.
use Prim.Native.Nat.{ℕ, zero, suc, ◌+◌, ◌-◌, ◌≤◌, ◌<◌}
use mathlib.Core.Bool.{Bool, true, false, cond, not, ◌&&◌}
use mathlib.Core.List.{List, [], ◌∷◌, ◌++◌, append_assoc, map}
use mathlib.Core.Path.{◌≡◌, refl, sym, ap, subst, ◌∙◌}
use native.Mathlib.Decide.{ℕ_discrete as dec_eq}
use native.Mathlib.Omega.{arith}
use borrow.Author.Tests.{le-leb, ne_eqb}
use lib.ListN.{get_or, set}
use lib.Seq.{get_or-set_other, set-set}
use Rattle.register.specs.Bits.{with_bits, without_bits}
use Rattle.register.specs.EhciRegisters.{portsc_of}
use Rattle.register.specs.Writes.{list_of, write_of}
use Rattle.register.specs.declared.writes.Write.{Write}
use Rattle.common.proofs.TestLaws.{within_least}
use Rattle.opening.specs.declared.hub.EhciRootHub.{EhciRootHub}
use Rattle.root_hub.specs.declared.calls.Scanned.{Scanned}
use Rattle.root_hub.specs.declared.scan.Awaited.{Awaited}
use Rattle.root_hub.specs.declared.scan.Awaited.TheVariants.{Status, Gone, Reset, Release, Again, Owner}
use Rattle.root_hub.specs.declared.scan.Place.{Place}
use Rattle.root_hub.specs.declared.scan.Turned.{Turned}
use Rattle.root_hub.specs.Calls.{scanned_of, step_of, turn_at, with_scan}
use Rattle.root_hub.specs.Ports.{port_state}
use Rattle.root_hub.specs.Ranges.{place_good, state_at}
use Rattle.root_hub.specs.Scan.{again_turn, awaited_of, place_after, status_turn, turn_of}
use Rattle.root_hub.specs.Stories.{Event, Readings, WholeScan, all_taken, all_told, all_wrote, event_of, is_ready, leaves, left_again, left_in, reports, taken, taken_again, told, told_again, writes, wrote_again, wrote_to}
use Rattle.root_hub.specs.Table.{hub_core, is_connected, is_enabled}
use Rattle.root_hub.proofs.Cases.{place_end, place_next, place_on}
use Rattle.root_hub.proofs.RunLaws.{Begun, after, here_most, here_set, hub_makes, port_least, ports_within, scanned_event, scanned_writes, set_right, set_sized, started, started_begun, started_is, step_is}
use Rattle.root_hub.proofs.Table.{values_of, writes_of}

-- ---- a stretch of readings, and what follows it

record Ran (h : EhciRootHub) (vs : List ℕ) (es : List Event) (ws : List Write) (g : EhciRootHub) : Type 0 where
  told_is : (more : List ℕ) → reports hub_core h (vs ++ more) ≡ es ++ reports hub_core g more
  wrote_is : (more : List ℕ) → writes hub_core h (vs ++ more) ≡ ws ++ writes hub_core g more
  left_is : (more : List ℕ) → leaves hub_core h (vs ++ more) ≡ leaves hub_core g more

stop : (h g : EhciRootHub) → h ≡ g → Ran h [] [] [] g
stop h g e =
    record {
      told_is = λ more. ap (λ (x : EhciRootHub). reports hub_core x more) e;
      wrote_is = λ more. ap (λ (x : EhciRootHub). writes hub_core x more) e;
      left_is = λ more. ap (λ (x : EhciRootHub). leaves hub_core x more) e;
    }

-- one reading, then a stretch
reading : (h : EhciRootHub) (v : ℕ) (vs : List ℕ) (e es : List Event) (w ws : List Write) (g : EhciRootHub)
    → event_of (step_of h v).reply.event ≡ e → list_of (step_of h v).reply.writes ≡ w → Ran (step_of h v).hub vs es ws g
    → Ran h (v ∷ vs) (e ++ es) (w ++ ws) g
reading h v vs e es w ws g ee ew r =
    record {
      told_is = λ more.
          ap (λ (x : List Event). x ++ reports hub_core (step_of h v).hub (vs ++ more)) ee
          ∙ ap (λ (x : List Event). e ++ x) (r.told_is more)
          ∙ sym (append_assoc e es (reports hub_core g more));
      wrote_is = λ more.
          ap (λ (x : List Write). x ++ writes hub_core (step_of h v).hub (vs ++ more)) ew
          ∙ ap (λ (x : List Write). w ++ x) (r.wrote_is more)
          ∙ sym (append_assoc w ws (writes hub_core g more));
      left_is = λ more. r.left_is more;
    }

-- ---- one reading of a port

-- the record with the port in a state and the scan past it
past : EhciRootHub → ℕ → EhciRootHub
past h n = with_scan h (set h.states (h.port - 1) n) (place_after h.port h.ports 0).port (place_after h.port h.ports 0).step

abbrev to : ℕ → List ℕ → List Write
to p vs = map (λ (x : ℕ). write_of (portsc_of p) x) vs

module _ (h : EhciRootHub) (b : Begun h) (v p : ℕ) (ep : h.port ≡ p) (t : Turned) (et : turn_at h v ≡ t) where
  stepped : step_of h v ≡ scanned_of h t (place_after h.port h.ports t.step)
  stepped =
      step_is h b.right.good v b.begun
      ∙ ap (λ (x : Turned). scanned_of h x (place_after h.port h.ports x.step)) et

  said : event_of (step_of h v).reply.event ≡ event_of t.event
  said = ap (λ (s : Scanned). event_of s.reply.event) stepped ∙ ap event_of (scanned_event h t _)

  put : list_of (step_of h v).reply.writes ≡ to p (values_of t.change)
  put =
      ap (λ (s : Scanned). list_of s.reply.writes) stepped
      ∙ ap list_of (scanned_writes h t _)
      ∙ writes_of h.port t.change
      ∙ ap (λ (q : ℕ). to q (values_of t.change)) ep

  -- the port is done with
  done_hub : t.step ≡ 0 → (scanned_of h t (place_after h.port h.ports t.step)).hub ≡ past h t.state
  unfolding scanned_of past
  done_hub z = rw z

  off : t.step ≡ 0 → Ran h (v ∷ []) (event_of t.event ++ []) (to p (values_of t.change) ++ []) (past h t.state)
  off z = reading h v [] _ [] _ [] _ said put (stop _ _ (ap (λ (s : Scanned). s.hub) stepped ∙ done_hub z))

  -- the port is read on
  here : EhciRootHub
  here = with_scan h (set h.states (h.port - 1) t.state) h.port t.step

  here_is : (t.step ≡ 0 → ⊥) → (step_of h v).hub ≡ here
  unfolding here scanned_of
  here_is z =
      ap (λ (s : Scanned). s.hub) stepped
      ∙ ap (λ (q : Place). with_scan h (set h.states (h.port - 1) t.state) q.port q.step)
      (sym (place_on h.port h.ports t.step _ refl z))

  at_port : here.port ≡ p
  unfolding here with_scan
  at_port = ep

  at_step : here.step ≡ t.step
  unfolding here with_scan
  at_step = refl

  at_state : state_at here ≡ t.state
  unfolding here with_scan
  at_state = here_set h b t.state

  same : (n : ℕ) → past here n ≡ past h n
  unfolding past here with_scan
  same n = rw (set-set h.states (h.port - 1) t.state n)

  on : (t.step ≡ 0 → ⊥) → (vs : List ℕ) (es : List Event) (ws : List Write) (n : ℕ)
      → ((g : EhciRootHub) → Begun g → g.port ≡ p → g.step ≡ t.step → state_at g ≡ t.state → Ran g vs es ws (past g n))
      → Ran h (v ∷ vs) (event_of t.event ++ es) (to p (values_of t.change) ++ ws) (past h n)
  on z vs es ws n rest =
      let is = here_is z in
      let step = ap (λ (x : EhciRootHub). x.step) is ∙ at_step in
      reading h v vs _ es _ ws _ said put
      (subst (λ (x : EhciRootHub). Ran (step_of h v).hub vs es ws x) (ap (λ (x : EhciRootHub). past x n) is ∙ same n)
      (rest (step_of h v).hub
      (record { right = (after h b v).right; begun = λ q. z (sym step ∙ q) })
      (ap (λ (x : EhciRootHub). x.port) is ∙ at_port)
      step
      (ap state_at is ∙ at_state)))

-- ---- a port's story

turn_at_lem : (h : EhciRootHub) (v p k st : ℕ) (a : Awaited) → h.port ≡ p → h.step ≡ k → state_at h ≡ st → awaited_of k ≡ a → turn_at h v ≡ turn_of a st p v
turn_at_lem h v p k st a ep ek es ea =
    ap (λ (x : ℕ). turn_of (awaited_of x) (state_at h) h.port v) ek
    ∙ ap (λ (x : Awaited). turn_of x (state_at h) h.port v) ea
    ∙ ap (λ (x : ℕ). turn_of a x h.port v) es
    ∙ ap (λ (x : ℕ). turn_of a st x v) ep

module _ (h : EhciRootHub) (b : Begun h) (p : ℕ) (ep : h.port ≡ p) (r : Readings) where
  owner_ran : h.step ≡ 6 → state_at h ≡ 1 → Ran h (r.owner ∷ []) [] (to p (with_bits r.owner 0x2000 ∷ [])) (past h 1)
  owner_ran ek es = off h b r.owner p ep _ (turn_at_lem h r.owner p 6 1 Owner ep ek es refl) refl

  loss_ran : h.step ≡ 2 → state_at h ≡ 2 → Ran h (r.loss ∷ []) ((2, p ∷ []) ∷ []) (to p (without_bits (with_bits r.loss 2) 0x28 ∷ [])) (past h 0)
  loss_ran ek es = off h b r.loss p ep _ (turn_at_lem h r.loss p 2 2 Gone ep ek es refl) refl

  -- read again, by what is read
  AgainRan : Bool → Bool → Type 0
  AgainRan c d =
      Ran h (r.again ∷ cond (c && not d) (r.owner ∷ []) []) (cond (c && d) ((1, p ∷ 2 ∷ []) ∷ []) [])
      (to p (cond (c && not d) (with_bits r.owner 0x2000 ∷ []) [])) (past h (cond (c && d) 2 1))

module _ (r : Readings) where
  again_by : (h : EhciRootHub) (b : Begun h) (p : ℕ) (ep : h.port ≡ p) (c d : Bool) → h.step ≡ 5 → state_at h ≡ 1 → turn_at h r.again ≡ again_turn 1 p c d → AgainRan h b p ep r c d
  unfolding AgainRan
  again_by h b p ep true true ek es et = off h b r.again p ep _ et refl
  again_by h b p ep true false ek es et =
      on h b r.again p ep _ et (λ z. omega (arith, z)) (r.owner ∷ []) [] _ 1
      (λ g gb gp gk gs. owner_ran g gb p gp r gk gs)
  again_by h b p ep false d ek es et = off h b r.again p ep _ et refl

  again_ran : (h : EhciRootHub) (b : Begun h) (p : ℕ) → h.port ≡ p → h.step ≡ 5 → state_at h ≡ 1
      → Ran h (taken_again r) (told_again p r) (to p (wrote_again r)) (past h (left_again r))
  unfolding AgainRan
  again_ran h b p ep ek es =
      again_by h b p ep (is_connected r.again) (is_enabled r.again) ek es (turn_at_lem h r.again p 5 1 Again ep ek es refl)

  release_ran : (h : EhciRootHub) (b : Begun h) (p : ℕ) → h.port ≡ p → h.step ≡ 4 → state_at h ≡ 0
      → Ran h (r.release ∷ taken_again r) (told_again p r) (to p (without_bits r.release 0x100 ∷ wrote_again r)) (past h (left_again r))
  release_ran h b p ep ek es =
      on h b r.release p ep _ (turn_at_lem h r.release p 4 0 Release ep ek es refl) (λ z. omega (arith, z)) (taken_again r) (told_again p r) (to p (wrote_again r)) (left_again r)
      (λ g gb gp gk gs. again_ran g gb p gp gk gs)

  reset_ran : (h : EhciRootHub) (b : Begun h) (p : ℕ) → h.port ≡ p → h.step ≡ 3 → state_at h ≡ 0
      → Ran h (r.reset ∷ r.release ∷ taken_again r) (told_again p r)
      (to p (without_bits (with_bits r.reset 0x1100) 0x2A ∷ without_bits r.release 0x100 ∷ wrote_again r)) (past h (left_again r))
  reset_ran h b p ep ek es =
      on h b r.reset p ep _ (turn_at_lem h r.reset p 3 0 Reset ep ek es refl) (λ z. omega (arith, z)) _ (told_again p r) _ (left_again r)
      (λ g gb gp gk gs. release_ran g gb p gp gk gs)

  -- by the state that the port has, and what is read first
  uninit_by : (h : EhciRootHub) (b : Begun h) (p : ℕ) → h.port ≡ p → (c : Bool) → turn_at h r.status ≡ status_turn (port_state 0) 0 c
      → Ran h (r.status ∷ cond c (r.reset ∷ r.release ∷ taken_again r) []) (cond c (told_again p r) [])
      (to p (cond c (without_bits (with_bits r.reset 0x1100) 0x2A ∷ without_bits r.release 0x100 ∷ wrote_again r) [])) (past h (cond c (left_again r) 0))
  uninit_by h b p ep true et =
      on h b r.status p ep _ et (λ z. omega (arith, z)) _ (told_again p r) _ (left_again r) (λ g gb gp gk gs. reset_ran g gb p gp gk gs)
  uninit_by h b p ep false et = off h b r.status p ep _ et refl

  reseted_by : (h : EhciRootHub) (b : Begun h) (p : ℕ) → h.port ≡ p → (c : Bool) → turn_at h r.status ≡ status_turn (port_state 1) 1 c
      → Ran h (r.status ∷ cond c (taken_again r) []) (cond c (told_again p r) []) (to p (cond c (wrote_again r) [])) (past h (cond c (left_again r) 1))
  reseted_by h b p ep true et =
      on h b r.status p ep _ et (λ z. omega (arith, z)) _ (told_again p r) _ (left_again r) (λ g gb gp gk gs. again_ran g gb p gp gk gs)
  reseted_by h b p ep false et = off h b r.status p ep _ et refl

  probed_by : (h : EhciRootHub) (b : Begun h) (p : ℕ) → h.port ≡ p → (c : Bool) → turn_at h r.status ≡ status_turn (port_state 2) 2 c
      → Ran h (r.status ∷ cond c [] (r.loss ∷ [])) (cond c [] ((2, p ∷ []) ∷ []))
      (to p (cond c [] (without_bits (with_bits r.loss 2) 0x28 ∷ []))) (past h (cond c 2 0))
  probed_by h b p ep true et = off h b r.status p ep _ et refl
  probed_by h b p ep false et =
      on h b r.status p ep _ et (λ z. omega (arith, z)) (r.loss ∷ []) ((2, p ∷ []) ∷ []) _ 0 (λ g gb gp gk gs. loss_ran g gb p gp r gk gs)

  port_ran : (h : EhciRootHub) (b : Begun h) (p st : ℕ) → h.port ≡ p → h.step ≡ 1 → state_at h ≡ st → st ≤ 2
      → Ran h (taken st r) (told p st r) (wrote_to p st r) (past h (left_in st r))
  port_ran h b p zero ep ek es l = uninit_by h b p ep (is_connected r.status) (turn_at_lem h r.status p 1 0 Status ep ek es refl)
  port_ran h b p (suc zero) ep ek es l = reseted_by h b p ep (is_connected r.status) (turn_at_lem h r.status p 1 1 Status ep ek es refl)
  port_ran h b p (suc (suc zero)) ep ek es l = probed_by h b p ep (is_connected r.status) (turn_at_lem h r.status p 1 2 Status ep ek es refl)
  port_ran h b p (suc (suc (suc n))) ep ek es l = absurd (omega arith)

-- ---- port after port

cond_most : (c : Bool) (a b : ℕ) → a ≤ 2 → b ≤ 2 → cond c a b ≤ 2
cond_most true a b la lb = la
cond_most false a b la lb = lb

left_most : (st : ℕ) (r : Readings) → left_in st r ≤ 2
left_most zero r = cond_most (is_connected r.status) _ 0 (cond_most (is_ready r) 2 1 (omega arith) (omega arith)) (omega arith)
left_most (suc zero) r = cond_most (is_connected r.status) _ 1 (cond_most (is_ready r) 2 1 (omega arith) (omega arith)) (omega arith)
left_most (suc (suc n)) r = cond_most (is_connected r.status) 2 0 (omega arith) (omega arith)

module _ (h : EhciRootHub) (b : Begun h) (n : ℕ) where
  past_states : (past h n).states ≡ set h.states (h.port - 1) n
  unfolding past with_scan
  past_states = refl

  past_ports : (past h n).ports ≡ h.ports
  unfolding past with_scan
  past_ports = refl

  last_step : h.ports ≤ h.port → (past h n).step ≡ 0
  unfolding past with_scan
  last_step l = sym (ap (λ (x : Place). x.step) (place_end h.port h.ports 0 refl l))

  next_port_lem : h.port < h.ports → (past h n).port ≡ h.port + 1
  unfolding past with_scan
  next_port_lem l = sym (ap (λ (x : Place). x.port) (place_next h.port h.ports 0 _ refl refl l))

  next_step : h.port < h.ports → (past h n).step ≡ 1
  unfolding past with_scan
  next_step l = sym (ap (λ (x : Place). x.step) (place_next h.port h.ports 0 _ refl refl l))

  next_place : h.port < h.ports → place_good (past h n) ≡ true
  unfolding place_good
  next_place l =
      let some : h.port + 1 ≡ 0 → ⊥ = λ q. omega arith in
      let most : h.port + 1 ≤ h.ports = omega arith in
      rw (next_port_lem l, next_step l, past_ports, ne_eqb (h.port + 1) 0 some, le-leb (h.port + 1) h.ports most)

  next_begun : n ≤ 2 → h.port < h.ports → Begun (past h n)
  next_begun m l =
      record {
        right = record {
          good = hub_makes (past h n) (rw past_ports (ports_within h b.right.good)) (λ i k. rw (past_ports, past_states) (set_right h b n m i k)) (next_place l);
          sized = rw past_states (set_sized h b n);
        };
        begun = λ z. omega (arith, z, next_step l);
      }

  -- the other ports' states
  past_other : (k : ℕ) → (k ≡ h.port - 1 → ⊥) → get_or (past h n).states k 0 ≡ get_or h.states k 0
  past_other k ne = rw past_states (get_or-set_other h.states (h.port - 1) k n 0 ne)

  past_here : get_or (past h n).states (h.port - 1) 0 ≡ n
  past_here = rw past_states (here_set h b n)

-- what a scan from a port on leaves to be shown: n more ports follow it
record Told (rs : ℕ → Readings) (h : EhciRootHub) (states : List ℕ) (p n : ℕ) : Type 0 where
  reported : reports hub_core h (all_taken rs states p (suc n)) ≡ all_told rs states p (suc n)
  written : writes hub_core h (all_taken rs states p (suc n)) ≡ all_wrote rs states p (suc n)
  ended : (leaves hub_core h (all_taken rs states p (suc n))).step ≡ 0
  left : (k : ℕ) → p ≤ k + 1 → k < p + n → get_or (leaves hub_core h (all_taken rs states p (suc n))).states k 0 ≡ left_in (get_or states k 0) (rs (k + 1))
  kept : (k : ℕ) → k + 1 < p → get_or (leaves hub_core h (all_taken rs states p (suc n))).states k 0 ≡ get_or h.states k 0

-- a scan that comes to port p, with the states from there on as they were
module _ (rs : ℕ → Readings) (states : List ℕ) (h : EhciRootHub) (b : Begun h) (p : ℕ) (ep : h.port ≡ p) (ek : h.step ≡ 1)
    (agree : (k : ℕ) → p ≤ k + 1 → get_or h.states k 0 ≡ get_or states k 0) where
  least : 1 ≤ p
  least = omega (arith, ep, port_least h b)

  abbrev st : ℕ
  st = get_or states (p - 1) 0

  abbrev after_it : ℕ
  after_it = left_in st (rs p)

  state_is : state_at h ≡ st
  state_is = ap (λ (x : ℕ). get_or h.states (x - 1) 0) ep ∙ agree (p - 1) (omega (arith, least))

  ran : Ran h (taken st (rs p)) (told p st (rs p)) (wrote_to p st (rs p)) (past h after_it)
  ran = port_ran (rs p) h b p st ep ek state_is (subst (λ (x : ℕ). x ≤ 2) state_is (here_most h b))

  here_left : (k : ℕ) → k + 1 ≡ p → get_or (past h after_it).states k 0 ≡ left_in (get_or states k 0) (rs (k + 1))
  here_left k e =
      let at : k ≡ p - 1 = omega (arith, e) in
      ap (λ (x : ℕ). get_or (past h after_it).states x 0) (at ∙ ap (λ (x : ℕ). x - 1) (sym ep))
      ∙ past_here h b after_it
      ∙ ap (λ (x : ℕ). left_in (get_or states x 0) (rs p)) (sym at)
      ∙ ap (λ (x : ℕ). left_in (get_or states k 0) (rs x)) (sym e)

  elsewhere : (k : ℕ) → (k + 1 ≡ p → ⊥) → get_or (past h after_it).states k 0 ≡ get_or h.states k 0
  elsewhere k ne = past_other h b after_it k (λ q. ne (omega (arith, q, ep, least)))

  last : h.ports ≡ p + 0 → Told rs h states p 0
  last en =
      let is = ran.left_is [] in
      record {
        reported = ran.told_is [];
        written = ran.wrote_is [];
        ended = ap (λ (x : EhciRootHub). x.step) is ∙ last_step h b after_it (omega (arith, ep, en));
        left = λ k l m. ap (λ (x : EhciRootHub). get_or x.states k 0) is ∙ here_left k (omega arith);
        kept = λ k l. ap (λ (x : EhciRootHub). get_or x.states k 0) is ∙ elsewhere k (λ q. omega (arith, q));
      }

  further : (m : ℕ) → Told rs (past h after_it) states (p + 1) m → Told rs h states p (suc m)
  further m rest =
      let more = all_taken rs states (p + 1) (suc m) in
      let is = ran.left_is more in
      record {
        reported = ran.told_is more ∙ ap (λ (x : List Event). told p st (rs p) ++ x) rest.reported;
        written = ran.wrote_is more ∙ ap (λ (x : List Write). wrote_to p st (rs p) ++ x) rest.written;
        ended = ap (λ (x : EhciRootHub). x.step) is ∙ rest.ended;
        left = λ k l u. ap (λ (x : EhciRootHub). get_or x.states k 0) is ∙ at k l u (dec_eq (k + 1) p);
        kept = λ k l.
            ap (λ (x : EhciRootHub). get_or x.states k 0) is ∙ rest.kept k (omega arith) ∙ elsewhere k (λ q. omega (arith, q));
      }
    where
      at : (k : ℕ) → p ≤ k + 1 → k < p + suc m → Dec (k + 1 ≡ p)
          → get_or (leaves hub_core (past h after_it) (all_taken rs states (p + 1) (suc m))).states k 0 ≡ left_in (get_or states k 0) (rs (k + 1))
      at k l u (yes q) = rest.kept k (omega (arith, q)) ∙ here_left k q
      at k l u (no ne) = rest.left k (omega arith) (omega arith)

from : (rs : ℕ → Readings) (states : List ℕ) (n : ℕ) (h : EhciRootHub) → Begun h → (p : ℕ) → h.port ≡ p → h.step ≡ 1 → h.ports ≡ p + n
    → ((k : ℕ) → p ≤ k + 1 → get_or h.states k 0 ≡ get_or states k 0) → Told rs h states p n
from rs states zero h b p ep ek en agree = last rs states h b p ep ek agree en
from rs states (suc m) h b p ep ek en agree =
    let n = after_it rs states h b p ep ek agree in
    let inside : h.port < h.ports = omega (arith, ep, en) in
    further rs states h b p ep ek agree m
    (from rs states m (past h n) (next_begun h b n (left_most (get_or states (p - 1) 0) (rs p)) inside) (p + 1)
    (next_port_lem h b n inside ∙ ap (λ (x : ℕ). x + 1) ep)
    (next_step h b n inside)
    (past_ports h b n ∙ en ∙ omega arith)
    (λ k l. elsewhere rs states h b p ep ek agree k (λ q. omega (arith, q)) ∙ agree k (omega arith)))

started_first : (h : EhciRootHub) → ((started h).port ≡ 1) × ((started h).step ≡ 1) × ((started h).ports ≡ h.ports) × ((started h).states ≡ h.states)
unfolding started with_scan
started_first h = (refl, refl, refl, refl)

abbrev Whole : (ℕ → Readings) → List ℕ → EhciRootHub → ℕ → Type 0
Whole rs states s n =
    (reports hub_core s (all_taken rs states 1 n) ≡ all_told rs states 1 n)
    × (writes hub_core s (all_taken rs states 1 n) ≡ all_wrote rs states 1 n)
    × ((leaves hub_core s (all_taken rs states 1 n)).step ≡ 0)
    × ((k : ℕ) → k < n → get_or (leaves hub_core s (all_taken rs states 1 n)).states k 0 ≡ left_in (get_or states k 0) (rs (k + 1)))

pub whole_scan : WholeScan hub_core
whole_scan h rs r =
    let least = within_least h.ports 1 15 (ports_within h r.good) in
    let n = h.ports - 1 in
    let all : suc n ≡ h.ports = omega (arith, least) in
    let f = started_first h in
    let t = from rs h.states n (started h) (started_begun h r) 1 f.0 f.1 (f.2 ∙ omega (arith, least)) (λ k l. ap (λ (x : List ℕ). get_or x k 0) f.3) in
    subst (λ (x : EhciRootHub). Whole rs h.states x h.ports) (sym (started_is h r))
    (subst (λ (x : ℕ). Whole rs h.states (started h) x) all (t.reported, t.written, t.ended, λ k l. t.left k (omega arith) (omega arith)))
