-- Every step of a scan is what 01's table says of its reading; the start and port power are as stated.
use Rattle.std.specs.Prelude.{None, Ok, Option, Some}
use Prim.Native.Nat.{ℕ, zero, suc, ◌-◌, ◌≤◌, ◌<◌}
use mathlib.Core.Bool.{Bool, true, false, not, ◌&&◌}
use mathlib.Core.List.{List, [], ◌∷◌, map}
use mathlib.Core.Logic.{◌⊎◌, inl, inr}
use mathlib.Core.Path.{◌≡◌, refl, sym, ap, subst, ◌∙◌}
use native.Mathlib.Decide.{ℕ_discrete as dec_eq}
use native.Mathlib.Omega.{arith}
use borrow.Author.Tests.{eqb-true, lt-leb, not-true, ltb-false, ltb-true}
use lib.Dec.{leb, ltb}
use lib.ListN.{set}
use Rattle.register.specs.Bits.{with_bits, without_bits}
use Rattle.register.specs.EhciRegisters.{portsc_of}
use Rattle.register.specs.Writes.{list_of, write_of, no_writes, and_then}
use Rattle.common.specs.Tests.{within}
use Rattle.common.proofs.TestLaws.{false_true, within_least, within_most, within_makes}
use Rattle.common.specs.Answers.{number_of}
use Rattle.opening.specs.declared.hub.EhciRootHub.{EhciRootHub}
use Rattle.root_hub.specs.declared.calls.PortPower.{PortPower}
use Rattle.root_hub.specs.declared.calls.Scanned.{Scanned}
use Rattle.root_hub.specs.declared.scan.Awaited.{Awaited}
use Rattle.root_hub.specs.declared.scan.Awaited.TheVariants.{Status, Gone, Reset, Release, Again, Owner}
use Rattle.root_hub.specs.declared.scan.Place.{Place}
use Rattle.root_hub.specs.declared.scan.Turned.{Turned}
use Rattle.root_hub.specs.Ports.{Reports, port_state}
use Rattle.root_hub.specs.Scan.{again_turn, awaited_of, place_after, port_writes, status_turn, turn_of}
use Rattle.root_hub.specs.Ranges.{fits, state_at}
use Rattle.root_hub.specs.Calls.{power_of, scanned_of, step_of, turn_at, with_scan}
use Rattle.root_hub.specs.Table.{Brings, Every, Goes, stays, ascends, ends, Matches, Powers, PowersPorts, Row, SomeRow, Starts, StartsAtPortOne, StepsByTable, hub_core, is_absent, is_connected, is_enabled, table}
use Rattle.root_hub.proofs.Cases.{place_end, place_next, place_on, power_done, power_none, step_fits, step_within}
use Rattle.root_hub.proofs.RunLaws.{Begun, by_state, here_most, start_is, step_is}

-- ---- what a turn is to a row

abbrev pub values_of : Option ℕ → List ℕ
values_of None = []
values_of (Some x) = x ∷ []

pub writes_of : (port : ℕ) (c : (Option ℕ)) → list_of (port_writes port c) ≡ map (λ (x : ℕ). write_of (portsc_of port) x) (values_of c)
unfolding no_writes and_then
writes_of port None = refl
writes_of port (Some x) = refl

record Fills (port v : ℕ) (r : Row) (t : Turned) : Type 0 where
  state_is : t.state ≡ r.becomes
  step_is' : t.step ≡ r.after
  change_is : values_of t.change ≡ r.written v
  event_is : Reports t.event r.event (r.values port)
  wait_is : t.wait ≡ r.wait

fills : {port v : ℕ} {r : Row} {t : Turned} → t.state ≡ r.becomes → t.step ≡ r.after → values_of t.change ≡ r.written v
    → Reports t.event r.event (r.values port) → t.wait ≡ r.wait → Fills port v r t
fills s k c e w = record { state_is = s; step_is' = k; change_is = c; event_is = e; wait_is = w }

module _ (h : EhciRootHub) (b : Begun h) (v : ℕ) where
  goes_place : (t : Turned) (p : Place) → place_after h.port h.ports t.step ≡ p → Dec (t.step ≡ 0) → (l : Bool) → ltb h.port h.ports ≡ l
      → Goes h.port h.ports t.step (scanned_of h t p).hub (scanned_of h t p).reply.read
  unfolding scanned_of with_scan
  goes_place t p e (no n) l q =
      let is = place_on h.port h.ports t.step _ refl n ∙ e in
      stays n (sym (ap (λ (x : Place). x.port) is)) (sym (ap (λ (x : Place). x.step) is)) (sym (ap (λ (x : Place). x.read) is))
  goes_place t p e (yes z) true q =
      let m : h.port < h.ports = ltb-true h.port h.ports q in
      let is = place_next h.port h.ports t.step _ refl z m ∙ e in
      ascends z m (sym (ap (λ (x : Place). x.port) is)) (sym (ap (λ (x : Place). x.step) is)) (sym (ap (λ (x : Place). x.read) is))
  goes_place t p e (yes z) false q =
      let m : h.ports ≤ h.port = ltb-false h.port h.ports q in
      let is = place_end h.port h.ports t.step z m ∙ e in
      ends z m (sym (ap (λ (x : Place). x.port) is)) (sym (ap (λ (x : Place). x.step) is)) (sym (ap (λ (x : Place). x.read) is))

  scanned_brings : (r : Row) (t : Turned) → Fills h.port v r t → Brings h v r (scanned_of h t (place_after h.port h.ports t.step))
  unfolding scanned_of with_scan
  scanned_brings r t f =
      record {
        accepted = refl;
        reports = f.event_is;
        writes = writes_of h.port t.change ∙ ap (λ (l : List ℕ). map (λ (x : ℕ). write_of (portsc_of h.port) x) l) f.change_is;
        waits = f.wait_is;
        same_ports = refl;
        states = ap (λ (n : ℕ). set h.states (h.port - 1) n) f.state_is;
        goes = rw (← f.step_is') (goes_place t _ refl (dec_eq t.step 0) (ltb h.port h.ports) refl);
      }

  -- a row that matches is what the step does, where the turn of its state and reading fills it
  brings : (r : Row) (a : Awaited) → Matches h v r → awaited_of r.reading ≡ a → Fills h.port v r (turn_of a r.state h.port v) → Brings h v r (step_of h v)
  brings r a m e f =
      let same : turn_at h v ≡ turn_of a r.state h.port v
      = ap (λ (k : ℕ). turn_of (awaited_of k) (state_at h) h.port v) m.1
      ∙ ap (λ (x : Awaited). turn_of x (state_at h) h.port v) e
      ∙ ap (λ (n : ℕ). turn_of a n h.port v) m.0 in
      subst (λ (s : Scanned). Brings h v r s)
      (sym
      (step_is h b.right.good v b.begun
      ∙ ap (λ (t : Turned). scanned_of h t (place_after h.port h.ports t.step)) same))
      (scanned_brings r (turn_of a r.state h.port v) f)

absent : (v : ℕ) → is_absent v ≡ true → is_connected v ≡ false
absent v e = not-true (is_connected v) e

-- the turns that ask what is read, by what it is
module _ (port v : ℕ) (r : Row) where
  by_status : (st : ℕ) (c : Bool) → is_connected v ≡ c → Fills port v r (status_turn (port_state st) st c) → Fills port v r (turn_of Status st port v)
  by_status st c e f = subst (λ (x : Bool). Fills port v r (status_turn (port_state st) st x)) (sym e) f

  by_again : (st : ℕ) (c d : Bool) → is_connected v ≡ c → is_enabled v ≡ d → Fills port v r (again_turn st port c d) → Fills port v r (turn_of Again st port v)
  by_again st c d e g f =
      subst (λ (x : Bool). Fills port v r (again_turn st port x (is_enabled v))) (sym e)
      (subst (λ (x : Bool). Fills port v r (again_turn st port c x)) (sym g) f)

  by_lost : (st : ℕ) → is_connected v ≡ false → Fills port v r (again_turn st port false false) → Fills port v r (turn_of Again st port v)
  by_lost st e f = subst (λ (x : Bool). Fills port v r (again_turn st port x (is_enabled v))) (sym e) f'
    where
      f' : Fills port v r (again_turn st port false (is_enabled v))
      f' = f

and_tells : (a b : Bool) → a && b ≡ true → (a ≡ true) × (b ≡ true)
and_tells true b e = (refl, e)
and_tells false b e = absurd (false_true e)

every_row : (h : EhciRootHub) → Begun h → (v : ℕ) → Every (λ (r : Row). Matches h v r → Brings h v r (step_of h v)) table
every_row h b v = (
  λ m. brings h b v _ Status m refl (by_status h.port v _ 0 false (absent v m.2) (fills refl refl refl (refl, refl) refl)),
  (
    λ m. brings h b v _ Status m refl (by_status h.port v _ 1 false (absent v m.2) (fills refl refl refl (refl, refl) refl)),
    (
      λ m. brings h b v _ Status m refl (by_status h.port v _ 2 true m.2 (fills refl refl refl (refl, refl) refl)),
      (
        λ m. brings h b v _ Status m refl (by_status h.port v _ 2 false (absent v m.2) (fills refl refl refl (refl, refl) refl)),
        (
          λ m. brings h b v _ Gone m refl (fills refl refl refl (refl, refl) refl),
          (
            λ m. brings h b v _ Status m refl (by_status h.port v _ 0 true m.2 (fills refl refl refl (refl, refl) refl)),
            (
              λ m. brings h b v _ Reset m refl (fills refl refl refl (refl, refl) refl),
              (
                λ m. brings h b v _ Release m refl (fills refl refl refl (refl, refl) refl),
                (
                  λ m. brings h b v _ Status m refl (by_status h.port v _ 1 true m.2 (fills refl refl refl (refl, refl) refl)),
                  (
                    λ m. brings h b v _ Again m refl (by_lost h.port v _ 1 (absent v m.2) (fills refl refl refl (refl, refl) refl)),
                    (
                      λ m. let t = and_tells (is_connected v) (is_enabled v) m.2 in brings h b v _ Again m refl (by_again h.port v _ 1 true true t.0 t.1 (fills refl refl refl (refl, refl) refl)),
                      (
                        λ m. let t = and_tells (is_connected v) (not (is_enabled v)) m.2 in
                            brings h b v _ Again m refl (by_again h.port v _ 1 true false t.0 (not-true (is_enabled v) t.1) (fills refl refl refl (refl, refl) refl)),
                        (
                          λ m. brings h b v _ Owner m refl (fills refl refl refl (refl, refl) refl),
                          tt,
                        ),
                      ),
                    ),
                  ),
                ),
              ),
            ),
          ),
        ),
      ),
    ),
  ),
)

-- ---- a row is there

At : ℕ → ℕ → ℕ → Row → Type 0
At st k v r = (st ≡ r.state) × (k ≡ r.reading) × (r.given v ≡ true)

some_status : (v st : ℕ) (c : Bool) → is_connected v ≡ c → st ≤ 2 → SomeRow (At st 1 v) table
unfolding At
some_status v st true e l =
    by_state (λ s. SomeRow (At s 1 v) table)
    (inr (inr (inr (inr (inr (inl (refl, refl, e)))))))
    (inr (inr (inr (inr (inr (inr (inr (inr (inl (refl, refl, e))))))))))
    (inr (inr (inl (refl, refl, e)))) st l
some_status v st false e l =
    by_state (λ s. SomeRow (At s 1 v) table)
    (inl (refl, refl, ap not e))
    (inr (inl (refl, refl, ap not e)))
    (inr (inr (inr (inl (refl, refl, ap not e))))) st l

some_again : (v st : ℕ) (c d : Bool) → is_connected v ≡ c → is_enabled v ≡ d → st ≡ 1 → SomeRow (At st 5 v) table
unfolding At
some_again v st true true e g q =
    inr (inr (inr (inr (inr (inr (inr (inr (inr (inr (inl (q, refl, ap (λ (x : Bool). x && is_enabled v) e ∙ g)))))))))))
some_again v st true false e g q =
    inr (inr (inr (inr (inr (inr (inr (inr (inr (inr (inr (inl (q, refl, ap (λ (x : Bool). x && not (is_enabled v)) e ∙ ap not g))))))))))))
some_again v st false d e g q =
    inr (inr (inr (inr (inr (inr (inr (inr (inr (inl (q, refl, ap not e))))))))))

some_at : (v st k : ℕ) → st ≤ 2 → 1 ≤ k → k ≤ 6 → fits (awaited_of k) st ≡ true → SomeRow (At st k v) table
unfolding At
some_at v st zero l a b f = absurd (omega arith)
some_at v st (suc zero) l a b f = some_status v st (is_connected v) refl l
some_at v st (suc (suc zero)) l a b f = inr (inr (inr (inr (inl (eqb-true st 2 f, refl, refl)))))
some_at v st (suc (suc (suc zero))) l a b f = inr (inr (inr (inr (inr (inr (inl (eqb-true st 0 f, refl, refl)))))))
some_at v st (suc (suc (suc (suc zero)))) l a b f = inr (inr (inr (inr (inr (inr (inr (inl (eqb-true st 0 f, refl, refl))))))))
some_at v st (suc (suc (suc (suc (suc zero))))) l a b f = some_again v st (is_connected v) (is_enabled v) refl refl (eqb-true st 1 f)
some_at v st (suc (suc (suc (suc (suc (suc zero)))))) l a b f =
    inr (inr (inr (inr (inr (inr (inr (inr (inr (inr (inr (inr (inl (eqb-true st 1 f, refl, refl)))))))))))))
some_at v st (suc (suc (suc (suc (suc (suc (suc n))))))) l a b f = absurd (omega arith)

pub steps_by_table : StepsByTable hub_core
unfolding At
steps_by_table h v r z =
    let b : Begun h = record { right = r; begun = z } in
    let w = step_within h r.good z in (
      some_at v (state_at h) h.step (here_most h b) (within_least h.step 1 6 w) (within_most h.step 1 6 w) (step_fits h r.good z),
      every_row h b v,
    )

-- ---- the start, and port power

silent : list_of no_writes ≡ []
unfolding no_writes
silent = refl

begins : (h : EhciRootHub) → Starts h (record { hub = with_scan h h.states 1 1; reply = record { answer = Ok tt; event = None; writes = no_writes; read = Some (portsc_of 1); wait = 0 } })
unfolding with_scan
begins h = record { accepted = refl; reports = (refl, refl); writes = silent; waits = refl; reads = refl; left = refl }

pub starts_at_port_one : StartsAtPortOne hub_core
starts_at_port_one h r = subst (λ (s : Scanned). Starts h s) (sym (start_is h r.good)) (begins h)

-- what is written for a port that is there
powers : (port v : ℕ) → Powers port v (record { answer = Ok tt; writes = and_then no_writes (portsc_of port) (without_bits (with_bits v 0x1000) 0x2A); wait = 20 })
unfolding no_writes and_then
powers port v = record { accepted = refl; writes = refl; waits = refl }

pub powers_ports : PowersPorts hub_core
powers_ports h port v g = (there, beyond)
  where
    there : 1 ≤ port → port ≤ h.ports → Powers port v (power_of h port v)
    there l m =
        subst (λ (p : PortPower). Powers port v p)
        (power_done h true (sym g) port v _ _ _ _ _ refl (ap not (within_makes port 1 h.ports l m)) refl refl refl refl refl)
        (powers port v)

    without : within port 1 h.ports ≡ false → number_of (power_of h port v).answer ≡ 1
    without e = sym (ap (λ (p : PortPower). number_of p.answer) (power_none h true (sym g) port v _ refl (ap not e) refl))

    beyond : (port < 1) ⊎ (h.ports < port) → number_of (power_of h port v).answer ≡ 1
    beyond (inl l) = without (rw (lt-leb 1 port l))
    beyond (inr l) = without (low (leb 1 port) (leb port h.ports) (lt-leb port h.ports l))
      where
        low : (a b : Bool) → b ≡ false → a && b ≡ false
        low true b e = e
        low false b e = refl
