-- Of any machine that keeps the exact rule and has a ring out exactly while an unlink is unanswered: a collection has its boundary behind it.
use mathlib.Core.Path.{◌≡◌, refl, sym, ap, ◌∙◌}
use mathlib.Core.List.{List, [], ◌∷◌}
use mathlib.Core.Bool.{Bool, true, false, cond, true≢false, false≢true, ◌&&◌}
use Prim.Native.Nat.{ℕ, ◌+◌, ◌≤◌}
use native.Mathlib.Omega.{arith}
use borrow.Author.Tests.{leb-true, leb-false, lt-ltb, le-ltb}
use lib.Dec.{leb, ltb}
use Rattle.settings.specs.declared.settings.Settings.{Settings}
use Rattle.pipe.specs.Endpoints.{flag_number}
use Rattle.ehci.specs.declared.call.Call.{Call}
use Rattle.promises.specs.Runs.{Form, History, Machine, Turn, WorldIn, history_of, run_of}
use Rattle.promises.specs.Events.{Event, Other, Reads, Drains, Submits, Unlinks, Parts, Collects, event, rings}
use Rattle.promises.specs.Bells.{Answered, Bell, Boundary, Quiet, Rung, asked, bell, counted, drains, is_answered, is_drains, is_reads, is_up, next, number, reads, renews, unlinking, unlinks, unlinks_of}
use Rattle.promises.specs.Boundaries.{BoundaryKept, Exact, UpExactly, past, turn}
use Rattle.promises.proofs.any_machine.Pictures.{Ringing, rung_now, rings_on, answers, longer, an_unlink}

-- Bell's values differ
abbrev is_rung : Bell → Bool
is_rung Quiet = false
is_rung Rung = true
is_rung Answered = false

rung_not_answered : Rung ≡ Answered → ⊥
rung_not_answered e = true≢false (ap is_rung e)

-- what is known of an unlinking s slot k: by its number s against the count, and by the bell
pub record Known (s : Settings) (k : ℕ) (h : History) : Type 0 where
  pub passed : number s k h ≤ counted s h → Boundary s k h
  pub waits : number s k h ≡ counted s h + 1 → bell s h ≡ Rung → Ringing s k h
  pub answered : number s k h ≡ counted s h + 1 → bell s h ≡ Answered → Boundary s k h

-- a turn that is not about k
module _ (s : Settings) (k : ℕ) (t : Turn) (h : History) (other : unlinks_of s k t ≡ false) (g : Known s k h) where
  known_on : (x : Event) → event s t ≡ x → (r : Bool) → rings t ≡ r → (b : Bell) → bell s h ≡ b → (number s k h ≤ flag_number (is_drains x && is_answered b) + counted s h → Boundary s k (t ∷ h))
      × (number s k h ≡ flag_number (is_drains x && is_answered b) + counted s h + 1 → next r (is_reads x) (is_drains x) b ≡ Rung → Ringing s k (t ∷ h))
      × (number s k h ≡ flag_number (is_drains x && is_answered b) + counted s h + 1 → next r (is_reads x) (is_drains x) b ≡ Answered → Boundary s k (t ∷ h))
  known_on x ex r er b eb = (past x r b ex eb, ring x r b ex er eb, ack x r b ex er eb)
    where
      upon : (m : ℕ) → number s k h ≤ 1 + counted s h → bell s h ≡ Answered → Boundary s k h
      upon m l e = on (leb (number s k h) (counted s h)) refl
        where
          on : (c : Bool) → leb (number s k h) (counted s h) ≡ c → Boundary s k h
          on true f = g.passed (leb-true (number s k h) (counted s h) f)
          on false f = g.answered (omega (arith, leb-false (number s k h) (counted s h) f)) e

      past : (x : Event) (r : Bool) (b : Bell) → event s t ≡ x → bell s h ≡ b → number s k h ≤ flag_number (is_drains x && is_answered b) + counted s h → Boundary s k (t ∷ h)
      past Other r b ex eb l = longer s k t h other (g.passed (omega arith))
      past Reads r b ex eb l = longer s k t h other (g.passed (omega arith))
      past (Submits j id q) r b ex eb l = longer s k t h other (g.passed (omega arith))
      past (Unlinks j) r b ex eb l = longer s k t h other (g.passed (omega arith))
      past (Collects j id frame) r b ex eb l = longer s k t h other (g.passed (omega arith))
      past (Parts j frame) r b ex eb l = longer s k t h other (g.passed (omega arith))
      past Drains r Quiet ex eb l = longer s k t h other (g.passed (omega arith))
      past Drains r Rung ex eb l = longer s k t h other (g.passed (omega arith))
      past Drains r Answered ex eb l = longer s k t h other (upon 0 l eb)

      ring : (x : Event) (r : Bool) (b : Bell) → event s t ≡ x → rings t ≡ r → bell s h ≡ b → number s k h ≡ flag_number (is_drains x && is_answered b) + counted s h + 1 → next r (is_reads x) (is_drains x) b ≡ Rung → Ringing s k (t ∷ h)
      ring x true b ex er eb n e = rung_now s k t h er
      ring Other false b ex er eb n e = rings_on s k t h other (ap is_reads ex) (g.waits (omega arith) (eb ∙ e))
      ring (Submits j id q) false b ex er eb n e = rings_on s k t h other (ap is_reads ex) (g.waits (omega arith) (eb ∙ e))
      ring (Unlinks j) false b ex er eb n e = rings_on s k t h other (ap is_reads ex) (g.waits (omega arith) (eb ∙ e))
      ring (Collects j id frame) false b ex er eb n e = rings_on s k t h other (ap is_reads ex) (g.waits (omega arith) (eb ∙ e))
      ring (Parts j frame) false b ex er eb n e = rings_on s k t h other (ap is_reads ex) (g.waits (omega arith) (eb ∙ e))
      ring Reads false Quiet ex er eb n e = absurd (false≢true (ap is_rung e))
      ring Reads false Rung ex er eb n e = absurd (false≢true (ap is_rung e))
      ring Reads false Answered ex er eb n e = absurd (false≢true (ap is_rung e))
      ring Drains false Quiet ex er eb n e = absurd (false≢true (ap is_rung e))
      ring Drains false Rung ex er eb n e = rings_on s k t h other (ap is_reads ex) (g.waits (omega arith) eb)
      ring Drains false Answered ex er eb n e = absurd (false≢true (ap is_rung e))

      ack : (x : Event) (r : Bool) (b : Bell) → event s t ≡ x → rings t ≡ r → bell s h ≡ b → number s k h ≡ flag_number (is_drains x && is_answered b) + counted s h + 1 → next r (is_reads x) (is_drains x) b ≡ Answered → Boundary s k (t ∷ h)
      ack x true b ex er eb n e = absurd (rung_not_answered e)
      ack Other false b ex er eb n e = longer s k t h other (g.answered (omega arith) (eb ∙ e))
      ack (Submits j id q) false b ex er eb n e = longer s k t h other (g.answered (omega arith) (eb ∙ e))
      ack (Unlinks j) false b ex er eb n e = longer s k t h other (g.answered (omega arith) (eb ∙ e))
      ack (Collects j id frame) false b ex er eb n e = longer s k t h other (g.answered (omega arith) (eb ∙ e))
      ack (Parts j frame) false b ex er eb n e = longer s k t h other (g.answered (omega arith) (eb ∙ e))
      ack Reads false Quiet ex er eb n e = absurd (false≢true (ap is_answered e))
      ack Reads false Rung ex er eb n e = answers s k t h other (ap is_reads ex) (g.waits (omega arith) eb)
      ack Reads false Answered ex er eb n e = longer s k t h other (g.answered (omega arith) eb)
      ack Drains false Quiet ex er eb n e = absurd (false≢true (ap is_answered e))
      ack Drains false Rung ex er eb n e = absurd (rung_not_answered e)
      ack Drains false Answered ex er eb n e = absurd (false≢true (ap is_answered e))

  known_step : Known s k (t ∷ h)
  unfolding number counted bell
  known_step =
      let on = known_on (event s t) refl (rings t) refl (bell s h) refl in
      record { passed = λ l. on.0 (rw other at l); waits = λ n e. on.1 (rw other at n) e; answered = λ n e. on.2 (rw other at n) e }

-- the turn that unlinks s k, where nothing was owed or a ring was out
module _ (s : Settings) (k : ℕ) (t : Turn) (h : History) (mine : unlinks_of s k t ≡ true) (less : counted s h ≤ asked s h) (up : is_up (bell s h) ≡ ltb (counted s h) (asked s h)) (up' : is_up (bell s (t ∷ h)) ≡ ltb (counted s (t ∷ h)) (asked s (t ∷ h))) where
  abbrev is : (unlinks s t ≡ true) × (reads s t ≡ false) × (drains s t ≡ false)
  is = let x = an_unlink k (event s t) mine in (x.0, x.1, x.2)

  -- nothing owed: it rings
  rings_first : asked s h ≡ counted s h → rings t ≡ true
  unfolding bell counted asked
  rings_first z = go (rings t) refl
    where
      go : (r : Bool) → rings t ≡ r → rings t ≡ true
      go true e = e
      go false e =
          let quiet : is_up (bell s (t ∷ h)) ≡ false = rw (e, is.1, is.2) (up ∙ le-ltb (counted s h) (asked s h) (omega arith)) in
          absurd (false≢true (sym quiet ∙ (up' ∙ lt-ltb (counted s (t ∷ h)) (asked s (t ∷ h)) (rw (is.0, is.2) (omega arith)))))

  known_first : Known s k (t ∷ h)
  unfolding number counted bell
  known_first = record {
    passed = λ l. absurd (omega (arith, rw (mine, is.2) at l));
    waits = λ n e. rung_now s k t h (rings_first (omega (arith, rw (mine, is.2) at n)));
    answered = λ n e. absurd (rung_not_answered (rw (rings_first (omega (arith, rw (mine, is.2) at n))) at e));
  }

module _ {f : Form} (m : Machine f) (s : Settings) (w : WorldIn f) (exact : Exact s (run_of m w)) (up : UpExactly s (run_of m w)) where
  known : (cs : List Call) (k : ℕ) → unlinking s k (past s (run_of m w) cs) ≡ true → Known s k (past s (run_of m w) cs)
  unfolding history_of unlinking
  known [] k e = absurd (false≢true e)
  known (c ∷ cs) k e = go (unlinks_of s k t) refl (renews s k t) refl e (known cs k)
    where
      t : Turn
      t = turn s (run_of m w) cs c

      go : (a : Bool) → unlinks_of s k t ≡ a → (b : Bool) → renews s k t ≡ b → cond a true (cond b false (unlinking s k (past s (run_of m w) cs))) ≡ true
          → (unlinking s k (past s (run_of m w) cs) ≡ true → Known s k (past s (run_of m w) cs)) → Known s k (t ∷ past s (run_of m w) cs)
      go true ea b eb e rec = known_first s k t (past s (run_of m w) cs) ea (up cs).0 (up cs).2 (up (c ∷ cs)).2
      go false ea true eb e rec = absurd (false≢true e)
      go false ea false eb e rec = known_step s k t (past s (run_of m w) cs) ea (rec e)

  pub boundary : BoundaryKept s (run_of m w)
  boundary cs k id readings done kind =
      let e = ((exact cs k id readings).0 kind).0 done in
      (e.0, (known cs k e.0).passed e.2)
