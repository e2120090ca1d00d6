-- Of any machine that keeps the exact rule and has a ring out exactly while an unlink is unanswered: in a stretch with no ring, at most one request comes to pass.
use mathlib.Core.Path.{◌≡◌, refl, sym, ap, ◌∙◌}
use mathlib.Core.List.{List, [], ◌∷◌, ◌++◌}
use mathlib.Core.Bool.{Bool, true, false, cond, true≢false, false≢true, ◌&&◌, ◌||◌}
use Prim.Native.Nat.{ℕ, ◌+◌, ◌≤◌, ◌<◌}
use native.Mathlib.Omega.{arith}
use borrow.Author.Tests.{eqb-true, leb-true, leb-false, ltb-true, lt-ltb}
use lib.Dec.{eqb, leb}
use lib.ListN.{length, take}
use Rattle.settings.specs.declared.settings.Settings.{Settings}
use Rattle.pipe.specs.Endpoints.{flag_number}
use Rattle.ehci.specs.declared.call.Call.{Call}
use Rattle.promises.specs.Runs.{Form, History, Machine, Turn, WorldIn, history_of, run_of}
use Rattle.promises.specs.Events.{Event, Other, Reads, Drains, Submits, Unlinks, Parts, Collects, event, rings}
use Rattle.promises.specs.Bells.{Answered, Bell, Quiet, Rung, asked, bell, counted, drains, is_answered, is_drains, is_reads, is_unlinks, is_unlinks_of, is_up, next, none, number, reads, renews, some_turn, unlinking, unlinks, unlinks_of}
use Rattle.promises.specs.Boundaries.{OneCount, OnePasses, OnlyAnswered, Passes, PassesExactly, UpExactly, past, turn}

-- ---- of any history
not_both : (x : Event) → (is_reads x && is_drains x) ≡ false
not_both Other = refl
not_both Reads = refl
not_both Drains = refl
not_both (Submits k id q) = refl
not_both (Unlinks k) = refl
not_both (Collects k id frame) = refl
not_both (Parts k frame) = refl

-- the bell s has at most one advance to give, and only once it is answered
module _ (s : Settings) (start : History) where
  budget : (stretch : History) → none rings stretch
      → (counted s (stretch ++ start) + flag_number (is_up (bell s (stretch ++ start))) ≤ counted s start + flag_number (is_up (bell s start)))
      × (counted s (stretch ++ start) + flag_number (is_answered (bell s (stretch ++ start))) ≤ counted s start + flag_number (is_up (bell s start)))
  unfolding bell counted
  budget [] q = (omega arith, answered_up (bell s start))
    where
      answered_up : (b : Bell) → counted s start + flag_number (is_answered b) ≤ counted s start + flag_number (is_up b)
      answered_up Quiet = omega arith
      answered_up Rung = omega arith
      answered_up Answered = omega arith
  budget (t ∷ stretch) q = rw q.0 (go (reads s t) (drains s t) (not_both (event s t)) (bell s (stretch ++ start)) (budget stretch q.1))
    where
      c : ℕ
      c = counted s (stretch ++ start)

      most : ℕ
      most = counted s start + flag_number (is_up (bell s start))

      go : (r d : Bool) → (r && d) ≡ false → (b : Bell) → (c + flag_number (is_up b) ≤ most) × (c + flag_number (is_answered b) ≤ most)
          → (flag_number (d && is_answered b) + c + flag_number (is_up (next false r d b)) ≤ most) × (flag_number (d && is_answered b) + c + flag_number (is_answered (next false r d b)) ≤ most)
      go true true e b i = absurd (true≢false e)
      go true false e Quiet i = omega arith
      go true false e Rung i = omega arith
      go true false e Answered i = omega arith
      go false true e Quiet i = omega arith
      go false true e Rung i = omega arith
      go false true e Answered i = omega arith
      go false false e b i = omega arith

  flag_most : (b : Bool) → flag_number b ≤ 1
  flag_most true = omega arith
  flag_most false = omega arith

  one_at_most : (t : Turn) (stretch : History) → none rings stretch → counted s (t ∷ stretch ++ start) ≤ counted s start + 1
  unfolding counted
  one_at_most t stretch q = go (drains s t) (bell s (stretch ++ start)) (budget stretch q).1
    where
      go : (d : Bool) (b : Bell) → counted s (stretch ++ start) + flag_number (is_answered b) ≤ counted s start + flag_number (is_up (bell s start)) → flag_number (d && is_answered b) + counted s (stretch ++ start) ≤ counted s start + 1
      go true b i = omega (arith, flag_most (is_up (bell s start)))
      go false b i = omega (arith, flag_most (is_up (bell s start)))

-- after a ring: at most one, and only if an acknowledgment has read the advance bit since
module _ (s : Settings) (ring : Turn) (past : History) (rung : rings ring ≡ true) where
  abbrev begun : ℕ
  begun = counted s (ring ∷ past)

  -- what the bell s still has to give
  ring_budget : (stretch : History) → none rings stretch
      → (counted s (stretch ++ ring ∷ past) + flag_number (is_up (bell s (stretch ++ ring ∷ past))) ≤ begun + 1)
      × (counted s (stretch ++ ring ∷ past) + flag_number (is_answered (bell s (stretch ++ ring ∷ past))) ≤ begun + flag_number (some_turn (reads s) stretch))
  unfolding bell counted
  ring_budget [] q = rw rung (omega arith)
  ring_budget (t ∷ stretch) q = rw q.0 (go (reads s t) (drains s t) (not_both (event s t)) (bell s (stretch ++ ring ∷ past)) (some_turn (reads s) stretch) (ring_budget stretch q.1))
    where
      c : ℕ
      c = counted s (stretch ++ ring ∷ past)

      go : (r d : Bool) → (r && d) ≡ false → (b : Bell) (x : Bool) → (c + flag_number (is_up b) ≤ begun + 1) × (c + flag_number (is_answered b) ≤ begun + flag_number x)
          → (flag_number (d && is_answered b) + c + flag_number (is_up (next false r d b)) ≤ begun + 1) × (flag_number (d && is_answered b) + c + flag_number (is_answered (next false r d b)) ≤ begun + flag_number (r || x))
      go true true e b x i = absurd (true≢false e)
      go true false e Quiet x i = omega arith
      go true false e Rung x i = omega arith
      go true false e Answered x i = omega arith
      go false true e Quiet x i = omega arith
      go false true e Rung x i = omega arith
      go false true e Answered x i = omega arith
      go false false e b x i = omega arith

-- from a ring to the next, the next ring's turn t included, at most one advance is counted, and only if an acknowledgment between them read
-- the advance bit
pub once : (s : Settings) (t : Turn) (stretch : History) (ring : Turn) (past : History) → rings ring ≡ true → none rings stretch
    → counted s (t ∷ stretch ++ ring ∷ past) ≤ counted s (ring ∷ past) + flag_number (some_turn (reads s) stretch)
unfolding counted
once s t stretch ring past rung q = go (drains s t) (bell s (stretch ++ ring ∷ past)) (ring_budget s ring past rung stretch q).1
  where
    go : (d : Bool) (b : Bell) → counted s (stretch ++ ring ∷ past) + flag_number (is_answered b) ≤ counted s (ring ∷ past) + flag_number (some_turn (reads s) stretch)
        → flag_number (d && is_answered b) + counted s (stretch ++ ring ∷ past) ≤ counted s (ring ∷ past) + flag_number (some_turn (reads s) stretch)
    go true b i = omega arith
    go false b i = omega arith

-- and before the first ring none
pub none_yet : (s : Settings) (h : History) → none rings h → (bell s h ≡ Quiet) × (counted s h ≡ 0)
unfolding bell counted
none_yet s [] q = (refl, refl)
none_yet s (t ∷ h) q =
    let before = none_yet s h q.1 in
    rw (q.0, before.0) (go (reads s t) (drains s t), omega (arith, before.1, flat (drains s t)))
  where
    go : (r d : Bool) → next false r d Quiet ≡ Quiet
    go true d = refl
    go false true = refl
    go false false = refl

    flat : (d : Bool) → flag_number (d && false) ≡ 0
    flat true = refl
    flat false = refl

-- the number of an unlink is 1 or more
pub numbered : (s : Settings) (k : ℕ) (h : History) → unlinking s k h ≡ true → 1 ≤ number s k h
unfolding unlinking number
numbered s k [] e = absurd (false≢true e)
numbered s k (t ∷ h) e = go (unlinks_of s k t) (renews s k t) e (numbered s k h)
  where
    go : (a b : Bool) → cond a true (cond b false (unlinking s k h)) ≡ true → (unlinking s k h ≡ true → 1 ≤ number s k h) → 1 ≤ cond a (asked s h + 1) (number s k h)
    go true b e rec = omega arith
    go false true e rec = absurd (false≢true e)
    go false false e rec = rec e

-- an unlink counts no advance
pub none_counted : (x : Event) → is_unlinks x ≡ true → (b : Bool) → flag_number (is_drains x && b) ≡ 0
none_counted Other e b = refl
none_counted Reads e b = refl
none_counted Drains e b = absurd (false≢true e)
none_counted (Submits j id q) e b = refl
none_counted (Unlinks j) e b = refl
none_counted (Collects j id frame) e b = refl
none_counted (Parts j frame) e b = refl

counted_grows : (s : Settings) (t : Turn) (h : History) → counted s h ≤ counted s (t ∷ h)
unfolding counted
counted_grows s t h = omega arith

number_most : (s : Settings) (k : ℕ) (h : History) → number s k h ≤ asked s h
unfolding number asked
number_most s k [] = omega arith
number_most s k (t ∷ h) = go (event s t) (number_most s k h)
  where
    go : (x : Event) → number s k h ≤ asked s h → cond (is_unlinks_of k x) (asked s h + 1) (number s k h) ≤ flag_number (is_unlinks x) + asked s h
    go Other i = omega arith
    go Reads i = omega arith
    go Drains i = omega arith
    go (Submits j id q) i = omega arith
    go (Collects j id frame) i = omega arith
    go (Parts j frame) i = omega arith
    go (Unlinks j) i = on (eqb j k) i
      where
        on : (b : Bool) → number s k h ≤ asked s h → cond b (asked s h + 1) (number s k h) ≤ 1 + asked s h
        on true i = omega arith
        on false i = omega arith

-- no two slots have the same number
number_one : (s : Settings) (j k : ℕ) (h : History) → 1 ≤ number s j h → number s j h ≡ number s k h → j ≡ k
unfolding number
number_one s j k [] o e = absurd (omega arith)
number_one s j k (t ∷ h) o e = go (event s t) o e (number_one s j k h)
  where
    go : (x : Event) → 1 ≤ cond (is_unlinks_of j x) (asked s h + 1) (number s j h) → cond (is_unlinks_of j x) (asked s h + 1) (number s j h) ≡ cond (is_unlinks_of k x) (asked s h + 1) (number s k h)
        → (1 ≤ number s j h → number s j h ≡ number s k h → j ≡ k) → j ≡ k
    go Other o e rec = rec o e
    go Reads o e rec = rec o e
    go Drains o e rec = rec o e
    go (Submits i id q) o e rec = rec o e
    go (Collects i id frame) o e rec = rec o e
    go (Parts i frame) o e rec = rec o e
    go (Unlinks i) o e rec = on (eqb i j) refl (eqb i k) refl o e
      where
        on : (a : Bool) → eqb i j ≡ a → (b : Bool) → eqb i k ≡ b → 1 ≤ cond a (asked s h + 1) (number s j h) → cond a (asked s h + 1) (number s j h) ≡ cond b (asked s h + 1) (number s k h) → j ≡ k
        on true p true q o e = sym (eqb-true i j p) ∙ eqb-true i k q
        on true p false q o e = absurd (omega (arith, number_most s k h))
        on false p true q o e = absurd (omega (arith, number_most s j h))
        on false p false q o e = rec o e

-- ---- of the machine
module _ {f : Form} (m : Machine f) (s : Settings) (w : WorldIn f) (exact : PassesExactly s (run_of m w)) (up : UpExactly s (run_of m w)) where
  abbrev hist : List Call → History
  hist = past s (run_of m w)

  history_split : (ds cs : List Call) → hist (ds ++ cs) ≡ take (length ds) (hist (ds ++ cs)) ++ hist cs
  unfolding history_of
  history_split [] cs = refl
  history_split (d ∷ ds) cs = ap (λ (x : History). turn s (run_of m w) (ds ++ cs) d ∷ x) (history_split ds cs)

  -- an unlink that does not ring has a ring out already
  module _ (c : Call) (cs : List Call) (k : ℕ) where
    abbrev t : Turn
    t = turn s (run_of m w) cs c

    unlinks_any : unlinks_of s k t ≡ true → unlinks s t ≡ true
    unlinks_any e = go (event s t) e
      where
        go : (x : Event) → is_unlinks_of k x ≡ true → is_unlinks x ≡ true
        go Other e = e
        go Reads e = e
        go Drains e = e
        go (Submits j id q) e = e
        go (Collects j id frame) e = e
        go (Parts j frame) e = e
        go (Unlinks j) e = refl

    behind : unlinks_of s k t ≡ true → rings t ≡ false → counted s (hist cs) < asked s (hist cs)
    unfolding history_of bell counted asked
    behind e r = ltb-true (counted s (hist cs)) (asked s (hist cs)) (sym (up cs).2 ∙ (sym (ap is_up same) ∙ up_now))
      where
        plain : (x : Event) → is_unlinks x ≡ true → (b : Bell) → next false (is_reads x) (is_drains x) b ≡ b
        plain Other e b = refl
        plain Reads e b = absurd (false≢true e)
        plain Drains e b = absurd (false≢true e)
        plain (Submits j id q) e b = refl
        plain (Unlinks j) e b = refl
        plain (Collects j id frame) e b = refl
        plain (Parts j frame) e b = refl

        same : bell s (t ∷ hist cs) ≡ bell s (hist cs)
        same = rw r (plain (event s t) (unlinks_any e) (bell s (hist cs)))

        up_now : is_up (bell s (t ∷ hist cs)) ≡ true
        up_now = (up (c ∷ cs)).2 ∙ lt-ltb (counted s (t ∷ hist cs)) (asked s (t ∷ hist cs)) (omega (arith, (up cs).0, none_counted (event s t) (unlinks_any e) (is_answered (bell s (hist cs))), ap flag_number (unlinks_any e)))

  -- who passes at last had its number at the start
  module _ (cs : List Call) where
    grows : (ds : List Call) → counted s (hist cs) ≤ counted s (hist (ds ++ cs))
    unfolding history_of
    grows [] = omega arith
    grows (d ∷ ds) = omega (arith, grows ds, counted_grows s (turn s (run_of m w) (ds ++ cs) d) (hist (ds ++ cs)))

    module _ (k : ℕ) where
      had : (ds : List Call) → none rings (take (length ds) (hist (ds ++ cs))) → unlinking s k (hist (ds ++ cs)) ≡ true → number s k (hist (ds ++ cs)) ≤ counted s (hist cs) + 1
          → (unlinking s k (hist cs) ≡ true) × (number s k (hist cs) ≡ number s k (hist (ds ++ cs)))
      unfolding history_of unlinking number
      had [] q g l = (g, refl)
      had (d ∷ ds) q g l = go (unlinks_of s k (t d (ds ++ cs) k)) refl (renews s k (t d (ds ++ cs) k)) g l (had ds q.1)
        where
          go : (a : Bool) → unlinks_of s k (t d (ds ++ cs) k) ≡ a → (b : Bool) → cond a true (cond b false (unlinking s k (hist (ds ++ cs)))) ≡ true → cond a (asked s (hist (ds ++ cs)) + 1) (number s k (hist (ds ++ cs))) ≤ counted s (hist cs) + 1
              → (unlinking s k (hist (ds ++ cs)) ≡ true → number s k (hist (ds ++ cs)) ≤ counted s (hist cs) + 1 → (unlinking s k (hist cs) ≡ true) × (number s k (hist cs) ≡ number s k (hist (ds ++ cs))))
              → (unlinking s k (hist cs) ≡ true) × (number s k (hist cs) ≡ cond a (asked s (hist (ds ++ cs)) + 1) (number s k (hist (ds ++ cs))))
          go true e b g l rec = absurd (omega (arith, behind d (ds ++ cs) k e q.0, grows ds))
          go false e true g l rec = absurd (false≢true g)
          go false e false g l rec = rec g l

      -- a request that comes to pass in the stretch is the one that the next advance is for
      next_one : (ds : List Call) (c : Call) → none rings (take (length ds) (hist (ds ++ cs))) → (Passes s (run_of m w) cs k → ⊥) → Passes s (run_of m w) (c ∷ ds ++ cs) k → (number s k (hist cs) ≡ counted s (hist cs) + 1) × (counted s (hist cs) + 1 ≤ counted s (turn s (run_of m w) (ds ++ cs) c ∷ hist (ds ++ cs)))
      unfolding history_of unlinking number counted
      next_one ds c q not_yet done =
          let e = (exact (c ∷ ds ++ cs) k).0 done in
          go (unlinks_of s k (t c (ds ++ cs) k)) refl (renews s k (t c (ds ++ cs) k)) e.0 e.1
        where
          few : counted s (t c (ds ++ cs) k ∷ hist (ds ++ cs)) ≤ counted s (hist cs) + 1
          few = rw (history_split ds cs) (one_at_most s (hist cs) (t c (ds ++ cs) k) (take (length ds) (hist (ds ++ cs))) q)

          settle : (b : Bool) → leb (number s k (hist cs)) (counted s (hist cs)) ≡ b → (unlinking s k (hist cs) ≡ true) × (number s k (hist cs) ≤ counted s (hist cs) + 1) → number s k (hist cs) ≡ counted s (hist cs) + 1
          settle true f x = absurd (not_yet ((exact cs k).1 (x.0, leb-true (number s k (hist cs)) (counted s (hist cs)) f)))
          settle false f x = omega (arith, x.1, leb-false (number s k (hist cs)) (counted s (hist cs)) f)

          go : (a : Bool) → unlinks_of s k (t c (ds ++ cs) k) ≡ a → (b : Bool) → cond a true (cond b false (unlinking s k (hist (ds ++ cs)))) ≡ true
              → cond a (asked s (hist (ds ++ cs)) + 1) (number s k (hist (ds ++ cs))) ≤ counted s (t c (ds ++ cs) k ∷ hist (ds ++ cs)) → (number s k (hist cs) ≡ counted s (hist cs) + 1) × (counted s (hist cs) + 1 ≤ counted s (t c (ds ++ cs) k ∷ hist (ds ++ cs)))
          go true e b g l = absurd (omega (arith, (up (ds ++ cs)).0, none_counted (event s (t c (ds ++ cs) k)) (unlinks_any c (ds ++ cs) k e) (is_answered (bell s (hist (ds ++ cs))))))
          go false e true g l = absurd (false≢true g)
          go false e false g l =
              let x = had ds q g (omega (arith, few)) in
              let y = settle (leb (number s k (hist cs)) (counted s (hist cs))) refl (x.0, omega (arith, x.1, few)) in
              (y, omega (arith, x.1, l))

  pub one_passes : OnePasses s (run_of m w)
  one_passes cs ds c j k q j-not k-not j-done k-done =
      let a = next_one cs j ds c q j-not j-done in
      let b = next_one cs k ds c q k-not k-done in
      number_one s j k (hist cs) (omega (arith, a.0)) (a.0 ∙ sym b.0)

  pub answered_only : OnlyAnswered s (run_of m w)
  unfolding history_of
  answered_only cs ds r c k rung q not_yet done =
      let x = next_one (r ∷ cs) k ds c q not_yet done in
      let o = once s (turn s (run_of m w) (ds ++ r ∷ cs) c) (take (length ds) (hist (ds ++ r ∷ cs))) (turn s (run_of m w) cs r) (hist cs) rung q in
      let same : hist (ds ++ r ∷ cs) ≡ take (length ds) (hist (ds ++ r ∷ cs)) ++ hist (r ∷ cs) = history_split ds (r ∷ cs) in
      go (some_turn (reads s) (take (length ds) (hist (ds ++ r ∷ cs)))) (omega (arith, x.1, ap (λ (y : History). counted s (turn s (run_of m w) (ds ++ r ∷ cs) c ∷ y)) same, o))
    where
      go : (b : Bool) → 1 ≤ flag_number b → b ≡ true
      go true l = refl
      go false l = absurd (omega arith)

  pub one_count : OneCount s (run_of m w)
  one_count =
      record {
        none_unrung = λ cs k q done.
            let e = (exact cs k).0 done in
            omega (arith, e.1, (none_yet s (hist cs) q).1, numbered s k (hist cs) e.0);
        one_answered = λ cs ds r c j k rung q j-not k-not j-done k-done. (
          one_passes (r ∷ cs) ds c j k q j-not k-not j-done k-done,
          answered_only cs ds r c k rung q k-not k-done,
        );
      }
