-- Of any machine that keeps the exact rule, has a ring out exactly while an unlink is unanswered, and takes each event in its place: how long an unlink waits.
use Prim.Native.Nat.{ℕ, ◌+◌, ◌≤◌}
use mathlib.Core.Bool.{Bool, true, false, cond, true≢false, false≢true, ◌||◌}
use mathlib.Core.List.{List, [], ◌∷◌, ◌++◌}
use mathlib.Core.Path.{◌≡◌, refl, sym, ap, ◌∙◌}
use native.Mathlib.Omega.{arith}
use lib.ListN.{length, take}
use Rattle.settings.specs.declared.settings.Settings.{Settings}
use Rattle.pipe.specs.Endpoints.{flag_number}
use Rattle.ehci.specs.declared.call.Call.{Call}
use Rattle.promises.specs.Runs.{Form, History, Machine, Turn, WorldIn, history_of, run_of}
use Rattle.promises.specs.Events.{event}
use Rattle.promises.specs.Bells.{asked, bell, collects, counted, is_answered, linked, none, number, parts_of, renews, submits, unlinking, unlinks_of}
use Rattle.promises.specs.Boundaries.{Orderly, PassesExactly, UpExactly, Waits, past, turn}
use Rattle.promises.proofs.any_machine.Once.{none_counted}
use Rattle.promises.proofs.any_machine.Pictures.{an_unlink}

module _ {f : Form} (m : Machine f) (s : Settings) (w : WorldIn f) (exact : PassesExactly s (run_of m w)) (up : UpExactly s (run_of m w)) (orderly : Orderly s (run_of m w)) where
  abbrev hist : List Call → History
  hist = past s (run_of m w)

  module _ (cs : List Call) (c : Call) (k : ℕ) (mine : unlinks_of s k (turn s (run_of m w) cs c) ≡ true) where
    -- it goes on unlinking, under the number that it got, until it is collected
    goes_on : (ds : List Call) → none (collects s k) (take (length ds) (hist (ds ++ c ∷ cs)))
        → (unlinking s k (hist (ds ++ c ∷ cs)) ≡ true) × (number s k (hist (ds ++ c ∷ cs)) ≡ asked s (hist cs) + 1) × (linked s k (hist (ds ++ c ∷ cs)) ≡ false)
    unfolding history_of unlinking number linked
    goes_on [] q = (rw mine, rw mine, rw ((an_unlink k (event s (turn s (run_of m w) cs c)) mine).3, mine))
    goes_on (d ∷ ds) q = go (unlinks_of s k t) refl (submits s k t) refl (goes_on ds q.1)
      where
        h : History
        h = hist (ds ++ c ∷ cs)

        t : Turn
        t = turn s (run_of m w) (ds ++ c ∷ cs) d

        off : (b : Bool) → linked s k h ≡ false → cond b false (linked s k h) ≡ false
        off true e = refl
        off false e = e

        go : (a : Bool) → unlinks_of s k t ≡ a → (b : Bool) → submits s k t ≡ b
            → (unlinking s k h ≡ true) × (number s k h ≡ asked s (hist cs) + 1) × (linked s k h ≡ false)
            → (cond (unlinks_of s k t) true (cond (renews s k t) false (unlinking s k h)) ≡ true)
            × (cond (unlinks_of s k t) (asked s h + 1) (number s k h) ≡ asked s (hist cs) + 1)
            × (cond (submits s k t) true (cond (unlinks_of s k t || parts_of s k t) false (linked s k h)) ≡ false)
        go true ea b eb rec = absurd (false≢true (sym rec.2 ∙ ((orderly (ds ++ c ∷ cs) d k).0 ea).0))
        go false ea true eb rec = absurd (true≢false (sym rec.0 ∙ ((orderly (ds ++ c ∷ cs) d k).2 eb).1))
        go false ea false eb rec = (rw (ea, eb, q.0) rec.0, rw ea rec.1, rw (eb, ea) (off (parts_of s k t) rec.2))

    few : asked s (hist cs) + 1 ≤ counted s (hist cs) + 32
    unfolding history_of asked counted
    few =
        let e = an_unlink k (event s (turn s (run_of m w) cs c)) mine in
        omega (arith, (up (c ∷ cs)).1, ap flag_number e.0, none_counted (event s (turn s (run_of m w) cs c)) e.0 (is_answered (bell s (hist cs))))

  pub waits : Waits s (run_of m w)
  waits cs ds c k n mine owed = (
    omega (arith, few cs c k mine),
    λ q.
        let on = goes_on cs c k mine ds q in
        let ex = exact (ds ++ c ∷ cs) k in
        (λ e. omega (arith, on.1, (ex.0 e).1, owed), λ l. ex.1 (on.0, omega (arith, on.1, owed, l))),
  )
