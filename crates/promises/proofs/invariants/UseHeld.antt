-- The tie between uses and world holds of an opening, and every call keeps it.
use Prim.Native.Nat.{ℕ, zero, suc, ◌+◌}
use mathlib.Core.Path.{◌≡◌, refl, sym, ap, subst}
use mathlib.Core.Bool.{true}
use mathlib.Core.List.{[], ◌∷◌}
use native.Mathlib.Omega.{arith}
use borrow.Author.Tests.{ne_eqb}
use lib.ListN.{replicate, take}
use Rattle.pool.specs.Places.{count_of}
use Rattle.pool.proofs.PlaceLaws.{places_none}
use Rattle.settings.specs.Settings.{settings_good}
use Rattle.settings.specs.declared.settings.Settings.{Settings}
use Rattle.opening.specs.Opening.{fresh_state}
use Rattle.controller.specs.Readers.{free_count}
use Rattle.controller.proofs.FreeLaws.{fresh_free, zeros_are}
use Rattle.ehci.specs.declared.call.Call.{Call}
use Rattle.ehci.specs.Door.{Applied}
use Rattle.promises.specs.Runs.{History, Opening, Rows, World, left_by, turn_of}
use Rattle.promises.specs.Uses.{uses}
use Rattle.promises.proofs.effects.Effects.{Effect, still, hears, joins, passes, counts, opens, closes, resizes, rewrites, accepts as takes, writes_back, marks, unlinks, collects, clears}
use Rattle.promises.proofs.invariants.Reached.{fresh_rows, opening_is}
use Rattle.promises.proofs.invariants.Sound.{Sound}
use Rattle.promises.proofs.invariants.OpenedInv.{Told, told_keeps, told_opens}
use Rattle.promises.proofs.invariants.UseInv.{Held, HeldIn, tenant_of}
use Rattle.promises.proofs.invariants.UseSteps.{clears_held, closes_held, counts_held, hears_held, joins_held, marks_held, opens_held, passes_held, resizes_held, rewrites_held, still_held, unlinks_held, writes_back_held}
use Rattle.promises.proofs.invariants.UseAccepts.{accepts_held}
use Rattle.promises.proofs.invariants.UseCollects.{collects_held}
use Rattle.promises.proofs.invariants.BellFacts.{fresh_closed}

-- ---- an opening

none_held : (n d k : ℕ) → count_of (k + 1) (take d (replicate n 0)) ≡ 0
unfolding count_of
none_held n zero k = refl
none_held zero (suc d) k = refl
none_held (suc n) (suc d) k = rw (ne_eqb 0 (k + 1) (λ e. omega (arith, e))) (omega (arith, none_held n d k))

pub fresh_held : (s : Settings) (rows : Rows) → settings_good s ≡ true → HeldIn s [] (record { state = fresh_state s; rows = rows })
unfolding free_count fresh_state
fresh_held s rows good =
    record {
      each = tt;
      apart = tt;
      rest = λ k e. (ap tenant_of (fresh_closed s k), places_none 0 (take s.descriptors (replicate 256 0)) (k + 1) 256 (none_held 256 s.descriptors k));
      room = omega (arith, zeros_are (take s.descriptors (replicate 256 0)), fresh_free s good);
    }

held_opens : (s : Settings) (w : World) → Opening s w → Held s [] w
unfolding uses
held_opens s w o = let is = opening_is s w o in subst (λ (v : World). HeldIn s [] v) (sym is.1) (fresh_held s (fresh_rows s) is.0)

-- ---- any call

keeps_here : (w : World) (c : Call) (a : Applied) (h : History) → Told h w.state → Sound w.state.settings w → Held w.state.settings h w → Effect w c a
    → Held w.state.settings (turn_of w.rows c a ∷ h) (left_by a)
keeps_here w c a h told sound held (still x) = still_held w c a h sound x held
keeps_here w c a h told sound held (hears x) = hears_held w c a h sound x held
keeps_here w c a h told sound held (joins x) = joins_held w c a h sound x held
keeps_here w c a h told sound held (passes x) = passes_held w c a h sound x held
keeps_here w c a h told sound held (counts x) = counts_held w c a h sound x held
keeps_here w c a h told sound held (opens x) = opens_held w c a h sound x held
keeps_here w c a h told sound held (closes x) = closes_held w c a h sound x held
keeps_here w c a h told sound held (rewrites x) = rewrites_held w c a h sound x held
keeps_here w c a h told sound held (resizes x) = resizes_held w c a h sound x held
keeps_here w c a h told sound held (takes x) = accepts_held w c a h told sound x held
keeps_here w c a h told sound held (writes_back x) = writes_back_held w c a h sound x held
keeps_here w c a h told sound held (clears x) = clears_held w c a h sound x held
keeps_here w c a h told sound held (marks x) = marks_held w c a h sound x held
keeps_here w c a h told sound held (unlinks x) = unlinks_held w c a h sound x held
keeps_here w c a h told sound held (collects x) = collects_held w c a h sound x held

held_keeps : (s : Settings) (h : History) (w : World) (c : Call) (a : Applied) → Told h w.state → Sound s w → Held s h w → Effect w c a → Held s (turn_of w.rows c a ∷ h) (left_by a)
held_keeps s h w c a told sound =
    subst (λ (z : Settings). Sound z w → Held z h w → Effect w c a → Held z (turn_of w.rows c a ∷ h) (left_by a)) sound.settings_are (keeps_here w c a h told) sound

-- ---- with what the history knows of the slots

abbrev pub Kept : Settings → History → World → Type 0
Kept s h w = Told h w.state × Held s h w

pub kept_opens : (s : Settings) (w : World) → Opening s w → Kept s [] w
kept_opens s w o = (told_opens s w o, held_opens s w o)

pub kept_keeps : (s : Settings) (h : History) (w : World) (c : Call) (a : Applied) → Sound s w → Kept s h w → Effect w c a → Kept s (turn_of w.rows c a ∷ h) (left_by a)
kept_keeps s h w c a sound now x = (told_keeps s h w c a sound now.0 x, held_keeps s h w c a now.0 sound now.1 x)
