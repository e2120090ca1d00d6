-- Over words and over the plain state any calls give the same, and so every promise that the one keeps the other keeps.
use mathlib.Core.List.{List, [], ◌∷◌}
use mathlib.Core.Path.{◌≡◌, refl, sym, ap, subst, ◌∙◌}
use Rattle.settings.specs.declared.settings.Settings.{Settings}
use Rattle.ehci.specs.declared.call.Call.{Call}
use Rattle.promises.specs.Runs.{EveryRun, Machine, Moment, Opening, Promise, World, WorldIn, core, history_of, left_by, moment, turn_by, viewed, world_of}
use Rattle.promises.specs.WordsRuns.{Does, Faithful, SameFrom, SameRuns, in_words}
use Rattle.promises.proofs.theorems.WordsCalls.{next_faithful, same_moment}

module _ (m : Machine in_words) (does : Does m) (w : WorldIn in_words) (begun : Faithful w) where
  pub stays_faithful : (cs : List Call) → Faithful (world_of m w cs)
  unfolding world_of
  stays_faithful [] = begun
  stays_faithful (c ∷ cs) = next_faithful m does (world_of m w cs) (stays_faithful cs) c

  pub settings_stay : (cs : List Call) → (world_of m w cs).state.core.settings ≡ w.state.core.settings
  unfolding world_of
  settings_stay [] = refl
  settings_stay (c ∷ cs) = settings_stay cs

  same_at : (cs : List Call) (there : World) → viewed (world_of m w cs) ≡ there → moment m (world_of m w cs) ≡ moment core there
  same_at cs there e = same_moment m does (world_of m w cs) (stays_faithful cs) ∙ ap (moment core) e

  world_same : (cs : List Call) → viewed (world_of m w cs) ≡ world_of core (viewed w) cs
  unfolding world_of
  world_same [] = refl
  world_same (c ∷ cs) = ap (λ (x : Moment). left_by (x.does c)) (same_at cs (world_of core (viewed w) cs) (world_same cs))

  now_same : (cs : List Call) → moment m (world_of m w cs) ≡ moment core (world_of core (viewed w) cs)
  now_same cs = same_at cs (world_of core (viewed w) cs) (world_same cs)

  history_same : (cs : List Call) → history_of m w cs ≡ history_of core (viewed w) cs
  unfolding history_of
  history_same [] = refl
  history_same (c ∷ cs) = λ i. turn_by (now_same cs i) c ∷ history_same cs i

pub same_from : (m : Machine in_words) → Does m → SameFrom m
same_from m does w begun i = record { past = λ cs. history_same m does w begun cs i; now = λ cs. now_same m does w begun cs i }

pub opening_faithful : (s : Settings) (w : WorldIn in_words) → Opening s w → Faithful w
opening_faithful s w o = record { typed = o.fresh.typed; tidy = λ r. rw o.fresh.words.same_settings o.fresh.words.tidy }

pub same_runs : (m : Machine in_words) → Does m → SameRuns m
same_runs m does s w o = same_from m does w (opening_faithful s w o)

pub opening_viewed : (s : Settings) (w : WorldIn in_words) → Opening s w → Opening s (viewed w)
opening_viewed s w o = record { lent = o.lent; accepted = o.accepted; left = o.left; fresh = tt }

-- the law by which a promise is carried over
pub carried : (P : Promise) → EveryRun P core → (m : Machine in_words) → Does m → EveryRun P m
carried P keeps m does s w o = subst (P s) (sym (same_runs m does s w o)) (keeps s (viewed w) (opening_viewed s w o))
