-- The words of every world of a run are good; they have the free places and those of each uncollected request.
use Prim.Native.Nat.{ℕ, ◌+◌}
use mathlib.Core.List.{List, []}
use mathlib.Core.Path.{◌≡◌, sym, ap, subst, ◌∙◌}
use lib.ListN.{length}
use Rattle.bitset.specs.Places.{set_places}
use Rattle.settings.specs.declared.settings.Settings.{Settings}
use Rattle.settings.proofs.SettingsLaws as settings
use Rattle.words.specs.declared.cores.Rest.{Rest}
use Rattle.words.specs.Good.{Good}
use Rattle.words.specs.Record.{places_at}
use Rattle.words.specs.View.{state_of}
use Rattle.words.proofs.GoodLaws.{good_settings}
use Rattle.words.proofs.PlacesLaws.{free_number, own_places}
use Rattle.promises.specs.Ranges.{RangesKept}
use Rattle.promises.specs.Rooms.{Every}
use Rattle.promises.specs.Runs.{Always, History, Machine, Rows, WorldIn, history_of, viewed, world_of}
use Rattle.promises.specs.Uses.{Use, needs, uses}
use Rattle.promises.specs.WordsRuns.{Does, GoodWords, WordsKept, in_words}
use Rattle.promises.proofs.invariants.UseInv.{Avoids, Held, HeldIn, every_map}
use Rattle.promises.proofs.theorems.RangeTheorems.{ranges_kept}
use Rattle.promises.proofs.theorems.RoomPromises as Rooms
use Rattle.promises.proofs.theorems.WordsCalls.{let_in_good}
use Rattle.promises.proofs.theorems.WordsRuns.{carried, opening_faithful, settings_stay}

-- ---- places, by the words

module _ (s : Settings) (r : Rest) (ws : List ℕ) (rows : Rows) (us : List Use) (good : Good s r ws) (held : HeldIn s us (record { state = state_of s r ws; rows = rows })) where
  sizes : settings.Good s
  sizes = good_settings s r ws good

  free_words : length (set_places r.free) + needs s us ≡ s.descriptors
  unfolding state_of
  free_words =
      ap (λ (n : ℕ). n + needs s us) (sym (free_number s r ws good.tidy sizes.descriptors_most sizes.endpoints_most)) ∙ held.room

  held_words : Every (λ u. set_places (places_at ws u.slot) ≡ u.places) us
  unfolding state_of
  held_words =
      every_map _ (λ u. set_places (places_at ws u.slot) ≡ u.places)
      (λ u kept. sym (own_places s r ws good.tidy sizes.descriptors_most sizes.endpoints_most u.slot) ∙ sym kept.places_are)
      us held.each

  empty_words : (k : ℕ) → Avoids k us → set_places (places_at ws k) ≡ []
  unfolding state_of
  empty_words k none =
      sym (own_places s r ws good.tidy sizes.descriptors_most sizes.endpoints_most k) ∙ (held.rest k none).1

-- ---- a world

in_words_lem : (h : History) (w : WorldIn in_words) → Good w.state.core.settings w.state.core.rest w.state.slots
    → Held w.state.core.settings h (viewed w) → (s : Settings) → w.state.core.settings ≡ s → GoodWords s h w.state
in_words_lem h w good held s e =
    subst (λ (z : Settings). w.state.core.settings ≡ z → GoodWords z h w.state) e
    (λ q.
    record {
      settings_stay = q;
      good = good;
      free = free_words w.state.core.settings w.state.core.rest w.state.slots w.rows (uses w.state.core.settings h) good held;
      held = held_words w.state.core.settings w.state.core.rest w.state.slots w.rows (uses w.state.core.settings h) good held;
      empty = empty_words w.state.core.settings w.state.core.rest w.state.slots w.rows (uses w.state.core.settings h) good held;
    }) e

pub words_kept : (m : Machine in_words) → Does m → WordsKept m
words_kept m does s w o cs =
    let now = world_of m w cs in
    let are : now.state.core.settings ≡ s = settings_stay m does w (opening_faithful s w o) cs ∙ o.fresh.words.same_settings in
    let good = let_in_good now (carried RangesKept ranges_kept m does s w o cs).is_let_in in
    let held =
    carried (Always (λ s h x. Held s h (record { state = x.view; rows = x.rows }))) (λ s w o cs. (Rooms.held s w o cs).1) m does s w o cs in
    in_words_lem (history_of m w cs) now good (subst (λ (z : Settings). Held z (history_of m w cs) (viewed now)) (sym are) held) s are
