-- A refusal leaves every word of the core and of the row of slots: its state is as before, and a state is that of one tidy row alone.
use Prim.Native.Nat.{ℕ, ◌≤◌}
use mathlib.Core.Bool.{Bool, true, false}
use mathlib.Core.List.{List}
use mathlib.Core.Logic.{◌≢◌}
use mathlib.Core.Path.{◌≡◌, refl, sym, ap, ◌∙◌}
use native.Mathlib.Omega.{arith}
use borrow.Author.Tests.{eqb-true, eqb-false}
use lib.Dec.{eqb}
use Rattle.settings.specs.declared.settings.Settings.{Settings}
use Rattle.state.specs.State.{with_bring_up}
use Rattle.words.specs.declared.cores.Rest.{Rest}
use Rattle.words.specs.Good.{Tidy}
use Rattle.words.specs.View.{state_of, view}
use Rattle.words.proofs.GoodLaws.{good_settings}
use Rattle.words.proofs.OneLaws as One
use Rattle.ehci.specs.declared.call.Call.{Call}
use Rattle.ehci.specs.Door.{Applied}
use Rattle.ehci.specs.Refusals.{Unmoved, stopped}
use Rattle.ehci.specs.Replies.{answered_number}
use Rattle.promises.specs.Rooms.{number_at}
use Rattle.promises.specs.Runs.{Machine, WorldIn, moment}
use Rattle.promises.specs.WordsRuns.{Does, RefusedStay, Typed, WordsStay, in_words, let_in, stopped_rest}
use Rattle.promises.proofs.theorems.WordsCalls.{let_in_good, refused_call}
use Rattle.promises.proofs.theorems.WordsOnce.{typed_one}
use Rattle.promises.proofs.theorems.WordsPromises.{kept_in_words}

-- ---- a controller that is stopped

view_stopped : (s : Settings) (r : Rest) (ws : List ℕ) → state_of s (stopped_rest r) ws ≡ stopped (state_of s r ws)
unfolding state_of with_bring_up
view_stopped s r ws = refl

tidy_stopped : (s : Settings) (r : Rest) (ws : List ℕ) → Tidy s r ws → Tidy s (stopped_rest r) ws
tidy_stopped s r ws t = record { has_row_length = t.has_row_length; held = t.held; shared_out = t.shared_out }

typed_stopped : (r : Rest) (ws : List ℕ) → Typed r ws → Typed (stopped_rest r) ws
typed_stopped r ws t = record { four = t.four; free_fits = t.free_fits; row_fits = t.row_fits }

-- ---- the words

module _ (m : Machine in_words) (does : Does m) (w : WorldIn in_words) (typed : Typed w.state.core.rest w.state.slots) (c : Call) (n : ℕ)
    (is : number_at (moment m w) c ≡ n) (zero : n ≢ 0) (nine : n ≢ 9) (ten : n ≢ 10) (eleven : n ≢ 11) where
  abbrev s : Settings
  s = w.state.core.settings

  -- of tidy words that stand for what is left
  module _ (e : let_in w ≡ true) where
    from : (r : Rest) → Tidy s r w.state.slots → Typed r w.state.slots → state_of s (m w c).reply.rest (m w c).slots ≡ state_of s r w.state.slots
        → ((m w c).reply.rest ≡ r) × ((m w c).slots ≡ w.state.slots)
    from r tidy fits same =
        One.view_one s few (m w c).reply.rest r (m w c).slots w.state.slots same ((does.leaves w c typed).tidy e) tidy
        (typed_one _ _ (does.typed w c typed)) (typed_one _ _ fits)
      where
        few : s.endpoints ≤ 32
        few = (good_settings s w.state.core.rest w.state.slots (let_in_good w e)).endpoints_most

    good : WordsStay w.state n (m w c)
    good = by (eqb n 7) refl
      where
        unmoved : Unmoved (view w.state.core w.state.slots) w.rows.pool w.rows.heads w.rows.frames w.rows.setups n ((moment m w).does c)
        unmoved = (kept_in_words m does).refusals_keep w typed c n is zero nine ten eleven

        by : (b : Bool) → eqb n 7 ≡ b → WordsStay w.state n (m w c)
        by false q =
            let other = eqb-false n 7 q in
            let stay = from w.state.core.rest (let_in_good w e).tidy typed (unmoved.state_stays other) in
            record { rest_stays = λ o. stay.0; only_stopped = λ seven. absurd (other seven); row_stays = stay.1 }
        by true q =
            let seven = eqb-true n 7 q in
            let r = w.state.core.rest in
            let ws = w.state.slots in
            let stay = from (stopped_rest r) (tidy_stopped s r ws (let_in_good w e).tidy) (typed_stopped r ws typed) (unmoved.only_stopped seven ∙ sym (view_stopped s r ws)) in
            record { rest_stays = λ o. absurd (o seven); only_stopped = λ o. stay.0; row_stays = stay.1 }

  -- words that are not let in are answered 1
  bad : let_in w ≡ false → WordsStay w.state n (m w c)
  bad e =
      let one : ◌≡◌ {A = ℕ} (number_at (moment m w) c) 1 = ap (λ (a : Applied). answered_number a.reply.answer) (refused_call m does w typed e c) in
      let left = does.leaves w c typed in
      record { rest_stays = λ o. left.rest_stays e; only_stopped = λ seven. absurd (omega (arith, is, one, seven)); row_stays = left.row_stays e }

  stay : (b : Bool) → let_in w ≡ b → WordsStay w.state n (m w c)
  stay true e = good e
  stay false e = bad e

pub refused_stay : (m : Machine in_words) → Does m → RefusedStay m
refused_stay m does w typed c n is zero nine ten eleven = stay m does w typed c n is zero nine ten eleven (let_in w) refl
