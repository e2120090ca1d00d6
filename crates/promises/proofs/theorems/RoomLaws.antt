-- Room is exact: what a submit answers, by the history.
use Prim.Native.Nat.{ℕ}
use mathlib.Core.Path.{◌≡◌, refl, sym, ap, subst, ◌∙◌}
use mathlib.Core.Bool.{Bool, true, false}
use mathlib.Core.List.{List, [], ◌∷◌, ◌++◌}
use native.Mathlib.Omega.{arith}
use borrow.Author.Tests.{le-ltb, lt-ltb, ltb-false, ltb-true}
use lib.Dec.{ltb}
use Rattle.settings.specs.declared.settings.Settings.{Settings}
use Rattle.common.specs.Answers.{Check, Verdict, first, or_else, passed, refused, refusal_number, settle}
use Rattle.common.specs.declared.answer.Refusal.{Refusal}
use Rattle.common.specs.declared.answer.Refusal.TheVariants.{NoMemory}
use Rattle.common.proofs.CheckLaws.{let_pass}
use Rattle.controller.specs.declared.lent.Readings.{Readings}
use Rattle.request.specs.Submit.{accepted_with, refused_submit, settled_submit, submit_checks, submit_of, submitted}
use Rattle.request.specs.declared.judge.TransferRequest.{TransferRequest}
use Rattle.ehci.specs.declared.call.Call.TheVariants.{Submit}
use Rattle.ehci.specs.Decides.{decide_of, submit_decided}
use Rattle.ehci.specs.Door.{apply_of}
use Rattle.ehci.specs.Replies.{answered_number, submitted_answer}
use Rattle.promises.specs.Runs.{History, Machine, World, in_plain, core, moment}
use Rattle.promises.specs.Opened.{before_room, earlier_checks, submit_asks, verdict_number, wanted}
use Rattle.promises.specs.Rooms.{Fits, Lacks, Room, number_at}
use Rattle.promises.proofs.invariants.OpenedInv.{Told}
use Rattle.promises.proofs.invariants.OpenedVerdict.{asks_told, free_is}
use Rattle.promises.proofs.theorems.Order.{first_goes}
use Rattle.promises.proofs.invariants.Sound.{Sound, is_let_in, rows_fit}
use Rattle.promises.proofs.invariants.UseInv.{Held}
use Rattle.promises.proofs.effects.RefusalNumbers.{refusal_some}

-- ---- the number that submit's checks give

submit_number_lem : (w : World) (k : ℕ) (t : TransferRequest) (readings : Readings) → Sound w.state.settings w
    → number_at (moment core w) (Submit k t readings) ≡ verdict_number (first (submit_checks w.state k t))
unfolding apply_of decide_of submit_decided submit_of settled_submit accepted_with refused_submit
submit_number_lem w k t readings sound = rw (rows_fit _ w sound, is_let_in _ w sound) (by (first (submit_checks w.state k t)))
  where
    by : (v : Verdict)
        → answered_number (submitted_answer (settle v (λ r. submitted (refused_submit w.state r) w.rows.heads w.rows.frames w.rows.setups)
        (settled_submit w.state w.rows.heads w.rows.frames w.rows.setups readings k t)).result.answer) ≡ verdict_number v
    by passed = refl
    by (refused r) = refl

-- a check of another number than 6 does not answer 6
past : (b : Bool) (r : Refusal) (v : Verdict) → (refusal_number r ≡ 6 → ⊥) → verdict_number (or_else b r v) ≡ 6 → verdict_number v ≡ 6
past true r v ne e = absurd (ne e)
past false r v ne e = e

-- no check answers 0
zero_passes : (v : Verdict) → verdict_number v ≡ 0 → v ≡ passed
zero_passes passed e = refl
zero_passes (refused r) e = absurd (refusal_some r e)

-- ---- the room is asked last

-- none of these answers 6
abbrev NoSix : List Check → Type 0
NoSix [] = Unit {0}
NoSix (c ∷ cs) = (refusal_number c.1 ≡ 6 → ⊥) × NoSix cs

module _ (lacks : Bool) where
  six_last : (cs : List Check) → NoSix cs → verdict_number (first (cs ++ (lacks, NoMemory) ∷ [])) ≡ 6 → lacks ≡ true
  six_last [] none e = by lacks e
    where
      by : (b : Bool) → verdict_number (or_else b NoMemory passed) ≡ 6 → b ≡ true
      by true e = refl
      by false e = absurd (omega (arith, e))
  six_last (c ∷ cs) none e = six_last cs none.1 (past c.0 c.1 _ none.0 e)

  passed_last : (cs : List Check) → first (cs ++ (lacks, NoMemory) ∷ []) ≡ passed → lacks ≡ false
  passed_last [] e = (let_pass lacks NoMemory passed e).0
  passed_last (c ∷ cs) e = passed_last cs (let_pass c.0 c.1 _ e).1

-- ---- room, of any machine that answers a submit by the history

module _ (m : Machine in_plain) (s : Settings) (h : History) (w : World) (k : ℕ) (t : TransferRequest) (readings : Readings)
    (said : number_at (moment m w) (Submit k t readings) ≡ verdict_number (first (submit_asks s h k t))) where
  abbrev answered : ℕ
  answered = number_at (moment m w) (Submit k t readings)

  abbrev lacks : Bool
  lacks = ltb s.descriptors (wanted s h k t)

  six_lacks : answered ≡ 6 → Lacks s h k t
  six_lacks e = ltb-true s.descriptors (wanted s h k t) (six_last lacks (earlier_checks s h k t) none (sym said ∙ e))
    where
      none : NoSix (earlier_checks s h k t)
      none = ((λ q. omega (arith, q)), ((λ q. omega (arith, q)), ((λ q. omega (arith, q)), ((λ q. omega (arith, q)), ((λ q. omega (arith, q)), ((λ q. omega (arith, q)), tt))))))

  zero_fits : answered ≡ 0 → Fits s h k t
  zero_fits e =
      ltb-false s.descriptors (wanted s h k t)
      (passed_last lacks (earlier_checks s h k t) (zero_passes (first (submit_asks s h k t)) (sym said ∙ e)))

  -- where the earlier checks are passed the last one decides
  room_decides : before_room s h k t ≡ passed → answered ≡ verdict_number (or_else lacks NoMemory passed)
  room_decides e = said ∙ ap verdict_number (first_goes (earlier_checks s h k t) ((lacks, NoMemory) ∷ []) e)

  lacks_six : before_room s h k t ≡ passed → Lacks s h k t → answered ≡ 6
  lacks_six e l = room_decides e ∙ ap (λ (b : Bool). verdict_number (or_else b NoMemory passed)) (lt-ltb s.descriptors (wanted s h k t) l)

  fits_zero : before_room s h k t ≡ passed → Fits s h k t → answered ≡ 0
  fits_zero e l = room_decides e ∙ ap (λ (b : Bool). verdict_number (or_else b NoMemory passed)) (le-ltb s.descriptors (wanted s h k t) l)

-- ---- of this port

module _ (h : History) (w : World) (sound : Sound w.state.settings w) (held : Held w.state.settings h w) (told : Told h w.state) where
  abbrev s : Settings
  s = w.state.settings

  verdict_here : (k : ℕ) (t : TransferRequest) (readings : Readings) → number_at (moment core w) (Submit k t readings) ≡ verdict_number (first (submit_asks s h k t))
  verdict_here k t readings = submit_number_lem w k t readings sound ∙ sym (ap verdict_number (asks_told h w sound held told k t))

  room_here : Room s h (moment core w)
  room_here =
      record {
        free = free_is h w sound held told;
        six_lacks = λ k t readings. six_lacks core s h w k t readings (verdict_here k t readings);
        zero_fits = λ k t readings. zero_fits core s h w k t readings (verdict_here k t readings);
        lacks_six = λ k t readings. lacks_six core s h w k t readings (verdict_here k t readings);
        fits_zero = λ k t readings. fits_zero core s h w k t readings (verdict_here k t readings);
      }

pub room_holds : (s : Settings) (h : History) (w : World) → Sound s w → Held s h w → Told h w.state → Room s h (moment core w)
room_holds s h w sound = subst (λ (z : Settings). Sound z w → Held z h w → Told h w.state → Room z h (moment core w)) sound.settings_are (room_here h w) sound

pub verdict_holds : (s : Settings) (h : History) (w : World) → Sound s w → Held s h w → Told h w.state → (k : ℕ) (t : TransferRequest) (readings : Readings)
    → number_at (moment core w) (Submit k t readings) ≡ verdict_number (first (submit_asks s h k t))
verdict_holds s h w sound =
    subst
    (λ (z : Settings). Sound z w → Held z h w → Told h w.state → (k : ℕ) (t : TransferRequest) (readings : Readings)
    → number_at (moment core w) (Submit k t readings) ≡ verdict_number (first (submit_asks z h k t)))
    sound.settings_are (verdict_here h w) sound
