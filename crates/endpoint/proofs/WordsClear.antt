-- Clear-halt over words: what it is that it is let pass, and what is left.
use Rattle.std.specs.Prelude.{◌≡◌, ℕ, ◌+◌, ◌*◌, ◌^◌, ◌<◌, ◌≤◌, Bool, true, false, List, length, replicate, Err, Ok, Result, ⊤}
use mathlib.Core.Path.{refl, sym, ap, subst, ◌∙◌}
use native.Mathlib.Omega.{arith}
use lib.ListN.{length-replicate}
use Rattle.common.specs.Answers.{first}
use Rattle.common.specs.declared.answer.Refusal.{Refusal}
use Rattle.common.proofs.CheckLaws.{verdict_of}
use Rattle.settings.specs.declared.settings.Settings.{Settings}
use Rattle.slot.specs.declared.slot.Slot.{Slot}
use Rattle.state.specs.Plain.{Ehci}
use Rattle.state.specs.Ranges.{in_ranges}
use Rattle.state.specs.Slots.{slot_at}
use Rattle.words.specs.declared.cores.Rest.{Rest}
use Rattle.words.specs.Good.{Good, Tidy}
use Rattle.words.specs.Record.{SlotFits, id_in, last_at, put_slot, size_in, slot_in, word_at}
use Rattle.words.specs.View.{state_of}
use Rattle.words.proofs.FitLaws.{id_below, id_one}
use Rattle.words.proofs.ViewLaws.{view_slot}
use Rattle.pipe.specs.Endpoints.{encoded, pipe_of, with_endpoint, with_toggle}
use Rattle.pipe.specs.declared.endpoints.Endpoint.{Endpoint}
use Rattle.pipe.specs.declared.endpoints.Endpoint.TheVariants.{Idle}
use Rattle.pipe.specs.declared.endpoints.Pipe.{Pipe}
use Rattle.pipe.proofs.WordsFits.{idle_fits}
use Rattle.pipe.proofs.WordsLaws.{tidy_endpoint_put, view_endpoint_put}
use Rattle.controller.specs.Readers.{is_opened, is_uncollected}
use Rattle.endpoint.specs.Calls.{clear_checks, clear_halt_of}
use Rattle.endpoint.specs.Plain.{Change}
use Rattle.endpoint.specs.Words.{verdict_words}
use Rattle.endpoint.proofs.WordsChange.{had_none, words_room, words_slot_room}

-- what is asked of a state in its ranges
verdict_clear : (s : Ehci) (k : ℕ) → in_ranges s ≡ true → verdict_of (verdict_words s k true) ≡ first (clear_checks s k)
unfolding verdict_words
verdict_clear s k e = by (is_opened s k) refl (is_uncollected s k) refl
  where
    by : (o : Bool) → is_opened s k ≡ o → (u : Bool) → is_uncollected s k ≡ u → verdict_of (verdict_words s k true) ≡ first (clear_checks s k)
    by false o u q = rw (e, o)
    by true o true q = rw (e, o, q)
    by true o false q = rw (e, o, q)

-- what is put fits the words of its slot
module _ (ws : List ℕ) (k : ℕ) (old p : Pipe) (eo : old ≡ pipe_of (slot_in (word_at ws k) (last_at ws k))) (ep : p ≡ with_toggle old false) where
  pipe_is : p ≡ with_toggle (pipe_of (slot_in (word_at ws k) (last_at ws k))) false
  pipe_is = ep ∙ ap (λ (q : Pipe). with_toggle q false) eo

  size_is : p.size ≡ size_in (word_at ws k)
  unfolding slot_in
  size_is = ap (λ (q : Pipe). q.size) pipe_is

  next_is : p.next ≡ id_in (last_at ws k)
  unfolding slot_in
  next_is = ap (λ (q : Pipe). q.next) pipe_is

  pub clearing_fits : last_at ws k < 2 ^ 64 → SlotFits (encoded (Idle p))
  clearing_fits below =
      idle_fits p (omega (arith, size_is)) (omega (arith, next_is, id_one (last_at ws k)))
      (omega (arith, next_is, id_below (last_at ws k) below))

module _ (s : Settings) (r : Rest) (ws : List ℕ) (good : Good s r ws) (k : ℕ) (a : (Result ⊤ Refusal)) (ea : a ≡ verdict_words (state_of s r ws) k true) where
  abbrev st : Ehci
  st = state_of s r ws

  asked : verdict_of a ≡ first (clear_checks st k)
  asked = ap verdict_of ea ∙ verdict_clear st k good.ranges

  clear_refused : (q : Refusal) → a ≡ Err q → ◌≡◌ {A = Change} (record { answer = Err q; state = st }) (clear_halt_of st k)
  unfolding clear_halt_of
  clear_refused q e = rw (sym asked ∙ ap verdict_of e)

  pub clearing_refused : (q : Refusal) → a ≡ Err q → (b : Result ⊤ Refusal) → b ≡ Err q → ◌≡◌ {A = Change} (record { answer = b; state = st }) (clear_halt_of st k)
  clearing_refused q e b eb = subst (λ (z : Result ⊤ Refusal). ◌≡◌ {A = Change} (record { answer = z; state = st }) (clear_halt_of st k)) (sym eb) (clear_refused q e)

  -- the heads are not lent: any that fit
  abbrev heads : List ℕ
  heads = replicate (17 * (s.endpoints + 1)) 0

  fit : length heads ≡ 17 * (s.endpoints + 1)
  fit = length-replicate {A = ℕ} (17 * (s.endpoints + 1)) 0

  module _ (e : a ≡ (Ok tt)) where
    pub clearing_room : 6 * k + 6 ≤ length ws
    clearing_room = words_slot_room s r ws good heads fit k a true ea e

    module _ (old p : Pipe) (eo : old ≡ pipe_of (slot_in (word_at ws k) (last_at ws k))) (ep : p ≡ with_toggle old false) (below : last_at ws k < 2 ^ 64)
        (ws' : List ℕ) (ew : ws' ≡ put_slot ws k (encoded (Idle p))) where
      low : k < 32
      low = (words_room s r ws good heads fit k a true ea e).0

      pipe_state : Idle p ≡ Idle (with_toggle (pipe_of (slot_at st k)) false)
      pipe_state =
          ap Idle (pipe_is ws k old p eo ep) ∙ ap (λ (y : Slot). Idle (with_toggle (pipe_of y) false)) (sym (view_slot s r ws k low))

      put_state_lem : state_of s r ws' ≡ with_endpoint st k (Idle (with_toggle (pipe_of (slot_at st k)) false))
      put_state_lem =
          ap (λ (l : List ℕ). state_of s r l) ew
          ∙ view_endpoint_put ws k (Idle p) low clearing_room (clearing_fits ws k old p eo ep below) s r
          ∙ ap (λ (y : Endpoint). with_endpoint st k y) pipe_state

      pub clearing_done : ◌≡◌ {A = Change} (record { answer = Ok tt; state = state_of s r ws' }) (clear_halt_of st k)
      unfolding clear_halt_of
      clearing_done = rw (put_state_lem, sym asked ∙ ap verdict_of e)

      pub clearing_tidy : Tidy s r ws'
      clearing_tidy =
          subst (λ (l : List ℕ). Tidy s r l) (sym ew)
          (tidy_endpoint_put ws k (Idle p) clearing_room (clearing_fits ws k old p eo ep below) s r
          (λ _. had_none s r ws good heads fit k a true ea e) good.tidy)
