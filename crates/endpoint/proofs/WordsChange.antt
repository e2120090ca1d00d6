-- Close, set address and set packet size over words: what it is that they are let pass, and what is left.
use Rattle.std.specs.Prelude.{◌≡◌, ℕ, ◌+◌, ◌*◌, ◌^◌, ◌<◌, ◌≤◌, max, Bool, true, false, eqb, ltb, leb, List, length, get_or, replicate, Err, Ok, Result, ⊤}
use mathlib.Core.Path.{refl, sym, ap, subst, ◌∙◌}
use native.Mathlib.Omega.{arith}
use borrow.Author.Tests.{eqb-false, leb-false, ltb-true, ltb-false, not-true}
use lib.ListN.{get_or-eq_default}
use Rattle.common.specs.declared.answer.Refusal.{Refusal}
use Rattle.descriptor.specs.Heads.{with_address, with_packet_size}
use Rattle.opening.specs.Heads.{head_word, with_head_word}
use Rattle.opening.specs.Opening.{rows_are_fit}
use Rattle.settings.specs.declared.settings.Settings.{Settings}
use Rattle.settings.specs.Settings.{pool_length}
use Rattle.slot.specs.Ranges.{size_good}
use Rattle.slot.specs.declared.slot.Slot.{Slot}
use Rattle.state.specs.Plain.{Ehci}
use Rattle.state.specs.Slots.{slot_at}
use Rattle.words.specs.declared.cores.Rest.{Rest}
use Rattle.words.specs.Good.{Good, Tidy, no_places}
use Rattle.words.specs.Record.{SlotFits, id_in, kind_in, last_at, phase_in, places_at, put_slot, slot_in, word_at}
use Rattle.words.specs.View.{each_from, state_of}
use Rattle.words.proofs.Each.{each_length}
use Rattle.words.proofs.FitLaws.{id_below, id_one}
use Rattle.words.proofs.GoodLaws.{good_beyond, good_room, good_settings}
use Rattle.words.proofs.ViewLaws.{view_slot}
use Rattle.pipe.specs.Endpoints.{encoded, kind_number, pipe_of, with_endpoint}
use Rattle.pipe.specs.declared.endpoints.Endpoint.{Endpoint}
use Rattle.pipe.specs.declared.endpoints.Endpoint.TheVariants.{Closed, Idle}
use Rattle.pipe.specs.declared.endpoints.Pipe.{Pipe}
use Rattle.pipe.proofs.EndpointLaws.{kind_back}
use Rattle.pipe.proofs.WordsFits.{closed_fits, idle_fits}
use Rattle.pipe.proofs.WordsLaws.{tidy_endpoint_put, view_endpoint_put}
use Rattle.pipe.proofs.WordsTells.{open_within}
use Rattle.controller.specs.Lent.{accepts_of, lengths}
use Rattle.controller.specs.Readers.{is_opened, is_uncollected}
use Rattle.controller.proofs.WordsCases.{held_word, open_word}
use Rattle.controller.proofs.WordsLent.{accepts_viewed, rows_fixed}
use Rattle.endpoint.specs.Calls.{change_left, close_of, raised_good, set_address_of, set_packet_size_of, slot_checks, slot_verdict, with_head, with_size}
use Rattle.endpoint.specs.Words.{verdict_words}
use Rattle.endpoint.proofs.Cases.{address_done, address_refused, change_passed, change_room, close_done, close_refused, size_done, size_refused}

-- where the lent rows and the state are accepted the first check says nothing
pub verdict_accepted : (s : Ehci) (pool h f u k : ℕ) (g : Bool) → accepts_of s (lengths pool h f u) ≡ true
    → verdict_words s k g ≡ slot_verdict s (lengths pool h f u) k g
unfolding verdict_words slot_verdict slot_checks
verdict_accepted s pool h f u k g e = rw e

-- the kind in a slot's words is the state's, also where there is no such slot
module _ (s : Settings) (r : Rest) (ws : List ℕ) (good : Good s r ws) (k : ℕ) where
  abbrev slot : Slot
  slot = slot_in (word_at ws k) (last_at ws k)

  beyond_kind : 32 ≤ k → slot.kind ≡ (slot_at (state_of s r ws) k).kind
  unfolding slot_at slot_in state_of
  beyond_kind h =
      let z : word_at ws k ≡ 0 = good_beyond s r ws good k (omega (arith, h, (good_settings s r ws good).endpoints_most)) in
      rw (z, none)
    where
      none : get_or (each_from (λ j. kind_in (word_at ws j)) 0 32) k 0 ≡ 0
      none = get_or-eq_default (each_from (λ j. kind_in (word_at ws j)) 0 32) 0 (omega (arith, h, each_length (λ j. kind_in (word_at ws j)) 0 32))

  pub kind_view : slot.kind ≡ (slot_at (state_of s r ws) k).kind
  kind_view = go (ltb k 32) refl
    where
      go : (b : Bool) → ltb k 32 ≡ b → slot.kind ≡ (slot_at (state_of s r ws) k).kind
      go true t = ap (λ (e : Slot). e.kind) (sym (view_slot s r ws k (ltb-true k 32 t)))
      go false t = beyond_kind (ltb-false k 32 t)

  pub raised_view : (size : ℕ) → size_good s.limit (kind_number (pipe_of slot).kind) size
      ≡ size_good (state_of s r ws).settings.limit (slot_at (state_of s r ws) k).kind size
  unfolding slot_in state_of
  raised_view size = rw (kind_back (kind_in (word_at ws k)) (omega arith), kind_view)

-- what set packet size puts fits the words of its slot, whether it is judged or not: a byte, raised
module _ (ws : List ℕ) (k x : ℕ) (old p : Pipe) (eo : old ≡ pipe_of (slot_in (word_at ws k) (last_at ws k))) (ep : p ≡ with_size old (max x 8)) where
  pipe_is : p ≡ with_size (pipe_of (slot_in (word_at ws k) (last_at ws k))) (max x 8)
  pipe_is = ep ∙ ap (λ (q : Pipe). with_size q (max x 8)) eo

  size_is : p.size ≡ max x 8
  size_is = ap (λ (q : Pipe). q.size) pipe_is

  next_is : p.next ≡ id_in (last_at ws k)
  unfolding slot_in
  next_is = ap (λ (q : Pipe). q.next) pipe_is

  pub sizing_fits : x < 256 → last_at ws k < 2 ^ 64 → SlotFits (encoded (Idle p))
  sizing_fits small below =
      idle_fits p (omega (arith, size_is)) (omega (arith, next_is, id_one (last_at ws k)))
      (omega (arith, next_is, id_below (last_at ws k) below))

module _ (s : Settings) (r : Rest) (ws : List ℕ) (good : Good s r ws) (h : List ℕ) (fit : length h ≡ 17 * (s.endpoints + 1))
    (k : ℕ) (a : (Result ⊤ Refusal)) where
  verdict_lent : (g : Bool) → a ≡ verdict_words (state_of s r ws) k g → (pool f u : ℕ) → rows_are_fit s pool (length h) f u ≡ true
      → a ≡ slot_verdict (state_of s r ws) (lengths pool (length h) f u) k g
  verdict_lent g ea pool f u t =
      ea ∙ verdict_accepted (state_of s r ws) pool (length h) f u k g (accepts_viewed s r ws good pool (length h) f u t)

  module _ (g : Bool) (ea : a ≡ verdict_words (state_of s r ws) k g) (e : a ≡ (Ok tt)) where
    -- the lengths that opening fixed
    verdict_fixed : a ≡ slot_verdict (state_of s r ws) (lengths (pool_length s) (length h) 1024 (8 * s.endpoints)) k g
    verdict_fixed = verdict_lent g ea (pool_length s) 1024 (8 * s.endpoints) (rows_fixed s (length h) fit)

    pub words_room : (k < 32) × (k + 1 ≤ 32) × (17 * (k + 1) + 17 ≤ length h)
    words_room = change_room (state_of s r ws) (pool_length s) h 1024 (8 * s.endpoints) k g a verdict_fixed e

    pub words_head : (k + 1 ≤ 32) × (17 * (k + 1) + 17 ≤ length h)
    words_head = (words_room.1, words_room.2)

    -- its characteristics
    pub words_word : 17 * (k + 1) + 1 < length h
    words_word = omega (arith, words_room.2)

    was_open : is_opened (state_of s r ws) k ≡ true
    was_open = (change_passed (state_of s r ws) (pool_length s) h 1024 (8 * s.endpoints) k g a verdict_fixed e).1

    was_idle : is_uncollected (state_of s r ws) k ≡ false
    was_idle = (change_passed (state_of s r ws) (pool_length s) h 1024 (8 * s.endpoints) k g a verdict_fixed e).2

    phase_some : (phase_in (word_at ws k) ≡ 0 → ⊥)
    phase_some = eqb-false (phase_in (word_at ws k)) 0 (not-true (eqb (phase_in (word_at ws k)) 0) (open_word s r ws k (word_at ws k) good refl ∙ was_open))

    pub words_within : k < s.endpoints
    words_within = open_within s r ws good k phase_some

    pub words_slot_room : 6 * k + 6 ≤ length ws
    words_slot_room = good_room s r ws good k words_within

    pub had_none : places_at ws k ≡ no_places
    had_none =
        (good.tidy.held k words_within).empty
        (omega (arith, leb-false 2 (phase_in (word_at ws k)) (held_word s r ws k (word_at ws k) good refl ∙ was_idle)))

  -- ---- close

  module _ (ea : a ≡ verdict_words (state_of s r ws) k true) where
    pub closing_refused : (q : Refusal) → a ≡ Err q → (b : Result ⊤ Refusal) → b ≡ Err q → (pool f u : ℕ) → rows_are_fit s pool (length h) f u ≡ true
        → change_left (record { answer = b; state = state_of s r ws }) h ≡ close_of (state_of s r ws) pool h f u k
    closing_refused q e b eb pool f u t =
        ap (λ (z : Result ⊤ Refusal). change_left (record { answer = z; state = state_of s r ws }) h) eb
        ∙ close_refused (state_of s r ws) pool h f u k a q (verdict_lent true ea pool f u t) e

    module _ (e : a ≡ (Ok tt)) (ws' : List ℕ) (ew : ws' ≡ put_slot ws k (encoded Closed)) where
      pub closing_done : (h' : List ℕ) → h' ≡ with_head h k (replicate 17 0) → (pool f u : ℕ) → rows_are_fit s pool (length h) f u ≡ true
          → change_left (record { answer = Ok tt; state = state_of s r ws' }) h' ≡ close_of (state_of s r ws) pool h f u k
      closing_done h' eh pool f u t =
          close_done (state_of s r ws) pool h f u k a (verdict_lent true ea pool f u t) e (state_of s r ws') h'
          (ap (λ (l : List ℕ). state_of s r l) ew
          ∙ view_endpoint_put ws k Closed (words_room true ea e).0 (words_slot_room true ea e) closed_fits s r)
          eh

      pub closing_tidy : Tidy s r ws'
      closing_tidy =
          subst (λ (l : List ℕ). Tidy s r l) (sym ew)
          (tidy_endpoint_put ws k Closed (words_slot_room true ea e) closed_fits s r (λ _. had_none true ea e) good.tidy)

  -- ---- set address

  module _ (x : ℕ) (ea : a ≡ verdict_words (state_of s r ws) k (leb x 127)) where
    pub addressing_refused : (q : Refusal) → a ≡ Err q → (b : Result ⊤ Refusal) → b ≡ Err q → (pool f u : ℕ) → rows_are_fit s pool (length h) f u ≡ true
        → change_left (record { answer = b; state = state_of s r ws }) h ≡ set_address_of (state_of s r ws) pool h f u k x
    addressing_refused q e b eb pool f u t =
        ap (λ (z : Result ⊤ Refusal). change_left (record { answer = z; state = state_of s r ws }) h) eb
        ∙ address_refused (state_of s r ws) pool h f u k a x q (verdict_lent (leb x 127) ea pool f u t) e

    pub addressing_done : a ≡ (Ok tt) → (w : ℕ) → w ≡ with_address (head_word h (k + 1) 1) x → (pool f u : ℕ)
        → rows_are_fit s pool (length h) f u ≡ true
        → change_left (record { answer = Ok tt; state = state_of s r ws }) (with_head_word h (k + 1) 1 w)
        ≡ set_address_of (state_of s r ws) pool h f u k x
    addressing_done e w ew pool f u t =
        address_done (state_of s r ws) pool h f u k a x (verdict_lent (leb x 127) ea pool f u t) e w ew

  -- ---- set packet size

  module _ (x : ℕ) (old p : Pipe) (eo : old ≡ pipe_of (slot_in (word_at ws k) (last_at ws k))) (ep : p ≡ with_size old (max x 8))
      (g : Bool) (eg : g ≡ size_good s.limit (kind_number p.kind) p.size) (ea : a ≡ verdict_words (state_of s r ws) k g) where
    judged : g ≡ raised_good (state_of s r ws) k x
    judged =
        eg ∙ ap (λ (q : Pipe). size_good s.limit (kind_number q.kind) q.size) (pipe_is ws k x old p eo ep)
        ∙ raised_view s r ws good k (max x 8)

    asked : a ≡ verdict_words (state_of s r ws) k (raised_good (state_of s r ws) k x)
    asked = ea ∙ ap (λ (b : Bool). verdict_words (state_of s r ws) k b) judged

    pub sizing_refused : (q : Refusal) → a ≡ Err q → (b : Result ⊤ Refusal) → b ≡ Err q → (pool f u : ℕ) → rows_are_fit s pool (length h) f u ≡ true
        → change_left (record { answer = b; state = state_of s r ws }) h ≡ set_packet_size_of (state_of s r ws) pool h f u k x
    sizing_refused q e b eb pool f u t =
        ap (λ (z : Result ⊤ Refusal). change_left (record { answer = z; state = state_of s r ws }) h) eb
        ∙ size_refused (state_of s r ws) pool h f u k a x q (verdict_lent (raised_good (state_of s r ws) k x) asked pool f u t) e

    module _ (e : a ≡ (Ok tt)) (small : x < 256) (below : last_at ws k < 2 ^ 64) where
      fits : SlotFits (encoded (Idle p))
      fits = sizing_fits ws k x old p eo ep small below

      pipe_state : Idle p ≡ Idle (with_size (pipe_of (slot_at (state_of s r ws) k)) (max x 8))
      pipe_state =
          ap Idle (pipe_is ws k x old p eo ep)
          ∙ ap (λ (y : Slot). Idle (with_size (pipe_of y) (max x 8))) (sym (view_slot s r ws k (words_room g ea e).0))

      module _ (ws' : List ℕ) (ew : ws' ≡ put_slot ws k (encoded (Idle p))) where
        pub sizing_done : (w : ℕ) → w ≡ with_packet_size (head_word h (k + 1) 1) x → (pool f u : ℕ)
            → rows_are_fit s pool (length h) f u ≡ true
            → change_left (record { answer = Ok tt; state = state_of s r ws' }) (with_head_word h (k + 1) 1 w)
            ≡ set_packet_size_of (state_of s r ws) pool h f u k x
        sizing_done w eh pool f u t =
            size_done (state_of s r ws) pool h f u k a x (verdict_lent (raised_good (state_of s r ws) k x) asked pool f u t) e
            (state_of s r ws') w
            (ap (λ (l : List ℕ). state_of s r l) ew
            ∙ view_endpoint_put ws k (Idle p) (words_room g ea e).0 (words_slot_room g ea e) fits s r
            ∙ ap (λ (y : Endpoint). with_endpoint (state_of s r ws) k y) pipe_state)
            eh

        pub sizing_tidy : Tidy s r ws'
        sizing_tidy =
            subst (λ (l : List ℕ). Tidy s r l) (sym ew)
            (tidy_endpoint_put ws k (Idle p) (words_slot_room g ea e) fits s r (λ _. had_none g ea e) good.tidy)
