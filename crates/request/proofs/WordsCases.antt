-- The returns of an accepted submit over words, and what it calls may count on.
use Rattle.std.specs.Prelude.{◌≡◌, ℕ, ◌+◌, ◌*◌, ◌^◌, ◌<◌, ◌≤◌, List, length, Ok}
use mathlib.Core.Path.{refl, ap, ◌∙◌}
use native.Mathlib.Omega.{arith}
use Rattle.bitset.specs.Places.{Words, lowest_of, set_places, without_of}
use Rattle.controller.specs.declared.lent.Readings.{Readings}
use Rattle.descriptor.specs.Heads.{qh_link}
use Rattle.pipe.specs.Endpoints.{encoded, flag_of, limit_at}
use Rattle.pool.specs.Transfers.{alternate_word}
use Rattle.pool.specs.Words.{LayingGood}
use Rattle.pool.specs.Plain.{Chain}
use Rattle.pool.specs.declared.laying.Laying.{Laying}
use Rattle.register.specs.Bits.{with_bits}
use Rattle.register.specs.Writes.{no_writes, and_then}
use Rattle.register.specs.declared.writes.Writes.{Writes}
use Rattle.schedule.specs.Bell.{command_word}
use Rattle.schedule.specs.Links.{links, slot_link}
use Rattle.settings.specs.declared.settings.Settings.{Settings}
use Rattle.settings.specs.Settings.{pool_length, shared_address}
use Rattle.state.specs.Plain.{Ehci}
use Rattle.words.specs.declared.cores.Core.{Core}
use Rattle.words.specs.declared.cores.Rest.{Rest}
use Rattle.words.specs.Good.{Good, Tidy}
use Rattle.words.specs.Record.{SlotFits, id_in, last_at, put_places, put_slot, toggle_in, word_at}
use Rattle.words.specs.Rest.{rest_with_free}
use Rattle.words.specs.View.{state_of, view}
use Rattle.request.specs.Submit.{accepted_with, chain_for, first_in, id_at, judge_of, linked_rows, need_of_request, settled_submit, setups_with, state_with, submitted, taken_for, toggle_at, writes_with}
use Rattle.request.specs.Words.{accepted_words, first_of, head_of, laying_chain, laying_for, request_with, submitted_view}
use Rattle.request.specs.Plain.{Submitted}
use Rattle.request.specs.declared.answers.Submitted.{Submitted as SubmittedWords}
use Rattle.request.specs.declared.judge.TransferRequest.{TransferRequest}
use Rattle.request.specs.Plain.{Taken}
use Rattle.request.proofs.SettleCases.{settled_is}
use Rattle.request.proofs.WordsSettle.{chain_viewed, first_below, first_viewed, id_viewed, kept_settings, laying_settled, slot_within, state_viewed, taken_some, tidy_settled, toggle_viewed}
use Rattle.token.specs.Overlay.{overlay_token}

-- the laying that is made
pub laid_for : (s : Settings) (k : ℕ) (t : TransferRequest) (l : ℕ) (places : List ℕ) (alternate : ℕ) → alternate ≡ alternate_word t.kind t.direction (shared_address s)
    → ◌≡◌ {A = Laying}
    (record {
      places = places;
      base = s.pool;
      transfer = record { kind = t.kind; direction = t.direction; address = t.address; length = t.length; limit = l; setup = s.setups + 8 * k; alternate = alternate };
    })
    (laying_for s k t l places)
unfolding laying_for
laid_for s k t l places alternate e = rw e

-- ---- `settle`

pub accepted_words_lem : (c : Core) (d : Readings) (k m id w w' : ℕ) (t : TransferRequest) (places free : List ℕ) (none out : Writes) (l : Laying)
    → free ≡ without_of c.rest.free places → w ≡ with_bits d.command 0x31 → w' ≡ command_word w → none ≡ no_writes → out ≡ and_then none 0 w'
    → l ≡ laying_for c.settings k t m places
    → ◌≡◌ {A = SubmittedWords} (record { answer = Ok id; rest = rest_with_free c.rest free; writes = out; laying = l }) (accepted_words c d k t m id places)
unfolding accepted_words
accepted_words_lem c d k m id w w' t places free none out l ef e₁ e₂ e₃ e₄ el = rw (ef, el, e₄, e₃, e₂, e₁)

accepted_made : (s : Ehci) (r : Readings) (k id : ℕ) (t : TransferRequest) (g : Taken) (s' : Ehci) (w : Writes) (c : Chain)
    → id ≡ id_at s k → s' ≡ state_with s g.owner k t → w ≡ writes_with r → c ≡ chain_for s k t g
    → ◌≡◌ {A = Submitted} (record { answer = Ok id; state = s'; writes = w; chain = c }) (accepted_with s r k t g)
unfolding accepted_with
accepted_made s r k id t g s' w c ei es ew ec = rw (ei, es, ew, ec)

-- what it calls may count on
module _ (s : Settings) (r : Rest) (ws : List ℕ) (k : ℕ) (t : TransferRequest) (good : Good s r ws) (done : judge_of (state_of s r ws) k t ≡ (Ok tt)) where
  head_room : (h : List ℕ) → length h ≡ 17 * (s.endpoints + 1) → 17 * (k + 1) + 17 ≤ length h
  head_room h e = omega (arith, e, slot_within s r ws k t good done)

  pub setup_room : (u : List ℕ) → length u ≡ 8 * s.endpoints → 8 * k + 8 ≤ length u
  setup_room u e = omega (arith, e, slot_within s r ws k t good done)

  head_below : head_of s k < 2 ^ 32
  head_below = omega (arith, slot_within s r ws k t good done, (kept_settings s r ws k t good done).heads_end)

  setups_below : s.setups ≤ 2 ^ 32
  setups_below = omega (arith, (kept_settings s r ws k t good done).setups_end)

  pub areas_below : (s.setups ≤ 2 ^ 32) × (shared_address s < 2 ^ 32)
  areas_below = (setups_below, omega (arith, (kept_settings s r ws k t good done).pool_ends))

module _ (c : Core) (ws : List ℕ) (k : ℕ) (t : TransferRequest) (l n : ℕ) (places : List ℕ) (good : Good c.settings c.rest ws)
    (done : judge_of (view c ws) k t ≡ (Ok tt)) (el : l ≡ limit_at (view c ws) k) (en : n ≡ need_of_request (view c ws) k t) (fit : Words c.rest.free) (ep : places ≡ lowest_of c.rest.free n) where
  abbrev s : Settings
  s = c.settings

  abbrev r : Rest
  r = c.rest

  places_some : 1 ≤ length (set_places places)
  places_some = rw ep (taken_some s r ws k t good done fit n en)

  place_below : first_of s places < 2 ^ 32
  place_below = rw ep (first_below s r ws k t good done fit n en)

  pub rows_ready : (h f : List ℕ) → length h ≡ 17 * (s.endpoints + 1) → length f ≡ 1024
      → ((17 * (k + 1) + 17 ≤ length h) × (0 < length f)) × ((1 ≤ length (set_places places)) × (first_of s places < 2 ^ 32) × (head_of s k < 2 ^ 32))
  rows_ready h f eh ef =
      ((head_room s r ws k t good done h eh, omega (arith, ef)), (places_some, place_below, head_below s r ws k t good done))

  module _ (d : Readings) (id : ℕ) (x : SubmittedWords) (ex : x ≡ accepted_words c d k t l id places) where
    settled_laying : LayingGood (pool_length s) x.laying
    unfolding accepted_words
    settled_laying = rw (ex, ep, el) (laying_settled s r ws k t good done fit n en)

    module _ (ws' : List ℕ) (ei : id ≡ id_in (last_at ws k)) (fits : SlotFits (encoded (request_with t (word_at ws k) id)))
        (ew : ws' ≡ put_places (put_slot ws k (encoded (request_with t (word_at ws k) id))) k places) where
      settled_tidy : Tidy s x.rest ws'
      unfolding accepted_words
      settled_tidy = rw (ex, ew, ep) (tidy_settled s r ws k t good done fit n en id ei fits (rest_with_free r (without_of r.free (lowest_of r.free n))) refl)

      state_here : (free : List ℕ) → state_of s (rest_with_free r free) ws' ≡ state_with (view c ws) (taken_for (view c ws) k t).owner k t
      state_here free = rw (ew, ep) (state_viewed s r ws k t good done fit n en id ei fits free)

      rows_here_lem : (h f h' f' : List ℕ) → links h' f' ≡ linked_rows h f t.kind k (qh_link (head_of s k)) (first_of s places) (overlay_token t.kind (flag_of (toggle_in (word_at ws k))))
          → links h' f' ≡ linked_rows h f t.kind k (slot_link (view c ws) k) (first_in (view c ws) (taken_for (view c ws) k t))
          (overlay_token t.kind (toggle_at (view c ws) k))
      unfolding state_of
      rows_here_lem h f h' f' er = er ∙ rw (ep, first_viewed s r ws k t good done fit n en, toggle_viewed s r ws k t good done)

      laid_here : laying_chain (laying_for s k t l places) ≡ chain_for (view c ws) k t (taken_for (view c ws) k t)
      laid_here = rw (ep, el) (chain_viewed s r ws k t good done fit n en)

      accepted_here : submitted_view s x ws' ≡ accepted_with (view c ws) d k t (taken_for (view c ws) k t)
      unfolding accepted_words
      accepted_here =
          ap (λ (y : SubmittedWords). submitted_view s y ws') ex
          ∙ accepted_made (view c ws) d k id t (taken_for (view c ws) k t) (state_of s (rest_with_free r (without_of r.free places)) ws') (writes_with d)
          (laying_chain (laying_for s k t l places)) (ei ∙ id_viewed s r ws k t good done) (state_here (without_of r.free places)) refl laid_here

      settled_words_lem : (h f u h' f' u' : List ℕ) → links h' f' ≡ linked_rows h f t.kind k (qh_link (head_of s k)) (first_of s places) (overlay_token t.kind (flag_of (toggle_in (word_at ws k)))) → u' ≡ setups_with u k t
          → submitted (submitted_view s x ws') h' f' u' ≡ settled_submit (view c ws) h f u d k t
      settled_words_lem h f u h' f' u' er eu =
          settled_is (view c ws) h f u h' f' u' d k t (taken_for (view c ws) k t) (submitted_view s x ws') refl (rows_here_lem h f h' f' er) eu accepted_here

      pub settled : (h f u h' f' u' : List ℕ) (g : ℕ) → g ≡ toggle_in (word_at ws k)
          → links h' f' ≡ linked_rows h f t.kind k (qh_link (head_of s k)) (first_of s places) (overlay_token t.kind (flag_of g)) → u' ≡ setups_with u k t
          → (submitted (submitted_view s x ws') h' f' u' ≡ settled_submit (view c ws) h f u d k t) × (Tidy s x.rest ws' × LayingGood (pool_length s) x.laying)
      settled h f u h' f' u' g eg er eu =
          (settled_words_lem h f u h' f' u' (er ∙ ap (λ (n : ℕ). linked_rows h f t.kind k (qh_link (head_of s k)) (first_of s places) (overlay_token t.kind (flag_of n))) eg) eu, (settled_tidy, settled_laying))
