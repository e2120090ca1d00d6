-- What an accepted request takes over words: the lowest free places, as many as it needs, for a slot that has none.
use Rattle.std.specs.Prelude.{◌≡◌, ℕ, ◌+◌, ◌*◌, ◌^◌, ◌<◌, ◌≤◌, Bool, true, false, eqb, List, [], ◌∷◌, ◌++◌, length, get_or, take, drop, Ok}
use mathlib.Core.Path.{refl, sym, ap, subst, ◌∙◌}
use native.Mathlib.Omega.{arith}
use borrow.Author.Tests.{leb-false}
use lib.Seq.{length-take-le}
use Rattle.bitset.specs.Places.{Within, Words, lowest_of, set_places, without_of}
use Rattle.bitset.proofs.LowestLaws.{lowest_count}
use Rattle.common.specs.declared.kinds.EndpointType.{EndpointType}
use Rattle.common.specs.declared.kinds.EndpointType.TheVariants.{Control, Isochronous, Bulk, Interrupt}
use Rattle.controller.proofs.ReaderLaws.{open_within}
use Rattle.pipe.proofs.LimitLaws.{limit_least, limit_most}
use Rattle.controller.proofs.WordsCases.{held_word}
use Rattle.controller.proofs.WordsLaws.{free_good}
use Rattle.pipe.specs.Endpoints.{encoded, limit_at, with_endpoint}
use Rattle.pool.specs.Places.{Within as WithinRow, mark_of, packed, places_from}
use Rattle.pool.specs.Words.{LayingGood, where_places}
use Rattle.pool.specs.Plain.{Deed}
use Rattle.pool.specs.Plain as Deeds
use Rattle.pool.specs.Plain.{Places}
use Rattle.pool.proofs.GoodLaws.{request_good}
use Rattle.pool.proofs.PlaceLaws.{places_within}
use Rattle.settings.specs.declared.settings.Settings.{Settings}
use Rattle.settings.specs.Settings.{pool_length}
use Rattle.settings.proofs.SettingsLaws as settings
use Rattle.slot.specs.declared.slot.Slot.{Slot}
use Rattle.state.specs.Slots.{slot_at, with_slot}
use Rattle.state.specs.State.{with_owner}
use Rattle.token.specs.Chunks.{if_empty, need_of}
use Rattle.token.proofs.ChunkLaws.{count_pos}
use Rattle.words.specs.declared.cores.Rest.{Rest}
use Rattle.words.specs.Good.{Good, Tidy, no_places}
use Rattle.words.specs.Record.{SlotFits, id_in, last_at, phase_in, places_at, put_places, put_slot, size_in, slot_in, toggle_in, word_at}
use Rattle.words.specs.Rest.{rest_with_free}
use Rattle.words.specs.View.{state_of}
use Rattle.words.proofs.GoodLaws.{good_ranges, good_room, good_settings}
use Rattle.words.proofs.KeptLaws.{tidy_taken}
use Rattle.words.proofs.OwnerLaws.{owners_of}
use Rattle.words.proofs.PlacesLaws.{taken_places}
use Rattle.words.proofs.TakenLaws.{view_taken}
use Rattle.words.proofs.ViewLaws.{owner_length, view_slot}
use Rattle.request.specs.Submit.{chain_for, first_in, id_at, judge_of, need_of_request, state_with, taken_for, taken_of, transfer_of}
use Rattle.request.specs.Words.{chain_at, first_of, laying_chain, laying_for, request_with}
use Rattle.request.specs.declared.judge.TransferRequest.{TransferRequest}
use Rattle.request.proofs.JudgeLaws.{Judged, judge_tells, short}
use Rattle.request.proofs.SettleCases.{packed_first}
use Rattle.request.proofs.SubmitLaws.{buffer_ends}

-- a request needs at least one descriptor
pub need_one : (k : EndpointType) (len limit : ℕ) → 1 ≤ limit → 1 ≤ need_of k len limit
unfolding need_of
need_one Control len limit h = by (eqb len 0)
  where
    by : (b : Bool) → 1 ≤ if_empty b 2 3
    by true = omega arith
    by false = omega arith
need_one Isochronous len limit h = count_pos len limit h
need_one Bulk len limit h = count_pos len limit h
need_one Interrupt len limit h = count_pos len limit h

-- the same said of a list by pool and by bitset
within_set : (n : ℕ) (ps : List ℕ) → WithinRow n ps → Within n ps
within_set n [] w = tt
within_set n (p ∷ ps) w = (w.0, within_set n ps w.1)

wider : (n m : ℕ) → n ≤ m → (ps : List ℕ) → Within n ps → Within m ps
wider n m h [] w = tt
wider n m h (p ∷ ps) w = let here : p < n = w.0 in (omega (arith, h, here), wider n m h ps w.1)

where_known : (ps : List ℕ) (P : Type 0) → P → where_places ps P
where_known [] P p = tt
where_known (q ∷ qs) P p = p

chain_some : (ps : List ℕ) → 1 ≤ length ps → (base : ℕ) (deed : Deed) → chain_at ps base deed ≡ record { places = packed ps; base = base; deed = deed }
chain_some [] h base deed = absurd (omega arith)
chain_some (p ∷ ps) h base deed = refl

first_within : (n : ℕ) (ps : List ℕ) → Within n ps → 1 ≤ length ps → get_or ps 0 0 < n
first_within n [] w h = absurd (omega arith)
first_within n (p ∷ ps) w h = w.0

module _ (s : Settings) (r : Rest) (ws : List ℕ) (k : ℕ) (t : TransferRequest) (good : Good s r ws) (done : judge_of (state_of s r ws) k t ≡ (Ok tt)) where
  pub judged : Judged (state_of s r ws) k t
  judged = judge_tells (state_of s r ws) k t done

  pub kept_settings : settings.Good s
  kept_settings = good_settings s r ws good

  pub slot_within : k < s.endpoints
  unfolding state_of
  slot_within = open_within (state_of s r ws) k (good_ranges s r ws good) judged.opened

  pub slot_below : k < 32
  slot_below = omega (arith, slot_within, kept_settings.endpoints_most)

  pub slot_room : 6 * k + 6 ≤ length ws
  slot_room = good_room s r ws good k slot_within

  pub short_length : t.length < 2 ^ 32
  short_length = short (state_of s r ws) k t (good_ranges s r ws good) judged

  -- the slot has no place
  pub slot_empty : places_at ws k ≡ no_places
  slot_empty =
      (good.tidy.held k slot_within).empty
      (leb-false 2 (phase_in (word_at ws k)) (held_word s r ws k (word_at ws k) good refl ∙ judged.bare))

  pub id_viewed : id_in (last_at ws k) ≡ id_at (state_of s r ws) k
  unfolding slot_in
  id_viewed = sym (ap (λ (e : Slot). e.id) (view_slot s r ws k slot_below))

  pub size_viewed : size_in (word_at ws k) ≡ (slot_at (state_of s r ws) k).size
  unfolding slot_in
  size_viewed = sym (ap (λ (e : Slot). e.size) (view_slot s r ws k slot_below))

  pub toggle_viewed : toggle_in (word_at ws k) ≡ (slot_at (state_of s r ws) k).toggle
  unfolding slot_in
  toggle_viewed = sym (ap (λ (e : Slot). e.toggle) (view_slot s r ws k slot_below))

  pub chunk_least : 1 ≤ limit_at (state_of s r ws) k
  chunk_least = limit_least (state_of s r ws) (good_ranges s r ws good) k slot_below

  pub chunk_most : limit_at (state_of s r ws) k ≤ 16384
  chunk_most = limit_most (state_of s r ws) (good_ranges s r ws good) k

  -- ---- the places

  module _ (fit : Words r.free) (n : ℕ) (en : n ≡ need_of_request (state_of s r ws) k t) where
    enough : n ≤ length (set_places r.free)
    enough = omega (arith, en, judged.room, free_good s r ws good)

    -- as many as it needs
    pub taken_count : length (set_places (lowest_of r.free n)) ≡ n
    taken_count = lowest_count r.free n fit ∙ omega (arith, enough)

    pub taken_some : 1 ≤ length (set_places (lowest_of r.free n))
    taken_some = omega (arith, taken_count, en, need_one t.kind t.length (limit_at (state_of s r ws) k) chunk_least)

    row_places : places_from 0 (take s.descriptors (owners_of ws)) 0 n ≡ set_places (lowest_of r.free n)
    row_places =
        taken_places s r ws good.tidy kept_settings.descriptors_most kept_settings.endpoints_most fit n

    owners_long : length (owners_of ws) ≡ 256
    unfolding state_of
    owners_long = owner_length s r ws

    pub taken_within : Within s.descriptors (set_places (lowest_of r.free n))
    taken_within =
        let long : length (take s.descriptors (owners_of ws)) ≡ s.descriptors =
        length-take-le s.descriptors (owners_of ws) (omega (arith, owners_long, kept_settings.descriptors_most)) in
        within_set s.descriptors (set_places (lowest_of r.free n))
        (subst (λ (ps : List ℕ). WithinRow s.descriptors ps) row_places
        (subst (λ (m : ℕ). WithinRow m (places_from 0 (take s.descriptors (owners_of ws)) 0 n)) long
        (places_within (take s.descriptors (owners_of ws)) 0 n)))

    -- and of the row, which has one record more
    row_within : Within (pool_length s) (set_places (lowest_of r.free n))
    row_within = wider s.descriptors (pool_length s) (omega arith) (set_places (lowest_of r.free n)) taken_within

    pub first_below : first_of s (lowest_of r.free n) < 2 ^ 32
    first_below =
        omega (
          arith,
          first_within s.descriptors (set_places (lowest_of r.free n)) taken_within taken_some,
          kept_settings.pool_ends,
        )

    pub taken_viewed : (taken_for (state_of s r ws) k t).places ≡ packed (set_places (lowest_of r.free n))
    unfolding taken_for taken_of state_of
    taken_viewed = ap packed (ap (λ (m : ℕ). places_from 0 (take s.descriptors (owners_of ws)) 0 m) (sym en) ∙ row_places)

    pub first_viewed : first_of s (lowest_of r.free n) ≡ first_in (state_of s r ws) (taken_for (state_of s r ws) k t)
    unfolding state_of
    first_viewed = rw (taken_viewed, packed_first (set_places (lowest_of r.free n)))

    -- ---- the state

    owner_viewed : (taken_for (state_of s r ws) k t).owner ≡ mark_of (take s.descriptors (owners_of ws)) n (k + 1) ++ drop s.descriptors (owners_of ws)
    unfolding taken_for taken_of state_of
    owner_viewed = rw en

    module _ (id : ℕ) (ei : id ≡ id_in (last_at ws k)) (fits : SlotFits (encoded (request_with t (word_at ws k) id))) where
      slot_viewed : with_slot
          (with_owner (state_of s r ws) (mark_of (take s.descriptors (owners_of ws)) n (k + 1) ++ drop s.descriptors (owners_of ws)))
          k
          (encoded (request_with t (word_at ws k) id))
          ≡ state_with (state_of s r ws) (taken_for (state_of s r ws) k t).owner k t
      unfolding state_with with_endpoint
      slot_viewed = rw (owner_viewed, size_viewed, toggle_viewed, ei ∙ id_viewed)

      pub state_viewed : (free : List ℕ)
          → state_of s (rest_with_free r free) (put_places (put_slot ws k (encoded (request_with t (word_at ws k) id))) k (lowest_of r.free n))
          ≡ state_with (state_of s r ws) (taken_for (state_of s r ws) k t).owner k t
      state_viewed free =
          view_taken s r ws good.tidy kept_settings.descriptors_most kept_settings.endpoints_most k (encoded (request_with t (word_at ws k) id))
          slot_within fits slot_empty fit n free
          ∙ slot_viewed

      pub tidy_settled : (r' : Rest) → r'.free ≡ without_of r.free (lowest_of r.free n)
          → Tidy s r' (put_places (put_slot ws k (encoded (request_with t (word_at ws k) id))) k (lowest_of r.free n))
      tidy_settled r' left =
          tidy_taken s r ws good.tidy k (encoded (request_with t (word_at ws k) id)) slot_within fits r' n slot_empty (omega arith) left

    -- ---- what is laid

    pub chain_viewed : laying_chain (laying_for s k t (limit_at (state_of s r ws) k) (lowest_of r.free n)) ≡ chain_for (state_of s r ws) k t (taken_for (state_of s r ws) k t)
    unfolding laying_for state_of
    chain_viewed =
        chain_some (set_places (lowest_of r.free n)) taken_some s.pool (Deeds.Transfer (transfer_of (state_of s r ws) k t))
        ∙ ap (λ (p : Places). record { places = p; base = s.pool; deed = Deeds.Transfer (transfer_of (state_of s r ws) k t) }) (sym taken_viewed)

    pub laying_settled : LayingGood (pool_length s) (laying_for s k t (limit_at (state_of s r ws) k) (lowest_of r.free n))
    unfolding laying_for
    laying_settled =
        record {
          within = row_within;
          transfer =
              where_known (set_places (lowest_of r.free n)) _
              (request_good (laying_for s k t (limit_at (state_of s r ws) k) (lowest_of r.free n)).transfer s.pool (pool_length s) (length (set_places (lowest_of r.free n)))
              kept_settings.pool_ends (buffer_ends t judged.in_range) (omega (arith, slot_within, kept_settings.setups_end))
              chunk_least chunk_most (taken_count ∙ en));
        }
