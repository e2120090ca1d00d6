-- The returns of the functions that ask over words; what is asked may be handed to the pool.
use Rattle.std.specs.Prelude.{◌≡◌, ℕ, ◌+◌, ◌^◌, ◌<◌, ◌≤◌, Bool, true, false, List, [], ◌∷◌, length, take}
use mathlib.Core.Path.{refl, sym, ap, subst, ◌∙◌}
use native.Mathlib.Omega.{arith}
use borrow.Author.Tests.{eq-eqb, le-leb, lt-ltb}
use lib.ListN.{length-take}
use Rattle.bitset.specs.Places.{Within as WithinSet, set_places}
use Rattle.common.specs.declared.kinds.EndpointType.{EndpointType}
use Rattle.settings.specs.declared.settings.Settings.{Settings}
use Rattle.settings.specs.Settings.{pool_length}
use Rattle.pool.specs.Chains.{no_ask}
use Rattle.pool.specs.Places.{Within, packed, places_from}
use Rattle.pool.specs.Transfers.{ends_short}
use Rattle.pool.specs.Words.{AskWordsGood, no_ask_words}
use Rattle.pool.specs.declared.asked.AskWords.{AskWords}
use Rattle.pool.proofs.Each.{each_map}
use Rattle.pool.proofs.PlaceLaws.{places_within}
use Rattle.pool.proofs.WordLaws.{no_ask_words_good, no_places_lem}
use Rattle.words.specs.declared.cores.Rest.{Rest}
use Rattle.words.specs.Good.{Good}
use Rattle.words.specs.Record.{places_at}
use Rattle.words.specs.View.{state_of}
use Rattle.words.proofs.GoodLaws.{good_settings}
use Rattle.words.proofs.OwnerLaws.{owners_of}
use Rattle.words.proofs.PlacesLaws.{own_places}
use Rattle.token.specs.Chunks.{working_limit}
use Rattle.token.proofs.LimitLaws.{working_most}
use Rattle.pipe.specs.Endpoints.{endpoint_at, limit_of}
use Rattle.pipe.specs.declared.endpoints.Endpoint.{Endpoint}
use Rattle.pipe.specs.declared.endpoints.Endpoint.TheVariants.{Closed, Idle, Linked, Unlinking}
use Rattle.pipe.specs.declared.endpoints.Pipe.{Pipe}
use Rattle.pipe.specs.declared.endpoints.Request.{Request}
use Rattle.pipe.specs.declared.endpoints.UnlinkBoundary.{UnlinkBoundary}
use Rattle.pipe.proofs.WordsTells.{RequestAt, linked_at, unlinking_at}
use Rattle.collection.specs.Asks.{ask_if, ask_of, askable, request_ask}
use Rattle.collection.specs.Words.{ask_view, request_ask_words}
use Rattle.collection.proofs.WordsSlots.{slot_low}

-- the limit fits 32 bits
pub asked_limit : (k : EndpointType) (limit size l : ℕ) → l ≡ working_limit k limit size → limit ≤ 16384 → l < 2 ^ 32
asked_limit k limit size l e most = omega (arith, e, most, working_most k limit size)

pub asked_words : (s : Settings) (ws ps : List ℕ) (k l : ℕ) (p : Pipe) (q : Request) (stops : Bool) → ps ≡ places_at ws k → l ≡ limit_of s p
    → stops ≡ ends_short p.kind q.direction
    → ◌≡◌ {A = AskWords} (record { places = ps; kind = p.kind; length = q.length; limit = l; stops = stops }) (request_ask_words s ws k p q)
unfolding request_ask_words
asked_words s ws ps k l p q stops e el es = rw (e, el, es)

-- ---- nothing is asked

none_view : ask_view no_ask_words ≡ no_ask
unfolding no_ask_words no_ask
none_view = ap (λ (ps : List ℕ). record { places = packed ps; kind = no_ask_words.kind; length = 0; limit = 0; stops = false }) no_places_lem

none_if : (b : Bool) → ask_if b no_ask ≡ no_ask
none_if true = refl
none_if false = refl

pub none_asked_good : (n : ℕ) (a : AskWords) → a ≡ no_ask_words → AskWordsGood n a
none_asked_good n a e = subst (λ (x : AskWords). AskWordsGood n x) (sym e) (no_ask_words_good n)

-- ---- the places of a slot are places of the pool

set_within : (n : ℕ) (ps : List ℕ) → Within n ps → WithinSet n ps
set_within n [] w = tt
set_within n (p ∷ ps) w = (w.0, set_within n ps w.1)

pub ask_limit : (s : Settings) (r : Rest) (ws : List ℕ) → Good s r ws → s.limit ≤ 16384
ask_limit s r ws good = (good_settings s r ws good).limit_most

module _ (s : Settings) (r : Rest) (ws : List ℕ) (good : Good s r ws) (k : ℕ) where
  few : s.descriptors ≤ 256
  few = (good_settings s r ws good).descriptors_most

  own_set : places_from 0 (take s.descriptors (owners_of ws)) (k + 1) 256 ≡ set_places (places_at ws k)
  own_set = own_places s r ws good.tidy few (good_settings s r ws good).endpoints_most k

  own_within : WithinSet (pool_length s) (set_places (places_at ws k))
  own_within =
      subst (λ (ps : List ℕ). WithinSet (pool_length s) ps) own_set
      (set_within (pool_length s) (places_from 0 front (k + 1) 256)
      (each_map (λ (i : ℕ). i < length front) (λ (i : ℕ). i < pool_length s) (λ i h. omega (arith, h, length-take s.descriptors (owners_of ws)))
      (places_from 0 front (k + 1) 256) (places_within front (k + 1) 256)))
    where
      front : List ℕ
      front = take s.descriptors (owners_of ws)

  -- ---- the slot's request

  request_view : (p : Pipe) (q : Request) → ask_view (request_ask_words s ws k p q) ≡ request_ask (state_of s r ws) k p q
  unfolding request_ask_words request_ask state_of
  request_view p q =
      ap (λ (ps : List ℕ). record { places = packed ps; kind = p.kind; length = q.length; limit = limit_of s p; stops = ends_short p.kind q.direction }) (sym own_set)

  may_ask : k < s.endpoints → askable (state_of s r ws).settings (pool_length s) k ≡ true
  unfolding askable state_of
  may_ask here =
      rw (
        le-leb s.descriptors 256 few,
        eq-eqb (pool_length s) (pool_length s) refl,
        le-leb s.limit 16384 (ask_limit s r ws good),
        lt-ltb k 32 (slot_low s r ws good k here),
      )

  module _ (e : Endpoint) (ee : e ≡ endpoint_at (state_of s r ws) k) (a : AskWords) where
    pub asks_closed : e ≡ Closed → a ≡ no_ask_words → ask_view a ≡ ask_of (state_of s r ws) (pool_length s) k
    unfolding ask_of
    asks_closed h ea =
        ap (λ (x : AskWords). ask_view x) ea ∙ none_view ∙ rw (sym ee ∙ h) (sym (none_if (askable (state_of s r ws).settings (pool_length s) k)))

    pub asks_idle : (p : Pipe) → e ≡ Idle p → a ≡ no_ask_words → ask_view a ≡ ask_of (state_of s r ws) (pool_length s) k
    unfolding ask_of
    asks_idle p h ea =
        ap (λ (x : AskWords). ask_view x) ea ∙ none_view ∙ rw (sym ee ∙ h) (sym (none_if (askable (state_of s r ws).settings (pool_length s) k)))

    asks_request : (p : Pipe) (q : Request) → a ≡ request_ask_words s ws k p q → ask_view a ≡ request_ask (state_of s r ws) k p q
    asks_request p q ea = ap (λ (x : AskWords). ask_view x) ea ∙ request_view p q

    asked_good : (p : Pipe) (q : Request) → RequestAt s ws k p q → a ≡ request_ask_words s ws k p q → AskWordsGood (pool_length s) a
    unfolding request_ask_words
    asked_good p q at ea =
        rw ea
        (record {
          within = own_within;
          short = at.length_below;
          limited = omega (arith, working_most p.kind s.limit p.size, ask_limit s r ws good);
        })

    pub asks_linked : (p : Pipe) (q : Request) → e ≡ Linked p q → a ≡ request_ask_words s ws k p q
        → ask_view a ≡ ask_of (state_of s r ws) (pool_length s) k
    unfolding ask_of
    asks_linked p q h ea =
        asks_request p q ea ∙ rw (may_ask (linked_at s r ws good k p q (sym ee ∙ h)).request.within, sym ee ∙ h)

    pub linked_asks_good : (p : Pipe) (q : Request) → e ≡ Linked p q → a ≡ request_ask_words s ws k p q → AskWordsGood (pool_length s) a
    linked_asks_good p q h ea = asked_good p q (linked_at s r ws good k p q (sym ee ∙ h)).request ea

    pub asks_unlinking : (p : Pipe) (q : Request) (b : UnlinkBoundary) → e ≡ Unlinking p q b → a ≡ request_ask_words s ws k p q
        → ask_view a ≡ ask_of (state_of s r ws) (pool_length s) k
    unfolding ask_of
    asks_unlinking p q b h ea =
        asks_request p q ea ∙ rw (may_ask (unlinking_at s r ws good k p q b (sym ee ∙ h)).request.within, sym ee ∙ h)

    pub unlinking_asks_good : (p : Pipe) (q : Request) (b : UnlinkBoundary) → e ≡ Unlinking p q b → a ≡ request_ask_words s ws k p q
        → AskWordsGood (pool_length s) a
    unlinking_asks_good p q b h ea = asked_good p q (unlinking_at s r ws good k p q b (sym ee ∙ h)).request ea
