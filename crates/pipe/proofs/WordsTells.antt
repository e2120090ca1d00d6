-- What an endpoint that is read from a good row tells of its slot's words, and the slot that it is of.
use Rattle.std.specs.Prelude.{◌≡◌, ℕ, ◌<◌, ◌≤◌, Bool, true, false, ltb, leb, ◌≢◌, List}
use mathlib.Core.Path.{refl, sym, ap, subst, ◌∙◌}
use native.Mathlib.Omega.{arith}
use borrow.Author.Tests.{leb-false, leb-true, ltb-true, ltb-false}
use Rattle.settings.specs.declared.settings.Settings.{Settings}
use Rattle.slot.specs.Ids.{after_id}
use Rattle.slot.specs.declared.slot.Slot.{Slot}
use Rattle.slot.proofs.SlotLaws.{Phase}
use Rattle.words.specs.declared.cores.Rest.{Rest}
use Rattle.words.specs.Good.{Good, no_places}
use Rattle.words.specs.Record.{boundary_in, id_in, kind_in, last_at, length_in, phase_in, places_at, size_in, slot_in, toggle_in, word_at}
use Rattle.words.specs.View.{state_of}
use Rattle.words.proofs.FitLaws.{id_one}
use Rattle.words.proofs.GoodLaws.{good_beyond, good_boundary, good_settings, good_slot, good_slot_tells}
use Rattle.words.proofs.RecordCases.{request_own}
use Rattle.pipe.specs.declared.endpoints.Endpoint.{Endpoint}
use Rattle.pipe.specs.declared.endpoints.Endpoint.TheVariants.{Closed, Idle, Linked, Unlinking}
use Rattle.pipe.specs.declared.endpoints.Pipe.{Pipe}
use Rattle.pipe.specs.declared.endpoints.Request.{Request}
use Rattle.pipe.specs.declared.endpoints.UnlinkBoundary.{UnlinkBoundary}
use Rattle.pipe.specs.Endpoints.{boundary_number, boundary_of, decoded, endpoint_at, flag_of, kind_number, pipe_of, request_of}
use Rattle.pipe.proofs.EndpointLaws.{EndpointGood, LinkedGood, OpenPipe, UnlinkingGood, boundary_back, endpoint_tells, kind_back}
use Rattle.pipe.proofs.WordsLaws.{good_endpoint, word_closed, word_idle, word_linked, word_unlinking}

-- ---- the facts

pub record IdleAt (s : Settings) (ws : List ℕ) (k : ℕ) (p : Pipe) : Type 0 where
  pub within : k < s.endpoints
  pub phase : phase_in (word_at ws k) ≡ 1
  pub kind : kind_number p.kind ≡ kind_in (word_at ws k)
  pub size : p.size ≡ size_in (word_at ws k)
  pub toggle : p.toggle ≡ flag_of (toggle_in (word_at ws k))
  pub next : p.next ≡ id_in (last_at ws k)
  pub next_least : 1 ≤ p.next
  pub good : OpenPipe s.limit p
  pub empty : places_at ws k ≡ no_places

-- a slot's own request
pub record RequestAt (s : Settings) (ws : List ℕ) (k : ℕ) (p : Pipe) (q : Request) : Type 0 where
  pub within : k < s.endpoints
  pub kind : kind_number p.kind ≡ kind_in (word_at ws k)
  pub size : p.size ≡ size_in (word_at ws k)
  pub toggle : p.toggle ≡ flag_of (toggle_in (word_at ws k))
  pub own : p.next ≡ after_id q.id
  pub last : q.id ≡ last_at ws k
  pub next_least : 1 ≤ p.next
  pub id_least : 1 ≤ q.id
  pub length : q.length ≡ length_in (word_at ws k)
  pub length_below : q.length < 0x1_0000_0000

pub record LinkedAt (s : Settings) (ws : List ℕ) (k : ℕ) (p : Pipe) (q : Request) : Type 0 where
  pub request : RequestAt s ws k p q
  pub phase : phase_in (word_at ws k) ≡ 2
  pub good : LinkedGood s.limit p q

pub record UnlinkingAt (s : Settings) (r : Rest) (ws : List ℕ) (k : ℕ) (p : Pipe) (q : Request) (b : UnlinkBoundary) : Type 0 where
  pub request : RequestAt s ws k p q
  pub phase : phase_in (word_at ws k) ≡ 3
  pub boundary : boundary_number b ≡ boundary_in (word_at ws k)
  pub boundary_below : boundary_number b < 16384
  pub good : UnlinkingGood s.limit r.unanswered p q b

abbrev pub EndpointAt : Settings → Rest → List ℕ → ℕ → Endpoint → Type 0
EndpointAt s r ws k Closed = phase_in (word_at ws k) ≡ 0
EndpointAt s r ws k (Idle p) = IdleAt s ws k p
EndpointAt s r ws k (Linked p q) = LinkedAt s ws k p q
EndpointAt s r ws k (Unlinking p q b) = UnlinkingAt s r ws k p q b

module _ (s : Settings) (r : Rest) (ws : List ℕ) (good : Good s r ws) (k : ℕ) where
  -- ---- a slot that is not closed is one of the row's

  pub open_within : phase_in (word_at ws k) ≢ 0 → k < s.endpoints
  open_within ne = go (leb s.endpoints k) refl
    where
      go : (b : Bool) → leb s.endpoints k ≡ b → k < s.endpoints
      go true t = absurd (ne (omega (arith, good_beyond s r ws good k (leb-true s.endpoints k t))))
      go false t = leb-false s.endpoints k t

  -- ---- by what the slot has

  abbrev slot : Slot
  slot = slot_in (word_at ws k) (last_at ws k)

  module _ (below : k < 32) where
    tells_good : (x : Endpoint) → decoded slot ≡ x → EndpointGood s.limit r.unanswered x
    tells_good x e =
        subst (λ (y : Endpoint). EndpointGood s.limit r.unanswered y) e
        (endpoint_tells s.endpoints s.limit k r.unanswered slot (good_slot s r ws good k below))

    idle_slot : phase_in (word_at ws k) ≡ 1 → kind_in (word_at ws k) ≤ 3 → IdleAt s ws k (pipe_of slot)
    unfolding slot_in
    idle_slot p m =
        let here : k < s.endpoints = open_within (λ z. omega (arith, z, p)) in
        record {
          within = here;
          phase = p;
          kind = kind_back (kind_in (word_at ws k)) m;
          size = refl;
          toggle = refl;
          next = refl;
          next_least = id_one (last_at ws k);
          good = tells_good (Idle (pipe_of slot)) (word_idle (word_at ws k) (last_at ws k) p);
          empty = (good.tidy.held k here).empty (omega (arith, p));
        }

    request_slot : 2 ≤ phase_in (word_at ws k) → kind_in (word_at ws k) ≤ 3 → 1 ≤ slot.request
        → RequestAt s ws k (pipe_of slot) (request_of slot)
    unfolding slot_in
    request_slot h m least =
        let own : last_at ws k ≡ slot.request = request_own (phase_in (word_at ws k)) (last_at ws k) h in
        record {
          within = open_within (λ z. omega (arith, z, h));
          kind = kind_back (kind_in (word_at ws k)) m;
          size = refl;
          toggle = refl;
          own = ap after_id own;
          last = sym own;
          next_least = id_one (last_at ws k);
          id_least = least;
          length = refl;
          length_below = omega arith;
        }

    linked_slot : phase_in (word_at ws k) ≡ 2 → kind_in (word_at ws k) ≤ 3 → 1 ≤ slot.request
        → LinkedAt s ws k (pipe_of slot) (request_of slot)
    linked_slot p m least =
        record {
          request = request_slot (omega (arith, p)) m least;
          phase = p;
          good = tells_good (Linked (pipe_of slot) (request_of slot)) (word_linked (word_at ws k) (last_at ws k) p);
        }

    boundary_slot : boundary_number (boundary_of slot) ≡ boundary_in (word_at ws k)
    unfolding slot_in
    boundary_slot = boundary_back slot

    unlinking_slot : phase_in (word_at ws k) ≡ 3 → kind_in (word_at ws k) ≤ 3 → 1 ≤ slot.request
        → UnlinkingAt s r ws k (pipe_of slot) (request_of slot) (boundary_of slot)
    unlinking_slot p m least =
        record {
          request = request_slot (omega (arith, p)) m least;
          phase = p;
          boundary = boundary_slot;
          boundary_below = omega (arith, boundary_slot, good_boundary s r ws good k);
          good =
              tells_good (Unlinking (pipe_of slot) (request_of slot) (boundary_of slot)) (word_unlinking (word_at ws k) (last_at ws k) p);
        }

    by_phase : Phase slot r.unanswered → EndpointAt s r ws k (decoded slot)
    unfolding slot_in
    by_phase (Phase.closed p _ _ _) =
        subst (λ (x : Endpoint). EndpointAt s r ws k x) (sym (word_closed (word_at ws k) (last_at ws k) p)) p
    by_phase (Phase.idle p o _) =
        subst (λ (x : Endpoint). EndpointAt s r ws k x) (sym (word_idle (word_at ws k) (last_at ws k) p)) (idle_slot p o.most)
    by_phase (Phase.linked p o q _ _ _) =
        subst (λ (x : Endpoint). EndpointAt s r ws k x) (sym (word_linked (word_at ws k) (last_at ws k) p))
        (linked_slot p o.most q)
    by_phase (Phase.unlinking p o q _ _ _) =
        subst (λ (x : Endpoint). EndpointAt s r ws k x) (sym (word_unlinking (word_at ws k) (last_at ws k) p))
        (unlinking_slot p o.most q)

  slot_at_lem : EndpointAt s r ws k (decoded slot)
  slot_at_lem = go (ltb k 32) refl
    where
      go : (b : Bool) → ltb k 32 ≡ b → EndpointAt s r ws k (decoded slot)
      go true t = by_phase (ltb-true k 32 t) (good_slot_tells s r ws good k (ltb-true k 32 t)).by_phase
      go false t =
          let z : word_at ws k ≡ 0 = good_beyond s r ws good k (omega (arith, ltb-false k 32 t, (good_settings s r ws good).endpoints_most)) in
          let p : phase_in (word_at ws k) ≡ 0 = omega (arith, z) in
          subst (λ (x : Endpoint). EndpointAt s r ws k x) (sym (word_closed (word_at ws k) (last_at ws k) p)) p

  -- ---- of the state's endpoint

  pub endpoint_says : (x : Endpoint) → endpoint_at (state_of s r ws) k ≡ x → EndpointAt s r ws k x
  endpoint_says x e =
      subst (λ (y : Endpoint). EndpointAt s r ws k y) (sym (good_endpoint s r ws good k) ∙ e) slot_at_lem

  pub closed_at_lem : endpoint_at (state_of s r ws) k ≡ Closed → phase_in (word_at ws k) ≡ 0
  closed_at_lem e = endpoint_says Closed e

  pub linked_at : (p : Pipe) (q : Request) → endpoint_at (state_of s r ws) k ≡ Linked p q → LinkedAt s ws k p q
  linked_at p q e = endpoint_says (Linked p q) e

  pub unlinking_at : (p : Pipe) (q : Request) (b : UnlinkBoundary) → endpoint_at (state_of s r ws) k ≡ Unlinking p q b
      → UnlinkingAt s r ws k p q b
  unlinking_at p q b e = endpoint_says (Unlinking p q b) e
  -- ---- and of its words
