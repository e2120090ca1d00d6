-- What a submit asks of a state is what it asks of the history.
use Prim.Native.Nat.{ℕ, ◌+◌}
use mathlib.Core.Bool.{Bool, true, false, not}
use mathlib.Core.List.{List, [], ◌∷◌, map}
use mathlib.Core.Path.{◌≡◌, refl, sym, ap, subst, ◌∙◌}
use native.Mathlib.Decide.{ℕ_discrete as dec_eq}
use native.Mathlib.Omega.{arith}
use borrow.Author.Tests.{eq-eqb, le-ltb, lt-ltb, ltb-false, ltb-true, ne_eqb, eqb-true}
use lib.Dec.{eqb, ltb}
use lib.ListN.{take}
use Rattle.settings.specs.declared.settings.Settings.{Settings}
use Rattle.common.proofs.TestLaws.{false_true}
use Rattle.state.specs.Slots.{slot_at}
use Rattle.state.specs.Plain.{Ehci}
use Rattle.common.specs.Answers.{first}
use Rattle.pipe.specs.Endpoints.{endpoint_at, flag_number, kind_number, kind_of, limit_at}
use Rattle.pipe.specs.declared.endpoints.Endpoint.{Endpoint}
use Rattle.pipe.specs.declared.endpoints.Endpoint.TheVariants.{Closed, Idle, Linked, Unlinking}
use Rattle.pipe.proofs.EndpointLaws.{kind_back, kind_there}
use Rattle.controller.specs.Readers.{free_count, has_endpoint, holds_request, is_opened, is_uncollected}
use Rattle.controller.proofs.FreeLaws.{zeros_are}
use Rattle.controller.proofs.ReaderLaws.{open_below}
use Rattle.request.specs.Submit.{need_of_request, submit_checks, ranges_good}
use Rattle.request.specs.declared.judge.TransferRequest.{TransferRequest}
use Rattle.promises.specs.Runs.{History, World}
use Rattle.promises.specs.Walks.{is_in}
use Rattle.promises.specs.Uses.{Use, needs, uses}
use Rattle.promises.specs.Rooms.{Every}
use Rattle.promises.specs.Opened.{has_kind, is_busy, is_shut, kind_in, submit_asks, wanted}
use Rattle.promises.specs.Slots.{runs_in, slot_in, limit_in}
use Rattle.promises.proofs.invariants.Sound.{Sound}
use Rattle.promises.proofs.invariants.UseInv.{Avoids, Held, Nobody, Tenant, Waits, every_map, tenant_at, tenant_of}
use Rattle.promises.proofs.invariants.OpenedInv.{Told, kind_slot}
use Rattle.promises.proofs.effects.EffectRanges.{kind_most}
use Rattle.promises.specs.SubmitOrder.{submit_order}
use Rattle.token.specs.Chunks.{need_of, working_limit}
use Rattle.promises.proofs.invariants.UseAccepts.{told_size}
use Rattle.common.specs.declared.kinds.EndpointType.{EndpointType}
use Rattle.common.specs.Kinds.{is_isochronous}

-- ---- an uncollected request

abbrev is_somebody : Tenant → Bool
is_somebody Nobody = false
is_somebody (Waits kind z id d n) = true

somebody_holds : (x : Endpoint) → is_somebody (tenant_of x) ≡ holds_request x
somebody_holds Closed = refl
somebody_holds (Idle p) = refl
somebody_holds (Linked p r) = refl
somebody_holds (Unlinking p r b) = refl

-- a slot that is none of the uses'
pub out_of_uses : (k : ℕ) (us : List Use) → is_in k (map (λ u. u.slot) us) ≡ false → Avoids k us
out_of_uses k [] e = tt
out_of_uses k (u ∷ us) e = by (dec_eq u.slot k) (λ q. out_of_uses k us q)
  where
    by : Dec (u.slot ≡ k) → (is_in k (map (λ u. u.slot) us) ≡ false → Avoids k us) → Avoids k (u ∷ us)
    by (yes q) rest = absurd (false_true (sym e ∙ rw (eq-eqb u.slot k q)))
    by (no ne) rest = (ne, rest (rw (ne_eqb u.slot k ne) at e))

-- what holds of every use's slot holds of one of them
among_uses : (P : ℕ → Type 0) (k : ℕ) (us : List Use) → is_in k (map (λ u. u.slot) us) ≡ true → Every (λ u. P u.slot) us → P k
among_uses P k [] e each = absurd (false_true e)
among_uses P k (u ∷ us) e each = by (dec_eq u.slot k) (λ q. among_uses P k us q each.1)
  where
    by : Dec (u.slot ≡ k) → (is_in k (map (λ u. u.slot) us) ≡ true → P k) → P k
    by (yes q) rest = subst P q each.0
    by (no ne) rest = rest (rw (ne_eqb u.slot k ne) at e)

pub held_is : (s : Settings) (h : History) (w : World) → Held s h w → (k : ℕ) → is_busy s h k ≡ is_uncollected w.state k
held_is s h w held k = by (is_busy s h k) refl ∙ somebody_holds (endpoint_at w.state k)
  where
    by : (b : Bool) → is_busy s h k ≡ b → is_busy s h k ≡ is_somebody (tenant_at w.state k)
    by true e =
        e
        ∙ sym
        (among_uses (λ (j : ℕ). is_somebody (tenant_at w.state j) ≡ true) k (uses s h) e
        (every_map _ (λ u. is_somebody (tenant_at w.state u.slot) ≡ true) (λ u kept. ap is_somebody kept.holds) (uses s h) held.each))
    by false e = e ∙ sym (ap is_somebody (held.rest k (out_of_uses k (uses s h) e)).0)

-- ---- slots and running

shut_kind : (x : Endpoint) → is_shut (kind_in x) ≡ not (has_endpoint x)
shut_kind Closed = refl
shut_kind (Idle p) = refl
shut_kind (Linked p r) = refl
shut_kind (Unlinking p r b) = refl

flag_zero : (b : Bool) → not b ≡ eqb (flag_number b) 0
flag_zero true = refl
flag_zero false = refl

-- ---- room

room_is : (free used all need : ℕ) → free + used ≡ all → ltb all (used + need) ≡ ltb free need
room_is free used all need e = by (ltb free need) refl
  where
    by : (b : Bool) → ltb free need ≡ b → ltb all (used + need) ≡ ltb free need
    by true q = lt-ltb all (used + need) (omega (arith, e, ltb-true free need q)) ∙ sym q
    by false q = le-ltb all (used + need) (omega (arith, e, ltb-false free need q)) ∙ sym q

-- a request of another kind is refused before the room is asked
kind_decides : (shut stopped busy never bad : Bool) (lacks other : Bool)
    → first (submit_order shut stopped busy never true bad lacks) ≡ first (submit_order shut stopped busy never true bad other)
kind_decides true stopped busy never bad lacks other = refl
kind_decides false true busy never bad lacks other = refl
kind_decides false false true never bad lacks other = refl
kind_decides false false false true bad lacks other = refl
kind_decides false false false false bad lacks other = refl

-- ---- the verdict

module _ (h : History) (w : World) (sound : Sound w.state.settings w) (held : Held w.state.settings h w) (told : Told h w.state) where
  abbrev s : Settings
  s = w.state.settings

  abbrev st : Ehci
  st = w.state

  pub free_is : free_count st + needs s (uses s h) ≡ s.descriptors
  unfolding free_count
  free_is = omega (arith, zeros_are (take s.descriptors st.owner), held.room)

  module _ (k : ℕ) (t : TransferRequest) where
    kind_is : is_opened st k ≡ true → has_kind t.kind (slot_in k h) ≡ eqb (kind_number t.kind) (slot_at st k).kind
    kind_is o =
        ap (has_kind t.kind) (told.slots k ∙ kind_slot st k o)
        ∙ ap (eqb (kind_number t.kind))
        (kind_back (slot_at st k).kind (kind_most st sound.ranges k (open_below st k o)))

    pub asks_told : first (submit_asks s h k t) ≡ first (submit_checks st k t)
    asks_told = by (is_opened st k) refl
      where
        shut : is_shut (slot_in k h) ≡ not (is_opened st k)
        shut = ap is_shut (told.slots k) ∙ shut_kind (endpoint_at st k)

        runs : not (runs_in h) ≡ eqb st.running 0
        runs = flag_zero (runs_in h) ∙ sym (ap (λ (n : ℕ). eqb n 0) told.runs)

        -- of a request of the slot's kind
        limit : is_opened st k ≡ true → kind_number t.kind ≡ (slot_at st k).kind → limit_in s h k t ≡ limit_at st k
        limit o e =
            ap (working_limit t.kind s.limit) (told_size h st k told o)
            ∙ ap (λ (y : EndpointType). working_limit y s.limit (slot_at st k).size) (sym (kind_there t.kind) ∙ ap (λ (n : ℕ). kind_of n) e)

        room : is_opened st k ≡ true → kind_number t.kind ≡ (slot_at st k).kind → ltb s.descriptors (wanted s h k t) ≡ ltb (free_count st) (need_of_request st k t)
        room o e =
            ap (λ (n : ℕ). ltb s.descriptors (needs s (uses s h) + need_of t.kind t.length n)) (limit o e)
            ∙ room_is (free_count st) (needs s (uses s h)) s.descriptors (need_of_request st k t) free_is

        same_kind : is_opened st k ≡ true → (b : Bool) → eqb (kind_number t.kind) (slot_at st k).kind ≡ b → first (submit_asks s h k t) ≡ first (submit_checks st k t)
        same_kind o true e =
            rw (shut, runs, held_is s h w held k, kind_is o, room o (eqb-true (kind_number t.kind) (slot_at st k).kind e))
        same_kind o false e =
            rw (shut, runs, held_is s h w held k, kind_is o, e)
            (kind_decides (not (is_opened st k)) (eqb st.running 0) (is_uncollected st k) (is_isochronous t.kind) (not (ranges_good t))
            (ltb s.descriptors (wanted s h k t)) (ltb (free_count st) (need_of_request st k t)))

        by : (o : Bool) → is_opened st k ≡ o → first (submit_asks s h k t) ≡ first (submit_checks st k t)
        by true q = same_kind q (eqb (kind_number t.kind) (slot_at st k).kind) refl
        by false q = rw (shut, q)
