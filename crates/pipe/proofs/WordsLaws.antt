-- A slot's endpoint in the row: what is read there, and the state where one is written.
use Rattle.std.specs.Prelude.{◌≡◌, ℕ, ◌+◌, ◌*◌, ◌<◌, ◌≤◌, Bool, true, false, ltb, List, length}
use mathlib.Core.Path.{refl, sym, ◌∙◌}
use native.Mathlib.Omega.{arith}
use borrow.Author.Tests.{ltb-true, ltb-false}
use Rattle.settings.specs.declared.settings.Settings.{Settings}
use Rattle.slot.specs.declared.slot.Slot.{Slot}
use Rattle.words.specs.declared.cores.Rest.{Rest}
use Rattle.words.specs.Good.{Good, Tidy, no_places}
use Rattle.words.specs.Record.{SlotFits, last_at, phase_in, places_at, put_slot, slot_in, word_at}
use Rattle.words.specs.View.{state_of}
use Rattle.words.proofs.GoodLaws.{good_length, good_settings}
use Rattle.words.proofs.PutLaws.{view_put}
use Rattle.words.proofs.RowLaws.{word_beyond}
use Rattle.words.proofs.TidyLaws.{tidy_put}
use Rattle.words.proofs.ViewLaws.{view_slot}
use Rattle.pipe.specs.declared.endpoints.Endpoint.{Endpoint}
use Rattle.pipe.specs.declared.endpoints.Endpoint.TheVariants.{Closed, Idle, Linked, Unlinking}
use Rattle.pipe.specs.Endpoints.{boundary_of, decoded, encoded, endpoint_at, pipe_of, request_of, with_endpoint}
use Rattle.pipe.proofs.EndpointCases.{at_none, at_slot, decode_closed, decode_idle, decode_linked, decode_unlinking}

-- ---- reading

pub word_closed : (w last : ℕ) → phase_in w ≡ 0 → decoded (slot_in w last) ≡ Closed
unfolding slot_in
word_closed w last z =
    sym (decode_closed (slot_in w last) (λ q. omega (arith, q, z)) (λ q. omega (arith, q, z)) (λ q. omega (arith, q, z)))

module _ (w last : ℕ) where
  pub word_idle : phase_in w ≡ 1 → decoded (slot_in w last) ≡ Idle (pipe_of (slot_in w last))
  unfolding slot_in
  word_idle p = sym (decode_idle (slot_in w last) (pipe_of (slot_in w last)) p refl)

  pub word_linked : phase_in w ≡ 2 → decoded (slot_in w last) ≡ Linked (pipe_of (slot_in w last)) (request_of (slot_in w last))
  unfolding slot_in
  word_linked p = sym (decode_linked (slot_in w last) (pipe_of (slot_in w last)) (request_of (slot_in w last)) p refl refl)

  pub word_unlinking : phase_in w ≡ 3
      → decoded (slot_in w last) ≡ Unlinking (pipe_of (slot_in w last)) (request_of (slot_in w last)) (boundary_of (slot_in w last))
  unfolding slot_in
  word_unlinking p =
      sym
      (decode_unlinking (slot_in w last) (pipe_of (slot_in w last)) (request_of (slot_in w last)) (boundary_of (slot_in w last)) p refl refl refl)

module _ (s : Settings) (r : Rest) (ws : List ℕ) where
  -- in a row of at most 32 slots
  pub endpoint_view : (k : ℕ) → length ws ≤ 192
      → endpoint_at (state_of s r ws) k ≡ decoded (slot_in (word_at ws k) (last_at ws k))
  endpoint_view k short = go (ltb k 32) refl
    where
      go : (b : Bool) → ltb k 32 ≡ b → endpoint_at (state_of s r ws) k ≡ decoded (slot_in (word_at ws k) (last_at ws k))
      go true t =
          sym
          (at_slot (state_of s r ws) k (slot_in (word_at ws k) (last_at ws k)) (decoded (slot_in (word_at ws k) (last_at ws k))) (ltb-true k 32 t)
          (sym (view_slot s r ws k (ltb-true k 32 t))) refl)
      go false t =
          let z : word_at ws k ≡ 0 = word_beyond ws k (omega (arith, short, ltb-false k 32 t)) in
          sym (at_none (state_of s r ws) k (ltb-false k 32 t))
          ∙ sym (word_closed (word_at ws k) (last_at ws k) (omega (arith, z)))

  pub good_short : Good s r ws → length ws ≤ 192
  good_short good = omega (arith, good_length s r ws good, (good_settings s r ws good).endpoints_most)

  pub good_endpoint : Good s r ws → (k : ℕ) → endpoint_at (state_of s r ws) k ≡ decoded (slot_in (word_at ws k) (last_at ws k))
  good_endpoint good k = endpoint_view k (good_short good)

-- ---- writing

pub view_endpoint_put : (ws : List ℕ) (k : ℕ) (e : Endpoint) → k < 32 → 6 * k + 6 ≤ length ws → SlotFits (encoded e)
    → (s : Settings) (r : Rest) → state_of s r (put_slot ws k (encoded e)) ≡ with_endpoint (state_of s r ws) k e
unfolding with_endpoint
view_endpoint_put ws k e below room fits s r = view_put ws k (encoded e) below room fits s r

bare_one : (e : Endpoint) → (encoded e).phase ≡ 0 → (encoded e).id ≡ 1
bare_one Closed z = refl
bare_one (Idle p) z = absurd (omega (arith, z))
bare_one (Linked p q) z = absurd (omega (arith, z))
bare_one (Unlinking p q b) z = absurd (omega (arith, z))

-- an endpoint without a request is put only where the slot has no places
pub tidy_endpoint_put : (ws : List ℕ) (k : ℕ) (e : Endpoint) → 6 * k + 6 ≤ length ws → SlotFits (encoded e) → (s : Settings) (r : Rest)
    → ((encoded e).phase < 2 → places_at ws k ≡ no_places) → Tidy s r ws → Tidy s r (put_slot ws k (encoded e))
tidy_endpoint_put ws k e room fits s r none t = tidy_put ws k (encoded e) room fits s r (bare_one e) none t

-- ---- `endpoint_at`

module _ (s : Settings) (r : Rest) (ws : List ℕ) (k : ℕ) where
  pub endpoint_of_lem : (e : Slot) (x : Endpoint) → Good s r ws → e ≡ slot_in (word_at ws k) (last_at ws k) → x ≡ decoded e
      → x ≡ endpoint_at (state_of s r ws) k
  endpoint_of_lem e x good ee ex = ex ∙ rw ee (sym (good_endpoint s r ws good k))

-- ---- `put_endpoint`

module _ (x : Endpoint) (e : Slot) (ee : e ≡ encoded x) where
  pub encoded_fits : SlotFits (encoded x) → SlotFits e
  encoded_fits fits = rw ee fits

  pub put_encoded : (ws out : List ℕ) (k : ℕ) → out ≡ put_slot ws k e → out ≡ put_slot ws k (encoded x)
  put_encoded ws out k eo = eo ∙ rw ee
