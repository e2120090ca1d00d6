-- The limit of a slot's chunks: at least 1 and at most C in a state in its ranges, and the same in the words.
use Rattle.std.specs.Prelude.{◌≡◌, ℕ, ◌<◌, ◌≤◌, Bool, true, false, ltb, ◌≢◌, List, get_or}
use mathlib.Core.Path.{refl, sym, ap, ◌∙◌}
use native.Mathlib.Decide.{ℕ_discrete as dec_eq}
use native.Mathlib.Omega.{arith}
use borrow.Author.Tests.{ltb-true, ltb-false}
use lib.ListN.{get_or-eq_default}
use Rattle.common.specs.declared.kinds.EndpointType.TheVariants.{Control}
use Rattle.settings.specs.declared.settings.Settings.{Settings}
use Rattle.slot.specs.declared.slot.Slot.{Slot}
use Rattle.slot.proofs.SlotLaws.{Phase, SlotGood, slot_tells}
use Rattle.state.specs.Plain.{Ehci}
use Rattle.state.specs.Slots.{slot_at}
use Rattle.state.proofs.RangesLaws.{Ranges}
use Rattle.token.specs.Chunks.{working_limit}
use Rattle.token.proofs.LimitLaws.{working_fits, working_most}
use Rattle.words.specs.declared.cores.Rest.{Rest}
use Rattle.words.specs.Good.{Good}
use Rattle.words.specs.Record.{kind_in, last_at, slot_in, word_at}
use Rattle.words.specs.View.{each_from, state_of}
use Rattle.words.proofs.Each.{each_length}
use Rattle.words.proofs.GoodLaws.{good_beyond, good_settings, good_slot_tells}
use Rattle.words.proofs.ViewLaws.{view_slot}
use Rattle.pipe.specs.Endpoints.{kind_number, kind_of, limit_at, limit_of, pipe_of}
use Rattle.pipe.proofs.EndpointLaws.{kind_back}

-- ---- of a good slot

control_zero : (n : ℕ) → n ≡ 0 → kind_of n ≡ Control
control_zero n z = rw z

never_control : (n : ℕ) → n ≤ 3 → n ≢ 0 → kind_of n ≢ Control
never_control n most ne q = ne (sym (kind_back n most) ∙ ap kind_number q)

module _ (E limit k u : ℕ) (least : 1 ≤ limit) (e : Slot) (good : SlotGood E limit k u e) where
  by_kind : Dec (e.kind ≡ 0) → e.phase ≢ 0 → e.kind ≤ 3 → 1 ≤ working_limit (kind_of e.kind) limit e.size
  by_kind (yes z) opened most = rw (control_zero e.kind z) least
  by_kind (no n) opened most =
      let sized = good.size_open opened in
      omega (
        arith,
        sized.size_least,
        working_fits limit e.size sized.size_least (kind_of e.kind) (never_control e.kind most n) (sized.size_fits n),
      )

  pub slot_limit : 1 ≤ working_limit (kind_of e.kind) limit e.size
  slot_limit = by good.by_phase
    where
      by : Phase e u → 1 ≤ working_limit (kind_of e.kind) limit e.size
      by (Phase.closed p z i n) = rw (control_zero e.kind z) least
      by (Phase.idle p o n) = by_kind (dec_eq e.kind 0) (λ z. omega (arith, p, z)) o.most
      by (Phase.linked p o r d c b) = by_kind (dec_eq e.kind 0) (λ z. omega (arith, p, z)) o.most
      by (Phase.unlinking p o r d c b) = by_kind (dec_eq e.kind 0) (λ z. omega (arith, p, z)) o.most

-- ---- of a state

module _ (s : Ehci) (r : Ranges s) where
  pub limit_least : (k : ℕ) → k < 32 → 1 ≤ limit_at s k
  limit_least k h =
      slot_limit s.settings.endpoints s.settings.limit k s.unanswered r.good.limit_least (slot_at s k)
      (slot_tells s.settings.endpoints s.settings.limit k s.unanswered (slot_at s k) (r.slots k h))

  pub limit_most : (k : ℕ) → limit_at s k ≤ 16384
  limit_most k =
      omega (arith, working_most (kind_of (slot_at s k).kind) s.settings.limit (slot_at s k).size, r.good.limit_most)

-- ---- in words

module _ (s : Settings) (r : Rest) (ws : List ℕ) (good : Good s r ws) (k : ℕ) where
  abbrev word_limit : ℕ
  word_limit = limit_of s (pipe_of (slot_in (word_at ws k) (last_at ws k)))

  -- beyond the row there is no slot, and no kind
  beyond_word : 32 ≤ k → word_limit ≡ s.limit
  unfolding slot_in
  beyond_word h =
      let z : word_at ws k ≡ 0 = good_beyond s r ws good k (omega (arith, h, (good_settings s r ws good).endpoints_most)) in
      rw z

  beyond_state : 32 ≤ k → limit_at (state_of s r ws) k ≡ s.limit
  unfolding slot_at state_of
  beyond_state h = rw none
    where
      none : get_or (each_from (λ j. kind_in (word_at ws j)) 0 32) k 0 ≡ 0
      none = get_or-eq_default (each_from (λ j. kind_in (word_at ws j)) 0 32) 0 (omega (arith, h, each_length (λ j. kind_in (word_at ws j)) 0 32))

  settled : limit_of s (pipe_of (slot_at (state_of s r ws) k)) ≡ limit_at (state_of s r ws) k
  unfolding state_of
  settled = refl

  pub limit_view : word_limit ≡ limit_at (state_of s r ws) k
  limit_view = go (ltb k 32) refl
    where
      go : (b : Bool) → ltb k 32 ≡ b → word_limit ≡ limit_at (state_of s r ws) k
      go true t = ap (λ (e : Slot). limit_of s (pipe_of e)) (sym (view_slot s r ws k (ltb-true k 32 t))) ∙ settled
      go false t = beyond_word (ltb-false k 32 t) ∙ sym (beyond_state (ltb-false k 32 t))

  pub word_limit_least : 1 ≤ word_limit
  word_limit_least = go (ltb k 32) refl
    where
      go : (b : Bool) → ltb k 32 ≡ b → 1 ≤ word_limit
      go true t =
          slot_limit s.endpoints s.limit k r.unanswered (good_settings s r ws good).limit_least (slot_in (word_at ws k) (last_at ws k))
          (good_slot_tells s r ws good k (ltb-true k 32 t))
      go false t = omega (arith, beyond_word (ltb-false k 32 t), (good_settings s r ws good).limit_least)
