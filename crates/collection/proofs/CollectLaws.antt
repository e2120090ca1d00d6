-- What a collect that passes leaves, what a collect that waits leaves, and what the answers say.
use Rattle.std.specs.Prelude.{◌≡◌, ℕ, ◌+◌, ◌-◌, ◌*◌, ◌<◌, ◌≤◌, Bool, true, false, eqb, ◌≢◌, List, [], length, get_or, take, Err, Ok, Result}
use mathlib.Core.Path.{refl, sym, ap, ◌∙◌}
use native.Mathlib.Decide.{ℕ_discrete as dec_eq}
use native.Mathlib.Omega.{arith}
use Rattle.pool.specs.Chains.{Seen, first_error, length_of, retried_of, view_of}
use Rattle.pool.specs.Places.{clear_of, places_from}
use Rattle.pool.specs.declared.chain.View.{View}
use Rattle.pool.proofs.PlaceLaws.{clear_none, clear_others, places_none}
use Rattle.state.specs.Plain.{Ehci}
use Rattle.state.specs.Slots.{with_slot}
use Rattle.state.specs.State.{with_owner}
use Rattle.pipe.specs.Endpoints.{endpoint_at, with_endpoint}
use Rattle.controller.specs.Lent.{accepts_of, lengths}
use Rattle.opening.specs.Heads.{head_word}
use Rattle.common.specs.Rows.{put_at}
use Rattle.pipe.specs.declared.endpoints.Endpoint.TheVariants.{Idle, Unlinking}
use Rattle.pipe.specs.declared.endpoints.Pipe.{Pipe}
use Rattle.pipe.specs.declared.endpoints.Request.{Request}
use Rattle.pipe.specs.declared.endpoints.UnlinkBoundary.{UnlinkBoundary}
use Rattle.controller.specs.declared.lent.Readings.{Readings}
use Rattle.pipe.proofs.EndpointLaws.{Wide, endpoint_same, owner_wide}
use Rattle.common.proofs.RowLaws.{put_before, put_behind, put_inside, put_length}
use Rattle.schedule.specs.Links.{ended_overlay, ended_words}
use Rattle.collection.specs.declared.collected.Collected.TheVariants.{Complete, Pending, Cancelled, Failed}
use Rattle.collection.specs.declared.collected.Completion.{Completion}
use Rattle.collection.specs.Answers.{collected_number, outcome_of, pending_collect}
use Rattle.collection.specs.Unlinks.{passed_boundary}
use Rattle.collection.specs.Calls.{Gathered, collect_of, finish_of, freed, gathered, keeping}
use Rattle.collection.proofs.CallCases.{collect_ends, unlinking_ends, unlinking_waits}
use Rattle.collection.proofs.FreedLaws.{freed_front}
use Rattle.collection.specs.declared.collected.Collected.{Collected}
use Rattle.common.specs.declared.answer.Refusal.{Refusal}

-- ---- the head of a collected request

module _ (h : List ℕ) (k : ℕ) (fits : 17 * (k + 1) + 17 ≤ length h) where
  room : 17 * (k + 1) + 3 + length ended_words ≤ length h
  room = omega (arith, fits)

  -- current 0, next 1, alternate 1, the rest 0
  pub ended_words_lem : (j : ℕ) → j < 14 → head_word (ended_overlay h k) (k + 1) (3 + j) ≡ get_or ended_words j 0
  unfolding ended_overlay
  ended_words_lem j l =
      let same : 17 * (k + 1) + (3 + j) ≡ 17 * (k + 1) + 3 + j = omega arith in
      ap (λ (i : ℕ). get_or (put_at h (17 * (k + 1) + 3) ended_words) i 0) same ∙ put_inside h (17 * (k + 1) + 3) ended_words room j l

  -- its link, characteristics and capabilities stay, and so does every other head
  pub ended_others : (i : ℕ) → (17 * (k + 1) + 3 ≤ i → i < 17 * (k + 1) + 17 → ⊥) → get_or (ended_overlay h k) i 0 ≡ get_or h i 0
  unfolding ended_overlay
  ended_others i out = by (dec_eq (i - (17 * (k + 1) + 2)) 0)
    where
      by : Dec (i - (17 * (k + 1) + 2) ≡ 0) → get_or (put_at h (17 * (k + 1) + 3) ended_words) i 0 ≡ get_or h i 0
      by (yes e) = put_before h (17 * (k + 1) + 3) ended_words room i (omega (arith, e))
      by (no n) =
          let from : 17 * (k + 1) + 3 ≤ i = omega (arith, n) in
          put_behind h (17 * (k + 1) + 3) ended_words room i (past from (dec_eq (i - (17 * (k + 1) + 16)) 0))
        where
          past : 17 * (k + 1) + 3 ≤ i → Dec (i - (17 * (k + 1) + 16) ≡ 0) → 17 * (k + 1) + 3 + length ended_words ≤ i
          past from (yes e) = absurd (out from (omega (arith, e)))
          past from (no m) = omega (arith, m)

  pub ended_length : length (ended_overlay h k) ≡ length h
  unfolding ended_overlay
  ended_length = put_length h (17 * (k + 1) + 3) ended_words room

-- ---- a request that is finished

module _ (s : Ehci) (v : View) (k : ℕ) (p : Pipe) (r : Request) where
  -- the slot is idle
  pub finish_idle : Wide s → k < 32 → endpoint_at (finish_of s v k p r).state k ≡ Idle p
  unfolding finish_of
  finish_idle w h = endpoint_same (with_owner s o) k (Idle p) (owner_wide s o w) h tt
    where
      o : List ℕ
      o = freed s.owner s.settings.descriptors (k + 1)

  finish_owner : (finish_of s v k p r).state.owner ≡ freed s.owner s.settings.descriptors (k + 1)
  unfolding finish_of with_endpoint with_slot with_owner
  finish_owner = refl

  -- it owns no descriptor
  pub finish_none : (n : ℕ) → places_from 0 (take s.settings.descriptors (finish_of s v k p r).state.owner) (k + 1) n ≡ []
  finish_none n =
      rw (finish_owner, freed_front s.owner s.settings.descriptors (k + 1))
      (places_none 0 (clear_of (k + 1) (take s.settings.descriptors s.owner)) (k + 1) n
      (clear_none (k + 1) (take s.settings.descriptors s.owner) (λ e. omega (arith, e))))

  -- other slots own what they owned
  pub finish_others : (j n : ℕ) → j ≢ k
      → places_from 0 (take s.settings.descriptors (finish_of s v k p r).state.owner) (j + 1) n
      ≡ places_from 0 (take s.settings.descriptors s.owner) (j + 1) n
  finish_others j n ne =
      rw (finish_owner, freed_front s.owner s.settings.descriptors (k + 1))
      (clear_others 0 (k + 1) (take s.settings.descriptors s.owner) (j + 1) n (λ e. ne (omega (arith, e))) (λ e. omega (arith, e)))

-- ---- what the answer says of the tokens

abbrev length_in : Result Collected Refusal → ℕ
length_in (Ok (Complete c)) = c.length
length_in (Ok Pending) = 0
length_in (Ok Cancelled) = 0
length_in (Ok (Failed t)) = 0
length_in (Err r) = 0

abbrev retried_in : Result Collected Refusal → ℕ
retried_in (Ok (Complete c)) = c.retried
retried_in (Ok Pending) = 0
retried_in (Ok Cancelled) = 0
retried_in (Ok (Failed t)) = 0
retried_in (Err r) = 0

abbrev token_in : Result Collected Refusal → ℕ
token_in (Ok (Complete c)) = 0
token_in (Ok Pending) = 0
token_in (Ok Cancelled) = 0
token_in (Ok (Failed t)) = t
token_in (Err r) = 0

module _ (cancelled : Bool) (seen : List Seen) where
  outcome_split : (P : Result Collected Refusal → Type 0) → P (Ok Cancelled) → P (Ok (Failed (first_error seen))) → P (Ok (Complete (record { length = length_of seen; retried = retried_of seen })))
      → P (outcome_of cancelled (view_of seen))
  unfolding outcome_of view_of
  outcome_split P c f d = by cancelled refl (eqb (first_error seen) 0) refl
    where
      by : (b : Bool) → cancelled ≡ b → (z : Bool) → eqb (first_error seen) 0 ≡ z → P (outcome_of cancelled (view_of seen))
      by true e z q = rw e c
      by false e true q = rw (e, q) d
      by false e false q = rw (e, q) f

  -- complete: the length is the sum over the tokens, and of nothing else
  pub complete-length : (c : Completion) → outcome_of cancelled (view_of seen) ≡ Ok (Complete c) → c.length ≡ length_of seen
  complete-length c = outcome_split (λ (x : (Result Collected Refusal)). x ≡ Ok (Complete c) → c.length ≡ length_of seen) (λ e. absurd (omega (arith, ap collected_number e)))
      (λ e. absurd (omega (arith, ap collected_number e))) (λ e. sym (ap length_in e))

  -- and the count that of the tokens that say so
  pub complete-retried : (c : Completion) → outcome_of cancelled (view_of seen) ≡ Ok (Complete c) → c.retried ≡ retried_of seen
  complete-retried c = outcome_split (λ (x : (Result Collected Refusal)). x ≡ Ok (Complete c) → c.retried ≡ retried_of seen) (λ e. absurd (omega (arith, ap collected_number e)))
      (λ e. absurd (omega (arith, ap collected_number e))) (λ e. sym (ap retried_in e))

  -- failed: the token is the first erring one
  pub failed_token : (t : ℕ) → outcome_of cancelled (view_of seen) ≡ Ok (Failed t) → t ≡ first_error seen
  failed_token t = outcome_split (λ (x : (Result Collected Refusal)). x ≡ Ok (Failed t) → t ≡ first_error seen) (λ e. absurd (omega (arith, ap collected_number e)))
      (λ e. sym (ap token_in e)) (λ e. absurd (omega (arith, ap collected_number e)))

-- no outcome is Pending, and none a refusal
pub outcome_decides : (b : Bool) (v : View) → outcome_of b v ≢ (Ok Pending)
unfolding outcome_of
outcome_decides b v = by b refl (eqb v.failed 0) refl
  where
    by : (c : Bool) → b ≡ c → (z : Bool) → eqb v.failed 0 ≡ z → outcome_of b v ≢ (Ok Pending)
    by true e z q = rw e (λ h. omega (arith, ap collected_number h))
    by false e true q = rw (e, q) (λ h. omega (arith, ap collected_number h))
    by false e false q = rw (e, q) (λ h. omega (arith, ap collected_number h))

-- ---- the call, boundary set

module _ (s : Ehci) (pool : ℕ) (h f : List ℕ) (setups : ℕ) (rd : Readings) (v : View) (k : ℕ) (p : Pipe) (r : Request) (u : UnlinkBoundary)
    (ok : accepts_of s (lengths pool (length h) (length f) setups) ≡ true) (e : endpoint_at s k ≡ Unlinking p r u) where
  -- passed: finished
  pub collect_passes : passed_boundary u rd.frame ≡ true
      → collect_of s pool h f setups rd v k r.id ≡ gathered (finish_of s v k (keeping rd p) r) (ended_overlay h k) f
  collect_passes t =
      sym (collect_ends s pool h f setups rd v k r.id true (sym ok) (finish_of s v k (keeping rd p) r) refl (endpoint_at s k) refl p r u (ended_overlay h k) e
      (unlinking_ends s h rd.frame v k (keeping rd p) r u true (sym t) (finish_of s v k (keeping rd p) r) (ended_overlay h k) refl refl refl) refl)

  -- not passed: Pending, and nothing changes
  pub collect_waits : passed_boundary u rd.frame ≡ false → collect_of s pool h f setups rd v k r.id ≡ gathered (pending_collect s) h f
  collect_waits t =
      sym (collect_ends s pool h f setups rd v k r.id true (sym ok) (pending_collect s) refl (endpoint_at s k) refl p r u h e
      (unlinking_waits s h rd.frame v k (keeping rd p) r u false (sym t) (pending_collect s) refl refl) refl)

  -- so a collect of an unlinking request that answers Pending changes nothing
  pub pending_changes_nothing : (collect_of s pool h f setups rd v k r.id).came.answer ≡ (Ok Pending)
      → collect_of s pool h f setups rd v k r.id ≡ gathered (pending_collect s) h f
  unfolding finish_of
  pending_changes_nothing a = by (passed_boundary u rd.frame) refl
    where
      by : (b : Bool) → passed_boundary u rd.frame ≡ b → collect_of s pool h f setups rd v k r.id ≡ gathered (pending_collect s) h f
      by false t = collect_waits t
      by true t = absurd (outcome_decides r.cancelled v (sym (ap (λ (g : Gathered). g.came.answer) (collect_passes t)) ∙ a))
