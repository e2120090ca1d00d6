-- A refusal changes nothing; the rows of a collect; the writes of both calls; collect while the request is linked.
use Rattle.std.specs.Prelude.{◌≡◌, ℕ, ◌+◌, ◌*◌, ◌<◌, ◌≤◌, Bool, true, false, cond, eqb, ◌≢◌, ◌⊎◌, List, length, Err, Ok, Result, ⊤}
use mathlib.Core.Path.{refl, sym, ap, ◌∙◌}
use mathlib.Core.Logic.{inl, inr}
use native.Mathlib.Omega.{arith}
use Rattle.register.specs.Writes.{and_then, no_writes}
use Rattle.register.specs.declared.writes.Writes.{Writes}
use Rattle.common.specs.declared.kinds.EndpointType.{EndpointType}
use Rattle.common.specs.declared.kinds.EndpointType.TheVariants.{Control, Isochronous, Bulk, Interrupt}
use Rattle.pool.specs.declared.chain.Standing.TheVariants.{Active}
use Rattle.pool.specs.declared.chain.View.{View}
use Rattle.pool.specs.Chains.{standing_numbered}
use Rattle.pool.proofs.StandingLaws.{numbered_active, numbered_other, numbered_stands}
use Rattle.common.proofs.TestLaws.{false_true}
use Rattle.state.specs.Plain.{Ehci}
use Rattle.pipe.specs.Endpoints.{endpoint_at}
use Rattle.controller.specs.Lent.{accepts_of, lengths}
use Rattle.controller.specs.Readers.{has_endpoint}
use Rattle.opening.specs.Heads.{head_word}
use Rattle.common.specs.declared.answer.Refusal.{Refusal}
use Rattle.pipe.specs.declared.endpoints.Endpoint.TheVariants.{Linked}
use Rattle.pipe.specs.declared.endpoints.Pipe.{Pipe}
use Rattle.pipe.specs.declared.endpoints.Request.{Request}
use Rattle.controller.specs.declared.lent.Readings.{Readings}
use Rattle.controller.proofs.LentLaws.{accepts_tells}
use Rattle.controller.proofs.ReaderLaws.{open_within}
use Rattle.schedule.specs.Bell.{bell_of, must_ring, ring_of, ring_word, rung_if, unlinked_of}
use Rattle.schedule.specs.Links.{ended_overlay}
use Rattle.schedule.specs.declared.bell.Bell.{Bell}
use Rattle.collection.specs.declared.collected.Collected.TheVariants.{Complete, Pending, Cancelled, Failed}
use Rattle.collection.specs.Answers.{outcome_of, pending_collect, refused_cancel, refused_collect}
use Rattle.collection.specs.Unlinks.{Left, bounded_of, left, unlink_of, waiting_of}
use Rattle.collection.specs.Calls.{Gathered, cancel_of, collect_of, finish_of, gathered, linked_of, marked, pending_left}
use Rattle.collection.proofs.CallCases.{collect_looks, linked_unlinks, linked_waits}
use Rattle.collection.proofs.CollectLaws.{ended_length, ended_others}
use Rattle.collection.proofs.Splits.{cancel_split, collect_split, unlink_split}
use Rattle.collection.proofs.StayLaws.{unlink_rows}
use Rattle.collection.specs.declared.collected.Collected.{Collected}

abbrev is_done : Result ⊤ Refusal → Bool
is_done (Ok tt) = true
is_done (Err r) = false

abbrev is_result : Result Collected Refusal → Bool
is_result (Ok (Complete c)) = true
is_result (Ok Pending) = true
is_result (Ok Cancelled) = true
is_result (Ok (Failed t)) = true
is_result (Err r) = false

outcome_result : (b : Bool) (v : View) → is_result (outcome_of b v) ≡ true
unfolding outcome_of
outcome_result b v = by b refl (eqb v.failed 0) refl
  where
    by : (c : Bool) → b ≡ c → (z : Bool) → eqb v.failed 0 ≡ z → is_result (outcome_of b v) ≡ true
    by true e z q = rw e
    by false e true q = rw (e, q)
    by false e false q = rw (e, q)

-- nothing is written, or the doorbell is rung
abbrev pub RingsAtMost : ℕ → Writes → Type 0
RingsAtMost cmd w = (w ≡ no_writes) ⊎ (w ≡ and_then no_writes 0 (ring_word cmd))

asked_writes : (b : Bell) (cmd : ℕ) → RingsAtMost cmd (unlinked_of b no_writes cmd).writes
unfolding unlinked_of ring_of
asked_writes b cmd = by (must_ring more) refl
  where
    more : Bell
    more = record { noted = b.noted; doorbell = b.doorbell; unanswered = b.unanswered + 1 }

    by : (m : Bool) → must_ring more ≡ m → RingsAtMost cmd (rung_if (must_ring more) more no_writes cmd).writes
    by true e = rw e (inr refl)
    by false e = rw e (inl refl)

bound_writes : (b : Bell) (kind : EndpointType) (rd : Readings) → RingsAtMost rd.command (bounded_of b kind rd).rung.writes
unfolding bounded_of
bound_writes b Control rd = asked_writes b rd.command
bound_writes b Isochronous rd = asked_writes b rd.command
bound_writes b Bulk rd = asked_writes b rd.command
bound_writes b Interrupt rd = inl refl

waiting_writes : (s : Ehci) (rd : Readings) (k : ℕ) (p : Pipe) (r : Request) → RingsAtMost rd.command (waiting_of s rd k p r).writes
unfolding waiting_of
waiting_writes s rd k p r = bound_writes (bell_of s) p.kind rd

waiting_done : (s : Ehci) (rd : Readings) (k : ℕ) (p : Pipe) (r : Request) → is_done (waiting_of s rd k p r).answer ≡ true
unfolding waiting_of
waiting_done s rd k p r = refl

-- an interrupt request's unlink writes nothing
pub periodic_silent : (s : Ehci) (rd : Readings) (k : ℕ) (p : Pipe) (r : Request) → p.kind ≡ Interrupt → (waiting_of s rd k p r).writes ≡ no_writes
unfolding waiting_of bounded_of
periodic_silent s rd k p r e = rw e

module _ (s : Ehci) (pool : ℕ) (h f : List ℕ) (setups : ℕ) (rd : Readings) (k id : ℕ) where
  -- ---- refusals

  abbrev KeepsLeft : Refusal → Left → Type 0
  KeepsLeft x l = l.came.answer ≡ Err x → l ≡ left (refused_cancel s x) h f

  abbrev KeepsGathered : Refusal → Gathered → Type 0
  KeepsGathered x g = g.came.answer ≡ Err x → g ≡ gathered (refused_collect s x) h f

  pub cancel_refusal_keeps : (x : Refusal) → (cancel_of s pool h f setups rd k id).came.answer ≡ Err x
      → cancel_of s pool h f setups rd k id ≡ left (refused_cancel s x) h f
  cancel_refusal_keeps x =
      cancel_split s pool h f setups rd k id (KeepsLeft x) (λ y e. ap (λ (a : (Result ⊤ Refusal)). left (record { answer = a; state = s; writes = no_writes }) h f) e)
      (λ p r ok e u i.
      unlink_split s h f rd k p (marked r) (KeepsLeft x) (λ q. ap (λ (a : (Result ⊤ Refusal)). left (record { answer = a; state = s; writes = no_writes }) h f) q)
      (λ found q. absurd (false_true (sym (ap is_done q) ∙ waiting_done s rd k p (marked r)))))
      (λ p r u ok e i q. absurd (false_true (sym (ap is_done q))))

  pub collect_refusal_keeps : (v : View) (x : Refusal) → (collect_of s pool h f setups rd v k id).came.answer ≡ Err x
      → collect_of s pool h f setups rd v k id ≡ gathered (refused_collect s x) h f
  unfolding finish_of waiting_of
  collect_refusal_keeps v x =
      collect_split s pool h f setups rd k id v (KeepsGathered x) (λ y e. ap (λ (a : (Result Collected Refusal)). gathered (record { answer = a; state = s; writes = no_writes }) h f) e)
      (λ e. absurd (false_true (sym (ap is_result e))))
      (λ p r ok e u i n.
      unlink_split s h f rd k p r (λ (l : Left). KeepsGathered x (pending_left l))
      (λ q. ap (λ (a : (Result Collected Refusal)). gathered (record { answer = a; state = s; writes = no_writes }) h f) q)
      (λ found q. absurd (false_true (sym (ap is_result q)))))
      (λ p r u ok e i t q. absurd (false_true (sym (ap is_result q) ∙ outcome_result r.cancelled v)))

  -- ---- writes

  unlink_writes : (p : Pipe) (r : Request) → RingsAtMost rd.command (unlink_of s h f rd k p r).came.writes
  unlink_writes p r =
      unlink_split s h f rd k p r (λ (l : Left). RingsAtMost rd.command l.came.writes) (inl refl) (λ e. waiting_writes s rd k p r)

  pub cancel_writes : RingsAtMost rd.command (cancel_of s pool h f setups rd k id).came.writes
  cancel_writes =
      cancel_split s pool h f setups rd k id (λ (l : Left). RingsAtMost rd.command l.came.writes) (λ x. inl refl)
      (λ p r ok e u i. unlink_writes p (marked r)) (λ p r u ok e i. inl refl)

  pub collect_writes : (v : View) → RingsAtMost rd.command (collect_of s pool h f setups rd v k id).came.writes
  unfolding finish_of
  collect_writes v =
      collect_split s pool h f setups rd k id v (λ (l : Gathered). RingsAtMost rd.command l.came.writes) (λ x. inl refl) (inl refl)
      (λ p r ok e u i n. unlink_writes p r) (λ p r u ok e i t. inl refl)

  -- ---- the rows of a collect

  -- lengths; and every word but links, and but current and overlay of the slot's own head
  pub record CollectRows (g : Gathered) : Type 0 where
    pub heads_long : length g.rows.heads ≡ length h
    pub frames_long : length g.rows.frames ≡ length f
    pub words_stay : (place i : ℕ) → 1 ≤ i → i < 17 → (place ≡ k + 1 → i < 3) → head_word g.rows.heads place i ≡ head_word h place i

  pub collect_rows : (v : View) → CollectRows (collect_of s pool h f setups rd v k id)
  collect_rows v =
      collect_split s pool h f setups rd k id v CollectRows (λ x. same) same (λ p r ok e u i n. unlinked p r)
      (λ p r u ok e i t. ends ok (ap has_endpoint e))
    where
      same : {c : _} → CollectRows (gathered c h f)
      same = record { heads_long = refl; frames_long = refl; words_stay = λ place i l m o. refl }

      unlinked : (p : Pipe) (r : Request) → CollectRows (pending_left (unlink_of s h f rd k p r))
      unlinked p r =
          let rows = unlink_rows s pool h f setups rd k id p r in
          record { heads_long = rows.heads_long; frames_long = rows.frames_long; words_stay = λ place i l m o. rows.words_stay place i l m }

      ends : {c : _} → accepts_of s (lengths pool (length h) (length f) setups) ≡ true → has_endpoint (endpoint_at s k) ≡ true → CollectRows (gathered c (ended_overlay h k) f)
      ends ok o =
          let a = accepts_tells s (lengths pool (length h) (length f) setups) ok in
          let fits : 17 * (k + 1) + 17 ≤ length h = omega (arith, open_within s k a.ranges o, a.fitting.heads_fit) in
          record {
            heads_long = ended_length h k fits;
            frames_long = refl;
            words_stay = λ place i l m out. ended_others h k fits (17 * place + i) (λ from to. apart place i l m out from to);
          }
        where
          apart : (place i : ℕ) → 1 ≤ i → i < 17 → (place ≡ k + 1 → i < 3) → 17 * (k + 1) + 3 ≤ 17 * place + i → 17 * place + i < 17 * (k + 1) + 17 → ⊥
          apart place i l m out from to =
              let here : place ≡ k + 1 = omega (arith, l, m, from, to) in
              omega (arith, here, out here, from)

-- ---- boundary not set

-- where a number says how the descriptors stand, 2 alone leaves the request linked
pub linked_numbered : (s : Ehci) (h f : List ℕ) (rd : Readings) (n k : ℕ) (p : Pipe) (r : Request)
    → linked_of s h f rd (standing_numbered n) k p r ≡ cond (eqb n 2) (gathered (pending_collect s) h f) (pending_left (unlink_of s h f rd k p r))
unfolding linked_of
linked_numbered s h f rd n k p r = rw (numbered_stands n)

module _ (s : Ehci) (pool : ℕ) (h f : List ℕ) (setups : ℕ) (rd : Readings) (v : View) (k : ℕ) (p : Pipe) (r : Request)
    (ok : accepts_of s (lengths pool (length h) (length f) setups) ≡ true) (e : endpoint_at s k ≡ Linked p r) (few : s.unanswered < 32) where
  -- an active descriptor comes first: Pending, and nothing changes
  pub collect_active : v.stage ≡ Active → collect_of s pool h f setups rd v k r.id ≡ gathered (pending_collect s) h f
  collect_active t =
      sym (collect_looks s pool h f setups rd v k r.id true (sym ok) (pending_collect s) refl (endpoint_at s k) refl p r h f e
      (linked_waits s h f rd v.stage k p r (pending_collect s) refl t) few refl)

  -- every descriptor is inactive, or an error comes before any active one: an unlink, and Pending where it is made
  pub collect_unlinks : v.stage ≢ Active → collect_of s pool h f setups rd v k r.id ≡ pending_left (unlink_of s h f rd k p r)
  collect_unlinks n =
      let l = unlink_of s h f rd k p r in
      let g = pending_left l in
      sym (collect_looks s pool h f setups rd v k r.id true (sym ok) g.came refl (endpoint_at s k) refl p r l.rows.heads l.rows.frames e
      (linked_unlinks s h f rd v.stage k p r l.came g.came.answer l.rows.heads l.rows.frames refl refl n) few refl)

  -- the same of a view whose standing a number says, for every number
  pub collect_active_numbered : (n : ℕ) → v.stage ≡ standing_numbered n → n ≡ 2
      → collect_of s pool h f setups rd v k r.id ≡ gathered (pending_collect s) h f
  collect_active_numbered n t two = collect_active (t ∙ numbered_active n two)

  pub collect_unlinks_numbered : (n : ℕ) → v.stage ≡ standing_numbered n → n ≢ 2
      → collect_of s pool h f setups rd v k r.id ≡ pending_left (unlink_of s h f rd k p r)
  collect_unlinks_numbered n t other = collect_unlinks (λ q. numbered_other n other (sym t ∙ q))
