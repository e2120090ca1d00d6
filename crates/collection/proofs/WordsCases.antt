-- The returns of the functions over words that answer, unlink, mark and finish: each is the case of the definition at the state that the words stand for.
use Rattle.std.specs.Prelude.{◌≡◌, ℕ, ◌+◌, ◌^◌, ◌<◌, Bool, true, false, not, List, Err, Ok, Result, ⊤}
use mathlib.Core.Path.{refl, sym, ap, subst, ◌∙◌}
use native.Mathlib.Omega.{arith}
use Rattle.register.specs.Writes.{no_writes}
use Rattle.register.specs.declared.writes.Writes.{Writes}
use Rattle.bitset.specs.Places.{with_of}
use Rattle.common.specs.declared.answer.Refusal.{Refusal}
use Rattle.common.specs.declared.answer.Refusal.TheVariants.{InvalidEndpoint}
use Rattle.settings.specs.declared.settings.Settings.{Settings}
use Rattle.state.specs.Plain.{Ehci}
use Rattle.state.specs.State.{with_owner}
use Rattle.pool.specs.declared.chain.Standing.{Standing}
use Rattle.pool.specs.Chains.{stands_active}
use Rattle.pool.proofs.StandingLaws.{waits_active, waits_other}
use Rattle.pool.specs.declared.chain.View.{View}
use Rattle.words.specs.declared.cores.Rest.{Rest}
use Rattle.words.specs.Good.{Good, Tidy, no_places}
use Rattle.words.specs.Record.{SlotFits, places_at, put_places, put_slot}
use Rattle.words.specs.Rest.{rest_with_bell, rest_with_free}
use Rattle.words.specs.View.{state_of}
use Rattle.words.proofs.GoodLaws.{good_settings}
use Rattle.words.proofs.KeptLaws.{tidy_freed}
use Rattle.words.proofs.RestLaws.{view_bell}
use Rattle.words.proofs.TakenLaws.{view_freed}
use Rattle.words.proofs.TidyLaws.{tidy_rest}
use Rattle.pipe.specs.Endpoints.{encoded, endpoint_at, with_endpoint, with_toggle}
use Rattle.pipe.specs.declared.endpoints.Endpoint.{Endpoint}
use Rattle.pipe.specs.declared.endpoints.Endpoint.TheVariants.{Idle, Unlinking}
use Rattle.pipe.specs.declared.endpoints.Pipe.{Pipe}
use Rattle.pipe.specs.declared.endpoints.Request.{Request}
use Rattle.pipe.specs.declared.endpoints.UnlinkBoundary.{UnlinkBoundary}
use Rattle.pipe.proofs.WordsLaws.{tidy_endpoint_put, view_endpoint_put}
use Rattle.controller.specs.declared.lent.Readings.{Readings}
use Rattle.schedule.specs.Links.{detach_of, ended_overlay, links}
use Rattle.collection.specs.Plain.{Cancellation}
use Rattle.collection.specs.declared.collected.Collected.TheVariants.{Pending}
use Rattle.collection.specs.Plain.{Collection}
use Rattle.collection.specs.declared.unlink.Bounded.{Bounded}
use Rattle.collection.specs.Answers.{outcome_of, pending_collect, pending_of, refused_cancel, refused_collect}
use Rattle.collection.specs.Calls.{ended, finish_of, freed, gathered, linked_of, marked, marked_of, unlinking_of}
use Rattle.collection.specs.Unlinks.{bounded_of, is_missing, left, passed_boundary, unlink_of, waiting_of}
use Rattle.collection.specs.Words.{OwnRequest, cancelled_view, collected_view, pending_words, refused_cancel_words, refused_collect_words}
use Rattle.collection.proofs.CallCases.{finishes, linked_unlinks, linked_waits, marks, unlinking_ends, unlinking_waits}
use Rattle.collection.proofs.UnlinkCases.{unlink_missing, unlink_waits, waits}
use Rattle.collection.proofs.WordsSlots.{finish_fits, mark_fits, own_fits, slot_low, slot_room, unlinking_within}
use Rattle.token.specs.Overlay.{kept_toggle}
use Rattle.controller.specs.declared.left.Settled.{Settled as SettledWords}
use Rattle.collection.specs.declared.collected.Collected.{Collected}

-- ---- the answers

module _ (r : Rest) (w : Writes) (ew : w ≡ no_writes) where
  pub cancel_refused_words : (x : Refusal)
      → ◌≡◌ {A = (SettledWords ⊤)} (record { answer = Err x; rest = r; writes = w }) (refused_cancel_words r x)
  cancel_refused_words x = rw ew

  pub collect_refused_words : (x : Refusal)
      → ◌≡◌ {A = (SettledWords Collected)} (record { answer = Err x; rest = r; writes = w }) (refused_collect_words r x)
  collect_refused_words x = rw ew

  pub collect_pending_words : ◌≡◌ {A = (SettledWords Collected)} (record { answer = Ok Pending; rest = r; writes = w }) (pending_words r)
  collect_pending_words = rw ew

-- where nothing changes
module _ (s : Settings) (r : Rest) (ws : List ℕ) where
  pub refused_cancel_view : (c : (SettledWords ⊤)) (x : Refusal) → c ≡ refused_cancel_words r x
      → cancelled_view s c ws ≡ refused_cancel (state_of s r ws) x
  refused_cancel_view c x e = ap (λ (y : (SettledWords ⊤)). cancelled_view s y ws) e

  pub refused_collect_view : (c : (SettledWords Collected)) (x : Refusal) → c ≡ refused_collect_words r x
      → collected_view s c ws ≡ refused_collect (state_of s r ws) x
  refused_collect_view c x e = ap (λ (y : (SettledWords Collected)). collected_view s y ws) e

  pub pending_view : (c : (SettledWords Collected)) → c ≡ pending_words r → collected_view s c ws ≡ pending_collect (state_of s r ws)
  pending_view c e = ap (λ (y : (SettledWords Collected)). collected_view s y ws) e

  module _ (good : Good s r ws) where
    pub tidy_refused_cancel : (c : (SettledWords ⊤)) (x : Refusal) → c ≡ refused_cancel_words r x → Tidy s c.rest ws
    tidy_refused_cancel c x e = subst (λ (y : (SettledWords ⊤)). Tidy s y.rest ws) (sym e) good.tidy

    pub tidy_refused_collect : (c : (SettledWords Collected)) (x : Refusal) → c ≡ refused_collect_words r x → Tidy s c.rest ws
    tidy_refused_collect c x e = subst (λ (y : (SettledWords Collected)). Tidy s y.rest ws) (sym e) good.tidy

    pub tidy_pending : (c : (SettledWords Collected)) → c ≡ pending_words r → Tidy s c.rest ws
    tidy_pending c e = subst (λ (y : (SettledWords Collected)). Tidy s y.rest ws) (sym e) good.tidy

-- ---- a slot is written

module _ (s : Settings) (r : Rest) (ws ws' : List ℕ) (good : Good s r ws) (k : ℕ) (here : k < s.endpoints) where
  -- its endpoint alone
  put_view : (e : Endpoint) → SlotFits (encoded e) → ws' ≡ put_slot ws k (encoded e) → (t : Rest)
      → state_of s t ws' ≡ with_endpoint (state_of s t ws) k e
  put_view e fits ew t =
      ap (λ (l : List ℕ). state_of s t l) ew
      ∙ view_endpoint_put ws k e (slot_low s r ws good k here) (slot_room s r ws good k here) fits s t

  put_tidy : (p : Pipe) (q : Request) (b : UnlinkBoundary) → SlotFits (encoded (Unlinking p q b)) → ws' ≡ put_slot ws k (encoded (Unlinking p q b))
      → (t : Rest) → t.free ≡ r.free → Tidy s t ws'
  put_tidy p q b fits ew t et =
      tidy_rest s r t ws' et
      (rw ew
      (tidy_endpoint_put ws k (Unlinking p q b) (slot_room s r ws good k here) fits s r (λ h. absurd (omega (arith, h))) good.tidy))

  -- ---- `waiting`

  module _ (p : Pipe) (q : Request) (o : OwnRequest (state_of s r ws) k p q) (most : p.next < 2 ^ 64) (few : r.unanswered < 32)
      (rd : Readings) (u : Bounded)
      (eu : u ≡ bounded_of (record { noted = r.noted; doorbell = r.doorbell; unanswered = r.unanswered }) p.kind rd)
      (ew : ws' ≡ put_slot ws k (encoded (Unlinking p q u.boundary))) where
    until_fits : SlotFits (encoded (Unlinking p q u.boundary))
    until_fits =
        own_fits s r ws good k p q o most u (record { noted = r.noted; doorbell = r.doorbell; unanswered = r.unanswered }) rd eu few

    abbrev waited_rest : Rest
    waited_rest = rest_with_bell r u.rung.bell.noted u.rung.bell.doorbell u.rung.bell.unanswered

    bounded_view : u ≡ bounded_of (record { noted = (state_of s r ws).noted; doorbell = (state_of s r ws).doorbell; unanswered = (state_of s r ws).unanswered }) p.kind rd
    unfolding state_of
    bounded_view = eu

    pub waited : ◌≡◌ {A = Cancellation}
        (record { answer = Ok tt; state = state_of s waited_rest ws'; writes = u.rung.writes })
        (waiting_of (state_of s r ws) rd k p q)
    waited =
        waits (state_of s r ws) (state_of s waited_rest ws') rd k p q u bounded_view
        (put_view (Unlinking p q u.boundary) until_fits ew waited_rest
        ∙ ap (λ (v : Ehci). with_endpoint v k (Unlinking p q u.boundary))
        (view_bell s r ws u.rung.bell.noted u.rung.bell.doorbell u.rung.bell.unanswered))

    pub tidy_waited : Tidy s waited_rest ws'
    tidy_waited = put_tidy p q u.boundary until_fits ew waited_rest refl

-- ---- `mark` and `finish`

module _ (s : Settings) (r : Rest) (ws : List ℕ) (good : Good s r ws) (k : ℕ) (p : Pipe) (q : Request) (b : UnlinkBoundary)
    (e : endpoint_at (state_of s r ws) k ≡ Unlinking p q b) (most : p.next < 2 ^ 64) where
  here : k < s.endpoints
  here = unlinking_within s r ws good k p q b e

  module _ (ws' : List ℕ) (m : Request) (em : m ≡ marked q) (ew : ws' ≡ put_slot ws k (encoded (Unlinking p m b))) where
    marked_fits : SlotFits (encoded (Unlinking p m b))
    marked_fits = mark_fits s r ws good k p q b e most m em

    pub marks_words : (w : Writes) → w ≡ no_writes
        → ◌≡◌ {A = Cancellation} (record { answer = Ok tt; state = state_of s r ws'; writes = w }) (marked_of (state_of s r ws) k p q b)
    marks_words w wn =
        marks (state_of s r ws) (state_of s r ws') k p q m b w em (put_view s r ws ws' good k here (Unlinking p m b) marked_fits ew r) wn

    pub tidy_marked : Tidy s r ws'
    tidy_marked = put_tidy s r ws ws' good k here p m b marked_fits ew r refl

  module _ (overlay : ℕ) (t : Bool) (n : Pipe) (et : t ≡ kept_toggle overlay) (en : n ≡ with_toggle p t) (mid ws' : List ℕ)
      (em : mid ≡ put_slot ws k (encoded (Idle n))) (ew : ws' ≡ put_places mid k no_places) where
    abbrev kept : Pipe
    kept = with_toggle p (kept_toggle overlay)

    kept_is : n ≡ kept
    kept_is = en ∙ ap (λ (b : Bool). with_toggle p b) et

    idle_fit : SlotFits (encoded (Idle kept))
    idle_fit = finish_fits s r ws good k p q b e most (kept_toggle overlay) kept refl

    row : ws' ≡ put_places (put_slot ws k (encoded (Idle kept))) k no_places
    row = ew ∙ ap (λ (l : List ℕ). put_places l k no_places) (em ∙ ap (λ (m : Pipe). put_slot ws k (encoded (Idle m))) kept_is)

    freed_view : (free : List ℕ)
        → state_of s (rest_with_free r free) ws'
        ≡ with_endpoint (with_owner (state_of s r ws) (freed (state_of s r ws).owner (state_of s r ws).settings.descriptors (k + 1))) k (Idle kept)
    unfolding with_endpoint freed state_of
    freed_view free =
        ap (λ (l : List ℕ). state_of s (rest_with_free r free) l) row
        ∙ view_freed s r ws good.tidy (good_settings s r ws good).descriptors_most (good_settings s r ws good).endpoints_most k
        (encoded (Idle kept)) here idle_fit free

    pub finishes_words : (free : List ℕ) (v : View) (a : (Result Collected Refusal)) (w : Writes) → a ≡ outcome_of q.cancelled v → w ≡ no_writes
        → ◌≡◌ {A = Collection} (record { answer = a; state = state_of s (rest_with_free r free) ws'; writes = w }) (finish_of (state_of s r ws) v k kept q)
    finishes_words free v a w ea wn =
        finishes (state_of s r ws) (state_of s (rest_with_free r free) ws') v k kept q
        (freed (state_of s r ws).owner (state_of s r ws).settings.descriptors (k + 1)) a w refl ea (freed_view free) wn

    pub tidy_finished : (own free : List ℕ) → own ≡ places_at ws k → free ≡ with_of r.free own → Tidy s (rest_with_free r free) ws'
    tidy_finished own free eo ef =
        rw row
        (tidy_freed s r ws good.tidy k (encoded (Idle kept)) here idle_fit (rest_with_free r free) (omega arith)
        (λ z. absurd (omega (arith, z))) (ef ∙ ap (with_of r.free) eo))

-- ---- `unlink`

module _ (s : Settings) (r : Rest) (ws h f : List ℕ) (rd : Readings) (k : ℕ) (p : Pipe) (q : Request) where
  module _ (m : Bool) (h' f' : List ℕ) (em : m ≡ is_missing (detach_of (state_of s r ws) h f k).predecessor) (er : links h' f' ≡ (detach_of (state_of s r ws) h f k).rows) where
    pub unlinks_waits : (ws' : List ℕ) (c : (SettledWords ⊤)) → m ≡ false → cancelled_view s c ws' ≡ waiting_of (state_of s r ws) rd k p q
        → left (cancelled_view s c ws') h' f' ≡ unlink_of (state_of s r ws) h f rd k p q
    unlinks_waits ws' c t ec = unlink_waits (state_of s r ws) h f rd k p q m h' f' em er (cancelled_view s c ws') t ec

    pub unlinks_none : (c : (SettledWords ⊤)) → m ≡ true → c ≡ refused_cancel_words r InvalidEndpoint
        → left (cancelled_view s c ws) h' f' ≡ unlink_of (state_of s r ws) h f rd k p q
    unlinks_none c t ec =
        unlink_missing (state_of s r ws) h f rd k p q m h' f' em er (cancelled_view s c ws) t (refused_cancel_view s r ws c InvalidEndpoint ec)

    -- ---- `collect_linked`

    pub linked_lost_words : (stage : Standing) (y : Bool) (c : SettledWords Collected) → y ≡ stands_active stage → y ≡ false → m ≡ true → c ≡ refused_collect_words r InvalidEndpoint
        → gathered (collected_view s c ws) h' f' ≡ linked_of (state_of s r ws) h f rd stage k p q
    linked_lost_words stage y c ey n t ec =
        rw ec
        (linked_unlinks (state_of s r ws) h f rd stage k p q (cancelled_view s (refused_cancel_words r InvalidEndpoint) ws) (Err InvalidEndpoint) h' f'
        (unlinks_none (refused_cancel_words r InvalidEndpoint) t refl) refl (waits_other stage (sym ey ∙ n)))

    pub linked_unlinks_words : (stage : Standing) (y : Bool) (l : SettledWords ⊤) (ws' : List ℕ) (a : Result Collected Refusal) → y ≡ stands_active stage → y ≡ false → m ≡ false
        → cancelled_view s l ws' ≡ waiting_of (state_of s r ws) rd k p q → a ≡ pending_of l.answer
        → gathered (record { answer = a; state = state_of s l.rest ws'; writes = l.writes }) h' f'
        ≡ linked_of (state_of s r ws) h f rd stage k p q
    linked_unlinks_words stage y l ws' a ey n t ec ea =
        linked_unlinks (state_of s r ws) h f rd stage k p q (cancelled_view s l ws') a h' f' (unlinks_waits ws' l t ec) ea (waits_other stage (sym ey ∙ n))

  pub linked_waits_words : (stage : Standing) (y : Bool) (c : SettledWords Collected) → c ≡ pending_words r → y ≡ stands_active stage → y ≡ true
      → gathered (collected_view s c ws) h f ≡ linked_of (state_of s r ws) h f rd stage k p q
  linked_waits_words stage y c ec ey e = linked_waits (state_of s r ws) h f rd stage k p q (collected_view s c ws) (pending_view s r ws c ec) (waits_active stage (sym ey ∙ e))

-- ---- `collect_unlinking`

module _ (s : Settings) (r : Rest) (ws h : List ℕ) (frame : ℕ) (v : View) (k : ℕ) (p : Pipe) (q : Request) (u : UnlinkBoundary) (b : Bool)
    (eb : b ≡ passed_boundary u frame) (c : (SettledWords Collected)) where
  pub unlinking_waits_words : c ≡ pending_words r → not b ≡ true
      → ended (collected_view s c ws) h ≡ unlinking_of (state_of s r ws) h frame v k p q u
  unlinking_waits_words ec t =
      unlinking_waits (state_of s r ws) h frame v k p q u b eb (collected_view s c ws) (pending_view s r ws c ec) t

  pub unlinking_ends_words : (ws' h' : List ℕ) → h' ≡ ended_overlay h k → collected_view s c ws' ≡ finish_of (state_of s r ws) v k p q
      → not b ≡ false → ended (collected_view s c ws') h' ≡ unlinking_of (state_of s r ws) h frame v k p q u
  unlinking_ends_words ws' h' eh ec t =
      unlinking_ends (state_of s r ws) h frame v k p q u b eb (collected_view s c ws') h' eh ec t
