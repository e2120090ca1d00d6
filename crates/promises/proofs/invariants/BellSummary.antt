-- An effect in seven forms: its event, whether it rings, and what becomes of each slot.
use Prim.Native.Nat.{ℕ, ◌+◌, ◌-◌, ◌%◌, ◌<◌}
use mathlib.Core.Bool.{Bool, true, false}
use mathlib.Core.Path.{◌≡◌, refl, ap, subst, ◌∙◌}
use native.Mathlib.Decide.{ℕ_discrete as dec_eq}
use native.Mathlib.Omega.{arith}
use lib.Dec.{eqb, leb}
use Rattle.register.specs.Writes.{list_of, no_writes}
use Rattle.register.specs.declared.writes.Writes.{Writes}
use Rattle.settings.specs.declared.settings.Settings.{Settings}
use Rattle.state.specs.State.{with_bell, with_owner}
use Rattle.state.specs.Plain.{Ehci}
use Rattle.pipe.specs.Endpoints.{endpoint_at, with_endpoint, with_toggle}
use Rattle.common.specs.Kinds.{is_interrupt}
use Rattle.pipe.specs.declared.endpoints.Endpoint.{Endpoint}
use Rattle.pipe.specs.declared.endpoints.Endpoint.TheVariants.{Closed, Idle, Linked, Unlinking}
use Rattle.pipe.specs.declared.endpoints.Pipe.{Pipe}
use Rattle.pipe.specs.declared.endpoints.Request.{Request}
use Rattle.pipe.specs.declared.endpoints.UnlinkBoundary.{UnlinkBoundary}
use Rattle.pipe.specs.declared.endpoints.UnlinkBoundary.TheVariants.{Async, Periodic}
use Rattle.pipe.proofs.EndpointLaws.{EndpointGood, Proper, endpoint_other, endpoint_same, owner_aside, owner_wide}
use Rattle.controller.specs.Readers.{holds_request}
use Rattle.controller.proofs.ReaderLaws.{open_below}
use Rattle.schedule.specs.Bell.{advanced_of, bell_of, some_ring}
use Rattle.request.specs.Submit.{id_at, linked_with, state_with, taken_for}
use Rattle.request.specs.declared.judge.TransferRequest.{TransferRequest}
use Rattle.collection.specs.Calls.{finish_of, freed, marked}
use Rattle.collection.specs.Unlinks.{passed_boundary, waiting_for, waiting_of}
use Rattle.collection.specs.declared.unlink.Bounded.{Bounded}
use Rattle.collection.proofs.SlotFacts.{endpoint_good}
use Rattle.interrupt.specs.Interrupts.{note_if, with_rung}
use Rattle.endpoint.specs.Calls.{new_endpoint, with_size}
use Rattle.ehci.specs.declared.call.Call.{Call}
use Rattle.ehci.specs.Door.{Applied}
use Rattle.promises.specs.Runs.{History, Turn, World, turn_of}
use Rattle.promises.specs.Events.{Other, Reads, Drains, Submits, Unlinks, Parts, Collects, event, rings}
use Rattle.promises.specs.Bells.{Answered, bell, is_drains, is_reads, is_unlinks}
use Rattle.promises.proofs.effects.Effects.{Effect, Counts, Accepts, Marks, Unlinked, Collected, besides}
use Rattle.promises.proofs.effects.EffectEndpoints.{idle_is}
use Rattle.promises.proofs.invariants.Sound.{Sound}
use Rattle.promises.proofs.invariants.BellWaiting.{fallen}
use Rattle.promises.proofs.invariants.BellSlots.{Aside, aside_drains, aside_other}
use Rattle.promises.proofs.invariants.BellInvariant.{Calm, answered}
use Rattle.promises.proofs.invariants.BellFacts.{advance_rings, all_fall, bell_aside, besides_aside, silent_submit}
use Rattle.promises.proofs.invariants.BellSteps.{StateInv, aside_of, calm, is, no_writes_lem, unnoted, within}
use Rattle.promises.proofs.invariants.BellUnlinks.{Named, after, apart, bounded, bounded_frames, e, ep, mine, mine_frames, others, others_frames, quiet_frames, rang}

-- a slot that no request comes to or leaves
pub data Kept (x y : Endpoint) : Type 0 where
  same : y ≡ x → Kept x y
  bare : holds_request x ≡ false → holds_request y ≡ false → Kept x y
  marks : (p : Pipe) (r : Request) (u : UnlinkBoundary) → x ≡ Unlinking p r u → y ≡ Unlinking p (marked r) u → Kept x y

module _ (s : Settings) (w : World) (c : Call) (a : Applied) (h : History) where
  abbrev t : Turn
  t = turn_of w.rows c a

  abbrev f : ℕ → Endpoint
  f = endpoint_at w.state

  abbrev f' : ℕ → Endpoint
  f' = endpoint_at a.reply.state

  abbrev Others : ℕ → Type 0
  Others k = (j : ℕ) → (j ≡ k → ⊥) → f' j ≡ f j

  pub record Quiets : Type 0 where
    pub stays : Calm s t h
    pub aside : (k : ℕ) → Aside k (event s t)
    pub kept : (k : ℕ) → Kept (f k) (f' k)

  pub record Answers : Type 0 where
    pub event_is : event s t ≡ Reads
    pub silent : rings t ≡ false
    pub kept : (k : ℕ) → f' k ≡ f k

  pub record Advances : Type 0 where
    pub event_is : event s t ≡ Drains
    pub was : bell s h ≡ Answered
    pub rang : rings t ≡ leb 1 (w.state.unanswered - 1)
    pub falls : (k : ℕ) → f' k ≡ fallen (f k)

  pub record Comes : Type 0 where
    pub k : ℕ
    pub id : ℕ
    pub request : TransferRequest
    pub p : Pipe
    pub q : Pipe
    pub r : Request
    pub event_is : event s t ≡ Submits k id request
    pub stays : Calm s t h
    pub was : f k ≡ Idle q
    pub now : f' k ≡ Linked p r
    pub uncancelled : r.cancelled ≡ false
    pub others : Others k

  pub record Goes : Type 0 where
    pub k : ℕ
    pub p : Pipe
    pub r : Request
    pub q : Request
    pub event_is : event s t ≡ Unlinks k
    pub rang : rings t ≡ eqb w.state.doorbell 0
    pub was : f k ≡ Linked p r
    pub now : f' k ≡ Unlinking p q (Async (w.state.unanswered + 1))
    pub others : Others k
    pub ring : is_interrupt p.kind ≡ false

  pub record Departs : Type 0 where
    pub k : ℕ
    pub frame : ℕ
    pub p : Pipe
    pub r : Request
    pub q : Request
    pub event_is : event s t ≡ Parts k frame
    pub stays : Calm s t h
    pub was : f k ≡ Linked p r
    pub now : f' k ≡ Unlinking p q (Periodic (frame % 16384))
    pub others : Others k
    pub frames : is_interrupt p.kind ≡ true

  pub record Ends : Type 0 where
    pub k : ℕ
    pub id : ℕ
    pub frame : ℕ
    pub p : Pipe
    pub q : Pipe
    pub r : Request
    pub u : UnlinkBoundary
    pub event_is : event s t ≡ Collects k id frame
    pub stays : Calm s t h
    pub was : f k ≡ Unlinking p r u
    pub passed : passed_boundary u frame ≡ true
    pub now : f' k ≡ Idle q
    pub others : Others k

  pub data Summary : Type 0 where
    quiets : Quiets → Summary
    answers : Answers → Summary
    advances : Advances → Summary
    comes : Comes → Summary
    goes : Goes → Summary
    departs : Departs → Summary
    ends : Ends → Summary

module _ (s : Settings) (w : World) (c : Call) (a : Applied) (h : History) (sound : Sound s w) (g : StateInv s h w.state) where
  abbrev old : Ehci
  old = w.state

  abbrev turn : Turn
  turn = turn_of w.rows c a

  -- the new state's endpoints
  at : (st : Ehci) → a.reply.state ≡ st → (k : ℕ) → endpoint_at a.reply.state k ≡ endpoint_at st k
  at st e k = ap (λ (z : Ehci). endpoint_at z k) e

  quiet_other : event s turn ≡ Other → rings turn ≡ false → ((k : ℕ) → Kept (endpoint_at old k) (endpoint_at a.reply.state k)) → Summary s w c a h
  quiet_other e q kept = Summary.quiets (record { stays = calm s w c a h sound g Other e refl refl refl q; aside = λ k. aside_of s w c a h sound g k Other e (aside_other k); kept = kept })

  -- one slot without a request becomes another without one
  one_bare : (k : ℕ) (x : Endpoint) → a.reply.state ≡ with_endpoint old k x → k < 32 → Proper x → holds_request (endpoint_at old k) ≡ false → holds_request x ≡ false
      → (j : ℕ) → Kept (endpoint_at old j) (endpoint_at a.reply.state j)
  one_bare k x e known proper was now j = by (dec_eq j k)
    where
      by : Dec (j ≡ k) → Kept (endpoint_at old j) (endpoint_at a.reply.state j)
      by (yes q) =
          Kept.bare (ap (λ (i : ℕ). holds_request (endpoint_at old i)) q ∙ was)
          (ap (λ (i : ℕ). holds_request (endpoint_at a.reply.state i)) q ∙ ap holds_request (at (with_endpoint old k x) e k ∙ endpoint_same old k x sound.wide known proper) ∙ now)
      by (no ne) = Kept.same (at (with_endpoint old k x) e j ∙ endpoint_other old k x j ne)

  marked_one : (x : Marks w c a) (j : ℕ) → Kept (endpoint_at old j) (endpoint_at a.reply.state j)
  marked_one x j = by (dec_eq j x.k)
    where
      known : x.k < 32
      known = within s w c a h sound g x.k (Unlinking x.p x.r x.u) x.unlinking refl

      to : Endpoint
      to = Unlinking x.p (marked x.r) x.u

      by : Dec (j ≡ x.k) → Kept (endpoint_at old j) (endpoint_at a.reply.state j)
      by (yes q) =
          let good = subst (EndpointGood old.settings.limit old.unanswered) x.unlinking (endpoint_good old x.k sound.ranges known) in
          Kept.marks x.p x.r x.u (ap (endpoint_at old) q ∙ x.unlinking)
          (ap (endpoint_at a.reply.state) q ∙ at (with_endpoint old x.k to) x.state_is x.k ∙ endpoint_same old x.k to sound.wide known good.suits)
      by (no ne) = Kept.same (at (with_endpoint old x.k to) x.state_is j ∙ endpoint_other old x.k to j ne)

  counts_summary : Counts w c a → Summary s w c a h
  counts_summary x =
      let en = is s w c a h sound g Drains x.drains in
      let b = bell_of old in
      let rung = advanced_of b no_writes x.command in
      let st = (with_rung old rung).state in
      let rang : rings turn ≡ leb 1 (old.unanswered - 1) = ap (λ (y : Writes). some_ring (list_of y)) x.writes_are ∙ advance_rings b x.command in
      let falls : (k : ℕ) → endpoint_at a.reply.state k ≡ fallen (endpoint_at old k) =
      λ k. at (besides st x.sides) x.state_is k ∙ besides_aside st x.sides k ∙ all_fall old rung.bell.noted rung.bell.doorbell rung.bell.unanswered k in
      Summary.advances
      (record {
        event_is = en;
        was = answered s turn h old.noted old.doorbell old.unanswered old.pending (endpoint_at old) (endpoint_at a.reply.state) g x.noted
            (ap is_drains en) (ap is_reads en) (ap is_unlinks en) rang (λ k. aside_of s w c a h sound g k Drains en (aside_drains k)) falls;
        rang = rang;
        falls = falls;
      })

  accepts_summary : Accepts w c a → Summary s w c a h
  unfolding state_with
  accepts_summary x =
      let id = id_at old x.k in
      let en = is s w c a h sound g (Submits x.k id x.t) x.submits in
      let o = (taken_for old x.k x.t).owner in
      let to = linked_with old x.k x.t in
      let idle = idle_is (endpoint_at old x.k) x.judged.opened x.judged.bare in
      Summary.comes
      (record {
        k = x.k;
        id = id;
        request = x.t;
        p = _;
        q = idle.0;
        r = _;
        event_is = en;
        stays = calm s w c a h sound g (Submits x.k id x.t) en refl refl refl (ap (λ (y : Writes). some_ring (list_of y)) x.writes_are ∙ silent_submit x.readings);
        was = idle.1;
        now = at (with_endpoint (with_owner old o) x.k to) x.state_is x.k ∙ endpoint_same (with_owner old o) x.k to (owner_wide old o sound.wide) (open_below old x.k x.judged.opened) tt;
        uncancelled = refl;
        others = λ j ne. at (with_endpoint (with_owner old o) x.k to) x.state_is j ∙ endpoint_other (with_owner old o) x.k to j ne ∙ owner_aside old o j;
      })

  ends_summary : Collected w c a → Summary s w c a h
  unfolding finish_of
  ends_summary x =
      let en = is s w c a h sound g (Collects x.k x.r.id x.frame) x.collects in
      let o = freed old.owner old.settings.descriptors (x.k + 1) in
      let idle = Idle (with_toggle x.p x.toggle) in
      let st = with_endpoint (with_owner old o) x.k idle in
      Summary.ends
      (record {
        k = x.k;
        id = x.r.id;
        frame = x.frame;
        p = x.p;
        q = _;
        r = x.r;
        u = x.u;
        event_is = en;
        stays = calm s w c a h sound g (Collects x.k x.r.id x.frame) en refl refl refl (no_writes_lem s w c a h sound g x.silent);
        was = x.unlinking;
        passed = x.passed;
        now = at st x.state_is x.k ∙ endpoint_same (with_owner old o) x.k idle (owner_wide old o sound.wide) (within s w c a h sound g x.k (Unlinking x.p x.r x.u) x.unlinking refl) tt;
        others = λ j ne. at st x.state_is j ∙ endpoint_other (with_owner old o) x.k idle j ne ∙ owner_aside old o j;
      })

  goes_summary : (x : Unlinked w c a) → Named s w c a x → is_interrupt x.p.kind ≡ false → Summary s w c a h
  unfolding waiting_of
  goes_summary x named kind =
      let st : a.reply.state ≡ after s w c a h sound g x named kind =
      x.state_is ∙ ap (λ (b : Bounded). (waiting_for old x.k x.p x.asked b).state) (bounded s w c a h sound g x named kind) in
      Summary.goes
      (record {
        k = x.k;
        p = x.p;
        r = x.r;
        q = x.asked;
        event_is = e s w c a h sound g x named kind;
        rang = rang s w c a h sound g x named kind;
        was = x.linked;
        now = at (after s w c a h sound g x named kind) st x.k ∙ mine s w c a h sound g x named kind;
        others = λ j ne. at (after s w c a h sound g x named kind) st j ∙ others s w c a h sound g x named kind j ne;
        ring = kind;
      })

  departs_summary : (x : Unlinked w c a) → Named s w c a x → is_interrupt x.p.kind ≡ true → Summary s w c a h
  unfolding waiting_of
  departs_summary x named kind =
      let st : a.reply.state ≡ apart s w c a h sound g x named kind =
      x.state_is ∙ ap (λ (b : Bounded). (waiting_for old x.k x.p x.asked b).state) (bounded_frames s w c a h sound g x named kind) in
      let en = ep s w c a h sound g x named kind in
      Summary.departs
      (record {
        k = x.k;
        frame = x.readings.frame;
        p = x.p;
        r = x.r;
        q = x.asked;
        event_is = en;
        stays = calm s w c a h sound g (Parts x.k x.readings.frame) en refl refl refl (quiet_frames s w c a h sound g x named kind);
        was = x.linked;
        now = at (apart s w c a h sound g x named kind) st x.k ∙ mine_frames s w c a h sound g x named kind;
        others = λ j ne. at (apart s w c a h sound g x named kind) st j ∙ others_frames s w c a h sound g x named kind j ne;
        frames = kind;
      })

  pub summary : Effect w c a → ((x : Unlinked w c a) → Named s w c a x) → Summary s w c a h
  summary (Effect.still x) named =
      quiet_other (is s w c a h sound g Other x.nothing) x.silent (λ k. Kept.same (at (besides old x.sides) x.state_is k ∙ besides_aside old x.sides k))
  summary (Effect.hears x) named =
      let noted = note_if (eqb old.doorbell 1) old.noted in
      let heard = with_bell old noted old.doorbell old.unanswered in
      Summary.answers
      (record {
        event_is = is s w c a h sound g Reads x.hears;
        silent = x.silent;
        kept = λ k. at (besides heard x.sides) x.state_is k ∙ besides_aside heard x.sides k ∙ bell_aside old noted old.doorbell old.unanswered k;
      })
  summary (Effect.joins x) named =
      quiet_other (is s w c a h sound g Other x.nothing) x.silent (λ k. Kept.same (at (besides old x.sides) x.state_is k ∙ besides_aside old x.sides k))
  summary (Effect.passes x) named =
      let en = is s w c a h sound g Drains x.drains in
      Summary.quiets
      (record {
        stays = calm s w c a h sound g Drains en refl refl (unnoted s w c a h sound g x.uncounted) x.silent;
        aside = λ k. aside_of s w c a h sound g k Drains en (aside_drains k);
        kept = λ k. Kept.same (at (besides old x.sides) x.state_is k ∙ besides_aside old x.sides k);
      })
  summary (Effect.counts x) named = counts_summary x
  summary (Effect.opens x) named =
      quiet_other (is s w c a h sound g Other x.nothing) (no_writes_lem s w c a h sound g x.silent)
      (one_bare x.k (new_endpoint x.kind x.packet) x.state_is
      (omega (arith, x.below, sound.ranges.good.endpoints_most, ap (λ (z : Settings). z.endpoints) sound.settings_are)) tt (ap holds_request x.closed) refl)
  summary (Effect.closes x) named =
      quiet_other (is s w c a h sound g Other x.nothing) (no_writes_lem s w c a h sound g x.silent)
      (one_bare x.k Closed x.state_is (within s w c a h sound g x.k (Idle x.p) x.idle refl) tt (ap holds_request x.idle) refl)
  summary (Effect.rewrites x) named =
      quiet_other (is s w c a h sound g Other x.nothing) (no_writes_lem s w c a h sound g x.silent) (λ k. Kept.same (at old x.state_is k))
  summary (Effect.resizes x) named =
      quiet_other (is s w c a h sound g Other x.nothing) (no_writes_lem s w c a h sound g x.silent)
      (one_bare x.k (Idle (with_size x.p x.size)) x.state_is (within s w c a h sound g x.k (Idle x.p) x.idle refl) tt (ap holds_request x.idle) refl)
  summary (Effect.clears x) named =
      quiet_other (is s w c a h sound g Other x.nothing) (no_writes_lem s w c a h sound g x.silent)
      (one_bare x.k (Idle (with_toggle x.p false)) x.state_is (within s w c a h sound g x.k (Idle x.p) x.idle refl) tt (ap holds_request x.idle) refl)
  summary (Effect.accepts x) named = accepts_summary x
  summary (Effect.writes_back x) named =
      quiet_other (is s w c a h sound g Other x.nothing) (no_writes_lem s w c a h sound g x.silent) (λ k. Kept.same (at old x.state_is k))
  summary (Effect.marks x) named =
      quiet_other (is s w c a h sound g Other x.nothing) (no_writes_lem s w c a h sound g x.silent) (marked_one x)
  summary (Effect.unlinks x) named = by (is_interrupt x.p.kind) refl
    where
      by : (b : Bool) → is_interrupt x.p.kind ≡ b → Summary s w c a h
      by true kind = departs_summary x (named x) kind
      by false kind = goes_summary x (named x) kind
  summary (Effect.collects x) named = ends_summary x
