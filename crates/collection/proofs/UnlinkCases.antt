-- The returns of unlinking.
use Rattle.std.specs.Prelude.{◌≡◌, ℕ, ◌+◌, ◌<◌, Bool, true, false, eqb, List, Ok}
use mathlib.Core.Path.{refl, sym, ap, ◌∙◌}
use Rattle.common.proofs.TestLaws.{false_true}
use Rattle.common.specs.Kinds.{is_interrupt}
use Rattle.register.specs.Writes.{no_writes}
use Rattle.register.specs.declared.writes.Writes.{Writes}
use Rattle.common.specs.declared.kinds.EndpointType.{EndpointType}
use Rattle.common.specs.declared.kinds.EndpointType.TheVariants.{Control, Isochronous, Bulk, Interrupt}
use Rattle.state.specs.Plain.{Ehci}
use Rattle.state.specs.State.{with_bell}
use Rattle.pipe.specs.Endpoints.{with_endpoint}
use Rattle.common.specs.declared.answer.Refusal.TheVariants.{InvalidEndpoint}
use Rattle.pipe.specs.declared.endpoints.Endpoint.TheVariants.{Unlinking}
use Rattle.pipe.specs.declared.endpoints.Pipe.{Pipe}
use Rattle.pipe.specs.declared.endpoints.Request.{Request}
use Rattle.pipe.specs.declared.endpoints.UnlinkBoundary.{UnlinkBoundary}
use Rattle.pipe.specs.declared.endpoints.UnlinkBoundary.TheVariants.{Async, Periodic}
use Rattle.controller.specs.declared.lent.Readings.{Readings}
use Rattle.schedule.specs.Bell.{bell_of, frame_of, frames_passed, unlinked_of}
use Rattle.schedule.specs.Links.{Detached, links, detached, detach_of, predecessor_of}
use Rattle.schedule.specs.declared.bell.Bell.{Bell}
use Rattle.schedule.specs.declared.bell.Rung.{Rung}
use Rattle.schedule.specs.declared.links.Predecessor.{Predecessor}
use Rattle.schedule.specs.declared.links.Predecessor.TheVariants.{First, Head, Missing}
use Rattle.collection.specs.Plain.{Cancellation}
use Rattle.collection.specs.declared.unlink.Bounded.{Bounded}
use Rattle.collection.specs.Answers.{refused_cancel}
use Rattle.collection.specs.Unlinks.{is_missing, asked_of, bounded_of, frame_below, left, passed_boundary, unlink_of, waiting_of}

-- ---- the boundary

pub asks_one : (b : Bell) (cmd : ℕ) (u : UnlinkBoundary) (w : Writes) (r : Rung) → u ≡ Async (b.unanswered + 1) → w ≡ no_writes
    → r ≡ unlinked_of b w cmd → ◌≡◌ {A = Bounded} (record { boundary = u; rung = r }) (asked_of b cmd)
asks_one b cmd u w r eu ew er = rw (er, eu, ew)

pub bound_other : (b : Bell) (k : EndpointType) (rd : Readings) (r : Bounded) → (k ≡ Interrupt → ⊥) → r ≡ asked_of b rd.command
    → r ≡ bounded_of b k rd
unfolding bounded_of
bound_other b Control rd r n er = er
bound_other b Isochronous rd r n er = er
bound_other b Bulk rd r n er = er
bound_other b Interrupt rd r n er = absurd (n refl)

module _ (b : Bell) (k : EndpointType) (rd : Readings) where
  pub bound_interrupt : (f : ℕ) (w : Writes) → k ≡ Interrupt → f ≡ frame_of rd.frame → w ≡ no_writes
      → ◌≡◌ {A = Bounded} (record { boundary = Periodic f; rung = record { bell = b; writes = w } }) (bounded_of b k rd)
  unfolding bounded_of
  bound_interrupt f w e ef ew = rw (ef, ew, e)

pub waits : (s st : Ehci) (rd : Readings) (k : ℕ) (p : Pipe) (r : Request) (u : Bounded) → u ≡ bounded_of (bell_of s) p.kind rd
    → st ≡ with_endpoint (with_bell s u.rung.bell.noted u.rung.bell.doorbell u.rung.bell.unanswered) k (Unlinking p r u.boundary)
    → ◌≡◌ {A = Cancellation} (record { answer = Ok tt; state = st; writes = u.rung.writes }) (waiting_of s rd k p r)
unfolding waiting_of
waits s st rd k p r u eu es = rw (es, eu)

-- ---- unlinking

module _ (s : Ehci) (h f : List ℕ) (k : ℕ) (q : Predecessor) (h' f' : List ℕ) (e : detached q h' f' ≡ detach_of s h f k) where
  pub lost_missing : q ≡ Missing → true ≡ is_missing (detach_of s h f k).predecessor
  lost_missing eq = ap is_missing (sym eq ∙ ap (λ (d : Detached). d.predecessor) e)

  pub lost_rows : links h' f' ≡ (detach_of s h f k).rows
  lost_rows = ap (λ (d : Detached). d.rows) e

module _ (s : Ehci) (h f : List ℕ) (rd : Readings) (k : ℕ) (p : Pipe) (r : Request) (m : Bool) (h' f' : List ℕ)
    (em : m ≡ is_missing (detach_of s h f k).predecessor) (er : links h' f' ≡ (detach_of s h f k).rows) (c : Cancellation) where
  pub unlink_waits : m ≡ false → c ≡ waiting_of s rd k p r → left c h' f' ≡ unlink_of s h f rd k p r
  unfolding unlink_of
  unlink_waits t ec = rw (ec, er, sym em ∙ t)

  missing : (d : Predecessor) → is_missing d ≡ true → d ≡ Missing
  missing First t = absurd (false_true t)
  missing (Head j) t = absurd (false_true t)
  missing Missing t = refl

  -- without a predecessor no word moves
  kept : m ≡ true → links h' f' ≡ links h f
  unfolding detach_of
  kept t = er ∙ rw (missing (predecessor_of s h f k) (sym em ∙ t))

  pub unlink_missing : m ≡ true → c ≡ refused_cancel s InvalidEndpoint → left c h' f' ≡ unlink_of s h f rd k p r
  unfolding unlink_of
  unlink_missing t ec = rw (ec, kept t, sym em ∙ t)

pub framed_is : (kind : EndpointType) (f framed : Bool) → f ≡ is_interrupt kind → is_interrupt kind ≡ framed → f ≡ framed
framed_is kind f framed e g = e ∙ g

-- ---- passing

pub frame_below_lem : (u : UnlinkBoundary) (start : ℕ) → u ≡ Periodic start → frame_below u → start < 16384
frame_below_lem u start e h = rw e at h

pub passed_async : (u : UnlinkBoundary) (n frame : ℕ) → u ≡ Async n → eqb n 0 ≡ passed_boundary u frame
passed_async u n frame e = rw e

pub passed_periodic : (u : UnlinkBoundary) (start frame : ℕ) (b : Bool) → u ≡ Periodic start → b ≡ frames_passed start frame → b ≡ passed_boundary u frame
passed_periodic u start frame b e eb = eb ∙ rw e
