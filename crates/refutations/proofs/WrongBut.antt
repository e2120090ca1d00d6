-- Machines that are `core` but for one kind of call: what they do on the way up; and when a collect does not collect.
use Rattle.std.specs.Prelude.{Result}
use Prim.Native.Nat.{ℕ}
use mathlib.Core.Bool.{Bool, true, false, cond, true≢false}
use mathlib.Core.List.{map}
use mathlib.Core.Path.{◌≡◌, sym, ap, ◌∙◌}
use Rattle.register.specs.declared.writes.Write.{Write}
use Rattle.pipe.specs.Endpoints.{endpoint_at}
use Rattle.pipe.specs.declared.endpoints.Endpoint.{Endpoint}
use Rattle.pipe.specs.declared.endpoints.Endpoint.TheVariants.{Closed, Idle, Linked, Unlinking}
use Rattle.controller.specs.declared.lent.Readings.{Readings}
use Rattle.collection.specs.Unlinks.{passed_boundary}
use Rattle.ehci.specs.declared.call.Call.TheVariants.{Collect}
use Rattle.ehci.specs.Door.{Applied, applied}
use Rattle.promises.specs.Runs.{Machine, World, in_plain, core}
use Rattle.promises.specs.Events.{is_collected}
use Rattle.promises.specs.Registers.{Access, None, Starts, Steps, access_of}
use Rattle.promises.proofs.theorems.BoundaryCalls.{collect_found}
use Rattle.refutations.proofs.WrongUp.{Rises, order}
use lib.Dec.{eqb}
use Rattle.ehci.specs.declared.reply.Answered.{Answered}
use Rattle.common.specs.declared.answer.Refusal.{Refusal}

abbrev pub is_starts : Access → Bool
is_starts a = eqb (order a) 1

abbrev pub is_submits : Access → Bool
is_submits a = eqb (order a) 3

abbrev pub is_leaves : Access → Bool
is_leaves a = eqb (order a) 4

abbrev pub is_acknowledges : Access → Bool
is_acknowledges a = eqb (order a) 5

abbrev pub is_drains : Access → Bool
is_drains a = eqb (order a) 6

-- `core`, and something else where the test holds
abbrev pub but : (World → Access → Bool) → (World → Applied → Applied) → Machine in_plain
but p f w c = cond (p w (access_of c)) (f w (core w c)) (core w c)

pub but_rises : (p : World → Access → Bool) (f : World → Applied → Applied)
    → ((w : World) → p w None ≡ false) → ((w : World) → w.state.noted ≡ 0 → p w Starts ≡ false) → ((w : World) (v : ℕ) → p w (Steps v) ≡ false) → Rises (but p f)
but_rises p f none starts steps =
    record { starts = λ w n. rw (starts w n); steps = λ w v n. rw (steps w v); opens = λ w x n. rw (none w) }

-- each write is another
abbrev pub rewriting : (Write → Write) → Applied → Applied
rewriting f a =
    applied
    (record {
      state = a.reply.state;
      answer = a.reply.answer;
      writes = record { count = a.reply.writes.count; writes = map f a.reply.writes.writes };
    })
    a.pool a.heads a.frames a.setups

-- another answer
abbrev pub answering : Result Answered Refusal → Applied → Applied
answering x a =
    applied (record { state = a.reply.state; answer = x; writes = a.reply.writes }) a.pool a.heads a.frames a.setups

-- ---- a request whose boundary is not passed is not collected

abbrev pub passes_at : Endpoint → ℕ → Bool
passes_at Closed frame = false
passes_at (Idle p) frame = false
passes_at (Linked p r) frame = false
passes_at (Unlinking p r u) frame = passed_boundary u frame

pub not_passed : (w : World) (k id : ℕ) (rd : Readings) → passes_at (endpoint_at w.state k) rd.frame ≡ false
    → is_collected (core w (Collect k id rd)).reply.answer ≡ true → ⊥
not_passed w k id rd off done =
    let x = collect_found w k id rd done in
    true≢false (sym (ap (λ (e : Endpoint). passes_at e rd.frame) x.unlinking ∙ x.passed) ∙ off)
