-- Cases of what is decided, from what the callees say.
use Rattle.std.specs.Prelude.{◌≡◌, ℕ, List, Option, Result, ⊤}
use mathlib.Core.Path.{sym, ap, ◌∙◌}
use Rattle.register.specs.Writes.{no_writes}
use Rattle.register.specs.declared.writes.Writes.{Writes}
use Rattle.endpoint.specs.Calls.{ChangeLeft, OpenLeft, change_left, open_left}
use Rattle.endpoint.specs.Plain.{Change}
use Rattle.endpoint.specs.Plain.{EndpointOpening}
use Rattle.request.specs.Submit.{Outcome as SubmitOutcome, submitted}
use Rattle.request.specs.Plain.{Submitted}
use Rattle.request.specs.Plain.{WrittenBack}
use Rattle.collection.specs.Calls.{Gathered, gathered}
use Rattle.collection.specs.Unlinks.{Left, left}
use Rattle.collection.specs.Plain.{Cancellation}
use Rattle.collection.specs.Plain.{Collection}
use Rattle.ehci.specs.Plain.{Decided}
use Rattle.ehci.specs.Replies.{brought_answer, changed_reply, collected_answer, opened_answer, replied, simply, submitted_answer}
use Rattle.ehci.specs.Decides.{HeadsOutcome, LinksOutcome, came, cancel_came, change_came, collect_came, heads_came, links_came, open_came, submit_came, with_frames, with_setups, written_reply}
use Rattle.ehci.specs.declared.reply.Answered.{Answered}
use Rattle.common.specs.declared.answer.Refusal.{Refusal}

pub brought_is : (a k : (Result ⊤ Refusal)) (read : (Option ℕ)) (wait : ℕ) → a ≡ k → brought_answer k read wait ≡ brought_answer a read wait
brought_is a k read wait e = ap (λ (x : (Result ⊤ Refusal)). brought_answer x read wait) (sym e)

-- ---- a call of another crate, as a reply

pub open_came_lem : (d : Decided) (o : EndpointOpening) (h : List ℕ) (y : OpenLeft) → d ≡ replied o.state (opened_answer o.answer) no_writes
    → open_left o h ≡ y → heads_came d h ≡ open_came y
open_came_lem d o h y e f = ap (λ (x : Decided). heads_came x h) e ∙ ap open_came f

pub change_came_lem : (d : Decided) (c : Change) (h : List ℕ) (y : ChangeLeft) → d ≡ changed_reply c → change_left c h ≡ y → heads_came d h ≡ change_came y
change_came_lem d c h y e f = ap (λ (x : Decided). heads_came x h) e ∙ ap change_came f

pub cancel_came_lem : (d : Decided) (c : Cancellation) (h f : List ℕ) (y : Left) → d ≡ replied c.state (simply c.answer) c.writes
    → left c h f ≡ y → links_came d h f ≡ cancel_came y
cancel_came_lem d c h f y e g = ap (λ (x : Decided). links_came x h f) e ∙ ap cancel_came g

pub collect_came_lem : (d : Decided) (c : Collection) (h f : List ℕ) (y : Gathered) → d ≡ replied c.state (collected_answer c.answer) c.writes
    → gathered c h f ≡ y → links_came d h f ≡ collect_came y
collect_came_lem d c h f y e g = ap (λ (x : Decided). links_came x h f) e ∙ ap collect_came g

pub submit_came_lem : (x : Submitted) (a : (Result Answered Refusal)) (h f u : List ℕ) (y : SubmitOutcome) → a ≡ submitted_answer x.answer → submitted x h f u ≡ y
    → came (record { reply = record { state = x.state; answer = a; writes = x.writes }; chain = x.chain }) h f u ≡ submit_came y
submit_came_lem x a h f u y e g =
    ap (λ (b : (Result Answered Refusal)). came (record { reply = record { state = x.state; answer = b; writes = x.writes }; chain = x.chain }) h f u) e
    ∙ ap submit_came g

pub written_came : (x : WrittenBack) (a : (Result Answered Refusal)) (w : Writes) (y : WrittenBack) → a ≡ simply x.answer → w ≡ no_writes → x ≡ y
    → ◌≡◌ {A = Decided} (record { reply = record { state = x.state; answer = a; writes = w }; chain = x.chain }) (written_reply y)
written_came x a w y e f g =
    ap (λ (b : (Result Answered Refusal)). record { reply = record { state = x.state; answer = b; writes = w }; chain = x.chain }) e
    ∙ ap (λ (v : Writes). record { reply = record { state = x.state; answer = simply x.answer; writes = v }; chain = x.chain }) f ∙ ap written_reply g

-- ---- any call

-- a call that is lent fewer rows
pub heads_call : (d : Decided) (h f u : List ℕ) (y : HeadsOutcome) → heads_came d h ≡ y → came d h f u ≡ with_frames y f u
heads_call d h f u y e = ap (λ (o : HeadsOutcome). with_frames o f u) e

pub links_call : (d : Decided) (h f u : List ℕ) (y : LinksOutcome) → links_came d h f ≡ y → came d h f u ≡ with_setups y u
links_call d h f u y e = ap (λ (o : LinksOutcome). with_setups o u) e

pub no_rows : (d : Decided) (h f u : List ℕ) (e : Decided) → d ≡ e → came d h f u ≡ came e h f u
no_rows d h f u e q = ap (λ (x : Decided). came x h f u) q

-- ---- what is asked
