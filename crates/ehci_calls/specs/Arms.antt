-- The fourteen calls that are made directly, held to the door: each leaves what `apply` leaves of its `Call`, where `apply` accepts the words and
-- where the call refuses what it is lent. Between the two `apply` refuses what the call is not lent, and so does not judge.
use Rattle.std.specs.Prelude.{◌≡◌, ℕ, Bool, true, false, List, length, ⊤}
use Rattle.common.specs.declared.answer.Refusal.TheVariants.{InvalidParameter}
use Rattle.register.specs.Writes.{no_writes}
use Rattle.descriptor.specs.declared.qtd.QueueTransferDescriptor.{QueueTransferDescriptor}
use Rattle.state.specs.Plain.{Ehci}
use Rattle.words.specs.declared.cores.Core.{Core}
use Rattle.words.specs.Opened.{opened_row}
use Rattle.words.specs.View.{view}
use Rattle.direct_calls.specs.Shapes.{takes_core, takes_frames, takes_heads, takes_slots}
use Rattle.ehci.specs.declared.call.Call.{Call}
use Rattle.ehci.specs.declared.reply.Reply.{Reply}
use Rattle.ehci.specs.Door.{applied}
use Rattle.ehci.specs.Replies.{acknowledged_answer, allotted_answer, drained_answer, opened_answer, refused_reply, simply}
use Rattle.ehci.specs.WordsDecides.{replied_words}
use Rattle.ehci.specs.WordsDoor.{accepts_words, apply_words, reply_view}
use Rattle.controller.specs.declared.left.Left.{Left}
use Rattle.controller.specs.declared.left.Settled.{Settled}
use Rattle.interrupt.specs.declared.answers.Event.{Event}

-- ---- what a call returns, as the door's reply; that of the others is `changed_words`, `settled_words`, `brought_words`

abbrev pub allotted_reply : Left ℕ → Reply
allotted_reply x = (replied_words x.rest (allotted_answer x.answer) no_writes).reply

abbrev pub opened_reply : Left ℕ → Reply
opened_reply x = (replied_words x.rest (opened_answer x.answer) no_writes).reply

abbrev pub cancelled_reply : Settled ⊤ → Reply
cancelled_reply x = (replied_words x.rest (simply x.answer) x.writes).reply

abbrev pub acknowledged_reply : Settled Bool → Reply
acknowledged_reply x = (replied_words x.rest (acknowledged_answer x.answer) x.writes).reply

abbrev pub drained_reply : Settled Event → Reply
drained_reply x = (replied_words x.rest (drained_answer x.answer) x.writes).reply

-- ---- a call is an arm of `apply`

-- this reply, these slots, heads and frames, with pool and setups as they were, are what `apply` leaves
abbrev pub Leaves : Core → List ℕ → List QueueTransferDescriptor → List ℕ → List ℕ → List ℕ → Call → Reply → List ℕ → List ℕ → List ℕ → Type 0
Leaves c ws pool heads frames setups call reply ws' heads' frames' =
    applied (reply_view c.settings reply ws') pool heads' frames' setups ≡ apply_words c ws pool heads frames setups call

-- so it is where `apply` accepts the words, and where the call refuses what it is lent; `takes` is what the call judges of that
pub record IsArm (c : Core) (ws : List ℕ) (pool : List QueueTransferDescriptor) (heads frames setups : List ℕ) (takes : Bool) (call : Call) (reply : Reply) (ws' heads' frames' : List ℕ) : Type 0 where
  pub where_accepted : accepts_words c ws (length pool) (length heads) (length frames) (length setups) ≡ true
      → Leaves c ws pool heads frames setups call reply ws' heads' frames'
  pub where_refused : takes ≡ false → Leaves c ws pool heads frames setups call reply ws' heads' frames'

-- by what the call is lent: the rows that it is not lent are any, and stay
abbrev pub CoreArm : Core → Call → Reply → Type 0
CoreArm c call reply =
    (ws : List ℕ) (pool : List QueueTransferDescriptor) (heads frames setups : List ℕ)
    → IsArm c ws pool heads frames setups (takes_core c) call reply ws heads frames

abbrev pub SlotsArm : Core → List ℕ → List ℕ → Call → Reply → Type 0
SlotsArm c ws ws' call reply =
    (pool : List QueueTransferDescriptor) (heads frames setups : List ℕ)
    → IsArm c ws pool heads frames setups (takes_slots c ws) call reply ws' heads frames

abbrev pub HeadsArm : Core → List ℕ → List ℕ → List ℕ → List ℕ → Call → Reply → Type 0
HeadsArm c ws ws' heads heads' call reply =
    (pool : List QueueTransferDescriptor) (frames setups : List ℕ)
    → IsArm c ws pool heads frames setups (takes_heads c ws (length heads)) call reply ws' heads' frames

abbrev pub FramesArm : Core → List ℕ → List ℕ → List ℕ → List ℕ → List ℕ → List ℕ → Call → Reply → Type 0
FramesArm c ws ws' heads heads' frames frames' call reply =
    (pool : List QueueTransferDescriptor) (setups : List ℕ)
    → IsArm c ws pool heads frames setups (takes_frames c ws (length heads) (length frames)) call reply ws' heads' frames'

-- ---- what is left unjudged

-- rows that `apply` refuses, beside a core in its ranges: `apply` answers 1 and all stays, while a call that is lent the core alone decides, as
-- where every slot is closed
pub record Unjudged {S : Type 0} (c : Core) (ws : List ℕ) (pool : List QueueTransferDescriptor) (heads frames setups : List ℕ) (call : Call) (seen : List ℕ → S) (decides : Ehci → S) : Type 0 where
  pub door_refuses : apply_words c ws pool heads frames setups call
      ≡ applied (refused_reply (view c ws) InvalidParameter).reply pool heads frames setups
  pub call_decides : seen (opened_row c.settings.endpoints) ≡ decides (view c (opened_row c.settings.endpoints))
