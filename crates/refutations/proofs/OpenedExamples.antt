-- What the history says to a submit of one bulk byte to slot 0, after a few calls. Newest first.
use Rattle.std.specs.Prelude.{Err, None, Ok, Result, Some}
use mathlib.Core.List.{[], ◌∷◌}
use mathlib.Core.Path.{◌≡◌, refl}
use Rattle.common.specs.declared.kinds.Direction.TheVariants.{Out}
use Rattle.common.specs.declared.kinds.EndpointType.TheVariants.{Bulk, Interrupt, Isochronous}
use Rattle.common.specs.declared.kinds.EndpointType.{EndpointType}
use Rattle.settings.specs.declared.settings.Settings.{Settings}
use Rattle.common.specs.Answers.{passed, refused}
use Rattle.common.specs.declared.answer.Refusal.TheVariants.{InvalidEndpoint, NotReady, NotSupported, QueueFull, Timeout}
use Rattle.request.specs.Submit.{buffer_good, ranges_good}
use Rattle.request.specs.declared.judge.TransferRequest.{TransferRequest}
use Rattle.ehci.specs.declared.call.Call.{Call}
use Rattle.ehci.specs.declared.call.Call.TheVariants.{BringUpStep, Close, OpenEndpoint, StartBringUp, Submit}
use Rattle.ehci.specs.declared.reply.Answered.TheVariants.{Done}
use Rattle.ehci.specs.declared.reply.Given.TheVariants.{Id, Next, Nothing, Slot}
use Rattle.promises.specs.Runs.{History, Rows, Turn}
use Rattle.promises.specs.Uses.{uses}
use Rattle.promises.specs.Opened.{before_room}
use Rattle.promises.specs.Slots.{runs_in, slot_in}
use Rattle.ehci.specs.declared.reply.Answered.{Answered}
use Rattle.common.specs.declared.answer.Refusal.{Refusal}

module _ (s : Settings) (rows : Rows) where
  abbrev turn : Call → Result Answered Refusal → Turn
  turn c a = record { call = c; answer = a; wrote = []; before = rows; after = rows }

  abbrev asks : EndpointType → TransferRequest
  asks kind = record { kind = kind; direction = Out; setup = 0; address = 0x500000; length = 1 }

  -- slot 0 is opened for bulk, and bring-up begins; then it ends
  abbrev begun : History
  begun =
      turn StartBringUp (Ok (Done (Next (Some 0) 0)))
      ∷ turn (OpenEndpoint (record { kind = Bulk; address = 1; number = 1; packet = 512 })) (Ok (Done (Slot 0)))
      ∷ []

  abbrev ended : History
  ended = turn (BringUpStep 0) (Ok (Done (Next None 100))) ∷ begun

  unopened : before_room s [] 0 (asks Bulk) ≡ refused InvalidEndpoint
  unfolding slot_in
  unopened = refl

  before_end : before_room s begun 0 (asks Bulk) ≡ refused NotReady
  unfolding slot_in runs_in
  before_end = refl

  accepted : before_room s ended 0 (asks Bulk) ≡ passed
  unfolding slot_in runs_in uses ranges_good buffer_good
  accepted = refl

  other_slot : before_room s ended 1 (asks Bulk) ≡ refused InvalidEndpoint
  unfolding slot_in
  other_slot = refl

  other_kind : before_room s ended 0 (asks Interrupt) ≡ refused InvalidEndpoint
  unfolding slot_in runs_in uses
  other_kind = refl

  isochronous : before_room s ended 0 (asks Isochronous) ≡ refused NotSupported
  unfolding slot_in runs_in uses
  isochronous = refl

  busy : before_room s (turn (Submit 0 (asks Bulk) (record { command = 0; frame = 0; overlay = 0 })) (Ok (Done (Id 1))) ∷ ended) 0 (asks Bulk) ≡ refused QueueFull
  unfolding slot_in runs_in uses
  busy = refl

  closed : before_room s (turn (Close 0) (Ok (Done Nothing)) ∷ ended) 0 (asks Bulk) ≡ refused InvalidEndpoint
  unfolding slot_in
  closed = refl

  begun_again : before_room s (turn (BringUpStep 0) (Err Timeout) ∷ turn StartBringUp (Ok (Done (Next (Some 0) 0))) ∷ ended) 0 (asks Bulk) ≡ refused NotReady
  unfolding slot_in runs_in
  begun_again = refl
