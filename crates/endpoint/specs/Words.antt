-- What the calls over words leave, as the state that the words stand for; and their checks after the first, which the door asks.
use Rattle.std.specs.Prelude.{ℕ, Bool, not, List, [], ◌∷◌, nat_le, Err, Ok, Result, ⊤, cond, None, Some, Option}
use Rattle.common.specs.Answers.{first, settle}
use Rattle.common.specs.Kinds.{is_isochronous}
use Rattle.common.specs.declared.answer.Refusal.TheVariants.{InvalidParameter, SlotLimitReached, InvalidEndpoint, QueueFull, NotSupported}
use Rattle.common.specs.declared.kinds.EndpointType.{EndpointType}
use Rattle.state.specs.Plain.{Ehci}
use Rattle.controller.specs.Readers.{is_opened, is_uncollected}
use Rattle.words.specs.View.{state_of}
use Rattle.controller.specs.declared.left.Left.{Left as LeftWords}
use Rattle.settings.specs.declared.settings.Settings.{Settings}
use Rattle.endpoint.specs.Calls.{lowest_slot}
use Rattle.endpoint.specs.Plain.{Change}
use Rattle.endpoint.specs.Plain.{EndpointOpening}
use Rattle.common.specs.declared.answer.Refusal.{Refusal}

abbrev pub opened_view : Settings → LeftWords ℕ → List ℕ → EndpointOpening
opened_view s r ws = record { answer = r.answer; state = state_of s r.rest ws }

abbrev pub changed_view : Settings → LeftWords ⊤ → List ℕ → Change
changed_view s r ws = record { answer = r.answer; state = state_of s r.rest ws }

-- the lowest closed slot, if one is below the number of slots
abbrev pub lowest_of : Ehci → Option ℕ
lowest_of s = cond (nat_le s.settings.endpoints (lowest_slot s)) None (Some (lowest_slot s))

unfoldable pub chosen_words : Ehci → EndpointType → Bool → Result ℕ Refusal
chosen_words s kind good =
    settle
    (first
    ((is_isochronous kind, NotSupported)
    ∷ (not good, InvalidParameter)
    ∷ (nat_le s.settings.endpoints (lowest_slot s), SlotLimitReached)
    ∷ []))
    Err
    (Ok (lowest_slot s))

unfoldable pub verdict_words : Ehci → ℕ → Bool → Result ⊤ Refusal
verdict_words s k good =
    settle
    (first ((not (is_opened s k), InvalidEndpoint) ∷ (is_uncollected s k, QueueFull) ∷ (not good, InvalidParameter) ∷ []))
    Err
    (Ok tt)
