-- The number of any call's answer is the one that its own crate gives.
use Rattle.std.specs.Prelude.{◌≡◌, ℕ, Bool, Err, Ok, Option, Result, false, true, ⊤}
use mathlib.Core.Path.{refl}
use Rattle.common.specs.Answers.{number_of}
use Rattle.controller.specs.Address.{allotted_number}
use Rattle.endpoint.specs.Calls.{opened_number}
use Rattle.request.specs.Submit.{submission_number}
use Rattle.collection.specs.Answers.{collected_number}
use Rattle.collection.specs.declared.collected.Collected.TheVariants as C
use Rattle.interrupt.specs.Interrupts.{acknowledged_number, drained_number}
use Rattle.interrupt.specs.declared.answers.Event.TheVariants as D
use Rattle.ehci.specs.Replies.{acknowledged_answer, allotted_answer, answered_number, brought_answer, collected_answer, drained_answer, opened_answer, simply, submitted_answer}
use Rattle.collection.specs.declared.collected.Collected.{Collected}
use Rattle.interrupt.specs.declared.answers.Event.{Event}
use Rattle.common.specs.declared.answer.Refusal.{Refusal}

pub simple_number : (a : (Result ⊤ Refusal)) → answered_number (simply a) ≡ number_of a
simple_number (Ok tt) = refl
simple_number (Err r) = refl

pub brought_number : (a : (Result ⊤ Refusal)) (read : (Option ℕ)) (wait : ℕ) → answered_number (brought_answer a read wait) ≡ number_of a
brought_number (Ok tt) read wait = refl
brought_number (Err r) read wait = refl

pub allotted_number_lem : (a : (Result ℕ Refusal)) → answered_number (allotted_answer a) ≡ allotted_number a
allotted_number_lem (Ok a) = refl
allotted_number_lem (Err r) = refl

pub opened_number_lem : (o : (Result ℕ Refusal)) → answered_number (opened_answer o) ≡ opened_number o
opened_number_lem (Ok k) = refl
opened_number_lem (Err r) = refl

pub submitted_number : (s : (Result ℕ Refusal)) → answered_number (submitted_answer s) ≡ submission_number s
submitted_number (Ok id) = refl
submitted_number (Err r) = refl

pub collected_number_lem : (c : (Result Collected Refusal)) → answered_number (collected_answer c) ≡ collected_number c
collected_number_lem (Ok (C.Complete done)) = refl
collected_number_lem (Ok C.Pending) = refl
collected_number_lem (Ok C.Cancelled) = refl
collected_number_lem (Ok (C.Failed token)) = refl
collected_number_lem (Err r) = refl

pub acknowledged_number_lem : (a : (Result Bool Refusal)) → answered_number (acknowledged_answer a) ≡ acknowledged_number a
acknowledged_number_lem (Ok false) = refl
acknowledged_number_lem (Ok true) = refl
acknowledged_number_lem (Err r) = refl

pub drained_number_lem : (d : (Result Event Refusal)) → answered_number (drained_answer d) ≡ drained_number d
drained_number_lem (Ok D.Nothing) = refl
drained_number_lem (Ok D.PortChange) = refl
drained_number_lem (Ok D.TransferActivity) = refl
drained_number_lem (Ok D.Stopped) = refl
drained_number_lem (Err r) = refl
