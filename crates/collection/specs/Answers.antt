-- Document 01, "Numbers a call answers": what cancel and collect answer.
use Rattle.std.specs.Prelude.{ℕ, Bool, cond, ◌==◌, Err, Ok, Result, ⊤}
use Rattle.register.specs.Writes.{no_writes}
use Rattle.pool.specs.declared.chain.View.{View}
use Rattle.state.specs.Plain.{Ehci}
use Rattle.common.specs.Answers.{refusal_number}
use Rattle.common.specs.declared.answer.Refusal.{Refusal}
use Rattle.collection.specs.Plain.{Cancellation}
use Rattle.collection.specs.declared.collected.Collected.TheVariants.{Complete, Pending, Cancelled, Failed}
use Rattle.collection.specs.Plain.{Collection}
use Rattle.collection.specs.declared.collected.Collected.{Collected}

abbrev pub collected_number : Result Collected Refusal → ℕ
collected_number (Ok (Complete c)) = 0
collected_number (Ok Pending) = 9
collected_number (Ok Cancelled) = 10
collected_number (Ok (Failed token)) = 11
collected_number (Err r) = refusal_number r

-- "collected complete, with its length"; "gives the raw token"
abbrev pub collected_value : Result Collected Refusal → ℕ
collected_value (Ok (Complete c)) = c.length
collected_value (Ok Pending) = 0
collected_value (Ok Cancelled) = 0
collected_value (Ok (Failed token)) = token
collected_value (Err r) = 0

-- an unlink that is made answers Pending
abbrev pub pending_of : Result ⊤ Refusal → Result Collected Refusal
pending_of (Ok tt) = Ok Pending
pending_of (Err r) = Err r

-- "Cancelled if cancelled; else Failed with the first erring token; else the sum .."; 02 order 7: "a complete answer also gives how many" were
-- retried
unfoldable pub outcome_of : Bool → View → Result Collected Refusal
outcome_of cancelled view =
    cond cancelled (Ok Cancelled)
    (cond (view.failed == 0) (Ok (Complete (record { length = view.moved; retried = view.retried }))) (Ok (Failed view.failed)))

-- a refusal, and a request that waits: the state as it was, no write
abbrev pub refused_cancel : Ehci → Refusal → Cancellation
refused_cancel s r = record { answer = Err r; state = s; writes = no_writes }

abbrev pub refused_collect : Ehci → Refusal → Collection
refused_collect s r = record { answer = Err r; state = s; writes = no_writes }

abbrev pub pending_collect : Ehci → Collection
pending_collect s = record { answer = Ok Pending; state = s; writes = no_writes }
