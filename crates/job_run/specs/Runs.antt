-- Document 01, "Examples": a sheet's job on a running controller "with D 16, E 8, C 16384, areas 100000, 200000, 300000, 400000".
use Rattle.std.specs.Prelude.{ℕ, zero, suc, Option, Some, None, List, [], ◌∷◌, ◌++◌, get_or, length, unwrap_or, Ok, Result}
use Rattle.common.specs.declared.kinds.EndpointType.{EndpointType}
use Rattle.settings.specs.declared.settings.Settings.{Settings}
use Rattle.pipe.specs.Endpoints.{direction_of, kind_of}
use Rattle.ehci.specs.declared.call.Call.{Call}
use Rattle.ehci.specs.declared.call.Call.TheVariants.{StartBringUp, BringUpStep, OpenEndpoint, Submit}
use Rattle.ehci.specs.declared.reply.Answered.TheVariants.{Done}
use Rattle.ehci.specs.declared.reply.Given.TheVariants as G
use Rattle.ehci.specs.Replies.{answered_number}
use Rattle.store.specs.Plain.{Called, Store}
use Rattle.store.specs.Stores.{blank_store, call_store, open_store}
use Rattle.job_sheet.specs.declared.outcome.Opened.{Opened}
use Rattle.job_sheet.specs.declared.record.EndpointRecord.{EndpointRecord}
use Rattle.job_sheet.specs.declared.record.RequestRecord.{RequestRecord}
use Rattle.job_sheet.specs.declared.sheet.Job.{Job}
use Rattle.job_sheet.specs.Outcomes.{slot_of}
use Rattle.job_sheet.specs.Sheets.{job_of, no_endpoint, no_request}
use Rattle.job_run.specs.Plain.{Ran}
use Rattle.ehci.specs.declared.reply.Answered.{Answered}
use Rattle.common.specs.declared.answer.Refusal.{Refusal}

-- ---- the controller

abbrev pub sheet_settings : Settings
sheet_settings =
    record {
      descriptors = 16;
      endpoints = 8;
      ports = 1;
      limit = 16384;
      wait = 1;
      pool = 0x100000;
      heads = 0x200000;
      frames = 0x300000;
      setups = 0x400000;
    }

abbrev pub after_call : Store → Call → Store
after_call w call = (call_store w call).store

unfoldable pub after_calls : Store → List Call → Store
after_calls w [] = w
after_calls w (c ∷ cs) = after_calls (after_call w c) cs

-- brought up through its own steps: stop, halted, reset, reset over, run, not halted
abbrev pub bring_up_calls : List Call
bring_up_calls =
    StartBringUp
    ∷ BringUpStep 0
    ∷ BringUpStep 0x1000
    ∷ BringUpStep 0
    ∷ BringUpStep 0
    ∷ BringUpStep 0
    ∷ BringUpStep 0
    ∷ []

unfoldable pub running_store : Store
running_store = after_calls (open_store blank_store sheet_settings).store bring_up_calls

-- ---- what a call gave

-- the slot, where one was opened
abbrev pub slot_told : Result Answered Refusal → Option ℕ
slot_told (Ok (Done (G.Slot k))) = Some k
slot_told _ = None

-- the id, where a request was accepted
abbrev pub id_told : Result Answered Refusal → Option ℕ
id_told (Ok (Done (G.Id id))) = Some id
id_told _ = None

-- ---- the endpoint records are opened, in order

abbrev pub open_call : EndpointRecord → Call
open_call e = OpenEndpoint (record { kind = kind_of e.kind; address = e.address; number = e.number; packet = e.packet })

abbrev pub opening : Ran → Called → Ran
opening ran c =
    record {
      store = c.store;
      opened = ran.opened ++ (record { answer = answered_number c.answer; slot = slot_told c.answer } ∷ []);
      submitted = ran.submitted;
    }

unfoldable pub open_step : Ran → EndpointRecord → Ran
open_step ran e = opening ran (call_store ran.store (open_call e))

-- the first so many
unfoldable pub opened_to : ℕ → Ran → Job → Ran
opened_to zero start job = start
opened_to (suc k) start job = open_step (opened_to k start job) (get_or (job_of job).endpoints k no_endpoint)

-- ---- then the requests are submitted, in order

-- a request's kind is its record's; one that is not there is refused whatever the kind
abbrev pub kind_for : Job → ℕ → EndpointType
kind_for job place = kind_of (get_or (job_of job).endpoints place no_endpoint).kind

-- the slot that its record's opening gave; 255, which is no slot, where it gave none
abbrev pub slot_for : List Opened → ℕ → ℕ
slot_for opened place = unwrap_or (slot_of opened place) 255

abbrev pub submit_call : Job → ℕ → RequestRecord → Call
submit_call job slot t =
    Submit slot
    (record { kind = kind_for job t.endpoint; direction = direction_of t.direction; setup = t.setup; address = t.buffer; length = t.length })
    (record { command = 0; frame = 0; overlay = 0 })

abbrev pub submitting : Ran → ℕ → Called → Ran
submitting ran slot c =
    record {
      store = c.store;
      opened = ran.opened;
      submitted = ran.submitted ++ (record { slot = slot; answer = answered_number c.answer; id = id_told c.answer } ∷ []);
    }

unfoldable pub submit_step : Ran → Job → RequestRecord → Ran
submit_step ran job t =
    let slot = slot_for ran.opened t.endpoint in
    submitting ran slot (call_store ran.store (submit_call job slot t))

unfoldable pub submitted_to : ℕ → Ran → Job → Ran
submitted_to zero start job = start
submitted_to (suc k) start job =
    submit_step (submitted_to k start job) job (get_or (job_of job).requests k no_request)

-- ---- the run of a job

abbrev pub start_of : Ran
start_of = record { store = running_store; opened = []; submitted = [] }

unfoldable pub run_of : Job → Ran
run_of job =
    submitted_to (length (job_of job).requests) (opened_to (length (job_of job).endpoints) start_of job) job
