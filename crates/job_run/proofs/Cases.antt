-- Cases of a job's run, from what the callees say.
use Prim.Native.Nat.{ℕ, zero, suc, ◌+◌}
use mathlib.Core.Path.{◌≡◌, refl, sym, ap, ◌∙◌}
use mathlib.Core.List.{List, [], ◌∷◌, ◌++◌}
use native.Mathlib.Numerals.{add-one}
use native.Mathlib.Omega.{arith}
use lib.ListN.{get_or, length, length-append}
use Rattle.std.specs.Prelude.{Option}
use Rattle.ehci.specs.declared.call.Call.{Call}
use Rattle.ehci.specs.Replies.{answered_number}
use Rattle.store.specs.declared.store.Called.{Called}
use Rattle.store.specs.Words.{called_view, store_view}
use Rattle.job_sheet.specs.declared.outcome.Opened.{Opened}
use Rattle.job_sheet.specs.declared.outcome.Submitted.{Submitted}
use Rattle.job_run.specs.declared.run.Ran as code
use Rattle.job_run.specs.Words.{ran_view}
use Rattle.ehci.specs.declared.call.Call.TheVariants.{BringUpStep, StartBringUp}
use Rattle.store.specs.Plain.{OpenedStore, Store}
use Rattle.settings.specs.declared.settings.Settings.{Settings}
use Rattle.store.specs.Stores.{blank_store, call_store, open_store}
use Rattle.job_sheet.specs.declared.record.EndpointRecord.{EndpointRecord}
use Rattle.job_sheet.specs.declared.record.RequestRecord.{RequestRecord}
use Rattle.job_sheet.specs.declared.sheet.Job.{Job}
use Rattle.job_sheet.specs.Few.{items}
use Rattle.job_sheet.specs.Sheets.{job_of, no_endpoint, no_request}
use Rattle.job_run.specs.Plain.{Ran}
use Rattle.job_run.specs.Runs.{after_call, after_calls, id_told, open_call, open_step, opened_to, opening, run_of, running_store, sheet_settings, slot_for, slot_told, submit_call, submit_step, submitted_to, submitting}

-- ---- one call

module _ (ran : code.Ran) (c : Called) (call : Call) (n : ℕ) (ec : called_view c ≡ call_store (store_view ran.store) call) (en : n ≡ answered_number c.answer) where
  pub open_step_is : (e : EndpointRecord) (slot : Option ℕ) (pushed : List Opened) → call ≡ open_call e → slot ≡ slot_told c.answer
      → pushed ≡ items ran.opened ++ (record { answer = n; slot = slot } ∷ [])
      → record { store = store_view c.store; opened = pushed; submitted = items ran.submitted } ≡ open_step (ran_view ran) e
  unfolding open_step
  open_step_is e slot pushed el es ep =
      rw (ep, en, es) (ap (opening (ran_view ran)) (ec ∙ ap (call_store (store_view ran.store)) el))

  pub submit_step_is : (job : Job) (t : RequestRecord) (slot : ℕ) (id : Option ℕ) (pushed : List Submitted) → slot ≡ slot_for (items ran.opened) t.endpoint
      → call ≡ submit_call job slot t → id ≡ id_told c.answer → pushed ≡ items ran.submitted ++ (record { slot = slot; answer = n; id = id } ∷ [])
      → record { store = store_view c.store; opened = items ran.opened; submitted = pushed } ≡ submit_step (ran_view ran) job t
  unfolding submit_step
  submit_step_is job t slot id pushed es el ei ep =
      rw (ep, en, ei, ← es) (ap (submitting (ran_view ran) slot) (ec ∙ ap (call_store (store_view ran.store)) el))

-- ---- how many

pub opened_count : (k : ℕ) (start : Ran) (job : Job) → length (opened_to k start job).opened ≡ length start.opened + k
unfolding opened_to open_step
opened_count zero start job = omega arith
opened_count (suc k) start job = rw (length-append, opened_count k start job) (omega arith)

pub submitted_count : (k : ℕ) (start : Ran) (job : Job) → length (submitted_to k start job).submitted ≡ length start.submitted + k
unfolding submitted_to submit_step
submitted_count zero start job = omega arith
submitted_count (suc k) start job = rw (length-append, submitted_count k start job) (omega arith)

pub none_submitted : (k : ℕ) (start : Ran) (job : Job) → (opened_to k start job).submitted ≡ start.submitted
unfolding opened_to open_step
none_submitted zero start job = refl
none_submitted (suc k) start job = none_submitted k start job

-- ---- one turn more

pub open_turn : (start : Ran) (job : Job) (k : ℕ) (ran next : Ran) (e : EndpointRecord) → ran ≡ opened_to k start job → e ≡ get_or (job_of job).endpoints k no_endpoint
    → next ≡ open_step ran e → next ≡ opened_to (k + 1) start job
unfolding opened_to
open_turn start job k ran next e er ee en = en ∙ rw (er, ee) (ap (λ (m : ℕ). opened_to m start job) (sym (add-one k)))

pub submit_turn : (start : Ran) (job : Job) (k : ℕ) (ran next : Ran) (t : RequestRecord) → ran ≡ submitted_to k start job → t ≡ get_or (job_of job).requests k no_request
    → next ≡ submit_step ran job t → next ≡ submitted_to (k + 1) start job
unfolding submitted_to
submit_turn start job k ran next t er et en = en ∙ rw (er, et) (ap (λ (m : ℕ). submitted_to m start job) (sym (add-one k)))

-- ---- the controller

pub running_is : (b : Store) (s : Settings) (o : OpenedStore) (w₁ w₂ w₃ w₄ w₅ w₆ w₇ : Store) → b ≡ blank_store → s ≡ sheet_settings → o ≡ open_store b s → w₁ ≡ after_call o.store StartBringUp
    → w₂ ≡ after_call w₁ (BringUpStep 0) → w₃ ≡ after_call w₂ (BringUpStep 0x1000) → w₄ ≡ after_call w₃ (BringUpStep 0) → w₅ ≡ after_call w₄ (BringUpStep 0)
    → w₆ ≡ after_call w₅ (BringUpStep 0) → w₇ ≡ after_call w₆ (BringUpStep 0) → w₇ ≡ running_store
unfolding running_store after_calls
running_is b s o w₁ w₂ w₃ w₄ w₅ w₆ w₇ eb es eo e₁ e₂ e₃ e₄ e₅ e₆ e₇ = e₇ ∙ rw (e₆, e₅, e₄, e₃, e₂, e₁, eo, eb, es)

-- ---- the run

pub run_is : (job : Job) (w : Store) (os : List Opened) (ss : List Submitted) (o r : Ran) → w ≡ running_store → os ≡ [] → ss ≡ []
    → o ≡ opened_to (length (items job.endpoints)) (record { store = w; opened = os; submitted = ss }) job
    → r ≡ submitted_to (length (items job.requests)) o job → r ≡ run_of job
unfolding run_of
run_is job w os ss o r ew en es eo er = er ∙ rw (eo, ew, en, es)
