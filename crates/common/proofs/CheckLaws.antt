-- Checks, then settle: what the first check that holds does, and what it means that none did.
use Rattle.std.specs.Prelude.{Err, Ok, Result, ⊤}
use Prim.Native.Nat.{ℕ}
use mathlib.Core.Path.{◌≡◌, refl, ap}
use mathlib.Core.Bool.{Bool, true, false}
use native.Mathlib.Omega.{arith}
use Rattle.common.specs.Answers.{Verdict, passed, refused, or_else, settle}
use Rattle.common.specs.declared.answer.Refusal.{Refusal}

abbrev verdict_number : Verdict → ℕ
verdict_number passed = 1
verdict_number (refused r) = 0

pub verdicts_apart : (r : Refusal) → refused r ≡ passed → ⊥
verdicts_apart r e = let z : ◌≡◌ {A = ℕ} 0 1 = ap verdict_number e in omega arith

abbrev pub verdict_of : Result ⊤ Refusal → Verdict
verdict_of (Ok tt) = passed
verdict_of (Err r) = refused r

pub answers_apart : (r : Refusal) → ◌≡◌ {A = Result ⊤ Refusal} (Err r) (Ok tt) → ⊥
answers_apart r e = verdicts_apart r (ap verdict_of e)

-- a check that let the call pass said false
pub let_pass : (b : Bool) (r : Refusal) (v : Verdict) → or_else b r v ≡ passed → (b ≡ false) × (v ≡ passed)
let_pass false r v e = (refl, e)
let_pass true r v e = absurd (verdicts_apart r e)

-- checks, then settle: what holds of a refusal and of what is new holds of what is left
pub settled_by : {A : Type 0} (v : Verdict) (old : Refusal → A) (new : A) (P : A → Type 0)
    → ((r : Refusal) → v ≡ refused r → P (old r)) → (v ≡ passed → P new) → P (settle v old new)
settled_by passed old new P denied done = done refl
settled_by (refused r) old new P denied done = denied r refl
