-- Document 01, "Numbers a call answers", and the order of checks: the first check that holds answers.
use Rattle.std.specs.Prelude.{ℕ, Bool, true, false, List, [], ◌∷◌, Err, Ok, Result, ⊤}
use Rattle.common.specs.declared.answer.Refusal.{Refusal}
use Rattle.common.specs.declared.answer.Refusal.TheVariants.{InvalidParameter, SlotLimitReached, InvalidEndpoint, QueueFull, NotSupported, NoMemory, Timeout, NotReady}

abbrev pub refusal_number : Refusal → ℕ
refusal_number InvalidParameter = 1
refusal_number SlotLimitReached = 2
refusal_number InvalidEndpoint = 3
refusal_number QueueFull = 4
refusal_number NotSupported = 5
refusal_number NoMemory = 6
refusal_number Timeout = 7
refusal_number NotReady = 8

abbrev pub number_of : Result ⊤ Refusal → ℕ
number_of (Ok tt) = 0
number_of (Err r) = refusal_number r

-- ---- checks, then settle

pub data Verdict : Type 0 where
  passed : Verdict
  refused : Refusal → Verdict

-- a test and what it answers where it holds
abbrev pub Check : Type 0
Check = Bool × Refusal

abbrev pub or_else : Bool → Refusal → Verdict → Verdict
or_else true r v = refused r
or_else false r v = v

-- the first that holds answers
abbrev pub first : List Check → Verdict
first [] = passed
first (c ∷ cs) = or_else c.0 c.1 (first cs)

-- what a call leaves: the new, or on a refusal the old with that answer
abbrev pub settle : {A : Type 0} → Verdict → (Refusal → A) → A → A
settle passed old new = new
settle (refused r) old new = old r
