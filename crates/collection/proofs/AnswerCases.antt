-- The returns of the answers.
use Rattle.std.specs.Prelude.{◌≡◌, Bool, true, false, Err, Ok, Result, ⊤}
use borrow.Author.Tests.{eq-eqb, ne_eqb}
use Rattle.pool.specs.declared.chain.View.{View}
use Rattle.common.specs.declared.answer.Refusal.{Refusal}
use Rattle.collection.specs.declared.collected.Collected.TheVariants.{Complete, Cancelled, Failed}
use Rattle.collection.specs.Answers.{outcome_of, pending_of}

module _ (b : Bool) (v : View) where
  pub outcome_cancelled : b ≡ true → (Ok Cancelled) ≡ outcome_of b v
  unfolding outcome_of
  outcome_cancelled e = rw e

  pub outcome_failed : b ≡ false → (v.failed ≡ 0 → ⊥) → Ok (Failed v.failed) ≡ outcome_of b v
  unfolding outcome_of
  outcome_failed e n = rw (e, ne_eqb v.failed 0 n)

  pub outcome_complete : b ≡ false → v.failed ≡ 0 → Ok (Complete (record { length = v.moved; retried = v.retried })) ≡ outcome_of b v
  unfolding outcome_of
  outcome_complete e z = rw (e, eq-eqb v.failed 0 z)

pub pending_refused : (a : (Result ⊤ Refusal)) (r : Refusal) → a ≡ Err r → Err r ≡ pending_of a
pending_refused a r e = rw e
