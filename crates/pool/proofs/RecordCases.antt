-- What the calls on one record answer for a place inside the row, and for one beyond it.
use Prim.Native.Nat.{ℕ, ◌≤◌, ◌<◌}
use mathlib.Core.Path.{◌≡◌, refl, ap}
use mathlib.Core.List.{List}
use borrow.Author.Tests.{le-ltb, lt-ltb}
use lib.ListN.{length, get_or, set}
use Rattle.std.specs.Prelude.{Result, Ok, Err, IsErrAnd}
use Rattle.common.specs.Answers.{refusal_number}
use Rattle.common.specs.declared.answer.Refusal.{Refusal}
use Rattle.common.specs.declared.answer.Refusal.TheVariants.{InvalidParameter}
use Rattle.descriptor.specs.declared.qtd.QueueTransferDescriptor.{QueueTransferDescriptor}
use Rattle.pool.specs.Chains.{blank}
use Rattle.pool.specs.RecordCalls.{read_of, replace_of, replaced}

-- ---- what the calls return

module _ (rows : List QueueTransferDescriptor) (place : ℕ) where
  pub read_inside : place < length rows → (r : QueueTransferDescriptor) → r ≡ get_or rows place blank
      → ◌≡◌ {A = Result QueueTransferDescriptor Refusal} (Ok r) (read_of rows place)
  unfolding read_of
  read_inside h r e = rw (lt-ltb place (length rows) h) (ap (λ (d : QueueTransferDescriptor). Ok d) e)

  pub read_beyond : length rows ≤ place → ◌≡◌ {A = Result QueueTransferDescriptor Refusal} (Err InvalidParameter) (read_of rows place)
  unfolding read_of
  read_beyond h = rw (le-ltb place (length rows) h)

  pub replace_inside : (r : QueueTransferDescriptor) → place < length rows → replaced (Ok tt) (set rows place r) ≡ replace_of rows place r
  unfolding replace_of
  replace_inside r h = rw (lt-ltb place (length rows) h)

  pub replace_beyond : (r : QueueTransferDescriptor) → length rows ≤ place → replaced (Err InvalidParameter) rows ≡ replace_of rows place r
  unfolding replace_of
  replace_beyond r h = rw (le-ltb place (length rows) h)

-- ---- what the definitions say, by 01's numbers

module _ (rows : List QueueTransferDescriptor) (place : ℕ) where
  pub read_found : place < length rows → read_of rows place ≡ Ok (get_or rows place blank)
  unfolding read_of
  read_found h = rw (lt-ltb place (length rows) h)

  pub read_refused : length rows ≤ place → IsErrAnd (read_of rows place) (λ e. refusal_number e ≡ 1)
  unfolding read_of
  read_refused h = rw (le-ltb place (length rows) h) refl

  pub replace_done : (r : QueueTransferDescriptor) → place < length rows → ((replace_of rows place r).answer ≡ Ok tt) × ((replace_of rows place r).rows ≡ set rows place r)
  unfolding replace_of
  replace_done r h = rw (lt-ltb place (length rows) h) (refl, refl)

  pub replace_refused : (r : QueueTransferDescriptor) → length rows ≤ place
      → IsErrAnd (replace_of rows place r).answer (λ e. refusal_number e ≡ 1) × ((replace_of rows place r).rows ≡ rows)
  unfolding replace_of
  replace_refused r h = rw (le-ltb place (length rows) h) (refl, refl)
