-- What `?` passes on: the refusal as it was.
use mathlib.Core.Path.{◌≡◌, refl, ap}
use Rattle.std.specs.Prelude.{Result, Ok, Err, IsErrAnd}

pub passed_on : {T E : Type 0} (r : Result T E) (e : E) (P : E → Type 0) → ((x : E) → P x → x ≡ e) → IsErrAnd r P → r ≡ Err e
passed_on (Ok x) e P f p = absurd p
passed_on (Err q) e P f p = ap Err (f q p)
