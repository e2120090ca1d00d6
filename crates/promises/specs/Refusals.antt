-- Refusals, on every world and call: "0, 9, 10 and 11 are results; the rest are refusals and leave all as before, but 7 leaves the
-- controller not running". And of any answer: "its register writes, at most 6".
use Rattle.std.specs.Prelude.{ℕ, ◌≤◌, ◌≢◌, ◌≡◌}
use Rattle.ehci.specs.declared.call.Call.{Call}
use Rattle.ehci.specs.Refusals.{Unmoved}
use Rattle.promises.specs.Runs.{Moment}
use Rattle.promises.specs.Rooms.{number_at}

abbrev pub RefusalsKeep : Moment → Type 0
RefusalsKeep w = (c : Call) (n : ℕ) → number_at w c ≡ n → n ≢ 0 → n ≢ 9 → n ≢ 10 → n ≢ 11
    → Unmoved w.view w.rows.pool w.rows.heads w.rows.frames w.rows.setups n (w.does c)

abbrev pub FewWrites : Moment → Type 0
FewWrites w = (c : Call) → (w.does c).reply.writes.count ≤ 6
