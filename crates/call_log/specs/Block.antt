-- A block: what a call did, as lines.
use Rattle.std.specs.Prelude.{ℕ, Bool, List, [], ◌∷◌, ◌++◌}
use Rattle.register.specs.declared.writes.Writes.{Writes}
use Rattle.state.specs.Plain.{Ehci}
use Rattle.text.specs.Text.{only_if}
use Rattle.call_log.specs.Changes.{frame_lines, head_lines, port_lines, record_lines, setup_lines, write_lines}
use Rattle.call_log.specs.Lines.{state_line}
use Rattle.call_log.specs.declared.block.Rows.{Rows}

-- P, H, F and S lines
unfoldable pub rows_lines : Rows → Rows → List ℕ
rows_lines before after =
    record_lines before.pool after.pool
    ++ (head_lines before.heads after.heads
    ++ (frame_lines before.frames after.frames ++ setup_lines 32 before.setups after.setups))

-- Q, once a controller is opened; W; then a line with a single `.`
unfoldable pub rest_lines : Bool → Ehci → Writes → List ℕ
rest_lines opened s writes = only_if opened (state_line s) ++ (write_lines writes ++ (46 ∷ 10 ∷ []))

-- the C line; what changed; U, where an accepted opening shows each port of its own controller; the rest
unfoldable pub block_of : List ℕ → Bool → Rows → Rows → Bool → Ehci → Writes → List ℕ
block_of first opening before after opened s writes =
    first ++ (rows_lines before after ++ (port_lines opening s.settings.ports before.ports after.ports ++ rest_lines opened s writes))
