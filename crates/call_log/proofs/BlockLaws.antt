-- A whole block fits in 131,072 bytes, with room for a line besides.
use Rattle.std.specs.Prelude.{◌≡◌, ℕ, ◌+◌, ◌≤◌, min, Bool, List, [], ◌∷◌, ◌++◌, length, get_or}
use mathlib.Core.List.{append_assoc}
use native.Mathlib.Omega.{arith}
use lib.ListN.{length-append, length-take}
use Rattle.common.specs.Rows.{put_at}
use Rattle.pool.specs.Chains.{blank}
use Rattle.register.specs.declared.writes.Writes.{Writes}
use Rattle.register.specs.Writes.{list_of}
use Rattle.text.specs.Text.{only_if}
use Rattle.text.proofs.LineLaws.{lines_most, only_most}
use Rattle.text.proofs.Puts.{put_then}
use Rattle.text.proofs.TextLaws.{decimal_length, hex_length}
use Rattle.call_log.specs.Block.{rows_lines}
use Rattle.call_log.specs.Changes.{frame_change, frame_lines, head_change, head_lines, port_change, port_lines, record_change, record_lines, setup_change, setup_lines, write_at, write_lines}
use Rattle.call_log.specs.Lines.{line_bytes, line_of, said_line, shown_line, write_line}
use Rattle.call_log.specs.Words.{block_shown, rest_shown}
use Rattle.call_log.specs.declared.block.Rows.{Rows}
use Rattle.call_log.specs.declared.line.Line.{Line}
use Rattle.call_log.specs.declared.lines.Seen.{Seen}
use Rattle.call_log.proofs.ChangeCases.{frame_most, head_most, port_most, record_most, setup_most, write_most}
use Rattle.call_log.proofs.LineCases.{parts_most}

-- any line that the code puts
pub line_most : (line : Line) → length line.row ≡ 14 → length (line_bytes line) ≤ 296
unfolding line_bytes said_line
line_most line h = simp length-append (omega (arith, parts_most line.count line.row 14 (omega arith)))

shown_most : (x : Seen) → length (shown_line x) ≤ 174
unfolding shown_line line_of
shown_most x =
    simp length-append
    (omega (
      arith,
      decimal_length x.running,
      decimal_length x.flag,
      decimal_length x.doorbell,
      decimal_length x.note,
      decimal_length x.unanswered,
      hex_length x.pending 8,
      hex_length x.masked 8,
      decimal_length x.free,
      decimal_length x.address,
    ))

pub records_most : (b a : Rows) → length (record_lines b.pool a.pool) ≤ 35980
records_most b a = lines_most (λ i. record_change i (get_or b.pool i blank) (get_or a.pool i blank)) 140 (λ i. record_most i _ _) 257

pub heads_most : (b a : List ℕ) → length a ≤ 561 → length (head_lines b a) ≤ 29733
heads_most b a h = omega (arith, lines_most (λ i. head_change i (get_or b i 0) (get_or a i 0)) 53 (λ i. head_most i _ _) (length a))

pub frames_most : (b a : List ℕ) → length a ≤ 1024 → length (frame_lines b a) ≤ 54272
frames_most b a h = omega (arith, lines_most (frame_change b a) 53 (frame_most b a) (length a))

pub setups_most : (b a : List ℕ) → length (setup_lines 32 b a) ≤ 1280
setups_most b a = lines_most (setup_change b a) 40 (setup_most b a) 32

pub rows_most : (b a : Rows) → length a.heads ≤ 561 → length a.frames ≤ 1024 → length (rows_lines b a) ≤ 121265
unfolding rows_lines
rows_most b a h g =
    simp length-append
    (omega (arith, records_most b a, heads_most b.heads a.heads h, frames_most b.frames a.frames g, setups_most b.setups a.setups))

pub ports_most : (all : Bool) (n : ℕ) (b a : List ℕ) → length a ≤ 15 → length (port_lines all n b a) ≤ 660
ports_most all n b a h =
    omega (arith, lines_most (λ i. port_change all i (get_or b i 0) (get_or a i 0)) 44 (λ i. port_most all i _ _) (min n (length a)))

pub writes_most : (w : Writes) → length w.writes ≡ 6 → length (write_lines w) ≤ 84
writes_most w h =
    omega (arith, lines_most (λ i. write_line (write_at w i).offset (write_at w i).value) 14 (λ i. write_most _ _) (length (list_of w)), length-take w.count w.writes)

pub block_fits : (first : List ℕ) (opening : Bool) (b a : Rows) (opened : Bool) (ports : ℕ) (x : Seen) (w : Writes) → length first ≤ 296 → length a.heads ≤ 561
    → length a.frames ≤ 1024 → length a.ports ≤ 15 → length w.writes ≡ 6 → length (block_shown first opening b a opened ports x w) + 296 ≤ 131072
unfolding block_shown rest_shown
block_fits first opening b a opened ports x w f h g p c =
    let q : length (only_if opened (shown_line x)) ≤ 174 = only_most opened (shown_line x) 174 (shown_most _) in
    simp length-append (omega (arith, rows_most b a h g, ports_most opening ports b.ports a.ports p, writes_most w c))

-- ---- put one after the other

pub rows_put : (o p q s t : List ℕ) (at i j k r : ℕ) (b a : Rows) → at ≤ length o
    → p ≡ put_at o at (record_lines b.pool a.pool) → i ≡ at + length (record_lines b.pool a.pool)
    → q ≡ put_at p i (head_lines b.heads a.heads) → j ≡ i + length (head_lines b.heads a.heads)
    → s ≡ put_at q j (frame_lines b.frames a.frames) → k ≡ j + length (frame_lines b.frames a.frames)
    → t ≡ put_at s k (setup_lines 32 b.setups a.setups) → r ≡ k + length (setup_lines 32 b.setups a.setups)
    → (t ≡ put_at o at (rows_lines b a)) × (r ≡ at + length (rows_lines b a))
unfolding rows_lines
rows_put o p q s t at i j k r b a h e l f m g n d x =
    let R = record_lines b.pool a.pool in
    let H = head_lines b.heads a.heads in
    let F = frame_lines b.frames a.frames in
    let S = setup_lines 32 b.setups a.setups in
    let two = put_then o p q R H at i j h e l f m in
    let three = put_then o q s (R ++ H) F at j k h two.0 two.1 g n in
    let four = put_then o s t ((R ++ H) ++ F) S at k r h three.0 three.1 d x in
    let flat : ((R ++ H) ++ F) ++ S ≡ R ++ (H ++ (F ++ S)) = simp append_assoc in
    rw (← flat) four

pub rest_put : (o p q t : List ℕ) (at i j r : ℕ) (opened : Bool) (x : Seen) (w : Writes) → at ≤ length o
    → p ≡ put_at o at (only_if opened (shown_line x)) → i ≡ at + length (only_if opened (shown_line x))
    → q ≡ put_at p i (write_lines w) → j ≡ i + length (write_lines w)
    → t ≡ put_at q j (46 ∷ 10 ∷ []) → r ≡ j + 2
    → (t ≡ put_at o at (rest_shown opened x w)) × (r ≡ at + length (rest_shown opened x w))
unfolding rest_shown
rest_put o p q t at i j r opened x w h e l f m g n =
    let Q = only_if opened (shown_line x) in
    let two = put_then o p q Q (write_lines w) at i j h e l f m in
    let three = put_then o q t (Q ++ write_lines w) (46 ∷ 10 ∷ []) at j r h two.0 two.1 g n in
    rw (← append_assoc Q (write_lines w) (46 ∷ 10 ∷ [])) three

pub state_most : (opened : Bool) (x : Seen) → length (only_if opened (shown_line x)) ≤ 174
state_most opened x = only_most opened (shown_line x) 174 (shown_most _)

pub block_put : (o p q u t first : List ℕ) (i j k r : ℕ) (opening : Bool) (b a : Rows) (opened : Bool) (ports : ℕ) (x : Seen) (w : Writes)
    → p ≡ put_at o 0 first → i ≡ length first
    → q ≡ put_at p i (rows_lines b a) → j ≡ i + length (rows_lines b a)
    → u ≡ put_at q j (port_lines opening ports b.ports a.ports) → k ≡ j + length (port_lines opening ports b.ports a.ports)
    → t ≡ put_at u k (rest_shown opened x w) → r ≡ k + length (rest_shown opened x w)
    → (t ≡ put_at o 0 (block_shown first opening b a opened ports x w)) × (r ≡ length (block_shown first opening b a opened ports x w))
unfolding block_shown
block_put o p q u t first i j k r opening b a opened ports x w e l f m g n d y =
    let R = rows_lines b a in
    let U = port_lines opening ports b.ports a.ports in
    let T = rest_shown opened x w in
    let two = put_then o p q first R 0 i j (omega arith) e (omega arith) f m in
    let three = put_then o q u (first ++ R) U 0 j k (omega arith) two.0 two.1 g n in
    let four = put_then o u t ((first ++ R) ++ U) T 0 k r (omega arith) three.0 three.1 d y in
    let flat : ((first ++ R) ++ U) ++ T ≡ first ++ (R ++ (U ++ T)) = simp append_assoc in
    rw (← flat) (four.0, omega (arith, four.1))
