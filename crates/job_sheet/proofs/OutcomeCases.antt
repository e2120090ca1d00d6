-- The loops of a listing: the lines of each number put after those of the numbers before.
use Prim.Native.Nat.{ℕ, ◌+◌, ◌*◌, ◌≤◌, ◌<◌}
use mathlib.Core.Path.{◌≡◌, refl, ◌∙◌}
use mathlib.Core.Bool.{Bool, true, false}
use mathlib.Core.List.{List, [], ◌++◌, append-nil}
use native.Mathlib.Omega.{arith}
use borrow.Author.Tests.{ne_eqb}
use lib.Dec.{eqb}
use lib.ListN.{get_or, length}
use Rattle.descriptor.specs.declared.qtd.QueueTransferDescriptor.{QueueTransferDescriptor}
use Rattle.pool.specs.Chains.{blank}
use Rattle.common.specs.Rows.{put_at}
use Rattle.text.specs.Text.{lines_to, only_if}
use Rattle.text.proofs.LineLaws.{get_d_any, hidden, lines_none, lines_turn, shown}
use Rattle.std.specs.Prelude.{unwrap_or}
use Rattle.job_sheet.specs.declared.outcome.Opened.{Opened}
use Rattle.job_sheet.specs.declared.outcome.Outcome.{Outcome}
use Rattle.job_sheet.specs.declared.outcome.Submitted.{Submitted}
use Rattle.job_sheet.specs.Few.{items}
use Rattle.job_sheet.specs.Listing.{descriptor_line, endpoint_line, request_line}
use Rattle.job_sheet.specs.Outcomes.{answered_lines, lines_of, not_opened, not_submitted, opened_line, place_line, place_lines}
use Rattle.job_sheet.proofs.ListingCases.{then}

-- what a function put, in at most so many bytes
abbrev pub Within : List ℕ → ℕ → List ℕ → List ℕ → ℕ → ℕ → Type 0
Within o at a p i most = (p ≡ put_at o at a) × ((i ≡ at + length a) × (i ≤ at + most))

-- what a loop put, before number k
pub record Lined (lines : ℕ → List ℕ) (each : ℕ) (o : List ℕ) (at : ℕ) (p : List ℕ) (i k : ℕ) : Type 0 where
  pub same : length p ≡ length o
  pub put : p ≡ put_at o at (lines_to lines k)
  pub place : i ≡ at + length (lines_to lines k)
  pub few : i ≤ at + each * k

-- what the code's reading has for a place that is not there; what a place that is there holds does not hang on it
abbrev absent : QueueTransferDescriptor
absent = record { next = 0; alternate = 0; token = 0; pages = []; upper = [] }

module _ (o : List ℕ) (at : ℕ) where
  pub one_then_other : (a p b q : List ℕ) (i r m n : ℕ) → at ≤ length o → Within o at a p i m → Within p i b q r n → Within o at (a ++ b) q r (m + n)
  one_then_other a p b q i r m n h f g =
      let e = then o at h a p b q i r (f.0, f.1.0) (g.0, g.1.0) in
      (e.0, (e.1, omega (arith, f.1.1, g.1.1)))

  pub shown_put : (a q : List ℕ) (r most : ℕ) (b : Bool) → b ≡ true → Within o at a q r most → Within o at (only_if b a) q r most
  shown_put a q r most b t f =
      let e = shown o at b a q r t f.0 f.1.0 in
      (e.0, (e.1, f.1.1))

  pub hidden_put : (a : List ℕ) (most : ℕ) (b : Bool) → b ≡ false → Within o at (only_if b a) o at most
  hidden_put a most b t =
      let e = hidden o at b a t in
      (e.0, (e.1, omega arith))

  pub place_put : (owner : List ℕ) (pool : List QueueTransferDescriptor) (slot k : ℕ) (q : List ℕ) (r most : ℕ) → k < length pool
      → Within o at (only_if (eqb (get_or owner k 0) (slot + 1)) (descriptor_line k (get_or pool k absent))) q r most
      → Within o at (place_line owner pool slot k) q r most
  place_put owner pool slot k q r most h f = rw (get_d_any pool k blank absent h) f

  pub opened_put : (opened : List Opened) (k : ℕ) (d : Opened) (q : List ℕ) (r most : ℕ) → k < length opened
      → Within o at (endpoint_line k (get_or opened k d).answer) q r most → Within o at (opened_line opened k) q r most
  opened_put opened k d q r most h f = rw (get_d_any opened k not_opened d h) f

  pub submitted_put : (ran : Outcome) (xs : List Submitted) (k : ℕ) (d : Submitted) (q : List ℕ) (r most : ℕ) → xs ≡ items ran.submitted → k < length xs
      → Within o at (answered_lines ran k (get_or xs k d)) q r most → Within o at (lines_of ran k) q r most
  unfolding answered_lines
  submitted_put ran xs k d q r most e h f = rw (← e, get_d_any xs k not_submitted d h) f

  module _ (ran : Outcome) (k : ℕ) (s : Submitted) (q : List ℕ) (r : ℕ) where
    pub accepted_put : (id most : ℕ) → id ≡ unwrap_or s.id 0 → s.answer ≡ 0
        → Within o at (request_line k 0 id ++ place_lines ran.owner ran.pool s.slot) q r most → Within o at (answered_lines ran k s) q r most
    unfolding answered_lines
    accepted_put id most ei e f = rw (e, ← ei) f

    pub refused_put : (s.answer ≡ 0 → ⊥) → Within o at (request_line k s.answer 0) q r 65 → Within o at (answered_lines ran k s) q r 1441
    unfolding answered_lines
    refused_put e f = rw (ne_eqb s.answer 0 e, append-nil) (f.0, (f.1.0, omega (arith, f.1.1)))

  module _ (lines : ℕ → List ℕ) (each : ℕ) where
    pub lined_none : Lined lines each o at o at 0
    lined_none =
        let e = lines_none lines o at in
        record { same = refl; put = e.0; place = e.1; few = omega arith }

    -- a turn of a loop
    pub lined_turn : (p q : List ℕ) (i k r : ℕ) → at ≤ length o → Lined lines each o at p i k → length q ≡ length p
        → Within p i (lines k) q r each → Lined lines each o at q r (k + 1)
    lined_turn p q i k r h l s g =
        let e = lines_turn lines o p q at i r k h l.put l.place g.0 g.1.0 in
        record { same = s ∙ l.same; put = e.0; place = e.1; few = omega (arith, l.few, g.1.1) }

    pub lined_done : (p : List ℕ) (i k n most : ℕ) → k ≤ n → n ≤ k → each * n ≤ most → Lined lines each o at p i k
        → Within o at (lines_to lines n) p i most
    lined_done p i k n most a b m l =
        let all : k ≡ n = omega arith in
        rw (← all) (l.put, (l.place, omega (arith, l.few, rw (← all) at m)))
