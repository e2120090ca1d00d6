-- The returns of one turn of a log.
use Prim.Native.Nat.{ℕ, ◌+◌, ◌≤◌}
use mathlib.Core.Bool.{true}
use mathlib.Core.Path.{◌≡◌, refl}
use mathlib.Core.List.{List, [], ◌∷◌, ◌++◌}
use native.Mathlib.Omega.{arith}
use Rattle.std.specs.Prelude.{None, Some, slice_get}
use Rattle.std.specs.Option.{unwrap_or}
use lib.ListN.{get_or, length}
use Rattle.call_log.specs.Block.{block_of}
use Rattle.call_log.specs.Lines.{line_bytes}
use Rattle.call_log.specs.Records.{entry_of}
use Rattle.call_log.specs.declared.block.Rows.{Rows}
use Rattle.call_log.specs.declared.record.Entry.{Entry}
use Rattle.common.specs.Rows.{put_at}
use Rattle.text.specs.Text.{decimal}
use Rattle.text.proofs.Puts.{put_then}
use Rattle.text.proofs.TextLaws.{decimal_length}
use Rattle.call_log.specs.Words.{Shows}
use Rattle.store.specs.Words.{lent_slots}
use Rattle.words.specs.View.{view}
use Rattle.replayer.specs.Replays.{act_of, bad_line, rows_of, said_of, shown_of, turned_of}
use Rattle.replayer.specs.Words.{effect_of, keeper_view, turned_view}
use Rattle.replayer.specs.declared.keeper.Acted.{Acted}
use Rattle.replayer.specs.declared.kept.Keeper.{Keeper}

-- what is put from the first byte on, and where it ends
abbrev pub Said : List ℕ → List ℕ → ℕ → List ℕ → Type 0
Said o p r a = (p ≡ put_at o 0 a) × ((r ≡ length a) × (r ≤ length p))

abbrev bad : List ℕ
bad = 98 ∷ 97 ∷ 100 ∷ 32 ∷ 114 ∷ 101 ∷ 99 ∷ 111 ∷ 114 ∷ 100 ∷ 32 ∷ []

pub bad_put : (o p q s : List ℕ) (i r n : ℕ) → 131072 ≤ length s → p ≡ put_at o 0 bad → q ≡ put_at p 11 (decimal n) → i ≡ 11 + length (decimal n)
    → s ≡ put_at q i (10 ∷ []) → r ≡ i + 1 → Said o s r (bad_line n)
unfolding bad_line
bad_put o p q s i r n room e f l g m =
    let two = put_then o p q bad (decimal n) 0 11 i (omega arith) e refl f l in
    let three = put_then o q s (bad ++ decimal n) (10 ∷ []) 0 i r (omega arith) two.0 two.1 g m in
    (three.0, (omega (arith, three.1), omega (arith, m, l, decimal_length n)))

-- a block, of any row of slots that the core was opened with
abbrev pub Shown : List ℕ → List ℕ → ℕ → Acted → Rows → Rows → Type 0
Shown o p r a b f =
    ((ws : List ℕ) → (a.keeper.opened ≡ true → Shows a.keeper.store.core ws)
    → p ≡ put_at o 0 (block_of (line_bytes a.line) a.opening b f a.keeper.opened (view a.keeper.store.core ws) a.writes))
    × (((ws : List ℕ) → (a.keeper.opened ≡ true → Shows a.keeper.store.core ws)
    → r ≡ length (block_of (line_bytes a.line) a.opening b f a.keeper.opened (view a.keeper.store.core ws) a.writes))
    × (r ≤ length p))

pub shown_put : (k : Keeper) (a : Acted) (b f : Rows) (o p : List ℕ) (r : ℕ) → b ≡ rows_of (keeper_view k) → f ≡ rows_of (keeper_view a.keeper)
    → Shown o p r a b f → Said o p r (shown_of (keeper_view k) (effect_of a))
unfolding shown_of
shown_put k a b f o p r e g s =
    let ws = lent_slots a.keeper.store in
    let shows : a.keeper.opened ≡ true → Shows a.keeper.store.core ws = λ q. record { settings_are_good = (a.keeper.kept q).settings_are_good; tidy = (a.keeper.kept q).tidy } in
    rw (← e, ← g) (s.0 ws shows, (s.1.0 ws shows, s.1.1))

module _ (k : Keeper) (n : ℕ) (bytes : List ℕ) (o p : List ℕ) (r : ℕ) where
  pub turn_bad : entry_of bytes ≡ None → Said o p r (bad_line n)
      → (p ≡ put_at o 0 (said_of (keeper_view k) n bytes))
      × ((turned_view (record { keeper = None; end = r }) ≡ turned_of (keeper_view k) n bytes) × (r ≤ length p))
  unfolding said_of turned_of
  turn_bad e s = rw e (s.0, (rw s.1.0, s.1.1))

  pub turn_good : (entry : Entry) (number : ℕ) (a : Acted) → entry_of bytes ≡ Some entry → number ≡ get_or bytes 0 0
      → effect_of a ≡ act_of (keeper_view k) n number (Some entry) → Said o p r (shown_of (keeper_view k) (effect_of a))
      → (p ≡ put_at o 0 (said_of (keeper_view k) n bytes))
      × ((turned_view (record { keeper = Some a.keeper; end = r }) ≡ turned_of (keeper_view k) n bytes) × (r ≤ length p))
  unfolding said_of turned_of shown_of
  turn_good entry number a e first does s = rw (e, ← first, ← does) (s.0, (rw s.1.0, s.1.1))

pub first_is : (bytes : List ℕ) → unwrap_or (slice_get bytes 0) 0 ≡ get_or bytes 0 0
first_is [] = refl
first_is (b ∷ bytes) = refl
