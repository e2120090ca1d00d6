-- Every accepted opening can be given in words: no word of the row is set, every place is free.
use Prim.Native.Nat.{ℕ, zero, suc, ◌*◌}
use mathlib.Core.Bool.{true}
use mathlib.Core.Path.{◌≡◌, refl, sym, subst}
use lib.Dec.{lit<}
use lib.ListN.{replicate}
use Rattle.bitset.specs.Places.{all_below}
use Rattle.bitset.specs.Words.{Fitting}
use Rattle.bitset.proofs.SetLaws.{all_words}
use Rattle.settings.specs.Settings.{settings_good}
use Rattle.settings.specs.declared.settings.Settings.{Settings}
use Rattle.state.specs.Plain.{Ehci}
use Rattle.words.specs.Opened.{opened_rest, opened_row}
use Rattle.words.specs.View.{state_of}
use Rattle.words.proofs.OpenedLaws.{tidy_opened, view_opened}
use Rattle.opening.specs.Opening.{fresh_state}
use Rattle.promises.specs.Runs.{Opening, WorldIn, in_plain}
use Rattle.promises.specs.WordsRuns.{Typed, in_words}
use Rattle.promises.proofs.invariants.Reached.{fresh_rows, opens_fresh}

abbrev pub fresh_words : Settings → WorldIn in_words
fresh_words s =
    record {
      state = record { core = record { settings = s; rest = opened_rest s.descriptors }; slots = opened_row s.endpoints };
      rows = fresh_rows s;
    }

zeros_fit : (n : ℕ) → Fitting (replicate n 0)
zeros_fit zero = tt
zeros_fit (suc n) = (lit< tt, zeros_fit n)

fresh_typed : (s : Settings) → Typed (opened_rest s.descriptors) (opened_row s.endpoints)
unfolding opened_rest all_below
fresh_typed s = record { four = refl; free_fits = all_words s.descriptors; row_fits = zeros_fit (6 * s.endpoints) }

fresh_view : (s : Settings) → state_of s (opened_rest s.descriptors) (opened_row s.endpoints) ≡ fresh_state s
unfolding fresh_state
fresh_view s = view_opened s

pub opens_words : (s : Settings) → settings_good s ≡ true → Opening s (fresh_words s)
opens_words s e =
    let o = subst (λ (x : Ehci). Opening {f = in_plain} s (record { state = x; rows = fresh_rows s })) (sym (fresh_view s)) (opens_fresh s e) in
    record {
      lent = o.lent;
      accepted = o.accepted;
      left = o.left;
      fresh = record {
        words = record { same_settings = refl; fresh = fresh_view s; tidy = tidy_opened s };
        typed = fresh_typed s;
      };
    }
