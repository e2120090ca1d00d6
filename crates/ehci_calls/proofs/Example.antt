-- The world of the example is as it says: by computing.
use Rattle.std.specs.Prelude.{◌≡◌, true, false}
use mathlib.Core.Path.{refl}
use Rattle.register.specs.Bits.{only_bits, without_bits}
use Rattle.bitset.specs.Places.{all_below, none_in}
use Rattle.bitset.specs.Words.{ones_below}
use Rattle.settings.specs.Settings.{apart_areas, area_good, each_good, no_overlap, numbers_good, settings_good}
use Rattle.state.specs.Ranges.{doorbell_good, interrupt_good, machine_good}
use Rattle.opening.specs.Opening.{rows_are_fit}
use Rattle.words.specs.Opened.{opened_rest, opened_row}
use Rattle.words.specs.View.{state_of}
use Rattle.word_ranges.specs.Bounds.{bounds_of, size_right, word_good}
use Rattle.word_ranges.specs.Judge.{core_good, scalars_good, slots_good, words_good}
use Rattle.word_ranges.specs.Seen.{all_met, held_good, see_of, seen_from}
use Rattle.direct_calls.specs.Shapes.{takes_core}
use Rattle.ehci.specs.Replies.{refused_reply, replied}
use Rattle.ehci.specs.WordsDoor.{accepts_words, apply_words}
use Rattle.ehci_calls.specs.Example.{Differ, accepts, damaged, opened_core}
use Rattle.ehci_calls.proofs.UnjudgedLaws.{acknowledge_unjudged}

core_good_lem : takes_core opened_core ≡ true
unfolding core_good scalars_good settings_good numbers_good each_good no_overlap area_good apart_areas machine_good interrupt_good doorbell_good state_of opened_rest without_bits
core_good_lem = refl

row_accepted : accepts (opened_row 1) ≡ true
unfolding accepts_words rows_are_fit words_good slots_good all_met seen_from see_of held_good word_good size_right bounds_of all_below none_in ones_below opened_rest
row_accepted = rw core_good_lem

row_refused : accepts damaged ≡ false
unfolding accepts_words rows_are_fit words_good slots_good all_met seen_from see_of held_good word_good size_right bounds_of all_below none_in ones_below opened_rest
row_refused = rw core_good_lem

pub differ : Differ
unfolding apply_words refused_reply replied only_bits
differ =
    record {
      accepted = row_accepted;
      refused = row_refused;
      door_answers_1 = rw row_refused;
      call_answers_yes = λ r does. acknowledge_unjudged opened_core core_good_lem r 1 0 true true does refl;
    }
