-- Document 01: "Writeback (place, token): 1 unless an uncollected request has that descriptor; only its token changes."
use Rattle.std.specs.Prelude.{ℕ, ◌-◌, Bool, not, ◌&&◌, List, [], ◌∷◌, nat_le, nat_lt, slice_index, Err, Ok}
use Rattle.pool.specs.Chains.{no_chain}
use Rattle.pool.specs.Places.{packed}
use Rattle.pool.specs.Plain.{Chain}
use Rattle.pool.specs.Plain.{Token}
use Rattle.state.specs.Plain.{Ehci}
use Rattle.common.specs.Answers.{Check, first, settle}
use Rattle.controller.specs.Lent.{accepts_of}
use Rattle.controller.specs.Readers.{is_uncollected}
use Rattle.common.specs.declared.answer.Refusal.{Refusal}
use Rattle.common.specs.declared.answer.Refusal.TheVariants.{InvalidParameter}
use Rattle.controller.specs.Plain.{Lengths}
use Rattle.request.specs.Plain.{WrittenBack}

abbrev pub owner_at : Ehci → ℕ → ℕ
owner_at s place = slice_index s.owner place

-- one of the D places, owned by a slot whose request is uncollected
unfoldable pub in_request : Ehci → ℕ → Bool
in_request s place =
    nat_lt place s.settings.descriptors && (nat_le 1 (owner_at s place) && is_uncollected s (owner_at s place - 1))

abbrev pub token_chain : Ehci → ℕ → ℕ → Chain
token_chain s place token = record { places = packed (place ∷ []); base = s.settings.pool; deed = Token token }

unfoldable pub refused_writeback : Ehci → Refusal → WrittenBack
refused_writeback s r = record { answer = Err r; state = s; chain = no_chain }

abbrev pub writeback_checks : Ehci → Lengths → ℕ → List Check
writeback_checks s lent place =
    (not (accepts_of s lent), InvalidParameter) ∷ (not (in_request s place), InvalidParameter) ∷ []

unfoldable pub writeback_of : Ehci → Lengths → ℕ → ℕ → WrittenBack
writeback_of s lent place token =
    settle
    (first (writeback_checks s lent place))
    (refused_writeback s)
    (record { answer = Ok tt; state = s; chain = token_chain s place token })
