-- The definitions run: a request in chunks at the places of a set, a token at one place, and what their tokens say.
use mathlib.Core.Path.{◌≡◌, refl}
use mathlib.Core.List.{List, [], ◌∷◌}
use lib.ListN.{get_or, replicate}
use Rattle.bitset.specs.Places.{set_places}
use Rattle.bitset.specs.Words.{places_of}
use Rattle.common.specs.declared.kinds.Direction.TheVariants.{In}
use Rattle.common.specs.declared.kinds.EndpointType.TheVariants.{Bulk}
use Rattle.token.specs.Tokens.{token_of}
use Rattle.descriptor.specs.declared.qtd.QueueTransferDescriptor.{QueueTransferDescriptor as Record}
use Rattle.descriptor.specs.Descriptors.{new_qtd, terminated, with_next}
use Rattle.descriptor.specs.Slots.{page_slots, zero_slots}
use Rattle.pool.specs.declared.laying.Laying.{Laying}
use Rattle.pool.specs.Places.{up_from}
use Rattle.pool.specs.Transfers.{bare_at, chunk_qtd, record_at, requested_at}
use Rattle.pool.specs.declared.chain.Standing.TheVariants.{Inactive}
use Rattle.pool.specs.Chains.{blank, filled_from, first_error, length_of, retried_of, seen_from, standing_of, view_of}
use Rattle.std.specs.Prelude.{Some, None}
use Rattle.pool.specs.Words.{opened_to, no_laying, written_with}

-- bulk In, 16385 bytes in chunks of 16384, at places 0 and 2
abbrev two_chunks : Laying
two_chunks =
    record {
      places = 5 ∷ 0 ∷ 0 ∷ 0 ∷ [];
      base = 1048576;
      transfer = record { kind = Bulk; direction = In; address = 268435456; length = 16385; limit = 16384; setup = 0; alternate = 0x100100 };
    }

abbrev laid_records : List Record
laid_records =
    record { next = 1048704; alternate = 0x100100; token = 1073745280; pages = 268435456 ∷ 268439552 ∷ 268443648 ∷ 268447744 ∷ 0 ∷ []; upper = zero_slots }
    ∷ blank
    ∷ record { next = 1; alternate = 1; token = 101760; pages = 268451840 ∷ 0 ∷ 0 ∷ 0 ∷ 0 ∷ []; upper = zero_slots }
    ∷ []

laid : written_with (record { laying = two_chunks; marking = None }) (replicate 3 blank) ≡ laid_records
unfolding written_with set_places places_of filled_from record_at bare_at chunk_qtd token_of new_qtd with_next page_slots
laid = refl

-- the token at place 65, and no other
marked : get_or (written_with (record { laying = no_laying; marking = Some (record { place = 65; token = 9 }) }) (replicate 66 blank)) 65 blank ≡ record { next = 0; alternate = 0; token = 9; pages = zero_slots; upper = zero_slots }
unfolding written_with no_laying set_places places_of filled_from
marked = refl

-- both chunks are done, the second one left its byte
seen : view_of (seen_from Bulk 16385 16384 0 (set_places (5 ∷ 0 ∷ 0 ∷ 0 ∷ [])) (record { next = 0; alternate = 0; token = 3328; pages = zero_slots; upper = zero_slots } ∷ blank ∷ record { next = 0; alternate = 0; token = 68864; pages = zero_slots; upper = zero_slots } ∷ []))
    ≡ record { stage = Inactive; failed = 0; moved = 16384; retried = 0 }
unfolding set_places places_of seen_from view_of standing_of first_error length_of retried_of requested_at
seen = refl

-- D is 1: its record, and the shared one
opened : opened_to 2 laid_records ≡ blank ∷ terminated ∷ get_or laid_records 2 blank ∷ []
unfolding opened_to up_from filled_from
opened = refl
