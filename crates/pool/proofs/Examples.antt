-- The definitions run: 01's job sheet, word for word, and what tokens say.
use mathlib.Core.Path.{◌≡◌, refl}
use Prim.Native.Nat.{◌+◌, ◌*◌}
use mathlib.Core.Bool.{true, false}
use mathlib.Core.List.{List, [], ◌∷◌}
use lib.ListN.{replicate}
use Rattle.common.specs.declared.kinds.Direction.TheVariants.{In, Out}
use Rattle.common.specs.declared.kinds.EndpointType.TheVariants.{Bulk, Control}
use Rattle.token.specs.Plans.{control_plan}
use Rattle.token.specs.Tokens.{token_of}
use Rattle.descriptor.specs.declared.qtd.QueueTransferDescriptor.{QueueTransferDescriptor as Record}
use Rattle.descriptor.specs.Descriptors.{new_qtd, with_next}
use Rattle.descriptor.specs.Slots.{page_slots, zero_slots}
use Rattle.pool.specs.Plain as Deeds
use Rattle.pool.specs.declared.transfer.Transfer.{Transfer}
use Rattle.pool.specs.EhciChain.{follow}
use Rattle.pool.specs.Places.{clear_of, mark_of, places_from}
use Rattle.pool.specs.Transfers.{alternate_word, bare_at, chunk_qtd, record_at, stage_of_place}
use Rattle.pool.specs.declared.chain.Standing.TheVariants.{Inactive, Erring, Active}
use Rattle.pool.specs.Chains.{Seen, blank, filled_from, first_error, length_of, met_from, read_of, retried_of, standing_of, view_of}

-- In, 18 bytes at 10000FFF; pool at 100000, setup packets at 400000
abbrev sheet_request : Transfer
sheet_request = record { kind = Control; direction = In; address = 268439551; length = 18; limit = 16384; setup = 4194304; alternate = 0x100400 }

abbrev sheet_records : List Record
sheet_records =
    record { next = 1048640; alternate = 1; token = 528000; pages = 4194304 ∷ 0 ∷ 0 ∷ 0 ∷ 0 ∷ []; upper = zero_slots }
    ∷ record { next = 1048704; alternate = 1; token = 2148666752; pages = 268439551 ∷ 268439552 ∷ 0 ∷ 0 ∷ 0 ∷ []; upper = zero_slots }
    ∷ record { next = 1; alternate = 1; token = 2147519616; pages = 0 ∷ 0 ∷ 0 ∷ 0 ∷ 0 ∷ []; upper = zero_slots }
    ∷ []

sheet : filled_from (Deeds.Transfer sheet_request) 1048576 0 (0 ∷ 1 ∷ 2 ∷ []) (replicate 3 blank) ≡ sheet_records
unfolding filled_from record_at bare_at stage_of_place control_plan token_of new_qtd with_next page_slots
sheet = refl

sheet_chain : met_from 1048576 sheet_records 256 1048576 ≡ 0 ∷ 1 ∷ 2 ∷ []
unfolding met_from follow
sheet_chain = refl

-- bulk In, 16385 bytes in chunks of 16384: the tokens of document 01, the second one for one byte
abbrev two_chunks : Transfer
two_chunks = record { kind = Bulk; direction = In; address = 268435456; length = 16385; limit = 16384; setup = 0; alternate = 0x100400 }

-- the first leads to the shared descriptor where it is short, the last nowhere; Out and control nowhere
alternate : (record_at two_chunks 0 (7 ∷ []) 0).alternate ≡ 0x100400
unfolding record_at bare_at chunk_qtd new_qtd with_next
alternate = refl

last_alternate : (record_at two_chunks 1 [] 0).alternate ≡ 1
unfolding record_at bare_at chunk_qtd new_qtd with_next
last_alternate = refl

out_alternate : alternate_word Bulk Out 0x100400 ≡ 1
out_alternate = refl

control_alternate : alternate_word Control In 0x100400 ≡ 1
control_alternate = refl

in_alternate : alternate_word Bulk In 0x100400 ≡ 0x100400
in_alternate = refl

tokens : (record_at two_chunks 0 (7 ∷ []) 0).token ≡ 1073745280
unfolding record_at bare_at chunk_qtd token_of new_qtd with_next
tokens = refl

last_token : (record_at two_chunks 1 [] 0).token ≡ 101760
unfolding record_at bare_at chunk_qtd token_of new_qtd with_next
last_token = refl

-- two of five places are taken, the lowest, and freed again
taken : mark_of (3 ∷ 0 ∷ 3 ∷ 0 ∷ 0 ∷ []) 2 5 ≡ 3 ∷ 5 ∷ 3 ∷ 5 ∷ 0 ∷ []
unfolding mark_of
taken = refl

found : places_from 0 (3 ∷ 5 ∷ 3 ∷ 5 ∷ 0 ∷ []) 5 256 ≡ 1 ∷ 3 ∷ []
unfolding places_from
found = refl

freed : clear_of 5 (3 ∷ 5 ∷ 3 ∷ 5 ∷ 0 ∷ []) ≡ 3 ∷ 0 ∷ 3 ∷ 0 ∷ 0 ∷ []
unfolding clear_of
freed = refl

-- a short second chunk, of 16384 and 100 bytes: 60 are left
short : view_of (record { requested = 16384; token = 3328 } ∷ record { requested = 100; token = 3968256 } ∷ []) ≡ record { stage = Inactive; failed = 0; moved = 16424; retried = 0 }
unfolding view_of standing_of first_error length_of retried_of
short = refl

-- halted before an active one; an active one that errs
halted : view_of (record { requested = 100; token = 2624832 } ∷ record { requested = 100; token = 6589824 } ∷ []) ≡ record { stage = Erring; failed = 2624832; moved = 60; retried = 0 }
unfolding view_of standing_of first_error length_of retried_of
halted = refl

active_first : standing_of (record { requested = 100; token = 6557120 } ∷ []) ≡ Active
unfolding standing_of
active_first = refl

-- ---- order 1, by hand: a megabyte asked for in chunks of 16384

-- 13384 of the first are left, the second and third are active
abbrev asked_and_short : List Seen
asked_and_short =
    record { requested = 16384; token = 13384 * 65536 + 0xD00 }
    ∷ record { requested = 16384; token = 0x40000D80 }
    ∷ record { requested = 16384; token = 0x40008D80 }
    ∷ []

three_thousand : view_of (read_of true asked_and_short) ≡ record { stage = Inactive; failed = 0; moved = 3000; retried = 0 }
unfolding read_of view_of standing_of first_error length_of retried_of
three_thousand = refl

-- without the order it waits for the second
waits_on : view_of (read_of false asked_and_short) ≡ record { stage = Active; failed = 0; moved = 3000; retried = 0 }
unfolding read_of view_of standing_of first_error length_of retried_of
waits_on = refl

-- an active one before the short one: not finished, but read up to the short one; the error after it is not read
active_then_short : view_of (read_of true (record { requested = 100; token = 6557056 } ∷ record { requested = 100; token = 2624768 } ∷ record { requested = 100; token = 64 } ∷ []))
    ≡ record { stage = Active; failed = 0; moved = 60; retried = 0 }
unfolding read_of view_of standing_of first_error length_of retried_of
active_then_short = refl

-- an error is no short one: what follows it is read
halted_then_short : view_of (read_of true (record { requested = 100; token = 2624832 } ∷ record { requested = 100; token = 655360 } ∷ record { requested = 100; token = 64 } ∷ []))
    ≡ record { stage = Erring; failed = 2624832; moved = 150; retried = 0 }
unfolding read_of view_of standing_of first_error length_of retried_of
halted_then_short = refl

-- ---- order 7, by hand: 512 bytes each

-- a packet of the second was retried and went through: complete, one retried
retried_once : view_of (record { requested = 512; token = 0xD00 } ∷ record { requested = 512; token = 0xD08 } ∷ record { requested = 512; token = 0x8D00 } ∷ [])
    ≡ record { stage = Inactive; failed = 0; moved = 1536; retried = 1 }
unfolding view_of standing_of first_error length_of retried_of
retried_once = refl

-- bits 4 and 5 are no error and not counted; an active one with bit 3 is counted
babble_alone : view_of (record { requested = 512; token = 0xD30 } ∷ record { requested = 512; token = 0x2008D88 } ∷ []) ≡ record { stage = Active; failed = 0; moved = 512; retried = 1 }
unfolding view_of standing_of first_error length_of retried_of
babble_alone = refl

-- halted after three tries is an error
halted_retried : view_of (record { requested = 512; token = 0x2000D48 } ∷ []) ≡ record { stage = Erring; failed = 0x2000D48; moved = 0; retried = 1 }
unfolding view_of standing_of first_error length_of retried_of
halted_retried = refl

-- short, with a retry: it ends the request, and the one after it is not counted
short_retried : view_of (read_of true (record { requested = 512; token = 0x640D08 } ∷ record { requested = 512; token = 0x2008D08 } ∷ []))
    ≡ record { stage = Inactive; failed = 0; moved = 412; retried = 1 }
unfolding read_of view_of standing_of first_error length_of retried_of
short_retried = refl
