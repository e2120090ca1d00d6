-- 01's example tokens and page slots, read field by field, and plans worked out by hand.
use Prim.Native.Nat.{ℕ}
use mathlib.Core.List.{List, [], ◌∷◌}
use mathlib.Core.Path.{◌≡◌, refl}
use lib.ListN.{replicate}
use Rattle.common.specs.declared.kinds.Direction.TheVariants.{Out, In}
use Rattle.common.specs.declared.kinds.EndpointType.TheVariants.{Control, Bulk}
use Rattle.descriptor.specs.Slots.{page_slots}
use Rattle.promises.specs.Submissions.{Fields, fields_of, plan, planned}

abbrev reads : ℕ → List ℕ → Fields
reads token pages = fields_of (record { next = 1; alternate = 1; token = token; pages = pages; upper = replicate 5 0 })

-- the three descriptors of 01's sheet
setup : reads 0x00080E80 (0x400000 ∷ 0 ∷ 0 ∷ 0 ∷ 0 ∷ []) ≡ planned 1 2 0x400000 8 0 0
unfolding page_slots
setup = refl

in_data : reads 0x80120D80 (0x10000FFF ∷ 0x10001000 ∷ 0 ∷ 0 ∷ 0 ∷ []) ≡ planned 1 1 0x10000FFF 18 1 0
unfolding page_slots
in_data = refl

status : reads 0x80008C80 (replicate 5 0) ≡ planned 1 0 0 0 1 1
unfolding page_slots
status = refl

-- 16384 bytes from an address that is not a page's: all five slots; the last chunk interrupts
bulk_in : reads 0x40000D80 (0x10000FFF ∷ 0x10001000 ∷ 0x10002000 ∷ 0x10003000 ∷ 0x10004000 ∷ []) ≡ planned 1 1 0x10000FFF 16384 0 0
unfolding page_slots
bulk_in = refl

bulk_in_last : reads 0x40008D80 (0x10000FFF ∷ 0x10001000 ∷ 0x10002000 ∷ 0x10003000 ∷ 0x10004000 ∷ []) ≡ planned 1 1 0x10000FFF 16384 0 1
unfolding page_slots
bulk_in_last = refl

bulk_out_none : reads 0x00008C80 (replicate 5 0) ≡ planned 1 0 0x500000 0 0 1
unfolding page_slots
bulk_out_none = refl

-- none: one chunk of 0; just the limit: one; a byte more: two, and a short first one leads to the shared descriptor, here at 0x100400
none : plan Bulk 0 0x100400 Out 0x500000 0 16384 ≡ planned 1 0 0x500000 0 0 1 ∷ []
none = refl

whole : plan Bulk 0 0x100400 In 0x500000 16384 16384 ≡ planned 1 1 0x500000 16384 0 1 ∷ []
whole = refl

one_more : plan Bulk 0 0x100400 In 0x500000 16385 16384 ≡ planned 0x100400 1 0x500000 16384 0 0 ∷ planned 1 1 0x504000 1 0 1 ∷ []
one_more = refl

-- Out, and the last, lead nowhere
out_more : plan Bulk 0 0x100400 Out 0x500000 16385 16384 ≡ planned 1 0 0x500000 16384 0 0 ∷ planned 1 0 0x504000 1 0 1 ∷ []
out_more = refl

-- Out data, status In; no data, status In whatever the direction
out_data : plan Control 0x400000 0x100400 Out 0x500000 18 16384 ≡ planned 1 2 0x400000 8 0 0 ∷ planned 1 0 0x500000 18 1 0 ∷ planned 1 1 0 0 1 1 ∷ []
out_data = refl

no_data : plan Control 0x400000 0x100400 In 0x500000 0 16384 ≡ planned 1 2 0x400000 8 0 0 ∷ planned 1 1 0 0 1 1 ∷ []
no_data = refl
