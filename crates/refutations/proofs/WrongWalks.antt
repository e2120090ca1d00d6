-- Wrong machines whose links or next pointers lead nowhere: of each, `ChainsWalked` or `ChainsLead` is refuted. Each is a machine that links
-- or takes descriptors rightly, with one word changed after every call; rounded down, most of these words would lead where they should.
use Prim.Native.Nat.{ℕ}
use mathlib.Core.Path.{◌≡◌, refl, sym, ap, ◌∙◌}
use mathlib.Core.List.{[], ◌∷◌}
use native.Mathlib.Omega.{arith}
use lib.ListN.{get_or, replicate, set}
use Rattle.token.specs.Chunks.{chunk_count, need_of}
use Rattle.common.specs.declared.kinds.EndpointType.TheVariants.{Bulk, Interrupt}
use Rattle.descriptor.specs.declared.qtd.QueueTransferDescriptor.{QueueTransferDescriptor}
use Rattle.descriptor.specs.Descriptors.{new_qtd, terminated, with_next}
use Rattle.descriptor.specs.Heads.{ring_head}
use Rattle.pool.specs.Chains.{blank, fill_of, filled_from}
use Rattle.pool.specs.Places.{list_of, mark_of, packed, places_from}
use Rattle.pool.specs.Transfers.{bare_at, chunk_qtd, record_at}
use Rattle.state.specs.State.{with_owner}
use Rattle.opening.specs.Opening.{fresh_state, opened_heads}
use Rattle.schedule.specs.Links.{attached_ring, started_overlay}
use Rattle.request.specs.Submit.{taken_of}
use Rattle.ehci.specs.declared.call.Call.{Call}
use Rattle.ehci.specs.declared.call.Call.TheVariants.{Rearm, Submit}
use Rattle.ehci.specs.Door.{Applied, applied}
use Rattle.promises.specs.Runs.{EveryRun, Machine, Rows, in_plain, history_of, rows_of, world_of}
use Rattle.promises.specs.Walks.{AtRingHead, End, Nowhere, Terminated, TooLong, chain_end, frame_end, ring_end, walk_from}
use Rattle.promises.specs.Uses.{uses}
use Rattle.promises.specs.Chains.{ChainsWalked}
use Rattle.promises.specs.Rooms.{ChainsLead}
use Rattle.promises.proofs.invariants.Reached.{fresh_world}
use Rattle.refutations.proofs.RoomWrong.{byte, plain as takes, reads}
use Rattle.refutations.proofs.WrongChains.{asks, opening, plain as links, three}
use Rattle.refutations.proofs.WrongRuns.{opening as opened, small}
use Rattle.state.specs.Slots.{slot_at}

-- ---- a machine with other rows after each call

abbrev left : Applied → Rows → Applied
left a rows = applied a.reply rows.pool rows.heads rows.frames rows.setups

abbrev changed : Machine in_plain → (Rows → Rows) → Machine in_plain
changed m f w c = left (m w c) (f (rows_of (m w c)))

abbrev head_word : ℕ → ℕ → Rows → Rows
head_word i word rows = record { pool = rows.pool; heads = set rows.heads i word; frames = rows.frames; setups = rows.setups }

abbrev frame_words : ℕ → Rows → Rows
frame_words word rows = record { pool = rows.pool; heads = rows.heads; frames = replicate 1024 word; setups = rows.setups }

abbrev next_as : ℕ → QueueTransferDescriptor → QueueTransferDescriptor
next_as word d = record { next = word; alternate = d.alternate; token = d.token; pages = d.pages; upper = d.upper }

abbrev word_of_next : ℕ → ℕ → Rows → Rows
word_of_next p word rows =
    record { pool = set rows.pool p (next_as word (get_or rows.pool p blank)); heads = rows.heads; frames = rows.frames; setups = rows.setups }

-- ---- ends are told apart

abbrev end_number : End → ℕ
end_number Terminated = 0
end_number AtRingHead = 1
end_number Nowhere = 2
end_number TooLong = 3

nowhere_home : (e : End) → e ≡ Nowhere → e ≡ AtRingHead → ⊥
nowhere_home e a b = let z : ◌≡◌ {A = ℕ} 2 1 = ap end_number (sym a ∙ b) in omega (arith, z)

nowhere_stops : (e : End) → e ≡ Nowhere → e ≡ Terminated → ⊥
nowhere_stops e a b = let z : ◌≡◌ {A = ℕ} 2 0 = ap end_number (sym a ∙ b) in omega (arith, z)

home_stops : (e : End) → e ≡ AtRingHead → e ≡ Terminated → ⊥
home_stops e a b = let z : ◌≡◌ {A = ℕ} 1 0 = ap end_number (sym a ∙ b) in omega (arith, z)

-- ---- links: slot 0's head is at 0x200080, and its link is word 17 of the row

-- the rows after one call
abbrev after : Machine in_plain → Call → Rows
after m c = (world_of m (fresh_world three) (c ∷ [])).rows

-- the empty ring's link is 0, slot 0's head's link is 0
abbrev unlinked : Machine in_plain
unlinked = changed links (head_word 0 0)

abbrev unreturned : Machine in_plain
unreturned = changed links (head_word 17 0)

-- the link to slot 0's head has the type of an iTD; it leads 96 bytes into the head
abbrev retyped : Machine in_plain
retyped = changed links (head_word 0 0x200080)

abbrev inside : Machine in_plain
inside = changed links (head_word 0 0x2000E2)

-- the same in the frame list; and an interrupt head that leads to the ring head
abbrev frames_retyped : Machine in_plain
frames_retyped = changed links (frame_words 0x200080)

abbrev frames_inside : Machine in_plain
frames_inside = changed links (frame_words 0x2000E2)

abbrev frames_home : Machine in_plain
frames_home = changed links (head_word 17 0x200002)

ring_ends : (ring_end three (after links (asks Bulk 0)) ≡ AtRingHead) × (ring_end three (after unlinked Rearm) ≡ Nowhere)
    × (ring_end three (after unreturned (asks Bulk 0)) ≡ Nowhere) × (ring_end three (after retyped (asks Bulk 0)) ≡ Nowhere)
    × (ring_end three (after inside (asks Bulk 0)) ≡ Nowhere)
unfolding ring_end walk_from world_of attached_ring opened_heads ring_head terminated
ring_ends = (refl, refl, refl, refl, refl)

frames_end : (frame_end three (after links (asks Interrupt 0)) 5 ≡ Terminated) × (frame_end three (after frames_retyped (asks Interrupt 0)) 5 ≡ Nowhere)
    × (frame_end three (after frames_inside (asks Interrupt 0)) 5 ≡ Nowhere) × (frame_end three (after frames_home (asks Interrupt 0)) 5 ≡ AtRingHead)
unfolding frame_end walk_from world_of opened_heads ring_head terminated
frames_end = (refl, refl, refl, refl)

module _ (m : Machine in_plain) (c : Call) where
  no_ring : ring_end three (after m c) ≡ Nowhere → EveryRun ChainsWalked m → ⊥
  no_ring e h = nowhere_home (ring_end three (after m c)) e (h three (fresh_world three) opening (c ∷ [])).ring_ends

  no_frames_lem : frame_end three (after m c) 5 ≡ Nowhere → EveryRun ChainsWalked m → ⊥
  no_frames_lem e h = nowhere_stops (frame_end three (after m c) 5) e ((h three (fresh_world three) opening (c ∷ [])).frames_end 5 (omega arith))

pub unlinked_wrong : EveryRun ChainsWalked unlinked → ⊥
unlinked_wrong = no_ring unlinked Rearm ring_ends.1

pub unreturned_wrong : EveryRun ChainsWalked unreturned → ⊥
unreturned_wrong = no_ring unreturned (asks Bulk 0) ring_ends.2

pub retyped_wrong : EveryRun ChainsWalked retyped → ⊥
retyped_wrong = no_ring retyped (asks Bulk 0) ring_ends.3

pub inside_wrong : EveryRun ChainsWalked inside → ⊥
inside_wrong = no_ring inside (asks Bulk 0) ring_ends.4

pub frames_retyped_wrong : EveryRun ChainsWalked frames_retyped → ⊥
frames_retyped_wrong = no_frames_lem frames_retyped (asks Interrupt 0) frames_end.1

pub frames_inside_wrong : EveryRun ChainsWalked frames_inside → ⊥
frames_inside_wrong = no_frames_lem frames_inside (asks Interrupt 0) frames_end.2

pub frames_home_wrong : EveryRun ChainsWalked frames_home → ⊥
frames_home_wrong h =
    home_stops (frame_end three (after frames_home (asks Interrupt 0)) 5) frames_end.3
    ((h three (fresh_world three) opening (asks Interrupt 0 ∷ [])).frames_end 5 (omega arith))

-- ---- next pointers: slot 0's overlay's is word 21 of the row, its descriptor is at 0x100000

abbrev submits : Call
submits = Submit 0 byte reads

abbrev given : Machine in_plain → Rows
given m = (world_of m (fresh_world small) (submits ∷ [])).rows

-- the overlay's next is 0; it leads 32 bytes into the descriptor; the descriptor's own next is 0
abbrev unstarted : Machine in_plain
unstarted = changed takes (head_word 21 0)

abbrev halfway : Machine in_plain
halfway = changed takes (head_word 21 0x100020)

abbrev unterminated : Machine in_plain
unterminated = changed takes (word_of_next 0 0)

chains_end : (chain_end small (given takes) 0 ≡ Terminated) × (chain_end small (given unstarted) 0 ≡ Nowhere) × (chain_end small (given halfway) 0 ≡ Nowhere)
    × (chain_end small (given unterminated) 0 ≡ Nowhere)
unfolding chain_end walk_from world_of taken_of places_from mark_of packed list_of fill_of filled_from record_at bare_at chunk_qtd new_qtd with_next started_overlay fresh_state with_owner opened_heads ring_head terminated need_of chunk_count slot_at
chains_end = (refl, refl, refl, refl)

no_chain_lem : (m : Machine in_plain) → chain_end small (given m) 0 ≡ Nowhere → chain_end small (given m) 0 ≡ Terminated → ⊥
no_chain_lem m e f = nowhere_stops (chain_end small (given m) 0) e f

pub unstarted_wrong : EveryRun ChainsLead unstarted → ⊥
unfolding history_of uses
unstarted_wrong h = no_chain_lem unstarted chains_end.1 (h small (fresh_world small) opened (submits ∷ [])).0.ends

pub halfway_wrong : EveryRun ChainsLead halfway → ⊥
unfolding history_of uses
halfway_wrong h = no_chain_lem halfway chains_end.2 (h small (fresh_world small) opened (submits ∷ [])).0.ends

pub unterminated_wrong : EveryRun ChainsLead unterminated → ⊥
unfolding history_of uses
unterminated_wrong h = no_chain_lem unterminated chains_end.3 (h small (fresh_world small) opened (submits ∷ [])).0.ends
