-- Document 01, "Descriptors, heads, links" and "Unlinking and collecting": the links of the ring and of the frame list.
use Rattle.std.specs.Prelude.{ℕ, zero, suc, ◌+◌, ◌*◌, ◌/◌, Bool, true, false, cond, not, List, [], ◌∷◌, length, replicate, ◌==◌, slice_index, slice_set}
use Rattle.descriptor.specs.Heads.{qh_link}
use Rattle.opening.specs.Heads.{with_head_word}
use Rattle.common.specs.Rows.{put_at}
use Rattle.common.specs.Tests.{every}
use Rattle.state.specs.Plain.{Ehci}
use Rattle.schedule.specs.declared.links.Predecessor.{Predecessor}
use Rattle.schedule.specs.declared.links.Predecessor.TheVariants.{First, Head, Missing}

-- slot k's head is at place k + 1 of the heads' area, 128 bytes each
abbrev pub head_address : Ehci → ℕ → ℕ
head_address s k = s.settings.heads + 128 * (k + 1)

abbrev pub slot_link : Ehci → ℕ → ℕ
slot_link s k = qh_link (head_address s k)

-- a head's link is its first word: the ring head's, and slot k's
abbrev pub ring_link : List ℕ → ℕ
ring_link heads = slice_index heads 0

abbrev pub with_ring_link : List ℕ → ℕ → List ℕ
with_ring_link heads word = slice_set heads 0 word

abbrev pub link_word : List ℕ → ℕ → ℕ
link_word heads k = slice_index heads (17 * (k + 1))

abbrev pub with_link_word : List ℕ → ℕ → ℕ → List ℕ
with_link_word heads k word = slice_set heads (17 * (k + 1)) word

pub record Links : Type 0 where
  pub heads : List ℕ
  pub frames : List ℕ

abbrev pub links : List ℕ → List ℕ → Links
links heads frames = record { heads = heads; frames = frames }

-- ---- attaching

-- just after the ring head
unfoldable pub attached_ring : List ℕ → ℕ → ℕ → List ℕ
attached_ring heads k link = with_ring_link (with_link_word heads k (ring_link heads)) link

-- "An interrupt head takes entry 0's value as its link; all 1,024 frame entries get its link value."
unfoldable pub attached_frames : List ℕ → List ℕ → ℕ → ℕ → Links
attached_frames heads frames k link = links (with_link_word heads k (slice_index frames 0)) (replicate (length frames) link)

-- ---- unlinking

-- a link word that leads to an address
abbrev pub leads_to : ℕ → ℕ → Bool
leads_to word address = word / 32 == address / 32

abbrev pub same : Bool → Bool → Bool
same true b = b
same false b = not b

abbrev pub periodic : Ehci → ℕ → Bool
periodic s k = slice_index s.kinds k == 3

-- a linked head of the same schedule, another one, whose link leads to an address
unfoldable pub precedes_one : ℕ → ℕ → ℕ → ℕ → ℕ → ℕ → ℕ → Bool
precedes_one j k phase kind own_kind word address =
    every
    (not (j == k) ∷ (phase == 2) ∷ same (own_kind == 3) (kind == 3) ∷ leads_to word address ∷ [])

abbrev pub precedes : Ehci → List ℕ → ℕ → ℕ → Bool
precedes s heads k j =
    precedes_one j k (slice_index s.phases j) (slice_index s.kinds j) (slice_index s.kinds k) (link_word heads j) (head_address s k)

-- the lowest of n slots, from slot j on
unfoldable pub search_from : Ehci → List ℕ → ℕ → ℕ → ℕ → Predecessor
search_from s heads k j zero = Missing
search_from s heads k j (suc n) = cond (precedes s heads k j) (Head j) (search_from s heads k (suc j) n)

-- the word that the schedule starts with: the ring head's link, or frame entry 0
abbrev pub first_word : Ehci → List ℕ → List ℕ → ℕ → ℕ
first_word s heads frames k = cond (periodic s k) (slice_index frames 0) (ring_link heads)

-- the ring head or the frame entries, else the head whose link leads to slot k's
unfoldable pub predecessor_of : Ehci → List ℕ → List ℕ → ℕ → Predecessor
predecessor_of s heads frames k =
    cond (leads_to (first_word s heads frames k) (head_address s k)) First
    (search_from s heads k 0 s.settings.endpoints)

abbrev pub start_given : Bool → List ℕ → List ℕ → ℕ → Links
start_given true heads frames word = links heads (replicate (length frames) word)
start_given false heads frames word = links (with_ring_link heads word) frames

-- "Unlinking gives the predecessor (or the frame entries) the head's link; the head's own stays."
abbrev pub given_link : Predecessor → Bool → List ℕ → List ℕ → ℕ → Links
given_link First p heads frames word = start_given p heads frames word
given_link (Head j) p heads frames word = links (with_link_word heads j word) frames
given_link Missing p heads frames word = links heads frames

pub record Detached : Type 0 where
  pub predecessor : Predecessor
  pub rows : Links

abbrev pub detached : Predecessor → List ℕ → List ℕ → Detached
detached p heads frames = record { predecessor = p; rows = links heads frames }

unfoldable pub detach_of : Ehci → List ℕ → List ℕ → ℕ → Detached
detach_of s heads frames k =
    record {
      predecessor = predecessor_of s heads frames k;
      rows = given_link (predecessor_of s heads frames k) (periodic s k) heads frames (link_word heads k);
    }

-- ---- the overlay

-- "Submit writes overlay next = first descriptor, alternate 1, token 0"; 02 order 6 gives the token its toggle
unfoldable pub started_overlay : List ℕ → ℕ → ℕ → ℕ → List ℕ
started_overlay heads k first token =
    with_head_word (with_head_word (with_head_word heads (k + 1) 4 first) (k + 1) 5 1) (k + 1) 6 token

-- collected: current 0, overlay terminated (next 1, alternate 1, rest 0)
abbrev pub ended_words : List ℕ
ended_words = 0 ∷ 1 ∷ 1 ∷ 0 ∷ 0 ∷ 0 ∷ 0 ∷ 0 ∷ 0 ∷ 0 ∷ 0 ∷ 0 ∷ 0 ∷ 0 ∷ []

unfoldable pub ended_overlay : List ℕ → ℕ → List ℕ
ended_overlay heads k = put_at heads (17 * (k + 1) + 3) ended_words
