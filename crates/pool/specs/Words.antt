-- What is asked of the pool and written to it, the places as the words of a set.
use Rattle.std.specs.Prelude.{ℕ, ◌+◌, ◌-◌, ◌*◌, ◌≤◌, ◌<◌, ◌^◌, ◌≡◌, Bool, false, cond, ◌&&◌, List, [], ◌∷◌, ◌++◌, get_or, length, replicate, set, IfSome, Option, Some, None}
use Rattle.bitset.specs.Places.{Within, set_places}
use Rattle.bitset.specs.Words.{places_of}
use Rattle.common.specs.declared.kinds.Direction.TheVariants as Directions
use Rattle.common.specs.declared.kinds.EndpointType.TheVariants.{Control}
use Rattle.common.specs.Kinds.{is_control}
use Rattle.descriptor.specs.declared.qtd.QueueTransferDescriptor.{QueueTransferDescriptor}
use Rattle.pool.specs.declared.asked.AskWords.{AskWords}
use Rattle.pool.specs.declared.asked.Folded.{Folded}
use Rattle.pool.specs.Plain as Deeds
use Rattle.pool.specs.declared.laying.Laying.{Laying}
use Rattle.pool.specs.declared.marking.Mark.{Mark}
use Rattle.pool.specs.declared.transfer.Transfer.{Transfer}
use Rattle.pool.specs.declared.writing.Writing.{Writing}
use Rattle.pool.specs.Places.{up_from}
use Rattle.pool.specs.Transfers.{address_of, requested_at}
use Rattle.pool.specs.Chains.{Seen, blank, filled_from, is_short, joined, read_of, see_of, seen_from, transfer_good, view_of, with_token}

-- no place
abbrev pub no_words : List ℕ
no_words = replicate 4 0

-- what is asked only where there is a place
abbrev pub where_places : List ℕ → Type 0 → Type 0
where_places [] P = Unit
where_places (p ∷ ps) P = P

-- ---- what is asked

-- nothing is asked
unfoldable pub no_ask_words : AskWords
no_ask_words = record { places = no_words; kind = Control; length = 0; limit = 0; stops = false }

pub record AskWordsGood (n : ℕ) (a : AskWords) : Type 0 where
  pub within : Within n (set_places a.places)
  pub short : a.length < 2 ^ 32
  pub limited : a.limit ≤ 16384

-- one more record is seen
abbrev pub seen_next : Folded → AskWords → ℕ → Folded
seen_next s a word =
    record {
      view = see_of s.view (requested_at a.kind a.length a.limit s.k) word;
      k = s.k + 1;
      ended = a.stops && is_short word;
    }

-- nothing is left to see once it has ended
abbrev pub left_if : Bool → ℕ → ℕ
left_if ended left = cond ended 0 left

-- what is still read of the descriptors to come
abbrev pub read_on : Bool → Bool → List Seen → List Seen
read_on ended stops ss = cond ended [] (read_of stops ss)

-- the places of word j of what is asked
abbrev pub word_places : AskWords → ℕ → List ℕ
word_places a j = places_of (64 * j) 64 (get_or a.places j 0)

-- what seeing the records at some places leaves: whatever places follow, the whole is seen
pub record Sees (a : AskWords) (rs : List QueueTransferDescriptor) (ps : List ℕ) (s t : Folded) : Type 0 where
  pub so_many : t.k ≤ s.k + length ps
  pub in_bounds : (t.view.moved ≤ t.k * 2 ^ 32) × (t.view.retried ≤ t.k)
  pub whole : (qs : List ℕ)
      → joined t.view (view_of (read_on t.ended a.stops (seen_from a.kind a.length a.limit t.k qs rs)))
      ≡ joined s.view (view_of (read_on s.ended a.stops (seen_from a.kind a.length a.limit s.k (ps ++ qs) rs)))

abbrev pub sees : AskWords → List QueueTransferDescriptor → List ℕ → Folded → Folded → Type 0
sees a rs ps s t = Sees a rs ps s t

pub record WordGood (n : ℕ) (a : AskWords) (j : ℕ) (s : Folded) : Type 0 where
  pub within : Within n (word_places a j)
  pub short : a.length < 2 ^ 32
  pub limited : a.limit ≤ 16384
  pub one_of_four : j < 4
  pub so_far : s.k ≤ 64 * j
  pub in_bounds : (s.view.moved ≤ s.k * 2 ^ 32) × (s.view.retried ≤ s.k)

-- ---- what is written

-- an address fits where a place is to come
abbrev pub next_good : ℕ → List ℕ → Type 0
next_good base [] = Unit
next_good base (q ∷ qs) = address_of base q < 2 ^ 32

-- a transfer's records at the places of a set
abbrev pub laid_of : Laying → List QueueTransferDescriptor → List QueueTransferDescriptor
laid_of l rs = filled_from (Deeds.Transfer l.transfer) l.base 0 (set_places l.places) rs

-- the token alone at one place, where one is marked
abbrev pub marked_of : Option Mark → List QueueTransferDescriptor → List QueueTransferDescriptor
marked_of None rs = rs
marked_of (Some m) rs = set rs m.place (with_token (get_or rs m.place blank) m.token)

-- a transfer's records are laid, then the token is marked
unfoldable pub written_with : Writing → List QueueTransferDescriptor → List QueueTransferDescriptor
written_with w rs = marked_of w.marking (laid_of w.laying rs)

-- the first records are as opening leaves them, the last of these the shared one
unfoldable pub opened_to : ℕ → List QueueTransferDescriptor → List QueueTransferDescriptor
opened_to count rs = filled_from Deeds.Open 0 0 (up_from 0 count) rs

-- ---- what is asked of a caller

pub record LayingGood (n : ℕ) (l : Laying) : Type 0 where
  pub within : Within n (set_places l.places)
  pub transfer : where_places (set_places l.places) (transfer_good l.transfer l.base n (length (set_places l.places)))

-- what the record at one of the places asks: the k-th, where these places are to come
pub record TurnGood (l : Laying) (k : ℕ) (rest : List ℕ) : Type 0 where
  pub buffer : l.transfer.length ≤ 2 ^ 32 - l.transfer.address
  pub setup : 8 ≤ 2 ^ 32 - l.transfer.setup
  pub starts : is_control l.transfer.kind ≡ false → k * l.transfer.limit ≤ l.transfer.length
  pub limited : l.transfer.limit ≤ 16384
  pub next : next_good l.base rest

pub record MarkingGood (n : ℕ) (m : Option Mark) : Type 0 where
  pub within : IfSome m (λ x. x.place < n)

pub record WritingGood (n : ℕ) (w : Writing) : Type 0 where
  pub laying : LayingGood n w.laying
  pub marking : MarkingGood n w.marking

-- nothing is written
abbrev pub no_transfer : Transfer
no_transfer =
    record { kind = Control; direction = Directions.Out; address = 0; length = 0; limit = 0; setup = 0; alternate = 0 }

unfoldable pub no_laying : Laying
no_laying = record { places = no_words; base = 0; transfer = no_transfer }

unfoldable pub no_writing : Writing
no_writing = record { laying = no_laying; marking = None }
