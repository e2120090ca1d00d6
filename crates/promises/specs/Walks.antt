-- What the controller meets and how that ends, from the words of the lent rows and the addresses of the areas alone.
use Rattle.std.specs.Prelude.{ℕ, zero, suc, ◌+◌, ◌*◌, ◌-◌, ◌/◌, Bool, false, cond, not, ◌&&◌, ◌||◌, List, [], ◌∷◌, eqb, ltb, get_or}
use Rattle.descriptor.specs.EhciQtd.{qtd_address, terminate}
use Rattle.descriptor.specs.EhciQueueHead.{link_address, link_terminate, link_type}
use Rattle.descriptor.specs.declared.qtd.QueueTransferDescriptor.{QueueTransferDescriptor}
use Rattle.pool.specs.Chains.{blank}
use Rattle.settings.specs.declared.settings.Settings.{Settings}
use Rattle.settings.specs.Settings.{pool_length}
use Rattle.promises.specs.Runs.{Rows}

-- ---- where a word leads

-- how a walk ends: a word terminates; it comes back to the ring head; a word leads to no record that there is; not by so many words
pub data End : Type 0 where
  Terminated AtRingHead Nowhere TooLong : End

-- on to the record at a place, or to the end
pub data Lead : Type 0 where
  On : ℕ → Lead
  Ends : End → Lead

-- to place p, if it is one of so many and its record begins at exactly that address
abbrev pub on_if : ℕ → ℕ → ℕ → ℕ → ℕ → Lead
on_if base size count address p = cond (ltb p count && eqb address (base + size * p)) (On p) (Ends Nowhere)

-- the only place that might: so many records of that size, from base on
abbrev pub place_at : ℕ → ℕ → ℕ → ℕ → Lead
place_at base size count address = on_if base size count address ((address - base) / size)

-- EHCI 3.6, and 3.1 of frame entries: type 1 is a queue head's; place 0 is the ring head, slot k's head is at place k + 1
abbrev pub link_leads : Settings → ℕ → Lead
link_leads s word =
    cond (eqb (link_terminate word) 1) (Ends Terminated)
    (cond (not (eqb (link_type word) 1)) (Ends Nowhere)
    (cond (eqb (link_address word) s.heads) (Ends AtRingHead) (place_at s.heads 128 (s.endpoints + 1) (link_address word))))

-- EHCI 3.5.1: the next pointer of a descriptor or an overlay; the shared descriptor is among the records
abbrev pub next_leads : Settings → ℕ → Lead
next_leads s word =
    cond (eqb (terminate word) 1) (Ends Terminated) (place_at s.pool 64 (pool_length s) (qtd_address word))

-- ---- walks

-- the places met, in order, and the end
pub record Walk : Type 0 where
  pub met : List ℕ
  pub end : End

abbrev pub ended : End → Walk
ended e = record { met = []; end = e }

abbrev pub meets : ℕ → Walk → Walk
meets p rest = record { met = p ∷ rest.met; end = rest.end }

abbrev pub onward : Lead → (ℕ → Walk) → Walk
onward (On p) rest = meets p (rest p)
onward (Ends e) rest = ended e

-- from a word on, by where a word leads and by the word at each place; so many words are read at most
unfoldable pub walk_from : (ℕ → Lead) → (ℕ → ℕ) → ℕ → ℕ → Walk
walk_from leads word_at zero word = ended TooLong
walk_from leads word_at (suc n) word = onward (leads word) (λ p. walk_from leads word_at n (word_at p))

-- from a link on, by the first word of each head: E heads, each met once, and the end are E + 1 words
abbrev pub link_walk : Settings → List ℕ → ℕ → Walk
link_walk s heads word = walk_from (link_leads s) (λ p. get_or heads (17 * p) 0) (s.endpoints + 1) word

-- the ring's, and that of frame entry f
unfoldable pub ring_walk : Settings → Rows → List ℕ
ring_walk s rows = (link_walk s rows.heads (get_or rows.heads 0 0)).met

unfoldable pub ring_end : Settings → Rows → End
ring_end s rows = (link_walk s rows.heads (get_or rows.heads 0 0)).end

unfoldable pub frame_walk : Settings → Rows → ℕ → List ℕ
frame_walk s rows f = (link_walk s rows.heads (get_or rows.frames f 0)).met

unfoldable pub frame_end : Settings → Rows → ℕ → End
frame_end s rows f = (link_walk s rows.heads (get_or rows.frames f 0)).end

-- from a next pointer on, by that of each descriptor: likewise D + 1 words
abbrev pub next_walk : Settings → List QueueTransferDescriptor → ℕ → Walk
next_walk s pool word = walk_from (next_leads s) (λ p. (get_or pool p blank).next) (s.descriptors + 1) word

-- slot k's: its overlay's next pointer is word 4 of its head
unfoldable pub chain_walk : Settings → Rows → ℕ → List ℕ
chain_walk s rows k = (next_walk s rows.pool (get_or rows.heads (17 * (k + 1) + 4) 0)).met

unfoldable pub chain_end : Settings → Rows → ℕ → End
chain_end s rows k = (next_walk s rows.pool (get_or rows.heads (17 * (k + 1) + 4) 0)).end

abbrev pub is_in : ℕ → List ℕ → Bool
is_in p [] = false
is_in p (q ∷ qs) = eqb q p || is_in p qs
