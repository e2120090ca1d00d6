-- Order 1 of 02: what a short packet does to the controller's queue, and the shared descriptor that it leads to. Statements of any machine.
use Rattle.std.specs.Prelude.{ℕ, suc, ◌+◌, ◌-◌, ◌*◌, ◌/◌, ◌<◌, true, false, cond, ◌⊎◌, ◌≡◌, ltb, get_or, length, replicate}
use Rattle.token.specs.EhciQtd.{active, halted, total_bytes}
use Rattle.descriptor.specs.declared.qtd.QueueTransferDescriptor.{QueueTransferDescriptor}
use Rattle.pool.specs.Chains.{blank}
use Rattle.pool.specs.Places.{Each}
use Rattle.settings.specs.declared.settings.Settings.{Settings}
use Rattle.promises.specs.Runs.{Always, History, Moment, Promise, Rows}
use Rattle.promises.specs.Uses.{Use, may_end_short, uses}
use Rattle.promises.specs.Walks.{Ends, Lead, On, Terminated, chain_walk, next_leads}
use Rattle.promises.specs.Rooms.{Every, places_in_use}
use Rattle.promises.specs.EhciQueue.{Fetched, Queue, pointer, visits}

-- ---- the shared descriptor

-- "one shared inactive descriptor (next and alternate 1, token 0), kept at place D .. and never lent out"
abbrev pub shared_descriptor : QueueTransferDescriptor
shared_descriptor = record { next = 1; alternate = 1; token = 0; pages = replicate 5 0; upper = replicate 5 0 }

-- record D is as opening wrote it; no request has it, and no chain by next of an uncollected request meets it
pub record Shared (s : Settings) (h : History) (w : Moment) : Type 0 where
  pub stands : get_or w.rows.pool s.descriptors blank ≡ shared_descriptor
  pub lent_to_none : Each (λ p. p ≡ s.descriptors → ⊥) (places_in_use (uses s h))
  pub met_by_none : Every (λ u. Each (λ p. p ≡ s.descriptors → ⊥) (chain_walk s w.rows u.slot)) (uses s h)

abbrev pub SharedStands : Promise
SharedStands = Always Shared

-- ---- the queue

-- what is fetched at an address: descriptors have 64 bytes each
abbrev pub memory_of : Settings → Rows → ℕ → Fetched
memory_of s rows address =
    let d = get_or rows.pool ((address - s.pool) / 64) blank in
    record { next = d.next; alternate = d.alternate; token = d.token }

abbrev pub place_in : Use → ℕ → ℕ
place_in u j = get_or u.places j 0

-- the queue of a request whose j-th descriptor the controller is done with, and has left with that token
abbrev pub done_with : Settings → Rows → Use → ℕ → ℕ → Queue
done_with s rows u j token =
    let d = get_or rows.pool (place_in u j) blank in
    record {
      current = s.pool + 64 * place_in u j;
      overlay = record { next = d.next; alternate = d.alternate; token = token };
    }

-- done, not halted, and bytes are left
pub record ShortToken (token : ℕ) : Type 0 where
  pub inactive : active token ≡ 0
  pub running : halted token ≡ 0
  pub left_over : total_bytes token ≡ 0 → ⊥

-- a short packet leads to place D, and the queue stays at its descriptor, at every visit: no later one is begun
pub record StopsAt (s : Settings) (rows : Rows) (u : Use) (j token : ℕ) : Type 0 where
  pub leads : next_leads s (pointer (done_with s rows u j token).overlay) ≡ On s.descriptors
  pub stays : (n : ℕ) → visits (memory_of s rows) n (done_with s rows u j token) ≡ done_with s rows u j token

-- from every descriptor but the last of a bulk or interrupt In request of more than one
abbrev pub ShortStops : Promise
ShortStops =
    Always
    (λ s h w. Every (λ u. may_end_short u ≡ true → (j token : ℕ) → suc j < length u.places → ShortToken token → StopsAt s w.rows u j token) (uses s h))

-- where the chain of a request goes on from its j-th descriptor
abbrev pub following : Use → ℕ → Lead
following u j = cond (ltb (suc j) (length u.places)) (On (place_in u (suc j))) (Ends Terminated)

-- by next as before: from the last descriptor, where no byte is left, and of any other request
abbrev pub FullGoesOn : Promise
FullGoesOn =
    Always
    (λ s h w. Every
    (λ u. (j token : ℕ) → j < length u.places
    → (may_end_short u ≡ false) ⊎ ((suc j ≡ length u.places) ⊎ (total_bytes token ≡ 0))
    → next_leads s (pointer (done_with s w.rows u j token).overlay) ≡ following u j)
    (uses s h))
