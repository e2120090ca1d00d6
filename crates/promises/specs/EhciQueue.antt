-- EHCI 1.0, sections 4.10.2 and 4.10.3: how the controller goes on from a transfer descriptor that it is done with. Of the project it imports the
-- fields of a descriptor alone.
use Rattle.std.specs.Prelude.{ℕ, zero, suc, cond, not, ◌&&◌, ◌||◌, eqb}
use Rattle.token.specs.EhciQtd.{active, halted, total_bytes}
use Rattle.descriptor.specs.EhciQtd.{qtd_address, terminate}

-- a descriptor, as it is fetched from memory
pub record Fetched : Type 0 where
  pub next : ℕ
  pub alternate : ℕ
  pub token : ℕ

-- a queue: the address of its descriptor, and that descriptor in the overlay, its token as the controller has left it
pub record Queue : Type 0 where
  pub current : ℕ
  pub overlay : Fetched

-- where it goes on: by the alternate pointer where bytes are left and that pointer does not terminate, else by the next
abbrev pub pointer : Fetched → ℕ
pointer o = cond (not (eqb (total_bytes o.token) 0) && eqb (terminate o.alternate) 0) o.alternate o.next

-- the queue begins a descriptor where that is active; one that is not leaves it where it is
abbrev pub begun_at : ℕ → Fetched → Queue → Queue
begun_at address d q = cond (eqb (active d.token) 1) (record { current = address; overlay = d }) q

-- a visit to a queue: one that is active is not done with its descriptor, one that is halted waits for software, and a pointer that
-- terminates leads nowhere
abbrev pub visit : (ℕ → Fetched) → Queue → Queue
visit memory q =
    cond (eqb (active q.overlay.token) 1 || eqb (halted q.overlay.token) 1) q
    (cond (eqb (terminate (pointer q.overlay)) 1) q
    (begun_at (qtd_address (pointer q.overlay)) (memory (qtd_address (pointer q.overlay))) q))

-- so many visits
abbrev pub visits : (ℕ → Fetched) → ℕ → Queue → Queue
visits memory zero q = q
visits memory (suc n) q = visits memory n (visit memory q)
