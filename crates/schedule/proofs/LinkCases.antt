-- The returns and the loop of the functions on links.
use Rattle.std.specs.Prelude.{◌≡◌, ℕ, suc, ◌+◌, ◌-◌, ◌*◌, ◌/◌, ◌<◌, ◌≤◌, Bool, true, false, cond, eqb, List, length, get_or, set, replicate}
use mathlib.Core.Path.{sym, ◌∙◌}
use native.Mathlib.Numerals.{add-one}
use native.Mathlib.Omega.{arith}
use borrow.Author.Tests.{eq-eqb, ne_eqb}
use lib.Seq.{set_out}
use Rattle.state.specs.Plain.{Ehci}
use Rattle.schedule.specs.declared.links.Predecessor.{Predecessor}
use Rattle.schedule.specs.declared.links.Predecessor.TheVariants.{First, Head, Missing}
use Rattle.schedule.specs.Links.{head_address, link_word, links, attached_frames, precedes, search_from, predecessor_of, with_link_word, detached, detach_of}

pub frames_attached : (h f f' : List ℕ) (k l : ℕ) → f' ≡ replicate (length f) l
    → links (set h (17 * (k + 1)) (get_or f 0 0)) f' ≡ attached_frames h f k l
unfolding attached_frames
frames_attached h f f' k l e = rw e

module _ (s : Ehci) (h : List ℕ) (k : ℕ) where
  pub found : (j n : ℕ) (t : Bool) → j < n → t ≡ precedes s h k j → t ≡ true → (p : Predecessor)
      → search_from s h k j (n - j) ≡ p → Head j ≡ p
  unfolding search_from
  found j n t lt et ht p e = rw (more, sym et ∙ ht) at e
    where
      more : n - j ≡ suc (n - suc j)
      more = omega arith

  pub not_here : (j n : ℕ) (t : Bool) → j < n → t ≡ precedes s h k j → t ≡ false → (p : Predecessor)
      → search_from s h k j (n - j) ≡ p → search_from s h k (j + 1) (n - (j + 1)) ≡ p
  unfolding search_from
  not_here j n t lt et ht p e = rw (add-one j) (rw (more, sym et ∙ ht) at e)
    where
      more : n - j ≡ suc (n - suc j)
      more = omega arith

  pub nowhere : (j n : ℕ) → n ≤ j → (p : Predecessor) → search_from s h k j (n - j) ≡ p → Missing ≡ p
  unfolding search_from
  nowhere j n le p e = rw none at e
    where
      none : n - j ≡ 0
      none = omega arith

module _ (s : Ehci) (h f : List ℕ) (k w a : ℕ) (ew : w ≡ cond (eqb (get_or s.kinds k 0) 3) (get_or f 0 0) (get_or h 0 0)) (ea : a ≡ head_address s k) where
  pub first_leads : w / 32 ≡ a / 32 → First ≡ predecessor_of s h f k
  unfolding predecessor_of
  first_leads e = rw (sym ew, sym ea, eq-eqb (w / 32) (a / 32) e)

  pub not_first : (w / 32 ≡ a / 32 → ⊥) → (p : Predecessor) → p ≡ search_from s h k 0 s.settings.endpoints → p ≡ predecessor_of s h f k
  unfolding predecessor_of
  not_first e p ep = ep ∙ rw (sym ew, sym ea, ne_eqb (w / 32) (a / 32) e)

-- ---- detaching

module _ (s : Ehci) (h f : List ℕ) (k : ℕ) (p : Predecessor) (ep : p ≡ predecessor_of s h f k) where
  pub detach_frames : p ≡ First → get_or s.kinds k 0 ≡ 3 → (f' : List ℕ) → f' ≡ replicate (length f) (link_word h k)
      → detached p h f' ≡ detach_of s h f k
  unfolding detach_of
  detach_frames e q f' ef = rw (ef, ← ep, e, q)

  pub detach_ring : p ≡ First → (get_or s.kinds k 0 ≡ 3 → ⊥) → detached p (set h 0 (link_word h k)) f ≡ detach_of s h f k
  unfolding detach_of
  detach_ring e q = rw (← ep, e, ne_eqb (get_or s.kinds k 0) 3 q)

  pub detach_head : (j : ℕ) → p ≡ Head j → (h' : List ℕ) → h' ≡ with_link_word h j (link_word h k) → detached (Head j) h' f ≡ detach_of s h f k
  unfolding detach_of
  detach_head j e h' eh = rw (eh, ← ep, e)

  pub detach_none : p ≡ Missing → detached p h f ≡ detach_of s h f k
  unfolding detach_of
  detach_none e = rw (← ep, e)

pub no_such_word : (h : List ℕ) (j w : ℕ) → length h ≤ 17 * (j + 1) → h ≡ with_link_word h j w
no_such_word h j w l = sym (set_out h (17 * (j + 1)) w l)
