-- Attaching puts a head first in the walk; detaching takes it out of the walk, and nothing else.
use Rattle.std.specs.Prelude.{◌≡◌, ℕ, zero, suc, ◌+◌, ◌*◌, ◌/◌, ◌%◌, ◌<◌, ◌≤◌, Bool, true, false, not, eqb, ◌⊎◌, List, [], ◌∷◌, ◌++◌, length, get_or}
use mathlib.Core.Path.{refl, sym, ap, ◌∙◌}
use mathlib.Core.Logic.{⊎_elim}
use native.Mathlib.Decide.{ℕ_discrete as dec_eq}
use borrow.Author.Tests.{eq-eqb, eqb-true, ne_eqb}
use native.Mathlib.Omega.{arith}
use lib.ListN.{get_or-replicate, length-set}
use lib.Seq.{get_or-set_other, get_or-set_same}
use Rattle.state.specs.Plain.{Ehci}
use Rattle.common.proofs.TestLaws.{both_first, both_second}
use Rattle.schedule.specs.declared.links.Predecessor.TheVariants.{First, Head}
use Rattle.schedule.specs.Links.{first_word, same, precedes, precedes_one, search_from, predecessor_of, head_address, slot_link, ring_link, link_word, with_ring_link, with_link_word, attached_ring, attached_frames}
use Rattle.schedule.specs.Walks.{Chain, Avoids, In}

-- another head's link is not touched
other_link : (h : List ℕ) (j k w : ℕ) → (j ≡ k → ⊥) → link_word (with_link_word h k w) j ≡ link_word h j
other_link h j k w ne = get_or-set_other h (17 * (k + 1)) (17 * (j + 1)) w 0 (λ e. ne (omega arith))

ring_apart : (h : List ℕ) (j w : ℕ) → link_word (with_ring_link h w) j ≡ link_word h j
ring_apart h j w = get_or-set_other h 0 (17 * (j + 1)) w 0 (λ e. omega arith)

ring_write_stays : (s : Ehci) (h : List ℕ) (v w e : ℕ) (ks : List ℕ) → Chain s h w ks e → Chain s (with_ring_link h v) w ks e
ring_write_stays s h v w e [] c = c
ring_write_stays s h v w e (k ∷ ks) c =
    (c.0, rw (ring_apart h k v) (ring_write_stays s h v (link_word h k) e ks c.1))

link_write_stays : (s : Ehci) (h : List ℕ) (k v w e : ℕ) (ks : List ℕ) → Avoids k ks → Chain s h w ks e → Chain s (with_link_word h k v) w ks e
link_write_stays s h k v w e [] a c = c
link_write_stays s h k v w e (j ∷ ks) a c =
    (c.0, rw (other_link h j k v a.0) (link_write_stays s h k v (link_word h j) e ks a.1 c.1))

-- ---- attaching

-- the ring's walk meets the new head first, then what it met before
pub attach_first : (s : Ehci) (h : List ℕ) (k e : ℕ) (ks : List ℕ) → 17 * (k + 1) < length h → Avoids k ks
    → Chain s h (ring_link h) ks e
    → Chain s (attached_ring h k (slot_link s k)) (ring_link (attached_ring h k (slot_link s k))) (k ∷ ks) e
unfolding attached_ring
attach_first s h k e ks lt a c =
    let h₁ = with_link_word h k (ring_link h) in
    let link = slot_link s k in (
      get_or-set_same h₁ 0 link 0 (omega (arith, length-set h (17 * (k + 1)) (ring_link h))),
      rw (ring_apart h₁ k link, get_or-set_same h (17 * (k + 1)) (ring_link h) 0 lt)
          (ring_write_stays s h₁ link (ring_link h) e ks (link_write_stays s h k (ring_link h) (ring_link h) e ks a c)),
    )

-- every frame's walk meets the new head first, then what entry 0's walk met before
pub frames_first : (s : Ehci) (h f : List ℕ) (k e : ℕ) (ks : List ℕ) → 17 * (k + 1) < length h → Avoids k ks
    → Chain s h (get_or f 0 0) ks e
    → ((i : ℕ) → i < length f → get_or (attached_frames h f k (slot_link s k)).frames i 0 ≡ slot_link s k)
    × Chain s (attached_frames h f k (slot_link s k)).heads (slot_link s k) (k ∷ ks) e
unfolding attached_frames
frames_first s h f k e ks lt a c =
    let first = get_or f 0 0 in (
      (λ i hi. get_or-replicate (length f) i (slot_link s k) 0 hi),
      (refl, rw (get_or-set_same h (17 * (k + 1)) first 0 lt) (link_write_stays s h k first first e ks a c)),
    )

-- ---- detaching

-- the first head of the ring: the ring head gets its link
pub first_leaves : (s : Ehci) (h : List ℕ) (k e : ℕ) (ks : List ℕ) → 0 < length h → Chain s h (ring_link h) (k ∷ ks) e
    → Chain s (with_ring_link h (link_word h k)) (ring_link (with_ring_link h (link_word h k))) ks e
first_leaves s h k e ks l c =
    rw (get_or-set_same h 0 (link_word h k) 0 l) (ring_write_stays s h (link_word h k) (link_word h k) e ks c.1)

-- the first head of the frames: the entries get its link, and no head's link changes
pub frame_leaves : (s : Ehci) (h : List ℕ) (w k e : ℕ) (ks : List ℕ) → Chain s h w (k ∷ ks) e → Chain s h (link_word h k) ks e
frame_leaves s h w k e ks c = c.1

-- a head after another: that one gets its link, and the walk is as before without it
pub later_leaves : (s : Ehci) (h : List ℕ) (w j k e : ℕ) (pre post : List ℕ) → 17 * (j + 1) < length h → Avoids j pre → Avoids j post
    → Chain s h w (pre ++ (j ∷ k ∷ post)) e → Chain s (with_link_word h j (link_word h k)) w (pre ++ (j ∷ post)) e
later_leaves s h w j k e [] post l ap aq c = (
  c.0,
  rw (get_or-set_same h (17 * (j + 1)) (link_word h k) 0 l)
      (link_write_stays s h j (link_word h k) (link_word h k) e post aq c.1.1),
)
later_leaves s h w j k e (i ∷ pre) post l ap aq c =
    (c.0, rw (other_link h i j (link_word h k) ap.0) (later_leaves s h (link_word h i) j k e pre post l ap.1 aq c.1))

-- ---- the head that gives way is found

-- links of heads lead apart: the heads' area is a multiple of 128
slot_leads : (s : Ehci) (j k : ℕ) → s.settings.heads % 128 ≡ 0 → slot_link s j / 32 ≡ head_address s k / 32 → j ≡ k
slot_leads s j k al e = omega arith

pub leads_here : (s : Ehci) (k : ℕ) → slot_link s k / 32 ≡ head_address s k / 32
leads_here s k = omega arith

moved : (h : List ℕ) (w a i x : ℕ) → i ≡ x → link_word h x ≡ w → link_word h i / 32 ≡ a → w / 32 ≡ a
moved h w a i x p q r = sym (ap (λ (z : ℕ). z / 32) (ap (λ (y : ℕ). link_word h y) p ∙ q)) ∙ r

-- none of the heads after k leads to k, where the walk's last word does not
after_apart : (s : Ehci) (h : List ℕ) (w k e : ℕ) (ks : List ℕ) → s.settings.heads % 128 ≡ 0 → Avoids k ks
    → (e / 32 ≡ head_address s k / 32 → ⊥) → Chain s h w ks e → (i : ℕ) → In i ks → link_word h i / 32 ≡ head_address s k / 32 → ⊥
after_apart s h w k e [] al av ea c i m q = m
after_apart s h w k e (x ∷ []) al av ea c i m q = ⊎_elim (λ p. ea (moved h e _ i x p c.1 q)) (λ p. p) m
after_apart s h w k e (x ∷ y ∷ ks) al av ea c i m q =
    ⊎_elim (λ p. av.1.0 (slot_leads s y k al (moved h (slot_link s y) _ i x p c.1.0 q)))
    (λ p. after_apart s h (link_word h x) k e (y ∷ ks) al av.1 ea c.1 i p q) m

-- none of the heads before j leads to k
before_apart : (s : Ehci) (h : List ℕ) (w j k e : ℕ) (pre post : List ℕ) → s.settings.heads % 128 ≡ 0 → Avoids k pre → (j ≡ k → ⊥)
    → Chain s h w (pre ++ (j ∷ post)) e → (i : ℕ) → In i pre → link_word h i / 32 ≡ head_address s k / 32 → ⊥
before_apart s h w j k e [] post al av ne c i m q = m
before_apart s h w j k e (x ∷ []) post al av ne c i m q =
    ⊎_elim (λ p. ne (slot_leads s j k al (moved h (slot_link s j) _ i x p c.1.0 q))) (λ p. p) m
before_apart s h w j k e (x ∷ y ∷ pre) post al av ne c i m q =
    ⊎_elim (λ p. av.1.0 (slot_leads s y k al (moved h (slot_link s y) _ i x p c.1.0 q)))
    (λ p. before_apart s h (link_word h x) j k e (y ∷ pre) post al av.1 ne c.1 i p q) m

-- the walk from k on
from_here : (s : Ehci) (h : List ℕ) (w j k e : ℕ) (pre post : List ℕ) → Chain s h w (pre ++ (j ∷ k ∷ post)) e → Chain s h (link_word h k) post e
from_here s h w j k e [] post c = c.1.1
from_here s h w j k e (x ∷ pre) post c = from_here s h (link_word h x) j k e pre post c.1

-- the word that a walk starts with does not lead to a head further on
start_apart : (s : Ehci) (h : List ℕ) (w j k e : ℕ) (pre post : List ℕ) → s.settings.heads % 128 ≡ 0 → Avoids k pre → (j ≡ k → ⊥)
    → Chain s h w (pre ++ (j ∷ post)) e → w / 32 ≡ head_address s k / 32 → ⊥
start_apart s h w j k e [] post al av ne c q = ne (slot_leads s j k al (sym (ap (λ (z : ℕ). z / 32) c.0) ∙ q))
start_apart s h w j k e (x ∷ pre) post al av ne c q = av.0 (slot_leads s x k al (sym (ap (λ (z : ℕ). z / 32) c.0) ∙ q))

-- a search that comes to j alone ends there
search_finds : (s : Ehci) (h : List ℕ) (k j : ℕ) (at n : ℕ) → at ≤ j → j < at + n → precedes s h k j ≡ true
    → ((i : ℕ) → i < j → precedes s h k i ≡ false) → search_from s h k at n ≡ Head j
unfolding search_from
search_finds s h k j at zero l g e f = absurd (omega arith)
search_finds s h k j at (suc n) l g e f = go (dec_eq at j) (λ p q. search_finds s h k j (suc at) n p q e f)
  where
    go : Dec (at ≡ j) → (suc at ≤ j → j < suc at + n → search_from s h k (suc at) n ≡ Head j) → search_from s h k at (suc n) ≡ Head j
    go (yes p) rec = rw (p, e)
    go (no ne) rec = rw (f at (omega arith)) (rec (omega arith) (omega arith))

precedes_leads : (s : Ehci) (h : List ℕ) (k i : ℕ) → precedes s h k i ≡ true → link_word h i / 32 ≡ head_address s k / 32
unfolding precedes_one
precedes_leads s h k i q =
    let phase = eqb (get_or s.phases i 0) 2 in
    let together = same (eqb (get_or s.kinds k 0) 3) (eqb (get_or s.kinds i 0) 3) in
    eqb-true (link_word h i / 32) (head_address s k / 32)
    (both_first _ _ (both_second together _ (both_second phase _ (both_second (not (eqb i k)) _ q))))

-- the head whose link leads to slot k's is that which stands before it in a walk of all heads of its schedule
module _ (s : Ehci) (h f : List ℕ) (j k e : ℕ) (pre post : List ℕ) (al : s.settings.heads % 128 ≡ 0)
    (c : Chain s h (first_word s h f k) (pre ++ (j ∷ k ∷ post)) e) (avp : Avoids k pre) (ne : j ≡ k → ⊥) (avq : Avoids k post)
    (ea : e / 32 ≡ head_address s k / 32 → ⊥) (within : j < s.settings.endpoints) (is : precedes s h k j ≡ true)
    (all : (i : ℕ) → precedes s h k i ≡ true → In i pre ⊎ ((i ≡ j) ⊎ In i post)) where
  others : (i : ℕ) → (i ≡ j → ⊥) → (b : Bool) → precedes s h k i ≡ b → b ≡ false
  others i n false q = refl
  others i n true q =
      absurd (⊎_elim (λ m. before_apart s h (first_word s h f k) j k e pre (k ∷ post) al avp ne c i m leads)
      (λ m. ⊎_elim n (λ p. after_apart s h (link_word h k) k e post al avq ea (from_here s h (first_word s h f k) j k e pre post c) i p leads) m)
      (all i q))
    where
      leads : link_word h i / 32 ≡ head_address s k / 32
      leads = precedes_leads s h k i q

  pub finds_later : predecessor_of s h f k ≡ Head j
  unfolding predecessor_of
  finds_later =
      rw (ne_eqb (first_word s h f k / 32) (head_address s k / 32) (start_apart s h (first_word s h f k) j k e pre (k ∷ post) al avp ne c))
      (search_finds s h k j 0 s.settings.endpoints (omega arith) (omega arith) is
      (λ i lt. others i (λ p. omega arith) (precedes s h k i) refl))

pub finds_first : (s : Ehci) (h f : List ℕ) (k : ℕ) → first_word s h f k ≡ slot_link s k → predecessor_of s h f k ≡ First
unfolding predecessor_of
finds_first s h f k e = rw (e, eq-eqb (slot_link s k / 32) (head_address s k / 32) (leads_here s k))
