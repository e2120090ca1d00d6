-- A linked head is found by its predecessor, and taking it out leaves both schedules' chains.
use Prim.Native.Nat.{ℕ, ◌+◌, ◌*◌, ◌/◌, ◌<◌}
use mathlib.Core.Path.{◌≡◌, refl, sym, ap, subst, ◌∙◌}
use mathlib.Core.Bool.{Bool, true, false, not, ◌&&◌, or-true}
use mathlib.Core.List.{List, [], ◌∷◌, ◌++◌}
use native.Mathlib.Omega.{arith}
use borrow.Author.Tests.{eq-eqb, eqb-false, ne_eqb, not-true}
use lib.Dec.{eqb}
use lib.ListN.{get_or, get_or-replicate, length, replicate}
use lib.Seq.{get_or-set_other}
use Rattle.common.proofs.TestLaws.{false_true, both_first, both_second}
use Rattle.state.specs.Plain.{Ehci}
use Rattle.state.proofs.RangesLaws.{Ranges}
use Rattle.pipe.specs.Endpoints.{endpoint_at}
use Rattle.common.specs.Kinds.{is_interrupt}
use Rattle.pipe.specs.declared.endpoints.Endpoint.{Endpoint}
use Rattle.pipe.specs.declared.endpoints.Endpoint.TheVariants.{Closed, Idle, Linked, Unlinking}
use Rattle.pipe.proofs.EndpointLaws.{Wide}
use Rattle.schedule.specs.Links.{Links, detach_of, first_word, head_address, link_word, periodic, precedes, precedes_one, predecessor_of, ring_link, same, slot_link, with_link_word, with_ring_link}
use Rattle.schedule.specs.Walks.{Chain, Distinct}
use Rattle.schedule.specs.declared.links.Predecessor.TheVariants.{First, Head}
use Rattle.schedule.proofs.WalkLaws.{finds_first, finds_later, first_leaves, later_leaves, leads_here}
use Rattle.promises.specs.Runs.{Rows}
use Rattle.promises.specs.Walks.{is_in}
use Rattle.promises.specs.Uses.{remove}
use Rattle.promises.proofs.invariants.ChainLists.{Stands, elsewhere, first, in_append, later, neighbours, remove_first, remove_later, stands}
use Rattle.promises.proofs.invariants.ChainInv.{Schedule, Schedules, chain_stays, linked_by, linked_within, linked_in}

pub same_is : (b c : Bool) → same b c ≡ true → c ≡ b
same_is true c e = e
same_is false c e = not-true c e

same_self : (b : Bool) → same b b ≡ true
same_self true = refl
same_self false = refl

pub linked_periodic : (s : Ehci) → Ranges s → Wide s → (b : Bool) (k : ℕ) → linked_in b (endpoint_at s k) ≡ true → periodic s k ≡ b
linked_periodic s r wide b k e =
    same_is b (periodic s k) (both_second (eqb (get_or s.phases k 0) 2) _ (sym (linked_by s r wide b k) ∙ e))

-- the link of a head in a chain leads to the next
next_link : (s : Ehci) (h : List ℕ) (w j k e : ℕ) (pre post : List ℕ) → Chain s h w (pre ++ j ∷ k ∷ post) e → link_word h j ≡ slot_link s k
next_link s h w j k e [] post c = c.1.0
next_link s h w j k e (i ∷ pre) post c = next_link s h (link_word h i) j k e pre post c.1

in_neighbour : (j k : ℕ) (pre post : List ℕ) → is_in j (pre ++ j ∷ k ∷ post) ≡ true
in_neighbour j k pre post = in_append j pre (j ∷ k ∷ post) ∙ rw (eq-eqb j j refl) (or-true (is_in j pre))

-- where slot k stands, with its predecessor
pub data Met (s : Ehci) (h f : List ℕ) (k : ℕ) (ks : List ℕ) : Type 0 where
  at_first : (post : List ℕ) → ks ≡ k ∷ post → predecessor_of s h f k ≡ First → Met s h f k ks
  at_later : (pre : List ℕ) (j : ℕ) (post : List ℕ) → ks ≡ pre ++ j ∷ k ∷ post → predecessor_of s h f k ≡ Head j → Met s h f k ks

module _ (s : Ehci) (r : Ranges s) (wide : Wide s) (h f : List ℕ) (k : ℕ) (b : Bool) (word last : ℕ) (ks : List ℕ)
    (x : Schedule b s h word ks last) (start : first_word s h f k ≡ word) (end : last / 32 ≡ head_address s k / 32 → ⊥)
    (linked : linked_in b (endpoint_at s k) ≡ true) where
  own : periodic s k ≡ b
  own = linked_periodic s r wide b k linked

  -- what a linked head of the same schedule says
  precedes_in : (j : ℕ) → precedes s h k j ≡ true → is_in j ks ≡ true
  unfolding precedes_one
  precedes_in j e =
      let phase = both_second (not (eqb j k)) _ e in
      let kinds = both_second (eqb (get_or s.phases j 0) 2) _ phase in
      let two = both_first (eqb (get_or s.phases j 0) 2) _ phase in
      let together = both_first (same (periodic s k) (periodic s j)) _ kinds in
      let alike : same b (periodic s j) ≡ true = rw own at together in
      x.members j ∙ linked_by s r wide b j ∙ rw (two, alike)

  precedes_other : (j : ℕ) → precedes s h k j ≡ true → j ≡ k → ⊥
  unfolding precedes_one
  precedes_other j e = eqb-false j k (not-true (eqb j k) (both_first (not (eqb j k)) _ e))

  precedes_made : (j : ℕ) → is_in j ks ≡ true → (j ≡ k → ⊥) → link_word h j ≡ slot_link s k → precedes s h k j ≡ true
  unfolding precedes_one
  precedes_made j m ne link =
      let is : (eqb (get_or s.phases j 0) 2 && same b (periodic s j)) ≡ true = sym (linked_by s r wide b j) ∙ sym (x.members j) ∙ m in
      rw (
        ne_eqb j k ne,
        both_first (eqb (get_or s.phases j 0) 2) _ is,
        own,
        both_second (eqb (get_or s.phases j 0) 2) _ is,
        link,
        eq-eqb (slot_link s k / 32) (head_address s k / 32) (leads_here s k),
      )

  met_at : Stands k ks → Met s h f k ks
  met_at (first post e) =
      at_first post e
      (finds_first s h f k (start ∙ (subst (λ (l : List ℕ). Chain s h word l last) e x.chain).0))
  met_at (later pre j post e) =
      let n = neighbours j k pre post (subst Distinct e x.apart) in
      let c : Chain s h word (pre ++ j ∷ k ∷ post) last = subst (λ (l : List ℕ). Chain s h word l last) e x.chain in
      let here : is_in j ks ≡ true = ap (is_in j) e ∙ in_neighbour j k pre post in
      at_later pre j post e
      (finds_later s h f j k last pre post r.good.heads_aligned (rw start c) n.k_before n.apart n.k_after end
      (linked_within b s j r (sym (x.members j) ∙ here))
      (precedes_made j here n.apart (next_link s h word j k last pre post c))
      (λ i p. elsewhere i j k pre post (sym (ap (is_in i) e) ∙ precedes_in i p) (precedes_other i p)))

  pub met : Met s h f k ks
  met = met_at (stands k ks (x.members k ∙ linked))

-- ---- what a detach leaves

-- both chains without slot k, in rows that are left; the endpoints are those before
pub record Parted (s : Ehci) (rows : Links) (ks js : List ℕ) : Type 0 where
  pub ring : Chain s rows.heads (ring_link rows.heads) ks (s.settings.heads + 2)
  pub frames : Chain s rows.heads (get_or rows.frames 0 0) js 1
  pub even : (i : ℕ) → i < 1024 → get_or rows.frames i 0 ≡ get_or rows.frames 0 0

not_both : (x : Endpoint) → linked_in false x ≡ true → linked_in true x ≡ true → ⊥
not_both Closed a b = false_true a
not_both (Idle p) a b = false_true a
not_both (Linked p r) a b = false_true (sym (not-true (is_interrupt p.kind) a) ∙ b)
not_both (Unlinking p r u) a b = false_true a

module _ (s : Ehci) (r : Ranges s) (wide : Wide s) (rows : Rows) (ks js : List ℕ) (x : Schedules s rows ks js)
    (fit : length rows.heads ≡ 17 * (s.settings.endpoints + 1)) (full : length rows.frames ≡ 1024) (k : ℕ) where
  abbrev h : List ℕ
  h = rows.heads

  abbrev f : List ℕ
  f = rows.frames

  -- a slot of the ring and one of the frame list are two
  schedules_apart : (i j : ℕ) → is_in i ks ≡ true → is_in j js ≡ true → i ≡ j → ⊥
  schedules_apart i j a b e =
      not_both (endpoint_at s i) (sym (x.ring.members i) ∙ a) (ap (λ (n : ℕ). linked_in true (endpoint_at s n)) e ∙ sym (x.periodic.members j) ∙ b)

  ring_word_lem : (j v : ℕ) → ring_link (with_link_word h j v) ≡ ring_link h
  ring_word_lem j v = get_or-set_other h (17 * (j + 1)) 0 v 0 (λ e. omega arith)

  other_word : (j v i : ℕ) → (i ≡ j → ⊥) → link_word (with_link_word h j v) i ≡ link_word h i
  other_word j v i ne = get_or-set_other h (17 * (j + 1)) (17 * (i + 1)) v 0 (λ e. ne (omega arith))

  past_ring : (v i : ℕ) → link_word (with_ring_link h v) i ≡ link_word h i
  past_ring v i = get_or-set_other h 0 (17 * (i + 1)) v 0 (λ e. omega arith)

  has_head : (b : Bool) (j : ℕ) → linked_in b (endpoint_at s j) ≡ true → 17 * (j + 1) < length h
  has_head b j e = let low : j < s.settings.endpoints = linked_within b s j r e in omega (arith, fit, low)

  -- a head of the ring
  module _ (linked : linked_in false (endpoint_at s k) ≡ true) where
    async : periodic s k ≡ false
    async = linked_periodic s r wide false k linked

    pub ring_met : Met s h f k ks
    ring_met =
        met s r wide h f k false (ring_link h) (s.settings.heads + 2) ks x.ring (rw async)
        (λ e. omega (arith, r.good.heads_aligned)) linked

    ring_parted_at : Met s h f k ks → Parted s (detach_of s h f k).rows (remove k ks) js
    unfolding detach_of
    ring_parted_at (at_first post e p) =
        let d : Distinct (k ∷ post) = subst Distinct e x.ring.apart in
        let gone : remove k ks ≡ post = ap (remove k) e ∙ remove_first k post d.0 in
        let c = subst (λ (l : List ℕ). Chain s h (ring_link h) l (s.settings.heads + 2)) e x.ring.chain in
        rw (p, async)
        (record {
          ring = rw gone (first_leaves s h k (s.settings.heads + 2) post (omega (arith, fit)) c);
          frames = chain_stays s s h (with_ring_link h (link_word h k)) (get_or f 0 0) 1 js refl (λ i m. past_ring (link_word h k) i) x.periodic.chain;
          even = x.even;
        })
    ring_parted_at (at_later pre j post e p) =
        let n = neighbours j k pre post (subst Distinct e x.ring.apart) in
        let gone : remove k ks ≡ pre ++ j ∷ post = ap (remove k) e ∙ remove_later j k pre post n in
        let c = subst (λ (l : List ℕ). Chain s h (ring_link h) l (s.settings.heads + 2)) e x.ring.chain in
        let v = link_word h k in
        let here : is_in j ks ≡ true = ap (is_in j) e ∙ in_neighbour j k pre post in
        rw p
        (record {
          ring =
              rw (gone, ring_word_lem j v)
              (later_leaves s h (ring_link h) j k (s.settings.heads + 2) pre post (has_head false j (sym (x.ring.members j) ∙ here)) n.j_before n.j_after c);
          frames =
              chain_stays s s h (with_link_word h j v) (get_or f 0 0) 1 js refl
              (λ i m. other_word j v i (λ q. schedules_apart j i here m (sym q))) x.periodic.chain;
          even = x.even;
        })

    pub ring_parted : Parted s (detach_of s h f k).rows (remove k ks) js
    ring_parted = ring_parted_at ring_met

  -- a head of the frame list
  module _ (linked : linked_in true (endpoint_at s k) ≡ true) where
    frames_own : periodic s k ≡ true
    frames_own = linked_periodic s r wide true k linked

    pub frames_met : Met s h f k js
    frames_met =
        met s r wide h f k true (get_or f 0 0) 1 js x.periodic (rw frames_own) (λ e. omega arith) linked

    frames_parted_at : Met s h f k js → Parted s (detach_of s h f k).rows ks (remove k js)
    unfolding detach_of
    frames_parted_at (at_first post e p) =
        let d : Distinct (k ∷ post) = subst Distinct e x.periodic.apart in
        let gone : remove k js ≡ post = ap (remove k) e ∙ remove_first k post d.0 in
        let c = subst (λ (l : List ℕ). Chain s h (get_or f 0 0) l 1) e x.periodic.chain in
        let v = link_word h k in
        let all : (i : ℕ) → i < 1024 → get_or (replicate (length f) v) i 0 ≡ v = λ i low. get_or-replicate (length f) i v 0 (omega (arith, full)) in
        rw (p, frames_own)
        (record {
          ring = x.ring.chain;
          frames = rw (gone, all 0 (omega arith)) c.1;
          even = λ i low. all i low ∙ sym (all 0 (omega arith));
        })
    frames_parted_at (at_later pre j post e p) =
        let n = neighbours j k pre post (subst Distinct e x.periodic.apart) in
        let gone : remove k js ≡ pre ++ j ∷ post = ap (remove k) e ∙ remove_later j k pre post n in
        let c = subst (λ (l : List ℕ). Chain s h (get_or f 0 0) l 1) e x.periodic.chain in
        let v = link_word h k in
        let here : is_in j js ≡ true = ap (is_in j) e ∙ in_neighbour j k pre post in
        rw p
        (record {
          ring =
              rw (ring_word_lem j v)
              (chain_stays s s h (with_link_word h j v) (ring_link h) (s.settings.heads + 2) ks refl
              (λ i m. other_word j v i (schedules_apart i j m here)) x.ring.chain);
          frames =
              rw gone
              (later_leaves s h (get_or f 0 0) j k 1 pre post (has_head true j (sym (x.periodic.members j) ∙ here)) n.j_before n.j_after c);
          even = x.even;
        })

    pub frames_parted : Parted s (detach_of s h f k).rows ks (remove k js)
    frames_parted = frames_parted_at frames_met
