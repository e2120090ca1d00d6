-- The two schedules of a world: each is a chain of links through exactly the linked slots of its kind.
use Prim.Native.Nat.{ℕ, ◌+◌, ◌-◌, ◌*◌, ◌≤◌, ◌<◌}
use mathlib.Core.Path.{◌≡◌, refl, sym, ap, ◌∙◌}
use mathlib.Core.Bool.{Bool, true, false, not, ◌&&◌, cond}
use mathlib.Core.List.{List, [], ◌∷◌}
use native.Mathlib.Decide.{ℕ_discrete as dec_eq}
use native.Mathlib.Omega.{arith}
use borrow.Author.Tests.{eq-eqb, le-ltb, lt-ltb, ne_eqb}
use lib.Dec.{eqb, ltb}
use lib.ListN.{get_or, length, get_or-eq_default}
use Rattle.settings.specs.declared.settings.Settings.{Settings}
use Rattle.slot.specs.declared.slot.Slot.{Slot}
use Rattle.state.specs.Slots.{slot_at}
use Rattle.state.specs.Plain.{Ehci}
use Rattle.state.proofs.RangesLaws.{Ranges}
use Rattle.pipe.specs.Endpoints.{decoded, encoded, endpoint_at, kind_of, with_endpoint}
use Rattle.common.specs.Kinds.{is_interrupt}
use Rattle.pipe.specs.declared.endpoints.Endpoint.{Endpoint}
use Rattle.pipe.specs.declared.endpoints.Endpoint.TheVariants.{Closed, Idle, Linked, Unlinking}
use Rattle.pipe.proofs.EndpointLaws.{Wide, endpoint_other, kind_there, slot_same}
use Rattle.controller.specs.Readers.{has_endpoint}
use Rattle.controller.proofs.ReaderLaws.{open_below, open_within}
use Rattle.schedule.specs.Links.{link_word, periodic, ring_link, same}
use Rattle.schedule.specs.Walks.{Chain, Distinct}
use Rattle.promises.specs.Runs.{History, Rows, World}
use Rattle.promises.specs.Walks.{is_in}
use Rattle.promises.specs.Uses.{frame_slots, remove, ring_slots}
use Rattle.promises.proofs.invariants.Sound.{Sound}
use Rattle.promises.proofs.invariants.ChainLists.{distinct_remove, in_later, in_remove, in_same, out_avoids}
use Rattle.promises.proofs.effects.EffectRanges.{kind_most}

-- linked in the frame list (true), or in the ring (false)
abbrev pub linked_in : Bool → Endpoint → Bool
linked_in b Closed = false
linked_in b (Idle p) = false
linked_in b (Linked p r) = same b (is_interrupt p.kind)
linked_in b (Unlinking p r u) = false

-- from a word on, the links lead through these slots, which are all different and are all that are linked there, to a last word
pub record Schedule (b : Bool) (s : Ehci) (heads : List ℕ) (word : ℕ) (ks : List ℕ) (last : ℕ) : Type 0 where
  pub chain : Chain s heads word ks last
  pub apart : Distinct ks
  pub members : (k : ℕ) → is_in k ks ≡ linked_in b (endpoint_at s k)

pub record Schedules (s : Ehci) (rows : Rows) (ks js : List ℕ) : Type 0 where
  pub ring : Schedule false s rows.heads (ring_link rows.heads) ks (s.settings.heads + 2)
  pub periodic : Schedule true s rows.heads (get_or rows.frames 0 0) js 1
  pub even : (f : ℕ) → f < 1024 → get_or rows.frames f 0 ≡ get_or rows.frames 0 0

-- the invariant: the slots are those that the history tells
abbrev pub Chained : Settings → History → World → Type 0
Chained s h w = Schedules w.state w.rows (ring_slots s h) (frame_slots s h)

-- the row of heads is as long as the state's own settings say
pub heads_long : (s : Settings) (w : World) → Sound s w → length w.rows.heads ≡ 17 * (w.state.settings.endpoints + 1)
heads_long s w sound = sound.heads_fit ∙ ap (λ (z : Settings). 17 * (z.endpoints + 1)) (sym sound.settings_are)

-- ---- linked slots by their numbers

interrupt_is : (n : ℕ) → n ≤ 3 → is_interrupt (kind_of n) ≡ eqb n 3
interrupt_is n h = by (dec_eq n 0) (dec_eq n 1) (dec_eq n 2)
  where
    by : Dec (n ≡ 0) → Dec (n ≡ 1) → Dec (n ≡ 2) → is_interrupt (kind_of n) ≡ eqb n 3
    by (yes e) one two = rw e
    by (no a) (yes e) two = rw e
    by (no a) (no b) (yes e) = rw e
    by (no a) (no b) (no c) = rw (ne_eqb n 0 a, ne_eqb n 1 b, ne_eqb n 2 c) (sym (eq-eqb n 3 (omega arith)))

decoded_linked : (b : Bool) (e : Slot) → linked_in b (decoded e) ≡ (eqb e.phase 2 && same b (is_interrupt (kind_of e.kind)))
unfolding decoded
decoded_linked b e = by (dec_eq e.phase 1) (dec_eq e.phase 2) (dec_eq e.phase 3)
  where
    by : Dec (e.phase ≡ 1) → Dec (e.phase ≡ 2) → Dec (e.phase ≡ 3)
        → linked_in b (decoded e) ≡ (eqb e.phase 2 && same b (is_interrupt (kind_of e.kind)))
    by (yes p) two three = rw p
    by (no m) (yes p) three = rw p
    by (no m) (no n) (yes p) = rw p
    by (no m) (no n) (no o) = rw (ne_eqb e.phase 1 m, ne_eqb e.phase 2 n, ne_eqb e.phase 3 o)

-- it goes by the phases and the kinds alone
pub linked_fields : (b : Bool) (s t : Ehci) (k : ℕ) → t.phases ≡ s.phases → t.kinds ≡ s.kinds
    → linked_in b (endpoint_at t k) ≡ linked_in b (endpoint_at s k)
unfolding endpoint_at slot_at
linked_fields b s t k p q = by (ltb k 32)
  where
    by : (c : Bool) → linked_in b (cond c (decoded (slot_at t k)) Closed) ≡ linked_in b (cond c (decoded (slot_at s k)) Closed)
    by true = decoded_linked b (slot_at t k) ∙ rw (p, q) (sym (decoded_linked b (slot_at s k)))
    by false = refl

module _ (s : Ehci) (r : Ranges s) (w : Wide s) where
  pub linked_by : (b : Bool) (k : ℕ)
      → linked_in b (endpoint_at s k) ≡ (eqb (get_or s.phases k 0) 2 && same b (periodic s k))
  unfolding endpoint_at slot_at
  linked_by b k = by (dec_eq (k - 31) 0)
    where
      by : Dec (k - 31 ≡ 0) → linked_in b (endpoint_at s k) ≡ (eqb (get_or s.phases k 0) 2 && same b (periodic s k))
      by (yes q) =
          let low : k < 32 = omega arith in
          rw (lt-ltb k 32 low)
          (decoded_linked b (slot_at s k)
          ∙ rw (interrupt_is (get_or s.kinds k 0)
          (kind_most s r k low)))
      by (no ne) =
          let high : 32 ≤ k = omega arith in
          rw (le-ltb k 32 high, get_or-eq_default s.phases 0 {n = k} (omega (arith, w.phases_wide)))

linked_open : (b : Bool) (x : Endpoint) → linked_in b x ≡ true → has_endpoint x ≡ true
linked_open b Closed e = e
linked_open b (Idle p) e = refl
linked_open b (Linked p r) e = refl
linked_open b (Unlinking p r u) e = refl

pub linked_within : (b : Bool) (s : Ehci) (k : ℕ) → Ranges s → linked_in b (endpoint_at s k) ≡ true → k < s.settings.endpoints
linked_within b s k r e = open_within s k r (linked_open b (endpoint_at s k) e)

pub linked_below : (b : Bool) (s : Ehci) (k : ℕ) → linked_in b (endpoint_at s k) ≡ true → k < 32
linked_below b s k e = open_below s k (linked_open b (endpoint_at s k) e)

-- ---- an endpoint put into a slot

decode_linked_in : (b : Bool) (x : Endpoint) → linked_in b (decoded (encoded x)) ≡ linked_in b x
unfolding decoded
decode_linked_in b Closed = refl
decode_linked_in b (Idle p) = refl
decode_linked_in b (Linked p r) = rw (kind_there p.kind)
decode_linked_in b (Unlinking p r u) = refl

pub linked_here : (b : Bool) (s : Ehci) (k : ℕ) (x : Endpoint) → Wide s → k < 32 → linked_in b (endpoint_at (with_endpoint s k x) k) ≡ linked_in b x
unfolding endpoint_at with_endpoint
linked_here b s k x w h = rw (lt-ltb k 32 h, slot_same s k (encoded x) w h) (decode_linked_in b x)

pub linked_there : (b : Bool) (s : Ehci) (k : ℕ) (x : Endpoint) (i : ℕ) → (i ≡ k → ⊥)
    → linked_in b (endpoint_at (with_endpoint s k x) i) ≡ linked_in b (endpoint_at s i)
linked_there b s k x i ne = ap (linked_in b) (endpoint_other s k x i ne)

-- neither was it linked, nor is what is put there
pub unlinked_stays : (b : Bool) (s : Ehci) (k : ℕ) (x : Endpoint) → Wide s → k < 32 → linked_in b (endpoint_at s k) ≡ false → linked_in b x ≡ false
    → (i : ℕ) → linked_in b (endpoint_at (with_endpoint s k x) i) ≡ linked_in b (endpoint_at s i)
unlinked_stays b s k x w h old new i = by (dec_eq i k)
  where
    by : Dec (i ≡ k) → linked_in b (endpoint_at (with_endpoint s k x) i) ≡ linked_in b (endpoint_at s i)
    by (yes q) = rw q (linked_here b s k x w h ∙ new ∙ sym old)
    by (no ne) = linked_there b s k x i ne

-- ---- chains and schedules under a change

pub chain_stays : (s t : Ehci) (h l : List ℕ) (w e : ℕ) (ks : List ℕ) → t.settings ≡ s.settings
    → ((k : ℕ) → is_in k ks ≡ true → link_word l k ≡ link_word h k) → Chain s h w ks e → Chain t l w ks e
chain_stays s t h l w e [] q f c = c
chain_stays s t h l w e (k ∷ ks) q f c = (
  c.0 ∙ rw q,
  rw (f k (in_same k ks)) (chain_stays s t h l (link_word h k) e ks q (λ i m. f i (in_later i k ks m)) c.1),
)

module _ (b : Bool) (s t : Ehci) (e : t.settings ≡ s.settings) (h l : List ℕ) (word last : ℕ) (ks : List ℕ) where
  -- no slot is linked or unlinked, and the links of linked heads are the same
  pub schedule_stays : ((k : ℕ) → linked_in b (endpoint_at t k) ≡ linked_in b (endpoint_at s k))
      → ((k : ℕ) → linked_in b (endpoint_at s k) ≡ true → link_word l k ≡ link_word h k)
      → Schedule b s h word ks last → Schedule b t l word ks last
  schedule_stays who words x =
      record {
        chain = chain_stays s t h l word last ks e (λ k m. words k (sym (x.members k) ∙ m)) x.chain;
        apart = x.apart;
        members = λ k. x.members k ∙ sym (who k);
      }

  module _ (k : ℕ) (others : (i : ℕ) → (i ≡ k → ⊥) → linked_in b (endpoint_at t i) ≡ linked_in b (endpoint_at s i)) where
    -- slot k is linked now, and is met first
    pub schedule_grows : linked_in b (endpoint_at s k) ≡ false → linked_in b (endpoint_at t k) ≡ true → Chain t l word (k ∷ ks) last
        → (old : ℕ) → Schedule b s h old ks last → Schedule b t l word (k ∷ ks) last
    schedule_grows before now c old x =
        record { chain = c; apart = (out_avoids k ks (x.members k ∙ before), x.apart); members = λ i. by i (dec_eq k i) }
      where
        by : (i : ℕ) → Dec (k ≡ i) → is_in i (k ∷ ks) ≡ linked_in b (endpoint_at t i)
        by i (yes q) = rw (← q, eq-eqb k k refl) (sym now)
        by i (no ne) = rw (ne_eqb k i ne) (x.members i ∙ sym (others i (λ q. ne (sym q))))

    -- slot k is linked no more
    pub schedule_shrinks : linked_in b (endpoint_at t k) ≡ false → Chain t l word (remove k ks) last
        → (old : ℕ) → Schedule b s h old ks last → Schedule b t l word (remove k ks) last
    schedule_shrinks now c old x =
        record { chain = c; apart = distinct_remove k ks x.apart; members = λ i. in_remove k i ks ∙ by i (dec_eq i k) }
      where
        by : (i : ℕ) → Dec (i ≡ k) → (not (eqb i k) && is_in i ks) ≡ linked_in b (endpoint_at t i)
        by i (yes q) = rw (q, eq-eqb k k refl) (sym now)
        by i (no ne) = rw (ne_eqb i k ne) (x.members i ∙ sym (others i ne))
