-- An accepted submit puts its slot first in its schedule; an unlink takes its slot out; neither touches the other schedule.
use Prim.Native.Nat.{ℕ, ◌+◌, ◌*◌, ◌≤◌, ◌<◌}
use mathlib.Core.Path.{◌≡◌, refl, sym, ap, subst, ◌∙◌}
use mathlib.Core.Bool.{Bool, true, false}
use mathlib.Core.List.{List, ◌∷◌}
use native.Mathlib.Decide.{ℕ_discrete as dec_eq}
use native.Mathlib.Omega.{arith}
use lib.ListN.{get_or, length}
use lib.Seq.{get_or-set_other}
use Rattle.settings.specs.declared.settings.Settings.{Settings}
use Rattle.common.proofs.TestLaws.{false_true}
use Rattle.state.specs.Plain.{Ehci}
use Rattle.common.specs.declared.kinds.EndpointType.{EndpointType}
use Rattle.pipe.specs.Endpoints.{endpoint_at}
use Rattle.common.specs.Kinds.{is_interrupt}
use Rattle.pipe.specs.declared.endpoints.Endpoint.{Endpoint}
use Rattle.pipe.specs.declared.endpoints.Endpoint.TheVariants.{Closed, Idle, Linked, Unlinking}
use Rattle.controller.specs.Readers.{holds_request}
use Rattle.schedule.proofs.OverlayLaws.{started_length, started_word}
use Rattle.schedule.specs.Links.{Links, attached_frames, attached_ring, link_word, links, ring_link, slot_link, started_overlay}
use Rattle.schedule.specs.Walks.{Avoids, Chain}
use Rattle.schedule.proofs.WalkLaws.{attach_first, frames_first}
use Rattle.request.specs.Submit.{linked_rows}
use Rattle.request.proofs.SubmitLaws.{submit_words}
use Rattle.promises.specs.Runs.{Rows}
use Rattle.promises.specs.Walks.{is_in}
use Rattle.promises.proofs.effects.Effects.{with_links}
use Rattle.promises.proofs.invariants.ChainLists.{out_avoids}
use Rattle.promises.proofs.invariants.ChainInv.{Schedule, Schedules, chain_stays, linked_in, schedule_grows, schedule_stays}

pub bare_unlinked : (b : Bool) (x : Endpoint) → holds_request x ≡ false → linked_in b x ≡ false
bare_unlinked b Closed e = refl
bare_unlinked b (Idle p) e = refl
bare_unlinked b (Linked p r) e = absurd (false_true (sym e))
bare_unlinked b (Unlinking p r u) e = refl

-- ---- the overlay is written before the head is linked: no link changes

module _ (h : List ℕ) (k first token : ℕ) where
  overlay_ring : ring_link (started_overlay h k first token) ≡ ring_link h
  overlay_ring = started_word h k first token 0 (λ e. omega arith) (λ e. omega arith) (λ e. omega arith)

  overlay_link : (i : ℕ) → link_word (started_overlay h k first token) i ≡ link_word h i
  overlay_link i = started_word h k first token (17 * (i + 1)) (λ e. omega arith) (λ e. omega arith) (λ e. omega arith)

-- ---- linking

module _ (s t : Ehci) (rows : Rows) (ks js : List ℕ) (x : Schedules s rows ks js) (k first token : ℕ) (room : 17 * (k + 1) + 17 ≤ length rows.heads)
    (full : length rows.frames ≡ 1024) (e : t.settings ≡ s.settings)
    (others : (b : Bool) (i : ℕ) → (i ≡ k → ⊥) → linked_in b (endpoint_at t i) ≡ linked_in b (endpoint_at s i))
    (bare : (b : Bool) → linked_in b (endpoint_at s k) ≡ false) where
  abbrev h : List ℕ
  h = rows.heads

  abbrev f : List ℕ
  f = rows.frames

  abbrev started : List ℕ
  started = started_overlay h k first token

  abbrev linked : EndpointType → Links
  linked kind = linked_rows h f kind k (slot_link s k) first token

  -- the head of a linked slot is another
  another : (b : Bool) (i : ℕ) → linked_in b (endpoint_at s i) ≡ true → i ≡ k → ⊥
  another b i m q = false_true (sym (ap (λ (n : ℕ). linked_in b (endpoint_at s n)) q ∙ bare b) ∙ m)

  linked_word : (kind : EndpointType) (b : Bool) (i : ℕ) → linked_in b (endpoint_at s i) ≡ true → link_word (linked kind).heads i ≡ link_word h i
  linked_word kind b i m =
      let ne = another b i m in
      submit_words h f k (slot_link s k) first token (17 * (i + 1)) (λ q. omega arith) (λ q. ne (omega arith)) (λ q. omega arith) (λ q. omega arith) (λ q. omega arith) kind

  -- the other schedule stays
  who : (b : Bool) → linked_in b (endpoint_at t k) ≡ false → (i : ℕ) → linked_in b (endpoint_at t i) ≡ linked_in b (endpoint_at s i)
  who b new i = by (dec_eq i k)
    where
      by : Dec (i ≡ k) → linked_in b (endpoint_at t i) ≡ linked_in b (endpoint_at s i)
      by (yes q) = rw q (new ∙ sym (bare b))
      by (no ne) = others b i ne

  ring_chain : Chain s started (ring_link started) ks (s.settings.heads + 2)
  ring_chain = rw (overlay_ring h k first token) (chain_stays s s h started (ring_link h) (s.settings.heads + 2) ks refl (λ i m. overlay_link h k first token i) x.ring.chain)

  frame_chain : Chain s started (get_or f 0 0) js 1
  frame_chain = chain_stays s s h started (get_or f 0 0) 1 js refl (λ i m. overlay_link h k first token i) x.periodic.chain

  avoided : (b : Bool) (ls : List ℕ) → ((i : ℕ) → is_in i ls ≡ linked_in b (endpoint_at s i)) → Avoids k ls
  avoided b ls m = out_avoids k ls (m k ∙ bare b)

  head_room : 17 * (k + 1) < length started
  head_room = omega (arith, room, started_length h k first token)

  -- into the ring
  module _ (kind : EndpointType) (q : is_interrupt kind ≡ false) where
    ring_rows : linked kind ≡ links (attached_ring started k (slot_link s k)) f
    unfolding linked_rows
    ring_rows = rw q

    ring_grown : Chain s (linked kind).heads (ring_link (linked kind).heads) (k ∷ ks) (s.settings.heads + 2)
    ring_grown =
        subst (λ (z : Links). Chain s z.heads (ring_link z.heads) (k ∷ ks) (s.settings.heads + 2)) (sym ring_rows)
        (attach_first s started k (s.settings.heads + 2) ks head_room (avoided false ks x.ring.members) ring_chain)

    pub links_ring : linked_in false (endpoint_at t k) ≡ true → linked_in true (endpoint_at t k) ≡ false
        → Schedules t (with_links rows (linked kind).heads (linked kind).frames) (k ∷ ks) js
    links_ring now off =
        let l = (linked kind).heads in
        let same : (linked kind).frames ≡ f = ap (λ (z : Links). z.frames) ring_rows in
        record {
          ring =
              subst (λ (n : ℕ). Schedule false t l (ring_link l) (k ∷ ks) n) (ap (λ (z : Settings). z.heads + 2) (sym e))
              (schedule_grows false s t e h l (ring_link l) (s.settings.heads + 2) ks k (others false) (bare false) now
              (chain_stays s t l l (ring_link l) (s.settings.heads + 2) (k ∷ ks) e (λ i m. refl) ring_grown) (ring_link h) x.ring);
          periodic = rw same (schedule_stays true s t e h l (get_or f 0 0) 1 js (who true off) (linked_word kind true) x.periodic);
          even = rw same x.even;
        }

  -- into the frame list
  module _ (kind : EndpointType) (q : is_interrupt kind ≡ true) where
    frame_rows : linked kind ≡ attached_frames started f k (slot_link s k)
    unfolding linked_rows
    frame_rows = rw q

    frames_grown : ((i : ℕ) → i < length f → get_or (attached_frames started f k (slot_link s k)).frames i 0 ≡ slot_link s k)
        × Chain s (attached_frames started f k (slot_link s k)).heads (slot_link s k) (k ∷ js) 1
    frames_grown = frames_first s started f k 1 js head_room (avoided true js x.periodic.members) frame_chain

    every_entry : (i : ℕ) → i < 1024 → get_or (linked kind).frames i 0 ≡ slot_link s k
    every_entry i low = rw frame_rows (frames_grown.0 i (omega (arith, full)))

    frame_grown : Chain s (linked kind).heads (slot_link s k) (k ∷ js) 1
    frame_grown = subst (λ (z : Links). Chain s z.heads (slot_link s k) (k ∷ js) 1) (sym frame_rows) frames_grown.1

    ring_same : ring_link (linked kind).heads ≡ ring_link h
    unfolding attached_frames
    ring_same = rw frame_rows (get_or-set_other started (17 * (k + 1)) 0 (get_or f 0 0) 0 (λ z. omega arith) ∙ overlay_ring h k first token)

    pub links_frames : linked_in true (endpoint_at t k) ≡ true → linked_in false (endpoint_at t k) ≡ false
        → Schedules t (with_links rows (linked kind).heads (linked kind).frames) ks (k ∷ js)
    links_frames now off =
        let l = (linked kind).heads in
        let all = every_entry in
        record {
          ring =
              rw ring_same
              (subst (λ (n : ℕ). Schedule false t l (ring_link h) ks n) (ap (λ (z : Settings). z.heads + 2) (sym e))
              (schedule_stays false s t e h l (ring_link h) (s.settings.heads + 2) ks (who false off) (linked_word kind false) x.ring));
          periodic =
              rw (all 0 (omega arith))
              (schedule_grows true s t e h l (slot_link s k) 1 js k (others true) (bare true) now
              (chain_stays s t l l (slot_link s k) 1 (k ∷ js) e (λ i m. refl) frame_grown) (get_or f 0 0) x.periodic);
          even = λ i low. all i low ∙ sym (all 0 (omega arith));
        }
