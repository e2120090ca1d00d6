-- Calls that link and unlink nothing leave both schedules as they were.
use Prim.Native.Nat.{ℕ, ◌+◌, ◌*◌, ◌≤◌, ◌<◌}
use mathlib.Core.Path.{◌≡◌, refl, sym, ap, subst, ◌∙◌}
use mathlib.Core.Bool.{Bool, true, false}
use mathlib.Core.List.{List, ◌∷◌}
use native.Mathlib.Omega.{arith}
use borrow.Author.Tests.{ltb-false, ltb-true}
use lib.Dec.{ltb}
use lib.ListN.{get_or, length, replicate}
use lib.Seq.{get_or-set_other}
use Rattle.descriptor.specs.Descriptors.{terminated}
use Rattle.descriptor.specs.Heads.{endpoint_head, words_of}
use Rattle.pool.specs.Chains.{fill_of}
use Rattle.settings.specs.declared.settings.Settings.{Settings}
use Rattle.common.proofs.TestLaws.{false_true}
use Rattle.state.specs.State.{with_bell, with_boundaries, with_owner}
use Rattle.state.specs.Slots.{with_slot}
use Rattle.state.specs.Plain.{Ehci}
use Rattle.pipe.specs.Endpoints.{endpoint_at, with_endpoint, with_toggle}
use Rattle.pipe.specs.declared.endpoints.Endpoint.{Endpoint}
use Rattle.pipe.specs.declared.endpoints.Endpoint.TheVariants.{Closed, Idle, Unlinking}
use Rattle.pipe.proofs.EndpointLaws.{Wide, owner_wide}
use Rattle.opening.specs.Heads.{with_head_word}
use Rattle.common.proofs.RowLaws.{put_before, put_behind}
use Rattle.schedule.specs.Links.{ended_overlay, link_word, ring_link}
use Rattle.endpoint.specs.Calls.{new_endpoint, with_head, with_size}
use Rattle.request.specs.Writeback.{token_chain}
use Rattle.collection.specs.Calls.{finish_of, freed, marked}
use Rattle.collection.proofs.CollectLaws.{ended_others}
use Rattle.ehci.specs.declared.call.Call.{Call}
use Rattle.ehci.specs.Door.{Applied}
use Rattle.promises.specs.Runs.{History, Rows, Turn, World, left_by, rows_of, turn_of}
use Rattle.promises.specs.Events.{Collects, Drains, Event, Other, Reads, event}
use Rattle.promises.specs.Uses.{frame_slots, frames_after, ring_after, ring_slots}
use Rattle.promises.proofs.effects.Effects.{Clears, Closes, Collected, Counts, Hears, Joins, Marks, Opens, Passes, Resizes, Rewrites, Still, WritesBack, besides, with_heads, with_pool}
use Rattle.promises.proofs.invariants.Sound.{Sound, slot_below, slot_low}
use Rattle.promises.proofs.invariants.ChainInv.{Chained, heads_long, Schedule, Schedules, linked_fields, linked_in, schedule_stays, unlinked_stays}

-- ---- two schedules under a change that links and unlinks nothing

-- the words by which schedules go are the same
pub record LinksStay (s : Ehci) (h l : List ℕ) : Type 0 where
  pub ring : ring_link l ≡ ring_link h
  pub linked : (b : Bool) (k : ℕ) → linked_in b (endpoint_at s k) ≡ true → link_word l k ≡ link_word h k

pub schedules_stay : (s t : Ehci) (rows new : Rows) (ks js : List ℕ) → t.settings ≡ s.settings
    → ((b : Bool) (k : ℕ) → linked_in b (endpoint_at t k) ≡ linked_in b (endpoint_at s k)) → LinksStay s rows.heads new.heads
    → new.frames ≡ rows.frames → Schedules s rows ks js → Schedules t new ks js
schedules_stay s t rows new ks js e who words same x =
    record {
      ring =
          rw words.ring
          (subst (λ (n : ℕ). Schedule false t new.heads (ring_link rows.heads) ks n) (ap (λ (z : Settings). z.heads + 2) (sym e))
          (schedule_stays false s t e rows.heads new.heads (ring_link rows.heads) (s.settings.heads + 2) ks (who false) (words.linked false) x.ring));
      periodic =
          rw same
          (schedule_stays true s t e rows.heads new.heads (get_or rows.frames 0 0) 1 js (who true) (words.linked true) x.periodic);
      even = rw same x.even;
    }

-- all words are the same
words_same : (s : Ehci) (h : List ℕ) → LinksStay s h h
words_same s h = record { ring = refl; linked = λ b k e. refl }

-- ---- the invariant after a turn

module _ (s : Settings) (h : History) (w : World) (c : Call) (a : Applied) (sound : Sound s w) (x : Chained s h w) where
  abbrev turn : Turn
  turn = turn_of w.rows c a

  pub chained_after : (ev : Event) → event w.state.settings turn ≡ ev → (t : Ehci) (rows : Rows) → a.reply.state ≡ t → rows_of a ≡ rows
      → Schedules t rows (ring_after ev (ring_slots s h)) (frames_after ev (frame_slots s h)) → Chained s (turn ∷ h) (left_by a)
  unfolding ring_slots frame_slots
  chained_after ev e t rows es er y =
      let told : event s turn ≡ ev = ap (λ (z : Settings). event z turn) (sym sound.settings_are) ∙ e in
      rw (told, es) (subst (λ (z : Rows). Schedules t z (ring_after ev (ring_slots s h)) (frames_after ev (frame_slots s h))) (sym er) y)

  -- nothing of slots changes
  pub sides_keep : (ev : Event) → event w.state.settings turn ≡ ev → (t : Ehci) → a.reply.state ≡ t → rows_of a ≡ w.rows
      → t.settings ≡ w.state.settings → t.phases ≡ w.state.phases → t.kinds ≡ w.state.kinds
      → ring_after ev (ring_slots s h) ≡ ring_slots s h → frames_after ev (frame_slots s h) ≡ frame_slots s h → Chained s (turn ∷ h) (left_by a)
  sides_keep ev e t es er q p k ring frames =
      chained_after ev e t w.rows es er
      (rw (ring, frames) (schedules_stay w.state t w.rows w.rows (ring_slots s h) (frame_slots s h) q (λ b i. linked_fields b w.state t i p k)
      (words_same w.state w.rows.heads) refl x))

  pub still_keeps : Still w c a → Chained s (turn ∷ h) (left_by a)
  still_keeps y = sides_keep Other y.nothing (besides w.state y.sides) y.state_is y.rows_are refl refl refl refl refl

  pub joins_keeps : Joins w c a → Chained s (turn ∷ h) (left_by a)
  joins_keeps y = sides_keep Other y.nothing (besides w.state y.sides) y.state_is y.rows_are refl refl refl refl refl

  pub passes_keeps : Passes w c a → Chained s (turn ∷ h) (left_by a)
  passes_keeps y = sides_keep Drains y.drains (besides w.state y.sides) y.state_is y.rows_are refl refl refl refl refl

  pub hears_keeps : Hears w c a → Chained s (turn ∷ h) (left_by a)
  unfolding with_bell
  hears_keeps y = sides_keep Reads y.hears a.reply.state refl y.rows_are (ap (λ (z : Ehci). z.settings) y.state_is)
      (ap (λ (z : Ehci). z.phases) y.state_is) (ap (λ (z : Ehci). z.kinds) y.state_is) refl refl

  pub counts_keeps : Counts w c a → Chained s (turn ∷ h) (left_by a)
  unfolding with_bell with_boundaries
  counts_keeps y = sides_keep Drains y.drains a.reply.state refl y.rows_are (ap (λ (z : Ehci). z.settings) y.state_is)
      (ap (λ (z : Ehci). z.phases) y.state_is) (ap (λ (z : Ehci). z.kinds) y.state_is) refl refl

  -- the state is the same, and so are the links
  rows_keep : event w.state.settings turn ≡ Other → (rows : Rows) → a.reply.state ≡ w.state → rows_of a ≡ rows
      → LinksStay w.state w.rows.heads rows.heads → rows.frames ≡ w.rows.frames → Chained s (turn ∷ h) (left_by a)
  rows_keep e rows es er words same =
      chained_after Other e w.state rows es er
      (schedules_stay w.state w.state w.rows rows (ring_slots s h) (frame_slots s h) refl (λ b i. refl) words same x)

  pub writes_back_keeps : WritesBack w c a → Chained s (turn ∷ h) (left_by a)
  writes_back_keeps y =
      rows_keep y.nothing (with_pool w.rows (fill_of (token_chain w.state y.place y.token) w.rows.pool)) y.state_is y.rows_are
      (words_same w.state w.rows.heads) refl

  pub rewrites_keeps : Rewrites w c a → Chained s (turn ∷ h) (left_by a)
  rewrites_keeps y =
      rows_keep y.nothing (with_heads w.rows (with_head_word w.rows.heads (y.k + 1) 1 y.word)) y.state_is y.rows_are
      (record {
        ring = get_or-set_other w.rows.heads (17 * (y.k + 1) + 1) 0 y.word 0 (λ e. omega arith);
        linked = λ b i m. get_or-set_other w.rows.heads (17 * (y.k + 1) + 1) (17 * (i + 1)) y.word 0 (λ e. omega arith);
      })
      refl

  -- one slot that is not linked changes, and words of its own head alone
  pub slot_keeps : (k : ℕ) (e : Endpoint) (l : List ℕ) (ev : Event) → event w.state.settings turn ≡ ev → (t : Ehci) → a.reply.state ≡ with_endpoint t k e
      → rows_of a ≡ with_heads w.rows l → t.settings ≡ w.state.settings → t.phases ≡ w.state.phases → t.kinds ≡ w.state.kinds → Wide t → k < 32
      → ((b : Bool) → linked_in b (endpoint_at w.state k) ≡ false) → ((b : Bool) → linked_in b e ≡ false)
      → ring_link l ≡ ring_link w.rows.heads → ((i : ℕ) → (i ≡ k → ⊥) → link_word l i ≡ link_word w.rows.heads i)
      → ring_after ev (ring_slots s h) ≡ ring_slots s h → frames_after ev (frame_slots s h) ≡ frame_slots s h → Chained s (turn ∷ h) (left_by a)
  unfolding with_endpoint with_slot
  slot_keeps k e l ev told t es er q p kinds wide low old new ring words ks js =
      chained_after ev told (with_endpoint t k e) (with_heads w.rows l) es er
      (rw (ks, js) (schedules_stay w.state (with_endpoint t k e) w.rows (with_heads w.rows l) (ring_slots s h) (frame_slots s h) q who
      (record { ring = ring; linked = λ b i m. words i (λ z. false_true (sym (ap (λ (n : ℕ). linked_in b (endpoint_at w.state n)) z ∙ old b) ∙ m)) }) refl x))
    where
      who : (b : Bool) (i : ℕ) → linked_in b (endpoint_at (with_endpoint t k e) i) ≡ linked_in b (endpoint_at w.state i)
      who b i =
          unlinked_stays b t k e wide low (linked_fields b w.state t k p kinds ∙ old b) (new b) i ∙ linked_fields b w.state t i p kinds

  -- a slot's head is in the row
  head_within : (k : ℕ) → k < w.state.settings.endpoints → 17 * (k + 1) + 17 ≤ length w.rows.heads
  head_within k low = omega (arith, heads_long s w sound, low)

  -- words put over a whole head
  put_ring : (k : ℕ) (ws : List ℕ) → length ws ≡ 17 → k < w.state.settings.endpoints → ring_link (with_head w.rows.heads k ws) ≡ ring_link w.rows.heads
  put_ring k ws n low = put_before w.rows.heads (17 * (k + 1)) ws (omega (arith, head_within k low)) 0 (omega arith)

  put_links : (k : ℕ) (ws : List ℕ) → length ws ≡ 17 → k < w.state.settings.endpoints → (i : ℕ) → (i ≡ k → ⊥)
      → link_word (with_head w.rows.heads k ws) i ≡ link_word w.rows.heads i
  put_links k ws n low i ne = by (ltb i k) refl
    where
      fits : 17 * (k + 1) + length ws ≤ length w.rows.heads
      fits = omega (arith, head_within k low)

      by : (t : Bool) → ltb i k ≡ t → link_word (with_head w.rows.heads k ws) i ≡ link_word w.rows.heads i
      by true q = put_before w.rows.heads (17 * (k + 1)) ws fits (17 * (i + 1)) (omega (arith, ltb-true i k q))
      by false q = put_behind w.rows.heads (17 * (k + 1)) ws fits (17 * (i + 1)) (omega (arith, ltb-false i k q, ne, n))

  pub opens_keeps : Opens w c a → Chained s (turn ∷ h) (left_by a)
  unfolding endpoint_head terminated
  opens_keeps y =
      slot_keeps y.k (new_endpoint y.kind y.packet) (with_head w.rows.heads y.k (words_of (endpoint_head y.kind y.address y.endpoint y.packet))) Other y.nothing
      w.state y.state_is y.rows_are refl refl refl sound.wide (omega (arith, y.below, sound.ranges.good.endpoints_most))
      (λ b. ap (linked_in b) y.closed) (λ b. refl)
      (put_ring y.k (words_of (endpoint_head y.kind y.address y.endpoint y.packet)) refl y.below)
      (put_links y.k (words_of (endpoint_head y.kind y.address y.endpoint y.packet)) refl y.below) refl refl

  pub closes_keeps : Closes w c a → Chained s (turn ∷ h) (left_by a)
  closes_keeps y =
      let low = slot_below s w sound y.k (Idle y.p) y.idle refl in
      slot_keeps y.k Closed (with_head w.rows.heads y.k (replicate 17 0)) Other y.nothing
      w.state y.state_is y.rows_are refl refl refl sound.wide (slot_low s w sound y.k (Idle y.p) y.idle refl)
      (λ b. ap (linked_in b) y.idle) (λ b. refl)
      (put_ring y.k (replicate 17 0) refl low) (put_links y.k (replicate 17 0) refl low) refl refl

  pub resizes_keeps : Resizes w c a → Chained s (turn ∷ h) (left_by a)
  resizes_keeps y =
      slot_keeps y.k (Idle (with_size y.p y.size)) (with_head_word w.rows.heads (y.k + 1) 1 y.word) Other y.nothing
      w.state y.state_is y.rows_are refl refl refl sound.wide (slot_low s w sound y.k (Idle y.p) y.idle refl)
      (λ b. ap (linked_in b) y.idle) (λ b. refl)
      (get_or-set_other w.rows.heads (17 * (y.k + 1) + 1) 0 y.word 0 (λ e. omega arith))
      (λ i ne. get_or-set_other w.rows.heads (17 * (y.k + 1) + 1) (17 * (i + 1)) y.word 0 (λ e. omega arith)) refl refl

  pub clears_keeps : Clears w c a → Chained s (turn ∷ h) (left_by a)
  clears_keeps y =
      slot_keeps y.k (Idle (with_toggle y.p false)) w.rows.heads Other y.nothing
      w.state y.state_is y.rows_are refl refl refl sound.wide (slot_low s w sound y.k (Idle y.p) y.idle refl)
      (λ b. ap (linked_in b) y.idle) (λ b. refl) refl (λ i ne. refl) refl refl

  pub marks_keeps : Marks w c a → Chained s (turn ∷ h) (left_by a)
  marks_keeps y =
      slot_keeps y.k (Unlinking y.p (marked y.r) y.u) w.rows.heads Other y.nothing
      w.state y.state_is y.rows_are refl refl refl sound.wide (slot_low s w sound y.k (Unlinking y.p y.r y.u) y.unlinking refl)
      (λ b. ap (linked_in b) y.unlinking) (λ b. refl) refl (λ i ne. refl) refl refl

  pub collected_keeps : Collected w c a → Chained s (turn ∷ h) (left_by a)
  unfolding finish_of with_owner
  collected_keeps y =
      let room = head_within y.k (slot_below s w sound y.k (Unlinking y.p y.r y.u) y.unlinking refl) in
      slot_keeps y.k (Idle (with_toggle y.p y.toggle)) (ended_overlay w.rows.heads y.k) (Collects y.k y.r.id y.frame) y.collects
      (with_owner w.state (freed w.state.owner w.state.settings.descriptors (y.k + 1))) y.state_is y.rows_are refl refl refl
      (owner_wide w.state (freed w.state.owner w.state.settings.descriptors (y.k + 1)) sound.wide)
      (slot_low s w sound y.k (Unlinking y.p y.r y.u) y.unlinking refl)
      (λ b. ap (linked_in b) y.unlinking) (λ b. refl)
      (ended_others w.rows.heads y.k room 0 (λ m n. omega arith))
      (λ i ne. ended_others w.rows.heads y.k room (17 * (i + 1)) (λ m n. omega arith)) refl refl
