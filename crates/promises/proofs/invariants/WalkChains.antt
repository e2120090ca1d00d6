-- A chain of links, walked as the controller walks it.
use Prim.Native.Nat.{ℕ, zero, suc, ◌+◌, ◌*◌, ◌-◌, ◌/◌, ◌%◌, ◌^◌, ◌≤◌, ◌<◌}
use mathlib.Core.Path.{◌≡◌, refl, ap, ◌∙◌}
use mathlib.Core.Bool.{true, cond}
use mathlib.Core.List.{List, [], ◌∷◌}
use native.Mathlib.Omega.{arith}
use borrow.Author.Tests.{eq-eqb, ne_eqb}
use lib.Dec.{eqb}
use lib.ListN.{get_or, length}
use Rattle.descriptor.specs.EhciQueueHead.{link_address, link_terminate, link_type}
use Rattle.descriptor.specs.Heads.{qh_link}
use Rattle.settings.proofs.SettingsLaws.{Good}
use Rattle.settings.specs.declared.settings.Settings.{Settings}
use Rattle.state.specs.Plain.{Ehci}
use Rattle.schedule.specs.Links.{slot_link}
use Rattle.schedule.specs.Walks.{Chain}
use Rattle.promises.specs.Walks.{AtRingHead, End, Ends, On, Terminated, Walk, is_in, link_leads, link_walk, meets, place_at, walk_from}
use Rattle.promises.specs.Chains.{head_places}
use Rattle.promises.proofs.any_machine.Walking.{comes_to, goes_on, own_place}
use Rattle.promises.proofs.invariants.ChainLists.{in_later, in_same}

-- the address in a link word
link_even : (h k : ℕ) → h % 128 ≡ 0 → qh_link (h + 128 * k) ≡ h + 128 * k + 2
link_even h k e = omega arith

link_address_lem : (a : ℕ) → a % 32 ≡ 0 → a < 2 ^ 32 → link_address (a + 2) ≡ a
link_address_lem a e l =
    let at : (a + 2) / 32 ≡ a / 32 = omega arith in
    let low : a / 32 < 2 ^ 27 = omega arith in
    let all : a / 32 % 2 ^ 27 ≡ a / 32 = omega (arith, low) in
    ap (λ (x : ℕ). x % 2 ^ 27 * 32) at ∙ ap (λ (x : ℕ). x * 32) all ∙ omega arith

-- a link to the queue head at an address leads to the ring head or to the place of that address
link_to : (s : Settings) (a : ℕ) → a % 32 ≡ 0 → a < 2 ^ 32
    → link_leads s (a + 2) ≡ cond (eqb a s.heads) (Ends AtRingHead) (place_at s.heads 128 (s.endpoints + 1) a)
link_to s a e l =
    let open_end : link_terminate (a + 2) ≡ 0 = omega arith in
    let queue : link_type (a + 2) ≡ 1 = omega arith in
    rw (open_end, queue, link_address_lem a e l)

module _ (s : Ehci) (g : Good s.settings) where
  abbrev area : ℕ
  area = s.settings.heads

  -- a slot's link leads to its head
  slot_leads : (k : ℕ) → k < s.settings.endpoints → link_leads s.settings (slot_link s k) ≡ On (k + 1)
  slot_leads k h =
      let at : (area + 128 * (k + 1) - area) / 128 ≡ k + 1 = omega arith in
      let apart : eqb (area + 128 * (k + 1)) area ≡ _ = ne_eqb (area + 128 * (k + 1)) area (λ e. omega (arith, e)) in
      ap (link_leads s.settings) (link_even area (k + 1) g.heads_aligned)
      ∙ link_to s.settings (area + 128 * (k + 1)) (omega (arith, g.heads_aligned)) (omega (arith, h, g.heads_end))
      ∙ rw apart (own_place area 128 (s.settings.endpoints + 1) (area + 128 * (k + 1)) (k + 1) at (omega (arith, h)) refl)

  ring_leads : link_leads s.settings (area + 2) ≡ Ends AtRingHead
  ring_leads =
      link_to s.settings area (omega (arith, g.heads_aligned)) (omega (arith, g.heads_end)) ∙ rw (eq-eqb area area refl)

  module _ (heads : List ℕ) where
    abbrev walked : ℕ → ℕ → Walk
    walked n w = walk_from (link_leads s.settings) (λ p. get_or heads (17 * p) 0) n w

    -- from a word on, the walk meets the slots of its chain, and ends as the chain's last word does
    walk_on : (last : ℕ) (z : End) → link_leads s.settings last ≡ Ends z
        → (n w : ℕ) (ks : List ℕ) → Chain s heads w ks last → ((i : ℕ) → is_in i ks ≡ true → i < s.settings.endpoints) → length ks ≤ n
        → walked (suc n) w ≡ record { met = head_places ks; end = z }
    walk_on last z e n w [] c b l =
        ap (walked (suc n)) c ∙ comes_to (link_leads s.settings) (λ p. get_or heads (17 * p) 0) n last z e
    walk_on last z e zero w (k ∷ ks) c b l = absurd (omega arith)
    walk_on last z e (suc n) w (k ∷ ks) c b l =
        ap (walked (suc (suc n))) c.0
        ∙ goes_on (link_leads s.settings) (λ p. get_or heads (17 * p) 0) (suc n) (slot_link s k) (k + 1) (slot_leads k (b k (in_same k ks)))
        ∙ ap (meets (k + 1))
        (walk_on last z e n (get_or heads (17 * (k + 1)) 0) ks c.1 (λ i m. b i (in_later i k ks m)) (omega arith))

    module _ (w : ℕ) (ks : List ℕ) (b : (i : ℕ) → is_in i ks ≡ true → i < s.settings.endpoints) (l : length ks ≤ s.settings.endpoints) where
      links_on : (last : ℕ) (z : End) → link_leads s.settings last ≡ Ends z → Chain s heads w ks last
          → link_walk s.settings heads w ≡ record { met = head_places ks; end = z }
      links_on last z e c =
          let more : s.settings.endpoints + 1 ≡ suc s.settings.endpoints = omega arith in
          ap (λ (n : ℕ). walked n w) more ∙ walk_on last z e s.settings.endpoints w ks c b l

      -- the ring's walk comes back to the ring head; a frame's walk terminates
      pub walk_ring : Chain s heads w ks (s.settings.heads + 2) → link_walk s.settings heads w ≡ record { met = head_places ks; end = AtRingHead }
      walk_ring c = links_on (s.settings.heads + 2) AtRingHead ring_leads c

      pub walk_frames : Chain s heads w ks 1 → link_walk s.settings heads w ≡ record { met = head_places ks; end = Terminated }
      walk_frames c = links_on 1 Terminated refl c
