-- The loop and the returns of what the calls on endpoints over words ask.
use Rattle.std.specs.Prelude.{◌≡◌, ℕ, ◌+◌, ◌-◌, ◌*◌, ◌<◌, ◌≤◌, Bool, true, false, cond, not, leb, List, length, Option, Some, None, Err, Ok, ok_or}
use mathlib.Core.Path.{ap, refl, sym, ◌∙◌}
use native.Mathlib.Nat.{sub-zero}
use native.Mathlib.Omega.{arith}
use borrow.Author.Tests.{le-leb, lt-leb, leb-false, leb-true, not-false, not-true}
use Rattle.common.specs.declared.kinds.EndpointType.{EndpointType}
use Rattle.common.specs.declared.answer.Refusal.TheVariants.{InvalidParameter, SlotLimitReached, InvalidEndpoint, QueueFull, NotSupported}
use Rattle.common.specs.Kinds.{is_isochronous}
use Rattle.settings.specs.declared.settings.Settings.{Settings}
use Rattle.state.specs.Plain.{Ehci}
use Rattle.words.specs.declared.cores.Rest.{Rest}
use Rattle.words.specs.Good.{Good}
use Rattle.words.specs.Record.{phase_in, word_at}
use Rattle.words.specs.View.{each_from, state_of}
use Rattle.words.proofs.Each.{each_here}
use Rattle.words.proofs.GoodLaws.{good_length, good_settings}
use Rattle.controller.specs.Readers.{is_opened, is_uncollected}
use Rattle.controller.specs.Words.{held_at, open_at}
use Rattle.controller.proofs.WordsCases.{held_viewed, open_viewed}
use Rattle.endpoint.specs.Calls.{lowest_slot}
use Rattle.endpoint.specs.Lowest.{closed_from}
use Rattle.endpoint.specs.Words.{chosen_words, lowest_of, verdict_words}
use Rattle.endpoint.proofs.LowestCases.{found, not_here, nowhere}

-- ---- `lowest_closed`: what is found from slot k on is what is found

abbrev pub phases_of : List ℕ → List ℕ
phases_of ws = each_from (λ k. phase_in (word_at ws k)) 0 32

module _ (ws : List ℕ) (n : ℕ) where
  abbrev pub Sought : ℕ → Type 0
  Sought k = closed_from (phases_of ws) k (n - k) ≡ closed_from (phases_of ws) 0 n

  pub seek_starts : Sought 0
  seek_starts = rw (sub-zero n)

  module _ (k : ℕ) (lt : k < n) (most : n ≤ 32) where
    pub seek_goes_on : (phase_in (word_at ws k) ≡ 0 → ⊥) → Sought k → Sought (k + 1)
    seek_goes_on ne inv =
        not_here (phases_of ws) k n (λ z. ne (sym (each_here (λ j. phase_in (word_at ws j)) 32 k (omega arith)) ∙ z)) lt
        (closed_from (phases_of ws) 0 n) inv

    pub seek_finds : phase_in (word_at ws k) ≡ 0 → Sought k → k ≡ closed_from (phases_of ws) 0 n
    seek_finds z inv =
        found (phases_of ws) k n (each_here (λ j. phase_in (word_at ws j)) 32 k (omega arith) ∙ z) lt (closed_from (phases_of ws) 0 n) inv

  pub seek_ends : (k : ℕ) → n ≤ k → Sought k → k ≡ closed_from (phases_of ws) 0 n
  seek_ends k le inv = nowhere (phases_of ws) k n le (closed_from (phases_of ws) 0 n) inv

module _ (s : Settings) (r : Rest) (ws : List ℕ) where
  pub lowest_is : (k : ℕ) → k ≡ closed_from (phases_of ws) 0 s.endpoints → k ≡ lowest_slot (state_of s r ws)
  unfolding state_of
  lowest_is k e = e

  pub word_inside : (j : ℕ) → Good s r ws → j < s.endpoints → 6 * j < length ws
  word_inside j good h = omega (arith, good_length s r ws good)

  pub good_most : Good s r ws → s.endpoints ≤ 32
  good_most good = (good_settings s r ws good).endpoints_most

-- ---- `choose`

module _ (s : Ehci) (kind : EndpointType) (good : Bool) (i : Bool) (ei : i ≡ is_isochronous kind) where
  pub words_kind : i ≡ true → Err NotSupported ≡ chosen_words s kind good
  unfolding chosen_words
  words_kind t = rw (sym ei ∙ t)

  pub words_fields : i ≡ false → not good ≡ true → Err InvalidParameter ≡ chosen_words s kind good
  unfolding chosen_words
  words_fields t t₁ = rw (sym ei ∙ t, t₁)

  module _ (k : ℕ) (ek : k ≡ lowest_slot s) where
    pub none_below : i ≡ false → not good ≡ false → s.settings.endpoints ≤ k → Err SlotLimitReached ≡ chosen_words s kind good
    unfolding chosen_words
    none_below t t₁ h = rw (sym ei ∙ t, t₁, sym ek, le-leb s.settings.endpoints k h)

    pub one_below : i ≡ false → not good ≡ false → k < s.settings.endpoints → Ok k ≡ chosen_words s kind good
    unfolding chosen_words
    one_below t t₁ h = rw (sym ei ∙ t, t₁, sym ek, lt-leb s.settings.endpoints k h)

  -- the slot that was found, or the refusal where none was
  pub chosen_found : (o : Option ℕ) → o ≡ lowest_of s → i ≡ false → not good ≡ false → ok_or o SlotLimitReached ≡ chosen_words s kind good
  chosen_found o eo t t₁ =
      ap (λ (z : Option ℕ). ok_or z SlotLimitReached) eo ∙ by (leb s.settings.endpoints (lowest_slot s)) refl
    where
      by : (b : Bool) → leb s.settings.endpoints (lowest_slot s) ≡ b
          → ok_or (cond b None (Some (lowest_slot s))) SlotLimitReached ≡ chosen_words s kind good
      by true h = none_below (lowest_slot s) refl t t₁ (leb-true s.settings.endpoints (lowest_slot s) h)
      by false h = one_below (lowest_slot s) refl t t₁ (leb-false s.settings.endpoints (lowest_slot s) h)

module _ (s : Ehci) (k : ℕ) (ek : k ≡ lowest_slot s) where
  pub lowest_found : k < s.settings.endpoints → Some k ≡ lowest_of s
  lowest_found h = rw (sym ek, lt-leb s.settings.endpoints k h)

  pub lowest_none : s.settings.endpoints ≤ k → None ≡ lowest_of s
  lowest_none h = rw (sym ek, le-leb s.settings.endpoints k h)

module _ (s : Settings) (r : Rest) (ws : List ℕ) (kind : EndpointType) (good : Bool) (i : Bool) where
  pub words_chosen : (o : Option ℕ) → i ≡ is_isochronous kind → o ≡ lowest_of (state_of s r ws) → i ≡ false → not good ≡ false
      → ok_or o SlotLimitReached ≡ chosen_words (state_of s r ws) kind good
  words_chosen o ei eo t t₁ = chosen_found (state_of s r ws) kind good i ei o eo t t₁

-- ---- `check_slot`

module _ (s : Settings) (r : Rest) (ws : List ℕ) (words : Good s r ws) (k : ℕ) (good : Bool) (o : Bool) (eo : o ≡ open_at ws k) where
  abbrev told : Ehci
  told = state_of s r ws

  is_open : {b : Bool} → o ≡ b → is_opened told k ≡ b
  is_open t = sym (eo ∙ open_viewed s r ws words k) ∙ t

  pub words_shut : not o ≡ true → Err InvalidEndpoint ≡ verdict_words told k good
  unfolding verdict_words
  words_shut t = rw (is_open (not-true o t))

  module _ (u : Bool) (eu : u ≡ held_at ws k) where
    is_held : {b : Bool} → u ≡ b → is_uncollected told k ≡ b
    is_held t = sym (eu ∙ held_viewed s r ws words k) ∙ t

    pub words_busy : not o ≡ false → u ≡ true → Err QueueFull ≡ verdict_words told k good
    unfolding verdict_words
    words_busy t t₁ = rw (is_open (not-false o t), is_held t₁)

    pub words_value : not o ≡ false → u ≡ false → not good ≡ true → Err InvalidParameter ≡ verdict_words told k good
    unfolding verdict_words
    words_value t t₁ t₂ = rw (is_open (not-false o t), is_held t₁, t₂)

    pub words_passed : not o ≡ false → u ≡ false → not good ≡ false → (Ok tt) ≡ verdict_words told k good
    unfolding verdict_words
    words_passed t t₁ t₂ = rw (is_open (not-false o t), is_held t₁, t₂)
