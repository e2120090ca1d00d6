-- The returns of writeback over words: a place of the pool is in a request exactly where it is not free.
use Rattle.std.specs.Prelude.{◌≡◌, ℕ, ◌-◌, ◌<◌, ◌≤◌, Bool, true, false, not, ◌&&◌, ltb, leb, List, Err, Ok}
use mathlib.Core.Path.{refl, sym, ◌∙◌}
use native.Mathlib.Omega.{arith}
use borrow.Author.Tests.{le-leb, le-ltb, leb-true, lt-ltb, ltb-true, not-false}
use Rattle.bitset.specs.Places.{has_place}
use Rattle.common.specs.declared.answer.Refusal.TheVariants.{InvalidParameter}
use Rattle.common.proofs.TestLaws.{both_tells}
use Rattle.controller.specs.Lent.{accepts_of}
use Rattle.controller.specs.Readers.{is_uncollected}
use Rattle.controller.specs.Plain.{Lengths}
use Rattle.controller.proofs.WordsCases.{held_word}
use Rattle.pool.specs.Words.{MarkingGood}
use Rattle.std.specs.Prelude.{Option, Some, None}
use Rattle.pool.specs.declared.marking.Mark.{Mark}
use Rattle.pool.proofs.WordLaws.{no_marking_good}
use Rattle.settings.specs.declared.settings.Settings.{Settings}
use Rattle.settings.specs.Settings.{pool_length}
use Rattle.words.specs.declared.cores.Rest.{Rest}
use Rattle.words.specs.Good.{Good}
use Rattle.words.specs.Record.{phase_in, word_at}
use Rattle.words.specs.View.{state_of}
use Rattle.words.proofs.GoodLaws.{good_settings}
use Rattle.words.proofs.RequestLaws.{in_request_lem, owner_busy}
use Rattle.request.specs.Words.{marking_chain, taken_place, written_view}
use Rattle.request.specs.Writeback.{in_request, owner_at, refused_writeback, writeback_of}
use Rattle.request.proofs.WritebackCases.{back_done, back_none}

-- ---- `in_request`

module _ (s : Settings) (r : Rest) (p : ℕ) where
  pub taken_beyond : s.descriptors ≤ p → ltb p s.descriptors ≡ taken_place s r p
  unfolding taken_place
  taken_beyond h = rw (le-ltb p s.descriptors h)

  pub taken_free : p < s.descriptors → (b : Bool) → b ≡ has_place r.free p → not b ≡ taken_place s r p
  unfolding taken_place
  taken_free h b e = rw (lt-ltb p s.descriptors h, e)

  pub taken_below : (b : Bool) → b ≡ taken_place s r p → b ≡ true → p < s.descriptors
  unfolding taken_place
  taken_below b e q = ltb-true p s.descriptors (both_tells (ltb p s.descriptors) (not (has_place r.free p)) (sym e ∙ q)).0

  -- the slot that has it has a request
  module _ (ws : List ℕ) (good : Good s r ws) where
    owner_holds : p < s.descriptors → 1 ≤ owner_at (state_of s r ws) p → is_uncollected (state_of s r ws) (owner_at (state_of s r ws) p - 1) ≡ true
    unfolding state_of
    owner_holds h o =
        sym (held_word s r ws (owner_at (state_of s r ws) p - 1) (word_at ws (owner_at (state_of s r ws) p - 1)) good refl)
        ∙ le-leb 2 (phase_in (word_at ws (owner_at (state_of s r ws) p - 1)))
        (owner_busy s r ws good.tidy (good_settings s r ws good).descriptors_most (good_settings s r ws good).endpoints_most p
        (omega (arith, h, (good_settings s r ws good).descriptors_most)) o).1

    tests_same : ltb p s.descriptors && leb 1 (owner_at (state_of s r ws) p) ≡ taken_place s r p
    unfolding state_of taken_place
    tests_same =
        in_request_lem s r ws good.tidy (good_settings s r ws good).descriptors_most (good_settings s r ws good).endpoints_most p

    pub place_viewed : taken_place s r p ≡ in_request (state_of s r ws) p
    unfolding in_request state_of
    place_viewed = sym tests_same ∙ go (ltb p s.descriptors) refl (leb 1 (owner_at (state_of s r ws) p)) refl
      where
        go : (b : Bool) → ltb p s.descriptors ≡ b → (c : Bool) → leb 1 (owner_at (state_of s r ws) p) ≡ c
            → ltb p s.descriptors && leb 1 (owner_at (state_of s r ws) p) ≡ in_request (state_of s r ws) p
        go false e c q = rw e
        go true e false q = rw (e, q)
        go true e true q =
            rw (e, q) (sym (owner_holds (ltb-true p s.descriptors e) (leb-true 1 (owner_at (state_of s r ws) p) q)))

-- ---- `writeback`

module _ (s : Settings) (r : Rest) (p token : ℕ) (i : Bool) (ei : i ≡ taken_place s r p) where
  pub back_refused : not i ≡ true → (ws : List ℕ) → Good s r ws → (lent : Lengths) → accepts_of (state_of s r ws) lent ≡ true
      → written_view s (record { answer = Err InvalidParameter; rest = r; marking = None }) ws ≡ writeback_of (state_of s r ws) lent p token
  unfolding refused_writeback
  back_refused h ws good lent a =
      back_none (state_of s r ws) lent p token true (sym a) refl i (ei ∙ place_viewed s r p ws good) h
      (written_view s (record { answer = Err InvalidParameter; rest = r; marking = None }) ws) refl

  pub back_written : not i ≡ false
      → (ws : List ℕ) → Good s r ws → (lent : Lengths) → accepts_of (state_of s r ws) lent ≡ true
      → written_view s (record { answer = Ok tt; rest = r; marking = Some (record { place = p; token = token }) }) ws ≡ writeback_of (state_of s r ws) lent p token
  unfolding state_of
  back_written h ws good lent a =
      back_done (state_of s r ws) lent p token true (sym a) refl i (ei ∙ place_viewed s r p ws good) h
      (marking_chain s.pool (Some (record { place = p; token = token }))) refl

  -- what is then written is a place of the pool
  pub mark_good_lem : not i ≡ false → MarkingGood (pool_length s) (Some (record { place = p; token = token }))
  mark_good_lem h = record { within = let below : p < s.descriptors = taken_below s r p i ei (not-false i h) in omega (arith, below) }

pub no_mark_good : (n : ℕ) → MarkingGood n None
no_mark_good n = no_marking_good n
