-- The returns of the judge over words: each check of the row's word is that of the state that the words stand for.
use Rattle.std.specs.Prelude.{◌≡◌, ℕ, ◌<◌, ◌≤◌, Bool, true, false, not, List, length, Err, Ok}
use mathlib.Core.Path.{refl, sym, ap, ◌∙◌}
use native.Mathlib.Omega.{arith}
use borrow.Author.Tests.{le-leb, lt-leb, ne_eqb}
use Rattle.bitset.specs.Places.{set_places}
use Rattle.common.specs.Kinds.{is_isochronous}
use Rattle.common.specs.declared.answer.Refusal.TheVariants.{InvalidParameter, InvalidEndpoint, QueueFull, NotSupported, NoMemory, NotReady}
use Rattle.controller.specs.Readers.{free_count, is_opened, is_uncollected}
use Rattle.controller.proofs.WordsCases.{held_word, open_word}
use Rattle.controller.proofs.WordsLaws.{free_good}
use Rattle.pipe.specs.Endpoints.{kind_number}
use Rattle.pipe.proofs.WordsTells.{open_within}
use Rattle.settings.specs.declared.settings.Settings.{Settings}
use Rattle.state.specs.Slots.{slot_at}
use Rattle.words.specs.declared.cores.Rest.{Rest}
use Rattle.words.specs.Good.{Good}
use Rattle.words.specs.Record.{kind_in, phase_in, slot_in, word_at}
use Rattle.words.specs.View.{state_of}
use Rattle.words.proofs.GoodLaws.{good_settings}
use Rattle.words.proofs.ViewLaws.{view_slot}
use Rattle.request.specs.Submit.{judge_of, need_of_request, ranges_good}
use Rattle.request.specs.declared.judge.TransferRequest.{TransferRequest}
use Rattle.request.proofs.JudgeCases.{judge_closed, judge_done, judge_full, judge_isochronous, judge_kind, judge_range, judge_room, judge_stopped}

-- the kind of a slot that is open
pub kind_viewed : (s : Settings) (r : Rest) (ws : List ℕ) (k : ℕ) → k < 32 → (slot_at (state_of s r ws) k).kind ≡ kind_in (word_at ws k)
unfolding slot_in
kind_viewed s r ws k h = rw (view_slot s r ws k h)

module _ (s : Settings) (r : Rest) (ws : List ℕ) (k : ℕ) (t : TransferRequest) (w : ℕ) (good : Good s r ws) (ew : w ≡ word_at ws k) where
  pub words_closed : phase_in w ≡ 0 → Err InvalidEndpoint ≡ judge_of (state_of s r ws) k t
  words_closed z =
      judge_closed (state_of s r ws) k t false (rw z at (open_word s r ws k w good ew)) refl

  module _ (nz : phase_in w ≡ 0 → ⊥) where
    opened : true ≡ is_opened (state_of s r ws) k
    opened = rw (ne_eqb (phase_in w) 0 nz) at (open_word s r ws k w good ew)

    below : k < 32
    below =
        omega (arith, open_within s r ws good k (λ z. nz (ap (λ (v : ℕ). phase_in v) ew ∙ z)), (good_settings s r ws good).endpoints_most)

    own_kind : (slot_at (state_of s r ws) k).kind ≡ kind_in w
    own_kind = kind_viewed s r ws k below ∙ ap (λ (v : ℕ). kind_in v) (sym ew)

    pub words_stopped : r.running ≡ 0 → Err NotReady ≡ judge_of (state_of s r ws) k t
    unfolding state_of
    words_stopped z = judge_stopped (state_of s r ws) k t true opened refl z

    module _ (runs : r.running ≡ 0 → ⊥) where
      runs_viewed : (state_of s r ws).running ≡ 0 → ⊥
      unfolding state_of
      runs_viewed = runs

      pub words_full : 2 ≤ phase_in w → Err QueueFull ≡ judge_of (state_of s r ws) k t
      words_full h =
          judge_full (state_of s r ws) k t true opened refl true runs_viewed
          (rw (le-leb 2 (phase_in w) h) at (held_word s r ws k w good ew)) refl

      module _ (few : phase_in w < 2) (i : Bool) (ei : i ≡ is_isochronous t.kind) where
        bare : false ≡ is_uncollected (state_of s r ws) k
        bare = rw (lt-leb 2 (phase_in w) few) at (held_word s r ws k w good ew)

        pub words_isochronous : i ≡ true → Err NotSupported ≡ judge_of (state_of s r ws) k t
        words_isochronous h =
            judge_isochronous (state_of s r ws) k t true opened refl false runs_viewed bare refl i ei h

        module _ (hi : i ≡ false) (n : ℕ) (en : n ≡ kind_number t.kind) where
          pub words_kind : (n ≡ kind_in w → ⊥) → Err InvalidEndpoint ≡ judge_of (state_of s r ws) k t
          words_kind h =
              judge_kind (state_of s r ws) k t true opened refl false runs_viewed bare refl i ei hi n en (λ e. h (e ∙ own_kind))

          module _ (hk : n ≡ kind_in w) (g : Bool) (eg : g ≡ ranges_good t) where
            pub words_range : not g ≡ true → Err InvalidParameter ≡ judge_of (state_of s r ws) k t
            words_range h =
                judge_range (state_of s r ws) k t true opened refl false runs_viewed bare refl i ei hi n en (hk ∙ sym own_kind) g eg h

            module _ (hg : not g ≡ false) (f m : ℕ) (ef : f ≡ length (set_places r.free)) (em : m ≡ need_of_request (state_of s r ws) k t) where
              free_here : f ≡ free_count (state_of s r ws)
              free_here = ef ∙ free_good s r ws good

              pub words_room : f < m → Err NoMemory ≡ judge_of (state_of s r ws) k t
              words_room h =
                  judge_room (state_of s r ws) k t true opened refl false runs_viewed bare refl i ei hi n en (hk ∙ sym own_kind) g eg hg f m free_here em h

              pub words_done : m ≤ f → (Ok tt) ≡ judge_of (state_of s r ws) k t
              words_done h =
                  judge_done (state_of s r ws) k t true opened refl false runs_viewed bare refl i ei hi n en (hk ∙ sym own_kind) g eg hg f m free_here em h
