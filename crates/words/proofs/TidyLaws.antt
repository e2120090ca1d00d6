-- What keeps a row tidy: another rest with the same free places, a fall, and one slot written.
use Prim.Native.Nat.{ℕ, zero, suc, ◌+◌, ◌-◌, ◌*◌, ◌≤◌, ◌<◌}
use mathlib.Core.Path.{◌≡◌, refl, sym, ap, subst, ◌∙◌}
use mathlib.Core.Logic.{◌≢◌}
use mathlib.Core.List.{List}
use native.Mathlib.Decide.{ℕ_discrete as dec_eq}
use native.Mathlib.Omega.{arith}
use lib.ListN.{length}
use Rattle.settings.specs.declared.settings.Settings.{Settings}
use Rattle.slot.specs.declared.slot.Slot.{Slot}
use Rattle.words.specs.declared.cores.Rest.{Rest}
use Rattle.words.specs.Good.{Held, Tidy, column, no_places}
use Rattle.words.specs.Record.{SlotFits, fall_to, last_at, part_at, phase_in, places_at, put_slot, word_at}
use Rattle.words.proofs.FallLaws.{fall_last, fall_length, fall_part, fall_word, fallen_phase}
use Rattle.words.proofs.RecordCases.{last_before}
use Rattle.words.proofs.RecordLaws.{phase_back}
use Rattle.words.proofs.RowLaws.{put_last, put_last_else, put_length, put_part_lem, put_word, put_word_else}

-- ---- rows whose slots have the same places

module _ (vs ws : List ℕ) (same : (k j : ℕ) → j < 4 → part_at vs k j ≡ part_at ws k j) where
  pub column_same : (j k n : ℕ) → j < 4 → column vs j k n ≡ column ws j k n
  unfolding column
  column_same j k zero h = refl
  column_same j k (suc n) h = rw (same k j h, column_same j (suc k) n h)

  pub places_same : (k : ℕ) → places_at vs k ≡ places_at ws k
  places_same k =
      rw (same k 0 (omega arith), same k 1 (omega arith), same k 2 (omega arith), same k 3 (omega arith))

  -- a slot whose phase and last id are the same too
  pub held_same : (k : ℕ) → phase_in (word_at vs k) ≡ phase_in (word_at ws k) → last_at vs k ≡ last_at ws k → Held ws k → Held vs k
  held_same k p l h =
      record {
        closed = λ z. l ∙ h.closed (sym p ∙ z);
        idle = λ z e. h.idle (sym p ∙ z) (sym l ∙ e);
        empty = λ z. places_same k ∙ h.empty (omega (arith, p, z));
      }

  pub tidy_same : (s : Settings) (r : Rest) → length vs ≡ length ws → ((k : ℕ) → k < s.endpoints → Held vs k)
      → Tidy s r ws → Tidy s r vs
  tidy_same s r n h t =
      record {
        has_row_length = n ∙ t.has_row_length;
        held = h;
        shared_out = λ j i hj hi. rw (column_same j 0 s.endpoints hj) (t.shared_out j i hj hi);
      }

-- ---- another rest

pub tidy_rest : (s : Settings) (r q : Rest) (ws : List ℕ) → q.free ≡ r.free → Tidy s r ws → Tidy s q ws
tidy_rest s r q ws e t =
    record {
      has_row_length = t.has_row_length;
      held = t.held;
      shared_out = λ j i hj hi. rw e (t.shared_out j i hj hi);
    }

-- ---- a fall

pub tidy_fallen : (s : Settings) (r : Rest) (ws : List ℕ) → Tidy s r ws → Tidy s r (fall_to ws s.endpoints)
tidy_fallen s r ws t =
    tidy_same (fall_to ws E) ws (fall_part ws E) s r (fall_length ws E)
    (λ k h.
    held_same (fall_to ws E) ws (fall_part ws E) k (ap (λ w. phase_in w) (fall_word ws E k t.has_row_length) ∙ fallen_phase (word_at ws k))
    (fall_last ws E k) (t.held k h))
    t
  where
    E : ℕ
    E = s.endpoints

-- ---- one slot: a closed one has id 1, and one without a request has no places

module _ (ws : List ℕ) (k : ℕ) (e : Slot) (room : 6 * k + 6 ≤ length ws) (fits : SlotFits e) where
  put_phase : phase_in (word_at (put_slot ws k e) k) ≡ e.phase
  put_phase = ap (λ w. phase_in w) (put_word ws k e room) ∙ phase_back e fits

  put_before : e.phase < 2 → last_at (put_slot ws k e) k ≡ e.id - 1
  put_before h = put_last ws k e room ∙ sym (last_before e h)

  held_put : (e.phase ≡ 0 → e.id ≡ 1) → (e.phase < 2 → places_at ws k ≡ no_places) → Held (put_slot ws k e) k
  held_put one none =
      record {
        closed = λ z.
            let p : e.phase ≡ 0 = sym put_phase ∙ z in
            omega (arith, put_before (omega (arith, p)), one p);
        idle = λ z q.
            let p : e.phase ≡ 1 = sym put_phase ∙ z in
            omega (arith, put_before (omega (arith, p)), q, fits.id_fits);
        empty = λ z. places_same (put_slot ws k e) ws (put_part_lem ws k e) k ∙ none (omega (arith, z, put_phase));
      }

  held_else : (j : ℕ) → j ≢ k → Held ws j → Held (put_slot ws k e) j
  held_else j ne =
      held_same (put_slot ws k e) ws (put_part_lem ws k e) j (ap (λ w. phase_in w) (put_word_else ws k e j ne)) (put_last_else ws k e j ne)

  pub tidy_put : (s : Settings) (r : Rest) → (e.phase ≡ 0 → e.id ≡ 1) → (e.phase < 2 → places_at ws k ≡ no_places)
      → Tidy s r ws → Tidy s r (put_slot ws k e)
  tidy_put s r one none t =
      tidy_same (put_slot ws k e) ws (put_part_lem ws k e) s r (put_length ws k e) (λ j h. by j h (dec_eq j k)) t
    where
      by : (j : ℕ) → j < s.endpoints → Dec (j ≡ k) → Held (put_slot ws k e) j
      by j h (yes q) = subst (λ (i : ℕ). Held (put_slot ws k e) i) (sym q) (held_put one none)
      by j h (no ne) = held_else j ne (t.held j h)
