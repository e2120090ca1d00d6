-- The returns of the functions of a store.
use Rattle.std.specs.Prelude.{◌≡◌, ℕ, ◌*◌, min, true, List, [], ◌∷◌, length, take, replicate, Err, Ok, Result, ⊤}
use mathlib.Core.Path.{refl, sym, ap, subst, ◌∙◌}
use native.Mathlib.Omega.{arith}
use lib.Seq.{length-take-le}
use Rattle.common.specs.declared.answer.Refusal.{Refusal}
use Rattle.common.proofs.CheckLaws.{answers_apart}
use Rattle.common.proofs.TestLaws.{false_true}
use Rattle.pool.specs.Chains.{blank}
use Rattle.settings.specs.declared.settings.Settings.{Settings}
use Rattle.settings.specs.Settings.{settings_good}
use Rattle.state.specs.Plain.{Ehci}
use Rattle.state.specs.Ranges.{in_ranges}
use Rattle.words.specs.declared.cores.Core.{Core}
use Rattle.words.specs.Good.{Tidy}
use Rattle.words.specs.View.{state_of, view}
use Rattle.words.proofs.OpenedLaws.{view_opened}
use Rattle.ehci.specs.declared.call.Call.{Call}
use Rattle.ehci.specs.declared.reply.Reply.{Reply}
use Rattle.ehci.specs.Door.{Applied}
use Rattle.opening.specs.declared.open.Opening.{Opening}
use Rattle.opening.specs.Opening.{Opened, fresh_state, no_settings, open_of}
use Rattle.opening.specs.Words.{DecidedWords, OpensWords, blank_core, decide_words, decided_words, open_words, refused_words, rows_of, slots_fit}
use Rattle.opening.specs.Words as opening
use Rattle.opening.proofs.WordsGood.{blank_out, done_good}
use Rattle.store.specs.declared.rows.Rows.{Rows}
use Rattle.store.specs.declared.rows.Store.{Store}
use Rattle.store.specs.Plain as plain
use Rattle.store.specs.Stores.{blank_store, bytes_lent, call_rows, call_store, called_after, open_rows, open_store, records_lent, rows_after, store_opened as plain_opened, words_lent}
use Rattle.store.specs.Words.{OpenedIn, lent_slots, rows_view, slots_lent, store_view}
use Rattle.store.specs.Tended.{WordsOpened, WordsTended, lent_of}
use Rattle.store.specs.Lends.{LentCall, called_at, call_lent, open_lent, rows_left, whole_rows}
use Rattle.store.proofs.Known.{Known, free_fits, slots_fit_lem}
use Rattle.store.proofs.OpenSame.{done_fresh, open_same}
use Rattle.settings.proofs.Nothing.{Zeros, zeros_are}
use Rattle.store.proofs.WordsLaws.{call_same, tended_after, tidy_after}

-- ---- before any opening

refused_core : (o : Opening) (w h f u : List ℕ)
    → decided_words o w h f u ≡ decide_words no_settings 0 (0 ∷ []) (0 ∷ []) (0 ∷ []) (0 ∷ []) → o.core ≡ blank_core
unfolding decide_words slots_fit refused_words
refused_core o w h f u e = ap (λ (d : DecidedWords). d.opening.core) e

pub zeros_refused : (s : Settings) → Zeros s → (o : Opening) (w h f u : List ℕ)
    → decided_words o w h f u ≡ decide_words s 0 (0 ∷ []) (0 ∷ []) (0 ∷ []) (0 ∷ []) → o.core ≡ blank_core
zeros_refused s z o w h f u e =
    refused_core o w h f u (e ∙ ap (λ (x : Settings). decide_words x 0 (0 ∷ []) (0 ∷ []) (0 ∷ []) (0 ∷ [])) (zeros_are s z))

abbrev blank_rows : Rows
blank_rows =
    record {
      pool = replicate 257 blank;
      slots = replicate 192 0;
      heads = replicate 561 0;
      frames = replicate 1024 0;
      setups = replicate 256 0;
    }

abbrev blank_at : Ehci → plain.Store
blank_at e =
    record { state = e; pool = replicate 257 blank; heads = replicate 561 0; frames = replicate 1024 0; setups = replicate 256 0 }

blank_view : rows_view blank_core blank_rows ≡ blank_store
unfolding blank_store blank_core fresh_state
blank_view = ap blank_at (view_opened no_settings)

pub blank_done : (c : Core) → c ≡ blank_core → rows_view c blank_rows ≡ blank_store
blank_done c e = ap (λ (x : Core). rows_view x blank_rows) e ∙ blank_view

pub blank_tended : (c : Core) → c ≡ blank_core → WordsTended c blank_rows.slots
blank_tended c e =
    subst (λ (x : Core). WordsTended x blank_rows.slots) (sym e)
    (λ r. absurd (false_true (sym (blank_out (lent_of blank_core blank_rows.slots)) ∙ r)))

-- ---- an opening

module _ (w : Store) (s : Settings) (d k h u : ℕ) (o : Opening) (r : Rows) (long : length w.rows.slots ≡ 192)
    (ed : d ≡ records_lent s) (ek : k ≡ slots_lent s) (eh : h ≡ words_lent s) (eu : u ≡ bytes_lent s)
    (rows : rows_left o r ≡ open_lent s w.rows d k h u)
    (words : OpensWords s o (take k w.rows.slots) (take k r.slots)) where
  abbrev came : Opened
  came = open_of s (take d w.rows.pool) (take h w.rows.heads) w.rows.frames (take u w.rows.setups)

  lent_long : length (take k w.rows.slots) ≡ min (6 * s.endpoints) 192
  lent_long = length-take-le k w.rows.slots (omega (arith, long, ek)) ∙ ek

  same : open_words s (take d w.rows.pool) (take k w.rows.slots) (take h w.rows.heads) w.rows.frames (take u w.rows.setups) ≡ rows_of came
  same = open_same s (take d w.rows.pool) (take h w.rows.heads) w.rows.frames (take u w.rows.setups) (take k w.rows.slots) lent_long

  left : rows_left o r ≡ whole_rows (rows_of came) w.rows d h u
  unfolding open_lent
  left = rows ∙ ap (λ (x : opening.OpenedRows). whole_rows x w.rows d h u) same

  answers : o.answer ≡ came.opening.answer
  answers = ap (λ (x : opening.OpenedRows). x.answer) left

  -- what is to be left, by the answer
  abbrev target_by : Result ⊤ Refusal → plain.OpenedStore
  target_by a =
      record {
        store = plain_opened a (store_view w) (rows_after came w.rows.pool w.rows.heads w.rows.setups d h u);
        hub = came.opening.hub;
        answer = came.opening.answer;
      }

  abbrev target : plain.OpenedStore
  target = target_by came.opening.answer

  target_is : target ≡ open_store (store_view w) s
  unfolding open_store open_rows
  target_is = rw (ed, eh, eu)

  abbrev shown : opening.OpenedRows → Ehci → plain.OpenedStore
  shown x e =
      record {
        store = record { state = e; pool = x.pool; heads = x.heads; frames = x.frames; setups = x.setups };
        hub = x.hub;
        answer = x.answer;
      }

  abbrev unmoved : opening.OpenedRows → plain.OpenedStore
  unmoved x = record { store = store_view w; hub = x.hub; answer = x.answer }

  module _ (done : o.answer ≡ (Ok tt)) where
    settings_are : o.core.settings ≡ s
    settings_are = (words.accepted done).same_settings

    lent_are : lent_of o.core r.slots ≡ take k r.slots
    lent_are = ap (λ (t : Settings). take (slots_lent t) r.slots) settings_are ∙ ap (λ (m : ℕ). take m r.slots) (sym ek)

    state_is : view o.core (lent_of o.core r.slots) ≡ came.opening.state
    state_is =
        ap (λ (l : List ℕ). view o.core l) lent_are
        ∙ ap (λ (t : Settings). state_of t o.core.rest (take k r.slots)) settings_are
        ∙ (words.accepted done).fresh
        ∙ sym (done_fresh s (take d w.rows.pool) (take h w.rows.heads) w.rows.frames (take u w.rows.setups) (sym answers ∙ done))

    tidy_is : Tidy o.core.settings o.core.rest (lent_of o.core r.slots)
    tidy_is =
        subst (λ (l : List ℕ). Tidy o.core.settings o.core.rest l) (sym lent_are)
        (subst (λ (t : Settings). Tidy t o.core.rest (take k r.slots)) (sym settings_are) (words.accepted done).tidy)

    good_is : settings_good o.core.settings ≡ true
    good_is =
        ap settings_good settings_are
        ∙ done_good s (take d w.rows.pool) (take k w.rows.slots) (take h w.rows.heads) w.rows.frames (take u w.rows.setups)
        (ap (λ (x : opening.OpenedRows). x.answer) same ∙ sym answers ∙ done)

    pub done_opened : WordsOpened o.core r.slots
    done_opened = record { settings_are_good = good_is; tidy = tidy_is }

    pub done_view : record { store = rows_view o.core r; hub = o.hub; answer = o.answer } ≡ open_store (store_view w) s
    done_view =
        ap (shown (rows_left o r)) state_is
        ∙ ap (λ (x : opening.OpenedRows). shown x came.opening.state) left
        ∙ ap (λ (a : (Result ⊤ Refusal)). target_by a) (sym done ∙ answers)
        ∙ target_is

  pub refused_view : (f : Refusal) → o.answer ≡ Err f → record { store = store_view w; hub = o.hub; answer = o.answer } ≡ open_store (store_view w) s
  refused_view f refused = ap unmoved left ∙ ap (λ (a : (Result ⊤ Refusal)). target_by a) (sym refused ∙ answers) ∙ target_is

pub not_done : {P : Type 0} (a : (Result ⊤ Refusal)) (f : Refusal) → a ≡ Err f → a ≡ (Ok tt) → P
not_done a f e d = absurd (answers_apart f (sym e ∙ d))

-- ---- a call

module _ (w : Store) (call : Call) (d k h u : ℕ) (o : Reply) (r : Rows) (known : Known w)
    (ed : d ≡ records_lent w.core.settings) (ek : k ≡ slots_lent w.core.settings) (eh : h ≡ words_lent w.core.settings) (eu : u ≡ bytes_lent w.core.settings)
    (er : called_at k w.core o r ≡ call_lent w.core w.rows d k h u call)
    (lent : LentCall w.core w.rows d k h u o r) where
  lent_is : take k w.rows.slots ≡ lent_slots w
  lent_is = ap (λ (m : ℕ). take m w.rows.slots) ek

  tended_here : in_ranges (view w.core (take k w.rows.slots)) ≡ true → Tidy w.core.settings w.core.rest (take k w.rows.slots)
  tended_here =
      subst (λ (l : List ℕ). in_ranges (view w.core l) ≡ true → Tidy w.core.settings w.core.rest l) (sym lent_is) w.tended

  settings_of_lem : (store_view w).state.settings ≡ w.core.settings
  unfolding state_of
  settings_of_lem = refl

  -- what the settings say is lent, of any settings that are the store's
  rows_at : (t : Settings) → t ≡ w.core.settings
      → call_rows (view w.core (take k w.rows.slots)) w.rows.pool w.rows.heads w.rows.frames w.rows.setups d h u call
      ≡ call_rows (view w.core (lent_slots w)) w.rows.pool w.rows.heads w.rows.frames w.rows.setups (records_lent t) (words_lent t) (bytes_lent t) call
  rows_at t e = rw (e, lent_is, ed, eh, eu)

  abbrev core_after : Core
  core_after = record { settings = w.core.settings; rest = o.rest }

  pub called_view_lem : record { store = rows_view core_after r; answer = o.answer; writes = o.writes } ≡ call_store (store_view w) call
  unfolding call_store call_rows call_lent
  called_view_lem =
      ap (λ (m : ℕ). called_at m w.core o r) (sym ek)
      ∙ er
      ∙ ap (λ (x : Applied). called_after x w.rows.pool w.rows.heads w.rows.setups d h u)
      (call_same w.core (take k w.rows.slots) tended_here (free_fits w known) (slots_fit_lem w known k) (take d w.rows.pool) (take h w.rows.heads) w.rows.frames (take u w.rows.setups) call)
      ∙ rows_at (store_view w).state.settings settings_of_lem

  pub called_tended : WordsTended core_after r.slots
  called_tended =
      subst (λ (m : ℕ). in_ranges (state_of w.core.settings o.rest (take m r.slots)) ≡ true → Tidy w.core.settings o.rest (take m r.slots)) ek
      (tended_after w.core (take k w.rows.slots) tended_here _ o.rest (take k r.slots) lent)

  pub called_opened : OpenedIn w → WordsOpened core_after r.slots
  called_opened q =
      record {
        settings_are_good = q.settings_are_good;
        tidy =
            subst (λ (m : ℕ). Tidy w.core.settings o.rest (take m r.slots)) ek
            (tidy_after w.core (take k w.rows.slots) tended_here _ o.rest (take k r.slots) lent
            (subst (Tidy w.core.settings w.core.rest) (sym lent_is) q.tidy));
      }
