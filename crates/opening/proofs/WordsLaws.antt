-- Opening in words: where it is accepted every record but the shared one is thirteen zero words, and the core and the row of slots stand for the fresh state;
-- where it is refused every row is as it was.
use Rattle.std.specs.Prelude.{◌≡◌, ℕ, ◌+◌, ◌≤◌, Bool, true, false, List, length, replicate, Err, Ok, Result, ⊤}
use mathlib.Core.Path.{refl, sym, ap, subst, ◌∙◌}
use native.Mathlib.Omega.{arith}
use Rattle.common.specs.declared.answer.Refusal.TheVariants.{InvalidParameter}
use Rattle.common.proofs.CheckLaws.{answers_apart}
use Rattle.descriptor.specs.declared.qtd.QueueTransferDescriptor.{QueueTransferDescriptor as Record}
use Rattle.pool.specs.Plain.{Open}
use Rattle.pool.specs.Chains.{filled_from}
use Rattle.pool.specs.Places.{up_from}
use Rattle.pool.specs.Words.{opened_to}
use Rattle.pool.proofs.ChainLaws.{fill_open}
use Rattle.settings.specs.declared.settings.Settings.{Settings}
use Rattle.settings.specs.Settings.{frames_length, heads_length, settings_good, setups_length}
use Rattle.words.specs.Opened.{opened_rest, opened_row}
use Rattle.words.specs.View.{state_of}
use Rattle.words.proofs.OpenedLaws.{tidy_opened, view_opened}
use Rattle.opening.specs.declared.open.Opening.{Opening}
use Rattle.opening.specs.Opening.{accepted_opening, fresh_state, opened, opened_heads, opened_pool, refused_opening, rows_are_fit}
use Rattle.opening.specs.Words.{DecidedWords, FreshWords, OpensWords, accepted_words, blank_core, decide_words, decided_words, open_count, open_words, opened_rows, refused_words, rows_of, slots_fit}
use Rattle.opening.proofs.OpenLaws.{rows_tell}
use Rattle.opening.proofs.OpenPool.{accepts, refuses_rows, refuses_settings}
use Rattle.common.specs.declared.answer.Refusal.{Refusal}

-- ---- the records that are opened

opened_none : (rs : List Record) → opened_to 0 rs ≡ rs
unfolding opened_to up_from filled_from
opened_none rs = refl

opened_all : (n : ℕ) (rs : List Record) → length rs ≡ n + 1 → opened_to (length rs) rs ≡ opened_pool n
unfolding opened_to
opened_all n rs e = ap (λ (m : ℕ). filled_from Open 0 0 (up_from 0 m) rs) e ∙ fill_open n rs e

-- ---- the words

-- an accepted opening's words stand for the fresh state
pub fresh_words_lem : (s : Settings) (slots : List ℕ) → slots ≡ opened_row s.endpoints → FreshWords s (accepted_words s).core slots
unfolding accepted_words fresh_state
fresh_words_lem s slots e =
    record {
      same_settings = refl;
      fresh = ap (λ (l : List ℕ). state_of s (opened_rest s.descriptors) l) e ∙ view_opened s;
      tidy = rw e (tidy_opened s);
    }

-- ---- what was decided

module _ (s : Settings) (rs : List Record) (ss hs fs us : List ℕ) (o : Opening) (ws wh wf wu : List ℕ)
    (e : decided_words o ws wh wf wu ≡ decide_words s (length rs) ss hs fs us) where
  abbrev fits : Bool
  fits = rows_are_fit s (length rs) (length hs) (length fs) (length us)

  -- the two ways
  data Way : Type 0 where
    denied : o ≡ refused_words InvalidParameter → ws ≡ ss → open_words s rs ss hs fs us ≡ opened_rows o rs wh wf wu → Way
    granted : o ≡ accepted_words s → ws ≡ opened_row s.endpoints → length rs ≡ s.descriptors + 1
        → open_words s rs ss hs fs us ≡ opened_rows o (opened_pool s.descriptors) wh wf wu → Way

  denied_way : decide_words s (length rs) ss hs fs us ≡ decided_words (refused_words InvalidParameter) ss hs fs us
      → open_words s rs ss hs fs us ≡ rows_of (opened (refused_opening InvalidParameter) rs hs fs us) → Way
  unfolding refused_opening refused_words
  denied_way m f =
      denied (ap (λ (d : DecidedWords). d.opening) (e ∙ m)) (ap (λ (d : DecidedWords). d.slots) (e ∙ m))
      (f ∙ sym (ap (λ (d : DecidedWords). opened_rows d.opening rs d.heads d.frames d.setups) (e ∙ m)))

  abbrev done : DecidedWords
  done = decided_words (accepted_words s) (opened_row s.endpoints) (opened_heads s.heads (heads_length s)) (replicate frames_length 1) (replicate (setups_length s) 0)

  granted_way : fits ≡ true → decide_words s (length rs) ss hs fs us ≡ done
      → open_words s rs ss hs fs us ≡ rows_of (opened (accepted_opening s) (opened_pool s.descriptors) (opened_heads s.heads (heads_length s)) (replicate frames_length 1) (replicate (setups_length s) 0)) → Way
  unfolding accepted_opening accepted_words
  granted_way h m f =
      granted (ap (λ (d : DecidedWords). d.opening) (e ∙ m)) (ap (λ (d : DecidedWords). d.slots) (e ∙ m))
      (rows_tell s (length rs) (length hs) (length fs) (length us) h).pool_fits_lem
      (f ∙ sym (ap (λ (d : DecidedWords). opened_rows d.opening (opened_pool s.descriptors) d.heads d.frames d.setups) (e ∙ m)))

  way : Way
  unfolding decide_words open_words
  way = go (slots_fit s (length ss)) refl (settings_good s) refl fits refl
    where
      go : (a : Bool) → slots_fit s (length ss) ≡ a → (b : Bool) → settings_good s ≡ b → (c : Bool) → fits ≡ c → Way
      go false ea b eb c ec = denied_way (rw ea) (rw ea)
      go true ea false eb c ec = denied_way (rw (ea, eb)) (rw ea (ap rows_of (refuses_settings s rs hs fs us eb)))
      go true ea true eb false ec = denied_way (rw (ea, eb, ec)) (rw ea (ap rows_of (refuses_rows s rs hs fs us eb ec)))
      go true ea true eb true ec = granted_way ec (rw (ea, eb, ec)) (rw ea (ap rows_of (accepts s rs hs fs us eb ec)))

  refused_answer : o ≡ refused_words InvalidParameter → o.answer ≡ Err InvalidParameter
  unfolding refused_words
  refused_answer d = ap (λ (x : Opening). x.answer) d

  refused_core : o ≡ refused_words InvalidParameter → o.core ≡ blank_core
  unfolding refused_words
  refused_core d = ap (λ (x : Opening). x.core) d

  accepted_answer : o ≡ accepted_words s → o.answer ≡ (Ok tt)
  unfolding accepted_words
  accepted_answer d = ap (λ (x : Opening). x.answer) d

  module _ (n : ℕ) (en : n ≡ open_count o.answer (length rs)) where
    count_denied : o ≡ refused_words InvalidParameter → n ≡ 0
    count_denied d = en ∙ ap (λ (x : (Result ⊤ Refusal)). open_count x (length rs)) (refused_answer d)

    count_granted : o ≡ accepted_words s → n ≡ length rs
    count_granted d = en ∙ ap (λ (x : (Result ⊤ Refusal)). open_count x (length rs)) (accepted_answer d)

    -- so many records may be opened
    pub may_open : n ≤ length rs
    may_open = by way
      where
        by : Way → n ≤ length rs
        by (denied d k f) = omega (arith, count_denied d)
        by (granted d k l f) = omega (arith, count_granted d)

    -- what is decided and the records that are opened, together, are what opening does
    pub together : (wr : List Record) → wr ≡ opened_to n rs → opened_rows o wr wh wf wu ≡ open_words s rs ss hs fs us
    together wr ew = by way
      where
        so_many : (m : ℕ) → n ≡ m → wr ≡ opened_to m rs
        so_many m z = ew ∙ ap (λ (k : ℕ). opened_to k rs) z

        by : Way → opened_rows o wr wh wf wu ≡ open_words s rs ss hs fs us
        by (denied d k f) = ap (λ (l : List Record). opened_rows o l wh wf wu) (so_many 0 (count_denied d) ∙ opened_none rs) ∙ sym f
        by (granted d k l f) = ap (λ (l : List Record). opened_rows o l wh wf wu) (so_many (length rs) (count_granted d) ∙ opened_all s.descriptors rs l) ∙ sym f

  -- the core and the row of slots
  pub opens : OpensWords s o ss ws
  opens = by way
    where
      by : Way → OpensWords s o ss ws
      by (denied d k f) =
          record {
            accepted = λ z. absurd (answers_apart InvalidParameter (sym (refused_answer d) ∙ z));
            refused = λ r z. record { blank = refused_core d; kept = k };
          }
      by (granted d k l f) =
          record {
            accepted = λ z. subst (λ (x : Opening). FreshWords s x.core ws) (sym d) (fresh_words_lem s ws k);
            refused = λ r z. absurd (answers_apart r (sym z ∙ accepted_answer d));
          }
