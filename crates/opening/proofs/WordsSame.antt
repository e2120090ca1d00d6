-- "any two results allowed are proved the same", of opening in words: the answer, the core, the hub's record and the five rows.
use Rattle.std.specs.Prelude.{◌≡◌, ℕ, ◌≤◌, List, Err, Ok, Result, ⊤}
use mathlib.Core.Path.{refl, sym, ap, ◌∙◌}
use Rattle.descriptor.specs.declared.qtd.QueueTransferDescriptor.{QueueTransferDescriptor as Record}
use Rattle.settings.specs.declared.settings.Settings.{Settings}
use Rattle.settings.proofs.SettingsLaws.{good_tells}
use Rattle.words.specs.declared.cores.Core.{Core}
use Rattle.words.proofs.OneLaws.{Typed, view_one}
use Rattle.opening.specs.declared.open.Opening.{Opening}
use Rattle.opening.specs.Words.{BlankWords, FreshWords, OpenedRows, OpensWords, open_words, opened_rows}
use Rattle.opening.proofs.WordsGood.{done_good}
use Rattle.common.specs.declared.answer.Refusal.{Refusal}

core_same : (c d : Core) → c.settings ≡ d.settings → c.rest ≡ d.rest → c ≡ d
core_same c d p q = whole
  where
    whole : ◌≡◌ {A = Core} (record { settings = c.settings; rest = c.rest }) (record { settings = d.settings; rest = d.rest })
    whole = rw (p, q)

opening_same : (a b : Opening) → a.answer ≡ b.answer → a.core ≡ b.core → a.hub ≡ b.hub → a ≡ b
opening_same a b p q r = whole
  where
    whole : ◌≡◌ {A = Opening} (record { answer = a.answer; core = a.core; hub = a.hub }) (record { answer = b.answer; core = b.core; hub = b.hub })
    whole = rw (p, q, r)

fresh_same : (s : Settings) (c d : Core) (vs ws : List ℕ) → s.endpoints ≤ 32 → FreshWords s c vs → FreshWords s d ws → Typed c.rest vs → Typed d.rest ws
    → (c ≡ d) × (vs ≡ ws)
fresh_same s c d vs ws few f g t u =
    let one = view_one s few c.rest d.rest vs ws (f.fresh ∙ sym g.fresh) f.tidy g.tidy t u in
    (core_same c d (f.same_settings ∙ sym g.same_settings) one.0, one.1)

blank_same : (c d : Core) (old vs ws : List ℕ) → BlankWords c old vs → BlankWords d old ws → (c ≡ d) × (vs ≡ ws)
blank_same c d old vs ws f g = (f.blank ∙ sym g.blank, f.kept ∙ sym g.kept)

-- two results that the contract of `open` allows, whose words are of their types
module _ (s : Settings) (rs : List Record) (ss hs fs us : List ℕ) (a b : Opening) (ra rb : List Record) (va ha fa ua vb hb fb ub : List ℕ)
    (ea : opened_rows a ra ha fa ua ≡ open_words s rs ss hs fs us) (eb : opened_rows b rb hb fb ub ≡ open_words s rs ss hs fs us)
    (wa : OpensWords s a ss va) (wb : OpensWords s b ss vb) (ta : Typed a.core.rest va) (tb : Typed b.core.rest vb) where
  -- every row but that of slots
  pub same_rows : opened_rows a ra ha fa ua ≡ opened_rows b rb hb fb ub
  same_rows = ea ∙ sym eb

  words_same : (a.core ≡ b.core) × (va ≡ vb)
  words_same = go a.answer (sym (ap (λ (o : OpenedRows). o.answer) same_rows)) refl
    where
      go : (x : (Result ⊤ Refusal)) → b.answer ≡ x → a.answer ≡ x → (a.core ≡ b.core) × (va ≡ vb)
      go (Ok tt) p q =
          fresh_same s a.core b.core va vb (good_tells s (done_good s rs ss hs fs us (sym (ap (λ (o : OpenedRows). o.answer) ea) ∙ q))).endpoints_most
          (wa.accepted q) (wb.accepted p) ta tb
      go (Err r) p q = blank_same a.core b.core ss va vb (wa.refused r q) (wb.refused r p)

  pub same_words : (a ≡ b) × (va ≡ vb)
  same_words =
      (opening_same a b (ap (λ (o : OpenedRows). o.answer) same_rows) words_same.0 (ap (λ (o : OpenedRows). o.hub) same_rows), words_same.1)
