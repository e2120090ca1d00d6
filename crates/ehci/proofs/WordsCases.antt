-- Cases of what is decided over words, from what the callees say: each is the case of the plain state, at the state that the words stand for.
use Rattle.std.specs.Prelude.{◌≡◌, ℕ, true, List, length, Bool, Result, ⊤}
use mathlib.Core.Path.{sym, ap, subst, ◌∙◌}
use Rattle.register.specs.Writes.{no_writes}
use Rattle.register.specs.declared.writes.Writes.{Writes}
use Rattle.pool.specs.Words.{LayingGood, MarkingGood}
use Rattle.pool.specs.Plain.{Chain}
use Rattle.pool.specs.declared.chain.View.{View}
use Rattle.pool.specs.declared.writing.Writing.{Writing}
use Rattle.settings.specs.declared.settings.Settings.{Settings}
use Rattle.settings.specs.Settings.{pool_length}
use Rattle.state.specs.Ranges.{in_ranges}
use Rattle.opening.specs.Opening.{rows_are_fit}
use Rattle.words.specs.declared.cores.Core.{Core}
use Rattle.words.specs.declared.cores.Rest.{Rest}
use Rattle.words.specs.Good.{Good, Tidy}
use Rattle.words.specs.View.{state_of, view}
use Rattle.controller.specs.Address.{allot_of}
use Rattle.controller.specs.Lent.{accepts_of}
use Rattle.controller.specs.Words.{allotted_view}
use Rattle.controller.specs.Plain.{Lengths}
use Rattle.controller.specs.declared.lent.Readings.{Readings}
use Rattle.endpoint.specs.Calls.{ChangeLeft, change_left, open_endpoint_of, open_left}
use Rattle.endpoint.specs.Plain.{Change as ChangePlain}
use Rattle.endpoint.specs.Words.{changed_view, opened_view}
use Rattle.request.specs.Submit.{submit_of, submitted}
use Rattle.request.specs.Words.{submitted_view, written_view}
use Rattle.request.specs.Writeback.{writeback_of}
use Rattle.request.specs.declared.answers.Submitted.{Submitted}
use Rattle.request.specs.declared.answers.WrittenBack.{WrittenBack}
use Rattle.request.specs.declared.judge.TransferRequest.{TransferRequest}
use Rattle.collection.specs.Calls.{cancel_of, collect_of, gathered}
use Rattle.collection.specs.Unlinks.{left}
use Rattle.collection.specs.Words.{cancelled_view, collected_view}
use Rattle.interrupt.specs.Interrupts.{acknowledge_of, drain_of}
use Rattle.interrupt.specs.Words.{acknowledged_view, drained_view, settled_view}
use Rattle.interrupt.specs.Plain.{Settled as SettledPlain}
use Rattle.bring_up.specs.Words.{brought_view}
use Rattle.bring_up.specs.Plain.{BroughtUp as BroughtPlain}
use Rattle.bring_up.specs.declared.answers.BroughtUp.{BroughtUp}
use Rattle.ehci.specs.declared.call.EndpointFields.{EndpointFields}
use Rattle.ehci.specs.declared.call.InterruptReadings.{InterruptReadings}
use Rattle.ehci.specs.Plain.{Decided as DecidedPlain}
use Rattle.ehci.specs.declared.reply.Decided.{Decided}
use Rattle.ehci.specs.Replies.{acknowledged_answer, allotted_answer, brought_reply, changed_reply, collected_answer, drained_answer, opened_answer, replied, settled_reply, simply, submitted_answer}
use Rattle.ehci.specs.Decides.{acknowledge_decided, acknowledge_reply, allot_decided, allot_reply, came, cancel_decided, change_came, collect_decided, drain_decided, drain_reply, heads_came, links_came, open_decided, submit_decided, writeback_decided}
use Rattle.ehci.specs.WordsDecides.{Keeps, Tidies, Writable, brought_words, chain_in, changed_words, decided_view, laid_only, marked_only, replied_words, settled_words}
use Rattle.ehci.proofs.Cases.{cancel_came_lem, change_came_lem, collect_came_lem, open_came_lem, submit_came_lem, written_came}
use Rattle.ehci.proofs.WordsChains.{laid_chain, laid_writable, marked_chain, marked_writable, no_writing_chain}
use Rattle.controller.specs.declared.left.Left.{Left}
use Rattle.controller.specs.declared.left.Settled.{Settled}
use Rattle.ehci.specs.declared.reply.Answered.{Answered}
use Rattle.collection.specs.declared.collected.Collected.{Collected}
use Rattle.interrupt.specs.declared.answers.Event.{Event}
use Rattle.common.specs.declared.answer.Refusal.{Refusal}

-- a reply by its parts
pub leave_words : (d : Decided) (rest : Rest) (a b : (Result Answered Refusal)) (v w : Writes) → d ≡ replied_words rest a v → a ≡ b → v ≡ w → d ≡ replied_words rest b w
leave_words d rest a b v w e ea ew = e ∙ ap (λ (x : (Result Answered Refusal)). replied_words rest x v) ea ∙ ap (λ (x : Writes). replied_words rest b x) ew

abbrev with_chain : Settings → Rest → Result Answered Refusal → Writes → List ℕ → Chain → DecidedPlain
with_chain s rest a w ws c = record { reply = record { state = state_of s rest ws; answer = a; writes = w }; chain = c }

-- a reply that writes nothing, as the state that the words stand for
pub left_view : (s : Settings) (d : Decided) (rest : Rest) (a : (Result Answered Refusal)) (w : Writes) (ws : List ℕ) → d ≡ replied_words rest a w
    → decided_view s d ws ≡ replied (state_of s rest ws) a w
unfolding replied
left_view s d rest a w ws e = ap (λ (x : Decided). decided_view s x ws) e ∙ ap (with_chain s rest a w ws) (no_writing_chain s)

module _ (c : Core) (d : Decided) (rest : Rest) (a : (Result Answered Refusal)) (w : Writes) (e : d ≡ replied_words rest a w) where
  pub keeps_words : rest.free ≡ c.rest.free → Keeps c d
  keeps_words f = record { free_stays = ap (λ (x : Decided). x.reply.rest.free) e ∙ f; none_written = ap (λ (x : Decided). x.writing) e }

  pub tidies_words : (ws : List ℕ) → Tidy c.settings rest ws → Tidies c d ws
  tidies_words ws t =
      record {
        tidy = subst (λ (x : Decided). Tidy c.settings x.reply.rest ws) (sym e) t;
        none_written = ap (λ (x : Decided). x.writing) e;
      }

-- ---- the arms that look at the core alone

pub allot_words : (c : Core) (x : (Left ℕ)) (d : Decided) → d ≡ replied_words x.rest (allotted_answer x.answer) no_writes
    → ((ws : List ℕ) → in_ranges (view c ws) ≡ true → allotted_view c.settings x ws ≡ allot_of (view c ws)) → x.rest.free ≡ c.rest.free
    → ((ws : List ℕ) → in_ranges (view c ws) ≡ true → decided_view c.settings d ws ≡ allot_decided (view c ws)) × Keeps c d
unfolding allot_decided
allot_words c x d e f k =
    ((λ ws h. left_view c.settings d _ _ _ ws e ∙ ap allot_reply (f ws h)), keeps_words c d _ _ _ e k)

pub acknowledge_words : (c : Core) (y : InterruptReadings) (x : (Settled Bool)) (d : Decided) → d ≡ replied_words x.rest (acknowledged_answer x.answer) x.writes
    → ((ws : List ℕ) → in_ranges (view c ws) ≡ true → acknowledged_view c.settings x ws ≡ acknowledge_of (view c ws) y.status y.interrupts y.flag y.again)
    → x.rest.free ≡ c.rest.free
    → ((ws : List ℕ) → in_ranges (view c ws) ≡ true → decided_view c.settings d ws ≡ acknowledge_decided (view c ws) y) × Keeps c d
unfolding acknowledge_decided
acknowledge_words c y x d e f k =
    ((λ ws h. left_view c.settings d _ _ _ ws e ∙ ap acknowledge_reply (f ws h)), keeps_words c d _ _ _ e k)

pub written_words : (c : Core) (place token : ℕ) (x : WrittenBack) (a : (Result Answered Refusal)) (w : Writes) (wr : Writing) → a ≡ simply x.answer → w ≡ no_writes → wr ≡ marked_only x.marking
    → ((ws : List ℕ) → Good c.settings c.rest ws → (lent : Lengths) → accepts_of (view c ws) lent ≡ true → written_view c.settings x ws ≡ writeback_of (view c ws) lent place token)
    → x.rest ≡ c.rest → MarkingGood (pool_length c.settings) x.marking
    → ((ws : List ℕ) → Good c.settings c.rest ws → (lent : Lengths) → accepts_of (view c ws) lent ≡ true
    → decided_view c.settings (record { reply = record { rest = x.rest; answer = a; writes = w }; writing = wr }) ws ≡ writeback_decided (view c ws) lent place token)
    × ((x.rest ≡ c.rest) × Writable (pool_length c.settings) wr)
unfolding writeback_decided
written_words c place token x a w wr ea ew er f k g = (
  (λ ws h lent q.
      ap (with_chain c.settings x.rest a w ws) (ap (chain_in c.settings) er ∙ marked_chain c.settings x.marking)
      ∙ written_came (written_view c.settings x ws) a w _ ea ew (f ws h lent q)),
  (k, subst (λ (v : Writing). Writable (pool_length c.settings) v) (sym er) (marked_writable (pool_length c.settings) x.marking g)),
)

-- ---- the arms that are lent the slots

module _ (c : Core) (ws ws' : List ℕ) where
  pub drain_words : (command : ℕ) (x : (Settled Event)) (d : Decided) → d ≡ replied_words x.rest (drained_answer x.answer) x.writes
      → drained_view c.settings x ws' ≡ drain_of (view c ws) command → Tidy c.settings x.rest ws'
      → (decided_view c.settings d ws' ≡ drain_decided (view c ws) command) × Tidies c d ws'
  unfolding drain_decided
  drain_words command x d e f t = (left_view c.settings d _ _ _ ws' e ∙ ap drain_reply f, tidies_words c d _ _ _ e ws' t)

  pub open_words_lem : (h h' : List ℕ) (y : EndpointFields) (x : (Left ℕ)) (d : Decided) → d ≡ replied_words x.rest (opened_answer x.answer) no_writes
      → ((pool frames setups : ℕ) → rows_are_fit c.settings pool (length h) frames setups ≡ true
      → open_left (opened_view c.settings x ws') h' ≡ open_endpoint_of (view c ws) pool h frames setups y.kind y.address y.number y.packet)
      → Tidy c.settings x.rest ws'
      → ((pool frames setups : ℕ) → rows_are_fit c.settings pool (length h) frames setups ≡ true
      → heads_came (decided_view c.settings d ws') h' ≡ open_decided (view c ws) pool h frames setups y) × Tidies c d ws'
  unfolding open_decided
  open_words_lem h h' y x d e f t = (
    (λ pool frames setups q. open_came_lem (decided_view c.settings d ws') (opened_view c.settings x ws') h' _ (left_view c.settings d _ _ _ ws' e) (f pool frames setups q)),
    tidies_words c d _ _ _ e ws' t,
  )

  module _ (h f h' f' : List ℕ) where
    pub cancel_words : (y : Readings) (k id : ℕ) (x : (Settled ⊤)) (d : Decided) → d ≡ replied_words x.rest (simply x.answer) x.writes
        → ((pool setups : ℕ) → rows_are_fit c.settings pool (length h) (length f) setups ≡ true
        → left (cancelled_view c.settings x ws') h' f' ≡ cancel_of (view c ws) pool h f setups y k id)
        → Tidy c.settings x.rest ws'
        → ((pool setups : ℕ) → rows_are_fit c.settings pool (length h) (length f) setups ≡ true
        → links_came (decided_view c.settings d ws') h' f' ≡ cancel_decided (view c ws) pool h f setups y k id) × Tidies c d ws'
    unfolding cancel_decided
    cancel_words y k id x d e g t = (
      (λ pool setups q. cancel_came_lem (decided_view c.settings d ws') (cancelled_view c.settings x ws') h' f' _ (left_view c.settings d _ _ _ ws' e) (g pool setups q)),
      tidies_words c d _ _ _ e ws' t,
    )

    pub collect_words : (y : Readings) (v : View) (k id : ℕ) (x : (Settled Collected)) (d : Decided) → d ≡ replied_words x.rest (collected_answer x.answer) x.writes
        → ((pool setups : ℕ) → rows_are_fit c.settings pool (length h) (length f) setups ≡ true
        → gathered (collected_view c.settings x ws') h' f' ≡ collect_of (view c ws) pool h f setups y v k id)
        → Tidy c.settings x.rest ws'
        → ((pool setups : ℕ) → rows_are_fit c.settings pool (length h) (length f) setups ≡ true
        → links_came (decided_view c.settings d ws') h' f' ≡ collect_decided (view c ws) pool h f setups y v k id) × Tidies c d ws'
    unfolding collect_decided
    collect_words y v k id x d e g t = (
      (λ pool setups q. collect_came_lem (decided_view c.settings d ws') (collected_view c.settings x ws') h' f' _ (left_view c.settings d _ _ _ ws' e) (g pool setups q)),
      tidies_words c d _ _ _ e ws' t,
    )

    pub submit_words : (u u' : List ℕ) (y : Readings) (k : ℕ) (t : TransferRequest) (x : Submitted) (a : (Result Answered Refusal)) (wr : Writing) → a ≡ submitted_answer x.answer → wr ≡ laid_only x.laying
        → ((pool : ℕ) → rows_are_fit c.settings pool (length h) (length f) (length u) ≡ true
        → submitted (submitted_view c.settings x ws') h' f' u' ≡ submit_of (view c ws) pool h f u y k t)
        → Tidy c.settings x.rest ws' → LayingGood (pool_length c.settings) x.laying
        → ((pool : ℕ) → rows_are_fit c.settings pool (length h) (length f) (length u) ≡ true
        → came (decided_view c.settings (record { reply = record { rest = x.rest; answer = a; writes = x.writes }; writing = wr }) ws') h' f' u'
        ≡ submit_decided (view c ws) pool h f u y k t)
        × (Tidy c.settings x.rest ws' × Writable (pool_length c.settings) wr)
    unfolding submit_decided
    submit_words u u' y k t x a wr ea er g tidy good = (
      (λ pool q.
          ap (λ (z : Chain). came (with_chain c.settings x.rest a x.writes ws' z) h' f' u') (ap (chain_in c.settings) er ∙ laid_chain c.settings x.laying)
          ∙ submit_came_lem (submitted_view c.settings x ws') a h' f' u' _ ea (g pool q)),
      (tidy, subst (λ (v : Writing). Writable (pool_length c.settings) v) (sym er) (laid_writable (pool_length c.settings) x.laying good)),
    )

-- ---- calls that are an arm by themselves

module _ (c : Core) (d : Decided) (ws : List ℕ) where
  pub brought_view_lem : (b : BroughtUp) (y : BroughtPlain) → d ≡ brought_words b → brought_view c.settings b ws ≡ y → decided_view c.settings d ws ≡ brought_reply y
  unfolding brought_reply
  brought_view_lem b y e f = left_view c.settings d _ _ _ ws e ∙ ap brought_reply f

  pub settled_view_lem : (x : (Settled ⊤)) (y : SettledPlain) → d ≡ settled_words x → settled_view c.settings x ws ≡ y → decided_view c.settings d ws ≡ settled_reply y
  unfolding settled_reply
  settled_view_lem x y e f = left_view c.settings d _ _ _ ws e ∙ ap settled_reply f

  pub slot_view : (x : (Left ⊤)) (y : ChangePlain) → d ≡ changed_words x → changed_view c.settings x ws ≡ y → decided_view c.settings d ws ≡ changed_reply y
  unfolding changed_reply
  slot_view x y e f = left_view c.settings d _ _ _ ws e ∙ ap changed_reply f

  pub changed_view_lem : (h : List ℕ) (x : (Left ⊤)) (y : ChangeLeft) → d ≡ changed_words x → change_left (changed_view c.settings x ws) h ≡ y
      → heads_came (decided_view c.settings d ws) h ≡ change_came y
  unfolding changed_reply
  changed_view_lem h x y e f = change_came_lem (decided_view c.settings d ws) (changed_view c.settings x ws) h y (left_view c.settings d _ _ _ ws e) f
