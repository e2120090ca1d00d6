-- The returns of submit over words: what it refuses, what it settles.
use Rattle.std.specs.Prelude.{◌≡◌, ℕ, ◌≤◌, true, List, length, Err, Ok, Result, ⊤}
use mathlib.Core.Path.{refl, sym, ◌∙◌}
use native.Mathlib.Omega.{arith}
use Rattle.common.specs.declared.answer.Refusal.{Refusal}
use Rattle.controller.specs.Lent.{accepts_of, lengths}
use Rattle.controller.specs.declared.lent.Readings.{Readings}
use Rattle.controller.proofs.LentLaws.{accepts_is}
use Rattle.opening.specs.Opening.{rows_are_fit}
use Rattle.pool.specs.Words.{LayingGood, no_laying}
use Rattle.pool.proofs.WordLaws.{no_laying_good, no_places_lem}
use Rattle.settings.specs.declared.settings.Settings.{Settings}
use Rattle.words.specs.declared.cores.Rest.{Rest}
use Rattle.words.specs.Good.{Good, Tidy}
use Rattle.words.specs.View.{state_of}
use Rattle.token.specs.Chunks.{need_of, working_limit}
use Rattle.pipe.specs.declared.endpoints.Pipe.{Pipe}
use Rattle.pipe.specs.Endpoints.{limit_at, limit_of, pipe_of}
use Rattle.pipe.proofs.LimitLaws.{limit_view, word_limit_least}
use Rattle.words.specs.Record.{last_at, slot_in, word_at}
use Rattle.request.specs.Submit.{judge_of, need_of_request, refused_submit, settled_submit, submit_of, submitted}
use Rattle.request.specs.Words.{refused_words, submitted_view}
use Rattle.request.specs.declared.answers.Submitted.{Submitted as SubmittedWords}
use Rattle.request.specs.declared.judge.TransferRequest.{TransferRequest}
use Rattle.request.proofs.SubmitCases.{submit_done, submit_refused}

-- ---- `submit`

module _ (s : Settings) (r : Rest) (ws : List ℕ) (k l : ℕ) (p : Pipe) (good : Good s r ws) (ep : p ≡ pipe_of (slot_in (word_at ws k) (last_at ws k)))
    (el : l ≡ working_limit p.kind s.limit p.size) where
  limit_here : l ≡ limit_of s (pipe_of (slot_in (word_at ws k) (last_at ws k)))
  limit_here = el ∙ rw ep

  pub limit_good : 1 ≤ l
  limit_good = omega (arith, limit_here, word_limit_least s r ws good k)

  pub limit_viewed : l ≡ limit_at (state_of s r ws) k
  limit_viewed = limit_here ∙ limit_view s r ws good k

  pub need_viewed : (t : TransferRequest) (n : ℕ) → n ≡ need_of t.kind t.length l → n ≡ need_of_request (state_of s r ws) k t
  need_viewed t n e = e ∙ rw limit_viewed

refused_viewed : (s : Settings) (r : Rest) (ws : List ℕ) (q : Refusal) (x : SubmittedWords) → x ≡ refused_words r q
    → submitted_view s x ws ≡ refused_submit (state_of s r ws) q
unfolding refused_words refused_submit no_laying
refused_viewed s r ws q x e = rw (e, no_places_lem)

module _ (s : Settings) (r : Rest) (ws : List ℕ) (h f u : List ℕ) (d : Readings) (k : ℕ) (t : TransferRequest) (v : (Result ⊤ Refusal)) (good : Good s r ws)
    (ev : v ≡ judge_of (state_of s r ws) k t) where
  accepts_rows : (pool : ℕ) → rows_are_fit s pool (length h) (length f) (length u) ≡ true
      → true ≡ accepts_of (state_of s r ws) (lengths pool (length h) (length f) (length u))
  unfolding state_of
  accepts_rows pool e =
      accepts_is (state_of s r ws) (lengths pool (length h) (length f) (length u)) true true (sym e) (sym good.ranges)

  pub submit_refuses : (q : Refusal) (x : SubmittedWords) → v ≡ Err q → x ≡ refused_words r q
      → (pool : ℕ) → rows_are_fit s pool (length h) (length f) (length u) ≡ true
      → submitted (submitted_view s x ws) h f u ≡ submit_of (state_of s r ws) pool h f u d k t
  submit_refuses q x eq ex pool e =
      submit_refused (state_of s r ws) pool h f u d k t true (accepts_rows pool e) refl v ev q eq (submitted_view s x ws) (refused_viewed s r ws q x ex)

  pub submit_settles : (x : SubmittedWords) (ws' h' f' u' : List ℕ) → v ≡ (Ok tt)
      → submitted (submitted_view s x ws') h' f' u' ≡ settled_submit (state_of s r ws) h f u d k t
      → (pool : ℕ) → rows_are_fit s pool (length h) (length f) (length u) ≡ true
      → submitted (submitted_view s x ws') h' f' u' ≡ submit_of (state_of s r ws) pool h f u d k t
  submit_settles x ws' h' f' u' ed es pool e =
      submit_done (state_of s r ws) pool h f u d k t true (accepts_rows pool e) refl v ev ed (submitted_view s x ws') h' f' u' es

pub refused_tidy : (s : Settings) (r : Rest) (ws : List ℕ) (q : Refusal) (x : SubmittedWords) → Good s r ws → x ≡ refused_words r q → Tidy s x.rest ws
unfolding refused_words
refused_tidy s r ws q x good e = rw e good.tidy

pub refused_laying : (n : ℕ) (r : Rest) (q : Refusal) (x : SubmittedWords) → x ≡ refused_words r q → LayingGood n x.laying
unfolding refused_words
refused_laying n r q x e = rw e (no_laying_good n)
