-- A call that is made directly is an arm of `apply`, by what it is lent: from its shape, how its result reads as a reply, and the door's arm.
use Rattle.std.specs.Prelude.{◌≡◌, ℕ, Bool, true, false, List, length}
use mathlib.Core.Path.{refl, sym, ap, ◌∙◌}
use Rattle.common.specs.declared.answer.Refusal.TheVariants.{InvalidParameter}
use Rattle.common.proofs.TestLaws.{both_tells}
use Rattle.descriptor.specs.declared.qtd.QueueTransferDescriptor.{QueueTransferDescriptor as Record}
use Rattle.pool.specs.declared.chain.View.{View}
use Rattle.pool.proofs.ChainLaws.{fill_no_chain}
use Rattle.state.specs.Plain.{Ehci}
use Rattle.state.specs.Ranges.{in_ranges}
use Rattle.opening.specs.Opening.{rows_are_fit}
use Rattle.opening.proofs.OpenLaws.{rows_tell}
use Rattle.words.specs.declared.cores.Core.{Core}
use Rattle.words.specs.declared.cores.Rest.{Rest}
use Rattle.words.specs.View.{state_of, view}
use Rattle.word_ranges.specs.Judge.{words_good}
use Rattle.word_ranges.proofs.CoreLaws.{ranges_core}
use Rattle.word_ranges.proofs.JudgeLaws.{judged}
use Rattle.direct_calls.specs.Shapes.{CoreCall, FramesCall, HeadsCall, SlotsCall, takes_core, takes_frames, takes_heads, takes_slots}
use Rattle.direct_calls.proofs.TakesCases.{frames_asked, heads_asked}
use Rattle.ehci.specs.declared.call.Call.{Call}
use Rattle.ehci.specs.Plain.{Decided}
use Rattle.ehci.specs.declared.reply.Reply.{Reply}
use Rattle.ehci.specs.Decides.{HeadsOutcome, LinksOutcome, Outcome, asks_of, call_of, came, decide_of, heads_came, links_came, with_frames, with_setups}
use Rattle.ehci.specs.Door.{applied, apply_of, carried_out, seen_by}
use Rattle.ehci.specs.Replies.{refused_reply, replied}
use Rattle.ehci.specs.WordsDecides.{refused_reply_words}
use Rattle.ehci.specs.WordsDoor.{accepts_words, apply_words, reply_view}
use Rattle.ehci_calls.specs.Arms.{CoreArm, FramesArm, HeadsArm, Leaves, SlotsArm}

-- what a reply leaves of the state that the words stand for
abbrev decides_reply : Core → Reply → List ℕ → Decided
decides_reply c reply ws = replied (state_of c.settings reply.rest ws) reply.answer reply.writes

-- the reply of a refusal with 1
abbrev refusal_reply : Core → Reply
refusal_reply c = (refused_reply_words c.rest InvalidParameter).reply

module _ (c : Core) (ws : List ℕ) (pool : List Record) (heads frames setups : List ℕ) where
  abbrev accepts : Bool
  accepts = accepts_words c ws (length pool) (length heads) (length frames) (length setups)

  -- ---- what is accepted the call takes

  module _ (e : accepts ≡ true) where
    parts : (rows_are_fit c.settings (length pool) (length heads) (length frames) (length setups) ≡ true) × (words_good c.settings c.rest ws ≡ true)
    unfolding accepts_words
    parts = both_tells (rows_are_fit c.settings (length pool) (length heads) (length frames) (length setups)) (words_good c.settings c.rest ws) e

    in_ranges_lem : in_ranges (view c ws) ≡ true
    in_ranges_lem = (judged c.settings c.rest ws parts.1).ranges

    core_taken : takes_core c ≡ true
    core_taken = ranges_core c.settings c.rest ws in_ranges_lem

    slots_taken : takes_slots c ws ≡ true
    slots_taken = parts.1

    heads_taken : takes_heads c ws (length heads) ≡ true
    heads_taken =
        sym (heads_asked c ws (length heads) true (rows_tell c.settings (length pool) (length heads) (length frames) (length setups) parts.0).heads_fit (sym slots_taken))

    frames_taken : takes_frames c ws (length heads) (length frames) ≡ true
    frames_taken =
        sym (frames_asked c ws (length heads) (length frames) true (rows_tell c.settings (length pool) (length heads) (length frames) (length setups) parts.0).frames_fit (sym heads_taken))

  not_accepted : (takes : Bool) → (accepts ≡ true → takes ≡ true) → takes ≡ false → accepts ≡ false
  not_accepted takes f un = by accepts refl
    where
      by : (b : Bool) → accepts ≡ b → accepts ≡ false
      by true e = e ∙ sym (f e) ∙ un
      by false e = e

  -- ---- any arm

  module _ (call : Call) (reply : Reply) (ws' heads' frames' : List ℕ) where
    -- nothing of the pool is written
    leaves_same : accepts ≡ true → ((v : View) → call_of (view c ws) (length pool) heads frames setups v call ≡ came (decides_reply c reply ws') heads' frames' setups)
        → Leaves c ws pool heads frames setups call reply ws' heads' frames'
    unfolding apply_words apply_of decide_of replied state_of
    leaves_same e arm =
        rw (e, (parts e).0)
        (ap (λ (zs : List Record). applied (reply_view c.settings reply ws') zs heads' frames' setups) (sym (fill_no_chain pool))
        ∙ ap (λ (o : Outcome). carried_out o pool) (sym (arm (seen_by (asks_of (view c ws) (length pool) call) pool))))

    refuses_same : accepts ≡ false → reply ≡ refusal_reply c → ws' ≡ ws → heads' ≡ heads → frames' ≡ frames
        → Leaves c ws pool heads frames setups call reply ws' heads' frames'
    unfolding apply_words refused_reply replied
    refuses_same un e l l' l'' = rw (un, e, l, l', l'')

-- ---- one law a shape. `told` is how the call's own result reads as what is decided, at the door and here; `reply` how it reads as a reply

module _ {R S : Type 0} (c : Core) (r refusal : R) (rest : Rest) (call : Call) (reply : R → Reply) (refuses : reply refusal ≡ refusal_reply c) where
  pub core_is_apply : (seen : List ℕ → S) (decides : Ehci → S) (told : S → Decided) → CoreCall c r refusal rest seen decides
      → ((s : Ehci) (n : ℕ) (hs fs us : List ℕ) (v : View) → call_of s n hs fs us v call ≡ came (told (decides s)) hs fs us)
      → ((ws : List ℕ) → told (seen ws) ≡ decides_reply c (reply r) ws)
      → CoreArm c call (reply r)
  core_is_apply seen decides told does arm reads ws pool heads frames setups =
      record {
        where_accepted = λ e.
            leaves_same c ws pool heads frames setups call (reply r) ws heads frames e
            (λ v.
            arm (view c ws) (length pool) heads frames setups v
            ∙ ap (λ (x : S). came (told x) heads frames setups) (sym (does.decided ws (in_ranges_lem c ws pool heads frames setups e)))
            ∙ ap (λ (d : Decided). came d heads frames setups) (reads ws));
        where_refused = λ un.
            refuses_same c ws pool heads frames setups call (reply r) ws heads frames
            (not_accepted c ws pool heads frames setups (takes_core c) (core_taken c ws pool heads frames setups) un)
            (ap reply (does.refused un) ∙ refuses) refl refl refl;
      }

  module _ (ws ws' : List ℕ) (seen : S) where
    pub slots_is_apply : (decides : Ehci → S) (told : S → Decided) → SlotsCall c ws ws' r refusal rest seen decides
        → ((s : Ehci) (n : ℕ) (hs fs us : List ℕ) (v : View) → call_of s n hs fs us v call ≡ came (told (decides s)) hs fs us)
        → told seen ≡ decides_reply c (reply r) ws'
        → SlotsArm c ws ws' call (reply r)
    slots_is_apply decides told does arm reads pool heads frames setups =
        record {
          where_accepted = λ e.
              leaves_same c ws pool heads frames setups call (reply r) ws' heads frames e
              (λ v.
              arm (view c ws) (length pool) heads frames setups v
              ∙ ap (λ (x : S). came (told x) heads frames setups) (sym (does.decided (slots_taken c ws pool heads frames setups e)))
              ∙ ap (λ (d : Decided). came d heads frames setups) reads);
          where_refused = λ un.
              refuses_same c ws pool heads frames setups call (reply r) ws' heads frames
              (not_accepted c ws pool heads frames setups (takes_slots c ws) (slots_taken c ws pool heads frames setups) un)
              (ap reply (does.refused un).0 ∙ refuses) (does.refused un).1 refl refl;
        }

    pub heads_is_apply : (heads heads' : List ℕ) (decides : ℕ → ℕ → ℕ → S) (told : S → HeadsOutcome) → HeadsCall c ws ws' heads heads' r refusal rest seen decides
        → ((n : ℕ) (fs us : List ℕ) (v : View) → call_of (view c ws) n heads fs us v call ≡ with_frames (told (decides n (length fs) (length us))) fs us)
        → told seen ≡ heads_came (decides_reply c (reply r) ws') heads'
        → HeadsArm c ws ws' heads heads' call (reply r)
    heads_is_apply heads heads' decides told does arm reads pool frames setups =
        record {
          where_accepted = λ e.
              leaves_same c ws pool heads frames setups call (reply r) ws' heads' frames e
              (λ v.
              arm (length pool) frames setups v
              ∙ ap (λ (x : S). with_frames (told x) frames setups)
              (sym (does.decided (heads_taken c ws pool heads frames setups e) (length pool) (length frames) (length setups) (parts c ws pool heads frames setups e).0))
              ∙ ap (λ (o : HeadsOutcome). with_frames o frames setups) reads);
          where_refused = λ un.
              refuses_same c ws pool heads frames setups call (reply r) ws' heads' frames
              (not_accepted c ws pool heads frames setups (takes_heads c ws (length heads)) (heads_taken c ws pool heads frames setups) un)
              (ap reply (does.refused un).0 ∙ refuses) (does.refused un).1 (does.refused un).2 refl;
        }

    pub frames_is_apply : (heads heads' frames frames' : List ℕ) (decides : ℕ → ℕ → S) (told : S → LinksOutcome) → FramesCall c ws ws' heads heads' frames frames' r refusal rest seen decides
        → ((n : ℕ) (us : List ℕ) (v : View) → call_of (view c ws) n heads frames us v call ≡ with_setups (told (decides n (length us))) us)
        → told seen ≡ links_came (decides_reply c (reply r) ws') heads' frames'
        → FramesArm c ws ws' heads heads' frames frames' call (reply r)
    frames_is_apply heads heads' frames frames' decides told does arm reads pool setups =
        record {
          where_accepted = λ e.
              leaves_same c ws pool heads frames setups call (reply r) ws' heads' frames' e
              (λ v.
              arm (length pool) setups v
              ∙ ap (λ (x : S). with_setups (told x) setups)
              (sym (does.decided (frames_taken c ws pool heads frames setups e) (length pool) (length setups) (parts c ws pool heads frames setups e).0))
              ∙ ap (λ (o : LinksOutcome). with_setups o setups) reads);
          where_refused = λ un.
              refuses_same c ws pool heads frames setups call (reply r) ws' heads' frames'
              (not_accepted c ws pool heads frames setups (takes_frames c ws (length heads) (length frames)) (frames_taken c ws pool heads frames setups) un)
              (ap reply (does.refused un).0 ∙ refuses) (does.refused un).1 (does.refused un).2 (does.refused un).3;
        }
