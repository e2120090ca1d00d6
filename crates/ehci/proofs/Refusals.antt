-- Whatever the state, the rows and the call: a refusal leaves all as before, and 7 all but that nothing runs.
use Rattle.std.specs.Prelude.{◌≡◌, ℕ, ◌≢◌, List, length, Err, Ok, Result}
use mathlib.Core.Path.{refl, sym, ap, ◌∙◌}
use native.Mathlib.Omega.{arith}
use Rattle.register.specs.Writes.{no_writes}
use Rattle.descriptor.specs.declared.qtd.QueueTransferDescriptor.{QueueTransferDescriptor}
use Rattle.pool.proofs.ChainLaws.{fill_no_chain}
use Rattle.state.specs.Plain.{Ehci}
use Rattle.common.specs.Answers.{refusal_number}
use Rattle.common.specs.declared.answer.Refusal.{Refusal}
use Rattle.common.specs.declared.answer.Refusal.TheVariants.{InvalidParameter, SlotLimitReached, InvalidEndpoint, QueueFull, NotSupported, NoMemory, Timeout, NotReady}
use Rattle.ehci.specs.declared.reply.Answered.TheVariants.{Done, Pending, Cancelled, Failed}
use Rattle.ehci.specs.Replies.{answered_number, refused_reply, replied}
use Rattle.ehci.specs.Decides.{Outcome, came}
use Rattle.ehci.specs.Door.{Applied, applied, apply_of, carried_out}
use Rattle.ehci.specs.Refusals.{NumbersKeep, RefusalsKeep, Unmoved, left_by, refused_world, stopped}
use Rattle.ehci.proofs.Fair.{decided_fair}
use Rattle.ehci.specs.declared.reply.Answered.{Answered}

-- nothing is written to the pool
refused_carries : (s : Ehci) (pool : List QueueTransferDescriptor) (heads frames setups : List ℕ) (r : Refusal)
    → carried_out (came (refused_reply (left_by r s) r) heads frames setups) pool ≡ refused_world s pool heads frames setups r
unfolding refused_reply replied
refused_carries s pool heads frames setups r =
    ap (λ (rows : List QueueTransferDescriptor). applied (record { state = left_by r s; answer = Err r; writes = no_writes }) rows heads frames setups) (fill_no_chain pool)

pub refusals : RefusalsKeep
unfolding apply_of
refusals s pool heads frames setups call r e =
    ap (λ (o : Outcome). carried_out o pool) ((decided_fair s heads frames setups (length pool) _ call).keeps r e) ∙ refused_carries s pool heads frames setups r

-- ---- by 01's numbers

only_left : (s : Ehci) (r : Refusal) → (refusal_number r ≢ 7 → left_by r s ≡ s) × (refusal_number r ≡ 7 → left_by r s ≡ stopped s)
only_left s InvalidParameter = (λ _. refl, λ e. absurd (omega (arith, e)))
only_left s SlotLimitReached = (λ _. refl, λ e. absurd (omega (arith, e)))
only_left s InvalidEndpoint = (λ _. refl, λ e. absurd (omega (arith, e)))
only_left s QueueFull = (λ _. refl, λ e. absurd (omega (arith, e)))
only_left s NotSupported = (λ _. refl, λ e. absurd (omega (arith, e)))
only_left s NoMemory = (λ _. refl, λ e. absurd (omega (arith, e)))
only_left s Timeout = (λ n. absurd (n refl), λ _. refl)
only_left s NotReady = (λ _. refl, λ e. absurd (omega (arith, e)))

module _ (s : Ehci) (pool : List QueueTransferDescriptor) (heads frames setups : List ℕ) where
  refusal_unmoved : (r : Refusal) (n : ℕ) → refusal_number r ≡ n → (a : Applied) → a ≡ refused_world s pool heads frames setups r
      → Unmoved s pool heads frames setups n a
  refusal_unmoved r n en a e =
      record {
        no_write = ap (λ (x : Applied). x.reply.writes) e;
        pool_stays = ap (λ (x : Applied). x.pool) e;
        heads_stay = ap (λ (x : Applied). x.heads) e;
        frames_stay = ap (λ (x : Applied). x.frames) e;
        setups_stay = ap (λ (x : Applied). x.setups) e;
        state_stays = λ ne. ap (λ (x : Applied). x.reply.state) e ∙ (only_left s r).0 (λ q. ne (sym en ∙ q));
        only_stopped = λ eq. ap (λ (x : Applied). x.reply.state) e ∙ (only_left s r).1 (en ∙ eq);
      }

pub numbers_keep : NumbersKeep
numbers_keep s pool heads frames setups call n e n0 n9 n10 n11 = by (apply_of s pool heads frames setups call).reply.answer refl e
  where
    by : (x : (Result Answered Refusal)) → (apply_of s pool heads frames setups call).reply.answer ≡ x → answered_number x ≡ n → Unmoved s pool heads frames setups n (apply_of s pool heads frames setups call)
    by (Ok (Done given)) q en = absurd (n0 (sym en))
    by (Ok Pending) q en = absurd (n9 (sym en))
    by (Ok Cancelled) q en = absurd (n10 (sym en))
    by (Ok (Failed token)) q en = absurd (n11 (sym en))
    by (Err r) q en = refusal_unmoved s pool heads frames setups r n en _ (refusals s pool heads frames setups call r q)
