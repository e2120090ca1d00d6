-- What is packed of a call's result is left in the call's shape, seen through the numbers: a law a shape.
use Rattle.std.specs.Prelude.{ℕ, List}
use mathlib.Core.Path.{ap}
use Rattle.state.specs.Plain.{Ehci}
use Rattle.words.specs.declared.cores.Core.{Core}
use Rattle.words.specs.declared.cores.Rest.{Rest}
use Rattle.direct_calls.specs.Shapes.{CoreCall, FramesCall, HeadsCall, SlotsCall}
use Rattle.bench_port.specs.declared.numbers.Replied.{Replied}

-- f packs what a call returns, g what is seen of it
module _ {R S T : Type 0} (f : R → Replied) (g : S → T) (c : Core) (x refusal : R) (rest : Rest) where
  pub core_mapped : (seen : List ℕ → S) (decides : Ehci → S) → CoreCall c x refusal rest seen decides
      → CoreCall c (f x) (f refusal) rest (λ ws. g (seen ws)) (λ s. g (decides s))
  core_mapped seen decides k =
      record {
        refused = λ t. ap f (k.refused t);
        decided = λ ws h. ap g (k.decided ws h);
        free_stays = k.free_stays;
      }

  module _ (ws ws' : List ℕ) where
    pub slots_mapped : (seen : S) (decides : Ehci → S) → SlotsCall c ws ws' x refusal rest seen decides
        → SlotsCall c ws ws' (f x) (f refusal) rest (g seen) (λ s. g (decides s))
    slots_mapped seen decides k =
        record {
          refused = λ t. (ap f (k.refused t).0, (k.refused t).1);
          decided = λ t. ap g (k.decided t);
          tidy = k.tidy;
        }

    module _ (heads heads' : List ℕ) where
      pub heads_mapped : (seen : S) (decides : ℕ → ℕ → ℕ → S) → HeadsCall c ws ws' heads heads' x refusal rest seen decides
          → HeadsCall c ws ws' heads heads' (f x) (f refusal) rest (g seen) (λ pool frames setups. g (decides pool frames setups))
      heads_mapped seen decides k =
          record {
            refused = λ t. (ap f (k.refused t).0, (k.refused t).1, (k.refused t).2);
            decided = λ t pool frames setups h. ap g (k.decided t pool frames setups h);
            tidy = k.tidy;
          }

      pub frames_mapped : (frames frames' : List ℕ) (seen : S) (decides : ℕ → ℕ → S)
          → FramesCall c ws ws' heads heads' frames frames' x refusal rest seen decides
          → FramesCall c ws ws' heads heads' frames frames' (f x) (f refusal) rest (g seen) (λ pool setups. g (decides pool setups))
      frames_mapped frames frames' seen decides k =
          record {
            refused = λ t. (ap f (k.refused t).0, (k.refused t).1, (k.refused t).2, (k.refused t).3);
            decided = λ t pool setups h. ap g (k.decided t pool setups h);
            tidy = k.tidy;
          }
