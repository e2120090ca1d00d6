-- An answer packed into numbers is that of its parts.
use Rattle.std.specs.Prelude.{◌≡◌, ℕ, List, Result}
use mathlib.Core.Path.{ap, ◌∙◌}
use Rattle.register.specs.declared.writes.Writes.{Writes}
use Rattle.words.specs.declared.cores.Rest.{Rest}
use Rattle.ehci.specs.Replies.{answered_number}
use Rattle.bench_port.specs.declared.numbers.Replied.{Replied}
use Rattle.bench_port.specs.Numbers.{offsets_of, other_of, pack_of, value_of, values_of}
use Rattle.ehci.specs.declared.reply.Answered.{Answered}
use Rattle.common.specs.declared.answer.Refusal.{Refusal}

pub packed : (rest : Rest) (answer : (Result Answered Refusal)) (w : Writes) (n v o : ℕ) (os vs : List ℕ) → n ≡ answered_number answer → v ≡ value_of answer
    → o ≡ other_of answer → os ≡ offsets_of w.writes → vs ≡ values_of w.writes
    → ◌≡◌ {A = Replied} (record { rest = rest; number = n; count = w.count; value = v; other = o; offsets = os; values = vs }) (pack_of rest answer w)
unfolding pack_of
packed rest answer w n v o os vs e f g h i = rw (e, f, g, h, i)

pub answered : (rest : Rest) (a b : (Result Answered Refusal)) (w : Writes) (r : Replied) → a ≡ b → r ≡ pack_of rest a w → r ≡ pack_of rest b w
answered rest a b w r e p = p ∙ ap (λ (x : (Result Answered Refusal)). pack_of rest x w) e

pub answered_with : (rest : Rest) (a b : (Result Answered Refusal)) (w v : Writes) (r : Replied) → a ≡ b → w ≡ v → r ≡ pack_of rest a w → r ≡ pack_of rest b v
answered_with rest a b w v r e f p = answered rest a b w r e p ∙ ap (pack_of rest b) f
