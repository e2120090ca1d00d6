-- What each call leaves of words that are not in their ranges: 1, the rest as it was, no write.
use Rattle.std.specs.Prelude.{Bool, Err, ℕ, ⊤}
use Rattle.common.specs.declared.answer.Refusal.TheVariants.{InvalidParameter}
use Rattle.register.specs.Writes.{no_writes}
use Rattle.words.specs.declared.cores.Rest.{Rest}
use Rattle.controller.specs.declared.left.Left.{Left}
use Rattle.controller.specs.declared.left.Settled.{Settled}
use Rattle.interrupt.specs.declared.answers.Event.{Event}

abbrev pub refused_acknowledgement : Rest → Settled Bool
refused_acknowledgement rest = record { answer = Err InvalidParameter; rest = rest; writes = no_writes }

abbrev pub refused_drainage : Rest → Settled Event
refused_drainage rest = record { answer = Err InvalidParameter; rest = rest; writes = no_writes }

abbrev pub refused_settled : Rest → Settled ⊤
refused_settled rest = record { answer = Err InvalidParameter; rest = rest; writes = no_writes }

abbrev pub refused_allotment : Rest → Left ℕ
refused_allotment rest = record { answer = Err InvalidParameter; rest = rest }

abbrev pub refused_endpoint : Rest → Left ℕ
refused_endpoint rest = record { answer = Err InvalidParameter; rest = rest }

abbrev pub refused_change : Rest → Left ⊤
refused_change rest = record { answer = Err InvalidParameter; rest = rest }
