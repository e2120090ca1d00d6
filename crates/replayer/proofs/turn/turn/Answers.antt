use Rattle.std.specs.Prelude.{◌≡◌, get_or, Some}
use mathlib.Core.Path.{sym, ap, ◌∙◌}
use Rattle.std.specs.Option.{unwrap_or}
use Rattle.replayer.proofs.TurnCases.{first_is, turn_bad, turn_good}
use Rattle.replayer.proofs.turn.turn.Goals as goal

pub returns-in_default : goal.returns-in_default
returns-in_default c =
    let b = c.put_bad-end.ensures in
    let all = turn_bad c.args.k _ _ _ _ _ (sym c.read_record.ensures ∙ c.in_default.is) (b.out_after, (b.value, b.upper_bound)) in
    record { out_after = all.0; result_value = all.1.0; end_in_bounds = all.1.1 }

pub returns : goal.returns
returns c =
    let s = c.put_shown-end.ensures in
    let number : c.unwrap_or-number.result ≡ get_or c.args.bytes.now 0 0 =
    c.unwrap_or-number.ensures ∙ (ap (λ x. unwrap_or x 0) (c.copied.ensures ∙ c.first.ensures.value) ∙ first_is c.args.bytes.now) in
    let all = turn_good c.args.k _ _ _ _ _ _ _ c.act-acted.result (sym c.read_record.ensures ∙ c.in-Some.is) number c.act-acted.ensures (s.out_after, (s.value, s.upper_bound)) in
    record { out_after = all.0; result_value = all.1.0; end_in_bounds = all.1.1 }
