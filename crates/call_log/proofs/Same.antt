-- "any two results allowed are proved the same", of the log's reader: its contract is an equation.
use Rattle.std.specs.Prelude.{◌≡◌, ℕ, List, Option}
use mathlib.Core.Path.{sym, ◌∙◌}
use Rattle.call_log.specs.declared.record.Entry.{Entry}
use Rattle.call_log.specs.Records.{entry_of}

pub same_entry : (bytes : List ℕ) (a b : Option Entry) → a ≡ entry_of bytes → b ≡ entry_of bytes → a ≡ b
same_entry bytes a b e f = e ∙ sym f
