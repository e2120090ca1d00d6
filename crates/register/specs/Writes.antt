-- The register writes of one answer: at most 6, in order, as offset and value. Places that are not used are 0.
use Rattle.std.specs.Prelude.{ℕ, ◌+◌, ◌-◌, List, [], ◌++◌, length, replicate, set, take}
use Rattle.register.specs.declared.writes.Write.{Write}
use Rattle.register.specs.declared.writes.Writes.{Writes}

abbrev pub write_of : ℕ → ℕ → Write
write_of offset value = record { offset = offset; value = value }

-- the writes that hold exactly these, in order
abbrev pub packed : List Write → Writes
packed ws = record { count = length ws; writes = ws ++ replicate (6 - length ws) (write_of 0 0) }

-- the writes that an answer carries
abbrev pub list_of : Writes → List Write
list_of w = take w.count w.writes

unfoldable pub no_writes : Writes
no_writes = packed []

-- one more at the end
unfoldable pub and_then : Writes → ℕ → ℕ → Writes
and_then w offset value =
    record { count = w.count + 1; writes = set w.writes w.count (write_of offset value) }
