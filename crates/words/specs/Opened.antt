-- What an opening gives: no word of the row is set, and every place of the pool is free.
use Rattle.std.specs.Prelude.{ℕ, ◌*◌, List, replicate}
use Rattle.bitset.specs.Places.{all_below}
use Rattle.words.specs.declared.cores.Rest.{Rest}

abbrev pub opened_row : ℕ → List ℕ
opened_row endpoints = replicate (6 * endpoints) 0

-- not running, nothing begun, address 1 next, interrupts off
unfoldable pub opened_rest : ℕ → Rest
opened_rest descriptors =
    record {
      running = 0;
      step = 0;
      address = 1;
      enabled = 0;
      noted = 0;
      doorbell = 0;
      unanswered = 0;
      pending = 0;
      masked = 0;
      waited = 0;
      free = all_below descriptors;
    }
