use Rattle.request.proofs.WordsLink.{address_fits, rows_linked}
use Rattle.request.proofs.settle.link_rows.Goals as goal

pub overflow_cast-first : goal.overflow_cast-first
overflow_cast-first c = search address_fits

pub returns : goal.returns
returns c = search rows_linked
