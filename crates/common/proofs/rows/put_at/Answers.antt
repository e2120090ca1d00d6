use Rattle.common.proofs.RowsCases.{put_done}
use Rattle.common.proofs.rows.put_at.Goals as goal

pub returns : goal.returns
returns g c = let a = c.args in
    put_done a.row.now _ a.elements.now a.at c.copy_from_slice.ensures.after
