use Rattle.token.proofs.ChunkLaws.{need_two, need_three, need_chunks}
use Rattle.token.proofs.chunks.need.Goals as goal

pub returns-then-length-eq0 : goal.returns-then-length-eq0
returns-then-length-eq0 c = search need_two

pub returns-else-length-eq0 : goal.returns-else-length-eq0
returns-else-length-eq0 c = search need_three

pub returns-in_default : goal.returns-in_default
returns-in_default c = need_chunks _ _ _ _ c.in_default.not-Control c.chunk_count.ensures
