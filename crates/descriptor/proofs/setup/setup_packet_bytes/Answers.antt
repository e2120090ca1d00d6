use Rattle.descriptor.proofs.HeadCases.{packet_bytes}
use Rattle.descriptor.proofs.setup.setup_packet_bytes.Goals as goal

pub returns : goal.returns
returns c = packet_bytes c.args.setup c.args.length
