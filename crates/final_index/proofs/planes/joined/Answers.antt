use Rattle.final_index.proofs.JoinedBits.{HasBitsOfBoth-or}
use Rattle.final_index.proofs.planes.joined.Goals as goal

pub returns-else-by-eq64 : goal.returns-else-by-eq64
returns-else-by-eq64 c = HasBitsOfBoth-or c.args.a c.args.b c.args.by c.requires.room
