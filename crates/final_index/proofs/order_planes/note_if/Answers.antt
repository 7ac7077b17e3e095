use Rattle.final_index.proofs.OrderedBits.{gained-if}
use Rattle.final_index.proofs.order_planes.note_if.Goals as goal

pub returns : goal.returns
returns c = gained-if c.args.words.now c.args.at c.args.game c.requires.within c.requires.few c.args.is c.from.result c.from.ensures
