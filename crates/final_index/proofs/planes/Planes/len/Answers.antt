use Rattle.kb_geometry.specs.Board.{point_count}
use Rattle.final_index.proofs.GamesOfWords.{count-seen}
use Rattle.final_index.proofs.planes.Planes.len.Goals as goal

pub returns-clause-value : goal.returns-clause-value
returns-clause-value c = count-seen c.self.inside.shape (point_count c.self.inside.shape) c.self.inside.present c.self.inside.words.items c.self.inside.count c.args.self.now c.self.view_is
