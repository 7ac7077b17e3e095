use Rattle.kb_geometry.specs.Board.{point_count}
use Rattle.final_index.proofs.PresentGames.{present-seen}
use Rattle.final_index.proofs.planes.Planes.present.Goals as goal

pub returns : goal.returns
returns c g lt =
    present-seen (point_count c.self.inside.shape) c.self.inside.present c.self.inside.words.items c.self.inside.count c.self.invariant c.self.inside.shape c.args.self.now c.self.view_is g
