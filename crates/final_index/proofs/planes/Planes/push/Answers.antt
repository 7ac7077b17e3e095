use Rattle.std.proofs.Common.{None}
use Rattle.kb_geometry.specs.Board.{point_count}
use Rattle.final_index.proofs.GamesOfWords.{ArePlaneWords-left_out, count-few, games_of_words-left_out, push-seen}
use Rattle.final_index.proofs.planes.Planes.push.Goals as goal

pub invariant_of-self : goal.invariant_of-self
invariant_of-self c =
    let few = count-few c.self.inside.shape (point_count c.self.inside.shape) c.self.inside.present c.self.inside.words.items c.self.inside.count c.args.self.now c.self.view_is c.requires.few in
    ArePlaneWords-left_out (point_count c.self.inside.shape) c.self.inside.count c.self.inside.present c.self.inside.words.items c.self.invariant few

pub returns-in-None : goal.returns-in-None
returns-in-None c =
    let few = count-few c.self.inside.shape (point_count c.self.inside.shape) c.self.inside.present c.self.inside.words.items c.self.inside.count c.args.self.now c.self.view_is c.requires.few in
    rw c.in-None.is (push-seen c.self.inside.shape (point_count c.self.inside.shape) c.self.inside.present c.self.inside.words.items c.self.inside.count c.args.self.now c.self.view_is None _
    (games_of_words-left_out (point_count c.self.inside.shape) c.self.inside.count c.self.inside.present c.self.inside.words.items c.self.invariant few))
