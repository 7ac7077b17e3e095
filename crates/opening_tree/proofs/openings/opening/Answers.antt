use Rattle.std.proofs.Common.{ap, map, ◌≡◌, ◌∙◌}
use Rattle.std.specs.Borrow.{Bor}
use Rattle.std.specs.Map.{values_of}
use Rattle.std.specs.Prelude.{filter, nat_le}
use Rattle.std.specs.declared.alloc.Global.{Global}
use Rattle.std.specs.declared.vec.Vec.{Vec}
use Rattle.std.proofs.lemmas.Result.{IfOk-weaker}
use Rattle.node_position.specs.Games.{Game}
use Rattle.version_publisher.specs.Contents.{items_in}
use Rattle.opening_tree.specs.declared.answer.Opening.{Opening}
use Rattle.opening_tree.specs.Openings.{IsOpenings}
use Rattle.opening_tree.proofs.StoredSteps.{openings-answered}
use Rattle.opening_tree.proofs.openings.opening.Goals as goal

pub returns : goal.returns
returns c =
    let stored = c.in_ok-openings.openings.entries in
    let games = ap (map (λ (g : Bor Game). g.now)) c.as_slice.ensures.value ∙ c.in_ok-games.ensures.value in
    IfOk-weaker c.listed.result
    (λ (os : Vec Opening Global). os.items ≡ filter (λ (o : Opening). nat_le c.args.least o.count) (values_of stored))
    (λ (os : Vec Opening Global). IsOpenings c.args.shape c.args.depth c.args.least (items_in c.args.version.now.parts) os.items)
    (λ os is. openings-answered c.args.shape c.args.depth c.args.least (map (λ (g : Bor Game). g.now) c.as_slice.result.now) (items_in c.args.version.now.parts) stored os.items games c.in_ok-openings.ensures is)
    c.listed.ensures
