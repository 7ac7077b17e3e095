use Rattle.std.proofs.Common.{arith}
use Rattle.version_publisher.specs.Contents.{items_in}
use Rattle.search_cases.proofs.CoveredGames.{fits-same, none_behind}
use Rattle.search_cases.proofs.standing.Watched.go_on_again.Goals as goal

pub go_on-requires : goal.go_on-requires
go_on-requires g c =
    let self = c.args.self.now in
    fits-same self.query self.filter self.standing (items_in c.args.version.now.parts) c.requires

pub returns : goal.returns
returns g c =
    let self = c.args.self.now in
    let none = none_behind self.standing.games (items_in c.args.version.now.parts) c.requires.counted in
    omega (arith, c.go_on.ensures.ticks, c.go_on.ensures.grows, none)
