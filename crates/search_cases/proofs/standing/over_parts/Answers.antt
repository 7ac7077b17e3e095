use Rattle.search_cases.proofs.CoveredGames.{fits-nothing, fits-pushed}
use Rattle.search_cases.proofs.standing.over_parts.Goals as goal

pub go_on-requires : goal.go_on-requires
go_on-requires g c =
    let watched = c.args.watched.now in
    fits-nothing watched.query watched.filter watched.standing c.empty-version.result.parts c.empty-version.ensures.1 c.requires

pub go_on-requires-in-loop-part : goal.go_on-requires-in-loop-part
go_on-requires-in-loop-part g c =
    let watched = c.loop-part.watched in
    fits-pushed watched.query watched.filter watched.standing c.loop-part.version.parts c.add_part.new.version.parts _ c.in_ok-add_part.ensures c.loop-part.invariant
