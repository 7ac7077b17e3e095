use Rattle.search_cases.proofs.CoveredGames.{covers-none}
use Rattle.search_cases.proofs.standing.watch.Goals as goal

pub over_merged-requires : goal.over_merged-requires
over_merged-requires g c = covers-none c.args.watched.now.query c.args.watched.now.filter c.args.watched.now.standing c.requires.none

pub over_parts-requires : goal.over_parts-requires
over_parts-requires g c = covers-none c.args.watched.now.query c.args.watched.now.filter c.args.watched.now.standing c.requires.none
