use Rattle.search_cases.proofs.standing.Watched.go_on.Goals as goal

pub advance-requires-clause-games : goal.advance-requires-clause-games
advance-requires-clause-games g c = c.requires.within

pub advance-requires-clause-hits : goal.advance-requires-clause-hits
advance-requires-clause-hits g c = c.requires.are_hits

pub returns-clause-covers : goal.returns-clause-covers
returns-clause-covers g c = record { counted = c.in_ok-at.ensures.games; are_hits = c.in_ok-at.ensures.hits }
