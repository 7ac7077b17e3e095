use Rattle.search_engine.proofs.pieces.first_hits.Given as goal

abbrev pub ghosts-counted_first_hits : goal.ghosts-counted_first_hits
ghosts-counted_first_hits a = record { name = a.blank.name; parts = a.blank.parts }
