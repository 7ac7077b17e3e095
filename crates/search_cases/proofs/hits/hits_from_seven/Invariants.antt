use Rattle.search_cases.proofs.hits.hits_from_seven.Given as goal

abbrev pub ghosts-segment_hits : goal.ghosts-segment_hits
ghosts-segment_hits a = record { name = a.blank.name; parts = a.blank.parts }
