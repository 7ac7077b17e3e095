use Rattle.search_cases.proofs.finding.everywhere.Given as goal

abbrev pub ghosts-compare_walks : goal.ghosts-compare_walks
ghosts-compare_walks a = record { name = a.blank.name; parts = a.blank.parts }

abbrev pub ghosts-compare_at_candidates : goal.ghosts-compare_at_candidates
ghosts-compare_at_candidates a = record { name = a.blank.name; parts = a.blank.parts }
