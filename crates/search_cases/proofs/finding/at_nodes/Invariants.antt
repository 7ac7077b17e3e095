use Rattle.search_cases.proofs.finding.at_nodes.Given as goal

abbrev pub ghosts-found_at : goal.ghosts-found_at
ghosts-found_at a = record { name = a.blank.name; parts = a.blank.parts }
