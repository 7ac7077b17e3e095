use Rattle.search_cases.proofs.standing.answer.Given as goal

abbrev pub ghosts-watch : goal.ghosts-watch
ghosts-watch a = record { name = a.blank.name; parts = a.blank.parts }
