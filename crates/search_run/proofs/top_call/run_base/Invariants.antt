use Rattle.search_run.proofs.top_call.run_base.Given as goal

abbrev pub ghosts-run_beside : goal.ghosts-run_beside
ghosts-run_beside g a = record { opening = a.importer.owned.publisher.opening }
