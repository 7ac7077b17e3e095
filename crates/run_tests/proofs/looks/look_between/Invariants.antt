use Rattle.run_tests.proofs.looks.look_between.Given as goal

abbrev pub ghosts-import_files : goal.ghosts-import_files
ghosts-import_files g a = record { opening = a.publisher.now.opening }
