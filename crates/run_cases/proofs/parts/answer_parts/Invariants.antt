use Rattle.run_cases.proofs.parts.answer_parts.Given as goal

abbrev pub ghosts-append_published : goal.ghosts-append_published
ghosts-append_published g a = record { opening = a.publisher.now.opening }
