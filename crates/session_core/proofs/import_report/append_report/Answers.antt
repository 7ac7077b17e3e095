use Rattle.session_core.proofs.import_report.append_report.Goals as goal

pub returns-in_ok-append_listed-in-Files-clause-ok : goal.returns-in_ok-append_listed-in-Files-clause-ok
returns-in_ok-append_listed-in-Files-clause-ok c = rw c.in-Files.is (rw (c.game_count-games.ensures, c.as_slice.ensures, c.as_slice-in-Files.ensures) at c.in_ok-append_listed-in-Files.ensures.ok)
