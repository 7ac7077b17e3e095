use Rattle.std.proofs.Common.{Result, ◌++◌, ◌∙◌, ap, refl, subst, sym, take}
use Rattle.std.specs.Prelude.{IfOk}
use Rattle.kb_geometry.specs.declared.memory.NoMemory.{NoMemory}
use Rattle.import_work.specs.declared.report.Report.{Report}
use Rattle.search_run.specs.Beside.{EndsWith, HasAnsweredAll}
use Rattle.import_segments.specs.Merged.{AreMerged}
use Rattle.import_segments.specs.Publishing.{IsIdle}
use Rattle.search_run.specs.Seen.{HaveSeen}
use Rattle.serial_run.specs.Steps.{kept_report}
use Rattle.search_run.specs.Run.{beside_rules}
use Rattle.version_publisher.specs.Contents.{items_in}
use Rattle.session_core.specs.ImportTexts.{import_line_text}
use Rattle.session_core.specs.Watches.{WatchesFit}
use Rattle.session_core.proofs.WatchLemmas.{fit-grown}
use Rattle.serial_run.proofs.RunLemmas.{after_error}
use Rattle.search_run.proofs.JoinedRuns.{joined-run, ok_both}
use Rattle.search_run.proofs.SeenLemmas.{items-grown, seen_longer}
use Rattle.search_run.proofs.StoppedRuns.{import-stopped, joined-stopped, stops-either}
use Rattle.search_run.proofs.run_beside.run_import.Goals as goal

pub returns-clause-ran : goal.returns-clause-ran
returns-clause-ran g c = λ files told.
    ok_both c.join-outcome.result _ _ _ c.join-outcome.ensures.joined c.join-outcome.ensures.answered (λ r j counted. λ start done before first h.
    let at = c.args.searchers.now in
    let now = c.import_beside-joined.new.searchers in
    let ended = c.import_beside-joined.result.ended in
    let publisher = ended.importer.owned.publisher in
    let own = kept_report c.args.state ++ import_line_text c.args.line c.args.source in
    let wrote = c.in-Ok.ensures.written (before ++ h.run.text) h.run.written_is in
    let answered = subst (λ a. IfOk a (λ count. HasAnsweredAll (HaveSeen at.own at.block.items) c.into_version-held.result.number c.args.session.now (take count c.args.rest.now) (HaveSeen now.own now.block.items) c.import_beside-joined.new.session ((before ++ h.run.text) ++ own) (g.K.Sink.written c.import_beside-joined.new.out))) counted (c.import_beside-joined.ensures.answered ((before ++ h.run.text) ++ own) wrote) in
    let ends = subst (λ (report : Result Report NoMemory). IfOk report (EndsWith files c.in-Ok.begun.0 c.args.importer.owned.publisher.log publisher.log (g.F.Folder.faults c.args.importer.folder) (g.F.Folder.faults ended.importer.folder))) j.report_is (c.import_beside-joined.ensures.ended.ends files told) in
    joined-run files c.args.batch c.args.line c.args.source c.in-Ok.begun.0 c.args.state r.0 c.args.importer.owned.publisher.log publisher.log first (g.F.Folder.faults c.args.importer.folder) (g.F.Folder.faults ended.importer.folder) j.told c.in-Ok.ensures.job ends start done (take r.1 c.args.rest.now) c.args.session.now c.import_beside-joined.new.session before _ _ (HaveSeen at.own at.block.items) (HaveSeen now.own now.block.items) c.into_version-held.result.number h
    (c.into_version-held.ensures.number ∙ c.requires.stands.version) answered c.join-outcome.ensures.seen (record { told = j.told; report_is = refl; version = j.version; games = j.games; waiting = j.waiting }))

pub returns-clause-stands : goal.returns-clause-stands
returns-clause-stands g c =
    let ended = c.import_beside-joined.ensures.ended in
    let publisher = c.import_beside-joined.result.ended.importer.owned.publisher in
    ok_both c.join-outcome.result _ _ _ c.join-outcome.ensures.joined c.join-outcome.ensures.own (λ r j own. record {
      opened = ended.opened ∙ c.requires.stands.opened;
      idle = subst (λ (report : Result Report NoMemory). IfOk report (λ told. IsIdle publisher)) j.report_is ended.idle;
      merged = subst (λ (report : Result Report NoMemory). IfOk report (λ told. AreMerged publisher.parts)) j.report_is ended.merged;
      limits = ended.limits;
      own_seen = own;
      version = j.version;
      games = j.games;
    })

pub returns-in-Err-clause-stopped : goal.returns-in-Err-clause-stopped
returns-in-Err-clause-stopped g c = λ files told. λ start done before first h.
    let part = c.in-Err.ensures.part (before ++ h.run.text) h.run.written_is in
    import-stopped (beside_rules c.args.batch) files start c.args.session.now done c.args.state c.args.importer.owned.publisher.log before _ _ first _ h c.args.line c.args.source c.args.rest.now part.0 part.1 part.2

pub returns-clause-stopped : goal.returns-clause-stopped
returns-clause-stopped g c = λ files told.
    after_error c.join-outcome.result _ (λ start done before first h.
    let at = c.args.searchers.now in
    let now = c.import_beside-joined.new.searchers in
    let ended = c.import_beside-joined.result.ended in
    let publisher = ended.importer.owned.publisher in
    let written = (before ++ h.run.text) ++ (kept_report c.args.state ++ import_line_text c.args.line c.args.source) in
    let wrote = c.in-Ok.ensures.written (before ++ h.run.text) h.run.written_is in
    let stop = stops-either c.import_beside-joined.result.answered c.args.batch (HaveSeen at.own at.block.items) (HaveSeen now.own now.block.items) c.into_version-held.result.number c.args.session.now c.import_beside-joined.new.session c.args.rest.now written _
    (c.import_beside-joined.ensures.answered written wrote) (c.import_beside-joined.ensures.stopped written wrote) in
    joined-stopped files c.args.batch c.args.line c.args.source c.in-Ok.begun.0 c.args.state c.args.importer.owned.publisher.log publisher.log first (g.F.Folder.faults c.args.importer.folder) (g.F.Folder.faults ended.importer.folder) c.in-Ok.ensures.job (c.import_beside-joined.ensures.ended.first files told) start done c.args.rest.now c.args.session.now before _ _ (HaveSeen at.own at.block.items) (HaveSeen now.own now.block.items) c.into_version-held.result.number h
    (c.into_version-held.ensures.number ∙ c.requires.stands.version) stop (λ whole longer. seen_longer now.own now.block.items publisher.log whole longer c.join-outcome.ensures.seen))

pub import_beside-joined-requires-clause-fit : goal.import_beside-joined-requires-clause-fit
import_beside-joined-requires-clause-fit g c = λ lifetimes bounds.
    subst (λ games. WatchesFit games c.args.session.now) (c.requires.stands.games ∙ ap items_in (sym c.requires.stands.own_seen)) c.requires.fit

pub returns-clause-fit : goal.returns-clause-fit
returns-clause-fit g c =
    ok_both c.join-outcome.result _ _ _ c.join-outcome.ensures.joined c.join-outcome.ensures.answered (λ r j counted.
    let seen = c.import_beside-joined.new.searchers.own.seen in
    let session = c.import_beside-joined.new.session in
    let log = c.import_beside-joined.result.ended.importer.owned.publisher.log in
    let fit = subst (λ a. IfOk a (λ count. WatchesFit (items_in seen) session)) counted c.import_beside-joined.ensures.fit in
    subst (λ games. WatchesFit games session) (sym j.games) (fit-grown (items_in seen) (items_in log) session (items-grown seen log c.join-outcome.ensures.seen.own_seen) fit))
