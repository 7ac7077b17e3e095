use Rattle.std.proofs.Common.{List, arith, rules, get_or, subst, sym}
use Rattle.std.proofs.lemmas.Grind.{common_steps}
use Rattle.std.proofs.lemmas.Result.{IfOk-weaker}
use Rattle.std.specs.Global.{Global}
use Rattle.std.specs.Prelude.{Vec}
use Rattle.import_work.specs.Judged.{AreFoundPieces}
use Rattle.import_work.specs.Reads.{FileText, file_texts}
use Rattle.import_work.specs.declared.read.ReadFile.{ReadFile}
use Rattle.import_work.specs.Pieces.{ArePieces, IsPieceFor}
use Rattle.import_work.proofs.FoundPieces.{pieces_found}
use Rattle.import_work.proofs.pieces.found_files.Goals as goal

pub returns : goal.returns
returns g c =
    let pieces = c.in_ok-pieces.pieces.items in
    let groups = c.in_ok-groups.groups.items in
    let told : Vec ReadFile Global → List FileText = λ (group : Vec ReadFile Global). file_texts group.items in
    let are : ArePieces told AreFoundPieces groups pieces = record {
      all = first_of (search rules, grind (arith, common_steps));
      each = λ n v d lt.
          let given = (c.in_ok-pieces.ensures.each n d lt).1 in
          subst (λ group. IsPieceFor told AreFoundPieces group (get_or pieces n d)) (sym (given.job_is v)) (let called = given.call in search rules);
    } in
    IfOk-weaker c.joined.result _ _ (λ found joined. pieces_found groups pieces _ found.items c.in_ok-groups.ensures.files are joined) c.joined.ensures
