use Rattle.std.proofs.Common.{◌≡◌, ◌∙◌, arith, rules, subst, sym}
use Rattle.std.proofs.lemmas.Grind.{common_steps}
use Rattle.std.proofs.lemmas.Iterator.Adapters.{YieldsList-from_vec}
use Rattle.std.proofs.lemmas.Iterator.Consumers.{YieldsList-end}
use Rattle.std.proofs.lemmas.List.{map-id}
use Rattle.import_work.specs.Judged.{AreFoundFiles}
use Rattle.import_work.specs.Reads.{file_texts}
use Rattle.import_work.proofs.FoundPieces.{found-more}
use Rattle.import_work.proofs.pieces.found_each.Goals as goal

pub loop-file-init : goal.loop-file-init
loop-file-init c = rw c.in_ok-found.ensures.items tt

pub loop-file-preserved : goal.loop-file-preserved
loop-file-preserved c = found-more c.loop-file.yielded c.in-Some.file c.loop-file.found.items c.push.new.self.items _ c.loop-file.invariant c.in_ok-next.ensures c.in_ok-push.ensures.items

pub returns : goal.returns
returns c =
    let all : c.loop-file.yielded ≡ c.args.files.items = sym (map-id c.loop-file.yielded) ∙ (YieldsList-end (YieldsList-from_vec {s = c.into_iter-file-iterator.result} c.args.files.items (first_of (search rules, grind (arith, common_steps))) (first_of (search rules, grind (arith, common_steps)))) c.loop-file.yielded c.loop-file.file-iterator c.loop-file.yielded_by c.next.result c.next.new.self c.in-None.is c.next.ensures.steps).0 in
    subst (λ files. AreFoundFiles (file_texts files) c.loop-file.found.items) all c.loop-file.invariant
