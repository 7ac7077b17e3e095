use Rattle.std.proofs.Common.{◌≡◌, ◌∙◌, [], ◌∷◌, ◌++◌, append_assoc, ap, arith, refl, rules, sym}
use Rattle.std.proofs.lemmas.Grind.{common_steps}
use Rattle.std.proofs.lemmas.Iterator.Adapters.{YieldsList-from_vec}
use Rattle.std.proofs.lemmas.Iterator.Consumers.{YieldsList-end}
use Rattle.std.proofs.lemmas.List.{map-id, map_push}
use Rattle.std.proofs.lemmas.Result.{IfOk-weaker}
use Rattle.import_work.specs.Pieces.{group_texts}
use Rattle.import_work.specs.Reads.{file_text, file_texts}
use Rattle.import_work.proofs.pieces.grouped.Goals as goal

pub loop-file-init : goal.loop-file-init
loop-file-init c = record {
  few = rw c.new-groups.ensures.items (omega arith);
  files = rw (c.new-groups.ensures.items, c.new-group.ensures.items) refl;
}

pub loop-file-preserved : goal.loop-file-preserved
loop-file-preserved c =
    let groups = c.loop-file.groups.items in
    let group = c.loop-file.group.items in
    let file = c.in-Some.file in record {
      few = c.in_ok-close_if_full.ensures.few;
      files = c.in_ok-close_if_full.ensures.files
          ∙ ap (λ fs. group_texts groups ++ file_texts fs) c.in_ok-push.ensures.items
          ∙ ap (λ ts. group_texts groups ++ ts) (map_push file_text group file)
          ∙ sym (append_assoc (group_texts groups) (file_texts group) (file_text file ∷ []))
          ∙ ap (λ ts. ts ++ file_text file ∷ []) c.loop-file.invariant.files
          ∙ sym (map_push file_text c.loop-file.yielded file);
    }

pub returns-clause-files : goal.returns-clause-files
returns-clause-files c =
    let all : c.loop-file.yielded ≡ c.args.files.items = sym (map-id c.loop-file.yielded) ∙ (YieldsList-end (YieldsList-from_vec {s = c.into_iter-file-iterator.result} c.args.files.items (first_of (search rules, grind (arith, common_steps))) (first_of (search rules, grind (arith, common_steps)))) c.loop-file.yielded c.loop-file.file-iterator c.loop-file.yielded_by c.next.result c.next.new.self c.in-None.is c.next.ensures.steps).0 in
    IfOk-weaker c.with_last.result _ _ (λ groups is. is ∙ c.loop-file.invariant.files ∙ ap file_texts all) c.with_last.ensures.files
