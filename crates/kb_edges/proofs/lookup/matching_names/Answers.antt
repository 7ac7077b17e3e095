use Rattle.std.proofs.Common.{◌≡◌, ◌<◌, ◌++◌, ◌∷◌, [], true, false, length, ◌∙◌, ap, rules, arith}
use Rattle.std.specs.Prelude.{map}
use Rattle.std.specs.String.{string_bytes}
use Rattle.kb_edges.specs.Entries.{file_of}
use Rattle.kb_edges.proofs.Listings.{is_listed, listed_kept, listed_pushed}
use Rattle.kb_edges.proofs.lookup.matching_names.Goals as goal
use Rattle.kb_edges.proofs.lookup.matching_names.Goals.{then-is_listed+in_ok-from_str+in_ok-push, else-is_listed}

pub loop-file-preserved : goal.loop-file-preserved
loop-file-preserved c =
    let below : c.loop-file.file-index < length c.args.files.now = omega arith in
    elim c.if-is_listed.branch [
      | then-is_listed+in_ok-from_str+in_ok-push w ↦
          let test : is_listed c.args.path.now (file_of c.file-item.result) ≡ true = search rules in
          let items : c.if-is_listed.names.items ≡ c.loop-file.names.items ++ w.in_ok-from_str.field-0 ∷ [] = search rules in
          let same : string_bytes w.in_ok-from_str.field-0 ≡ string_bytes c.file-item.result.name = search rules in
          ap (map string_bytes) items
          ∙ listed_pushed c.args.files.now c.args.path.now c.loop-file.file-index c.file-item.result c.loop-file.names.items w.in_ok-from_str.field-0
          below c.file-item.is test same c.loop-file.invariant
      | else-is_listed w ↦
          let test : is_listed c.args.path.now (file_of c.file-item.result) ≡ false = search rules in
          ap (λ names. map string_bytes names.items) w.names-is
          ∙ listed_kept c.args.files.now c.args.path.now c.loop-file.file-index c.file-item.result (map string_bytes c.loop-file.names.items)
          below c.file-item.is test c.loop-file.invariant
    ]
