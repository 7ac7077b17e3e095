use Rattle.std.proofs.Common.{◌≡◌, ◌∷◌, [], ◌++◌, true, subst, sym, rules}
use Rattle.std.specs.Prelude.{All, map}
use Rattle.std.specs.String.{string_bytes}
use Rattle.kb_edges.specs.Files.{IsSgfName, is_sgf_name}
use Rattle.kb_edges.proofs.Listings.{All-among, sgf_pushed}
use Rattle.kb_edges.proofs.real_folder.names_in.Goals as goal
use Rattle.kb_edges.proofs.real_folder.names_in.Goals.{then-is_sgf_name+in_ok-from_str+in_ok-push, else-is_sgf_name}

pub loop-entry-preserved : goal.loop-entry-preserved
loop-entry-preserved g c =
    elim c.if-is_sgf_name.branch [
      | then-is_sgf_name+in_ok-from_str+in_ok-push w ↦
          let test : is_sgf_name (string_bytes w.in_ok-from_str.field-0) ≡ true = search rules in
          let items : c.if-is_sgf_name.names.items ≡ c.loop-entry.names.items ++ w.in_ok-from_str.field-0 ∷ [] = search rules in
          subst (λ names. All IsSgfName (map string_bytes names)) (sym items)
          (sgf_pushed c.loop-entry.names.items w.in_ok-from_str.field-0 test c.loop-entry.invariant)
      | else-is_sgf_name w ↦
          subst (λ names. All IsSgfName (map string_bytes names.items)) (sym w.names-is) c.loop-entry.invariant
    ]

pub returns-clause-sgf : goal.returns-clause-sgf
returns-clause-sgf g c =
    All-among IsSgfName (map string_bytes c.loop-entry.names.items) (map string_bytes c.sort_names.new.names.items) c.sort_names.ensures.none_added c.loop-entry.invariant
