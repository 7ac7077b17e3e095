use Rattle.std.proofs.Common.{◌++◌, [], ◌∷◌, length, refl, ◌∙◌, ap, arith}
use Rattle.std.proofs.lemmas.List.{length-append}
use Rattle.capture_board.proofs.StoredDeltas.{count_fits, parent_fits, stored_push, shown_push}
use Rattle.capture_board.proofs.deltas.NodeDeltas.push.Goals as goal

pub overflow_cast-end : goal.overflow_cast-end
overflow_cast-end c =
    omega (
      arith,
      c.len-end.ensures,
      c.append.new.all.ok.0,
      ap length c.in_ok-append.ensures.ok,
      length-append c.self.inside.changes.items c.args.changes.now,
      count_fits _ _ _ _ _ c.args.parent c.self.view_is c.self.invariant c.requires.room c.requires.parent c.requires.changes,
    )

pub overflow_cast-unwrap_or : goal.overflow_cast-unwrap_or
overflow_cast-unwrap_or c =
    omega (arith, c.unwrap_or.ensures, parent_fits _ _ _ _ _ c.args.parent c.self.view_is c.self.invariant c.requires.room c.requires.parent c.requires.changes c.args.parent refl)

pub invariant_of-self-2 : goal.invariant_of-self-2
invariant_of-self-2 c =
    stored_push _ _ _ _ _ c.args.parent c.self.view_is c.self.invariant c.requires.room c.requires.parent c.requires.changes _ _ c.new-node.result
    (c.in_ok-push.ensures.items ∙ ap (λ ts. ts ++ c.new-node.result ∷ []) c.reserve.ensures.items)
    c.in_ok-append.ensures.ok (c.new-node.ensures.parent ∙ c.unwrap_or.ensures) (c.new-node.ensures.end ∙ c.len-end.ensures ∙ c.append.new.all.ok.0)

pub returns-clause-ok : goal.returns-clause-ok
returns-clause-ok c =
    shown_push _ _ _ _ _ c.args.parent c.self.view_is c.self.invariant c.requires.room c.requires.parent c.requires.changes _ _ c.new-node.result
    (c.in_ok-push.ensures.items ∙ ap (λ ts. ts ++ c.new-node.result ∷ []) c.reserve.ensures.items)
    c.in_ok-append.ensures.ok (c.new-node.ensures.parent ∙ c.unwrap_or.ensures) (c.new-node.ensures.end ∙ c.len-end.ensures ∙ c.append.new.all.ok.0)
