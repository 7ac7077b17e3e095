use Rattle.std.proofs.Common.{◌≡◌, ℕ, ◌+◌, ◌<◌, List, [], ◌++◌, ◌∷◌, length, set, None, Some, refl, sym, subst, ◌∙◌, ap, arith, IfSome}
use Rattle.std.proofs.lemmas.List.{length_push}
use Rattle.std.proofs.lemmas.Option.{same_Some}
use mir.Val.{bool_byte}
use Rattle.node_paths.proofs.Ancestors.{parent-lt}
use Rattle.kb_geometry.specs.declared.shape.Point.{Point}
use Rattle.kb_geometry.specs.Board.{IsOnBoard}
use Rattle.game_tree.specs.declared.node.Move.{Move}
use Rattle.game_tree.specs.declared.stored.TreeNode.{TreeNode}
use Rattle.game_tree.specs.Built.{Built, IsNextParent, tree_so_far, with_node}
use Rattle.game_tree.specs.Stored.{IsBeginning, tree_node, shown_built}
use Rattle.game_tree.specs.Tree.{parent_of, next_sibling_of}
use Rattle.game_tree.proofs.Growth.{main-longer, main-same}
use Rattle.game_tree.proofs.Paths.{move_number-le}
use Rattle.game_tree.proofs.StoredBuilds.{count_built}
use Rattle.game_tree.proofs.StoredGrowth.{LooksSame, moves_below, shown_built-push, shown_built-set, IsBeginning-first, IsBeginning-later}
use Rattle.game_tree.proofs.StoredTrees.{length-shown, node_read}
use Rattle.game_tree.proofs.builder.TreeBuilder.add_child.Goals as goal

pub index-requires : goal.index-requires
index-requires c = omega (arith, c.requires.parent.0, c.from.ensures, c.self.inside.nodes.ok.0, count_built _ _ _ _ _ c.self.view_is c.self.invariant)

pub overflow_add-above : goal.overflow_add-above
overflow_add-above c =
    let count = count_built _ _ _ _ _ c.self.view_is c.self.invariant in
    let moves = moves_below c.self.inside.shape c.self.inside.nodes.items c.self.inside.setups.items c.self.inside.main_line c.self.invariant c.args.parent c.from.result c.index.result.now c.from-2.result (omega (arith, c.requires.parent.0, count)) c.from.ensures c.index.ensures
    (c.from-2.ensures ∙ ap (λ t. bool_byte t) c.is_some.ensures) in
    omega (arith, moves, move_number-le (tree_so_far (shown_built c.self.inside.shape c.self.inside.nodes.items c.self.inside.setups.items)) c.self.invariant.grown c.args.parent, c.requires.parent.0, c.requires.room)

pub overflow_cast-number : goal.overflow_cast-number
overflow_cast-number c = omega (arith, c.requires.room, c.len-number.ensures, c.self.inside.nodes.ok.0, count_built _ _ _ _ _ c.self.view_is c.self.invariant)

pub index_mut-requires : goal.index_mut-requires
index_mut-requires c =
    omega (arith, c.in-Some.ensures.some.0, count_built _ _ _ _ _ c.self.view_is c.self.invariant, c.push.new.self.ok.0, ap length c.in_ok-push.ensures.items, length_push c.self.inside.nodes.items (record { setups_end = c.len.result; parent = c.args.parent; next_sibling = 0; moves_above = c.index.result.now.moves_above + c.from-2.result; played = c.args.played }))

pub invariant_of-self-in-Some : goal.invariant_of-self-in-Some
invariant_of-self-in-Some c =
    let ts = c.self.inside.nodes.items in
    let ss = c.self.inside.setups.items in
    let shape = c.self.inside.shape in
    let b : Built = shown_built shape ts ss in
    let x : TreeNode = record { setups_end = c.len.result; parent = c.args.parent; next_sibling = 0; moves_above = c.index.result.now.moves_above + c.from-2.result; played = c.args.played } in
    let next : IsNextParent b (Some c.args.parent) = subst (λ (d : Built). IsNextParent d (Some c.args.parent)) (sym c.self.view_is) c.requires.parent in
    let ending = c.len.ensures ∙ c.self.inside.setups.ok.0 in
    let count = count_built _ _ _ _ _ c.self.view_is c.self.invariant in
    let on = subst (λ (d : Built). IfSome c.args.played (λ (m : Move). IfSome m.point (λ (p : Point). IsOnBoard d.shape p))) (sym c.self.view_is) c.requires.on_board in
    let moves = moves_below shape ts ss c.self.inside.main_line c.self.invariant c.args.parent c.from.result c.index.result.now c.from-2.result (omega (arith, c.requires.parent.0, count)) c.from.ensures c.index.ensures
    (c.from-2.ensures ∙ ap (λ t. bool_byte t) c.is_some.ensures) in
    let same_parent : (m : ℕ) → Some c.args.parent ≡ Some m → c.args.parent ≡ m = λ m e. same_Some c.args.parent m e in
    let found = subst (λ (d : Built). (c.in-Some.sibling < length d.nodes) × (parent_of (tree_so_far d) c.in-Some.sibling ≡ Some c.args.parent) × (next_sibling_of (tree_so_far d) c.in-Some.sibling ≡ None)) (sym c.self.view_is) c.in-Some.ensures.some in
    let node = node_read c.push.new.self.items c.in-Some.sibling c.index_mut.result.now (omega (arith, ap length c.in_ok-push.ensures.items, length_push ts x, found.0, length-shown ts ss)) c.index_mut.ensures.value ∙ ap (λ (us : List TreeNode). tree_node us c.in-Some.sibling) c.in_ok-push.ensures.items in
    let y : TreeNode = record { setups_end = c.index_mut.result.now.setups_end; parent = c.index_mut.result.now.parent; next_sibling = c.len-number.result; moves_above = c.index_mut.result.now.moves_above; played = c.index_mut.result.now.played } in
    let looks : LooksSame y (tree_node (ts ++ x ∷ []) c.in-Some.sibling) = record { parent = ap (λ (t : TreeNode). t.parent) node; setups_end = ap (λ (t : TreeNode). t.setups_end) node; played = ap (λ (t : TreeNode). t.played) node } in
    let number = c.len-number.ensures ∙ c.self.inside.nodes.ok.0 in
    let end = main-same b (Some c.args.parent) c.args.played c.self.invariant.grown next c.self.inside.main_line c.self.invariant.links.main_end c.args.parent refl
    (λ behind. absurd (omega (arith, behind, found.0, parent-lt c.self.invariant.grown.parents c.in-Some.sibling c.args.parent found.1))) in
    subst (λ (us : List TreeNode). IsBeginning shape (set us c.in-Some.sibling y) ss c.self.inside.main_line) (sym c.in_ok-push.ensures.items)
    (IsBeginning-later shape ts ss x (Some c.args.parent) next same_parent ending c.self.invariant.ends c.self.inside.main_line c.self.invariant refl (omega (arith, c.requires.room, count)) on moves
    c.in-Some.sibling c.args.parent (omega (arith, found.0, length-shown ts ss)) refl found.1 found.2 y looks (ap (λ (t : TreeNode). t.moves_above) node) number c.self.inside.main_line end)

pub invariant_of-self-then-self-number : goal.invariant_of-self-then-self-number
invariant_of-self-then-self-number c =
    let ts = c.self.inside.nodes.items in
    let ss = c.self.inside.setups.items in
    let shape = c.self.inside.shape in
    let b : Built = shown_built shape ts ss in
    let x : TreeNode = record { setups_end = c.len.result; parent = c.args.parent; next_sibling = 0; moves_above = c.index.result.now.moves_above + c.from-2.result; played = c.args.played } in
    let next : IsNextParent b (Some c.args.parent) = subst (λ (d : Built). IsNextParent d (Some c.args.parent)) (sym c.self.view_is) c.requires.parent in
    let ending = c.len.ensures ∙ c.self.inside.setups.ok.0 in
    let count = count_built _ _ _ _ _ c.self.view_is c.self.invariant in
    let on = subst (λ (d : Built). IfSome c.args.played (λ (m : Move). IfSome m.point (λ (p : Point). IsOnBoard d.shape p))) (sym c.self.view_is) c.requires.on_board in
    let moves = moves_below shape ts ss c.self.inside.main_line c.self.invariant c.args.parent c.from.result c.index.result.now c.from-2.result (omega (arith, c.requires.parent.0, count)) c.from.ensures c.index.ensures
    (c.from-2.ensures ∙ ap (λ t. bool_byte t) c.is_some.ensures) in
    let same_parent : (m : ℕ) → Some c.args.parent ≡ Some m → c.args.parent ≡ m = λ m e. same_Some c.args.parent m e in
    let shown = length-shown ts ss in
    let behind : c.args.parent + 1 ≡ length ts = c.in-None.ensures.none refl ∙ count in
    let number : c.len-number.result ≡ length ts = c.len-number.ensures ∙ c.self.inside.nodes.ok.0 in
    let end = main-longer b (Some c.args.parent) c.args.played c.self.invariant.grown next c.self.inside.main_line c.self.invariant.links.main_end c.args.parent refl
    (omega (arith, behind, shown)) (omega (arith, c.if-self-number.true, number, shown)) in
    let after : length b.nodes + 1 ≡ c.len-number.result + 1 = omega (arith, number, shown) in
    subst (λ (us : List TreeNode). IsBeginning shape us ss (c.len-number.result + 1)) (sym c.in_ok-push.ensures.items)
    (subst (λ (main : ℕ). IsBeginning shape (ts ++ x ∷ []) ss main) after
    (IsBeginning-first shape ts ss x (Some c.args.parent) next same_parent ending c.self.invariant.ends c.self.inside.main_line c.self.invariant refl (omega (arith, c.requires.room, count)) on moves
    (λ m e. omega (arith, behind, same_parent m e)) (length b.nodes + 1) end))

pub invariant_of-self-else-self-number : goal.invariant_of-self-else-self-number
invariant_of-self-else-self-number c =
    let ts = c.self.inside.nodes.items in
    let ss = c.self.inside.setups.items in
    let shape = c.self.inside.shape in
    let b : Built = shown_built shape ts ss in
    let x : TreeNode = record { setups_end = c.len.result; parent = c.args.parent; next_sibling = 0; moves_above = c.index.result.now.moves_above + c.from-2.result; played = c.args.played } in
    let next : IsNextParent b (Some c.args.parent) = subst (λ (d : Built). IsNextParent d (Some c.args.parent)) (sym c.self.view_is) c.requires.parent in
    let ending = c.len.ensures ∙ c.self.inside.setups.ok.0 in
    let count = count_built _ _ _ _ _ c.self.view_is c.self.invariant in
    let on = subst (λ (d : Built). IfSome c.args.played (λ (m : Move). IfSome m.point (λ (p : Point). IsOnBoard d.shape p))) (sym c.self.view_is) c.requires.on_board in
    let moves = moves_below shape ts ss c.self.inside.main_line c.self.invariant c.args.parent c.from.result c.index.result.now c.from-2.result (omega (arith, c.requires.parent.0, count)) c.from.ensures c.index.ensures
    (c.from-2.ensures ∙ ap (λ t. bool_byte t) c.is_some.ensures) in
    let same_parent : (m : ℕ) → Some c.args.parent ≡ Some m → c.args.parent ≡ m = λ m e. same_Some c.args.parent m e in
    let shown = length-shown ts ss in
    let behind : c.args.parent + 1 ≡ length ts = c.in-None.ensures.none refl ∙ count in
    let number : c.len-number.result ≡ length ts = c.len-number.ensures ∙ c.self.inside.nodes.ok.0 in
    let end = main-same b (Some c.args.parent) c.args.played c.self.invariant.grown next c.self.inside.main_line c.self.invariant.links.main_end c.args.parent refl
    (λ _ e. c.if-self-number.false (e ∙ shown ∙ sym number)) in
    subst (λ (us : List TreeNode). IsBeginning shape us ss c.self.inside.main_line) (sym c.in_ok-push.ensures.items)
    (IsBeginning-first shape ts ss x (Some c.args.parent) next same_parent ending c.self.invariant.ends c.self.inside.main_line c.self.invariant refl (omega (arith, c.requires.room, count)) on moves
    (λ m e. omega (arith, behind, same_parent m e)) c.self.inside.main_line end)

pub returns-in-Some-clause-ok : goal.returns-in-Some-clause-ok
returns-in-Some-clause-ok c =
    let ts = c.self.inside.nodes.items in
    let ss = c.self.inside.setups.items in
    let shape = c.self.inside.shape in
    let b : Built = shown_built shape ts ss in
    let x : TreeNode = record { setups_end = c.len.result; parent = c.args.parent; next_sibling = 0; moves_above = c.index.result.now.moves_above + c.from-2.result; played = c.args.played } in
    let next : IsNextParent b (Some c.args.parent) = subst (λ (d : Built). IsNextParent d (Some c.args.parent)) (sym c.self.view_is) c.requires.parent in
    let ending = c.len.ensures ∙ c.self.inside.setups.ok.0 in
    let count = count_built _ _ _ _ _ c.self.view_is c.self.invariant in
    let on = subst (λ (d : Built). IfSome c.args.played (λ (m : Move). IfSome m.point (λ (p : Point). IsOnBoard d.shape p))) (sym c.self.view_is) c.requires.on_board in
    let moves = moves_below shape ts ss c.self.inside.main_line c.self.invariant c.args.parent c.from.result c.index.result.now c.from-2.result (omega (arith, c.requires.parent.0, count)) c.from.ensures c.index.ensures
    (c.from-2.ensures ∙ ap (λ t. bool_byte t) c.is_some.ensures) in
    let same_parent : (m : ℕ) → Some c.args.parent ≡ Some m → c.args.parent ≡ m = λ m e. same_Some c.args.parent m e in
    let found = subst (λ (d : Built). (c.in-Some.sibling < length d.nodes) × (parent_of (tree_so_far d) c.in-Some.sibling ≡ Some c.args.parent) × (next_sibling_of (tree_so_far d) c.in-Some.sibling ≡ None)) (sym c.self.view_is) c.in-Some.ensures.some in
    let node = node_read c.push.new.self.items c.in-Some.sibling c.index_mut.result.now (omega (arith, ap length c.in_ok-push.ensures.items, length_push ts x, found.0, length-shown ts ss)) c.index_mut.ensures.value ∙ ap (λ (us : List TreeNode). tree_node us c.in-Some.sibling) c.in_ok-push.ensures.items in
    let y : TreeNode = record { setups_end = c.index_mut.result.now.setups_end; parent = c.index_mut.result.now.parent; next_sibling = c.len-number.result; moves_above = c.index_mut.result.now.moves_above; played = c.index_mut.result.now.played } in
    let looks : LooksSame y (tree_node (ts ++ x ∷ []) c.in-Some.sibling) = record { parent = ap (λ (t : TreeNode). t.parent) node; setups_end = ap (λ (t : TreeNode). t.setups_end) node; played = ap (λ (t : TreeNode). t.played) node } in
    let number = c.len-number.ensures ∙ c.self.inside.nodes.ok.0 in
    ap (λ (us : List TreeNode). shown_built shape (set us c.in-Some.sibling y) ss) c.in_ok-push.ensures.items
    ∙ shown_built-set shape ts ss x (Some c.args.parent) next same_parent ending c.self.invariant.ends c.self.inside.main_line c.self.invariant refl (omega (arith, c.requires.room, count)) on moves
    c.in-Some.sibling c.args.parent (omega (arith, found.0, length-shown ts ss)) refl found.1 found.2 y looks (ap (λ (t : TreeNode). t.moves_above) node) number
    ∙ ap (λ (d : Built). with_node d (Some c.args.parent) c.args.played) c.self.view_is

pub returns-then-self-number-clause-ok : goal.returns-then-self-number-clause-ok
returns-then-self-number-clause-ok c =
    let ts = c.self.inside.nodes.items in
    let ss = c.self.inside.setups.items in
    let shape = c.self.inside.shape in
    let b : Built = shown_built shape ts ss in
    let x : TreeNode = record { setups_end = c.len.result; parent = c.args.parent; next_sibling = 0; moves_above = c.index.result.now.moves_above + c.from-2.result; played = c.args.played } in
    let next : IsNextParent b (Some c.args.parent) = subst (λ (d : Built). IsNextParent d (Some c.args.parent)) (sym c.self.view_is) c.requires.parent in
    let ending = c.len.ensures ∙ c.self.inside.setups.ok.0 in
    ap (λ (us : List TreeNode). shown_built shape us ss) c.in_ok-push.ensures.items
    ∙ shown_built-push shape ts ss x (Some c.args.parent) next (λ m e. same_Some c.args.parent m e) ending c.self.invariant.ends
    ∙ ap (λ (d : Built). with_node d (Some c.args.parent) c.args.played) c.self.view_is

pub returns-else-self-number-clause-ok : goal.returns-else-self-number-clause-ok
returns-else-self-number-clause-ok c =
    let ts = c.self.inside.nodes.items in
    let ss = c.self.inside.setups.items in
    let shape = c.self.inside.shape in
    let b : Built = shown_built shape ts ss in
    let x : TreeNode = record { setups_end = c.len.result; parent = c.args.parent; next_sibling = 0; moves_above = c.index.result.now.moves_above + c.from-2.result; played = c.args.played } in
    let next : IsNextParent b (Some c.args.parent) = subst (λ (d : Built). IsNextParent d (Some c.args.parent)) (sym c.self.view_is) c.requires.parent in
    let ending = c.len.ensures ∙ c.self.inside.setups.ok.0 in
    ap (λ (us : List TreeNode). shown_built shape us ss) c.in_ok-push.ensures.items
    ∙ shown_built-push shape ts ss x (Some c.args.parent) next (λ m e. same_Some c.args.parent m e) ending c.self.invariant.ends
    ∙ ap (λ (d : Built). with_node d (Some c.args.parent) c.args.played) c.self.view_is
