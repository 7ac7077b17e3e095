use Rattle.std.proofs.Common.{◌≡◌, ◌∙◌, ℕ, List, ap, arith, length, replicate}
use Rattle.std.specs.Prelude.{slice_index}
use Rattle.std.proofs.lemmas.List.{get_or-replicate, length-replicate}
use Rattle.opening_tree.proofs.KeyTables.{table-none}
use Rattle.opening_tree.proofs.keys.Keys.new.Goals as goal

pub invariant_of-result : goal.invariant_of-result
invariant_of-result c =
    let heads = c.in_ok-heads.heads.items in
    let is : ◌≡◌ {A = List ℕ} heads (replicate 64 0) = c.in_ok-heads.ensures.items_if_clones_equal (λ y e. e) in
    let long : length heads ≡ 64 = ap length is ∙ length-replicate {A = ℕ} 64 0 in
    table-none c.args.width c.new.result.items c.new-2.result.items heads c.new.ensures.items c.new-2.ensures.items (omega (arith, long))
    (λ b lt. ap (λ (xs : List ℕ). slice_index xs b) is ∙ get_or-replicate 64 b 0 0 (omega (arith, lt, long)))
