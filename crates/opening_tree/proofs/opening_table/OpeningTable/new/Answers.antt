use Rattle.std.proofs.Common.{◌∙◌, ℕ, List, ap, length, sym}
use Rattle.opening_tree.specs.OpeningTables.{lists_of, stored_in}
use Rattle.opening_tree.proofs.opening_table.OpeningTable.new.Goals as goal

pub invariant_of-result : goal.invariant_of-result
invariant_of-result c = record {
  are_rows = c.new-3.ensures.are;
  counted = ap length c.new-2.ensures.items ∙ sym (ap length c.in_ok-keys.ensures.none);
  listed = c.new-3.ensures.none ∙ sym (ap length c.in_ok-keys.ensures.none);
}

pub returns-clause-none : goal.returns-clause-none
returns-clause-none c = ap (λ (ks : List (List ℕ)). stored_in ks c.new-2.result.items (lists_of c.new-3.result)) c.in_ok-keys.ensures.none
