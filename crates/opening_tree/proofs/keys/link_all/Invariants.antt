use Rattle.std.proofs.Common.{◌≡◌, length}
use Rattle.opening_tree.specs.Keys.{AreLinked}
use Rattle.opening_tree.proofs.keys.link_all.Given as goal

abbrev pub invariant-loop-at : goal.invariant-loop-at
invariant-loop-at l = record {
  counted : length l.nexts ≡ length l.fn.nexts;
  some : length l.heads ≡ length l.fn.heads;
  linked : AreLinked l.width l.words (length l.fn.heads) l.nexts l.heads l.at;
}
