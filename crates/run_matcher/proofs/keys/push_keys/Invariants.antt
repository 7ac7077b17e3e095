use Rattle.std.proofs.Common.{◌≡◌, ◌++◌, map, take}
use Rattle.run_matcher.specs.Keys.{end_number, key_of}
use Rattle.run_matcher.proofs.keys.push_keys.Given as goal

-- the nodes so far
abbrev pub invariant-loop-node : goal.invariant-loop-node
invariant-loop-node l = l.keys.items ≡ l.fn.keys.items ++ map (key_of l.placement (end_number l.holds)) (take l.node-index l.nodes)
