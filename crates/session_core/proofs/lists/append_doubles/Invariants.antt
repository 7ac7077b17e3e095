use Rattle.std.proofs.Common.{◌≡◌, ◌++◌, length}
use Rattle.std.specs.List.{flat_map}
use Rattle.query_script.specs.Texts.{doubles_head}
use Rattle.session_core.specs.Doubles.{groups_of}
use Rattle.session_core.specs.Grouping.{entry_of, group_text, keys_with}
use Rattle.session_core.proofs.lists.append_doubles.Given as goal

abbrev pub invariant-loop-key : goal.invariant-loop-key
invariant-loop-key l = record {
  next : (goal.iterator-loop-key).can_next l.key-iterator;
  finite : (goal.iterator-loop-key).is_finite l.key-iterator;
  printed : l.out.items
      ≡ (l.fn.out.items ++ doubles_head l.line l.version.number l.count (length (groups_of (keys_with l.games.items l.forms.items))))
      ++ flat_map (λ p. group_text (entry_of (p.0.now, p.1.now))) l.yielded;
}
