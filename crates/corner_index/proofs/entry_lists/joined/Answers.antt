use Rattle.std.proofs.Common.{◌≡◌, ◌+◌, ◌-◌, ◌<◌, length, get_or, ap, ◌∙◌, arith}
use Rattle.std.proofs.lemmas.List.{get_or_default, length-replicate}
use Rattle.corner_index.proofs.JoinedEntries.{IsJoinedIn-first, IsJoinedIn-second, IsJoinedIn-start, IsJoinedIn-whole, IsJoinedTo-end, first_is_next, second_is_next}
use Rattle.corner_index.proofs.entry_lists.joined.Goals.{then-takes_first, else-takes_first}
use Rattle.corner_index.proofs.entry_lists.joined.Goals as goal

pub loop-at-init : goal.loop-at-init
loop-at-init c = IsJoinedIn-start c.args.a.now.keys.items c.args.a.now.games.items c.args.b.now.keys.items c.args.b.now.games.items c.args.first _ c.in_ok-keys.keys.items c.in_ok-games.games.items
    (ap length (c.in_ok-keys.ensures.items_if_clones_equal (λ y e. e)) ∙ length-replicate _ 0)
    (ap length (c.in_ok-games.ensures.items_if_clones_equal (λ y e. e)) ∙ length-replicate _ 0)

pub loop-at-preserved : goal.loop-at-preserved
loop-at-preserved c =
    let a_most = c.loop-at.invariant.joined.a_most in
    let left : c.loop-at.i + c.loop-at.j < length c.args.a.now.keys.items + length c.args.b.now.keys.items = omega (arith, c.loop-at-test.true, c.loop-at.auto.at-end, c.loop-at.invariant.so_many, c.len.ensures, c.len-2.ensures) in
    elim c.if-takes_first.branch [
      | then-takes_first w ↦
          let (some, least) = first_is_next c.args.a.now.keys.items c.args.b.now.keys.items c.deref.result.now c.deref-in-loop-at.result.now c.loop-at.i c.loop-at.j c.takes_first.result c.deref.ensures.value c.deref-in-loop-at.ensures.value c.takes_first.ensures w.if-takes_first.true in
          let with_game : c.loop-at.i < length c.args.a.now.games.items = omega (arith, some, c.requires.ordered_a.as_many) in
          rw (w.keys-is, w.games-is, w.i-is, w.j-is)
          (IsJoinedIn-first c.args.a.now.keys.items c.args.a.now.games.items c.args.b.now.keys.items c.args.b.now.games.items c.args.first c.requires.ordered_a c.requires.ordered_b c.requires.before c.loop-at.i c.loop-at.j c.loop-at.at _ c.loop-at.keys.items c.loop-at.games.items c.loop-at.invariant (omega (arith, c.loop-at-test.true, c.loop-at.auto.at-end))
          w.index.result.now w.index-then-takes_first.result.now (w.index.ensures ∙ get_or_default c.args.a.now.keys.items c.loop-at.i _ 0 some) (w.index-then-takes_first.ensures ∙ get_or_default c.args.a.now.games.items c.loop-at.i _ 0 with_game) some least)
      | else-takes_first w ↦
          let (some, least) = second_is_next c.args.a.now.keys.items c.args.b.now.keys.items c.deref.result.now c.deref-in-loop-at.result.now c.loop-at.i c.loop-at.j c.takes_first.result c.deref.ensures.value c.deref-in-loop-at.ensures.value c.takes_first.ensures w.if-takes_first.false left a_most in
          let with_game : c.loop-at.j < length c.args.b.now.games.items = omega (arith, some, c.requires.ordered_b.as_many) in
          rw (w.keys-is, w.games-is, w.i-is, w.j-is)
          (IsJoinedIn-second c.args.a.now.keys.items c.args.a.now.games.items c.args.b.now.keys.items c.args.b.now.games.items c.args.first c.requires.ordered_a c.requires.ordered_b c.requires.before c.loop-at.i c.loop-at.j c.loop-at.at _ c.loop-at.keys.items c.loop-at.games.items c.loop-at.invariant (omega (arith, c.loop-at-test.true, c.loop-at.auto.at-end))
          w.index-else-takes_first.result.now (c.args.first + w.index-else-takes_first-2.result.now) (w.index-else-takes_first.ensures ∙ get_or_default c.args.b.now.keys.items c.loop-at.j _ 0 some) (ap (λ n. c.args.first + n) (w.index-else-takes_first-2.ensures ∙ get_or_default c.args.b.now.games.items c.loop-at.j _ 0 with_game)) some least)
    ]

pub overflow_add-first : goal.overflow_add-first
overflow_add-first c =
    let left : c.loop-at.i + c.loop-at.j < length c.args.a.now.keys.items + length c.args.b.now.keys.items = omega (arith, c.loop-at-test.true, c.loop-at.auto.at-end, c.loop-at.invariant.so_many, c.len.ensures, c.len-2.ensures) in
    let (some, least) = second_is_next c.args.a.now.keys.items c.args.b.now.keys.items c.deref.result.now c.deref-in-loop-at.result.now c.loop-at.i c.loop-at.j c.takes_first.result c.deref.ensures.value c.deref-in-loop-at.ensures.value c.takes_first.ensures c.if-takes_first.false left c.loop-at.invariant.joined.a_most in
    let with_game : c.loop-at.j < length c.args.b.now.games.items = omega (arith, some, c.requires.ordered_b.as_many) in
    let small : get_or c.args.b.now.games.items c.loop-at.j 0 < 400000 - c.args.first = c.requires.fits c.loop-at.j with_game in
    let is : c.index-else-takes_first-2.result.now ≡ get_or c.args.b.now.games.items c.loop-at.j 0 = c.index-else-takes_first-2.ensures ∙ get_or_default c.args.b.now.games.items c.loop-at.j _ 0 with_game in
    omega (arith, small, is)

pub returns-clause-exact : goal.returns-clause-exact
returns-clause-exact c =
    let whole = IsJoinedIn-whole c.args.a.now.keys.items c.args.a.now.games.items c.args.b.now.keys.items c.args.b.now.games.items c.args.first c.loop-at.i c.loop-at.j c.loop-at.at _ c.loop-at.keys.items c.loop-at.games.items c.loop-at.invariant (omega arith) in
    IsJoinedTo-end c.args.a.now.keys.items c.args.a.now.games.items c.args.b.now.keys.items c.args.b.now.games.items c.args.first c.loop-at.i c.loop-at.j c.loop-at.keys.items c.loop-at.games.items whole (omega (arith, c.len.ensures, c.len-2.ensures))

pub returns-clause-ordered : goal.returns-clause-ordered
returns-clause-ordered c =
    let whole = IsJoinedIn-whole c.args.a.now.keys.items c.args.a.now.games.items c.args.b.now.keys.items c.args.b.now.games.items c.args.first c.loop-at.i c.loop-at.j c.loop-at.at _ c.loop-at.keys.items c.loop-at.games.items c.loop-at.invariant (omega arith) in
    whole.ordered
