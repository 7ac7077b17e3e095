use Rattle.std.proofs.Common.{arith}
use Rattle.sgf_reader.proofs.FlatLists.{collection-game, collection-has, collection-part, end-bounds, start-bounds}
use Rattle.sgf_reader.proofs.flat.FlatCollection.game.Goals as goal

pub end_before-from-requires : goal.end_before-from-requires
end_before-from-requires c =
    let s = c.self.inside in
    rw c.deref.ensures.value (collection-has s.pairs.items s.nodes.items s.ends.items c.args.self.now c.self.view_is c.args.number c.requires)

pub index-end-requires : goal.index-end-requires
index-end-requires c =
    let s = c.self.inside in
    let here = collection-has s.pairs.items s.nodes.items s.ends.items c.args.self.now c.self.view_is c.args.number c.requires in
    omega (arith, here, s.ends.ok.0)

pub part-requires-clause-within : goal.part-requires-clause-within
part-requires-clause-within c =
    let s = c.self.inside in
    rw (c.start_of-values_end.ensures, c.deref-2.ensures.value, c.deref-3.ensures.value, c.deref-4.ensures.value) ((start-bounds 0 s.nodes.items c.index-end.result.now s.pairs.items c.self.invariant.starts).1)

pub part-requires-2-clause-order : goal.part-requires-2-clause-order
part-requires-2-clause-order c =
    let s = c.self.inside in
    let here = collection-has s.pairs.items s.nodes.items s.ends.items c.args.self.now c.self.view_is c.args.number c.requires in
    rw (c.end_before-from.ensures, c.deref.ensures.value, c.index-end.ensures) ((end-bounds 0 s.ends.items c.args.number _ _ c.self.invariant.within here).0)

pub part-requires-2-clause-within : goal.part-requires-2-clause-within
part-requires-2-clause-within c =
    let s = c.self.inside in
    let here = collection-has s.pairs.items s.nodes.items s.ends.items c.args.self.now c.self.view_is c.args.number c.requires in
    rw (c.deref-5.ensures.value, c.index-end.ensures) ((end-bounds 0 s.ends.items c.args.number _ _ c.self.invariant.within here).1)

pub invariant_of-result : goal.invariant_of-result
invariant_of-result c =
    let s = c.self.inside in
    collection-part s.pairs.items s.nodes.items s.ends.items c.args.self.now c.self.view_is _ _ _ _ c.self.invariant.starts
    (rw c.deref-5.ensures.value at c.part-2.ensures) (rw (c.start_of-values_end.ensures, c.deref-2.ensures.value, c.deref-3.ensures.value, c.deref-4.ensures.value) at c.part.ensures)

pub returns : goal.returns
returns c =
    let s = c.self.inside in
    let here = collection-has s.pairs.items s.nodes.items s.ends.items c.args.self.now c.self.view_is c.args.number c.requires in
    collection-game s.pairs.items s.nodes.items s.ends.items c.args.self.now c.self.view_is c.args.number _ _ _ _ _ _ c.self.invariant.starts here
    (rw c.deref.ensures.value at c.end_before-from.ensures) c.index-end.ensures
    (rw c.deref-5.ensures.value at c.part-2.ensures) (rw (c.start_of-values_end.ensures, c.deref-2.ensures.value, c.deref-3.ensures.value, c.deref-4.ensures.value) at c.part.ensures)
