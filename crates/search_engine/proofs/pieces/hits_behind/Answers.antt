use Rattle.std.proofs.Common.{arith, rules, get_or, subst}
use Rattle.std.proofs.lemmas.Grind.{common_steps}
use Rattle.std.proofs.lemmas.Result.{IfOk-weaker}
use Rattle.search_engine.specs.Searching.{AreAllPieces, IsPiece}
use Rattle.search_engine.proofs.JoinedPieces.{hits_joined_behind}
use Rattle.search_engine.proofs.pieces.hits_behind.Goals as goal

pub returns : goal.returns
returns g c =
    let query = c.args.searcher.now.ready.now.query in
    let filter = c.args.searcher.now.filter.now in
    let shapes = c.args.searcher.now.ready.now.shapes in
    let items = c.args.items.now in
    let pieces = c.in_ok-pieces.pieces.items in
    let size = c.args.size in
    let are : AreAllPieces query filter shapes items size pieces = record {
      all = first_of (search rules, grind (arith, common_steps));
      each = λ n d lt.
          let given = (c.in_ok-pieces.ensures.each n d lt).1 in
          subst (λ chunk. IsPiece query filter shapes chunk (get_or pieces n d)) given.argument_is.value (let called = given.call in search rules);
    } in
    IfOk-weaker c.joined.result _ _ (λ hits joined. hits_joined_behind query filter shapes items size pieces are c.args.before c.insert.new.self.items c.in_ok-insert.ensures.items hits.items joined) c.joined.ensures
