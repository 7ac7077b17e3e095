use Rattle.std.proofs.Common.{arith, rules, get_or, subst, sym, ◌∙◌}
use Rattle.std.proofs.lemmas.Grind.{common_steps}
use Rattle.std.proofs.lemmas.Result.{IfOk-weaker}
use Rattle.import_work.proofs.MadePieces.{AreMadePieces, IsMadePiece, pieces-made, pieces-room}
use Rattle.import_work.proofs.making.made_segment.Goals as goal

pub in_one-requires : goal.in_one-requires
in_one-requires g c =
    let made = c.in_ok-made.made.items in
    let jobs = c.in_ok-pieces.pieces.items in
    let are : AreMadePieces jobs made = record {
      all = first_of (search rules, grind (arith, common_steps));
      each = λ n v d lt.
          let given = (c.in_ok-made.ensures.each n d lt).1 in
          subst (λ job. IsMadePiece job (get_or made n d)) (sym (given.job_is v)) (let called = given.call in search rules);
    } in
    pieces-room c.args.start c.args.first c.args.count c.in_ok-segments.segments.items c.requires.few (pieces-made c.args.start c.args.first c.args.count jobs made c.in_ok-segments.segments.items c.in_ok-pieces.ensures are c.in_ok-segments.ensures)

pub returns : goal.returns
returns g c =
    let made = c.in_ok-made.made.items in
    let jobs = c.in_ok-pieces.pieces.items in
    let are : AreMadePieces jobs made = record {
      all = first_of (search rules, grind (arith, common_steps));
      each = λ n v d lt.
          let given = (c.in_ok-made.ensures.each n d lt).1 in
          subst (λ job. IsMadePiece job (get_or made n d)) (sym (given.job_is v)) (let called = given.call in search rules);
    } in
    IfOk-weaker c.in_one.result _ _ (λ one is. is ∙ pieces-made c.args.start c.args.first c.args.count jobs made c.in_ok-segments.segments.items c.in_ok-pieces.ensures are c.in_ok-segments.ensures) c.in_one.ensures
