use Rattle.std.proofs.Common.{◌≡◌, ◌∷◌, [], ◌++◌, ◌∙◌, List, ap, append_assoc, arith, map, refl, sym, take}
use Rattle.std.proofs.lemmas.List.{take_all}
use Rattle.std.specs.List.{flat_map}
use Rattle.kb_geometry.proofs.Lists.{appended_twice}
use Rattle.kb_geometry.proofs.Prefixes.{refused_behind}
use Rattle.query_script.specs.Pieces.{piece_text}
use Rattle.query_script.specs.Texts.{line_text}
use Rattle.query_script.specs.declared.pieces.Piece.{Piece}
use Rattle.query_script.proofs.pieces.append_pieces.Goals as goal

-- the pieces one behind the other, and the line feed behind them
line-pieces : (pieces : List Piece) → line_text (map piece_text pieces) ≡ flat_map piece_text pieces ++ 10 ∷ []
line-pieces [] = refl
line-pieces (piece ∷ pieces) = ap (λ text. piece_text piece ++ text) (line-pieces pieces) ∙ sym (append_assoc (piece_text piece) (flat_map piece_text pieces) (10 ∷ []))

pub returns-in_err-append_piece-clause-refused : goal.returns-in_err-append_piece-clause-refused
returns-in_err-append_piece-clause-refused c = refused_behind c.from_residual.result c.args.out.now.items (flat_map piece_text (take c.loop-piece.piece-index c.args.pieces.now)) c.loop-piece.invariant c.in_err-append_piece.ensures.refused

pub returns-clause-ok : goal.returns-clause-ok
returns-clause-ok c =
    let old = c.args.out.now.items in
    let pieces = c.args.pieces.now in
    appended_twice old (flat_map piece_text (take c.loop-piece.piece-index pieces)) (10 ∷ []) c.loop-piece.invariant c.in_ok-append.ensures.ok
    ∙ ap (λ ps. old ++ (flat_map piece_text ps ++ 10 ∷ [])) (take_all c.loop-piece.piece-index pieces (omega arith))
    ∙ ap (λ text. old ++ text) (sym (line-pieces pieces))
