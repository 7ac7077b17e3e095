-- The pieces of a search in one list.
use Rattle.std.proofs.Common.{◌≡◌, ℕ, zero, suc, ◌+◌, ◌*◌, ◌≤◌, List, [], ◌∷◌, ◌++◌, get_or, length, refl, take, sym, ap, ◌∙◌, subst, arith, add-one}
use Rattle.std.proofs.lemmas.List.{append-nil, take_all, take_more}
use Rattle.std.proofs.lemmas.List.Concat.{flat_map-append}
use Rattle.std.proofs.lemmas.List.Elements.{All-tail}
use Rattle.std.specs.Fork.{slice_chunk}
use Rattle.std.specs.List.{flat_map}
use Rattle.std.specs.Global.{Global}
use Rattle.std.specs.Prelude.{All, Ok, Err, IsOk, Vec}
use Rattle.std.proofs.lemmas.Bool.{false≢true}
use Rattle.kb_geometry.specs.declared.shape.Shape.{Shape}
use Rattle.kb_geometry.specs.Pieces.{ArePiecesJoined, PieceOf, items_of_piece}
use Rattle.node_position.specs.Games.{Game}
use Rattle.pattern_images.specs.declared.hit.Hit.{Hit}
use Rattle.pattern_images.specs.declared.query.Query.{Query}
use Rattle.info_filter.specs.declared.filter.Filter.{Filter}
use Rattle.search_engine.specs.declared.item.Item.{Item}
use Rattle.search_engine.specs.Hits.{AreHitsFrom}
use Rattle.search_engine.specs.Items.{AreNumberedFrom, games_of_items}
use Rattle.search_engine.specs.Searching.{AreAllPieces, AreCovered, AreItemHitsAdded, IsCovered, IsPiece}
use Rattle.search_engine.proofs.BlocksSearched.{All-of_sublist, hits_alone}
use Rattle.search_engine.proofs.HitParts.{AreHitsFrom-append}
use Rattle.search_engine.proofs.ItemLists.{AreNumberedFrom-piece, games_to_piece}

-- the hits of a piece
abbrev hits_in : PieceOf Hit → List Hit
hits_in = items_of_piece {A = Hit}

module _ (query : Query) (filter : Filter) (shapes : List Shape) (items : List Item) (size : ℕ) (pieces : List (PieceOf Hit)) (are : AreAllPieces query filter shapes items size pieces) (first : ℕ) (numbered : AreNumberedFrom first items) (covered : AreCovered query shapes (games_of_items items)) where
  abbrev so_far : ℕ → List Hit → Type 0
  so_far n hits = AreHitsFrom first query filter (games_of_items (take (n * size) items)) hits

  -- the hits of one piece more
  piece_more : (n : ℕ) (piece : PieceOf Hit) (hits : List Hit) → IsPiece query filter shapes (slice_chunk items size n) piece → IsOk piece → so_far n hits → so_far (n + 1) (hits ++ hits_in piece)
  piece_more n (Ok more) hits is good before =
      let chunk = slice_chunk items size n in
      let done = games_of_items (take (n * size) items) in
      let end : (n + 1) * size ≡ n * size + size = omega arith in
      let next : games_of_items (take ((n + 1) * size) items) ≡ done ++ games_of_items chunk = ap (λ k. games_of_items (take k items)) end ∙ games_to_piece items (n * size) size in
      let own = hits_alone query filter shapes chunk more.items (first + length done) is (AreNumberedFrom-piece first items (n * size) size numbered) (All-of_sublist (λ (g : Game). IsCovered query shapes g.tree.shape) items (n * size) size covered) in
      subst (λ gs. AreHitsFrom first query filter gs (hits ++ more.items)) (sym next) (AreHitsFrom-append first query filter done hits before (games_of_items chunk) more.items own)
  piece_more n (Err e) hits is good before = absurd (false≢true good)

  pieces_to : (n : ℕ) → n ≤ length pieces → All (λ (p : PieceOf Hit). IsOk p) pieces → so_far n (flat_map hits_in (take n pieces))
  pieces_to zero le good =
      let start : 0 * size ≡ 0 = omega arith in
      subst (λ k. AreHitsFrom first query filter (games_of_items (take k items)) []) (sym start) AreHitsFrom.nothing
  pieces_to (suc n) le good =
      let none : PieceOf Hit = Err (record {}) in
      let piece = get_or pieces n none in
      let next : take (suc n) pieces ≡ take n pieces ++ piece ∷ [] = ap (λ k. take k pieces) (sym (add-one n)) ∙ take_more pieces n none (omega arith) in
      let all : flat_map hits_in (take (suc n) pieces) ≡ flat_map hits_in (take n pieces) ++ hits_in piece = ap (flat_map hits_in) next ∙ flat_map-append hits_in (take n pieces) (piece ∷ []) ∙ ap (λ hs. flat_map hits_in (take n pieces) ++ hs) (append-nil (hits_in piece)) in
      subst (λ hs. so_far (suc n) hs) (sym all)
      (subst (λ k. so_far k (flat_map hits_in (take n pieces) ++ hits_in piece)) (add-one n)
      (piece_more n piece (flat_map hits_in (take n pieces)) (are.each n none (omega arith)) (good n none (omega arith)) (pieces_to n (omega arith) good)))

  -- the hits of all pieces are those of all games
  pub hits_joined : (hits : List Hit) → ArePiecesJoined pieces hits → AreHitsFrom first query filter (games_of_items items) hits
  hits_joined hits all =
      let whole : so_far (length pieces) (flat_map hits_in pieces) = subst (λ ps. so_far (length pieces) (flat_map hits_in ps)) (take_all (length pieces) pieces (omega arith)) (pieces_to (length pieces) (omega arith) all.good) in
      subst (λ is. AreHitsFrom first query filter (games_of_items is) hits) (take_all (length pieces * size) items are.all)
      (subst (λ hs. so_far (length pieces) hs) (sym all.joined) whole)

-- the hits of all pieces are added to those before them
pub hits_joined_behind : (query : Query) (filter : Filter) (shapes : List Shape) (items : List Item) (size : ℕ) (pieces : List (PieceOf Hit)) → AreAllPieces query filter shapes items size pieces → (before : Vec Hit Global) (all : List (PieceOf Hit)) → all ≡ Ok before ∷ pieces → (hits : List Hit) → ArePiecesJoined all hits → AreItemHitsAdded query filter shapes items before.items hits
hits_joined_behind query filter shapes items size pieces are before all behind hits joined first numbered covered =
    let more = flat_map hits_in pieces in
    let good : All (λ (p : PieceOf Hit). IsOk p) pieces = All-tail (λ (p : PieceOf Hit). IsOk p) (Ok before) pieces (subst (All (λ (p : PieceOf Hit). IsOk p)) behind joined.good) in record {
      more = more;
      added = joined.joined ∙ ap (flat_map hits_in) behind;
      are_hits = hits_joined query filter shapes items size pieces are first numbered covered more (record { joined = refl; good = good });
    }
