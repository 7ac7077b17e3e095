use Rattle.std.proofs.Common.{◌≡◌, ap, arith, length, refl, subst}
use Rattle.game_tree.specs.Tree.{Tree, move_number_of}
use Rattle.pattern_images.specs.ImageList.{ImageList, IsPlaceOf, placement_at}
use Rattle.search_engine.specs.Hits.{GoesOn}
use Rattle.search_engine.proofs.AddedHits.{GoesOn-from}
use Rattle.search_engine.proofs.game_hits.SearchedGame.hit_of.Goals as goal

pub place-requires : goal.place-requires
place-requires c = omega (arith, c.requires.placement, ap (λ (i : ImageList). length i.placements) c.images-images.ensures.value)

pub returns : goal.returns
returns c =
    let o = c.args.begun.occurrence in
    let images = c.args.self.now.ready.now.images in
    let read = c.images-images.result.now in
    let changes = c.args.deltas.now in record {
      game = refl;
      node = refl;
      place = subst (λ (i : ImageList). IsPlaceOf (placement_at i.placements o.placement) c.place.result) c.images-images.ensures.value c.place.ensures.value;
      moves = subst (λ (t : Tree). c.move_number.result ≡ move_number_of t o.node) c.tree.ensures.value c.move_number.ensures;
      outcome = c.outcome.ensures;
      next =
          subst (λ (t : Tree). GoesOn t changes (placement_at images.placements o.placement) o.node c.next_below.result) c.tree-2.ensures.value
          (subst (λ (i : ImageList). GoesOn c.tree-2.result.now changes (placement_at i.placements o.placement) o.node c.next_below.result) c.images-images.ensures.value
          (GoesOn-from c.tree-2.result.now changes (placement_at read.placements o.placement) o.node c.next_below.result c.next_below.ensures.some c.next_below.ensures.none));
    }
