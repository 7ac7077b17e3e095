use Rattle.game_tree.proofs.TextBlocks.{ends-of_texts, told-by_texts}
use Rattle.game_tree.proofs.root.information.Goals as goal

pub new-requires : goal.new-requires
new-requires c =
    rw c.shrink_to_fit.ensures.items (ends-of_texts c.args.text.now c.args.pairs.now _ _ _ _ _ _ _ _ c.in_ok-append_text.ensures.grown c.in_ok-append_text-2.ensures.grown c.in_ok-append_text-3.ensures.grown c.in_ok-append_text-4.ensures.grown c.in_ok-append_text-5.ensures.grown c.in_ok-append_text-6.ensures.grown c.in_ok-append_text.ensures.end c.in_ok-append_text-2.ensures.end c.in_ok-append_text-3.ensures.end c.in_ok-append_text-4.ensures.end c.in_ok-append_text-5.ensures.end)

pub returns : goal.returns
returns c =
    rw (c.new.ensures, c.shrink_to_fit.ensures.items) (told-by_texts c.args.text.now c.args.pairs.now _ _ _ _ _ _ _ _ c.in_ok-append_text.ensures.grown c.in_ok-append_text-2.ensures.grown c.in_ok-append_text-3.ensures.grown c.in_ok-append_text-4.ensures.grown c.in_ok-append_text-5.ensures.grown c.in_ok-append_text-6.ensures.grown c.in_ok-append_text.ensures.end c.in_ok-append_text-2.ensures.end c.in_ok-append_text-3.ensures.end c.in_ok-append_text-4.ensures.end c.in_ok-append_text-5.ensures.end c.new-texts.ensures.items)
