use Rattle.std.proofs.Common.{◌≡◌, ◌∙◌, ◌<◌, ◌++◌, ℕ, [], ◌∷◌, All, true, false, arith, get_or, length, map, ap, sym, subst}
use Rattle.std.proofs.lemmas.List.Elements.{All-append, All-cons, All-nil}
use Rattle.dyer_signature.specs.declared.bytes.Signature.{Signature}
use Rattle.dyer_signature.specs.Patterns.{Matches}
use Rattle.dyer_signature.specs.Signatures.{IsSignatureOn}
use Rattle.game_tree.specs.Tree.{IsTree, Tree}
use Rattle.kb_geometry.specs.declared.shape.Shape.{Shape}
use Rattle.session_core.specs.Listing.{found_at}
use Rattle.session_core.specs.Signed.{AreGamesFound}
use Rattle.session_core.proofs.FoundGames.{form-of, forms-long, found-left_out, found-more}
use Rattle.session_core.proofs.lists.found_by.Goals as goal
use Rattle.session_core.proofs.lists.found_by.Goals.{then-matches+in_ok-push, else-matches}

pub loop-number-init : goal.loop-number-init
loop-number-init c =
    let none : [] ≡ c.new-found.result.items = sym c.new-found.ensures.items in
    record {
      are = subst (λ ns. AreGamesFound c.args.pattern.now.bytes [] (map (found_at c.args.forms.now) ns)) none AreGamesFound.nothing;
      in_range = subst (λ ns. All (λ (k : ℕ). k < length c.args.forms.now) ns) none (All-nil (λ k. k < length c.args.forms.now));
    }

pub bounds-forms-number : goal.bounds-forms-number
bounds-forms-number c = omega (arith, c.loop-number-test.true, forms-long c.args.games.now c.args.forms.now c.requires.forms)

pub matches-requires : goal.matches-requires
matches-requires c =
    let none : Signature = record { bytes = [] } in
    let canonical = form-of c.args.games.now c.args.forms.now c.loop-number.number c.index-games-number.result none c.requires.forms c.loop-number-test.true c.index-games-number.is in
    subst (λ (s : Shape). IsSignatureOn s (get_or c.args.forms.now c.loop-number.number none).bytes) (sym (c.shape.ensures.value ∙ ap (λ (t : Tree). t.shape) c.tree.ensures.value)) canonical.on_board

pub loop-number-preserved : goal.loop-number-preserved
loop-number-preserved c =
    let games = c.args.games.now in
    let forms = c.args.forms.now in
    let n = c.loop-number.number in
    let none : Signature = record { bytes = [] } in
    let game = c.index-games-number.result in
    let old = c.loop-number.found.items in
    let new = c.if-matches.found.items in
    let bytes = c.args.pattern.now.bytes in
    let matches : Shape → Type 0 = λ s. Matches s (get_or forms n none).bytes bytes in
    let shape : c.shape.result ≡ game.now.tree.shape = c.shape.ensures.value ∙ ap (λ (t : Tree). t.shape) c.tree.ensures.value in
    let tree : IsTree game.now.tree = subst IsTree c.tree.ensures.value c.shape.ensures.tree in
    let within : n < length forms = omega (arith, c.loop-number-test.true, forms-long games forms c.requires.forms) in
    elim c.if-matches.branch [
      | then-matches+in_ok-push w ↦
          let pushed : new ≡ old ++ n ∷ [] = ap (λ v. v.items) w.found-is ∙ w.in_ok-push.ensures.items in
          record {
            are = found-more games forms n game none c.requires.forms c.loop-number-test.true c.index-games-number.is tree bytes old new c.loop-number.invariant.are (subst matches shape (c.matches.ensures.value.0 w.if-matches.true)) pushed;
            in_range = subst (λ ns. All (λ (k : ℕ). k < length forms) ns) (sym pushed) (All-append (λ k. k < length forms) old (n ∷ []) c.loop-number.invariant.in_range (All-cons (λ k. k < length forms) n [] within (All-nil (λ k. k < length forms))));
          }
      | else-matches w ↦
          let same : new ≡ old = ap (λ v. v.items) w.found-is in
          record {
            are = found-left_out games forms n game none c.requires.forms c.loop-number-test.true c.index-games-number.is tree bytes old new c.loop-number.invariant.are
                (λ it. let no : false ≡ true = sym w.if-matches.false ∙ c.matches.ensures.value.1 (subst matches (sym shape) it) in absurd cc) same;
            in_range = subst (λ ns. All (λ (k : ℕ). k < length forms) ns) (sym same) c.loop-number.invariant.in_range;
          }
    ]
