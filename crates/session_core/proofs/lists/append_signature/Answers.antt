use Rattle.std.proofs.Common.{◌∙◌, ◌<◌, All, List, ℕ, ap, arith, length, map, subst, sym}
use Rattle.std.specs.Borrow.{Bor}
use Rattle.dyer_signature.specs.declared.bytes.Signature.{Signature}
use Rattle.node_position.specs.Games.{Game}
use Rattle.session_core.specs.Listing.{AreFormsOf, found_at, borrowed_games}
use Rattle.session_core.specs.Signed.{AreGamesFound}
use Rattle.session_core.specs.Stores.{view_of}
use Rattle.session_core.proofs.FoundGames.{few_games}
use Rattle.session_core.proofs.ListTexts.{IsSignatureText-printed}
use Rattle.session_core.proofs.lists.append_signature.Goals as goal

pub found_by-requires-clause-most : goal.found_by-requires-clause-most
found_by-requires-clause-most c = few_games c.as_slice-2.result.now c.in_ok-games.games.items (view_of c.args.version.now).games c.game_count-count.result c.as_slice-2.ensures.value c.in_ok-games.ensures.value c.game_count-count.ensures.value c.game_count-count.ensures.most

pub found_by-requires-clause-forms : goal.found_by-requires-clause-forms
found_by-requires-clause-forms c =
    subst (λ (gs : List (Bor Game)). AreFormsOf gs c.as_slice-3.result.now) (c.as_slice.ensures.value ∙ sym c.as_slice-2.ensures.value)
    (subst (λ (fs : List Signature). AreFormsOf c.as_slice.result.now fs) (sym c.as_slice-3.ensures.value) c.in_ok-forms.ensures)

pub append_found-requires : goal.append_found-requires
append_found-requires c =
    subst (λ (fs : List Signature). All (λ (k : ℕ). k < length fs) c.as_slice-5.result.now) (c.as_slice-3.ensures.value ∙ sym c.as_slice-4.ensures.value)
    (subst (λ (ns : List ℕ). All (λ (k : ℕ). k < length c.as_slice-3.result.now) ns) (sym c.as_slice-5.ensures.value) c.in_ok-found.ensures.in_range)

pub returns-clause-ok : goal.returns-clause-ok
returns-clause-ok c =
    let forms = c.as_slice-3.ensures.value ∙ sym c.as_slice-4.ensures.value in
    let numbers = sym c.as_slice-5.ensures.value in
    IsSignatureText-printed c.append_found.result c.args.line (view_of c.args.version.now) c.number.result c.game_count-count.result c.len.result c.as_slice-2.result.now c.as_slice-4.result.now c.args.pattern.now.bytes c.as_slice-5.result.now c.args.out.now.items c.print_signature_head.new.out.items c.append_found.new.out.items
    c.number.ensures c.game_count-count.ensures.value (omega (arith, c.len.ensures, c.in_ok-found.found.ok, ap length numbers)) (ap borrowed_games c.as_slice-2.ensures.value ∙ c.in_ok-games.ensures.value)
    (subst (λ (fs : List Signature). AreGamesFound c.args.pattern.now.bytes (borrowed_games c.as_slice-2.result.now) (map (found_at fs) c.as_slice-5.result.now)) forms
    (subst (λ (ns : List ℕ). AreGamesFound c.args.pattern.now.bytes (borrowed_games c.as_slice-2.result.now) (map (found_at c.as_slice-3.result.now) ns)) numbers c.in_ok-found.ensures.found))
    c.in_ok-print_signature_head.ensures.ok c.append_found.ensures.ok
