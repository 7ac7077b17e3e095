use Rattle.std.proofs.Common.{◌∙◌, ◌++◌, ℕ, List, ap, length, refl, subst, sym}
use Rattle.std.specs.Borrow.{Bor}
use Rattle.std.specs.List.{flat_map}
use Rattle.std.proofs.lemmas.Iterator.Consumers.{YieldsList-end, YieldsList-from_rest}
use Rattle.node_position.specs.Games.{Game}
use Rattle.query_script.specs.Texts.{double_text, doubles_head}
use Rattle.session_core.specs.Doubles.{Group, groups_of}
use Rattle.session_core.specs.Grouping.{entries_of, group_in, group_text, keys_with}
use Rattle.session_core.specs.Listing.{AreFormsOf}
use Rattle.session_core.specs.Stores.{view_of}
use Rattle.session_core.proofs.FoundGames.{few_games, forms-long}
use Rattle.session_core.proofs.GroupTexts.{flat_map-twice, listed_of_all}
use Rattle.session_core.proofs.ListTexts.{IsDoublesText-printed}
use Rattle.session_core.proofs.lists.append_doubles.Goals as goal

pub games_by_key-requires-clause-most : goal.games_by_key-requires-clause-most
games_by_key-requires-clause-most c = few_games c.as_slice-2.result.now c.in_ok-games.games.items (view_of c.args.version.now).games c.game_count-count.result c.as_slice-2.ensures.value c.in_ok-games.ensures.value c.game_count-count.ensures.value c.game_count-count.ensures.most

pub games_by_key-requires-clause-as_many : goal.games_by_key-requires-clause-as_many
games_by_key-requires-clause-as_many c = ap length c.as_slice-3.ensures.value ∙ (forms-long _ _ c.in_ok-forms.ensures ∙ (ap length c.as_slice.ensures.value ∙ sym (ap length c.as_slice-2.ensures.value)))

pub returns-clause-ok : goal.returns-clause-ok
returns-clause-ok c =
    let entries = c.in_ok-by_key.by_key.entries in
    let all = YieldsList-end (YieldsList-from_rest entries (c.into_iter-key-iterator.ensures.into_iter_gives ∙ c.iter-key-items.ensures.rest)) c.loop-key.yielded _ c.loop-key.yielded_by _ _ c.in-None.is c.next.ensures.steps in
    let line : Group → List ℕ = λ g. double_text g.form g.games in
    let lines =
    listed_of_all group_text c.loop-key.yielded entries all.0
    ∙ flat_map-twice line group_in (entries_of entries)
    ∙ ap (flat_map line) (c.in_ok-by_key.ensures ∙ (λ i. groups_of (keys_with (c.as_slice-2.ensures.value i) (c.as_slice-3.ensures.value i)))) in
    let head = doubles_head c.args.line c.args.version.now.number c.game_count-count.result (length (groups_of (keys_with c.in_ok-games.games.items c.in_ok-forms.forms.items))) in
    IsDoublesText-printed c.args.line (view_of c.args.version.now) c.args.version.now.number c.game_count-count.result c.in_ok-games.games.items c.in_ok-forms.forms.items c.args.out.now.items c.loop-key.out.items
    refl c.game_count-count.ensures.value c.in_ok-games.ensures.value (subst (λ (gs : List (Bor Game)). AreFormsOf gs c.in_ok-forms.forms.items) c.as_slice.ensures.value c.in_ok-forms.ensures)
    (c.loop-key.invariant.printed ∙ ap (λ ls. (c.args.out.now.items ++ head) ++ ls) lines)
