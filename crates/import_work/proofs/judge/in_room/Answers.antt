use Rattle.std.proofs.Common.{◌≡◌, ◌∙◌, ◌+◌, ◌<◌, ◌++◌, [], append-nil, ap, sym, arith, inl, inr, length, refl, rules}
use Rattle.std.specs.Arc.{arc_value}
use Rattle.std.proofs.lemmas.List.{length-map}
use Rattle.std.proofs.lemmas.Grind.{common_steps}
use Rattle.import_work.specs.Outcome.{games_after, nodes_after}
use Rattle.import_work.proofs.FileLemmas.{length-games_from}
use Rattle.import_work.proofs.RoomLemmas.{IsOutcome-in_room, accepted_is, full_is, with_games-none}
use Rattle.import_work.proofs.judge.in_room.Goals as goal
use Rattle.import_work.proofs.judge.in_room.Goals.{then-all_games-from-via-then-all_games-from, then-all_games-from-via-else-all_games-from+then-all_nodes-from}

pub returns-then-all_games-from-clause-judged : goal.returns-then-all_games-from-clause-judged
returns-then-all_games-from-clause-judged c = λ name bytes trees have own_is nodes_is few.
    let before = c.args.before in
    let small : before.nodes < 4294967296 = first_of (search rules, grind (arith, common_steps)) in
    let count : length c.args.own.items ≡ length trees = sym (length-map c.args.own.items arc_value) ∙ ap length own_is ∙ length-games_from name 0 trees in
    let games : c.from.result + c.len.result ≡ games_after before trees = omega (arith, c.from.ensures, c.len.ensures, count) in
    let nodes : c.saturating_add-all_nodes.result ≡ nodes_after before trees = omega (arith, c.saturating_add-all_nodes.ensures, c.from-2.ensures, nodes_is, few, small) in
    let full = full_is before trees [] (c.from.result + c.len.result) c.saturating_add-all_nodes.result games nodes
    (elim c.then-all_games-from.branch [
      | then-all_games-from-via-then-all_games-from w ↦ inl (let past = w.if-all_games-from.true in omega (arith, past, c.from-3.ensures))
      | then-all_games-from-via-else-all_games-from+then-all_nodes-from w ↦ inr (let past = w.if-all_nodes-from.true in omega (arith, past, w.from-else-all_games-from.ensures))
    ]) refl in
    record {
      trees = [];
      judged = IsOutcome-in_room bytes before trees _ [] have full;
      added = sym (append-nil c.args.games.now);
      counted = sym (with_games-none before);
    }

pub returns-clause-judged : goal.returns-clause-judged
returns-clause-judged c = λ name bytes trees have own_is nodes_is few.
    let before = c.args.before in
    let small : before.nodes < 4294967296 = first_of (search rules, grind (arith, common_steps)) in
    let count : length c.args.own.items ≡ length trees = sym (length-map c.args.own.items arc_value) ∙ ap length own_is ∙ length-games_from name 0 trees in
    let games : c.from.result + c.len.result ≡ games_after before trees = omega (arith, c.from.ensures, c.len.ensures, count) in
    let nodes : c.saturating_add-all_nodes.result ≡ nodes_after before trees = omega (arith, c.saturating_add-all_nodes.ensures, c.from-2.ensures, nodes_is, few, small) in
    let counted : c.len-count.result ≡ length trees = omega (arith, c.len-count.ensures, count) in
    let room = accepted_is before trees c.len-count.result (c.from.result + c.len.result) c.saturating_add-all_nodes.result counted games nodes
    (let within = c.if-all_games-from.false in omega (arith, within, c.from-3.ensures))
    (let within = c.if-all_nodes-from.false in omega (arith, within, c.from-else-all_games-from.ensures)) in
    record {
      trees = trees;
      judged = IsOutcome-in_room bytes before trees _ trees have room;
      added = c.in_ok-add_all.ensures ∙ ap (λ gs. c.args.games.now ++ gs) own_is;
      counted = λ i. record { games = games i; nodes = nodes i };
    }
