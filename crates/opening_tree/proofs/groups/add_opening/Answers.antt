use Rattle.std.proofs.Common.{◌∙◌, [], List, ap, length, subst, sym}
use Rattle.std.specs.Prelude.{slice_index_or}
use Rattle.opening_tree.specs.declared.answer.NextMove.{NextMove}
use Rattle.opening_tree.specs.Groups.{AreSorted, none_yet}
use Rattle.opening_tree.specs.OpeningTables.{opening_in}
use Rattle.opening_tree.proofs.GroupSteps.{group-added, group-room}
use Rattle.opening_tree.proofs.groups.add_opening.Goals as goal

pub find_or_begin-requires : goal.find_or_begin-requires
find_or_begin-requires c =
    let (points, each, width) = c.requires.ready in
    ap length (c.key.ensures ([], none_yet 0 0)) ∙ (each ([], none_yet 0 0)).key.room ∙ sym width

pub count_more-requires : goal.count_more-requires
count_more-requires c =
    let (points, each, width) = c.requires.ready in
    group-room points (slice_index_or c.args.more.now.entries c.args.at ([], none_yet 0 0)) c.args.openings.now.entries c.find_or_begin.new.self.entries c.in_ok-own.own c.key.result.now (opening_in c.none-none.result []) (opening_in c.counts-counts.result c.as_slice.result.now) (each ([], none_yet 0 0))
    (c.key.ensures ([], none_yet 0 0)) (ap (λ (rs : List NextMove). opening_in c.counts-counts.result rs) (c.as_slice.ensures.value ∙ c.in_ok-copy_rows.ensures.rows ([], none_yet 0 0)) ∙ c.counts-counts.ensures ([], none_yet 0 0)) (subst (λ (rs : List NextMove). AreSorted rs) (sym c.as_slice.ensures.value) c.in_ok-copy_rows.ensures.sorted) c.none-none.ensures c.in_ok-own.ensures.entries c.in_ok-own.ensures.at

pub returns-clause-added : goal.returns-clause-added
returns-clause-added c points d ready =
    group-added points (slice_index_or c.args.more.now.entries c.args.at d) c.args.openings.now.entries c.find_or_begin.new.self.entries c.in_ok-own.own c.key.result.now (opening_in c.none-none.result []) (opening_in c.counts-counts.result c.as_slice.result.now) ready
    (c.key.ensures d) (ap (λ (rs : List NextMove). opening_in c.counts-counts.result rs) (c.as_slice.ensures.value ∙ c.in_ok-copy_rows.ensures.rows d) ∙ c.counts-counts.ensures d) (subst (λ (rs : List NextMove). AreSorted rs) (sym c.as_slice.ensures.value) c.in_ok-copy_rows.ensures.sorted) c.none-none.ensures c.in_ok-own.ensures.entries c.in_ok-own.ensures.at
    c.count_more.new.self.entries c.in_ok-count_more.ensures.entries
