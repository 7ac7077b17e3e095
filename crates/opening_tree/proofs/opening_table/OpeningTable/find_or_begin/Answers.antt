use Rattle.std.proofs.Common.{◌∙◌, [], ap, arith, subst, sym}
use Rattle.opening_tree.specs.Keys.{KeyList}
use Rattle.opening_tree.specs.OpeningTables.{IsOpeningTable, OpeningList, begun, lists_of, opening_in, stored_in}
use Rattle.opening_tree.proofs.OpeningTableSteps.{AreKeptRows, at-begun, entries-begun, entries-found, kept-rows, same-rows, table-begun, table-found, table-kept}
use Rattle.opening_tree.proofs.opening_table.OpeningTable.find_or_begin.Goals as goal

pub invariant_of-self : goal.invariant_of-self
invariant_of-self c =
    let t = c.self.inside in
    table-kept t.keys.keys t.counts.items c.reserve.new.self.items t.rows t.rows c.self.invariant c.reserve.ensures.items (same-rows t.rows)

pub invariant_of-self-in_err-reserve_list : goal.invariant_of-self-in_err-reserve_list
invariant_of-self-in_err-reserve_list c =
    let t = c.self.inside in
    let kept : AreKeptRows t.rows c.reserve_list.new.self = record { rows = c.reserve_list.ensures.rows.0; lists = c.reserve_list.ensures.rows.1; nexts = c.reserve_list.ensures.rows.2; firsts = c.reserve_list.ensures.links.0; lasts = c.reserve_list.ensures.links.1 } in
    table-kept t.keys.keys t.counts.items c.reserve.new.self.items t.rows c.reserve_list.new.self c.self.invariant c.reserve.ensures.items kept

pub find_or_add-requires : goal.find_or_add-requires
find_or_add-requires c = c.requires ∙ sym (ap (λ (v : OpeningList). v.width) c.self.view_is)

pub invariant_of-self-in_err-at : goal.invariant_of-self-in_err-at
invariant_of-self-in_err-at c =
    let t = c.self.inside in
    let kept : AreKeptRows t.rows c.reserve_list.new.self = record { rows = c.reserve_list.ensures.rows.0; lists = c.reserve_list.ensures.rows.1; nexts = c.reserve_list.ensures.rows.2; firsts = c.reserve_list.ensures.links.0; lasts = c.reserve_list.ensures.links.1 } in
    subst (λ (v : KeyList). IsOpeningTable v.keys c.reserve.new.self.items c.reserve_list.new.self) (sym c.in_err-at.ensures.unchanged) (table-kept t.keys.keys t.counts.items c.reserve.new.self.items t.rows c.reserve_list.new.self c.self.invariant c.reserve.ensures.items kept)

pub invariant_of-self-then-at-len : goal.invariant_of-self-then-at-len
invariant_of-self-then-at-len c =
    let t = c.self.inside in
    let kept : AreKeptRows t.rows c.reserve_list.new.self = record { rows = c.reserve_list.ensures.rows.0; lists = c.reserve_list.ensures.rows.1; nexts = c.reserve_list.ensures.rows.2; firsts = c.reserve_list.ensures.links.0; lasts = c.reserve_list.ensures.links.1 } in
    table-found t.keys.keys t.counts.items c.reserve.new.self.items t.rows c.reserve_list.new.self c.self.invariant c.reserve.ensures.items kept c.args.words.now c.args.none c.find_or_add.new.self.keys c.in_ok-at.ensures.keys (omega (arith, c.if-at-len.true, c.len.ensures, c.reserve.new.self.ok.0, c.in_ok-at.ensures.number))

pub returns-then-at-len-clause-at : goal.returns-then-at-len-clause-at
returns-then-at-len-clause-at c =
    let t = c.self.inside in
    let kept : AreKeptRows t.rows c.reserve_list.new.self = record { rows = c.reserve_list.ensures.rows.0; lists = c.reserve_list.ensures.rows.1; nexts = c.reserve_list.ensures.rows.2; firsts = c.reserve_list.ensures.links.0; lasts = c.reserve_list.ensures.links.1 } in
    at-begun t.keys.keys t.counts.items t.rows c.self.invariant c.args.words.now (opening_in c.args.none []) (stored_in c.find_or_add.new.self.keys c.reserve.new.self.items (lists_of c.reserve_list.new.self)) c.in_ok-at.at
    (entries-found t.keys.keys t.counts.items c.reserve.new.self.items t.rows c.reserve_list.new.self c.self.invariant c.reserve.ensures.items kept c.args.words.now c.args.none c.find_or_add.new.self.keys c.in_ok-at.ensures.keys (omega (arith, c.if-at-len.true, c.len.ensures, c.reserve.new.self.ok.0, c.in_ok-at.ensures.number))) c.in_ok-at.ensures.number

pub returns-then-at-len-clause-entries : goal.returns-then-at-len-clause-entries
returns-then-at-len-clause-entries c =
    let t = c.self.inside in
    let kept : AreKeptRows t.rows c.reserve_list.new.self = record { rows = c.reserve_list.ensures.rows.0; lists = c.reserve_list.ensures.rows.1; nexts = c.reserve_list.ensures.rows.2; firsts = c.reserve_list.ensures.links.0; lasts = c.reserve_list.ensures.links.1 } in
    entries-found t.keys.keys t.counts.items c.reserve.new.self.items t.rows c.reserve_list.new.self c.self.invariant c.reserve.ensures.items kept c.args.words.now c.args.none c.find_or_add.new.self.keys c.in_ok-at.ensures.keys (omega (arith, c.if-at-len.true, c.len.ensures, c.reserve.new.self.ok.0, c.in_ok-at.ensures.number))
    ∙ ap (λ (v : OpeningList). begun v.entries c.args.words.now (opening_in c.args.none [])) c.self.view_is

pub push_reserved_list-requires-clause-are : goal.push_reserved_list-requires-clause-are
push_reserved_list-requires-clause-are c =
    let t = c.self.inside in
    let kept : AreKeptRows t.rows c.reserve_list.new.self = record { rows = c.reserve_list.ensures.rows.0; lists = c.reserve_list.ensures.rows.1; nexts = c.reserve_list.ensures.rows.2; firsts = c.reserve_list.ensures.links.0; lasts = c.reserve_list.ensures.links.1 } in
    kept-rows t.rows c.reserve_list.new.self kept c.self.invariant.are_rows

pub invariant_of-self-2 : goal.invariant_of-self-2
invariant_of-self-2 c =
    let t = c.self.inside in
    let kept : AreKeptRows t.rows c.reserve_list.new.self = record { rows = c.reserve_list.ensures.rows.0; lists = c.reserve_list.ensures.rows.1; nexts = c.reserve_list.ensures.rows.2; firsts = c.reserve_list.ensures.links.0; lasts = c.reserve_list.ensures.links.1 } in
    table-begun t.keys.keys t.counts.items c.reserve.new.self.items t.rows c.reserve_list.new.self c.self.invariant c.reserve.ensures.items kept c.args.words.now c.args.none c.find_or_add.new.self.keys c.in_ok-at.ensures.keys (omega (arith, c.if-at-len.false, c.len.ensures, c.reserve.new.self.ok.0, c.in_ok-at.ensures.number)) c.push_reserved.new.self.items c.push_reserved.ensures.items c.push_reserved_list.new.self c.push_reserved_list.ensures.are c.push_reserved_list.ensures.long

pub returns-clause-at : goal.returns-clause-at
returns-clause-at c =
    let t = c.self.inside in
    let kept : AreKeptRows t.rows c.reserve_list.new.self = record { rows = c.reserve_list.ensures.rows.0; lists = c.reserve_list.ensures.rows.1; nexts = c.reserve_list.ensures.rows.2; firsts = c.reserve_list.ensures.links.0; lasts = c.reserve_list.ensures.links.1 } in
    at-begun t.keys.keys t.counts.items t.rows c.self.invariant c.args.words.now (opening_in c.args.none []) (stored_in c.find_or_add.new.self.keys c.push_reserved.new.self.items (lists_of c.push_reserved_list.new.self)) c.in_ok-at.at
    (entries-begun t.keys.keys t.counts.items c.reserve.new.self.items t.rows c.reserve_list.new.self c.self.invariant c.reserve.ensures.items kept c.args.words.now c.args.none c.find_or_add.new.self.keys c.in_ok-at.ensures.keys (omega (arith, c.if-at-len.false, c.len.ensures, c.reserve.new.self.ok.0, c.in_ok-at.ensures.number)) c.push_reserved.new.self.items c.push_reserved.ensures.items c.push_reserved_list.new.self c.push_reserved_list.ensures.added) c.in_ok-at.ensures.number

pub returns-clause-entries : goal.returns-clause-entries
returns-clause-entries c =
    let t = c.self.inside in
    let kept : AreKeptRows t.rows c.reserve_list.new.self = record { rows = c.reserve_list.ensures.rows.0; lists = c.reserve_list.ensures.rows.1; nexts = c.reserve_list.ensures.rows.2; firsts = c.reserve_list.ensures.links.0; lasts = c.reserve_list.ensures.links.1 } in
    entries-begun t.keys.keys t.counts.items c.reserve.new.self.items t.rows c.reserve_list.new.self c.self.invariant c.reserve.ensures.items kept c.args.words.now c.args.none c.find_or_add.new.self.keys c.in_ok-at.ensures.keys (omega (arith, c.if-at-len.false, c.len.ensures, c.reserve.new.self.ok.0, c.in_ok-at.ensures.number)) c.push_reserved.new.self.items c.push_reserved.ensures.items c.push_reserved_list.new.self c.push_reserved_list.ensures.added
    ∙ ap (λ (v : OpeningList). begun v.entries c.args.words.now (opening_in c.args.none [])) c.self.view_is
