-- The openings by words grow by one entry, one next move or one opening more.
use Rattle.std.proofs.Common.{◌≡◌, ℕ, List, refl, sym, ap, ◌∙◌, subst}
use Rattle.std.specs.Prelude.{All}
use Rattle.kb_geometry.specs.declared.stone.Outcome.{Outcome}
use Rattle.game_tree.specs.declared.node.Move.{Move}
use Rattle.opening_tree.specs.declared.answer.Opening.{Opening}
use Rattle.opening_tree.specs.declared.groups.EntryAt.{EntryAt}
use Rattle.opening_tree.specs.Groups.{AreSorted, Grouped, IsGroupWithin, none_yet, opening_with, with_entry, with_group, with_next, with_one, with_row, with_rows}
use Rattle.opening_tree.specs.OpeningTables.{IsSaidAt, begun, changed}
use Rattle.opening_tree.specs.Packing.{AreCells, cells_of}
use Rattle.opening_tree.specs.StoredGroups.{AreKeptIn, AreKeys, IsKeyAt, IsReadyForEntry, IsReadyForGroup, Stored, entry_shown, group_shown, groups_shown, next_shown}
use Rattle.opening_tree.proofs.GroupEntries.{entry_counted, group_counted, keys_begun, keys_changed, next_counted, none-within, said_at, said_begun, said_with}
use Rattle.opening_tree.proofs.KeysAt.{kept-begun, kept-changed}

-- ---- one entry

module _ (points : ℕ) (words : List ℕ) (entry : EntryAt) (none : Opening) (is : none ≡ none_yet entry.game entry.node) (es mid : List Stored) (at : ℕ) (ready : IsReadyForEntry points words es) (made : mid ≡ begun es words none) (key : IsKeyAt mid at words) where
  pub entry-room : IsSaidAt (IsGroupWithin 18446744073709551614) mid at
  entry-room =
      said_at points words ready.key (IsGroupWithin 18446744073709551614) mid at key
      (subst (λ (ms : List Stored). All (λ (g : Grouped). IsGroupWithin 18446744073709551614 g.opening) (groups_shown points ms)) (sym made)
      (said_begun points words ready.key (IsGroupWithin 18446744073709551614) none (subst (IsGroupWithin 18446744073709551614) (sym is) (none-within 18446744073709551614 entry.game entry.node)) es ready.room))

  pub entry-added : (new : List Stored) → new ≡ changed (λ o. with_one o entry.outcome) mid at → AreKeys points new × (groups_shown points new ≡ with_entry (groups_shown points es) (entry_shown points words entry)) × IsKeyAt new at words × AreKeptIn es new
  entry-added new last =
      let own : IsKeyAt (begun es words none) at words = subst (λ (ms : List Stored). IsKeyAt ms at words) made key in
      let all : new ≡ changed (λ o. with_one o entry.outcome) (begun es words none) at = last ∙ ap (λ (ms : List Stored). changed (λ o. with_one o entry.outcome) ms at) made in (
        subst (AreKeys points) (sym all) (keys_changed points (λ o. with_one o entry.outcome) (begun es words none) at (keys_begun points words ready.key none es ready.keys)),
        ap (groups_shown points) all ∙ entry_counted points words ready.key (entry_shown points words entry) refl none is es at ready.keys own,
        subst (λ (ms : List Stored). IsKeyAt ms at words) (sym all) (kept-changed (λ o. with_one o entry.outcome) (begun es words none) at at words own),
        subst (AreKeptIn es) (sym all) (λ k ws there. kept-changed (λ o. with_one o entry.outcome) (begun es words none) at k ws (kept-begun words none es k ws there)),
      )

-- ---- one next move

module _ (points : ℕ) (words : List ℕ) (es : List Stored) (at : ℕ) (ready : IsReadyForEntry points words es) (key : IsKeyAt es at words) where
  pub next-room : IsSaidAt (IsGroupWithin 18446744073709551614) es at
  next-room = said_at points words ready.key (IsGroupWithin 18446744073709551614) es at key ready.room

  pub next-added : (played : Move) (outcome : Outcome) (new : List Stored) → new ≡ changed (λ o. with_rows o (with_row o.nexts played outcome)) es at → AreKeys points new × (groups_shown points new ≡ with_next (groups_shown points es) (next_shown points words played outcome)) × AreKeptIn es new
  next-added played outcome new all = (
    subst (AreKeys points) (sym all) (keys_changed points (λ o. with_rows o (with_row o.nexts played outcome)) es at ready.keys),
    ap (groups_shown points) all ∙ next_counted points words ready.key (next_shown points words played outcome) refl es at ready.keys key,
    subst (AreKeptIn es) (sym all) (kept-changed (λ o. with_rows o (with_row o.nexts played outcome)) es at),
  )

-- ---- one opening of more games

module _ (points : ℕ) (m : Stored) (es mid : List Stored) (at : ℕ) (words : List ℕ) (none more : Opening) (ready : IsReadyForGroup points m es) (own : words ≡ m.0) (all : more ≡ m.1) (sorted : AreSorted more.nexts) (is : none ≡ none_yet more.game more.node) (made : mid ≡ begun es words none) (key : IsKeyAt mid at words) where
  cells : AreCells points words
  cells = subst (AreCells points) (sym own) ready.key

  same : with_group (groups_shown points es) (record { canonical = cells_of points words; opening = more }) ≡ with_group (groups_shown points es) (group_shown points m)
  same = λ i. with_group (groups_shown points es) (record { canonical = cells_of points (own i); opening = all i })

  there : IsKeyAt (begun es words none) at words
  there = subst (λ (ms : List Stored). IsKeyAt ms at words) made key

  pub group-room : IsSaidAt (λ o. IsGroupWithin 18446744073709551615 (opening_with o more)) mid at
  group-room =
      subst (λ (ms : List Stored). IsSaidAt (λ o. IsGroupWithin 18446744073709551615 (opening_with o more)) ms at) (sym made)
      (said_with points words cells more sorted none is es ready.keys (IsGroupWithin 18446744073709551615) at there
      (subst (λ (gs : List Grouped). All (λ (g : Grouped). IsGroupWithin 18446744073709551615 g.opening) gs) (sym same) ready.room))

  pub group-added : (new : List Stored) → new ≡ changed (λ o. opening_with o more) mid at → AreKeys points new × (groups_shown points new ≡ with_group (groups_shown points es) (group_shown points m))
  group-added new last =
      let whole : new ≡ changed (λ o. opening_with o more) (begun es words none) at = last ∙ ap (λ (ms : List Stored). changed (λ o. opening_with o more) ms at) made in (
        subst (AreKeys points) (sym whole) (keys_changed points (λ o. opening_with o more) (begun es words none) at (keys_begun points words cells none es ready.keys)),
        ap (groups_shown points) whole ∙ group_counted points words cells more sorted none is es ready.keys at there ∙ same,
      )
