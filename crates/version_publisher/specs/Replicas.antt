-- A copy of the published value and its changes, as plain data.
use Rattle.std.specs.Prelude.{List, map, fold}
use Rattle.std.specs.Arc.{arc_value}
use Rattle.version_publisher.specs.declared.replica.Replica.{Replica}
use Rattle.version_publisher.specs.declared.replica.Change.{Change}
use Rattle.version_publisher.specs.declared.replica.Change.TheVariants.{Append, MergeLast}
use Rattle.version_publisher.specs.declared.state.Content.{Content}
use Rattle.version_publisher.specs.Contents.{content, extended, merged_content}

module _ {P A : Type 0} (items : P → List A) where
  -- what a copy has in common with the other copy
  abbrev pub content_of : Replica P A → Content A
  content_of b = content b.number (map (λ a. items (arc_value a)) b.parts.items) b.token.log
      b.token.book

  -- the content after a change
  abbrev pub changed : Content A → Change P A → Content A
  changed c (Append parts n token) = extended c n (map (λ a. items (arc_value a)) parts.items)
      token.log token.book
  changed c (MergeLast part) = merged_content c (items (arc_value part))

  -- the content of a copy after these changes, made in order
  abbrev pub content_after : Replica P A → List (Change P A) → Content A
  content_after b changes = fold changed (content_of b) changes
