-- The answer of a search.
use Rattle.version_publisher.specs.Contents.{items_in}
use Rattle.continuation_table.specs.Table.{IsTable}
use Rattle.search_engine.specs.declared.answer.Answer.{Answer}
use Rattle.search_engine.specs.declared.several.Asked.{Asked}
use Rattle.search_engine.specs.Hits.{AreHits}

-- The answer of a search: the hits of its query in the games of its version that its filter accepts,
-- which are numbered from 0, and their table.
pub record IsAnswerOf (asked : Asked) (answer : Answer) : Type 0 where
  pub hits : AreHits asked.query.now asked.filter.now (items_in asked.version.now.parts)
      answer.hits.items
  pub table : IsTable answer.hits.items answer.table
