-- What the statements of a run leave behind for those after them.
use Rattle.std.specs.Prelude.{ℕ, List, []}
use Rattle.info_filter.specs.declared.filter.Filter.{Filter}
use Rattle.pattern_images.specs.declared.hit.Hit.{Hit}
use Rattle.pattern_images.specs.declared.query.Query.{Query}
use Rattle.hit_collectors.specs.Boxes.{all_with_hits}
use Rattle.hit_collectors.specs.Tallies.{BoxTally}

-- a watched search: its name, what it looks for, how many games it covers, from the first one on,
-- and the hits in these
pub record Watched : Type 0 where
  pub name : List ℕ
  pub query : Query
  pub filter : Filter
  pub covered : ℕ
  pub hits : List Hit

-- what a session keeps from statement to statement: what its boxes tell, in order, and its watched
-- searches, in order of their statements
pub record SessionState : Type 0 where
  pub boxes : List BoxTally
  pub watches : List Watched

-- a session with boxes that tell this, and with these watched searches
abbrev pub session_of : List BoxTally → List Watched → SessionState
session_of boxes watches = record { boxes = boxes; watches = watches }

-- a session with boxes that tell this, which has answered nothing
abbrev pub new_session : List BoxTally → SessionState
new_session boxes = session_of boxes []

-- the same with other boxes
abbrev pub with_boxes : SessionState → List BoxTally → SessionState
with_boxes session boxes = record session { boxes = boxes }

-- the same with other watched searches
abbrev pub with_watches : SessionState → List Watched → SessionState
with_watches session watches = record session { watches = watches }

-- the same when each box was given these hits
abbrev pub fed_with : List Hit → SessionState → SessionState
fed_with hits session = with_boxes session (all_with_hits hits session.boxes)
