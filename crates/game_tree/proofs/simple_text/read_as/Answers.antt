use Rattle.game_tree.specs.SimpleText.{itself, white}
use Rattle.game_tree.proofs.simple_text.read_as.Goals as goal

pub returns-then-b-le32 : goal.returns-then-b-le32
returns-then-b-le32 c = white c.if-b-le32.true c.requires.feed c.requires.return_

pub returns-else-b-le32 : goal.returns-else-b-le32
returns-else-b-le32 c = itself c.if-b-le32.false
