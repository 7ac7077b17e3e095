use Rattle.kb_geometry.specs.declared.stone.Cell.TheVariants as cell
use Rattle.final_index.proofs.NotedBits.{AreSetsNoted-all}
use Rattle.final_index.proofs.planes.note_sets.Goals as goal

pub note-requires-clause-on_board : goal.note-requires-clause-on_board
note-requires-clause-on_board c = c.requires.on_board cell.Empty

pub note-requires-2-clause-on_board : goal.note-requires-2-clause-on_board
note-requires-2-clause-on_board c = c.requires.on_board cell.Black

pub note-requires-3-clause-on_board : goal.note-requires-3-clause-on_board
note-requires-3-clause-on_board c = c.requires.on_board cell.White

pub returns : goal.returns
returns c = AreSetsNoted-all c.args.points c.args.sets.now c.args.game c.args.words.now c.note.new.words c.note-2.new.words c.note-3.new.words c.note.ensures c.note-2.ensures c.note-3.ensures
