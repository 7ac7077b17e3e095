use Rattle.std.proofs.Common.{◌∙◌, [], sym}
use Rattle.std.proofs.lemmas.List.{append-nil}
use Rattle.sgf_writer.specs.Walk.{before_child}
use Rattle.sgf_writer.proofs.Closings.{closed_behind}
use Rattle.sgf_writer.proofs.walk.write_behind.Goals as goal

pub returns-in-Some-clause-text : goal.returns-in-Some-clause-text
returns-in-Some-clause-text c = ([], before_child (sym c.first_child.ensures.value ∙ c.in-Some.is), sym (append-nil c.args.out.now.items))

pub returns-in-None-clause-text : goal.returns-in-None-clause-text
returns-in-None-clause-text c =
    closed_behind c.args.tree.now c.args.n c.args.out.now.items c.write_closings.new.out.items c.write_closings.result (sym c.first_child.ensures.value ∙ c.in-None.is) c.write_closings.ensures.text
