use Rattle.std.proofs.Common.{◌∙◌, ◌++◌, ap, codes}
use Rattle.sgf_writer.specs.Parts.{head_text, information_text}
use Rattle.sgf_writer.specs.Written.{text_property}
use Rattle.kb_geometry.proofs.Lists.{appended_twice}
use Rattle.sgf_writer.proofs.Appends.{seven_regrouped}
use Rattle.sgf_writer.proofs.nodes.write_root.Goals as goal

pub returns-clause-ok : goal.returns-clause-ok
returns-clause-ok c =
    let info = c.args.info.now in
    appended_twice c.args.out.now.items (head_text c.args.shape) (information_text info) c.in_ok-write_head.ensures.ok c.in_ok-write_information.ensures.ok
    ∙ ap (λ t. c.args.out.now.items ++ t)
    (seven_regrouped (head_text c.args.shape) (text_property (codes "PB") info.black) (text_property (codes "PW") info.white) (text_property (codes "EV") info.event) (text_property (codes "PC") info.place) (text_property (codes "DT") info.date) (text_property (codes "RE") info.outcome_text))
