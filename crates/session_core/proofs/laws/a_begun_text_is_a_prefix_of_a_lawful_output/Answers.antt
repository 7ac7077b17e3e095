use Rattle.std.proofs.Common.{◌++◌}
use Rattle.session_core.specs.Lawful.{waiting_text}
use Rattle.session_core.proofs.WholeOutputs.{begun-completed, lawful-whole}
use Rattle.session_core.proofs.laws.a_begun_text_is_a_prefix_of_a_lawful_output.Goals as goal

pub returns : goal.returns
returns c files rules boxes placed course text begun =
    let h = begun-completed files rules boxes course placed text begun in
    (h.whole_course, h.whole ++ waiting_text h.state, lawful-whole files rules boxes course placed begun.state.log text h, h.prefix, h.losses)
