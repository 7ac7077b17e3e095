use Rattle.run_audit.proofs.OwnGuided.{own-guided}
use Rattle.run_audit.proofs.laws.a_lawful_output_guides_itself.Goals as goal

pub returns : goal.returns
returns c = λ files rules boxes script placed course out some spelled names lawful. own-guided files rules boxes script placed course out spelled names lawful
