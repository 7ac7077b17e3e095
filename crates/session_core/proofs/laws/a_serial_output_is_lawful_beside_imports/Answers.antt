use Rattle.session_core.proofs.SerialOutputs.{lawful-beside}
use Rattle.session_core.proofs.laws.a_serial_output_is_lawful_beside_imports.Goals as goal

pub returns : goal.returns
returns c = λ files rules boxes placed course out lawful. lawful-beside files rules boxes course placed out lawful
