use Rattle.std.proofs.Common.{refl}
use Rattle.query_script.proofs.Quoted.{not_quoted}
use Rattle.query_script.proofs.words.unescaped.Goals as goal

pub returns-in_default-behind_quote-clause-none :
    goal.returns-in_default-behind_quote-clause-none
returns-in_default-behind_quote-clause-none c =
    not_quoted _ c.loop-byte.bytes.items c.loop-byte.rest.now c.loop-byte.invariant (c.in_default.ensures.none refl) (c.in_default-behind_quote.ensures.none refl)
