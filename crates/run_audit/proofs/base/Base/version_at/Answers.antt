use Rattle.std.proofs.Common.{◌<◌, ap, arith, length, rules, sym}
use Rattle.std.proofs.lemmas.Grind.{common_steps}
use Rattle.std.specs.Arc.{arc_value}
use Rattle.run_audit.specs.Standing.{Kept}
use Rattle.run_audit.proofs.BaseSteps.{part-at, version-more, version-room}
use Rattle.run_audit.proofs.base.Base.version_at.Goals as goal

pub push_part-requires-clause-room : goal.push_part-requires-clause-room
push_part-requires-clause-room c =
    let below : c.loop-at.at < length c.args.self.now.ahead = first_of (search rules, grind (arith, common_steps)) in
    version-room c.args.self.now c.loop-at.at c.loop-at.version (arc_value c.in_ok-clone.field-0) c.requires.fits below
    (part-at arc_value c.self.inside.ahead.items c.args.self.now.ahead c.loop-at.at c.index.result.now c.in_ok-clone.field-0 (sym (ap (λ (k : Kept). k.ahead) c.self.view_is)) below c.index.ensures c.in_ok-clone.ensures.cases)
    c.loop-at.invariant.games

pub loop-at-preserved : goal.loop-at-preserved
loop-at-preserved c =
    let below : c.loop-at.at < length c.args.self.now.ahead = first_of (search rules, grind (arith, common_steps)) in record {
      number_is = omega (arith, c.loop-at.invariant.number_is, c.in_ok-push_part.ensures.number);
      games =
          version-more c.args.self.now c.loop-at.at c.loop-at.version c.push_part.new.version (arc_value c.in_ok-clone.field-0) below
          (part-at arc_value c.self.inside.ahead.items c.args.self.now.ahead c.loop-at.at c.index.result.now c.in_ok-clone.field-0 (sym (ap (λ (k : Kept). k.ahead) c.self.view_is)) below c.index.ensures c.in_ok-clone.ensures.cases)
          c.loop-at.invariant.games c.in_ok-push_part.ensures.games;
    }
