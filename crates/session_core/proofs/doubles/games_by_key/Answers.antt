use Rattle.std.proofs.Common.{[], arith}
use Rattle.session_core.proofs.KeysOfGames.{entries-next, groups-all}
use Rattle.session_core.specs.Grouping.{entries_of, key_of}
use Rattle.session_core.proofs.doubles.games_by_key.Goals as goal

pub loop-number-preserved : goal.loop-number-preserved
loop-number-preserved c =
    entries-next c.args.games.now c.args.forms.now c.loop-number.number c.index-games-number.result (record { bytes = [] }) (key_of c.of-key.result) (entries_of c.loop-number.by_key.entries) (entries_of c.add_game.new.by_key.entries)
    c.loop-number-test.true (omega (arith, c.loop-number-test.true, c.requires.as_many)) c.index-games-number.is c.of-key.ensures c.loop-number.invariant c.in_ok-add_game.ensures

pub returns : goal.returns
returns c = groups-all c.args.games.now c.args.forms.now c.loop-number.number (entries_of c.loop-number.by_key.entries) c.loop-number-test.false c.requires.as_many c.loop-number.invariant
