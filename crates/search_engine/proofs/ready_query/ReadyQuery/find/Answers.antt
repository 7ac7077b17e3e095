use Rattle.std.proofs.lemmas.Option.{IfSome_then}
use Rattle.search_engine.proofs.ReadyOnShapes.{found_on, none_on}
use Rattle.search_engine.proofs.ready_query.ReadyQuery.find.Goals as goal

pub returns-clause-shape : goal.returns-clause-shape
returns-clause-shape c = IfSome_then c.ready_on.result c.ready_on.ensures.some (λ found told. told.0)

pub returns-clause-for_board : goal.returns-clause-for_board
returns-clause-for_board c =
    IfSome_then c.ready_on.result c.ready_on.ensures.some
    (λ found told. (found_on c.self.inside.query.now c.self.inside.ready.items c.deref.result.now c.args.self.now c.self.view_is c.deref.ensures.value c.args.shape c.self.invariant found.now told).for_board)

pub returns-clause-placements : goal.returns-clause-placements
returns-clause-placements c =
    IfSome_then c.ready_on.result c.ready_on.ensures.some
    (λ found told. (found_on c.self.inside.query.now c.self.inside.ready.items c.deref.result.now c.args.self.now c.self.view_is c.deref.ensures.value c.args.shape c.self.invariant found.now told).placements)

pub returns-clause-among_shapes : goal.returns-clause-among_shapes
returns-clause-among_shapes c =
    IfSome_then c.ready_on.result c.ready_on.ensures.some
    (λ found told. (found_on c.self.inside.query.now c.self.inside.ready.items c.deref.result.now c.args.self.now c.self.view_is c.deref.ensures.value c.args.shape c.self.invariant found.now told).among_shapes)

pub returns-clause-none : goal.returns-clause-none
returns-clause-none c =
    none_on c.self.inside.query.now c.self.inside.ready.items c.deref.result.now c.args.self.now c.self.view_is c.deref.ensures.value c.args.shape c.ready_on.result c.ready_on.ensures.none
