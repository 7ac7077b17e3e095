use Rattle.std.proofs.lemmas.Result.{IfOk-weaker}
use Rattle.segment_store.proofs.GamesOfPlanes.{ArePlanesFor-found, ArePlanesFor-join, ArePlanesFor-neither, ArePlanesFor-none}
use Rattle.segment_store.proofs.block.joined_on.Goals as goal

pub returns-in-Some-Some : goal.returns-in-Some-Some
returns-in-Some-Some c =
    let w = c.in-Some-Some in
    let first = ArePlanesFor-found c.args.shape c.args.a.now c.planes.result.now w.one.now c.planes.ensures.value w.ensures.some in
    let second = ArePlanesFor-found c.args.shape c.args.b.now c.planes-2.result.now w.other.now c.planes-2.ensures.value w.ensures'.some in
    IfOk-weaker c.join.result _ _ (λ both e. ArePlanesFor-join c.args.shape c.args.a.now c.args.b.now w.one.now w.other.now first second both e) c.join.ensures

pub returns-in_ok-none-in-Some-None : goal.returns-in_ok-none-in-Some-None
returns-in_ok-none-in-Some-None c =
    let w = c.in-Some-None in
    let made = c.in_ok-none-in-Some-None in
    let first = ArePlanesFor-found c.args.shape c.args.a.now c.planes.result.now w.one.now c.planes.ensures.value w.ensures.some in
    let second = ArePlanesFor-none c.args.shape c.args.b.now c.planes-2.result.now c.planes-2.ensures.value w.ensures'.none c.len.result c.len.ensures.value made.field-0 made.ensures in
    IfOk-weaker c.join-in-Some-None-2.result _ _ (λ both e. ArePlanesFor-join c.args.shape c.args.a.now c.args.b.now w.one.now made.field-0 first second both e) c.join-in-Some-None-2.ensures

pub returns-in_ok-none-in-None-Some : goal.returns-in_ok-none-in-None-Some
returns-in_ok-none-in-None-Some c =
    let w = c.in-None-Some in
    let made = c.in_ok-none-in-None-Some in
    let first = ArePlanesFor-none c.args.shape c.args.a.now c.planes.result.now c.planes.ensures.value w.ensures.none c.len-in-None-Some.result c.len-in-None-Some.ensures.value made.field-0 made.ensures in
    let second = ArePlanesFor-found c.args.shape c.args.b.now c.planes-2.result.now w.other.now c.planes-2.ensures.value w.ensures'.some in
    IfOk-weaker c.join-in-None-Some-2.result _ _ (λ both e. ArePlanesFor-join c.args.shape c.args.a.now c.args.b.now made.field-0 w.other.now first second both e) c.join-in-None-Some-2.ensures

pub returns-in-None-None : goal.returns-in-None-None
returns-in-None-None c =
    let w = c.in-None-None in
    IfOk-weaker c.none-in-None-None.result _ _ (λ made e. ArePlanesFor-neither c.args.shape c.args.a.now c.planes.result.now c.planes.ensures.value w.ensures.none c.args.b.now c.planes-2.result.now c.planes-2.ensures.value w.ensures'.none
    c.len-in-None-None.result c.len-in-None-None-2.result c.len-in-None-None.ensures.value c.len-in-None-None-2.ensures.value made e) c.none-in-None-None.ensures
