use Rattle.std.proofs.Common.{◌≡◌, ◌*◌, ◌<◌, ◌∙◌, ℕ, List, ap, arith, length, replicate, subst, sym}
use Rattle.std.specs.Prelude.{slice_index}
use Rattle.std.specs.Vec.{with_items}
use Rattle.std.proofs.lemmas.List.{get_or-replicate, length-replicate, with_items_is}
use Rattle.opening_tree.specs.Keys.{AreLinked, IsKeyTable}
use Rattle.opening_tree.proofs.KeyTables.{same-view, table-linked}
use Rattle.opening_tree.proofs.keys.Keys.make_room.Goals as goal

pub overflow_mul-len : goal.overflow_mul-len
overflow_mul-len c = omega (arith, c.self.invariant.few, c.if-len.false, c.len.ensures, c.len-2.ensures, c.len-3.ensures, c.self.inside.nexts.ok.0, c.self.inside.heads.ok.0)

pub link_all-requires-clause-counted : goal.link_all-requires-clause-counted
link_all-requires-clause-counted c =
    ap length c.as_slice.ensures.value ∙ c.self.invariant.counted
    ∙ ap (λ (ns : List ℕ). c.self.inside.width * length ns) (sym c.as_mut_slice.ensures.value)

pub link_all-requires-clause-few : goal.link_all-requires-clause-few
link_all-requires-clause-few c = omega (arith, c.self.invariant.few, ap length c.as_mut_slice.ensures.value)

pub link_all-requires-clause-some : goal.link_all-requires-clause-some
link_all-requires-clause-some c =
    let is : ◌≡◌ {A = List ℕ} c.in_ok-heads.heads.items (replicate (2 * c.len-3.result) 0) = c.in_ok-heads.ensures.items_if_clones_equal (λ y e. e) in
    omega (arith, ap length c.as_mut_slice-2.ensures.value, ap length is, length-replicate {A = ℕ} (2 * c.len-3.result) 0, c.len-3.ensures, c.self.inside.heads.ok.0, c.self.invariant.some)

pub link_all-requires-clause-none : goal.link_all-requires-clause-none
link_all-requires-clause-none c b lt =
    let is : ◌≡◌ {A = List ℕ} c.in_ok-heads.heads.items (replicate (2 * c.len-3.result) 0) = c.in_ok-heads.ensures.items_if_clones_equal (λ y e. e) in
    ap (λ (xs : List ℕ). slice_index xs b) (c.as_mut_slice-2.ensures.value ∙ is)
    ∙ get_or-replicate (2 * c.len-3.result) b 0 0 (omega (arith, lt, ap length c.as_mut_slice-2.ensures.value, ap length is, length-replicate {A = ℕ} (2 * c.len-3.result) 0))

pub invariant_of-self : goal.invariant_of-self
invariant_of-self c =
    let t = c.self.inside in
    let nexts = c.link_all.new.nexts in
    let heads = c.link_all.new.heads in
    let long : length nexts ≡ length t.nexts.items = c.link_all.ensures.counted ∙ ap length c.as_mut_slice.ensures.value in
    let is_nexts = with_items_is t.nexts nexts (long ∙ sym t.nexts.ok.0) in
    let is_heads = with_items_is c.in_ok-heads.heads heads (c.link_all.ensures.some ∙ ap length c.as_mut_slice-2.ensures.value ∙ sym c.in_ok-heads.heads.ok.0) in
    let is : ◌≡◌ {A = List ℕ} c.in_ok-heads.heads.items (replicate (2 * c.len-3.result) 0) = c.in_ok-heads.ensures.items_if_clones_equal (λ y e. e) in
    let some : 0 < length heads = omega (arith, c.link_all.ensures.some, ap length c.as_mut_slice-2.ensures.value, ap length is, length-replicate {A = ℕ} (2 * c.len-3.result) 0, c.len-3.ensures, t.heads.ok.0, c.self.invariant.some) in
    let linked : AreLinked t.width t.words.items (length heads) nexts heads (length t.nexts.items) =
    subst (λ n. AreLinked t.width t.words.items (length heads) nexts heads n) (ap length c.as_mut_slice.ensures.value)
    (subst (λ n. AreLinked t.width t.words.items n nexts heads (length c.as_mut_slice.result.now)) (sym c.link_all.ensures.some)
    (subst (λ (ws : List ℕ). AreLinked t.width ws (length c.as_mut_slice-2.result.now) nexts heads (length c.as_mut_slice.result.now)) c.as_slice.ensures.value c.link_all.ensures.linked)) in
    subst (λ (ns : List ℕ). IsKeyTable t.width t.words.items ns (with_items c.in_ok-heads.heads heads).items) (sym is_nexts)
    (subst (λ (hs : List ℕ). IsKeyTable t.width t.words.items nexts hs) (sym is_heads)
    (table-linked t.width t.words.items t.nexts.items nexts t.heads.items heads c.self.invariant long some linked))

pub returns : goal.returns
returns c =
    let t = c.self.inside in
    let nexts = c.link_all.new.nexts in
    let long : length nexts ≡ length t.nexts.items = c.link_all.ensures.counted ∙ ap length c.as_mut_slice.ensures.value in
    same-view t.width t.words.items (length (with_items t.nexts nexts).items) (length t.nexts.items) c.args.self.now (ap length (with_items_is t.nexts nexts (long ∙ sym t.nexts.ok.0)) ∙ long) c.self.view_is
