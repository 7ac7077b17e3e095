use Rattle.std.proofs.Common.{◌≡◌, ◌-◌, ◌<◌, ◌∙◌, ap, arith, length, subst, sym}
use Rattle.opening_tree.specs.Keys.{IsNoKey, KeyList, bucket_in, key_at, keys_in, number_of, with_key}
use Rattle.opening_tree.proofs.KeyTables.{is_same_key, is_other_key, key_within, link-below, link-read, number-found, searched-found, searched-next, searched-none, searched-start, with_key-found}
use Rattle.opening_tree.proofs.keys.Keys.find.Goals as goal

pub bucket_in-requires : goal.bucket_in-requires
bucket_in-requires c = omega (arith, c.self.invariant.some, c.len.ensures, c.self.inside.heads.ok.0)

pub loop-next-init : goal.loop-next-init
loop-next-init c =
    let t = c.self.inside in
    let in_range : c.bucket_in.result < length t.heads.items = omega (arith, c.bucket_in.ensures.below, c.len.ensures, t.heads.ok.0) in
    searched-start t.width t.words.items t.nexts.items t.heads.items c.self.invariant c.args.key.now c.bucket_in.result c.index-next.result.now
    (c.bucket_in.ensures.value ∙ (λ i. bucket_in (c.requires.hash i) ((c.len.ensures ∙ t.heads.ok.0) i))) in_range
    (link-read t.heads.items c.bucket_in.result c.index-next.result.now in_range c.index-next.ensures)

pub key_at-requires : goal.key_at-requires
key_at-requires c =
    let t = c.self.inside in
    omega (arith, ap length c.as_slice.ensures.value, c.self.invariant.counted, key_within t.width (c.loop-next.next - 1) (length t.nexts.items) (omega (arith, c.loop-next.invariant.below, c.loop-next-test.true)))

pub returns-then-eq-clause-number : goal.returns-then-eq-clause-number
returns-then-eq-clause-number c =
    let t = c.self.inside in
    let at = c.loop-next.next - 1 in
    let is : key_at t.width at t.words.items ≡ c.args.key.now = sym (c.key_at.ensures ∙ ap (key_at t.width at) c.as_slice.ensures.value) ∙ is_same_key c.key_at.result.now c.args.key.now c.eq.result c.eq.ensures c.if-eq.true in
    sym (number-found (keys_in t.width (length t.nexts.items) t.words.items) c.args.key.now at
    (searched-found t.width t.words.items t.nexts.items t.heads.items c.self.invariant c.args.key.now at (omega (arith, c.loop-next.invariant.below, c.loop-next-test.true)) is))
    ∙ ap (λ (v : KeyList). number_of c.args.key.now v.keys) c.self.view_is

pub returns-then-eq-clause-there : goal.returns-then-eq-clause-there
returns-then-eq-clause-there c =
    let t = c.self.inside in
    let at = c.loop-next.next - 1 in
    let is : key_at t.width at t.words.items ≡ c.args.key.now = sym (c.key_at.ensures ∙ ap (key_at t.width at) c.as_slice.ensures.value) ∙ is_same_key c.key_at.result.now c.args.key.now c.eq.result c.eq.ensures c.if-eq.true in
    subst (λ (v : KeyList). v.keys ≡ with_key v.keys c.args.key.now) c.self.view_is
    (with_key-found (keys_in t.width (length t.nexts.items) t.words.items) c.args.key.now at
    (searched-found t.width t.words.items t.nexts.items t.heads.items c.self.invariant c.args.key.now at (omega (arith, c.loop-next.invariant.below, c.loop-next-test.true)) is))

pub index-next-requires-in-loop-next : goal.index-next-requires-in-loop-next
index-next-requires-in-loop-next c = omega (arith, c.loop-next.invariant.below, c.loop-next-test.true, c.self.inside.nexts.ok.0)

pub loop-next-smaller : goal.loop-next-smaller
loop-next-smaller c =
    let t = c.self.inside in
    let lt : c.loop-next.next - 1 < length t.nexts.items = omega (arith, c.loop-next.invariant.below, c.loop-next-test.true) in
    omega (
      arith,
      link-below t.width t.words.items t.nexts.items t.heads.items c.self.invariant (c.loop-next.next - 1) lt,
      link-read t.nexts.items (c.loop-next.next - 1) c.index-next-in-loop-next.result.now lt c.index-next-in-loop-next.ensures,
      c.loop-next-test.true,
    )

pub loop-next-preserved : goal.loop-next-preserved
loop-next-preserved c =
    let t = c.self.inside in
    let at = c.loop-next.next - 1 in
    let lt : at < length t.nexts.items = omega (arith, c.loop-next.invariant.below, c.loop-next-test.true) in
    searched-next t.width t.words.items t.nexts.items t.heads.items c.self.invariant c.args.key.now c.loop-next.next at c.index-next-in-loop-next.result.now c.loop-next.invariant
    (omega (arith, c.loop-next-test.true))
    (λ e. is_other_key c.key_at.result.now c.args.key.now c.eq.result c.eq.ensures c.if-eq.false (c.key_at.ensures ∙ ap (key_at t.width at) c.as_slice.ensures.value ∙ e))
    (link-read t.nexts.items at c.index-next-in-loop-next.result.now lt c.index-next-in-loop-next.ensures)

pub returns-clause-none : goal.returns-clause-none
returns-clause-none c =
    let t = c.self.inside in
    subst (λ (v : KeyList). IsNoKey v.keys c.args.key.now) c.self.view_is
    (searched-none t.width t.words.items t.nexts.items t.heads.items c.self.invariant c.args.key.now c.loop-next.next c.loop-next.invariant (omega (arith, c.loop-next-test.false)))
