use Rattle.std.proofs.Common.{◌≡◌, ◌+◌, ◌<◌, ◌∙◌, ◌++◌, ◌∷◌, [], ℕ, List, ap, arith, length, set, subst, sym}
use Rattle.opening_tree.specs.Keys.{IsKeyTable, IsNoKey, KeyList, bucket_in, keys_in, number_of, with_key}
use Rattle.opening_tree.proofs.KeyTables.{keys-more, length-keys, link-read, number-new, table-pushed}
use Rattle.opening_tree.proofs.keys.Keys.push.Goals as goal

pub invariant_of-self : goal.invariant_of-self
invariant_of-self c = subst (λ (ns : List ℕ). IsKeyTable c.self.inside.width c.self.inside.words.items ns c.self.inside.heads.items) (sym c.reserve.ensures.items) c.self.invariant

pub invariant_of-self-in_err-extend_from_slice : goal.invariant_of-self-in_err-extend_from_slice
invariant_of-self-in_err-extend_from_slice c =
    subst (λ (ws : List ℕ). IsKeyTable c.self.inside.width ws c.reserve.new.self.items c.self.inside.heads.items) (sym c.in_err-extend_from_slice.ensures.items)
    (subst (λ (ns : List ℕ). IsKeyTable c.self.inside.width c.self.inside.words.items ns c.self.inside.heads.items) (sym c.reserve.ensures.items) c.self.invariant)

pub bucket_in-bucket-requires : goal.bucket_in-bucket-requires
bucket_in-bucket-requires c = omega (arith, c.self.invariant.some, c.len.ensures, c.self.inside.heads.ok.0)

pub invariant_of-self-2 : goal.invariant_of-self-2
invariant_of-self-2 c =
    let t = c.self.inside in
    let key = c.args.key.now in
    let head = c.index.result.now in
    let bucket = c.bucket_in-bucket.result in
    let link = c.len-at.result + 1 in
    let words : c.extend_from_slice.new.self.items ≡ t.words.items ++ key = c.in_ok-extend_from_slice.ensures.items in
    let nexts : c.push_reserved.new.self.items ≡ t.nexts.items ++ head ∷ [] = c.push_reserved.ensures.items ∙ ap (λ (ns : List ℕ). ns ++ head ∷ []) c.reserve.ensures.items in
    let lt : bucket < length t.heads.items = omega (arith, c.bucket_in-bucket.ensures.below, c.len.ensures, t.heads.ok.0) in
    subst (λ (ws : List ℕ). IsKeyTable t.width ws c.push_reserved.new.self.items (set t.heads.items bucket link)) (sym words)
    (subst (λ (ns : List ℕ). IsKeyTable t.width (t.words.items ++ key) ns (set t.heads.items bucket link)) (sym nexts)
    (table-pushed t.width t.words.items t.nexts.items t.heads.items key c.self.invariant (c.requires.width ∙ sym (ap (λ (v : KeyList). v.width) c.self.view_is))
    (subst (λ (v : KeyList). IsNoKey v.keys key) (sym c.self.view_is) c.requires.none)
    (omega (arith, c.if-at-ge-MOST.false, c.len-at.ensures, t.nexts.ok.0))
    bucket head link
    (c.bucket_in-bucket.ensures.value ∙ (λ i. bucket_in (c.requires.hash i) ((c.len.ensures ∙ t.heads.ok.0) i)))
    lt (link-read t.heads.items bucket head lt c.index.ensures) (omega (arith, c.len-at.ensures, t.nexts.ok.0))))

pub returns-clause-number : goal.returns-clause-number
returns-clause-number c =
    let t = c.self.inside in
    let none = subst (λ (v : KeyList). IsNoKey v.keys c.args.key.now) (sym c.self.view_is) c.requires.none in
    c.len-at.ensures ∙ t.nexts.ok.0 ∙ sym (length-keys t.width (length t.nexts.items) t.words.items)
    ∙ sym (number-new (keys_in t.width (length t.nexts.items) t.words.items) c.args.key.now none)
    ∙ ap (λ (v : KeyList). number_of c.args.key.now v.keys) c.self.view_is

pub returns-clause-keys : goal.returns-clause-keys
returns-clause-keys c =
    let t = c.self.inside in
    let key = c.args.key.now in
    let head = c.index.result.now in
    let words : c.extend_from_slice.new.self.items ≡ t.words.items ++ key = c.in_ok-extend_from_slice.ensures.items in
    let nexts : c.push_reserved.new.self.items ≡ t.nexts.items ++ head ∷ [] = c.push_reserved.ensures.items ∙ ap (λ (ns : List ℕ). ns ++ head ∷ []) c.reserve.ensures.items in
    ap (λ (ns : List ℕ). keys_in t.width (length ns) c.extend_from_slice.new.self.items) nexts
    ∙ ap (keys_in t.width (length (t.nexts.items ++ head ∷ []))) words
    ∙ keys-more t.width t.words.items t.nexts.items t.heads.items key c.self.invariant (c.requires.width ∙ sym (ap (λ (v : KeyList). v.width) c.self.view_is))
    (subst (λ (v : KeyList). IsNoKey v.keys key) (sym c.self.view_is) c.requires.none) head
    ∙ ap (λ (v : KeyList). with_key v.keys key) c.self.view_is
