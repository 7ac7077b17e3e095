use Rattle.std.proofs.Common.{◌<◌, ◌∙◌, [], ap, arith, length, sym}
use Rattle.std.specs.Prelude.{slice_index_or}
use Rattle.opening_tree.specs.Keys.{KeyList, key_at}
use Rattle.opening_tree.proofs.KeyTables.{get_or-keys, key_within, length-keys}
use Rattle.opening_tree.proofs.keys.Keys.key.Goals as goal

pub key_at-requires : goal.key_at-requires
key_at-requires c =
    let t = c.self.inside in
    omega (
      arith,
      ap length c.as_slice.ensures.value,
      c.self.invariant.counted,
      key_within t.width c.args.at (length t.nexts.items) (omega (arith, c.requires, ap (λ (v : KeyList). length v.keys) c.self.view_is, length-keys t.width (length t.nexts.items) t.words.items)),
    )

pub returns : goal.returns
returns c =
    let t = c.self.inside in
    let lt : c.args.at < length t.nexts.items = omega (arith, c.requires, ap (λ (v : KeyList). length v.keys) c.self.view_is, length-keys t.width (length t.nexts.items) t.words.items) in
    c.key_at.ensures ∙ ap (key_at t.width c.args.at) c.as_slice.ensures.value
    ∙ sym (get_or-keys t.width (length t.nexts.items) t.words.items c.args.at [] lt)
    ∙ ap (λ (v : KeyList). slice_index_or v.keys c.args.at []) c.self.view_is
