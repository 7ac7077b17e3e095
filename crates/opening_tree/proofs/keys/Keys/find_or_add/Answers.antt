use Rattle.std.proofs.Common.{◌≡◌, IfOk, OnErr, OnOk, length, subst, sym}
use Rattle.opening_tree.specs.Keys.{IsNoKey, KeyList, number_of, with_key}
use Rattle.opening_tree.proofs.keys.Keys.find_or_add.Goals as goal

pub push-requires-clause-width : goal.push-requires-clause-width
push-requires-clause-width c = subst (λ (v : KeyList). length c.args.key.now ≡ v.width) (sym c.in_ok-make_room.ensures) c.requires

pub push-requires-clause-none : goal.push-requires-clause-none
push-requires-clause-none c = subst (λ (v : KeyList). IsNoKey v.keys c.args.key.now) (sym c.in_ok-make_room.ensures) c.in_default.ensures.none

pub returns-clause-width : goal.returns-clause-width
returns-clause-width c = subst (λ (v : KeyList). c.push.new.self.width ≡ v.width) c.in_ok-make_room.ensures c.push.ensures.width

pub returns-clause-number : goal.returns-clause-number
returns-clause-number c = subst (λ (v : KeyList). IfOk c.push.result (λ at. at ≡ number_of c.args.key.now v.keys)) c.in_ok-make_room.ensures c.push.ensures.number

pub returns-clause-keys : goal.returns-clause-keys
returns-clause-keys c = subst (λ (v : KeyList). OnOk c.push.result (c.push.new.self.keys ≡ with_key v.keys c.args.key.now)) c.in_ok-make_room.ensures c.push.ensures.keys

pub returns-clause-unchanged : goal.returns-clause-unchanged
returns-clause-unchanged c = subst (λ (v : KeyList). OnErr c.push.result (c.push.new.self ≡ v)) c.in_ok-make_room.ensures c.push.ensures.unchanged
