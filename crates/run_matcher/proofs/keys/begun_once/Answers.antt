use Rattle.std.proofs.Common.{ℕ, ◌+◌, ◌∷◌, ◌++◌, List, [], ap, arith, get_or, subst₂, sym, ◌∙◌}
use Rattle.std.proofs.lemmas.List.{get_or_default}
use Rattle.run_matcher.specs.declared.begun.Begun.{Begun}
use Rattle.run_matcher.proofs.SortedKeys.{AreOnceTo, once-all, once-more, once-passed}
use Rattle.run_matcher.proofs.keys.begun_once.Goals as goal
use Rattle.run_matcher.proofs.keys.begun_once.Goals.{then-number-next+in_ok-push, else-number-next}

pub loop-key-preserved : goal.loop-key-preserved
loop-key-preserved c =
    let keys = c.args.keys.now in
    let i = c.loop-key.key-index in
    let lt = c.loop-key-test.true in
    let key = get_or keys i 0 in
    let found = c.loop-key.found.items in
    let is = get_or_default keys i 0 key lt in
    elim c.if-number-next.branch [
      | then-number-next+in_ok-push w ↦
          subst₂ (λ (n : ℕ) (bs : List Begun). AreOnceTo keys (i + 1) n bs) (sym w.next-is) (sym (ap (λ v. v.items) w.found-is))
          (once-more keys c.requires i c.loop-key.next key found lt is c.loop-key.invariant w.push.new.self.items (w.in_ok-push.ensures.items ∙ ap (λ (b : Begun). found ++ b ∷ []) w.begun.ensures) w.if-number-next.true)
      | else-number-next w ↦
          subst₂ (λ (n : ℕ) (bs : List Begun). AreOnceTo keys (i + 1) n bs) (sym w.next-is) (sym (ap (λ v. v.items) w.found-is))
          (once-passed keys c.requires i c.loop-key.next key found lt is c.loop-key.invariant w.if-number-next.false)
    ]

pub returns-clause-all : goal.returns-clause-all
returns-clause-all c = λ b h.
    once-all c.args.keys.now c.loop-key.key-index c.loop-key.next c.loop-key.found.items (omega (arith, c.loop-key-test.false)) c.loop-key.invariant b h
