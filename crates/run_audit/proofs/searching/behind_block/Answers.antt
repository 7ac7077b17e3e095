use Rattle.std.proofs.Common.{◌≡◌, ◌∙◌, ◌+◌, ◌++◌, ap, arith, drop, max, rules, subst, sym}
use Rattle.std.proofs.lemmas.Grind.{common_steps}
use Rattle.session_core.specs.Stores.{view_of}
use Rattle.run_audit.specs.Standing.{DepartsIn, kept_last, least_named}
use Rattle.run_audit.proofs.BlockStates.{BlocksTo, block-departs-guided, block-passes, blocks-head-depart, blocks-more, blocks-next, blocks-number-depart, blocks-over, blocks-text-depart, greatest-low, search-watches}
use Rattle.run_audit.proofs.Departures.{number-departs-within, same_error}
use Rattle.run_audit.proofs.NamedStates.{number-told, number-within}
use Rattle.run_audit.proofs.searching.behind_block.Goals as goal

pub returns-in_err-rest-clause-departs : goal.returns-in_err-rest-clause-departs
returns-in_err-rest-clause-departs g c = λ count is files recorded rules p same own.
    let next = blocks-next c.args.serial c.args.base.now c.args.session.now c.args.left.now c.args.searches.now c.loop-p.left.now c.loop-p.session c.loop-p.greatest c.loop-p.p-index c.p-item.result c.loop-p-test.true c.p-item.is c.loop-p.invariant.so_far in
    block-departs-guided files recorded c.args.left.now p c.args.searches.now own c.args.serial rules same c.args.base.now c.requires c.args.session.now count
    (blocks-head-depart c.args.serial c.args.base.now c.requires c.args.session.now c.args.left.now c.args.searches.now c.p-item.result (drop (c.loop-p.p-index + 1) c.args.searches.now) c.loop-p.left.now c.loop-p.session c.loop-p.greatest next count
    (subst (λ t. DepartsIn c.loop-p.left.now t count) (c.deref.ensures.value ∙ c.in_ok-head.ensures)
    (c.behind.ensures.departs count (same_error _ _ _ _ c.from_residual-in_err-rest.ensures.1 c.in_err-rest.was is))))

pub returns-in_err-number-clause-departs : goal.returns-in_err-number-clause-departs
returns-in_err-number-clause-departs g c = λ count is files recorded rules p same own.
    let next = blocks-next c.args.serial c.args.base.now c.args.session.now c.args.left.now c.args.searches.now c.loop-p.left.now c.loop-p.session c.loop-p.greatest c.loop-p.p-index c.p-item.result c.loop-p-test.true c.p-item.is c.loop-p.invariant.so_far in
    let told = number-told c.in_ok-rest.rest.now (least_named c.args.serial c.args.base.now) (kept_last c.args.base.now) c.least_named.result c.last.result count c.least_named.ensures.value c.last.ensures
    (c.number_named.ensures.departs count (same_error _ _ _ _ c.from_residual-in_err-number.ensures.1 c.in_err-number.was is)) in
    block-departs-guided files recorded c.args.left.now p c.args.searches.now own c.args.serial rules same c.args.base.now c.requires c.args.session.now count
    (blocks-number-depart c.args.serial c.args.base.now c.requires c.args.session.now c.args.left.now c.args.searches.now c.p-item.result (drop (c.loop-p.p-index + 1) c.args.searches.now) c.loop-p.left.now c.loop-p.session c.loop-p.greatest next
    c.in_ok-rest.rest.now (c.in_ok-rest.ensures.ok ∙ ap (λ h. h ++ c.in_ok-rest.rest.now) (c.deref.ensures.value ∙ c.in_ok-head.ensures))
    (least_named c.args.serial c.args.base.now) count told.0 told.1)

pub returns-in_err-left-clause-departs : goal.returns-in_err-left-clause-departs
returns-in_err-left-clause-departs g c = λ count is files recorded rules p same own.
    let next = blocks-next c.args.serial c.args.base.now c.args.session.now c.args.left.now c.args.searches.now c.loop-p.left.now c.loop-p.session c.loop-p.greatest c.loop-p.p-index c.p-item.result c.loop-p-test.true c.p-item.is c.loop-p.invariant.so_far in
    let within = number-within c.in_ok-number.number (least_named c.args.serial c.args.base.now) (kept_last c.args.base.now) c.least_named.result c.last.result c.least_named.ensures.value c.last.ensures c.in_ok-number.ensures.there.0 in
    block-departs-guided files recorded c.args.left.now p c.args.searches.now own c.args.serial rules same c.args.base.now c.requires c.args.session.now count
    (blocks-text-depart c.args.serial c.args.base.now c.requires c.args.session.now c.args.left.now c.args.searches.now c.p-item.result (drop (c.loop-p.p-index + 1) c.args.searches.now) c.loop-p.left.now c.loop-p.session c.loop-p.greatest next
    c.in_ok-rest.rest.now (c.in_ok-rest.ensures.ok ∙ ap (λ h. h ++ c.in_ok-rest.rest.now) (c.deref.ensures.value ∙ c.in_ok-head.ensures))
    c.in_ok-number.number within c.in_ok-number.ensures.there.1 c.in_ok-version.version c.in_ok-version.ensures count
    (c.behind_search.ensures.departs count (same_error _ _ _ _ c.from_residual-in_err-left.ensures.1 c.in_err-left.was is)))

pub loop-p-preserved : goal.loop-p-preserved
loop-p-preserved g c =
    let next = blocks-next c.args.serial c.args.base.now c.args.session.now c.args.left.now c.args.searches.now c.loop-p.left.now c.loop-p.session c.loop-p.greatest c.loop-p.p-index c.p-item.result c.loop-p-test.true c.p-item.is c.loop-p.invariant.so_far in
    let within = number-within c.in_ok-number.number (least_named c.args.serial c.args.base.now) (kept_last c.args.base.now) c.least_named.result c.last.result c.least_named.ensures.value c.last.ensures c.in_ok-number.ensures.there.0 in
    let to = within.to in
    let top : c.max-greatest.result ≡ max c.loop-p.greatest c.in_ok-number.number = first_of (search rules, grind (arith, common_steps)) in
    let found = c.in_ok-left.ensures.stands in record {
      watched = search-watches c.p-item.result.line (view_of c.in_ok-version.version) c.p-item.result c.loop-p.session found.0 c.behind_search.new.session found.2 ∙ c.loop-p.invariant.watched;
      low = greatest-low c.loop-p.greatest c.in_ok-number.number c.max-greatest.result (kept_last c.args.base.now) top c.loop-p.invariant.low to;
      shorter = omega (arith, c.in_ok-left.ensures.shorter, c.loop-p.invariant.shorter);
      so_far =
          subst (λ n. BlocksTo c.args.serial c.args.base.now c.args.session.now c.args.left.now c.args.searches.now (drop (c.loop-p.p-index + 1) c.args.searches.now) c.in_ok-left.left.now c.behind_search.new.session n) (sym top)
          (blocks-more c.args.serial c.args.base.now c.requires c.args.session.now c.args.left.now c.args.searches.now c.p-item.result (drop (c.loop-p.p-index + 1) c.args.searches.now) c.loop-p.left.now c.loop-p.session c.loop-p.greatest next
          c.in_ok-rest.rest.now (c.in_ok-rest.ensures.ok ∙ ap (λ h. h ++ c.in_ok-rest.rest.now) (c.deref.ensures.value ∙ c.in_ok-head.ensures))
          c.in_ok-number.number within c.in_ok-number.ensures.there.1 c.in_ok-version.version c.in_ok-version.ensures found.0 c.in_ok-left.left.now c.behind_search.new.session found.1 found.2);
    }

pub returns-clause-passed : goal.returns-clause-passed
returns-clause-passed g c = λ files recorded rules p same own.
    block-passes files recorded c.args.left.now p c.args.searches.now own c.args.serial rules same c.args.base.now c.requires c.args.session.now c.loop-p.left.now c.loop-p.session c.loop-p.greatest c.raise.new.self
    (blocks-over c.args.serial c.args.base.now c.args.session.now c.args.left.now c.args.searches.now c.loop-p.left.now c.loop-p.session c.loop-p.greatest c.loop-p.p-index (omega (arith, c.loop-p-test.false)) c.loop-p.invariant.so_far)
    c.loop-p.invariant.low c.in_ok-raise.ensures.raised

pub returns-in_err-rest-clause-within : goal.returns-in_err-rest-clause-within
returns-in_err-rest-clause-within g c = λ count is.
    let here = c.behind.ensures.within count (same_error _ _ _ _ c.from_residual-in_err-rest.ensures.1 c.in_err-rest.was is) in
    omega (arith, here, c.loop-p.invariant.shorter)

pub returns-in_err-number-clause-within : goal.returns-in_err-number-clause-within
returns-in_err-number-clause-within g c = λ count is.
    let told = c.number_named.ensures.departs count (same_error _ _ _ _ c.from_residual-in_err-number.ensures.1 c.in_err-number.was is) in
    omega (arith, number-departs-within c.in_ok-rest.rest.now c.least_named.result count told.1, c.in_ok-rest.ensures.shorter, c.loop-p.invariant.shorter)

pub returns-in_err-left-clause-within : goal.returns-in_err-left-clause-within
returns-in_err-left-clause-within g c = λ count is.
    let here = c.behind_search.ensures.within count (same_error _ _ _ _ c.from_residual-in_err-left.ensures.1 c.in_err-left.was is) in
    omega (arith, here, c.loop-p.invariant.shorter)
