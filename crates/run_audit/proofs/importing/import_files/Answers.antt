use Rattle.std.proofs.Common.{◌≡◌, ◌∙◌, ◌≤◌, [], All, arith, inl, inr, length, map, rules, subst, sym}
use Rattle.std.specs.Prelude.{string_bytes}
use Rattle.std.proofs.lemmas.Bool.{false≢true}
use Rattle.std.proofs.lemmas.Grind.{common_steps}
use Rattle.std.proofs.lemmas.List.{length-map}
use Rattle.kb_edges.specs.Files.{HasFile}
use Rattle.import_work.specs.Course.{AreNames}
use Rattle.run_audit.specs.Importing.{FilesTo}
use Rattle.run_audit.specs.Shown.{is_shown_unread}
use Rattle.run_audit.proofs.FilesFound.{all-files, import-found, import-too-many, import-unlisted}
use Rattle.run_audit.proofs.importing.import_files.Goals as goal

pub returns-then-shown-clause-imported : goal.returns-then-shown-clause-imported
returns-then-shown-clause-imported g c = λ all told recorded shows. import-unlisted all c.args.path.now c.args.batch _ _ c.args.base.now (inl (sym shows.unlisted ∙ c.if-shown.true))

pub returns-in_default-clause-imported : goal.returns-in_default-clause-imported
returns-in_default-clause-imported g c = λ all told recorded shows. import-unlisted all c.args.path.now c.args.batch _ _ c.args.base.now (inr (c.in_ok-names.ensures.missing all told c.in_default.is))

pub returns-then-len-gt-MAX_NAMES-clause-imported : goal.returns-then-len-gt-MAX_NAMES-clause-imported
returns-then-len-gt-MAX_NAMES-clause-imported g c = λ all told recorded shows.
    let is = (rw c.in-Some.is at c.in_ok-names.ensures.told) all told in
    let long : c.len-listed.result ≡ length c.in-Some.names.items = first_of (search rules, grind (arith, common_steps)) in
    import-too-many all c.args.path.now c.args.batch _ _ (sym shows.unlisted ∙ c.if-shown.false) c.args.base.now _
    (record {
      names = map string_bytes c.in-Some.names.items;
      path_there = is.0;
      are_names = is.1;
      counted = long ∙ sym (length-map c.in-Some.names.items string_bytes);
      many = omega (arith, c.len.ensures, c.len-listed.ensures, c.if-len-gt-MAX_NAMES.true);
    })

pub import_names-requires-clause-there : goal.import_names-requires-clause-there
import_names-requires-clause-there g c = λ all told.
    subst (λ l. All (HasFile all c.args.path.now) (map string_bytes l)) (sym c.deref.ensures.value)
    (all-files all c.args.path.now (map string_bytes c.in-Some.names.items) ((rw c.in-Some.is at c.in_ok-names.ensures.told) all (sym c.listed_names.ensures.same ∙ told)).1)

pub returns-clause-imported : goal.returns-clause-imported
returns-clause-imported g c = λ all told recorded shows.
    let is = (rw c.in-Some.is at c.in_ok-names.ensures.told) all told in
    let few : length c.deref.result.now ≤ 100000 = first_of (search rules, grind (arith, common_steps)) in
    import-found all c.args.path.now c.args.batch _ _ (sym shows.unlisted ∙ c.if-shown.false) (map string_bytes c.deref.result.now) c.args.base.now _ _ is.0
    (subst (λ l. AreNames all c.args.path.now (map string_bytes l)) (sym c.deref.ensures.value) is.1) (omega (arith, few, length-map c.deref.result.now string_bytes))
    (subst (λ ls. FilesTo all c.args.path.now c.args.batch (is_shown_unread recorded c.args.shown.now.line) (map string_bytes c.deref.result.now) [] c.args.base.now c.import_names.new.base ls) (sym c.new.ensures)
    (c.in_ok-lines.ensures.imported all (c.listed_names.ensures.same ∙ told) recorded shows))

pub returns-in_err-names-clause-unasked : goal.returns-in_err-names-clause-unasked
returns-in_err-names-clause-unasked g c = λ recorded shows is. absurd (false≢true (sym c.if-shown.false ∙ shows.unlisted ∙ is))

pub returns-in_default-clause-unasked : goal.returns-in_default-clause-unasked
returns-in_default-clause-unasked g c = λ recorded shows is. absurd (false≢true (sym c.if-shown.false ∙ shows.unlisted ∙ is))

pub returns-then-len-gt-MAX_NAMES-clause-unasked : goal.returns-then-len-gt-MAX_NAMES-clause-unasked
returns-then-len-gt-MAX_NAMES-clause-unasked g c = λ recorded shows is. absurd (false≢true (sym c.if-shown.false ∙ shows.unlisted ∙ is))

pub returns-in_err-lines-clause-unasked : goal.returns-in_err-lines-clause-unasked
returns-in_err-lines-clause-unasked g c = λ recorded shows is. absurd (false≢true (sym c.if-shown.false ∙ shows.unlisted ∙ is))

pub returns-clause-unasked : goal.returns-clause-unasked
returns-clause-unasked g c = λ recorded shows is. absurd (false≢true (sym c.if-shown.false ∙ shows.unlisted ∙ is))
