use Rattle.std.proofs.Common.{◌≡◌, ◌∙◌, ℕ, ◌-◌, Err, ap, arith, inl, inr, length, map, subst}
use Rattle.import_work.proofs.FileLemmas.{content_of-there, told_there}
use Rattle.run_audit.specs.AuditWords.{rules_of}
use Rattle.run_audit.specs.Verdict.{DepartsAt}
use Rattle.run_audit.proofs.AuditedRecords.{says-departs, says-lawful, says-too_long}
use Rattle.run_audit.proofs.auditing.verdict_of.Goals as goal

pub returns-in-Err-Missing-clause-unread : goal.returns-in-Err-Missing-clause-unread
returns-in-Err-Missing-clause-unread g c = λ is.
    let missing = ap Err c.in-Err-Missing.field-0-is in
    let (files, told) = told_there (g.F.Folder.files c.args.folder.now) (c.in-Err-Missing.ensures.missing_told missing) in
    inr (files, told, λ there. content_of-there files _ _ there (c.in-Err-Missing.ensures.missing missing files told))

pub returns-then-len-gt-MAX_LIMIT-clause-told : goal.returns-then-len-gt-MAX_LIMIT-clause-told
returns-then-len-gt-MAX_LIMIT-clause-told g c = λ files told script spelled.
    says-too_long files (rules_of c.args.said) (map (λ b. g.C.Collector.tally b) c.args.boxes.items) c.args.placed.now c.args.path.now c.in-Ok.recorded.items
    (c.in-Ok.ensures.there files told) (c.in-Ok.ensures.content files told) (omega (arith, c.len.ensures, c.if-len-gt-MAX_LIMIT.true))

pub returns-in-Ok-audit_statements-clause-told : goal.returns-in-Ok-audit_statements-clause-told
returns-in-Ok-audit_statements-clause-told g c = λ files told script spelled.
    says-lawful files (rules_of c.args.said) (map (λ b. g.C.Collector.tally b) c.args.boxes.items) c.args.placed.now c.args.path.now c.in-Ok.recorded.items
    (c.in-Ok.ensures.there files told) (c.in-Ok.ensures.content files told) (omega (arith, c.len.ensures, c.if-len-gt-MAX_LIMIT.false))
    (rw c.deref.ensures.value at (c.in-Ok-audit_statements.ensures.lawful files (c.in-Ok.ensures.same ∙ told) script spelled))

pub overflow_sub-result : goal.overflow_sub-result
overflow_sub-result g c =
    let within = c.in-Err-Departs.ensures.within c.in-Err-Departs.left (ap Err c.in-Err-Departs.field-0-is) in
    let same = ap length c.deref.ensures.value in
    omega (arith, within, same)

pub returns-in-Err-Departs-clause-told : goal.returns-in-Err-Departs-clause-told
returns-in-Err-Departs-clause-told g c = λ files told script spelled.
    let departs = rw c.deref.ensures.value at (c.in-Err-Departs.ensures.departs files (c.in-Ok.ensures.same ∙ told) script spelled c.in-Err-Departs.left (ap Err c.in-Err-Departs.field-0-is)) in
    let whole : length c.in-Ok.recorded.items ≡ c.len-in-Err-Departs.result = omega (arith, c.len-in-Err-Departs.ensures) in
    says-departs files (rules_of c.args.said) (map (λ b. g.C.Collector.tally b) c.args.boxes.items) c.args.placed.now c.args.path.now c.in-Ok.recorded.items
    (c.in-Ok.ensures.there files told) (c.in-Ok.ensures.content files told) (c.len-in-Err-Departs.result - c.in-Err-Departs.left) (omega (arith, c.len.ensures, c.if-len-gt-MAX_LIMIT.false))
    (subst (λ (n : ℕ). DepartsAt files (rules_of c.args.said) (map (λ b. g.C.Collector.tally b) c.args.boxes.items) c.args.placed.now c.in-Ok.recorded.items (n - c.in-Err-Departs.left)) whole departs.1)

pub returns-in-Err-FolderUnread-clause-unread : goal.returns-in-Err-FolderUnread-clause-unread
returns-in-Err-FolderUnread-clause-unread g c = λ is. inl (omega (arith, c.in-Ok.ensures.later, c.in-Err-FolderUnread.ensures.unread (ap Err c.in-Err-FolderUnread.field-0-is)))
