use Rattle.std.proofs.Common.{◌≡◌, ◌∙◌, List, [], ◌∷◌, Some, ap, codes, map, refl, sym}
use Rattle.std.specs.Prelude.{String, slice_get, string_bytes}
use Rattle.std.specs.declared.alloc.Global.{Global}
use Rattle.run_audit.specs.AuditWords.{AsksForAudit}
use Rattle.run_audit.proofs.CourseSteps.{same-text}
use Rattle.run_audit.proofs.asked.task.Goals as goal

first_asks : (words : List (String Global)) (word : String Global) → Some word ≡ slice_get words 0 → string_bytes word ≡ codes "audit" → AsksForAudit (map string_bytes words)
first_asks [] word is audit = absurd cc
first_asks (w ∷ ws) word is audit = let same : word ≡ w = cc in ap string_bytes (sym same) ∙ audit

pub returns-in-Some : goal.returns-in-Some
returns-in-Some c = (
  (λ e. first_asks c.args.words.now c.in-Some.word.now c.in-Some.ensures.value (sym c.as_str.ensures.value ∙ same-text _ _ (sym c.eq.ensures ∙ c.if-eq.true))),
  (λ asks. refl),
)
