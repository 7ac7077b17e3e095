-- Results and their errors, and values that may be missing.
use Rattle.std.proofs.Common.{◌≡◌, ℕ, Option, Some, None, IfNone, Result, Ok, Err}
use Rattle.query_script.specs.declared.statement.ScriptError.{ScriptError}
use Rattle.query_script.specs.declared.statement.ScriptError.TheVariants as error

-- what is read is no error
pub no_error : {T E X : Type 0} {x : T} {e : E} → ◌≡◌ {A = Result T E} (Ok x) (Err e) → X
no_error e = cc

-- two results with one error have the same error
pub same_error : {T E : Type 0} {x y : E} → ◌≡◌ {A = Result T E} (Err x) (Err y) → x ≡ y
same_error e = cc

-- an error names one line
pub same_bad_line : {T : Type 0} {a k : ℕ} → ◌≡◌ {A = Result T ScriptError} (Err (error.BadLine a)) (Err (error.BadLine k)) → a ≡ k
same_bad_line e = cc

-- what holds anyway holds where there is no value
pub without_value : {A X : Type 0} (o : Option A) → X → IfNone o X
without_value (Some a) x = tt
without_value None x = x
