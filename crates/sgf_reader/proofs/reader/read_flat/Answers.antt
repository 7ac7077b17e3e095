use Rattle.std.proofs.Common.{◌≡◌, ℕ, length, arith, subst}
use Rattle.std.proofs.lemmas.Result.{IfOk-weaker}
use Rattle.sgf_reader.specs.declared.fault.ReadError.{ReadError}
use Rattle.sgf_reader.specs.declared.fault.ReadError.TheVariants.{Fault}
use Rattle.sgf_reader.specs.Reading.{IsEndFault}
use Rattle.sgf_reader.specs.Stays.{HasReadTo, IsPastEnd}
use Rattle.sgf_reader.proofs.StepLemmas.{same_error}
use Rattle.sgf_reader.proofs.FaultsHere.{IsFirstFault-in}
use Rattle.sgf_reader.proofs.EndFaults.{past_end-first}
use Rattle.sgf_reader.proofs.Endings.{end-first, end-read}
use Rattle.sgf_reader.proofs.reader.read_flat.Goals as goal

pub returns-in_err-place-clause-fault : goal.returns-in_err-place-clause-fault
returns-in_err-place-clause-fault c = λ f is.
    let e = c.min-end.ensures in
    IsFirstFault-in _ _ f (omega arith) (omega arith) (c.read_bytes.ensures.fault f (same_error _ _ _ _ c.from_residual-in_err-place.ensures.1 c.in_err-place.was is))

pub returns-then-end-text-clause-fault : goal.returns-then-end-text-clause-fault
returns-then-end-text-clause-fault c = λ f is.
    let e = c.min-end.ensures in
    let result_is : c.fault_past_end.result ≡ Fault f = cc in
    let past = subst (λ (r : ReadError). IsPastEnd c.read_bytes.new.reading c.in_ok-place.place c.args.text.now c.min-end.result r) result_is c.fault_past_end.ensures in
    past_end-first _ _ _ _ (omega arith) c.if-end-text.true c.in_ok-place.ensures.ok f past

pub returns-clause-ok : goal.returns-clause-ok
returns-clause-ok c =
    let text = c.args.text.now in
    let e = c.min-end.ensures in
    let same : c.min-end.result ≡ length text = omega arith in
    let read = subst (λ (k : ℕ). HasReadTo text k c.read_bytes.new.reading c.in_ok-place.place) same c.in_ok-place.ensures.ok in
    IfOk-weaker _ _ _ (λ collection made. end-read text c.read_bytes.new.reading c.in_ok-place.place (omega arith) read collection made.0 made.1 made.2) c.finish.ensures.ok

pub returns-clause-fault : goal.returns-clause-fault
returns-clause-fault c = λ f is.
    let text = c.args.text.now in
    let e = c.min-end.ensures in
    let same : c.min-end.result ≡ length text = omega arith in
    let read = subst (λ (k : ℕ). HasReadTo text k c.read_bytes.new.reading c.in_ok-place.place) same c.in_ok-place.ensures.ok in
    let at_end = subst (λ (k : ℕ). IsEndFault c.read_bytes.new.reading c.in_ok-place.place k f) same (c.finish.ensures.fault f is) in
    end-first text c.read_bytes.new.reading c.in_ok-place.place (omega arith) read f at_end
