-- Each record has one verdict, and it is exact: told lawful where the record is a lawful output, told to
-- depart where it isn't.
use Rattle.std.proofs.Common.{◌≡◌, ◌∙◌, ◌⊎◌, inl, inr, ℕ, zero, suc, ◌<◌, ◌≤◌, true, false, List, [], ◌∷◌, length, take, Some, slice_get, refl, sym, ap, subst, arith}
use Rattle.std.specs.Str.{bytes_eq}
use Rattle.std.proofs.lemmas.Bool.{cases_eq, cases_lt, cases_order, false≢true}
use Rattle.kb_edges.specs.Files.{File}
use Rattle.hit_collectors.specs.Tallies.{BoxTally}
use Rattle.query_script.specs.declared.statement.Placed.{Placed}
use Rattle.import_work.specs.Course.{ImportCourse}
use Rattle.session_core.specs.Lawful.{IsLawful, Rules}
use Rattle.serial_run.specs.Script.{IsScript}
use Rattle.run_audit.specs.Guided.{IsGuided}
use Rattle.run_audit.specs.Laws.{VerdictsAreExact}
use Rattle.run_audit.specs.Verdict.{DepartsAt, HaveOneLineNames, IsUnlawful, IsVerdict, PartAt, departs_text, lawful_text, most_record_bytes, too_long_text}
use Rattle.run_audit.proofs.FewVersions.{few-script}
use Rattle.run_audit.proofs.GuidedFound.{guided-found}
use Rattle.run_audit.proofs.GuidedLawful.{guided-lawful}
use Rattle.run_audit.proofs.OneGuided.{guided-one}
use Rattle.run_audit.proofs.OwnGuided.{own-guided}

-- ---- where two texts part

part-behind : (x y : ℕ) (a b : List ℕ) (offset : ℕ) → x ≡ y → PartAt a b offset → PartAt (x ∷ a) (y ∷ b) (suc offset)
part-behind x y a b offset same part = record { same = λ i. same i ∷ part.same i; apart = part.apart }

first-same : (x y : ℕ) → Some x ≡ Some y → x ≡ y
first-same x y e = cc

-- they are one, or part somewhere
pub same-or-part : (a b : List ℕ) → (a ≡ b) ⊎ ((offset : ℕ) × PartAt a b offset)
same-or-part [] [] = inl refl
same-or-part [] (y ∷ b) = inr (0, record { same = refl; apart = λ e. cc })
same-or-part (x ∷ a) [] = inr (0, record { same = refl; apart = λ e. cc })
same-or-part (x ∷ a) (y ∷ b) = elim (cases_eq x y) [
  | inr other ↦ inr (0, record { same = refl; apart = λ e. other (first-same x y e) })
  | inl same ↦ elim (same-or-part a b) [
    | inl rest ↦ inl (λ i. same i ∷ rest i)
    | inr (offset, part) ↦ inr (suc offset, part-behind x y a b offset same part)
  ]
]

-- a text doesn't part from itself
pub part-none : (a b : List ℕ) (offset : ℕ) → a ≡ b → PartAt a b offset → ⊥
part-none a b offset same part = part.apart (ap (λ t. slice_get t offset) same)

-- before the place where they part they are the same
part-before : (a b : List ℕ) (m n : ℕ) → m < n → take n a ≡ take n b → slice_get a m ≡ slice_get b m
part-before a b m zero below same = absurd (omega arith)
part-before [] [] m (suc n) below same = refl
part-before [] (y ∷ b) m (suc n) below same = absurd (cc same)
part-before (x ∷ a) [] m (suc n) below same = absurd (cc same)
part-before (x ∷ a) (y ∷ b) zero (suc n) below same = let heads : x ≡ y = cc in ap (λ z. Some z) heads
part-before (x ∷ a) (y ∷ b) (suc m) (suc n) below same =
    let rest : take n a ≡ take n b = cc in part-before a b m n (omega arith) rest

-- they part at one place
pub part-one : (a b : List ℕ) (m n : ℕ) → PartAt a b m → PartAt a b n → m ≡ n
part-one a b m n one other = elim (cases_order m n) [
  | inl same ↦ same
  | inr (inl below) ↦ absurd (one.apart (part-before a b m n below other.same))
  | inr (inr above) ↦ absurd (other.apart (part-before a b n m above one.same))
]

-- ---- the lines of an audit

lines-apart : (one other : List ℕ) → bytes_eq one other ≡ false → bytes_eq other other ≡ true → one ≡ other → ⊥
lines-apart one other apart own same = false≢true (sym apart ∙ ap (λ t. bytes_eq t other) same ∙ own)

module _ (files : List File) (rules : Rules) (boxes : List BoxTally) (script : List ℕ) (placed : List Placed) (recorded : List ℕ)
    (some : 1 ≤ rules.batch) (spelled : IsScript script placed) (names : HaveOneLineNames files boxes) where
  abbrev Says : List ℕ → Type 0
  Says text = IsVerdict files rules boxes placed recorded text

  -- a lawful record doesn't depart
  lawful-stays : (course : List ImportCourse) (offset : ℕ) → IsLawful files rules boxes course placed recorded → DepartsAt files rules boxes placed recorded offset → ⊥
  lawful-stays course offset lawful (guided, is, part) =
      let own : IsGuided files rules boxes placed recorded recorded = (course, own-guided files rules boxes script placed course recorded spelled names lawful) in
      part-none recorded guided offset (guided-one files rules boxes recorded placed recorded guided (few-script rules script placed some spelled) own is) part

  -- there is a verdict
  pub verdict-found : (line : List ℕ) × Says line
  verdict-found = elim (cases_lt most_record_bytes (length recorded)) [
    | inl long ↦ (too_long_text, IsVerdict.too_long long)
    | inr short ↦ (let found = guided-found files rules boxes recorded placed (few-script rules script placed some spelled) in elim (same-or-part recorded found.0) [
      | inl same ↦
          (let is = subst (IsGuided files rules boxes placed recorded) (sym same) found.1 in (lawful_text, IsVerdict.lawful short is.0 (guided-lawful files rules boxes placed recorded is.0 recorded is.1)))
      | inr (offset, part) ↦ (departs_text offset, IsVerdict.departs short offset (found.0, found.1, part))
    ])
  ]

  -- the places at which a record departs are one
  departs-one : (m n : ℕ) → DepartsAt files rules boxes placed recorded m → DepartsAt files rules boxes placed recorded n → m ≡ n
  departs-one m n (guided, is, part) (again, is_too, part_too) =
      let same = guided-one files rules boxes recorded placed again guided (few-script rules script placed some spelled) is_too is in
      part-one recorded guided m n part (subst (λ g. PartAt recorded g n) same part_too)

  -- there is one only
  pub verdict-one : (one other : List ℕ) → Says one → Says other → one ≡ other
  verdict-one _ _ (IsVerdict.too_long long) (IsVerdict.too_long also) = refl
  verdict-one _ _ (IsVerdict.too_long long) (IsVerdict.lawful short course lawful) = absurd (omega (arith, long, short))
  verdict-one _ _ (IsVerdict.too_long long) (IsVerdict.departs short offset departs) = absurd (omega (arith, long, short))
  verdict-one _ _ (IsVerdict.lawful short course lawful) (IsVerdict.too_long long) = absurd (omega (arith, long, short))
  verdict-one _ _ (IsVerdict.lawful short course lawful) (IsVerdict.lawful also other too) = refl
  verdict-one _ _ (IsVerdict.lawful short course lawful) (IsVerdict.departs also offset departs) = absurd (lawful-stays course offset lawful departs)
  verdict-one _ _ (IsVerdict.departs short offset departs) (IsVerdict.too_long long) = absurd (omega (arith, long, short))
  verdict-one _ _ (IsVerdict.departs short offset departs) (IsVerdict.lawful also course lawful) = absurd (lawful-stays course offset lawful departs)
  verdict-one _ _ (IsVerdict.departs short offset departs) (IsVerdict.departs also place too) = ap departs_text (departs-one offset place departs too)

  -- what each of the lines says
  said-lawful : (text : List ℕ) → Says text → text ≡ lawful_text → (length recorded ≤ most_record_bytes) × ((course : List ImportCourse) × IsLawful files rules boxes course placed recorded)
  said-lawful _ (IsVerdict.too_long long) same = absurd (lines-apart too_long_text lawful_text refl refl same)
  said-lawful _ (IsVerdict.lawful short course lawful) same = (short, (course, lawful))
  said-lawful _ (IsVerdict.departs short offset departs) same = absurd (lines-apart (departs_text offset) lawful_text refl refl same)

  said-too_long : (text : List ℕ) → Says text → text ≡ too_long_text → most_record_bytes < length recorded
  said-too_long _ (IsVerdict.too_long long) same = long
  said-too_long _ (IsVerdict.lawful short course lawful) same = absurd (lines-apart lawful_text too_long_text refl refl same)
  said-too_long _ (IsVerdict.departs short offset departs) same = absurd (lines-apart (departs_text offset) too_long_text refl refl same)

  said-departs : (offset : ℕ) (text : List ℕ) → Says text → text ≡ departs_text offset → IsUnlawful files rules boxes placed recorded
  said-departs offset _ (IsVerdict.too_long long) same = absurd (lines-apart (departs_text offset) too_long_text refl refl (sym same))
  said-departs offset _ (IsVerdict.lawful short course lawful) same = absurd (lines-apart (departs_text offset) lawful_text refl refl (sym same))
  said-departs offset _ (IsVerdict.departs short place departs) same = λ course lawful. lawful-stays course place lawful departs

  pub verdicts-exact : VerdictsAreExact files rules boxes placed recorded
  verdicts-exact = record {
    lawful = (λ says. said-lawful lawful_text says refl, λ is. IsVerdict.lawful is.0 is.1.0 is.1.1);
    too_long = (λ says. said-too_long too_long_text says refl, λ long. IsVerdict.too_long long);
    departs = λ offset says. said-departs offset (departs_text offset) says refl;
  }
