-- The number that is taken from a record: it is allowed, and there is one and one only.
use Rattle.std.proofs.Common.{◌≡◌, ◌∙◌, ◌⊎◌, inl, inr, ℕ, ◌+◌, ◌^◌, ◌<◌, ◌≤◌, true, false, List, [], ◌∷◌, ◌++◌, refl, sym, ap, ap₂, subst, append_assoc, arith, true≢false, le_antisymm}
use Rattle.std.specs.Prelude.{◌&&◌, Bool, max, min, if◌then◌else◌}
use Rattle.std.specs.Char.{digit_value, is_ascii_digit}
use Rattle.std.specs.Fmt.{decimal}
use Rattle.std.specs.Str.Parse.{AllDigits, digits_value}
use Rattle.std.proofs.lemmas.Bool.{cases_eq, cases_lt, le-leb}
use Rattle.std.proofs.lemmas.Fmt.{decimal_is_IsNumeral}
use Rattle.std.proofs.lemmas.List.{append_cancel_left}
use Rattle.std.proofs.lemmas.Str.Parse.{digit_from_value}
use Rattle.pattern_images.proofs.Tellings.{Told, least_below, told_both, told_le}
use Rattle.session_core.specs.Lawful.{IsAwaited, IsNamed, Rules, State, last_of}
use Rattle.run_audit.specs.Chosen.{BeginsWithoutDigit, IsChosen, StandsAt}
use Rattle.run_audit.specs.Standing.{IsWithin}

-- ---- one number stands at one place

-- a byte that has the value of a digit is one
digit-told : (byte : ℕ) → digit_value byte < 10 → is_ascii_digit byte ≡ true
digit-told byte small =
    let range = digit_from_value byte small in ap₂ (λ x y. x && y) (le-leb 48 byte range.0) (le-leb byte 57 range.1)

-- digits are parted from what doesn't begin with one in one way
pub digits-split : (a b x y : List ℕ) → AllDigits 10 a → AllDigits 10 b → BeginsWithoutDigit x → BeginsWithoutDigit y → a ++ x ≡ b ++ y → a ≡ b
digits-split [] [] x y da db ex ey e = refl
digits-split [] (c ∷ cs) [] y da db ex ey e = absurd ex
digits-split [] (c ∷ cs) (v ∷ vs) y da db ex ey e =
    let same : c ≡ v = cc in absurd (true≢false (sym (digit-told c db.0) ∙ ap is_ascii_digit same ∙ ex))
digits-split (c ∷ cs) [] x [] da db ex ey e = absurd ey
digits-split (c ∷ cs) [] x (v ∷ vs) da db ex ey e =
    let same : c ≡ v = cc in absurd (true≢false (sym (digit-told c da.0) ∙ ap is_ascii_digit same ∙ ey))
digits-split (c ∷ cs) (d ∷ ds) x y da db ex ey e =
    let heads : c ≡ d = cc in
    let tails : cs ++ x ≡ ds ++ y = cc in
    let rest = digits-split cs ds x y da.1 db.1 ex ey tails in cc

pub stands-one : (bytes : List ℕ) (m n : ℕ) → m < 2 ^ 64 → n < 2 ^ 64 → StandsAt bytes m → StandsAt bytes n → m ≡ n
stands-one bytes m n m_few n_few a b =
    let one = decimal_is_IsNumeral m m_few in
    let other = decimal_is_IsNumeral n n_few in
    let same = digits-split (decimal m) (decimal n) a.behind b.behind one.0.1 other.0.1 a.ended b.ended (sym a.begins ∙ b.begins) in
    sym one.1 ∙ ap (digits_value 10) same ∙ other.1

ended-behind : (behind more : List ℕ) → BeginsWithoutDigit behind → BeginsWithoutDigit (behind ++ more)
ended-behind [] more ended = absurd ended
ended-behind (byte ∷ bytes) more ended = ended

-- a number stands also where more follows
pub stands-behind : (bytes more : List ℕ) (n : ℕ) → StandsAt bytes n → StandsAt (bytes ++ more) n
stands-behind bytes more n h = record {
  behind = h.behind ++ more;
  begins = ap (λ t. t ++ more) h.begins ∙ append_assoc (decimal n) h.behind more;
  ended = ended-behind h.behind more h.ended;
}

-- ---- the number that is taken

-- it is allowed
pub chosen-allowed : (IsAllowed : ℕ → Type 0) (left : List ℕ) (number : ℕ) → IsChosen IsAllowed left number → IsAllowed number
chosen-allowed IsAllowed left number (IsChosen.read allowed stands) = allowed
chosen-allowed IsAllowed left number (IsChosen.least none allowed first) = allowed

-- there is one only
pub chosen-one : (IsAllowed : ℕ → Type 0) → ((k : ℕ) → IsAllowed k → k < 2 ^ 64) → (left : List ℕ) (m n : ℕ) → IsChosen IsAllowed left m → IsChosen IsAllowed left n → m ≡ n
chosen-one IsAllowed few left m n (IsChosen.read allowed stands) (IsChosen.read also too) = stands-one left m n (few m allowed) (few n also) stands too
chosen-one IsAllowed few left m n (IsChosen.read allowed stands) (IsChosen.least none also first) = absurd (none m allowed stands)
chosen-one IsAllowed few left m n (IsChosen.least none allowed first) (IsChosen.read also too) = absurd (none n also too)
chosen-one IsAllowed few left m n (IsChosen.least none allowed first) (IsChosen.least nor also least) = le_antisymm (first n also) (least m allowed)

-- ---- there is one

-- whether a text begins with another one
told_prefix : (xs ys : List ℕ) → Told ((rest : List ℕ) × (ys ≡ xs ++ rest))
told_prefix [] ys = inl (ys, refl)
told_prefix (x ∷ xs) [] = inr (λ h. let e = h.1 in absurd cc)
told_prefix (x ∷ xs) (y ∷ ys) = elim (cases_eq y x) [
  | inl same ↦ elim (told_prefix xs ys) [
    | inl (rest, e) ↦ inl (rest, ap₂ (λ b bs. b ∷ bs) same e)
    | inr not ↦ inr (λ h. let e = h.1 in not (h.0, cc))
  ]
  | inr other ↦ inr (λ h. let e = h.1 in let same : y ≡ x = cc in other same)
]

told_ended : (bytes : List ℕ) → Told (BeginsWithoutDigit bytes)
told_ended [] = inr (λ h. h)
told_ended (byte ∷ bytes) = elim (is_ascii_digit byte) as (λ b. Told (b ≡ false)) [ true ↦ inr true≢false | false ↦ inl refl ]

-- whether a number stands at the front
told_stands : (bytes : List ℕ) (n : ℕ) → Told (StandsAt bytes n)
told_stands bytes n = elim (told_prefix (decimal n) bytes) [
  | inl (rest, e) ↦ elim (told_ended rest) [
    | inl ended ↦ inl (record { behind = rest; begins = e; ended = ended })
    | inr not ↦ inr (λ h. not (subst BeginsWithoutDigit (append_cancel_left (decimal n) h.behind rest (sym h.begins ∙ e)) h.ended))
  ]
  | inr not ↦ inr (λ h. not (h.behind, h.begins))
]

told_within : (least last n : ℕ) → Told (IsWithin least last n)
told_within least last n = elim (told_le least n) [
  | inl from ↦ elim (told_le n last) [
    | inl to ↦ inl (record { from = from; to = to })
    | inr not ↦ inr (λ h. not h.to)
  ]
  | inr not ↦ inr (λ h. not h.from)
]

-- of the numbers from the least to the last one is taken
pub chosen-found : (least last : ℕ) → least ≤ last → (left : List ℕ) → (n : ℕ) × IsChosen (IsWithin least last) left n
chosen-found least last some left =
    elim (least_below (λ k. IsWithin least last k × StandsAt left k) (λ k. told_both (IsWithin least last k) (StandsAt left k) (told_within least last k) (told_stands left k)) (last + 1)) [
      | inl found ↦ (found.0, IsChosen.read found.2.0 found.2.1)
      | inr none ↦ (least, IsChosen.least (λ k within stands. none k (let to = within.to in omega arith) (within, stands)) (record { from = omega arith; to = some }) (λ k within. within.from))
    ]

-- the same numbers are allowed
pub chosen-same : (P Q : ℕ → Type 0) → ((k : ℕ) → P k → Q k) → ((k : ℕ) → Q k → P k) → (left : List ℕ) (n : ℕ) → IsChosen P left n → IsChosen Q left n
chosen-same P Q to back left n (IsChosen.read allowed stands) = IsChosen.read (to n allowed) stands
chosen-same P Q to back left n (IsChosen.least none allowed first) = IsChosen.least (λ k q. none k (back k q)) (to n allowed) (λ k q. first k (back k q))

-- ---- the numbers that a statement may name

-- they are those from a least one to the last
abbrev pub first_of : Bool → State → ℕ → ℕ
first_of serial s least = if serial then last_of s else least

abbrev pub first_named : Rules → State → ℕ
first_named rules s = first_of rules.serial s s.floor

abbrev pub least_late : State → ℕ → ℕ
least_late s awaited = max s.floor (min awaited (last_of s))

abbrev pub first_awaited : Rules → State → ℕ → ℕ
first_awaited rules s awaited = first_of rules.serial s (least_late s awaited)

module _ (rules : Rules) (s : State) where
  pub within-named : (b : Bool) (least n : ℕ) → rules.serial ≡ b → IsNamed rules s n → least ≤ n → IsWithin (first_of b s least) (last_of s) n
  within-named true least n is h le = let same = h.serial is in record { from = omega (arith, same); to = h.to }
  within-named false least n is h le = record { from = le; to = h.to }

  pub named-within : (b : Bool) (least n : ℕ) → rules.serial ≡ b → s.floor ≤ last_of s → s.floor ≤ least → IsWithin (first_of b s least) (last_of s) n → IsNamed rules s n
  named-within true least n is floor le w =
      let from : last_of s ≤ n = w.from in
      let to = w.to in
      let same : n ≡ last_of s = omega arith in record { from = omega (arith, floor, from); to = to; serial = λ one. same }
  named-within false least n is floor le w =
      let from : least ≤ n = w.from in record { from = omega (arith, from, le); to = w.to; serial = λ one. absurd (true≢false (sym one ∙ is)) }

  pub first-few : (b : Bool) (least : ℕ) → least ≤ last_of s → first_of b s least ≤ last_of s
  first-few true least le = omega arith
  first-few false least le = le

  -- one of them is taken
  pub named-found : s.floor ≤ last_of s → (left : List ℕ) → (n : ℕ) × IsChosen (IsNamed rules s) left n
  named-found floor left =
      let found = chosen-found (first_named rules s) (last_of s) (first-few rules.serial s.floor floor) left in
      let le : s.floor ≤ s.floor = omega arith in (
        found.0,
        chosen-same (IsWithin (first_named rules s) (last_of s)) (IsNamed rules s)
            (λ k w. named-within rules.serial s.floor k refl floor le w)
            (λ k h. within-named rules.serial s.floor k refl h h.from)
            left found.0 found.1,
      )

  -- one that is late enough, or the last
  pub late_awaited : (awaited n : ℕ) → IsAwaited rules s awaited n → least_late s awaited ≤ n
  late_awaited awaited n h =
      let from = h.named.from in
      elim h.reached [
        | inl reached ↦ omega (arith, from, reached)
        | inr last ↦ omega (arith, from, last)
      ]

  pub awaited_late : (awaited n : ℕ) → n ≤ last_of s → least_late s awaited ≤ n → (awaited ≤ n) ⊎ (n ≡ last_of s)
  awaited_late awaited n to late = elim (cases_lt n awaited) [
    | inl early ↦ inr (omega (arith, to, late, early))
    | inr reached ↦ inl reached
  ]

  -- in a serial run only the last may be named
  pub reached-within : (b : Bool) (awaited n : ℕ) → IsWithin (first_of b s (least_late s awaited)) (last_of s) n → (awaited ≤ n) ⊎ (n ≡ last_of s)
  reached-within true awaited n w =
      let from : last_of s ≤ n = w.from in
      let to = w.to in inr (omega (arith, from, to))
  reached-within false awaited n w = awaited_late awaited n w.to w.from

  -- of those that a statement may name that awaits a version one is taken
  pub awaited-found : s.floor ≤ last_of s → (awaited : ℕ) (left : List ℕ) → (n : ℕ) × IsChosen (IsAwaited rules s awaited) left n
  awaited-found floor awaited left =
      let least = least_late s awaited in
      let few : least ≤ last_of s = omega (arith, floor) in
      let le : s.floor ≤ least = omega arith in
      let found = chosen-found (first_awaited rules s awaited) (last_of s) (first-few rules.serial least few) left in (
        found.0,
        chosen-same (IsWithin (first_awaited rules s awaited) (last_of s)) (IsAwaited rules s awaited)
            (λ k w. record { named = named-within rules.serial least k refl floor le w; reached = reached-within rules.serial awaited k w })
            (λ k h. within-named rules.serial least k refl h.named (late_awaited awaited k h))
            left found.0 found.1,
      )
