-- Sums of the digits of cells, each times its power of 3.
use Prim.Native.Nat.{zero}
use Rattle.std.proofs.Common.{◌≡◌, ◌≢◌, ℕ, suc, ◌+◌, ◌*◌, ◌^◌, ◌<◌, ◌≤◌, refl, sym, ◌∙◌, ap, subst, arith, inl, inr}
use Rattle.std.proofs.Math.Nat.{mul-le-mul_right, pow-suc}
use Rattle.std.proofs.lemmas.Bool.{cases_lt}
use Rattle.corner_index.specs.Corners.{sum_below}

pub sum_below-same : (n : ℕ) (f g : ℕ → ℕ) → ((k : ℕ) → k < n → f k ≡ g k) → sum_below n f ≡ sum_below n g
sum_below-same zero f g same = refl
sum_below-same (suc n) f g same =
    let before = sum_below-same n f g (λ k lt. same k (omega arith)) in
    let here = same n (omega arith) in
    omega (arith, before, here)

pub sum_below-add : (m n : ℕ) (f : ℕ → ℕ) → sum_below (m + n) f ≡ sum_below m f + sum_below n (λ i. f (m + i))
sum_below-add m zero f =
    let none : m + 0 ≡ m = omega arith in
    let sum : sum_below m f ≡ sum_below m f + 0 = omega arith in
    ap (λ n. sum_below n f) none ∙ sum
sum_below-add m (suc n) f =
    let before = sum_below-add m n f in
    let on : m + suc n ≡ suc (m + n) = omega arith in
    let last : sum_below (m + n) f + f (m + n) ≡ sum_below m f + (sum_below n (λ i. f (m + i)) + f (m + n)) = omega (arith, before) in
    ap (λ k. sum_below k f) on ∙ last

-- rows of six, one behind the other
pub sum_below-rows : (rows : ℕ) (f : ℕ → ℕ) → sum_below rows (λ j. sum_below 6 (λ i. f (6 * j + i))) ≡ sum_below (6 * rows) f
sum_below-rows zero f = refl
sum_below-rows (suc rows) f =
    let before = sum_below-rows rows f in
    let here : sum_below (6 * rows + 6) f ≡ sum_below (6 * rows) f + sum_below 6 (λ i. f (6 * rows + i)) = sum_below-add (6 * rows) 6 f in
    ap (λ s. s + sum_below 6 (λ i. f (6 * rows + i))) before ∙ sym here ∙ ap (λ n. sum_below n f) (omega arith)

pub sum_below-zero : (n : ℕ) (f : ℕ → ℕ) → ((k : ℕ) → k < n → f k ≡ 0) → sum_below n f ≡ 0
sum_below-zero zero f none = refl
sum_below-zero (suc n) f none =
    let before = sum_below-zero n f (λ k lt. none k (omega arith)) in
    let here = none n (omega arith) in
    omega (arith, before, here)

-- two functions that differ at one number alone
pub sum_below-one : (n : ℕ) (f g : ℕ → ℕ) (at : ℕ) → at < n → ((k : ℕ) → k < n → k ≢ at → f k ≡ g k) → sum_below n g + f at ≡ sum_below n f + g at
sum_below-one zero f g at lt same = absurd (omega arith)
sum_below-one (suc n) f g at lt same =
    elim (cases_lt at n) [
      | inl before ↦
          let rest = sum_below-one n f g at before (λ k low ne. same k (omega arith) ne) in
          let here = same n (omega arith) (λ e. omega (arith, before, e)) in
          omega (arith, rest, here)
      | inr last ↦
          let is : at ≡ n = omega arith in
          let rest = sum_below-same n f g (λ k low. same k (omega arith) (λ e. omega (arith, low, e, is))) in
          let one : f at ≡ f n = ap f is in
          let other : g at ≡ g n = ap g is in
          omega (arith, rest, one, other)
    ]

-- a term is at most the sum
pub sum_below-term : (n : ℕ) (f : ℕ → ℕ) (at : ℕ) → at < n → f at ≤ sum_below n f
sum_below-term zero f at lt = absurd (omega arith)
sum_below-term (suc n) f at lt =
    elim (cases_lt at n) [
      | inl before ↦
          let rest = sum_below-term n f at before in
          omega (arith, rest)
      | inr last ↦
          let is : at ≡ n = omega arith in
          let one : f at ≡ f n = ap f is in
          omega (arith, one)
    ]

-- digits below 3 make a number below the power of 3 that comes next
pub sum_below-digits : (n : ℕ) (digit : ℕ → ℕ) → ((k : ℕ) → digit k ≤ 2) → sum_below n (λ k. digit k * 3 ^ k) < 3 ^ n
sum_below-digits zero digit small = omega arith
sum_below-digits (suc n) digit small =
    let before = sum_below-digits n digit small in
    let here : digit n * 3 ^ n ≤ 2 * 3 ^ n = mul-le-mul_right (3 ^ n) (small n) in
    let next : 3 ^ suc n ≡ 3 ^ n * 3 = pow-suc 3 n in
    omega (arith, before, here, next)

-- a higher power is no less
pub power_grows : (k more : ℕ) → 3 ^ k ≤ 3 ^ (k + more)
power_grows k zero =
    let none : k ≡ k + 0 = omega arith in
    let own : 3 ^ k ≤ 3 ^ k = omega arith in
    subst (λ n. 3 ^ k ≤ 3 ^ n) none own
power_grows k (suc more) =
    let before = power_grows k more in
    let next : 3 ^ suc (k + more) ≡ 3 ^ (k + more) * 3 = pow-suc 3 (k + more) in
    let on : suc (k + more) ≡ k + suc more = omega arith in
    let grown : 3 ^ k ≤ 3 ^ suc (k + more) = omega (arith, before, next) in
    subst (λ n. 3 ^ k ≤ 3 ^ n) on grown

-- two numbers below a weight, each with a digit of this weight
same_digit : (w a b d e : ℕ) → a < w → b < w → a + d * w ≡ b + e * w → d ≡ e
same_digit w a b d e below under same =
    elim (cases_lt d e) [
      | inl less ↦
          let next : d + 1 ≤ e = omega (arith, less) in
          let more : (d + 1) * w ≤ e * w = mul-le-mul_right w next in
          absurd (omega (arith, below, under, same, more))
      | inr rest ↦
          elim (cases_lt e d) [
            | inl greater ↦
                let next : e + 1 ≤ d = omega (arith, greater) in
                let more : (e + 1) * w ≤ d * w = mul-le-mul_right w next in
                absurd (omega (arith, below, under, same, more))
            | inr equal ↦ omega (arith, rest, equal)
          ]
    ]

-- digits below 3 are known by their number
pub digits_same : (n : ℕ) (one other : ℕ → ℕ) → ((k : ℕ) → one k ≤ 2) → ((k : ℕ) → other k ≤ 2) → sum_below n (λ k. one k * 3 ^ k) ≡ sum_below n (λ k. other k * 3 ^ k) → (k : ℕ) → k < n → one k ≡ other k
digits_same zero one other small little same k lt = absurd (omega (arith, lt))
digits_same (suc n) one other small little same k lt =
    let first = sum_below-digits n one small in
    let second = sum_below-digits n other little in
    let here : one n ≡ other n = same_digit (3 ^ n) _ _ (one n) (other n) first second same in
    let weight : one n * 3 ^ n ≡ other n * 3 ^ n = ap (λ d. d * 3 ^ n) here in
    elim (cases_lt k n) [
      | inl low ↦
          let rest : sum_below n (λ j. one j * 3 ^ j) ≡ sum_below n (λ j. other j * 3 ^ j) = omega (arith, same, weight) in
          digits_same n one other small little rest k low
      | inr last ↦
          let is : n ≡ k = omega (arith, lt, last) in
          subst (λ j. one j ≡ other j) is here
    ]
