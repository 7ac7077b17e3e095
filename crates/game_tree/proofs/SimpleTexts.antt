-- How the first bytes of a value are read as SimpleText.
use Rattle.std.proofs.Common.{◌≡◌, ◌≢◌, ◌≤◌, ◌<◌, ◌⊎◌, ◌++◌, ◌∙◌, ◌-◌, ℕ, List, [], ◌∷◌, length, take, drop, get_or, refl, sym, ap, subst, inl, inr, arith}
use Rattle.std.proofs.lemmas.List.{append-nil, take_all}
use Rattle.std.proofs.lemmas.List.Elements.{All-cons, All-nil}
use Rattle.game_tree.specs.Information.{HasNoControls}
use Rattle.game_tree.specs.StoredInfo.{HasGrownBy}
use Rattle.game_tree.specs.SimpleText.{BreaksLine, IsReadAs, IsSimpleText, byte, carriage_return, carriage_return_line_feed, hidden_break, hidden_byte, itself, last_backslash, line_break, line_feed, line_feed_carriage_return, nothing, white}

-- a text is its first byte and what stands behind it
pub first_and_rest : (text : List ℕ) → 1 ≤ length text → text ≡ get_or text 0 0 ∷ take (length text - 1) (drop 1 text)
first_and_rest [] some = absurd (omega arith)
first_and_rest (b ∷ rest) some = ap (λ r. b ∷ r) (sym (take_all (length (b ∷ rest) - 1) rest (omega arith)))

-- a line break behind its first byte
pub break_from_return : (text rest out : List ℕ) → text ≡ 13 ∷ rest → (rest ≡ 10 ∷ out) ⊎ ((out ≡ rest) × ((more : List ℕ) → rest ≢ 10 ∷ more)) → BreaksLine text out
break_from_return text rest out is (inl e) = subst (λ t. BreaksLine t out) (sym (is ∙ ap (λ r. 13 ∷ r) e)) carriage_return_line_feed
break_from_return text rest out is (inr (same, alone)) = subst (λ o. BreaksLine text o) (sym same) (subst (λ t. BreaksLine t rest) (sym is) (carriage_return alone))

pub break_from_feed : (text rest out : List ℕ) → text ≡ 10 ∷ rest → (rest ≡ 13 ∷ out) ⊎ ((out ≡ rest) × ((more : List ℕ) → rest ≢ 13 ∷ more)) → BreaksLine text out
break_from_feed text rest out is (inl e) = subst (λ t. BreaksLine t out) (sym (is ∙ ap (λ r. 10 ∷ r) e)) line_feed_carriage_return
break_from_feed text rest out is (inr (same, alone)) = subst (λ o. BreaksLine text o) (sym same) (subst (λ t. BreaksLine t rest) (sym is) (line_feed alone))

-- a backslash and one more byte
pub hidden_at : (hidden rest more : List ℕ) (b c : ℕ) → hidden ≡ b ∷ rest → IsReadAs b c → IsSimpleText rest more → IsSimpleText (92 ∷ hidden) (c ∷ more)
hidden_at hidden rest more b c is read text = subst (λ h. IsSimpleText (92 ∷ h) (c ∷ more)) (sym is) (hidden_byte read text)

-- one byte that is no backslash
pub byte_at : (value rest more : List ℕ) (b c : ℕ) → value ≡ b ∷ rest → b ≢ 92 → IsReadAs b c → IsSimpleText rest more → IsSimpleText value (c ∷ more)
byte_at value rest more b c is shown read text = subst (λ v. IsSimpleText v (c ∷ more)) (sym is) (byte shown read text)

no_break : (rest : List ℕ) → ¬ BreaksLine [] rest
no_break rest b = elim b [ ]

nothing_read : (more : List ℕ) → IsSimpleText [] more → more ≡ []
nothing_read _ nothing = refl
nothing_read _ (line_break {rest = rest} b text) = absurd (no_break rest b)

-- a backslash at the end
pub backslash_last : (hidden more : List ℕ) → hidden ≡ [] → IsSimpleText hidden more → IsSimpleText (92 ∷ hidden) more
backslash_last hidden more is text =
    subst (λ h. IsSimpleText (92 ∷ h) more) (sym is) (subst (IsSimpleText (92 ∷ [])) (sym (nothing_read more (subst (λ h. IsSimpleText h more) is text))) last_backslash)

-- a text with this first byte
pub begins_with : (text : List ℕ) (b : ℕ) → 1 ≤ length text → get_or text 0 0 ≡ b → text ≡ b ∷ take (length text - 1) (drop 1 text)
begins_with text b some is = first_and_rest text some ∙ ap (λ c. c ∷ take (length text - 1) (drop 1 text)) is

-- the first byte of a text that doesn't begin with a backslash
pub first_shown : (text : List ℕ) → 1 ≤ length text → ((rest : List ℕ) → text ≢ 92 ∷ rest) → get_or text 0 0 ≢ 92
first_shown text some shown is = shown _ (begins_with text 92 some is)

-- a value of which nothing is left
pub all_read : (value rest before now : List ℕ) → ((more : List ℕ) → IsSimpleText rest more → HasGrownBy (IsSimpleText value) before (now ++ more)) → rest ≡ [] → HasGrownBy (IsSimpleText value) before now
all_read value rest before now so_far is =
    let whole = so_far [] (subst (λ r. IsSimpleText r []) (sym is) nothing) in
    subst (HasGrownBy (IsSimpleText value) before) (append-nil now) whole

-- ---- the length

behind_break-shorter : (value rest : List ℕ) → BreaksLine value rest → length rest < length value
behind_break-shorter _ rest carriage_return_line_feed = omega arith
behind_break-shorter _ rest line_feed_carriage_return = omega arith
behind_break-shorter _ rest (line_feed alone) = omega arith
behind_break-shorter _ rest (carriage_return alone) = omega arith

-- a value is read as a text that is no longer
pub simple_text-no_longer : (value text : List ℕ) → IsSimpleText value text → length text ≤ length value
simple_text-no_longer _ _ nothing = omega arith
simple_text-no_longer _ text (hidden_break {value = value} {rest = rest} breaks more) =
    omega (arith, behind_break-shorter value rest breaks, simple_text-no_longer rest text more)
simple_text-no_longer _ _ (hidden_byte {rest = rest} {text = text} read more) = omega (arith, simple_text-no_longer rest text more)
simple_text-no_longer value _ (line_break {rest = rest} {text = text} breaks more) =
    omega (arith, behind_break-shorter value rest breaks, simple_text-no_longer rest text more)
simple_text-no_longer _ _ (byte {rest = rest} {text = text} shown read more) = omega (arith, simple_text-no_longer rest text more)
simple_text-no_longer _ _ last_backslash = omega arith

-- ---- no control characters

read-no_control : (b c : ℕ) → IsReadAs b c → 32 ≤ c
read-no_control b _ (white low no_feed no_return) = omega arith
read-no_control b _ (itself high) = omega (arith, high)

-- no byte of a text that a value is read as is below 32
pub simple_text-no_controls : (value text : List ℕ) → IsSimpleText value text → HasNoControls text
simple_text-no_controls _ _ nothing = All-nil (λ (b : ℕ). 32 ≤ b)
simple_text-no_controls _ text (hidden_break {rest = rest} breaks more) = simple_text-no_controls rest text more
simple_text-no_controls _ _ (hidden_byte {b = b} {c = c} {rest = rest} {text = text} read more) = All-cons (λ (b : ℕ). 32 ≤ b) c text (read-no_control b c read) (simple_text-no_controls rest text more)
simple_text-no_controls _ _ (line_break {rest = rest} {text = text} breaks more) = All-cons (λ (b : ℕ). 32 ≤ b) 32 text (omega arith) (simple_text-no_controls rest text more)
simple_text-no_controls _ _ (byte {b = b} {c = c} {rest = rest} {text = text} shown read more) = All-cons (λ (b : ℕ). 32 ≤ b) c text (read-no_control b c read) (simple_text-no_controls rest text more)
simple_text-no_controls _ _ last_backslash = All-nil (λ (b : ℕ). 32 ≤ b)
