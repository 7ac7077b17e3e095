-- The games of parts that are gone over, added and merged.
use Rattle.std.proofs.Common.{◌≡◌, ◌∙◌, ℕ, ◌+◌, ◌<◌, ◌≤◌, List, [], ◌∷◌, ◌++◌, Option, Some, None, get_or, length, length-append, map, take, drop, sym, ap, append_assoc, arith}
use Rattle.std.specs.Prelude.{IfOk, IfSome, Result, Ok, Err}
use Rattle.std.specs.Option.{option_to_list}
use Rattle.std.proofs.lemmas.List.{map-append, map_push, take-append-drop, take_more}
use Rattle.version_publisher.specs.Contents.{items_in}
use Rattle.version_publisher.specs.declared.state.VersionState.{VersionState}
use Rattle.run_audit.proofs.BaseSteps.{items-append, items-push}

-- with one part more
pub items-pushed : {A B : Type 0} (f : A → List B) (xs : List A) (x : A) → items_in (map f (xs ++ x ∷ [])) ≡ items_in (map f xs) ++ f x
items-pushed f xs x = ap items_in (map_push f xs x) ∙ items-push (map f xs) (f x)

-- with the next part of a list, or a copy of it
pub items-next : {A B : Type 0} (f : A → List B) (xs : List A) (at : ℕ) (x y : A) → at < length xs → x ≡ get_or xs at x → f y ≡ f x → items_in (map f (take (at + 1) xs)) ≡ items_in (map f (take at xs)) ++ f y
items-next f xs at x y below is same =
    ap (λ (l : List _). items_in (map f l)) (take_more xs at x below)
    ∙ items-pushed f (take at xs) (get_or xs at x)
    ∙ ap (λ (games : List _). items_in (map f (take at xs)) ++ games) (ap f (sym is) ∙ sym same)

-- the first parts have no more games than all
pub items-few : {A B : Type 0} (f : A → List B) (xs : List A) (n most : ℕ) → length (items_in (map f xs)) ≤ most → length (items_in (map f (take n xs))) ≤ most
items-few f xs n most few =
    let whole = ap (λ (l : List _). length (items_in (map f l))) (sym (take-append-drop n xs)) ∙ ap (λ (l : List _). length (items_in l)) (map-append f (take n xs) (drop n xs)) ∙ ap length (items-append (map f (take n xs)) (map f (drop n xs))) in
    omega (arith, few, whole, length-append (items_in (map f (take n xs))) (items_in (map f (drop n xs))))

-- the last part is taken
pub part-taken : {A B : Type 0} (f : A → B) (old new : List A) (last : Option A) → old ≡ new ++ option_to_list last → IfSome last (λ (x : A). map f old ≡ map f new ++ f x ∷ [])
part-taken f old new (Some x) is = ap (map f) is ∙ map_push f new x
part-taken f old new None is = tt

-- the last part and one behind it become one
pub items-merged : {B : Type 0} (old new : List (List B)) (before last both : List B) → old ≡ new ++ before ∷ [] → both ≡ before ++ last → items_in new ++ both ≡ items_in old ++ last
items-merged old new before last both taken joined =
    ap (λ (l : List _). items_in new ++ l) joined
    ∙ sym (append_assoc (items_in new) before last)
    ∙ ap (λ (l : List _). l ++ last) (sym (items-push new before) ∙ ap items_in (sym taken))

-- so they fit where all do
pub merged-room : {B : Type 0} (old new : List (List B)) (before last : List B) (most : ℕ) → old ≡ new ++ before ∷ [] → length (items_in old) + length last ≤ most → length before + length last ≤ most
merged-room old new before last most taken few =
    omega (arith, few, ap (λ (l : List _). length (items_in l)) taken ∙ ap length (items-push new before), length-append (items_in new) before)

-- the version of merged parts has the games that these parts have
pub merged-version : {B E : Type 0} (result : Result (VersionState B) E) (number : ℕ) (parts : List (List B)) (games : List B) → IfOk result (λ (v : VersionState B). (v.number ≡ number) × (v.parts ≡ parts)) → items_in parts ≡ games → IfOk result (λ v. items_in v.parts ≡ games)
merged-version (Ok v) number parts games is same = ap items_in is.1 ∙ same
merged-version (Err e) number parts games is same = tt
