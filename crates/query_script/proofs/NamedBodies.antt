-- The words behind `watch` part in one way; whether they spell a name and a search can be told, and they spell one at most.
use Rattle.std.proofs.Common.{◌≡◌, ◌≢◌, ◌⊎◌, ◌∙◌, ℕ, Bool, true, false, List, [], ◌∷◌, refl, sym, subst, inl, inr}
use Rattle.std.proofs.lemmas.Str.{IsUtf8-from_is_utf8, is_utf8-from_IsUtf8}
use Rattle.std.specs.Str.{IsUtf8, is_utf8}
use Rattle.info_filter.specs.declared.filter.Filter.{Filter}
use Rattle.pattern_images.specs.declared.query.Query.{Query}
use Rattle.pattern_images.proofs.Tellings.{Told}
use Rattle.query_script.specs.declared.word.Word.{Word}
use Rattle.query_script.specs.declared.word.Word.TheVariants as word
use Rattle.query_script.specs.Conditions.{IsFilteredBody, IsNamedBody}
use Rattle.query_script.specs.Words.{bare}
use Rattle.query_script.proofs.FilteredBodies.{told_filtered_body}
use Rattle.query_script.proofs.ToldSearches.{same_bare, same_first, same_rest}

told_test : (b : Bool) (P : Type 0) → (b ≡ true → P) → (P → b ≡ true) → Told P
told_test true P there back = inl (there refl)
told_test false P there back = inr (λ p. let apart : false ≡ true = back p in cc)

-- whether bytes are text in UTF-8
pub told_utf8 : (bytes : List ℕ) → Told (IsUtf8 bytes)
told_utf8 bytes = told_test (is_utf8 bytes) (IsUtf8 bytes) (IsUtf8-from_is_utf8 bytes) (is_utf8-from_IsUtf8 bytes)

-- the name, and what stands behind it
pub named_parts : (words body : List Word) (bytes name : List ℕ) (query : Query) (filter : Filter) → words ≡ bare bytes ∷ body → IsNamedBody words name query filter → (name ≡ bytes) × IsFilteredBody body query filter
named_parts words body bytes name query filter begins is =
    let both : bare name ∷ is.body ≡ bare bytes ∷ body = sym is.split ∙ begins in (
      same_bare name bytes (same_first (bare name) (bare bytes) is.body body both),
      subst (λ l. IsFilteredBody l query filter) (same_rest (bare name) (bare bytes) is.body body both) is.body_is,
    )

-- a bare word in front, or not
told_first_bare : (words : List Word) → ((bytes : List ℕ) × (body : List Word) × (words ≡ bare bytes ∷ body)) ⊎ ((bytes : List ℕ) (body : List Word) → words ≢ bare bytes ∷ body)
told_first_bare [] = inr (λ bytes body e. absurd (cc e))
told_first_bare ((word.Bare bytes) ∷ body) = inl (bytes, body, refl)
told_first_bare ((word.Quoted bytes) ∷ body) = inr (λ other more e.
    let first : word.Quoted bytes ≡ bare other = same_first (word.Quoted bytes) (bare other) body more e in absurd (cc first))

-- the name and the search that words spell, and no others
abbrev pub HasNamedBody : List Word → Type 0
HasNamedBody words = (name : List ℕ) × (query : Query) × (filter : Filter) × IsNamedBody words name query filter
    × ((other : List ℕ) (another : Query) (others : Filter) → IsNamedBody words other another others → (other ≡ name) × (another ≡ query) × (others ≡ filter))

pub told_named_body : (words : List Word) → HasNamedBody words ⊎ ((name : List ℕ) (query : Query) (filter : Filter) → IsNamedBody words name query filter → ⊥)
told_named_body words = elim (told_first_bare words) [
  | inr never ↦ inr (λ name query filter is. never name is.body is.split)
  | inl (bytes, body, begins) ↦ elim (told_utf8 bytes) [
    | inr never ↦ inr (λ name query filter is. never (subst IsUtf8 (named_parts words body bytes name query filter begins is).0 is.utf8))
    | inl utf8 ↦ elim (told_filtered_body body) [
      | inr never ↦ inr (λ name query filter is. never query filter (named_parts words body bytes name query filter begins is).1)
      | inl (query, filter, spelled, only) ↦ inl (
        bytes,
        query,
        filter,
        record { body = body; split = begins; utf8 = utf8; body_is = spelled },
        λ other another others is.
            let (names, spelled_too) = named_parts words body bytes other another others begins is in
            let (queries, filters) = only another others spelled_too in
            (names, queries, filters),
      )
    ]
  ]
]
