-- Properties that are spelled in a text, by their identifiers and values.
use Rattle.std.proofs.Common.{◌≡◌, ℕ, ◌+◌, ◌≤◌, List, [], ◌∷◌, ◌++◌, length, map, refl, sym, ◌∙◌, ap, subst, arith, append_assoc, length-append}
use Rattle.std.proofs.lemmas.List.{map-append}
use Rattle.std.proofs.lemmas.List.Elements.{All-nil}
use Rattle.sgf_reader.specs.declared.collection.Pair.{Pair}
use Rattle.sgf_reader.specs.declared.collection.Span.{Span}
use Rattle.sgf_reader.specs.Grammar.{AreProperties, AreValues, IsIdentifier, IsValue, IsWhite, span_of}
use Rattle.game_tree.specs.Property.{bytes_of}
use Rattle.sgf_writer.proofs.Standing.{Stands, Stands-as, Stands-at, Stands-back, Stands-bytes, Stands-front}

-- an identifier and a value
pub record Entry : Type 0 where
  pub name : List ℕ
  pub value : List ℕ

-- the identifier and the value of a pair
abbrev pub entry_of : List ℕ → Pair → Entry
entry_of whole pair = record { name = bytes_of whole pair.name; value = bytes_of whole pair.value }

-- the text is spelled as properties with these identifiers and values
pub record HasProperties (whole : List ℕ) (at : ℕ) (text : List ℕ) (entries : List Entry) : Type 0 where
  pub pairs : List Pair
  pub spelled : AreProperties at text pairs
  pub shown : map (entry_of whole) pairs ≡ entries

-- wherever the text stands, it is spelled so
abbrev pub Spell : List ℕ → List ℕ → List Entry → Type 0
Spell whole text entries = (at : ℕ) → Stands whole at text → HasProperties whole at text entries

-- the text is spelled as values of the identifier with this span
pub record HasValues (whole : List ℕ) (name : Span) (at : ℕ) (text : List ℕ) (entries : List Entry) : Type 0 where
  pub pairs : List Pair
  pub spelled : AreValues name at text pairs
  pub shown : map (entry_of whole) pairs ≡ entries

-- the text is spelled as values of the identifier with this span and then as properties
pub record IsRun (whole : List ℕ) (name : Span) (at : ℕ) (text : List ℕ) (entries : List Entry) : Type 0 where
  pub values : List ℕ
  pub rest : List ℕ
  pub first : List Entry
  pub others : List Entry
  pub split : text ≡ values ++ rest
  pub has_values : HasValues whole name at values first
  pub has_others : HasProperties whole (at + length values) rest others
  pub all : first ++ others ≡ entries

no_white : IsWhite []
no_white = All-nil (λ (b : ℕ). b ≤ 32)

pub Spell-none : (whole : List ℕ) → Spell whole [] []
Spell-none whole at stands = record { pairs = []; spelled = AreProperties.none; shown = refl }

pub run-none : (whole : List ℕ) (name : Span) (at : ℕ) (text : List ℕ) (entries : List Entry) → HasProperties whole at text entries → IsRun whole name at text entries
run-none whole name at text entries h = record {
  values = [];
  rest = text;
  first = [];
  others = entries;
  split = refl;
  has_values = record { pairs = []; spelled = AreValues.none; shown = refl };
  has_others = subst (λ (k : ℕ). HasProperties whole k text entries) (let e : at ≡ at + length {A = ℕ} [] = omega arith in e) h;
  all = refl;
}

values-more : (whole : List ℕ) (name : Span) (at k : ℕ) (value rest : List ℕ) (entries : List Entry) → Stands whole at (91 ∷ (value ++ 93 ∷ rest)) → IsValue value → k ≡ at + length value + 2 → HasValues whole name k rest entries → (h : HasValues whole name at (91 ∷ (value ++ 93 ∷ rest)) (record { name = bytes_of whole name; value = value } ∷ entries)) × (1 ≤ length h.pairs)
values-more whole name at k value rest entries stands is_value e others =
    let next : k ≡ at + length ([] ++ 91 ∷ value ++ 93 ∷ []) = omega (arith, length-append (91 ∷ value) (93 ∷ [])) in
    let from : at + 1 ≡ at + length {A = ℕ} [] + 1 = omega arith in
    let inside : Stands whole (at + length {A = ℕ} [] + 1) value =
    Stands-at (at + 1) _ from (Stands-front value (93 ∷ rest) (Stands-back (91 ∷ []) (value ++ 93 ∷ rest) stands)) in
    let shown : bytes_of whole (span_of (at + length {A = ℕ} [] + 1) value) ≡ value = Stands-bytes _ _ value inside refl in (
      record {
        pairs = record { name = name; value = span_of (at + length {A = ℕ} [] + 1) value } ∷ others.pairs;
        spelled = AreValues.one_more [] value rest no_white is_value (subst (λ (n : ℕ). AreValues name n rest others.pairs) next others.spelled);
        shown = let one : record { name = bytes_of whole name; value = bytes_of whole (span_of (at + length {A = ℕ} [] + 1) value) } ≡ record { name = bytes_of whole name; value = value } = ap (λ (v : List ℕ). let entry : Entry = record { name = bytes_of whole name; value = v } in entry) shown in
            ap (λ (x : Entry). x ∷ map (entry_of whole) others.pairs) one ∙ ap (λ (xs : List Entry). record { name = bytes_of whole name; value = value } ∷ xs) others.shown;
      },
      omega arith,
    )

-- one value more
run-first : (whole : List ℕ) (name : Span) (at k : ℕ) (value text : List ℕ) (entries : List Entry) → Stands whole at (91 ∷ (value ++ 93 ∷ text)) → IsValue value → k ≡ at + length value + 2 → IsRun whole name k text entries → (run : IsRun whole name at (91 ∷ (value ++ 93 ∷ text)) (record { name = bytes_of whole name; value = value } ∷ entries)) × (1 ≤ length run.has_values.pairs)
run-first whole name at k value text entries stands is_value e run =
    let whole_text : 91 ∷ (value ++ 93 ∷ text) ≡ (91 ∷ (value ++ 93 ∷ run.values)) ++ run.rest =
    ap (λ t. 91 ∷ (value ++ 93 ∷ t)) run.split ∙ ap (λ t. 91 ∷ t) (sym (append_assoc value (93 ∷ run.values) run.rest)) in
    let at_rest : k + length run.values ≡ at + length (91 ∷ (value ++ 93 ∷ run.values)) = omega (arith, length-append value (93 ∷ run.values)) in
    let more = values-more whole name at k value run.values run.first (Stands-front (91 ∷ (value ++ 93 ∷ run.values)) run.rest (Stands-as _ _ whole_text stands)) is_value e run.has_values in (
      record {
        values = 91 ∷ (value ++ 93 ∷ run.values);
        rest = run.rest;
        first = record { name = bytes_of whole name; value = value } ∷ run.first;
        others = run.others;
        split = whole_text;
        has_values = more.0;
        has_others = subst (λ (n : ℕ). HasProperties whole n run.rest run.others) at_rest run.has_others;
        all = ap (λ (xs : List Entry). record { name = bytes_of whole name; value = value } ∷ xs) run.all;
      },
      more.1,
    )

pub run-value : (whole : List ℕ) (name : Span) (at k : ℕ) (value text : List ℕ) (entries : List Entry) → Stands whole at (91 ∷ (value ++ 93 ∷ text)) → IsValue value → k ≡ at + length value + 2 → IsRun whole name k text entries → IsRun whole name at (91 ∷ (value ++ 93 ∷ text)) (record { name = bytes_of whole name; value = value } ∷ entries)
run-value whole name at k value text entries stands is_value e run = (run-first whole name at k value text entries stands is_value e run).0

-- an identifier with one value, and what stands behind it
pub run-property : (whole : List ℕ) (at k : ℕ) (id value text : List ℕ) (entries : List Entry) → Stands whole at (id ++ (91 ∷ (value ++ 93 ∷ text))) → IsIdentifier id → IsValue value → k ≡ at + length id + length value + 2 → IsRun whole (span_of at id) k text entries → HasProperties whole at (id ++ (91 ∷ (value ++ 93 ∷ text))) (record { name = id; value = value } ∷ entries)
run-property whole at k id value text entries stands is_id is_value e behind =
    let named : bytes_of whole (span_of at id) ≡ id = Stands-bytes _ _ id (Stands-front id _ stands) refl in
    let found = run-first whole (span_of at id) (at + length id) k value text entries (Stands-back id _ stands) is_value e behind in
    let run = found.0 in
    let start : at ≡ at + length {A = ℕ} [] = omega arith in
    let behind_name : at + length id ≡ at + length ([] ++ id) = refl in
    let length_id : (at + length id) + length run.values ≡ at + length ([] ++ id ++ run.values) = omega (arith, length-append id run.values) in
    let some : 1 ≤ length run.has_values.pairs = found.1 in
    let values : AreValues (span_of (at + length {A = ℕ} []) id) (at + length ([] ++ id)) run.values run.has_values.pairs =
    subst (λ (n : ℕ). AreValues (span_of n id) (at + length id) run.values run.has_values.pairs) start run.has_values.spelled in
    let others : AreProperties (at + length ([] ++ id ++ run.values)) run.rest run.has_others.pairs = subst (λ (n : ℕ). AreProperties n run.rest run.has_others.pairs) length_id run.has_others.spelled in
    let spelled = AreProperties.one_more [] id run.values run.rest run.has_values.pairs run.has_others.pairs no_white is_id values some others in
    let same : id ++ run.values ++ run.rest ≡ id ++ (91 ∷ (value ++ 93 ∷ text)) = append_assoc id run.values run.rest ∙ ap (λ t. id ++ t) (sym run.split) in
    record {
      pairs = run.has_values.pairs ++ run.has_others.pairs;
      spelled = subst (λ (t : List ℕ). AreProperties at t (run.has_values.pairs ++ run.has_others.pairs)) same spelled;
      shown =
          map-append (entry_of whole) run.has_values.pairs run.has_others.pairs
          ∙ ap (λ (xs : List Entry). xs ++ map (entry_of whole) run.has_others.pairs) run.has_values.shown
          ∙ ap (λ (xs : List Entry). run.first ++ xs) run.has_others.shown
          ∙ run.all
          ∙ ap (λ (n : List ℕ). let entry : Entry = record { name = n; value = value } in entry ∷ entries) named;
    }
