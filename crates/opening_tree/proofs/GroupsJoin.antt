-- The openings of some entries and next moves with those of more of them.
use Rattle.std.proofs.Common.{◌≡◌, ◌||◌, inl, inr, Bool, true, false, cond, List, [], ◌∷◌, ◌++◌, append_assoc, length-append, map, refl, sym, ap, ◌∙◌, subst}
use Rattle.std.proofs.lemmas.Bool.{false≢true}
use Rattle.std.proofs.lemmas.List.{append-nil}
use Rattle.std.proofs.lemmas.List.Elements.{filter-append}
use Rattle.std.proofs.lemmas.List.Folds.{list_any-append}
use Rattle.kb_geometry.specs.declared.shape.Shape.{Shape}
use Rattle.kb_geometry.specs.Capture.{Position}
use Rattle.opening_tree.specs.declared.answer.Opening.{Opening}
use Rattle.opening_tree.specs.Entries.{Entry}
use Rattle.opening_tree.specs.Groups.{AreFollowing, Grouped, groups_of, opening_with, with_group, with_groups}
use Rattle.opening_tree.specs.NextMoves.{NextAt}
use Rattle.kb_geometry.specs.Outcomes.{is_black_win, is_no_win, is_white_win}
use Rattle.opening_tree.specs.Openings.{entries_at, first_entries, first_entries_behind, is_same_position, nexts_at, opening_of, plays_on}
use Rattle.opening_tree.proofs.GroupsGrow.{begun, changed, first_entries-seen, group_in, is_seen, no_entries, same_or_other, seen-push}
use Rattle.opening_tree.proofs.NextsFollow.{none_played}
use Rattle.opening_tree.proofs.PlaysInOrder.{plays-order}
use Rattle.opening_tree.proofs.RowsJoin.{rows-join}
use Rattle.opening_tree.proofs.SamePositions.{count_by-append, same_position, told}

map-same : {X Y : Type 0} (f g : X → Y) → ((x : X) → f x ≡ g x) → (xs : List X) → map f xs ≡ map g xs
map-same f g same [] = refl
map-same f g same (x ∷ xs) = λ i. same x i ∷ map-same f g same xs i

or_none : (a : Bool) → (a || (false || false)) ≡ a
or_none true = refl
or_none false = refl

or_some : (a : Bool) → (a || (true || false)) ≡ true
or_some true = refl
or_some false = refl

or_right : (a b : Bool) → b ≡ true → (a || b) ≡ true
or_right true b e = refl
or_right false b e = e

or_neither : (a b : Bool) → a ≡ false → b ≡ false → (a || b) ≡ false
or_neither a b e f = λ i. e i || f i

-- ---- what is seen

seen-append : (c : Position) (xs ys : List Entry) → is_seen c (xs ++ ys) ≡ (is_seen c xs || is_seen c ys)
seen-append c xs ys = list_any-append (λ (b : Entry). is_same_position c b.canonical) xs ys

-- one entry more, whose canonical position is seen
seen-known : (c : Position) (before : List Entry) (x : Entry) → is_seen x.canonical before ≡ true → is_seen c (before ++ x ∷ []) ≡ is_seen c before
seen-known c before x known = elim (same_or_other c x.canonical) [
  | inl same ↦
      let seen : is_seen c before ≡ true = subst (λ (p : Position). is_seen p before ≡ true) (sym same.2) known in
      seen-push c before x ∙ ap (λ b. b || (is_same_position c x.canonical || false)) seen ∙ sym seen
  | inr other ↦ seen-push c before x ∙ ap (λ b. is_seen c before || (b || false)) other.0 ∙ or_none (is_seen c before)
]

-- ---- one opening

-- an opening of some entries and next moves, and of more
opening-join : (shape : Shape) (f g : Entry) (es more : List Entry) (ns others : List NextAt) → opening_with (opening_of shape f es ns) (opening_of shape g more others) ≡ opening_of shape f (es ++ more) (ns ++ others)
opening-join shape f g es more ns others =
    let count = sym (length-append es more) in
    let black = sym (count_by-append (λ (x : Entry). is_black_win x.outcome) es more) in
    let white = sym (count_by-append (λ (x : Entry). is_white_win x.outcome) es more) in
    let other = sym (count_by-append (λ (x : Entry). is_no_win x.outcome) es more) in
    let rows = rows-join (plays_on shape) (plays-order shape) ns others in
    λ i. record { count = count i; black = black i; white = white i; other = other i; game = f.game; node = f.node; nexts = rows i }

-- ---- all openings

module _ (shape : Shape) (es more : List Entry) (ns others : List NextAt) (follow : AreFollowing es ns) (follow_more : AreFollowing more others) where
  -- an opening of the first entries and next moves, and of all
  abbrev first_of_all : Entry → Opening
  first_of_all f = opening_of shape f (entries_at f.canonical es) (nexts_at f.canonical ns)

  abbrev whole_of : Entry → Opening
  whole_of f = opening_of shape f (entries_at f.canonical (es ++ more)) (nexts_at f.canonical (ns ++ others))

  entries-both : (c : Position) → entries_at c (es ++ more) ≡ entries_at c es ++ entries_at c more
  entries-both c = filter-append (λ (e : Entry). is_same_position c e.canonical) es more

  nexts-both : (c : Position) → nexts_at c (ns ++ others) ≡ nexts_at c ns ++ nexts_at c others
  nexts-both c = filter-append (λ (n : NextAt). is_same_position c n.canonical) ns others

  -- the opening of a first entry, once so many of the further ones are added
  abbrev so_far : List Entry → Entry → Grouped
  so_far before f = record { canonical = f.canonical; opening = cond (is_seen f.canonical before) (whole_of f) (first_of_all f) }

  abbrev further : Entry → Grouped
  further = group_in shape more others

  -- ---- one that is seen among the further ones before

  known : (before : List Entry) (x : Entry) → is_seen x.canonical before ≡ true → map (so_far before) (first_entries (es ++ before)) ≡ map (so_far (before ++ x ∷ [])) (first_entries (es ++ (before ++ x ∷ [])))
  known before x seen =
      let same : (f : Entry) → so_far before f ≡ so_far (before ++ x ∷ []) f = λ f. ap (λ b. record { canonical = f.canonical; opening = cond b (whole_of f) (first_of_all f) }) (sym (seen-known f.canonical before x seen)) in
      let there : is_seen x.canonical (es ++ before) ≡ true = seen-append x.canonical es before ∙ or_right (is_seen x.canonical es) (is_seen x.canonical before) seen in
      map-same (so_far before) (so_far (before ++ x ∷ [])) same (first_entries (es ++ before))
      ∙ sym (ap (map (so_far (before ++ x ∷ []))) (ap first_entries (sym (append_assoc es before (x ∷ []))) ∙ first_entries-seen x.canonical x refl [] (es ++ before) there))

  -- ---- one that isn't

  module _ (before : List Entry) (x : Entry) (new : is_seen x.canonical before ≡ false) where
    c : Position
    c = x.canonical

    turned : (f : Entry) → is_same_position x.canonical f.canonical ≡ true → is_same_position f.canonical x.canonical ≡ true
    turned f t = (same_position f.canonical x.canonical).1 (sym ((same_position x.canonical f.canonical).0 t))

    joined : (f : Entry) → is_same_position x.canonical f.canonical ≡ true → opening_with (first_of_all f) (opening_of shape x (entries_at x.canonical more) (nexts_at x.canonical others)) ≡ whole_of f
    joined f t =
        let e : x.canonical ≡ f.canonical = (same_position x.canonical f.canonical).0 t in
        opening-join shape f x (entries_at f.canonical es) (entries_at x.canonical more) (nexts_at f.canonical ns) (nexts_at x.canonical others)
        ∙ (λ i. opening_of shape f (entries_at f.canonical es ++ entries_at (e i) more) (nexts_at f.canonical ns ++ nexts_at (e i) others))
        ∙ sym (λ i. opening_of shape f (entries-both f.canonical i) (nexts-both f.canonical i))

    own : (f : Entry) (gs : List Grouped) → is_same_position x.canonical f.canonical ≡ true → with_group (so_far before f ∷ gs) (further x) ≡ so_far (before ++ x ∷ []) f ∷ gs
    own f gs t =
        let unseen : is_seen f.canonical before ≡ false = subst (λ (p : Position). is_seen p before ≡ false) ((same_position x.canonical f.canonical).0 t) new in
        let seen : is_seen f.canonical (before ++ x ∷ []) ≡ true = seen-push f.canonical before x ∙ ap (λ b. is_seen f.canonical before || (b || false)) (turned f t) ∙ or_some (is_seen f.canonical before) in
        let step : opening_with (cond (is_seen f.canonical before) (whole_of f) (first_of_all f)) (further x).opening ≡ cond (is_seen f.canonical (before ++ x ∷ [])) (whole_of f) (first_of_all f) =
        ap (λ b. opening_with (cond b (whole_of f) (first_of_all f)) (further x).opening) unseen ∙ joined f t ∙ sym (ap (λ b. cond b (whole_of f) (first_of_all f)) seen) in
        ap (λ b. cond b (record { canonical = f.canonical; opening = opening_with (so_far before f).opening (further x).opening } ∷ gs) (so_far before f ∷ with_group gs (further x))) t
        ∙ ap (λ (o : Opening). record { canonical = f.canonical; opening = o } ∷ gs) step

    pass : (f : Entry) (gs : List Grouped) → is_same_position x.canonical f.canonical ≡ false → with_group (so_far before f ∷ gs) (further x) ≡ so_far before f ∷ with_group gs (further x)
    pass f gs n = ap (λ b. cond b (record { canonical = f.canonical; opening = opening_with (so_far before f).opening (further x).opening } ∷ gs) (so_far before f ∷ with_group gs (further x))) n

    stay : (f : Entry) → is_same_position x.canonical f.canonical ≡ false → so_far before f ≡ so_far (before ++ x ∷ []) f
    stay f n = elim (same_or_other f.canonical x.canonical) [
      | inl same ↦ absurd (false≢true (sym n ∙ same.1))
      | inr other ↦
          let kept : is_seen f.canonical (before ++ x ∷ []) ≡ is_seen f.canonical before = seen-push f.canonical before x ∙ ap (λ b. is_seen f.canonical before || (b || false)) other.0 ∙ or_none (is_seen f.canonical before) in
          ap (λ b. record { canonical = f.canonical; opening = cond b (whole_of f) (first_of_all f) }) (sym kept)
    ]

    first : is_seen x.canonical es ≡ false → with_group [] (further x) ≡ so_far (before ++ x ∷ []) x ∷ []
    first unseen =
        let seen : is_seen x.canonical (before ++ x ∷ []) ≡ true = seen-push x.canonical before x ∙ ap (λ b. is_seen x.canonical before || (b || false)) ((same_position x.canonical x.canonical).1 refl) ∙ or_some (is_seen x.canonical before) in
        let entries : entries_at x.canonical (es ++ more) ≡ entries_at x.canonical more = entries-both x.canonical ∙ ap (λ xs. xs ++ entries_at x.canonical more) (no_entries shape x.canonical es unseen) in
        let nexts : nexts_at x.canonical (ns ++ others) ≡ nexts_at x.canonical others = nexts-both x.canonical ∙ ap (λ xs. xs ++ nexts_at x.canonical others) (none_played x.canonical es ns follow unseen) in
        ap (λ (o : Opening). record { canonical = x.canonical; opening = o } ∷ []) (sym (λ i. opening_of shape x (entries i) (nexts i)) ∙ sym (ap (λ b. cond b (whole_of x) (first_of_all x)) seen))

    added : with_group (map (so_far before) (first_entries (es ++ before))) (further x) ≡ map (so_far (before ++ x ∷ [])) (first_entries (es ++ (before ++ x ∷ [])))
    added = elim (told (is_seen x.canonical es)) [
      | inl t ↦
          let there : is_seen x.canonical (es ++ before) ≡ true = seen-append x.canonical es before ∙ ap (λ b. b || is_seen x.canonical before) t in
          changed x.canonical (so_far before) (so_far (before ++ x ∷ [])) (λ gs. with_group gs (further x)) own pass stay [] (es ++ before) refl (λ none. absurd (false≢true (sym none ∙ there)))
          ∙ sym (ap (map (so_far (before ++ x ∷ []))) (ap first_entries (sym (append_assoc es before (x ∷ []))) ∙ first_entries-seen x.canonical x refl [] (es ++ before) there))
      | inr f ↦
          let nowhere : is_seen x.canonical (es ++ before) ≡ false = seen-append x.canonical es before ∙ or_neither (is_seen x.canonical es) (is_seen x.canonical before) f new in
          begun x.canonical (so_far before) (so_far (before ++ x ∷ [])) (λ gs. with_group gs (further x)) own pass stay x refl (first f) [] (es ++ before) refl nowhere
          ∙ ap (λ (xs : List Entry). map (so_far (before ++ x ∷ [])) (first_entries xs)) (append_assoc es before (x ∷ []))
    ]

  -- ---- all further ones

  steps : (before xs : List Entry) → before ++ xs ≡ more → with_groups (map (so_far before) (first_entries (es ++ before))) (map further (first_entries_behind before xs)) ≡ map (so_far more) (first_entries (es ++ more))
  steps before [] e = ap (λ (b : List Entry). map (so_far b) (first_entries (es ++ b))) (sym (append-nil before) ∙ e)
  steps before (x ∷ xs) e =
      let rest = steps (before ++ x ∷ []) xs (append_assoc before (x ∷ []) xs ∙ e) in
      elim (told (is_seen x.canonical before)) [
        | inl t ↦
            ap (λ b. with_groups (map (so_far before) (first_entries (es ++ before))) (map further (cond b (first_entries_behind (before ++ x ∷ []) xs) (x ∷ first_entries_behind (before ++ x ∷ []) xs)))) t
            ∙ ap (λ gs. with_groups gs (map further (first_entries_behind (before ++ x ∷ []) xs))) (known before x t)
            ∙ rest
        | inr f ↦
            ap (λ b. with_groups (map (so_far before) (first_entries (es ++ before))) (map further (cond b (first_entries_behind (before ++ x ∷ []) xs) (x ∷ first_entries_behind (before ++ x ∷ []) xs)))) f
            ∙ ap (λ gs. with_groups gs (map further (first_entries_behind (before ++ x ∷ []) xs))) (added before x f)
            ∙ rest
      ]

  at_end : (f : Entry) → so_far more f ≡ group_in shape (es ++ more) (ns ++ others) f
  at_end f = elim (told (is_seen f.canonical more)) [
    | inl t ↦ ap (λ b. record { canonical = f.canonical; opening = cond b (whole_of f) (first_of_all f) }) t
    | inr n ↦
        let entries : entries_at f.canonical (es ++ more) ≡ entries_at f.canonical es = entries-both f.canonical ∙ ap (λ xs. entries_at f.canonical es ++ xs) (no_entries shape f.canonical more n) ∙ append-nil (entries_at f.canonical es) in
        let nexts : nexts_at f.canonical (ns ++ others) ≡ nexts_at f.canonical ns = nexts-both f.canonical ∙ ap (λ xs. nexts_at f.canonical ns ++ xs) (none_played f.canonical more others follow_more n) ∙ append-nil (nexts_at f.canonical ns) in
        ap (λ b. record { canonical = f.canonical; opening = cond b (whole_of f) (first_of_all f) }) n
        ∙ ap (λ (o : Opening). record { canonical = f.canonical; opening = o }) (sym (λ i. opening_of shape f (entries i) (nexts i)))
  ]

  pub groups-join : with_groups (groups_of shape es ns) (groups_of shape more others) ≡ groups_of shape (es ++ more) (ns ++ others)
  groups-join =
      ap (λ (xs : List Entry). with_groups (map (so_far []) (first_entries xs)) (groups_of shape more others)) (sym (append-nil es))
      ∙ steps [] more refl
      ∙ map-same (so_far more) (group_in shape (es ++ more) (ns ++ others)) at_end (first_entries (es ++ more))
