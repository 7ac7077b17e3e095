-- The openings of entries and next moves, one entry or one next move more.
use Rattle.std.proofs.Common.{◌≡◌, ◌⊎◌, ◌||◌, inl, inr, Bool, true, false, cond, List, [], ◌∷◌, ◌++◌, length-append, map, refl, sym, ap, ◌∙◌, subst}
use Rattle.std.specs.List.{list_any}
use Rattle.std.proofs.lemmas.Bool.{false_from_ne_true, false≢true, or_left}
use Rattle.std.proofs.lemmas.List.{append-nil}
use Rattle.std.proofs.lemmas.List.Folds.{list_any-append}
use Rattle.kb_geometry.specs.declared.shape.Shape.{Shape}
use Rattle.kb_geometry.specs.Capture.{Position}
use Rattle.opening_tree.specs.declared.answer.NextMove.{NextMove}
use Rattle.opening_tree.specs.declared.answer.Opening.{Opening}
use Rattle.opening_tree.specs.Entries.{Entry}
use Rattle.opening_tree.specs.Groups.{Grouped, groups_of, none_yet, with_entry, with_next, with_one, with_row, with_rows}
use Rattle.opening_tree.specs.NextMoves.{NextAt}
use Rattle.kb_geometry.specs.Outcomes.{is_black_win, is_no_win, is_white_win}
use Rattle.opening_tree.specs.Openings.{entries_at, first_entries_behind, is_same_position, nexts_at, opening_of, plays_on, rows_of}
use Rattle.opening_tree.proofs.RowsGrow.{AreInOrder, IsOneOf, rows-grow, rows-none}
use Rattle.opening_tree.proofs.SamePositions.{count_by-push, filter-push, same_position, told}

-- two positions are one or not, whichever way round they are asked for
pub same_or_other : (a b : Position) → ((is_same_position a b ≡ true) × (is_same_position b a ≡ true) × (a ≡ b)) ⊎ ((is_same_position a b ≡ false) × (is_same_position b a ≡ false))
same_or_other a b = elim (told (is_same_position a b)) [
  | inl t ↦ let e = (same_position a b).0 t in inl (t, (same_position b a).1 (sym e), e)
  | inr f ↦ inr (f, false_from_ne_true (is_same_position b a) (λ t. false≢true (sym f ∙ (same_position a b).1 (sym ((same_position b a).0 t)))))
]

-- whether some entry has this canonical position
abbrev pub is_seen : Position → List Entry → Bool
is_seen c es = list_any (λ (b : Entry). is_same_position c b.canonical) es

pub seen-push : (c : Position) (es : List Entry) (x : Entry) → is_seen c (es ++ x ∷ []) ≡ (is_seen c es || (is_same_position c x.canonical || false))
seen-push c es x = list_any-append (λ (b : Entry). is_same_position c b.canonical) es (x ∷ [])

or_moved : (a b d : Bool) → (a || (b || d)) ≡ true → ((a || (b || false)) || d) ≡ true
or_moved true b d e = refl
or_moved false true d e = refl
or_moved false false d e = e

or_end : (a : Bool) → (a || false) ≡ true → a ≡ true
or_end true e = refl
or_end false e = e

second_of : (a d : Bool) → a ≡ false → (a || d) ≡ false → d ≡ false
second_of false d f e = e
second_of true d f e = absurd (false≢true (sym f))

-- ---- a change of one opening

module _ (c : Position) (G H : Entry → Grouped) where
  -- where its first entry stands before, the others stay
  kept : ((f : Entry) → is_same_position c f.canonical ≡ false → G f ≡ H f) → (before es : List Entry) → is_seen c before ≡ true → map G (first_entries_behind before es) ≡ map H (first_entries_behind before es)
  kept stay before [] seen = refl
  kept stay before (x ∷ xs) seen =
      let more = kept stay (before ++ x ∷ []) xs (seen-push c before x ∙ or_left (is_seen c before) (is_same_position c x.canonical || false) seen) in
      elim (told (is_seen x.canonical before)) [
        | inl t ↦
            ap (λ b. map G (cond b (first_entries_behind (before ++ x ∷ []) xs) (x ∷ first_entries_behind (before ++ x ∷ []) xs))) t
            ∙ more
            ∙ sym (ap (λ b. map H (cond b (first_entries_behind (before ++ x ∷ []) xs) (x ∷ first_entries_behind (before ++ x ∷ []) xs))) t)
        | inr f ↦
            let off : is_same_position c x.canonical ≡ false = elim (same_or_other c x.canonical) [
              | inl same ↦ absurd (false≢true (sym f ∙ subst (λ (p : Position). is_seen p before ≡ true) same.2 seen))
              | inr other ↦ other.0
            ] in
            let here = stay x off in
            ap (λ b. map G (cond b (first_entries_behind (before ++ x ∷ []) xs) (x ∷ first_entries_behind (before ++ x ∷ []) xs))) f
            ∙ (λ i. here i ∷ more i)
            ∙ sym (ap (λ b. map H (cond b (first_entries_behind (before ++ x ∷ []) xs) (x ∷ first_entries_behind (before ++ x ∷ []) xs))) f)
      ]

  module _ (W : List Grouped → List Grouped) (own : (f : Entry) (gs : List Grouped) → is_same_position c f.canonical ≡ true → W (G f ∷ gs) ≡ H f ∷ gs) (pass : (f : Entry) (gs : List Grouped) → is_same_position c f.canonical ≡ false → W (G f ∷ gs) ≡ G f ∷ W gs) (stay : (f : Entry) → is_same_position c f.canonical ≡ false → G f ≡ H f) where
    -- the one whose canonical position is seen
    pub changed : (before es : List Entry) → is_seen c before ≡ false → (is_seen c es ≡ false → W [] ≡ []) → W (map G (first_entries_behind before es)) ≡ map H (first_entries_behind before es)
    changed before [] unseen end = end refl
    changed before (x ∷ xs) unseen end = elim (same_or_other c x.canonical) [
      | inl same ↦
          let new : is_seen x.canonical before ≡ false = subst (λ (p : Position). is_seen p before ≡ false) same.2 unseen in
          let seen : is_seen c (before ++ x ∷ []) ≡ true = seen-push c before x ∙ (λ i. unseen i || (same.0 i || false)) in
          let rest = kept stay (before ++ x ∷ []) xs seen in
          ap (λ b. W (map G (cond b (first_entries_behind (before ++ x ∷ []) xs) (x ∷ first_entries_behind (before ++ x ∷ []) xs)))) new
          ∙ own x (map G (first_entries_behind (before ++ x ∷ []) xs)) same.0
          ∙ ap (λ gs. H x ∷ gs) rest
          ∙ sym (ap (λ b. map H (cond b (first_entries_behind (before ++ x ∷ []) xs) (x ∷ first_entries_behind (before ++ x ∷ []) xs))) new)
      | inr other ↦
          let unseen_more : is_seen c (before ++ x ∷ []) ≡ false = seen-push c before x ∙ (λ i. unseen i || (other.0 i || false)) in
          let rest = changed (before ++ x ∷ []) xs unseen_more (λ none. end ((λ i. other.0 i || none i))) in
          elim (told (is_seen x.canonical before)) [
            | inl t ↦
                ap (λ b. W (map G (cond b (first_entries_behind (before ++ x ∷ []) xs) (x ∷ first_entries_behind (before ++ x ∷ []) xs)))) t
                ∙ rest
                ∙ sym (ap (λ b. map H (cond b (first_entries_behind (before ++ x ∷ []) xs) (x ∷ first_entries_behind (before ++ x ∷ []) xs))) t)
            | inr f ↦
                let here = stay x other.0 in
                ap (λ b. W (map G (cond b (first_entries_behind (before ++ x ∷ []) xs) (x ∷ first_entries_behind (before ++ x ∷ []) xs)))) f
                ∙ pass x (map G (first_entries_behind (before ++ x ∷ []) xs)) other.0
                ∙ (λ i. here i ∷ rest i)
                ∙ sym (ap (λ b. map H (cond b (first_entries_behind (before ++ x ∷ []) xs) (x ∷ first_entries_behind (before ++ x ∷ []) xs))) f)
          ]
    ]

    -- a new one at the end
    module _ (e : Entry) (is : e.canonical ≡ c) (first : W [] ≡ H e ∷ []) where
      pub begun : (before es : List Entry) → is_seen c before ≡ false → is_seen c es ≡ false → W (map G (first_entries_behind before es)) ≡ map H (first_entries_behind before (es ++ e ∷ []))
      begun before [] unseen none =
          let new : is_seen e.canonical before ≡ false = subst (λ (p : Position). is_seen p before ≡ false) (sym is) unseen in
          first ∙ sym (ap (λ b. map H (cond b (first_entries_behind (before ++ e ∷ []) []) (e ∷ first_entries_behind (before ++ e ∷ []) []))) new)
      begun before (x ∷ xs) unseen none = elim (same_or_other c x.canonical) [
        | inl same ↦ absurd (false≢true (sym none ∙ ap (λ b. b || is_seen c xs) same.0))
        | inr other ↦
            let unseen_more : is_seen c (before ++ x ∷ []) ≡ false = seen-push c before x ∙ (λ i. unseen i || (other.0 i || false)) in
            let rest = begun (before ++ x ∷ []) xs unseen_more (second_of (is_same_position c x.canonical) (is_seen c xs) other.0 none) in
            elim (told (is_seen x.canonical before)) [
              | inl t ↦
                  ap (λ b. W (map G (cond b (first_entries_behind (before ++ x ∷ []) xs) (x ∷ first_entries_behind (before ++ x ∷ []) xs)))) t
                  ∙ rest
                  ∙ sym (ap (λ b. map H (cond b (first_entries_behind (before ++ x ∷ []) (xs ++ e ∷ [])) (x ∷ first_entries_behind (before ++ x ∷ []) (xs ++ e ∷ [])))) t)
              | inr f ↦
                  let here = stay x other.0 in
                  ap (λ b. W (map G (cond b (first_entries_behind (before ++ x ∷ []) xs) (x ∷ first_entries_behind (before ++ x ∷ []) xs)))) f
                  ∙ pass x (map G (first_entries_behind (before ++ x ∷ []) xs)) other.0
                  ∙ (λ i. here i ∷ rest i)
                  ∙ sym (ap (λ b. map H (cond b (first_entries_behind (before ++ x ∷ []) (xs ++ e ∷ [])) (x ∷ first_entries_behind (before ++ x ∷ []) (xs ++ e ∷ [])))) f)
            ]
      ]

-- an entry whose canonical position is seen is the first of none
pub first_entries-seen : (c : Position) (e : Entry) → e.canonical ≡ c → (before es : List Entry) → (is_seen c before || is_seen c es) ≡ true → first_entries_behind before (es ++ e ∷ []) ≡ first_entries_behind before es
first_entries-seen c e is before [] seen =
    let old : is_seen e.canonical before ≡ true = subst (λ (p : Position). is_seen p before ≡ true) (sym is) (or_end (is_seen c before) seen) in
    ap (λ b. cond b (first_entries_behind (before ++ e ∷ []) []) (e ∷ first_entries_behind (before ++ e ∷ []) [])) old
first_entries-seen c e is before (x ∷ xs) seen =
    let moved : (is_seen c (before ++ x ∷ []) || is_seen c xs) ≡ true = ap (λ b. b || is_seen c xs) (seen-push c before x) ∙ or_moved (is_seen c before) (is_same_position c x.canonical) (is_seen c xs) seen in
    let rest = first_entries-seen c e is (before ++ x ∷ []) xs moved in
    λ i. cond (is_seen x.canonical before) (rest i) (x ∷ rest i)

-- ---- one entry more

module _ (shape : Shape) where
  abbrev pub group_in : List Entry → List NextAt → Entry → Grouped
  group_in es ns f = record { canonical = f.canonical; opening = opening_of shape f (entries_at f.canonical es) (nexts_at f.canonical ns) }

  opening-push : (f : Entry) (es : List Entry) (ns : List NextAt) (e : Entry) → opening_of shape f (es ++ e ∷ []) ns ≡ with_one (opening_of shape f es ns) e.outcome
  opening-push f es ns e =
      let count = length-append es (e ∷ []) in
      let black = count_by-push (λ (x : Entry). is_black_win x.outcome) es e in
      let white = count_by-push (λ (x : Entry). is_white_win x.outcome) es e in
      let other = count_by-push (λ (x : Entry). is_no_win x.outcome) es e in
      λ i. record { count = count i; black = black i; white = white i; other = other i; game = f.game; node = f.node; nexts = rows_of shape ns }

  -- no entry has a canonical position that isn't seen
  pub no_entries : (c : Position) (es : List Entry) → is_seen c es ≡ false → entries_at c es ≡ []
  no_entries c [] none = refl
  no_entries c (x ∷ xs) none = elim (told (is_same_position c x.canonical)) [
    | inl t ↦ absurd (false≢true (sym none ∙ ap (λ b. b || is_seen c xs) t))
    | inr f ↦ ap (λ b. cond b (x ∷ entries_at c xs) (entries_at c xs)) f ∙ no_entries c xs (second_of (is_same_position c x.canonical) (is_seen c xs) f none)
  ]

  module _ (es : List Entry) (ns : List NextAt) (e : Entry) where
    abbrev more : List Entry
    more = es ++ e ∷ []

    own_entry : (f : Entry) (gs : List Grouped) → is_same_position e.canonical f.canonical ≡ true → with_entry (group_in es ns f ∷ gs) e ≡ group_in more ns f ∷ gs
    own_entry f gs t =
        let same : is_same_position f.canonical e.canonical ≡ true = (same_position f.canonical e.canonical).1 (sym ((same_position e.canonical f.canonical).0 t)) in
        let grown = filter-push (λ (x : Entry). is_same_position f.canonical x.canonical) es e true same in
        let opening : with_one (opening_of shape f (entries_at f.canonical es) (nexts_at f.canonical ns)) e.outcome ≡ opening_of shape f (entries_at f.canonical more) (nexts_at f.canonical ns) =
        sym (ap (λ xs. opening_of shape f xs (nexts_at f.canonical ns)) grown ∙ opening-push f (entries_at f.canonical es) (nexts_at f.canonical ns) e) in
        ap (λ b. cond b (record { canonical = f.canonical; opening = with_one (opening_of shape f (entries_at f.canonical es) (nexts_at f.canonical ns)) e.outcome } ∷ gs) (group_in es ns f ∷ with_entry gs e)) t
        ∙ ap (λ (o : Opening). record { canonical = f.canonical; opening = o } ∷ gs) opening

    pass_entry : (f : Entry) (gs : List Grouped) → is_same_position e.canonical f.canonical ≡ false → with_entry (group_in es ns f ∷ gs) e ≡ group_in es ns f ∷ with_entry gs e
    pass_entry f gs n = ap (λ b. cond b (record { canonical = f.canonical; opening = with_one (opening_of shape f (entries_at f.canonical es) (nexts_at f.canonical ns)) e.outcome } ∷ gs) (group_in es ns f ∷ with_entry gs e)) n

    stay_entry : (f : Entry) → is_same_position e.canonical f.canonical ≡ false → group_in es ns f ≡ group_in more ns f
    stay_entry f n = elim (same_or_other e.canonical f.canonical) [
      | inl same ↦ absurd (false≢true (sym n ∙ same.0))
      | inr other ↦
          let kept_entries : entries_at f.canonical more ≡ entries_at f.canonical es = filter-push (λ (x : Entry). is_same_position f.canonical x.canonical) es e false other.1 ∙ append-nil (entries_at f.canonical es) in
          ap (λ xs. record { canonical = f.canonical; opening = opening_of shape f xs (nexts_at f.canonical ns) }) (sym kept_entries)
    ]

    first_group : is_seen e.canonical es ≡ false → nexts_at e.canonical ns ≡ [] → with_entry [] e ≡ group_in more ns e ∷ []
    first_group unseen none =
        let own : is_same_position e.canonical e.canonical ≡ true = (same_position e.canonical e.canonical).1 refl in
        let grown : entries_at e.canonical more ≡ e ∷ [] = filter-push (λ (x : Entry). is_same_position e.canonical x.canonical) es e true own ∙ ap (λ xs. xs ++ e ∷ []) (no_entries e.canonical es unseen) in
        let opening : with_one (none_yet e.game e.node) e.outcome ≡ opening_of shape e (entries_at e.canonical more) (nexts_at e.canonical ns) =
        ap (λ rows. with_one (record { count = 0; black = 0; white = 0; other = 0; game = e.game; node = e.node; nexts = rows }) e.outcome) (sym (rows-none (plays_on shape)))
        ∙ sym (opening-push e [] [] e)
        ∙ sym (ap (λ xs. opening_of shape e xs (nexts_at e.canonical ns)) grown ∙ ap (opening_of shape e (e ∷ [])) none) in
        ap (λ (o : Opening). record { canonical = e.canonical; opening = o } ∷ []) opening

    pub groups-entry : (is_seen e.canonical es ≡ false → nexts_at e.canonical ns ≡ []) → with_entry (groups_of shape es ns) e ≡ groups_of shape (es ++ e ∷ []) ns
    groups-entry none = elim (told (is_seen e.canonical es)) [
      | inl t ↦
          changed e.canonical (group_in es ns) (group_in more ns) (λ gs. with_entry gs e) own_entry pass_entry stay_entry [] es refl (λ f. absurd (false≢true (sym f ∙ t)))
          ∙ ap (map (group_in more ns)) (sym (first_entries-seen e.canonical e refl [] es t))
      | inr f ↦ begun e.canonical (group_in es ns) (group_in more ns) (λ gs. with_entry gs e) own_entry pass_entry stay_entry e refl (first_group f (none f)) [] es refl f
    ]

  -- ---- one next move more

  module _ (order : AreInOrder (plays_on shape)) (es : List Entry) (ns : List NextAt) (n : NextAt) (on : IsOneOf n.played (plays_on shape)) where
    abbrev longer : List NextAt
    longer = ns ++ n ∷ []

    own_next : (f : Entry) (gs : List Grouped) → is_same_position n.canonical f.canonical ≡ true → with_next (group_in es ns f ∷ gs) n ≡ group_in es longer f ∷ gs
    own_next f gs t =
        let same : is_same_position f.canonical n.canonical ≡ true = (same_position f.canonical n.canonical).1 (sym ((same_position n.canonical f.canonical).0 t)) in
        let grown = filter-push (λ (x : NextAt). is_same_position f.canonical x.canonical) ns n true same in
        let rows : with_row (rows_of shape (nexts_at f.canonical ns)) n.played n.outcome ≡ rows_of shape (nexts_at f.canonical longer) =
        rows-grow (plays_on shape) order (nexts_at f.canonical ns) n on ∙ ap (rows_of shape) (sym grown) in
        let o = opening_of shape f (entries_at f.canonical es) (nexts_at f.canonical ns) in
        ap (λ b. cond b (record { canonical = f.canonical; opening = with_rows o (with_row o.nexts n.played n.outcome) } ∷ gs) (group_in es ns f ∷ with_next gs n)) t
        ∙ ap (λ (rs : List NextMove). record { canonical = f.canonical; opening = with_rows o rs } ∷ gs) rows

    pass_next : (f : Entry) (gs : List Grouped) → is_same_position n.canonical f.canonical ≡ false → with_next (group_in es ns f ∷ gs) n ≡ group_in es ns f ∷ with_next gs n
    pass_next f gs off =
        let o = opening_of shape f (entries_at f.canonical es) (nexts_at f.canonical ns) in
        ap (λ b. cond b (record { canonical = f.canonical; opening = with_rows o (with_row o.nexts n.played n.outcome) } ∷ gs) (group_in es ns f ∷ with_next gs n)) off

    stay_next : (f : Entry) → is_same_position n.canonical f.canonical ≡ false → group_in es ns f ≡ group_in es longer f
    stay_next f off = elim (same_or_other n.canonical f.canonical) [
      | inl same ↦ absurd (false≢true (sym off ∙ same.0))
      | inr other ↦
          let kept_nexts : nexts_at f.canonical longer ≡ nexts_at f.canonical ns = filter-push (λ (x : NextAt). is_same_position f.canonical x.canonical) ns n false other.1 ∙ append-nil (nexts_at f.canonical ns) in
          ap (λ xs. record { canonical = f.canonical; opening = opening_of shape f (entries_at f.canonical es) xs }) (sym kept_nexts)
    ]

    pub groups-next : with_next (groups_of shape es ns) n ≡ groups_of shape es (ns ++ n ∷ [])
    groups-next = changed n.canonical (group_in es ns) (group_in es longer) (λ gs. with_next gs n) own_next pass_next stay_next [] es refl (λ f. refl)
