-- Lists of keys, and what they stand for.
use Rattle.std.proofs.Common.{◌≡◌, ◌↔◌, ◌⊎◌, ℕ, ◌+◌, ◌*◌, ◌/◌, ◌%◌, ◌<◌, ◌≤◌, inl, inr, Bool, List, [], ◌∷◌, ◌++◌, length, get_or, map, take, sym, ap, ◌∙◌, arith, subst, append_assoc}
use mathlib.Core.List.{IsPrefix}
use Rattle.std.specs.Prelude.{Contains, if◌then◌else◌}
use Rattle.std.proofs.lemmas.Bool.{cases_lt, le-ltb, lt-ltb}
use Rattle.std.proofs.lemmas.List.{append-nil, get_or-map, length-map, map-append, map_more, take_all}
use Rattle.std.proofs.lemmas.List.Elements.{Contains-append_cases, Contains-append_left, Contains-append_right, Contains-get_or}
use Rattle.pattern_occurrences.specs.declared.occurrence.Occurrence.{Occurrence}
use Rattle.run_matcher.specs.GoingOn.{occurrences_of}
use Rattle.run_matcher.specs.Keys.{begun_list, begun_of, end_number, holds_by, key_of, occurrence_number}
use Rattle.run_matcher.specs.declared.begun.Begun.{Begun}
use Rattle.run_matcher.specs.declared.begun.HoldsTo.{HoldsTo}
use Rattle.run_matcher.specs.declared.begun.HoldsTo.TheVariants as holding

-- ---- members of a list that is mapped
module _ {X Y : Type 0} (f : X → Y) (default : X) where
  pub map-member : (xs : List X) (y : Y) → Contains (map f xs) y → (x : X) × Contains xs x × (f x ≡ y)
  map-member xs y (k, lt, is) =
      let within : k < length xs = omega (arith, lt, length-map xs f) in
      (get_or xs k default, Contains-get_or xs k default within, sym (get_or-map f xs k default y within) ∙ is)

  pub member-map : (xs : List X) (x : X) → Contains xs x → Contains (map f xs) (f x)
  member-map xs x (k, lt, is) = (k, omega (arith, lt, length-map xs f), get_or-map f xs k x (f x) lt ∙ ap f is)

-- ---- keys

abbrev the_occurrence : ℕ → ℕ → Occurrence
the_occurrence node placement = record { node = node; placement = placement }

abbrev the_begun : ℕ → ℕ → ℕ → Begun
the_begun node placement known = record { occurrence = the_occurrence node placement; holds = holds_by known }

same-begun : (n m i j a b : ℕ) → n ≡ m → i ≡ j → a ≡ b → the_begun n i a ≡ the_begun m j b
same-begun n m i j a b e f g = ap (λ (k : ℕ). the_begun k i a) e ∙ ap (λ (k : ℕ). the_begun m k a) f ∙ ap (the_begun m j) g

module _ (placement known node : ℕ) (small : placement < 65536) (few : known ≤ 65536) where
  number-of : occurrence_number (key_of placement known node) ≡ node * 65536 + placement
  number-of = omega arith

  node-of : (node * 65536 + placement) / 65536 ≡ node
  node-of = omega arith

  placement-of : (node * 65536 + placement) % 65536 ≡ placement
  placement-of = omega arith

  known-of : key_of placement known node % 131072 ≡ known
  known-of = omega arith

  begun_of-key : begun_of (key_of placement known node) ≡ the_begun node placement known
  begun_of-key = same-begun _ _ _ _ _ _ (ap (λ (p : ℕ). p / 65536) number-of ∙ node-of) (ap (λ (p : ℕ). p % 65536) number-of ∙ placement-of) known-of

-- ---- how far it is known to hold

end-by : (number : ℕ) → end_number (holds_by number) ≡ number
end-by number = elim (cases_lt 0 number) [
  | inl some ↦ ap (λ (b : Bool). end_number (if b then holding.Known number else holding.Unknown)) (lt-ltb 0 number some)
  | inr none ↦ ap (λ (b : Bool). end_number (if b then holding.Known number else holding.Unknown)) (le-ltb 0 number none) ∙ omega (arith, none)
]

-- what a number tells was told to it
pub told-again : (holds : HoldsTo) (end : ℕ) → holds_by (end_number holds) ≡ holding.Known end → holds ≡ holding.Known end
told-again (holding.Known given) end is = ap holding.Known (sym (end-by given) ∙ ap end_number is)
told-again holding.Unknown end is = is

-- ---- the occurrences of what begins

abbrev occurrence : Begun → Occurrence
occurrence b = b.occurrence

pub of-begun : (bs : List Begun) (b : Begun) → Contains bs b → Contains (occurrences_of bs) b.occurrence
of-begun bs b h = member-map occurrence (the_begun 0 0 0) bs b h

pub begun-of : (bs : List Begun) (o : Occurrence) → Contains (occurrences_of bs) o → (b : Begun) × Contains bs b × (b.occurrence ≡ o)
begun-of bs o h = map-member occurrence (the_begun 0 0 0) bs o h

-- the keys of one placement more
module _ (placement known : ℕ) (nodes old new : List ℕ) (small : placement < 65536) (few : known ≤ 65536) (added : new ≡ old ++ map (key_of placement known) nodes) where
  abbrev more : List Begun
  more = begun_list (map (key_of placement known) nodes)

  both : begun_list new ≡ begun_list old ++ more
  both = ap begun_list added ∙ map-append begun_of old (map (key_of placement known) nodes)

  in_more : (b : Begun) → Contains more b → (b.occurrence.placement ≡ placement) × Contains nodes b.occurrence.node × (b.holds ≡ holds_by known)
  in_more b here =
      let (key, in_keys, is) = map-member begun_of 0 (map (key_of placement known) nodes) b here in
      let (node, in_nodes, e) = map-member (key_of placement known) 0 nodes key in_keys in
      let told : the_begun node placement known ≡ b = sym (begun_of-key placement known node small few) ∙ ap begun_of e ∙ is in
      (sym (ap (λ (c : Begun). c.occurrence.placement) told), subst (Contains nodes) (ap (λ (c : Begun). c.occurrence.node) told) in_nodes, sym (ap (λ (c : Begun). c.holds) told))

  more-has : (node : ℕ) → Contains nodes node → Contains more (the_begun node placement known)
  more-has node in_nodes =
      subst (Contains more) (begun_of-key placement known node small few)
      (member-map begun_of 0 (map (key_of placement known) nodes) (key_of placement known node) (member-map (key_of placement known) 0 nodes node in_nodes))

  pub begun-added : (b : Begun) → Contains (begun_list new) b → Contains (begun_list old) b ⊎ ((b.occurrence.placement ≡ placement) × Contains nodes b.occurrence.node × (b.holds ≡ holds_by known))
  begun-added b h = elim (Contains-append_cases (begun_list old) more b (subst (λ (bs : List Begun). Contains bs b) both h)) [
    | inl before ↦ inl before
    | inr here ↦ inr (in_more b here)
  ]

  into-new : (b : Begun) → Contains (begun_list old ++ more) b → Contains (occurrences_of (begun_list new)) b.occurrence
  into-new b h = of-begun (begun_list new) b (subst (λ (bs : List Begun). Contains bs b) (sym both) h)

  pub keys-added : (o : Occurrence) → Contains (occurrences_of (begun_list new)) o ↔ (Contains (occurrences_of (begun_list old)) o ⊎ ((o.placement ≡ placement) × Contains nodes o.node))
  keys-added o = (
    λ h.
        let (b, in_new, is) = begun-of (begun_list new) o h in
        elim (begun-added b in_new) [
          | inl before ↦ inl (subst (Contains (occurrences_of (begun_list old))) is (of-begun (begun_list old) b before))
          | inr told ↦ inr (ap (λ (p : Occurrence). p.placement) (sym is) ∙ told.0, subst (Contains nodes) (ap (λ (p : Occurrence). p.node) is) told.1)
        ],
    λ h. elim h [
      | inl before ↦
          let (b, in_old, is) = begun-of (begun_list old) o before in
          subst (Contains (occurrences_of (begun_list new))) is (into-new b (Contains-append_left (begun_list old) more b in_old))
      | inr (e, in_nodes) ↦
          subst (Contains (occurrences_of (begun_list new))) (ap (the_occurrence o.node) (sym e))
          (into-new (the_begun o.node placement known) (Contains-append_right (begun_list old) more (the_begun o.node placement known) (more-has o.node in_nodes)))
    ],
  )

-- where keys begin with others, so does what they stand for
pub begun-kept : (old new : List ℕ) (seen : List Begun) → begun_list old ≡ seen → IsPrefix old new → IsPrefix seen (begun_list new)
begun-kept old new seen view (more, is) = (begun_list more, ap (λ (bs : List Begun). bs ++ begun_list more) (sym view) ∙ sym (map-append begun_of old more) ∙ ap begun_list is)

-- ---- lists that are made one by one
module _ {X Y : Type 0} (f : X → Y) (old : List Y) (xs : List X) where
  pub mapped-none : old ≡ old ++ map f (take 0 xs)
  mapped-none = sym (append-nil old)

  pub mapped-more : (i : ℕ) (d : X) (now new : List Y) (y : Y) → i < length xs → now ≡ old ++ map f (take i xs) → new ≡ now ++ y ∷ [] → y ≡ f (get_or xs i d) → new ≡ old ++ map f (take (i + 1) xs)
  mapped-more i d now new y lt before pushed is =
      pushed ∙ ap (λ (ys : List Y). ys ++ y ∷ []) before ∙ append_assoc old (map f (take i xs)) (y ∷ [])
      ∙ ap (λ (z : Y). old ++ (map f (take i xs) ++ z ∷ [])) is
      ∙ ap (λ (ys : List Y). old ++ ys) (sym (map_more f xs i d lt))

  pub mapped-all : (i : ℕ) (now : List Y) → length xs ≤ i → now ≡ old ++ map f (take i xs) → now ≡ old ++ map f xs
  mapped-all i now all made = made ∙ ap (λ (ys : List X). old ++ map f ys) (take_all i xs all)
