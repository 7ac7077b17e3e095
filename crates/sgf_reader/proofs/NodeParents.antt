-- Lists of parents and depths: how nodes hang below each other, and what one node more does.
use Rattle.std.proofs.Common.{◌≡◌, ◌≢◌, ◌⊎◌, inl, inr, ℕ, zero, suc, ◌+◌, ◌-◌, ◌<◌, ◌≤◌, ap, sym, subst, refl, ◌∙◌, arith, List, [], ◌∷◌, ◌++◌, length, get_or, length-append, Some, None, Option}
use Rattle.std.specs.Prelude.{⊤}
use Rattle.std.proofs.lemmas.Bool.{cases_lt, cases_order}
use Rattle.std.proofs.lemmas.List.{get_or_append_left, get_or_push, get_or_past}

-- the parents of these nodes' numbers: this one is that one, or an ancestor of it
pub data IsAncestor (above : List (Option ℕ)) : ℕ → ℕ → Type 0 where
  itself : {n : ℕ} → IsAncestor above n n
  further : {m n p : ℕ} → get_or above n None ≡ Some p → IsAncestor above m p → IsAncestor above m n

-- how the node of a number hangs below its parent: as deep and as its only child, or one deeper
pub record IsHung (above : List (Option ℕ)) (depths : List ℕ) (n p : ℕ) : Type 0 where
  pub earlier : p < n
  pub ancestor : IsAncestor above p (n - 1)
  pub depth : (get_or depths n 0 ≡ get_or depths p 0) ⊎ (get_or depths n 0 ≡ get_or depths p 0 + 1)
  pub only : get_or depths n 0 ≡ get_or depths p 0 → (m : ℕ) → get_or above m None ≡ Some p → m ≡ n

-- the nodes of a game, by their parents and depths: the first alone has no parent
pub record AreHung (above : List (Option ℕ)) (depths : List ℕ) : Type 0 where
  pub root_parent : get_or above 0 None ≡ None
  pub root_depth : get_or depths 0 0 ≡ 1
  pub others : (n : ℕ) → 1 ≤ n → n < length above → (p : ℕ) × (get_or above n None ≡ Some p) × IsHung above depths n p

-- ---- parents that are there

there : (above : List (Option ℕ)) (n p : ℕ) → get_or above n None ≡ Some p → n < length above
there above n p e = elim (cases_lt n (length above)) [
  | inl l ↦ l
  | inr l ↦ let past : get_or above n None ≡ None = get_or_past above n None l in absurd (cc)
]

there-more : (above : List (Option ℕ)) (x : Option ℕ) (n p : ℕ) → get_or above n None ≡ Some p → get_or (above ++ x ∷ []) n None ≡ Some p
there-more above x n p e = get_or_append_left above (x ∷ []) None n (there above n p e) ∙ e

-- who has a parent in the longer list
there-cases : (above : List (Option ℕ)) (x : Option ℕ) (n p : ℕ) → get_or (above ++ x ∷ []) n None ≡ Some p → ((n < length above) × (get_or above n None ≡ Some p)) ⊎ ((n ≡ length above) × (x ≡ Some p))
there-cases above x n p e = elim (cases_order n (length above)) [
  | inl same ↦ inr (same, sym (get_or_push above x None n (sym same)) ∙ e)
  | inr apart ↦ elim apart [
    | inl l ↦ inl (l, sym (get_or_append_left above (x ∷ []) None n l) ∙ e)
    | inr l ↦ let short = there (above ++ x ∷ []) n p e in absurd (omega (arith, length-append above (x ∷ [])))
  ]
]

IsAncestor-more : (above : List (Option ℕ)) (x : Option ℕ) (m n : ℕ) → IsAncestor above m n → IsAncestor (above ++ x ∷ []) m n
IsAncestor-more above x m n itself = itself
IsAncestor-more above x m n (further {p = p} e a) = further (there-more above x n p e) (IsAncestor-more above x m p a)

IsAncestor-then : (above : List (Option ℕ)) (k m n : ℕ) → IsAncestor above k m → IsAncestor above m n → IsAncestor above k n
IsAncestor-then above k m n a itself = a
IsAncestor-then above k m n a (further {p = p} e b) = further e (IsAncestor-then above k m p a b)

-- ---- the nodes that can have more children

abbrev pub Under : List (Option ℕ) → Option ℕ → ℕ → Type 0
Under above None k = ⊤
Under above (Some j) k = IsAncestor above j k

-- each an ancestor of the one before it, as deep as there are brackets open there
abbrev pub Chain : List (Option ℕ) → List ℕ → List (Option ℕ) → Type 0
Chain above depths [] = ⊤
Chain above depths (p ∷ []) = p ≡ None
Chain above depths (p ∷ q ∷ parents) = (k : ℕ) × (p ≡ Some k) × (k < length above) × (get_or depths k 0 ≡ length (q ∷ parents)) × Under above q k × Chain above depths (q ∷ parents)

chain-depth : (above : List (Option ℕ)) (depths : List ℕ) (parents : List (Option ℕ)) → Chain above depths parents → (j p : ℕ) → get_or parents j None ≡ Some p → get_or depths p 0 < length parents
chain-depth above depths [] c j p e = absurd (cc)
chain-depth above depths (x ∷ []) c zero p e = absurd (cc)
chain-depth above depths (x ∷ []) c (suc j) p e = absurd (cc)
chain-depth above depths (x ∷ y ∷ parents) c zero p e =
    let same : c.0 ≡ p = (let both : Some c.0 ≡ Some p = sym c.1 ∙ e in cc) in
    omega (arith, ap (λ (i : ℕ). get_or depths i 0) same, c.3)
chain-depth above depths (x ∷ y ∷ parents) c (suc j) p e = omega (arith, chain-depth above depths (y ∷ parents) c.5 j p e)

under-more : (above : List (Option ℕ)) (x q : Option ℕ) (k : ℕ) → Under above q k → Under (above ++ x ∷ []) q k
under-more above x None k u = tt
under-more above x (Some j) k u = IsAncestor-more above x j k u

chain-more : (above : List (Option ℕ)) (depths : List ℕ) (x : Option ℕ) (d : ℕ) (parents : List (Option ℕ)) → length above ≡ length depths → Chain above depths parents → Chain (above ++ x ∷ []) (depths ++ d ∷ []) parents
chain-more above depths x d [] e c = tt
chain-more above depths x d (p ∷ []) e c = c
chain-more above depths x d (p ∷ q ∷ parents) e c = (
  c.0,
  c.1,
  omega (arith, c.2, length-append above (x ∷ [])),
  get_or_append_left depths (d ∷ []) 0 c.0 (omega (arith, c.2, e)) ∙ c.3,
  under-more above x q c.0 c.4,
  chain-more above depths x d (q ∷ parents) e c.5,
)

-- The nodes so far, and those that can have more children, the one that gets the next first. A node that is as deep as
-- its parent left that parent no more.
pub record Hanging (above : List (Option ℕ)) (depths : List ℕ) (k : ℕ) (q : Option ℕ) (parents : List (Option ℕ)) : Type 0 where
  pub same : length above ≡ length depths
  pub hung : AreHung above depths
  pub chain : Chain above depths (Some k ∷ q ∷ parents)
  pub top : IsAncestor above k (length above - 1)
  pub left : (m p : ℕ) → get_or above m None ≡ Some p → get_or depths m 0 ≡ get_or depths p 0 → (j : ℕ) → get_or (Some k ∷ q ∷ parents) j None ≢ Some p

module _ (above : List (Option ℕ)) (depths : List ℕ) (k : ℕ) (q : Option ℕ) (parents : List (Option ℕ)) (h : Hanging above depths k q parents) where
  chain-head : (k < length above) × (get_or depths k 0 ≡ length (q ∷ parents)) × Under above q k × Chain above depths (q ∷ parents)
  chain-head =
      let same : h.chain.0 ≡ k = (let both : Some h.chain.0 ≡ Some k = sym h.chain.1 in cc) in
      (subst (λ (i : ℕ). i < length above) same h.chain.2, subst (λ (i : ℕ). get_or depths i 0 ≡ length (q ∷ parents)) same h.chain.3, subst (Under above q) same h.chain.4, h.chain.5)

  -- a parent is earlier
  parent-earlier : (m p : ℕ) → get_or above m None ≡ Some p → p < m
  parent-earlier zero p e = let none = h.hung.root_parent in absurd (cc)
  parent-earlier (suc m) p e =
      let o = h.hung.others (suc m) (omega arith) (there above (suc m) p e) in
      let same : o.0 ≡ p = (let both : Some o.0 ≡ Some p = sym o.1 ∙ e in cc) in
      omega (arith, same, o.2.earlier)

  module _ (d : ℕ) where
    abbrev more : List (Option ℕ)
    more = above ++ Some k ∷ []

    abbrev deeper : List ℕ
    deeper = depths ++ d ∷ []

    old-depth : (n : ℕ) → n < length above → get_or deeper n 0 ≡ get_or depths n 0
    old-depth n l = get_or_append_left depths (d ∷ []) 0 n (omega (arith, h.same))

    new-depth : get_or deeper (length above) 0 ≡ d
    new-depth = get_or_push depths d 0 (length above) (sym h.same)

    new-parent : get_or more (length above) None ≡ Some k
    new-parent = get_or_push above (Some k) None (length above) refl

    -- the nodes before hang as they did
    old-hung : (n p : ℕ) → n < length above → get_or above n None ≡ Some p → IsHung above depths n p → IsHung more deeper n p
    old-hung n p l e i =
        let before : p < n = i.earlier in
        let same_n = old-depth n l in
        let same_p = old-depth p (omega arith) in
        record {
          earlier = i.earlier;
          ancestor = IsAncestor-more above (Some k) p (n - 1) i.ancestor;
          depth = elim i.depth [
            | inl f ↦ inl (same_n ∙ f ∙ sym same_p)
            | inr f ↦ inr (omega (arith, same_n, f, same_p))
          ];
          only = λ f m g. elim (there-cases above (Some k) m p g) [
            | inl old ↦ i.only (sym same_n ∙ f ∙ same_p) m old.1
            | inr new ↦ let same : k ≡ p = (let both : Some k ≡ Some p = new.1 in cc) in absurd (h.left n p e (sym same_n ∙ f ∙ same_p) 0 (ap (λ (j : ℕ). Some j) same))
          ];
        }

    all-hung : IsHung more deeper (length above) k → AreHung more deeper
    all-hung i = record {
      root_parent = get_or_append_left above (Some k ∷ []) None 0 (omega (arith, chain-head.0)) ∙ h.hung.root_parent;
      root_depth = old-depth 0 (omega (arith, chain-head.0)) ∙ h.hung.root_depth;
      others = λ n low high. elim (cases_lt n (length above)) [
        | inl l ↦ let o = h.hung.others n low l in (o.0, there-more above (Some k) n o.0 o.1, old-hung n o.0 l o.1 o.2)
        | inr l ↦
            let last : length above ≡ n = omega (arith, length-append above (Some k ∷ [])) in
            subst (λ (i : ℕ). (p : ℕ) × (get_or more i None ≡ Some p) × IsHung more deeper i p) last (k, new-parent, i)
      ];
    }

    newest-top : IsAncestor more (length above) (length more - 1)
    newest-top = let last : length above ≡ length more - 1 = omega (arith, length-append above (Some k ∷ [])) in subst (λ (i : ℕ). IsAncestor more (length above) i) last itself

    longer : length more ≡ length deeper
    longer = length-append above (Some k ∷ []) ∙ ap (λ (i : ℕ). i + 1) h.same ∙ sym (length-append depths (d ∷ []))

    -- what was left stays so
    old-left : (m p : ℕ) → m < length above → get_or above m None ≡ Some p → get_or deeper m 0 ≡ get_or deeper p 0 → get_or depths m 0 ≡ get_or depths p 0
    old-left m p l e f = let before = parent-earlier m p e in sym (old-depth m l) ∙ f ∙ old-depth p (omega arith)

    -- behind a bracket: one deeper
    pub hanging-push : d ≡ length (Some k ∷ q ∷ parents) → Hanging more deeper (length above) (Some k) (q ∷ parents)
    hanging-push deep =
        let low : get_or deeper k 0 ≡ length (q ∷ parents) = old-depth k chain-head.0 ∙ chain-head.1 in
        record {
          same = longer;
          hung = all-hung (record {
            earlier = chain-head.0;
            ancestor = IsAncestor-more above (Some k) k (length above - 1) h.top;
            depth = inr (omega (arith, new-depth, deep, low));
            only = λ f m g. absurd (omega (arith, new-depth, deep, low, f));
          });
          chain = (length above, refl, omega (arith, length-append above (Some k ∷ [])), new-depth ∙ deep, further new-parent itself, chain-more above depths (Some k) d (Some k ∷ q ∷ parents) h.same h.chain);
          top = newest-top;
          left = push-left deep low;
        } where
          push-left : d ≡ length (Some k ∷ q ∷ parents) → get_or deeper k 0 ≡ length (q ∷ parents) → (m p : ℕ) → get_or more m None ≡ Some p → get_or deeper m 0 ≡ get_or deeper p 0 → (j : ℕ) → get_or (Some (length above) ∷ Some k ∷ q ∷ parents) j None ≢ Some p
          push-left deep low m p e f zero g =
              let same : length above ≡ p = (let both : Some (length above) ≡ Some p = g in cc) in
              elim (there-cases above (Some k) m p e) [
                | inl old ↦ let before = parent-earlier m p old.1 in absurd (omega (arith, old.0))
                | inr new ↦ let same_k : k ≡ p = (let both : Some k ≡ Some p = new.1 in cc) in absurd (omega (arith, chain-head.0))
              ]
          push-left deep low m p e f (suc j) g = elim (there-cases above (Some k) m p e) [
            | inl old ↦ h.left m p old.1 (old-left m p old.0 old.1 f) j g
            | inr new ↦
                let same_k : k ≡ p = (let both : Some k ≡ Some p = new.1 in cc) in
                absurd (omega (arith, new-depth, deep, low, ap (λ (i : ℕ). get_or deeper i 0) same_k, ap (λ (i : ℕ). get_or deeper i 0) new.0, f))
          ]

    -- behind a node: as deep, and its only child
    pub hanging-extend : k ≡ length above - 1 → d ≡ length (q ∷ parents) → Hanging more deeper (length above) q parents
    hanging-extend newest deep =
        let low : get_or deeper k 0 ≡ length (q ∷ parents) = old-depth k chain-head.0 ∙ chain-head.1 in
        record {
          same = longer;
          hung = all-hung (record {
            earlier = chain-head.0;
            ancestor = IsAncestor-more above (Some k) k (length above - 1) h.top;
            depth = inl (new-depth ∙ deep ∙ sym low);
            only = λ f m g. elim (there-cases above (Some k) m k g) [
              | inl old ↦ let before = parent-earlier m k old.1 in absurd (omega (arith, old.0))
              | inr new ↦ new.0
            ];
          });
          chain = (length above, refl, omega (arith, length-append above (Some k ∷ [])), new-depth ∙ deep, extend-under q chain-head.2, chain-more above depths (Some k) d (q ∷ parents) h.same chain-head.3);
          top = newest-top;
          left = extend-left low;
        } where
          extend-under : (r : Option ℕ) → Under above r k → Under more r (length above)
          extend-under None u = tt
          extend-under (Some j) u = further new-parent (IsAncestor-more above (Some k) j k u)

          extend-left : get_or deeper k 0 ≡ length (q ∷ parents) → (m p : ℕ) → get_or more m None ≡ Some p → get_or deeper m 0 ≡ get_or deeper p 0 → (j : ℕ) → get_or (Some (length above) ∷ q ∷ parents) j None ≢ Some p
          extend-left low m p e f zero g =
              let same : length above ≡ p = (let both : Some (length above) ≡ Some p = g in cc) in
              elim (there-cases above (Some k) m p e) [
                | inl old ↦ let before = parent-earlier m p old.1 in absurd (omega (arith, old.0))
                | inr new ↦ let same_k : k ≡ p = (let both : Some k ≡ Some p = new.1 in cc) in absurd (omega (arith, chain-head.0))
              ]
          extend-left low m p e f (suc j) g = elim (there-cases above (Some k) m p e) [
            | inl old ↦ h.left m p old.1 (old-left m p old.0 old.1 f) (suc j) g
            | inr new ↦
                let same_k : k ≡ p = (let both : Some k ≡ Some p = new.1 in cc) in
                let under : get_or depths p 0 < length (q ∷ parents) = chain-depth above depths (q ∷ parents) chain-head.3 j p g in
                absurd (omega (arith, chain-head.1, ap (λ (i : ℕ). get_or depths i 0) same_k))
          ]

-- behind a tree: the next one gets the node before it
pub hanging-pop : (above : List (Option ℕ)) (depths : List ℕ) (k : ℕ) (q r : Option ℕ) (parents : List (Option ℕ)) → Hanging above depths k q (r ∷ parents) → (j : ℕ) × (q ≡ Some j) × Hanging above depths j r parents
hanging-pop above depths k q r parents h =
    let head = chain-head above depths k q (r ∷ parents) h in
    let j : ℕ = head.3.0 in
    let is : q ≡ Some j = head.3.1 in (
      j,
      is,
      record {
        same = h.same;
        hung = h.hung;
        chain = subst (λ (x : Option ℕ). Chain above depths (x ∷ r ∷ parents)) is head.3;
        top = IsAncestor-then above j k (length above - 1) (subst (λ (x : Option ℕ). Under above x k) is head.2) h.top;
        left = λ m p e f i g. h.left m p e f (suc i) (ap (λ (x : Option ℕ). get_or (x ∷ r ∷ parents) i None) is ∙ g);
      },
    )

-- the root alone
pub hanging-root : Hanging (None ∷ []) (1 ∷ []) 0 None []
hanging-root = record {
  same = refl;
  hung = record { root_parent = refl; root_depth = refl; others = λ n low high. absurd (omega arith) };
  chain = (0, refl, omega arith, refl, tt, refl);
  top = itself;
  left = λ m p e f j g. let l = there (None ∷ []) m p e in root_left m p e;
} where
  root_left : (m p : ℕ) → get_or (None ∷ []) m None ≡ Some p → ⊥
  root_left zero p e = absurd (cc)
  root_left (suc m) p e = absurd (cc)
