-- The entries of the players' table, and its rows.
use Rattle.std.proofs.Common.{◌≡◌, ◌⊎◌, ◌∙◌, ◌+◌, ◌<◌, ◌≤◌, ℕ, zero, suc, Bool, true, false, cond, not, inl, inr, List, [], ◌∷◌, All, length, Option, Some, None, IfSome, slice_get, unwrap_or, refl, sym, ap, subst, arith}
use Rattle.std.specs.List.{position_or_len}
use Rattle.std.specs.Map.{keys_of, lookup, values_of}
use Rattle.std.specs.Str.{bytes_eq}
use Rattle.std.proofs.lemmas.List.Elements.{All-head, All-tail}
use Rattle.std.specs.declared.alloc.Global.{Global}
use Rattle.std.specs.declared.vec.Vec.{Vec}
use Rattle.info_filter.specs.Players.{Side, TableRow}
use Rattle.info_filter.specs.Seats.{Entry, IsCountedAt, IsCountedFor, IsFirst, IsNext, IsOneSideMore, IsSeat, is_same_name, row_of, table_rows_of}
use Rattle.info_filter.specs.SidesCounted.{AreRowsWithSide, with_side_counted, with_side}
use Rattle.kb_geometry.specs.Counts.{one_if}
use Rattle.indexmap.specs.IndexMap.{insert_entry}
use Rattle.indexmap.specs.Layout.{set_value_at}
use Rattle.info_filter.specs.declared.score.Score.{Score}
use Rattle.info_filter.specs.declared.seat.Seat.{Seat}
use Rattle.info_filter.specs.declared.seat.Seat.TheVariants as seat

-- ---- scores that are looked up

-- no row of the table has more games than this
abbrev pub AreSmall : ℕ → List TableRow → Type 0
AreSmall most rows = All (λ (row : TableRow). row.games ≤ most) rows

pub value_at : (es : List Entry) (i : ℕ) (v : Score) → slice_get (values_of es) i ≡ Some v → (k : Vec ℕ Global) × (slice_get es i ≡ Some (k, v))
value_at [] i v e = absurd cc
value_at (x ∷ es) zero v e = let same : x.1 ≡ v = cc in (x.0, ap (λ s. Some (x.0, s)) same)
value_at (x ∷ es) (suc i) v e = value_at es i v e

pub small_at : (most : ℕ) (es : List Entry) (i : ℕ) (v : Score) → AreSmall most (table_rows_of es) → slice_get (values_of es) i ≡ Some v → v.games ≤ most
small_at most [] i v small e = absurd cc
small_at most (x ∷ es) zero v small e = let same : x.1 ≡ v = cc in subst (λ (s : Score). s.games ≤ most) same (All-head (λ (r : TableRow). r.games ≤ most) (row_of x) (table_rows_of es) small)
small_at most (x ∷ es) (suc i) v small e = small_at most es i v (All-tail (λ (r : TableRow). r.games ≤ most) (row_of x) (table_rows_of es) small) e

pub small_found : (most : ℕ) (test : Vec ℕ Global → Bool) (es : List Entry) → AreSmall most (table_rows_of es) → IfSome (lookup test es) (λ (v : Score). v.games ≤ most)
small_found most test [] small = tt
small_found most test (x ∷ es) small = elim (test x.0) as (λ (b : Bool). IfSome (cond b (Some x.1) (lookup test es)) (λ (v : Score). v.games ≤ most)) [
  | true ↦ All-head (λ (r : TableRow). r.games ≤ most) (row_of x) (table_rows_of es) small
  | false ↦ small_found most test es (All-tail (λ (r : TableRow). r.games ≤ most) (row_of x) (table_rows_of es) small)
]

pub small_or_none : (most : ℕ) (found : Option Score) (none old : Score) → none.games ≡ 0 → old ≡ unwrap_or found none → IfSome found (λ (v : Score). v.games ≤ most) → old.games ≤ most
small_or_none most (Some v) none old zero_games is small = subst (λ (s : Score). s.games ≤ most) (sym is) small
small_or_none most None none old zero_games is small = let same = ap (λ (s : Score). s.games) is in omega (arith, same, zero_games)

pub next_there : (won lost : Bool) (found : Option Score) (none old new : Score) → none.games ≡ 0 → none.wins ≡ 0 → none.losses ≡ 0 → old ≡ unwrap_or found none → IsOneSideMore won lost old new → IsNext won lost found new
next_there won lost (Some v) none old new games wins losses is more = subst (λ (s : Score). IsOneSideMore won lost s new) is more
next_there won lost None none old new games wins losses is more =
    let old_games = ap (λ (s : Score). s.games) is in
    let old_wins = ap (λ (s : Score). s.wins) is in
    let old_losses = ap (λ (s : Score). s.losses) is in
    record {
      games = let e = more.games in omega (arith, e, old_games, games);
      wins = let e = more.wins in omega (arith, e, old_wins, wins);
      losses = let e = more.losses in omega (arith, e, old_losses, losses);
    }

-- ---- one side more in the entries

told : (b : Bool) → (b ≡ true) ⊎ (b ≡ false)
told true = inl refl
told false = inr refl

-- the side of a name, with its result
abbrev pub side_of : List ℕ → Bool → Bool → Side
side_of name won lost = record { name = name; won = won; lost = lost }

-- a row by its three counts
same_row : (k : Vec ℕ Global) (old new : Score) (side : Side) → IsOneSideMore side.won side.lost old new → row_of (k, new) ≡ with_side_counted (row_of (k, old)) side
same_row k old new side more = λ i. record { name = k.items; games = more.games i; wins = more.wins i; losses = more.losses i }

first_row : (k : Vec ℕ Global) (new : Score) (won lost : Bool) → IsFirst won lost new → row_of (k, new) ≡ with_side_counted (record { name = k.items; games = 0; wins = 0; losses = 0 }) (side_of k.items won lost)
first_row k new won lost first =
    let wins : new.wins ≡ 0 + one_if won = let e = first.wins in omega (arith, e) in
    let losses : new.losses ≡ 0 + one_if lost = let e = first.losses in omega (arith, e) in
    λ i. record { name = k.items; games = first.games i; wins = wins i; losses = losses i }

-- where a name has its row
abbrev pub place_of : List ℕ → List Entry → ℕ
place_of name es = position_or_len (λ (key : Vec ℕ Global). bytes_eq name key.items) (keys_of es)

pub row_counted : (es : List Entry) (name : List ℕ) (i : ℕ) (k : Vec ℕ Global) (v w : Score) (won lost : Bool) → place_of name es ≡ i → i < length es → slice_get es i ≡ Some (k, v) → IsOneSideMore won lost v w →
    table_rows_of (set_value_at es i w) ≡ with_side (table_rows_of es) (side_of name won lost)
row_counted [] name i k v w won lost place within is more = absurd (omega (arith, within))
row_counted (x ∷ es) name zero k v w won lost place within is more = elim (told (bytes_eq name x.0.items)) [
  | inl e ↦
      let same : x.1 ≡ v = cc (is) in
      let row = same_row x.0 x.1 w (side_of name won lost) (subst (λ (s : Score). IsOneSideMore won lost s w) (sym same) more) in
      rw e (ap (λ (r : TableRow). r ∷ table_rows_of es) row)
  | inr e ↦ let far = subst (λ (b : Bool). cond (not b) (1 + place_of name es) 0 ≡ 0) e place in absurd (omega (arith, far))
]
row_counted (x ∷ es) name (suc i) k v w won lost place within is more = elim (told (bytes_eq name x.0.items)) [
  | inl e ↦ let near = subst (λ (b : Bool). cond (not b) (1 + place_of name es) 0 ≡ suc i) e place in absurd (omega (arith, near))
  | inr e ↦
      let far = subst (λ (b : Bool). cond (not b) (1 + place_of name es) 0 ≡ suc i) e place in
      rw e (ap (λ (rs : List TableRow). row_of x ∷ rs) (row_counted es name i k v w won lost (omega (arith, far)) (omega (arith, within)) is more))
]

pub name_counted : (es : List Entry) (key : Vec ℕ Global) (w : Score) (won lost : Bool) → IsNext won lost (lookup (is_same_name key) es) w →
    table_rows_of (insert_entry is_same_name es key w) ≡ with_side (table_rows_of es) (side_of key.items won lost)
name_counted [] key w won lost next = ap (λ (r : TableRow). r ∷ []) (first_row key w won lost next)
name_counted (x ∷ es) key w won lost next = elim (told (bytes_eq key.items x.0.items)) [
  | inl e ↦
      let more = subst (λ (b : Bool). IsNext won lost (cond b (Some x.1) (lookup (is_same_name key) es)) w) e next in
      rw e (ap (λ (r : TableRow). r ∷ table_rows_of es) (same_row x.0 x.1 w (side_of key.items won lost) more))
  | inr e ↦
      let rest = subst (λ (b : Bool). IsNext won lost (cond b (Some x.1) (lookup (is_same_name key) es)) w) e next in
      rw e (ap (λ (rs : List TableRow). row_of x ∷ rs) (name_counted es key w won lost rest))
]

-- ---- other seats

place_set : (name : List ℕ) (es : List Entry) (i : ℕ) (w : Score) → place_of name (set_value_at es i w) ≡ place_of name es
place_set name [] i w = refl
place_set name (x ∷ es) zero w = refl
place_set name (x ∷ es) (suc i) w = ap (λ n. cond (not (bytes_eq name x.0.items)) (1 + n) 0) (place_set name es i w)

length_set : (es : List Entry) (i : ℕ) (w : Score) → length (set_value_at es i w) ≡ length es
length_set [] i w = refl
length_set (x ∷ es) zero w = refl
length_set (x ∷ es) (suc i) w = ap suc (length_set es i w)

pub seat_set : (es : List Entry) (i : ℕ) (w : Score) (name : List ℕ) (other : Seat) → IsSeat es name other → IsSeat (set_value_at es i w) name other
seat_set es i w name seat.Nowhere there = there
seat_set es i w name (seat.Row k) (named, within, place) = (named, let same = length_set es i w in omega (arith, within, same), place_set name es i w ∙ place)
seat_set es i w name (seat.New key) there = there

length_inserted : (es : List Entry) (key : Vec ℕ Global) (w : Score) → length es ≤ length (insert_entry is_same_name es key w)
length_inserted [] key w = omega arith
length_inserted (x ∷ es) key w = elim (told (is_same_name key x.0)) [
  | inl e ↦ rw e (omega arith)
  | inr e ↦ let longer = length_inserted es key w in rw e (omega (arith, longer))
]

place_inserted : (name : List ℕ) (es : List Entry) (key : Vec ℕ Global) (w : Score) → place_of name es < length es → place_of name (insert_entry is_same_name es key w) ≡ place_of name es
place_inserted name [] key w within = absurd (omega (arith, within))
place_inserted name (x ∷ es) key w within = elim (told (is_same_name key x.0)) [
  | inl e ↦ rw e refl
  | inr e ↦ elim (told (bytes_eq name x.0.items)) [
    | inl f ↦ rw (e, f) refl
    | inr f ↦
        let far = subst (λ (b : Bool). cond (not b) (1 + place_of name es) 0 < suc (length es)) f within in
        let rest : place_of name (insert_entry is_same_name es key w) ≡ place_of name es = place_inserted name es key w (omega (arith, far)) in
        rw (e, f) (ap (λ n. 1 + n) rest)
  ]
]

pub seat_inserted : (es : List Entry) (key : Vec ℕ Global) (w : Score) (name : List ℕ) (other : Seat) → IsSeat es name other → IsSeat (insert_entry is_same_name es key w) name other
seat_inserted es key w name seat.Nowhere there = there
seat_inserted es key w name (seat.Row k) (named, within, place) =
    let longer = length_inserted es key w in
    (named, omega (arith, within, longer), place_inserted name es key w (omega (arith, within, place)) ∙ place)
seat_inserted es key w name (seat.New k) there = there

-- ---- what the writes of the code add

pub row_added : (es new : List Entry) (i : ℕ) (won lost : Bool) → IsCountedAt es i won lost new → (name : List ℕ) (s : Seat) → s ≡ seat.Row i → IsSeat es name s → AreRowsWithSide (table_rows_of es) (side_of name won lost) (table_rows_of new)
row_added es new i won lost (k, v, w, is, more, new_is) name s at there =
    let (named, within, place) = subst (IsSeat es name) at there in
    record {
      nameless = λ nothing. absurd (named nothing);
      named = λ _. ap table_rows_of new_is ∙ row_counted es name i k v w won lost place within is more;
    }

pub row_kept : (es new : List Entry) (i : ℕ) (won lost : Bool) → IsCountedAt es i won lost new → (name : List ℕ) (other : Seat) → IsSeat es name other → IsSeat new name other
row_kept es new i won lost (k, v, w, is, more, new_is) name other there = subst (λ (xs : List Entry). IsSeat xs name other) (sym new_is) (seat_set es i w name other there)

pub name_added : (es new : List Entry) (key : Vec ℕ Global) (won lost : Bool) → IsCountedFor es key won lost new → (name : List ℕ) (s : Seat) → s ≡ seat.New key → IsSeat es name s → AreRowsWithSide (table_rows_of es) (side_of name won lost) (table_rows_of new)
name_added es new key won lost (w, next, new_is) name s at there =
    let (named, is) = subst (IsSeat es name) at there in
    record {
      nameless = λ nothing. absurd (named nothing);
      named = λ _. ap table_rows_of new_is ∙ name_counted es key w won lost next ∙ ap (λ (n : List ℕ). with_side (table_rows_of es) (side_of n won lost)) is;
    }

pub name_kept : (es new : List Entry) (key : Vec ℕ Global) (won lost : Bool) → IsCountedFor es key won lost new → (name : List ℕ) (other : Seat) → IsSeat es name other → IsSeat new name other
name_kept es new key won lost (w, next, new_is) name other there = subst (λ (xs : List Entry). IsSeat xs name other) (sym new_is) (seat_inserted es key w name other there)
