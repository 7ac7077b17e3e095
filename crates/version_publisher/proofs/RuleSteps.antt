-- Each step on the published value keeps its rule.
use Rattle.std.proofs.Common.{◌≡◌, ℕ, zero, suc, ◌≢◌, ◌⊎◌, ◌<◌, List, [], ◌∷◌, ◌++◌, set, length, refl, sym, subst, ap, ⊎_elim, inl, inr, ◌∙◌, arith, length-append, zero-le}
use Rattle.std.proofs.lemmas.List.{length-set}
use mathlib.Core.Option.{some, some-injective, some-ne-none}
use mathlib.Core.List.{IsPrefix}
use mathlib.Core.Logic.{dite}
use native.Mathlib.Decide.{ℕ_discrete}
use lib.ListN.{get_elem?}
use Rattle.left_right.specs.Register.{Admits, TurnsAt, Turns, Forks, Merges}
use Rattle.atomic_table.proofs.Lists.{at_set}
use Rattle.logbook.specs.Pages.{Book}
use Rattle.version_publisher.specs.declared.state.Content.{Content}
use Rattle.version_publisher.specs.declared.state.Knowledge.{Knowledge}
use Rattle.version_publisher.specs.Contents.{BookName, book_name_of, content, KnowsOnly, KnowsOne, IsLawfulContent, IsLawfulSeat, IsEmptyOrAmong, AreEmpty, ArePrefixes, LookTells, PublishTells, ReadsArePublished, MayFollow, nothing_known, after_look, after_publish}
use Rattle.kb_geometry.proofs.Prefixes.{prefix_same, prefix_trans}
use Rattle.version_publisher.proofs.Prefixes.{prefix_of_empty}

pub both_know : (b : BookName) (v w : List BookName) → KnowsOnly b v → KnowsOnly b w → KnowsOnly b (v ++ w)
both_know b [] w p q = q
both_know b (x ∷ v) w p q = (p.0, both_know b v w p.1 q)

-- Lists of logs.
module _ {B : Type 0} where
  pub empty_among : (hs : List (List B)) → IsEmptyOrAmong [] hs
  empty_among [] = refl
  empty_among (h ∷ hs) = inr (empty_among hs)

  pub among_more : (log x : List B) (hs : List (List B)) → IsEmptyOrAmong log hs → IsEmptyOrAmong log (hs ++ x ∷ [])
  among_more log x [] e = inr e
  among_more log x (h ∷ hs) e = ⊎_elim (λ s. inl s) (λ s. inr (among_more log x hs s)) e

  pub last_among : (x : List B) (hs : List (List B)) → IsEmptyOrAmong x (hs ++ x ∷ [])
  last_among x [] = inl refl
  last_among x (h ∷ hs) = inr (last_among x hs)

  -- what is among prefixes of a log is a prefix of it
  pub among_prefixes : (log whole : List B) (hs : List (List B)) → ArePrefixes hs whole → IsEmptyOrAmong log hs → IsPrefix log whole
  among_prefixes log whole [] all e = subst (λ l. IsPrefix l whole) (sym e) (whole, refl)
  among_prefixes log whole (h ∷ hs) all e = ⊎_elim (λ s. subst (λ l. IsPrefix l whole) (sym s) all.0) (λ s. among_prefixes log whole hs all.1 s) e

  -- what is among empty logs is empty
  pub among_empty : (log : List B) (hs : List (List B)) → AreEmpty hs → IsEmptyOrAmong log hs → log ≡ []
  among_empty log [] all e = e
  among_empty log (h ∷ hs) all e = ⊎_elim (λ s. s ∙ all.0) (λ s. among_empty log hs all.1 s) e

  pub prefixes_more : (xs : List B) (hs : List (List B)) → ArePrefixes hs xs → ArePrefixes (hs ++ xs ∷ []) xs
  prefixes_more xs [] all = (prefix_same xs, tt)
  prefixes_more xs (h ∷ hs) all = (all.0, prefixes_more xs hs all.1)

  pub prefixes_longer : (xs ys : List B) (hs : List (List B)) → IsPrefix xs ys → ArePrefixes hs xs → ArePrefixes hs ys
  prefixes_longer xs ys [] p all = tt
  prefixes_longer xs ys (h ∷ hs) p all = (prefix_trans h xs ys all.0 p, prefixes_longer xs ys hs p all.1)

  pub prefixes_empty : (xs : List B) (hs : List (List B)) → xs ≡ [] → ArePrefixes hs xs → AreEmpty hs
  prefixes_empty xs [] e all = tt
  prefixes_empty xs (h ∷ hs) e all = (prefix_of_empty h (subst (IsPrefix h) e all.0), prefixes_empty xs hs e all.1)

  pub empty_prefixes : (xs : List B) (hs : List (List B)) → AreEmpty hs → ArePrefixes hs xs
  empty_prefixes xs [] all = tt
  empty_prefixes xs (h ∷ hs) all = (subst (λ l. IsPrefix l xs) (sym all.0) (xs, refl), empty_prefixes xs hs all.1)

-- Facts of each seat.
module _ {V : Type 0} where
  abbrev pub EachSeat : (ℕ → V → Type 0) → List V → Type 0
  EachSeat Q views = (seat : ℕ) (v : V) → get_elem? views seat ≡ some v → Q seat v

  pub seat_there : (views : List V) (seat : ℕ) (v : V) → get_elem? views seat ≡ some v → seat < length views
  seat_there [] seat v e = absurd (some-ne-none v (sym e))
  seat_there (x ∷ xs) zero v e = omega arith
  seat_there (x ∷ xs) (suc seat) v e = let h = seat_there xs seat v e in omega arith

  at_end : (views : List V) (x v : V) (seat : ℕ) → get_elem? (views ++ x ∷ []) seat ≡ some v → (get_elem? views seat ≡ some v) ⊎ ((seat ≡ length views) × (x ≡ v))
  at_end [] x v zero e = inr (refl, some-injective x v e)
  at_end [] x v (suc seat) e = absurd (some-ne-none v (sym e))
  at_end (y ∷ ys) x v zero e = inl e
  at_end (y ∷ ys) x v (suc seat) e = ⊎_elim (λ s. inl s) (λ (s : (seat ≡ length ys) × (x ≡ v)). inr (ap suc s.0, s.1)) (at_end ys x v seat e)

  pub each_set : (P Q : ℕ → V → Type 0) (views : List V) (seat : ℕ) (w : V) → EachSeat P views → Q seat w → ((j : ℕ) (u : V) → j ≢ seat → P j u → Q j u) → EachSeat Q (set views seat w)
  each_set P Q views seat w each here there j u e =
      ⊎_elim (λ (t : (j ≡ seat) × (w ≡ u)). subst (λ (s : ℕ × V). Q s.0 s.1) (λ i. (sym t.0 i, t.1 i)) here)
      (λ (t : (j ≢ seat) × (get_elem? views j ≡ some u)). there j u t.0 (each j u t.1)) (at_set views seat j w u e)

  pub each_end : (P : ℕ → V → Type 0) (views : List V) (w : V) → EachSeat P views → P (length views) w → EachSeat P (views ++ w ∷ [])
  each_end P views w each here j u e =
      ⊎_elim (λ (s : get_elem? views j ≡ some u). each j u s) (λ (t : (j ≡ length views) × (w ≡ u)). subst (λ (s : ℕ × V). P s.0 s.1) (λ i. (sym t.0 i, t.1 i)) here) (at_end views w u j e)

-- nothing is published yet, and the one seat knows nothing
pub lawful_first : {A : Type 0} (most : ℕ) (c : Content A) (log : List (List A)) (b : Book) → c ≡ content 0 [] log b → log ≡ [] → IsLawfulContent most c (nothing_known ∷ [])
lawful_first most c log b e none =
    let first : IsLawfulContent most (content 0 [] [] b) (nothing_known ∷ []) = record {
      publisher = 0;
      history = [];
      consistent = (refl, refl, zero-le);
      is_seat = omega arith;
      is_published = refl;
      rises = tt;
      each_seat = each_end (IsLawfulSeat 0 [] (book_name_of b)) [] nothing_known (λ seat v at. absurd (some-ne-none v (sym at))) (tt, refl, (λ is. refl), (λ isnt. tt));
    } in subst (λ z. IsLawfulContent most z (nothing_known ∷ [])) (sym (e ∙ ap (λ l. content 0 [] l b) none)) first

module _ {T A : Type 0} (c : T → Content A) (most : ℕ) where
  abbrev pub Holds : T → List (Knowledge A) → Type 0
  Holds x views = IsLawfulContent most (c x) views

  -- a new reader knows nothing
  pub admits : Admits Holds nothing_known
  admits x views h = record {
    publisher = h.publisher;
    history = h.history;
    consistent = h.consistent;
    is_seat = let s = h.is_seat in omega (arith, length-append views (nothing_known {A = A} ∷ []));
    is_published = h.is_published;
    rises = h.rises;
    each_seat = each_end (IsLawfulSeat h.publisher h.history (c x).opening) views nothing_known h.each_seat
        (tt, empty_among h.history, (λ e. let s = h.is_seat in absurd (omega arith)), (λ n. tt));
  }

  -- a look changes nothing
  pub looks : (seat : ℕ) (v : Knowledge A) → Turns Holds seat v (λ x. x) (λ v x y w. LookTells most v (c y) w)
  looks seat v x views h at =
      let mine = h.each_seat seat v at in
      let w = after_look v (c x) in (
        w,
        record {
          publisher = h.publisher;
          history = h.history;
          consistent = h.consistent;
          is_seat = subst (λ n. h.publisher < n) (sym (length-set views seat w)) h.is_seat;
          is_published = h.is_published;
          rises = h.rises;
          each_seat = each_set (IsLawfulSeat h.publisher h.history (c x).opening) (IsLawfulSeat h.publisher h.history (c x).opening) views seat w h.each_seat
              ((refl, tt), h.is_published, mine.2, mine.3) (λ j u n other. other);
        },
        (mine.0, h.consistent, among_prefixes v.read (c x).log h.history h.rises mine.1, refl),
      )

  -- what the writer tells, it still knows
  pub forks : (seat : ℕ) (v : Knowledge A) → Forks Holds seat v v record { openings = v.openings; read = []; published = [] }
  forks seat v x views h at =
      let mine = h.each_seat seat v at in
      let note : Knowledge A = record { openings = v.openings; read = []; published = [] } in
      let long = length-set views seat v in record {
        publisher = h.publisher;
        history = h.history;
        consistent = h.consistent;
        is_seat = let s = h.is_seat in omega (arith, length-append (set views seat v) (note ∷ []), long);
        is_published = h.is_published;
        rises = h.rises;
        each_seat = each_end (IsLawfulSeat h.publisher h.history (c x).opening) (set views seat v) note
            (each_set (IsLawfulSeat h.publisher h.history (c x).opening) (IsLawfulSeat h.publisher h.history (c x).opening) views seat v h.each_seat mine (λ j u n other. other))
            (mine.0, empty_among h.history, (λ e. let s = h.is_seat in absurd (omega (arith, long))), (λ n. tt));
      }

  -- a reader that is told knows it too
  pub merges : (seat : ℕ) (v : Knowledge A) (other : ℕ) (w : Knowledge A) → w.published ≡ [] → Merges Holds seat v other w record v { openings = v.openings ++ w.openings } nothing_known
  merges seat v other w none x views h at apart there =
      let Q : ℕ → Knowledge A → Type 0 = IsLawfulSeat h.publisher h.history (c x).opening in
      let both : Knowledge A = record v { openings = v.openings ++ w.openings } in
      let mine = h.each_seat seat v at in
      let its : Q other w = ⊎_elim (λ (t : (other ≡ seat) × (both ≡ w)). absurd (apart t.0)) (λ (t : (other ≢ seat) × (get_elem? views other ≡ some w)). h.each_seat other w t.1) (at_set views seat other both w there) in record {
        publisher = h.publisher;
        history = h.history;
        consistent = h.consistent;
        is_seat = subst (λ n. h.publisher < n) (sym (length-set (set views seat both) other nothing_known ∙ length-set views seat both)) h.is_seat;
        is_published = h.is_published;
        rises = h.rises;
        each_seat = each_set Q Q (set views seat both) other nothing_known
            (each_set Q Q views seat both h.each_seat (both_know (c x).opening v.openings w.openings mine.0 its.0, mine.1, mine.2, mine.3) (λ j u n o. o))
            (tt, empty_among h.history, (λ e. sym none ∙ its.2 e), (λ n. tt)) (λ j u n o. o);
      }

-- whoever knows that what is published was published by itself has published all that was
pub all_its_own : {A : Type 0} (publisher : ℕ) (history : List (List (List A))) (o : BookName) (log : List (List A)) (seat : ℕ) (v : Knowledge A)
    → ArePrefixes history log → IsLawfulSeat publisher history o seat v → IsEmptyOrAmong log v.published
    → (ArePrefixes v.published log) × ((l : List (List A)) → IsEmptyOrAmong l history → IsEmptyOrAmong l v.published)
    × ((j : ℕ) (u : Knowledge A) → j ≢ seat → IsLawfulSeat publisher history o j u → AreEmpty u.published)
all_its_own publisher history o log seat v rises mine known = dite (ℕ_discrete seat publisher)
    (λ is. let e = mine.2 is in (
      subst (λ hs. ArePrefixes hs log) (sym e) rises,
      (λ l a. subst (IsEmptyOrAmong l) (sym e) a),
      (λ j u n other. other.3 (λ k. n (k ∙ sym is))),
    ))
    (λ isnt.
    let none = mine.3 isnt in
    let nothing : log ≡ [] = among_empty log v.published none known in
    let all = prefixes_empty log history nothing rises in (
      empty_prefixes log v.published none,
      (λ l a. subst (λ z. IsEmptyOrAmong z v.published) (sym (among_empty l history all a)) (empty_among v.published)),
      (λ j u n other. dite (ℕ_discrete j publisher) (λ k. subst AreEmpty (sym (other.2 k)) all) (λ k. other.3 k)),
    ))

-- what anyone has read was published by the one that published what is published
pub reads_are_published : (A : Type 0) (most : ℕ) → ReadsArePublished A most
reads_are_published A most c views h seat v at known other u there =
    (all_its_own h.publisher h.history c.opening c.log seat v h.rises (h.each_seat seat v at) known).1 u.read (h.each_seat other u there).1

-- the one that published what is published goes on to content that may follow
pub publishes : {T A : Type 0} (c : T → Content A) (most : ℕ) (seat : ℕ) (v : Knowledge A) (x y : T) → MayFollow most (c x) (c y) → IsEmptyOrAmong (c x).log v.published
    → TurnsAt (λ x views. IsLawfulContent most (c x) views) seat v x y (λ v x y w. PublishTells v (c y) w)
publishes c most seat v x y follows known views h at =
    let mine = h.each_seat seat v at in
    let own = all_its_own h.publisher h.history (c x).opening (c x).log seat v h.rises mine known in
    let w = after_publish v (c y) in (
      w,
      record {
        publisher = seat;
        history = w.published;
        consistent = follows.0;
        is_seat = subst (λ n. seat < n) (sym (length-set views seat w)) (seat_there views seat v at);
        is_published = last_among (c y).log v.published;
        rises = prefixes_more (c y).log v.published (prefixes_longer (c x).log (c y).log v.published follows.2 own.0);
        each_seat = each_set (IsLawfulSeat h.publisher h.history (c x).opening) (IsLawfulSeat seat w.published (c y).opening) views seat w h.each_seat
            ((refl, tt), among_more v.read (c y).log v.published (own.1 v.read mine.1), (λ e. refl), (λ n. absurd (n refl)))
            (λ j u n other. (
              subst (λ b. KnowsOnly b u.openings) (sym follows.1) other.0,
              among_more u.read (c y).log v.published (own.1 u.read other.1),
              (λ e. absurd (n e)),
              (λ m. own.2 j u n other),
            ));
      },
      (refl, last_among (c y).log v.published),
    )

-- who knows one opening knows this one
pub knows_this : (b x : BookName) (v : List BookName) → v ≡ b ∷ [] → KnowsOnly x v → v ≡ x ∷ []
knows_this b x v e n = let m : KnowsOnly x (b ∷ []) = subst (KnowsOnly x) e n in e ∙ (λ i. m.0 i ∷ [])

-- what a reader of one opening knows after a look, of which it then knows the same
module _ {A : Type 0} (most : ℕ) (v w u : Knowledge A) (y : Content A) (one : KnowsOne v.openings) (told : LookTells most v y w) (same : u ≡ w) where
  pub look_opening : v.openings ≡ y.opening ∷ []
  look_opening = knows_this one.0 y.opening v.openings one.1 told.0

  pub look_read : u.read ≡ y.log
  look_read = ap (λ z. z.read) (same ∙ told.3)

  pub look_keeps : (u.openings ≡ v.openings) × IsPrefix v.read u.read
  look_keeps = (ap (λ z. z.openings) (same ∙ told.3) ∙ sym look_opening, subst (IsPrefix v.read) (sym look_read) told.2)
