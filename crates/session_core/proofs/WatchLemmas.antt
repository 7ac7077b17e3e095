-- Watched searches: which one has a name can be told, what their statements leave is one thing alone, and
-- whether they fit more games.
use Rattle.std.proofs.Common.{◌≡◌, ◌≢◌, ◌⊎◌, inl, inr, ℕ, List, [], ◌∷◌, ◌++◌, All, drop, length, length-append, take, refl, sym, ap, ◌∙◌, subst, arith}
use Rattle.std.proofs.Math.Seq.{get_or-append_seam}
use Rattle.std.proofs.lemmas.Bool.{cases_eq}
use Rattle.std.proofs.lemmas.List.{take-append-le, take_all}
use Rattle.std.proofs.lemmas.List.Elements.{All-append, All-cons, All-drop, All-head, All-nil, All-push, All-tail, All-weaker}
use mathlib.Core.List.{IsPrefix}
use Rattle.kb_geometry.proofs.Lists.{All-before}
use Rattle.game_tree.specs.Tree.{IsTree}
use Rattle.node_position.specs.Games.{Game}
use Rattle.pattern_images.specs.declared.hit.Hit.{Hit}
use Rattle.pattern_images.specs.declared.query.Query.{Query}
use Rattle.info_filter.specs.declared.filter.Filter.{Filter}
use Rattle.search_engine.specs.Hits.{AreHits, AreHitsFrom}
use Rattle.session_core.specs.SessionState.{SessionState, Watched}
use Rattle.session_core.specs.Watches.{IsFree, IsWatch, IsWatchAdded, IsWatchAdvanced, IsWatchOf, WatchesFit, covering, watch_over}

-- ---- the watched search of a name

abbrev IsOther : List ℕ → Watched → Type 0
IsOther name w = w.name ≢ name

same_or_not : (a b : List ℕ) → (a ≡ b) ⊎ (a ≢ b)
same_or_not [] [] = inl refl
same_or_not [] (y ∷ b) = inr (λ e. cc)
same_or_not (x ∷ a) [] = inr (λ e. cc)
same_or_not (x ∷ a) (y ∷ b) = elim (cases_eq x y) [
  | inr other ↦ inr (λ e. other (cc))
  | inl same ↦ elim (same_or_not a b) [
    | inl rest ↦ inl (cc)
    | inr other ↦ inr (λ e. other (cc))
  ]
]

-- a name is free, or a search is watched under it
pub told_watch : (name : List ℕ) (watches : List Watched) → IsFree name watches ⊎ IsWatch name watches
told_watch name [] = inl (All-nil (IsOther name))
told_watch name (w ∷ watches) = elim (same_or_not w.name name) [
  | inl same ↦ inr (record { earlier = []; watch = w; later = watches; split = refl; is_named = same; is_first = All-nil (IsOther name) })
  | inr other ↦ elim (told_watch name watches) [
    | inl free ↦ inl (All-cons (IsOther name) w watches other free)
    | inr found ↦ inr (record {
      earlier = w ∷ found.earlier;
      watch = found.watch;
      later = found.later;
      split = ap (λ l. w ∷ l) found.split;
      is_named = found.is_named;
      is_first = All-cons (IsOther name) w found.earlier other found.is_first;
    })
  ]
]

-- not both
pub free-none : (name : List ℕ) (watches : List Watched) → IsFree name watches → ¬ IsWatch name watches
free-none name watches free found =
    let all = subst (IsFree name) found.split free in
    all (length found.earlier) found.watch (omega (arith, length-append found.earlier (found.watch ∷ found.later)))
    (ap (λ (w : Watched). w.name) (get_or-append_seam found.earlier found.watch found.later found.watch) ∙ found.is_named)

-- a watched search and those round it
pub record Parted : Type 0 where
  pub earlier : List Watched
  pub watch : Watched
  pub later : List Watched

abbrev pub parted : List Watched → Watched → List Watched → Parted
parted earlier watch later = record { earlier = earlier; watch = watch; later = later }

-- of a name there is one first
one_parted : (name : List ℕ) (e f l m : List Watched) (r s : Watched) → e ++ r ∷ l ≡ f ++ s ∷ m → r.name ≡ name → s.name ≡ name → IsFree name e → IsFree name f → parted e r l ≡ parted f s m
one_parted name [] [] l m r s same r_named s_named before_r before_s =
    let heads : r ≡ s = cc in
    let tails : l ≡ m = cc in
    λ i. parted [] (heads i) (tails i)
one_parted name [] (y ∷ f) l m r s same r_named s_named before_r before_s =
    let heads : r ≡ y = cc in
    absurd (All-head (IsOther name) y f before_s (ap (λ (w : Watched). w.name) (sym heads) ∙ r_named))
one_parted name (x ∷ e) [] l m r s same r_named s_named before_r before_s =
    let heads : x ≡ s = cc in
    absurd (All-head (IsOther name) x e before_r (ap (λ (w : Watched). w.name) heads ∙ s_named))
one_parted name (x ∷ e) (y ∷ f) l m r s same r_named s_named before_r before_s =
    let heads : x ≡ y = cc in
    let rest = one_parted name e f l m r s (cc) r_named s_named (All-tail (IsOther name) x e before_r) (All-tail (IsOther name) y f before_s) in
    λ i. parted (heads i ∷ (rest i).earlier) (rest i).watch (rest i).later

pub one_watch : (name : List ℕ) (watches : List Watched) (a b : IsWatch name watches) → parted a.earlier a.watch a.later ≡ parted b.earlier b.watch b.later
one_watch name watches a b = one_parted name a.earlier b.earlier a.later b.later a.watch b.watch (sym a.split ∙ b.split) a.is_named b.is_named a.is_first b.is_first

-- ---- watched searches and more games

-- the hits are those of all the games that it covers
watch-all : (name : List ℕ) (query : Query) (filter : Filter) (games : List Game) (hits : List Hit) → AreHits query filter games hits → IsWatchOf games (watch_over name query filter games hits)
watch-all name query filter games hits are = record {
  covered = omega arith;
  are_hits = subst (λ gs. AreHits query filter gs hits) (sym (take_all (length games) games (omega arith))) are;
}

-- one that covers no games yet
pub watch-none : (name : List ℕ) (query : Query) (filter : Filter) (games : List Game) → IsWatchOf games (watch_over name query filter [] [])
watch-none name query filter games = record { covered = omega arith; are_hits = AreHitsFrom.nothing }

watch-grown : (games more : List Game) → IsPrefix games more → (w : Watched) → IsWatchOf games w → IsWatchOf more w
watch-grown games more longer w fits = record {
  covered = omega (arith, fits.covered, ap length longer.1, length-append games longer.0);
  are_hits =
      subst (λ gs. AreHits w.query w.filter gs w.hits)
      (sym (take-append-le w.covered games longer.0 fits.covered) ∙ ap (take w.covered) longer.1)
      fits.are_hits;
}

-- what fits games fits more of them
pub fit-grown : (games more : List Game) (session : SessionState) → IsPrefix games more → WatchesFit games session → WatchesFit more session
fit-grown games more session longer fit = All-weaker (IsWatchOf games) (IsWatchOf more) (watch-grown games more longer) session.watches fit

-- so it does when one is added, or goes on
pub fit-added : (name : List ℕ) (query : Query) (filter : Filter) (games : List Game) (before after : List Watched) (hits : List Hit) → IsWatchAdded name query filter games before after hits → All (IsWatchOf games) before → All (IsWatchOf games) after
fit-added name query filter games before after hits added fit =
    subst (All (IsWatchOf games)) (sym added.added)
    (All-push (IsWatchOf games) before (watch_over name query filter games hits) fit (watch-all name query filter games hits added.are_hits))

-- those in front of one in a list, and those behind it
behind_all : (P : Watched → Type 0) (xs : List Watched) (y : Watched) (ys : List Watched) → All P (xs ++ y ∷ ys) → All P ys
behind_all P [] y ys all = All-tail P y ys all
behind_all P (x ∷ xs) y ys all = behind_all P xs y ys (All-tail P x (xs ++ y ∷ ys) all)

pub fit-advanced : (name : List ℕ) (games : List Game) (before after : List Watched) (hits new : List Hit) → IsWatchAdvanced name games before after hits new → All (IsWatchOf games) before → All (IsWatchOf games) after
fit-advanced name games before after hits new on fit =
    let found = on.found in
    let parts = subst (All (IsWatchOf games)) found.split fit in
    let now = covering found.watch games hits in
    subst (All (IsWatchOf games)) (sym on.others)
    (All-append (IsWatchOf games) found.earlier (now ∷ found.later)
    (All-before (IsWatchOf games) found.earlier (found.watch ∷ found.later) parts)
    (All-cons (IsWatchOf games) now found.later
    (watch-all found.watch.name found.watch.query found.watch.filter games hits on.are_hits)
    (behind_all (IsWatchOf games) found.earlier found.watch found.later parts)))

-- the one of a name fits
pub fit-found : (name : List ℕ) (games : List Game) (watches : List Watched) (found : IsWatch name watches) → All (IsWatchOf games) watches → IsWatchOf games found.watch
fit-found name games watches found fit =
    let parts = subst (All (IsWatchOf games)) found.split fit in
    subst (IsWatchOf games) (get_or-append_seam found.earlier found.watch found.later found.watch)
    (parts (length found.earlier) found.watch (omega (arith, length-append found.earlier (found.watch ∷ found.later))))

-- trees behind some of them
pub trees-behind : (n : ℕ) (games : List Game) → All (λ (g : Game). IsTree g.tree) games → All (λ (g : Game). IsTree g.tree) (drop n games)
trees-behind n games trees = All-drop (λ (g : Game). IsTree g.tree) n games trees
