-- What searchers have seen of a log, and searchers that meet a publisher one after another.
use Rattle.std.proofs.Common.{◌≡◌, ℕ, ◌+◌, ◌<◌, ◌≤◌, ◌⊎◌, inl, inr, List, [], ◌∷◌, ◌++◌, get_or, length, refl, sym, ap, ◌∙◌, subst, append_assoc, length-append, arith}
use Rattle.std.specs.Prelude.{All}
use Rattle.std.proofs.Math.ListN.{set}
use Rattle.std.proofs.lemmas.Bool.{cases_eq, cases_lt}
use Rattle.std.proofs.lemmas.List.{get_or-set_other, get_or-set_same, length-set}
use mathlib.Core.List.{IsPrefix}
use Rattle.std.proofs.Math.Seq.{get_or-append_seam}
use Rattle.kb_geometry.proofs.Lists.{All-before}
use Rattle.kb_geometry.proofs.Prefixes.{prefix_same, prefix_trans}
use Rattle.node_position.specs.Games.{Game}
use Rattle.version_publisher.specs.Contents.{BookName, IsNewSearcher, items_in}
use Rattle.version_publisher.specs.declared.state.SearcherState.{SearcherState}
use Rattle.version_publisher.specs.declared.state.VersionState.{VersionState}
use Rattle.import_work.specs.Log.{Segment}
use Rattle.search_run.specs.Seen.{AreOfOpening, HaveMet, HaveSeen, HaveSeenOf, IsLookedAt, IsVersionOf}

-- a prefix is at most as long
pub prefix_length : {A : Type 0} (xs ys : List A) → IsPrefix xs ys → length xs ≤ length ys
prefix_length xs ys p = omega (arith, ap length p.1, length-append xs p.0)

-- the games of a log, and of more of it
items-append : (log more : List Segment) → items_in (log ++ more) ≡ items_in log ++ items_in more
items-append [] more = refl
items-append (segment ∷ log) more = ap (λ games. segment ++ games) (items-append log more) ∙ sym (append_assoc segment (items_in log) (items_in more))

pub items-grown : (log longer : List Segment) → IsPrefix log longer → IsPrefix (items_in log) (items_in longer)
items-grown log longer p = (items_in p.0, sym (items-append log p.0) ∙ ap items_in p.1)

-- new searchers are of their opening
pub new_opened : (opening : BookName) (searchers : List (SearcherState Game)) → All (IsNewSearcher opening) searchers → AreOfOpening opening searchers
new_opened opening searchers new = λ k d below. (new k d below).0

-- the last of new searchers, and those before it
pub new_last : (opening : BookName) (all block : List (SearcherState Game)) (own : SearcherState Game) → All (IsNewSearcher opening) all → all ≡ block ++ own ∷ [] → IsNewSearcher opening own × All (IsNewSearcher opening) block
new_last opening all block own new split =
    let both : All (IsNewSearcher opening) (block ++ own ∷ []) = subst (All (IsNewSearcher opening)) split new in (
      subst (IsNewSearcher opening) (get_or-append_seam block own [] own) (both (length block) own (omega (arith, length-append block (own ∷ [])))),
      All-before (IsNewSearcher opening) block (own ∷ []) both,
    )

-- who has seen more has seen this
pub seen_before : (own now : SearcherState Game) (block blocks : List (SearcherState Game)) → IsPrefix own.seen now.seen → blocks ≡ block → (log : List Segment) → HaveSeen now blocks log → HaveSeen own block log
seen_before own now block blocks grows same log h = record {
  own_seen = prefix_trans own.seen now.seen log grows h.own_seen;
  block_seen = subst (HaveSeenOf log) same h.block_seen;
}

-- what they have seen is a prefix of a longer log as well
pub seen_longer : (own : SearcherState Game) (block : List (SearcherState Game)) (log longer : List Segment) → IsPrefix log longer → HaveSeen own block log → HaveSeen own block longer
seen_longer own block log longer more h = record {
  own_seen = prefix_trans own.seen log longer h.own_seen more;
  block_seen = λ k d below. prefix_trans (get_or block k d).seen log longer (h.block_seen k d below) more;
}

-- ---- searchers that look one after another

-- what one of these has seen is of each log of which they have seen no more
pub seen-at : (block : List (SearcherState Game)) (i : ℕ) (new : SearcherState Game) → i < length block → (log : List Segment) → HaveSeenOf log (set block i new) → IsPrefix new.seen log
seen-at block i new below log h = subst (λ (s : SearcherState Game). IsPrefix s.seen log) (get_or-set_same block i new new below) (h i new (omega (arith, below, length-set block i new)))

-- one of these has seen more: of a log of which they have seen no more, they had seen no more before
pub seen-less : (block : List (SearcherState Game)) (i : ℕ) (old new : SearcherState Game) → i < length block → ((d : SearcherState Game) → get_or block i d ≡ old) → IsPrefix old.seen new.seen → (log : List Segment) → HaveSeenOf log (set block i new) → HaveSeenOf log block
seen-less block i old new below old_is grows log h = λ k d under. elim (cases_eq k i) [
  | inl same ↦ subst (λ (s : SearcherState Game). IsPrefix s.seen log) (sym (ap (λ j. get_or block j d) same ∙ old_is d)) (prefix_trans old.seen new.seen log grows (seen-at block i new below log h))
  | inr other ↦ subst (λ (s : SearcherState Game). IsPrefix s.seen log) (get_or-set_other block i k new d other) (h k d (omega (arith, under, length-set block i new)))
]

-- a version of what the session's searcher has seen
pub looked-held : (own : List Segment) (block : List (SearcherState Game)) (version : VersionState Game) → IsVersionOf version own → IsLookedAt own block version
looked-held own block version of = record { seen = own; of = of; later = prefix_same own; known = λ log begins h. begins }

-- one that a searcher of a block found, or that
pub looked-at : (own : List Segment) (block : List (SearcherState Game)) (i : ℕ) (new : SearcherState Game) (version : VersionState Game) → i < length block → IsVersionOf version own ⊎ (IsVersionOf version new.seen × IsPrefix own new.seen) → IsLookedAt own (set block i new) version
looked-at own block i new version below (inl of) = looked-held own (set block i new) version of
looked-at own block i new version below (inr (of, later)) = record { seen = new.seen; of = of; later = later; known = λ log begins h. seen-at block i new below log h }

-- it stays one when they have seen more
pub looked-later : (own : List Segment) (block after : List (SearcherState Game)) (version : VersionState Game) → ((log : List Segment) → HaveSeenOf log after → HaveSeenOf log block) → IsLookedAt own block version → IsLookedAt own after version
looked-later own block after version less h = record { seen = h.seen; of = h.of; later = h.later; known = λ log begins seen. h.known log begins (less log seen) }

-- who has seen what the session's searcher and those of a block have seen at last has seen what they had
pub seen-before-block : (own now : SearcherState Game) (block looked caught : List (SearcherState Game)) → IsPrefix own.seen now.seen → ((log : List Segment) → HaveSeenOf log looked → HaveSeenOf log block) → caught ≡ looked → (log : List Segment) → HaveSeen now caught log → HaveSeen own block log
seen-before-block own now block looked caught grows less same log h = record {
  own_seen = prefix_trans own.seen now.seen log grows h.own_seen;
  block_seen = less log (subst (HaveSeenOf log) same h.block_seen);
}

-- ---- searchers that meet a publisher

-- none has met it yet
pub HaveMet-none : (opening : BookName) (log : List Segment) (searchers : List (SearcherState Game)) → AreOfOpening opening searchers → HaveMet opening log searchers searchers 0
HaveMet-none opening log searchers opened = record {
  same_length = refl;
  met = λ k d below. absurd (omega (arith, below));
  opened = opened;
  left = λ k d from. refl;
}

-- one more meets it
pub HaveMet-more : (opening : BookName) (log : List Segment) (before now after : List (SearcherState Game)) (i : ℕ) (old new : SearcherState Game) → HaveMet opening log before now i → i < length now → ((d : SearcherState Game) → get_or now i d ≡ old) → after ≡ set now i new → IsPrefix old.seen log → new.opening ≡ opening → HaveMet opening log before after (i + 1)
HaveMet-more opening log before now after i old new h below old_is set_is seen opened = record {
  same_length = ap length set_is ∙ length-set now i new ∙ h.same_length;
  met = λ k d under inside. elim (cases_eq k i) [
    | inl same ↦ subst (λ (s : SearcherState Game). IsPrefix s.seen log) (sym (ap (λ j. get_or before j d) same ∙ sym (h.left i d (omega arith)) ∙ old_is d)) seen
    | inr other ↦ h.met k d (omega (arith, under, below_of k i under other)) inside
  ];
  opened = λ k d under. elim (cases_eq k i) [
    | inl same ↦ ap (λ (s : SearcherState Game). s.opening) (ap (λ ys. get_or ys k d) set_is ∙ ap (λ j. get_or (set now i new) j d) same ∙ get_or-set_same now i new d below) ∙ opened
    | inr other ↦ ap (λ (s : SearcherState Game). s.opening) (ap (λ ys. get_or ys k d) set_is ∙ get_or-set_other now i k new d other) ∙ h.opened k d (omega (arith, under, ap length set_is, length-set now i new))
  ];
  left = λ k d from. ap (λ ys. get_or ys k d) set_is ∙ get_or-set_other now i k new d (λ same. omega (arith, from, same)) ∙ h.left k d (omega (arith, from));
}
  where
    below_of : (k i : ℕ) → k < i + 1 → (k ≡ i → ⊥) → k < i
    below_of k i under other = elim (cases_lt k i) [
      | inl less ↦ less
      | inr from ↦ absurd (other (omega (arith, under, from)))
    ]

-- all have met it
pub HaveMet-all : (opening : BookName) (log : List Segment) (before now : List (SearcherState Game)) (count : ℕ) → HaveMet opening log before now count → length before ≤ count → HaveSeenOf log before
HaveMet-all opening log before now count h all = λ k d below. h.met k d (omega (arith, below, all)) below
