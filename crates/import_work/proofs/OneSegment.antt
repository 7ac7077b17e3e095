-- Segments that become one.
use Rattle.std.proofs.Common.{◌≡◌, ℕ, ◌<◌, ◌≤◌, List, [], ◌∷◌, ◌++◌, drop, get_or, length, length-append, take, append-nil, refl, sym, ◌∙◌, ap, arith}
use Rattle.std.proofs.lemmas.List.{nil_from_length, take-append-drop}
use Rattle.import_work.specs.Log.{Segment, games_of_segments}
use Rattle.import_work.proofs.SegmentLemmas.{games_of_segments-append, games_of_segments-push}

-- one segment, by what is left without it
pub only_one : (segments rest : List Segment) (one : Segment) → length segments ≡ 1 → segments ≡ rest ++ one ∷ [] → one ≡ games_of_segments segments
only_one segments rest one single parts =
    let empty : rest ≡ [] = nil_from_length rest (omega (arith, single, ap length parts, length-append rest (one ∷ []))) in
    sym (ap games_of_segments (parts ∙ ap (λ (ss : List Segment). ss ++ one ∷ []) empty) ∙ append-nil one)

-- none, one and two, by their places
pub no_games : (segments : List Segment) → length segments < 1 → games_of_segments segments ≡ []
no_games [] few = refl
no_games (s ∷ segments) few = absurd (omega (arith, few))

pub games_of_one : (segments : List Segment) (one : Segment) → length segments ≡ 1 → one ≡ get_or segments 0 one → one ≡ games_of_segments segments
games_of_one [] one single is = absurd (omega (arith, single))
games_of_one (s ∷ []) one single is = is ∙ sym (append-nil s)
games_of_one (s ∷ t ∷ segments) one single is = absurd (omega (arith, single))

pub games_of_two : (segments : List Segment) (one other : Segment) → length segments ≡ 2 → one ≡ get_or segments 0 one → other ≡ get_or segments 1 other → one ++ other ≡ games_of_segments segments
games_of_two [] one other double is also = absurd (omega (arith, double))
games_of_two (s ∷ []) one other double is also = absurd (omega (arith, double))
games_of_two (s ∷ t ∷ []) one other double is also = ap (λ (gs : Segment). gs ++ other) is ∙ ap (λ (gs : Segment). s ++ gs) (also ∙ sym (append-nil t))
games_of_two (s ∷ t ∷ u ∷ segments) one other double is also = absurd (omega (arith, double))

-- those of both halves
pub games_of_halves : (segments before behind : List Segment) (n : ℕ) → before ≡ take n segments → behind ≡ drop n segments → games_of_segments before ++ games_of_segments behind ≡ games_of_segments segments
games_of_halves segments before behind n is are =
    sym (games_of_segments-append before behind)
    ∙ ap games_of_segments (ap (λ (ss : List Segment). ss ++ behind) is ∙ ap (λ (ss : List Segment). take n segments ++ ss) are ∙ take-append-drop n segments)
