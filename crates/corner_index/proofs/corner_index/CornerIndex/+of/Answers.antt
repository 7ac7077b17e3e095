use Rattle.std.proofs.Common.{◌≡◌, ℕ, ◌/◌, ◌<◌, ◌≤◌, ◌++◌, List, ap, ◌∙◌, length, refl, take, subst, arith, rules}
use Rattle.std.proofs.lemmas.List.{take-append-drop}
use Rattle.std.proofs.lemmas.Result.{IfOk-weaker}
use Rattle.corner_index.specs.CornerGames.{IsIndexOf}
use Rattle.corner_index.proofs.CornerLists.{IsIndexOf-below, no_game}
use Rattle.corner_index.proofs.corner_index.CornerIndex.+of.Goals as goal

pub of-requires : goal.of-requires
of-requires t c =
    let smaller : length c.split_at.result.0.now < length c.args.games.now = omega (arith, c.split_at.ensures.front_len, c.in-len1-up.len_at_least) in
    search rules

pub of-requires-2 : goal.of-requires-2
of-requires-2 t c =
    let more : 2 ≤ length c.args.games.now = grind arith in
    let smaller : length c.split_at.result.1.now < length c.args.games.now = omega (arith, c.split_at.ensures.back_len, more) in
    search rules

pub join-requires-clause-before : goal.join-requires-clause-before
join-requires-clause-before t c = IsIndexOf-below c.split_at.result.0.now c.in_ok-a.a _ c.in_ok-a.ensures (omega arith)

pub join-requires-clause-fits : goal.join-requires-clause-fits
join-requires-clause-fits t c = IsIndexOf-below c.split_at.result.1.now c.in_ok-b.b _ c.in_ok-b.ensures (omega (arith, c.split_at.ensures.front_len, c.split_at.ensures.back_len, c.requires))

pub returns : goal.returns
returns t c =
    let before = c.split_at.result.0.now in
    let behind = c.split_at.result.1.now in
    let n = length c.args.games.now / 2 in
    let all : before ++ behind ≡ c.args.games.now = ap (λ (games : List (List (List ℕ))). games ++ behind) c.split_at.ensures.front ∙ (ap (λ (games : List (List (List ℕ))). take n c.args.games.now ++ games) c.split_at.ensures.back ∙ take-append-drop n c.args.games.now) in
    IfOk-weaker c.join.result _ _ (λ index told. subst (λ (games : List (List (List ℕ))). IsIndexOf games index) all (told before behind c.in_ok-a.ensures refl c.in_ok-b.ensures)) c.join.ensures.index

pub returns-in_default : goal.returns-in_default
returns-in_default t c = subst (λ (games : List (List (List ℕ))). IsIndexOf games c.empty.result) (no_game c.args.games.now (omega (arith, c.in_default.len_below))) c.empty.ensures
