use Rattle.std.proofs.Common.{◌≡◌, ℕ, ◌+◌, ◌<◌, List, [], ◌∷◌, ◌++◌, drop, length, slice_index, take, sym, ap, ◌∙◌, arith, subst, subst₂}
use Rattle.std.proofs.lemmas.List.{get_or-take, get_or_append_left}
use Rattle.candidate_sieve.specs.BlockGames.{IsSieved}
use Rattle.candidate_sieve.specs.Ordered.{IsCutInOrder}
use Rattle.candidate_sieve.proofs.candidates.sieve_span.Goals as goal

pub returns-then-sieve-eq1-clause-games : goal.returns-then-sieve-eq1-clause-games
returns-then-sieve-eq1-clause-games c = λ k lt.
    let sieve = c.args.sieve.now in
    let order = c.args.order.now in
    let first : 0 ≡ k = omega (arith, lt, c.if-sieve-eq1.true) in
    let at : sieve.base ≡ sieve.base + 0 = omega arith in
    let items : c.push.new.self.items ≡ c.games_at-games.result ∷ [] = c.in_ok-push.ensures.items ∙ ap (λ (ws : List ℕ). ws ++ c.games_at-games.result ∷ []) c.clear.ensures.items in
    let cut = subst (λ (b : ℕ). IsCutInOrder order.order b order.pairs.now (length order.pairs.now) c.games_at.result c.games_at-games.result) c.requires.base c.games_at-games.ensures in
    let told : IsSieved sieve.planes.now.games sieve.wants.now c.args.among order sieve.base c.games_at-games.result = record { had = c.games_at.result; have = c.games_at.ensures; cut = cut } in
    subst (λ (i : ℕ). IsSieved sieve.planes.now.games sieve.wants.now c.args.among order (sieve.base + i) (slice_index c.push.new.self.items i)) first
    (subst (λ (ws : List ℕ). IsSieved sieve.planes.now.games sieve.wants.now c.args.among order (sieve.base + 0) (slice_index ws 0)) (sym items)
    (subst (λ (b : ℕ). IsSieved sieve.planes.now.games sieve.wants.now c.args.among order b c.games_at-games.result) at told))

-- words that were written over those of a list
module _ (len : ℕ) (words had : List ℕ) (k : ℕ) (few : k < len) (lt : k < length words) where
  written-at : slice_index (take len (words ++ drop (length words) had)) k ≡ slice_index words k
  written-at = get_or-take len (words ++ drop (length words) had) k 0 few ∙ get_or_append_left words (drop (length words) had) 0 k lt

pub returns-clause-games : goal.returns-clause-games
returns-clause-games c = λ k lt.
    let sieve = c.args.sieve.now in
    let order = c.args.order.now in
    let had = c.fill_room.new.room in
    let inside : k < length c.deref_mut.result.now = omega (arith, lt, c.in_ok-fill_room.ensures.count, ap length c.deref_mut.ensures.value) in
    let few : k < had.len = omega (arith, inside, c.deref_mut.ensures.len) in
    let at = written-at had.len c.keep.new.words had.items k few (omega (arith, inside, c.keep.ensures.count)) in
    let cut = subst (λ (b : ℕ). IsCutInOrder order.order (b + k) order.pairs.now (length order.pairs.now) (slice_index c.deref_mut.result.now k) (slice_index c.keep.new.words k)) c.requires.base (c.keep.ensures.kept k inside) in
    record {
      had = slice_index had.items k;
      have = c.in_ok-fill_room.ensures.games k lt;
      cut = subst₂ (λ (before after : ℕ). IsCutInOrder order.order (sieve.base + k) order.pairs.now (length order.pairs.now) before after) (ap (λ (ws : List ℕ). slice_index ws k) c.deref_mut.ensures.value) (sym at) cut;
    }
