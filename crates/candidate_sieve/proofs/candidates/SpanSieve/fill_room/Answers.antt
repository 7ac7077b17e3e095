use Rattle.std.proofs.Common.{◌≡◌, ℕ, ◌+◌, ◌-◌, ◌<◌, List, ◌∷◌, [], ◌++◌, drop, length, slice_index, take, ap, sym, ◌∙◌, subst, subst₂, arith, replicate, vec_len}
use Rattle.std.proofs.lemmas.Grind.{common_steps}
use Rattle.std.proofs.lemmas.List.{get_or-replicate, get_or-take, get_or_append_left, length-replicate}
use Rattle.candidate_sieve.specs.BlockGames.{HaveEach}
use Rattle.candidate_sieve.proofs.candidates.SpanSieve.fill_room.Goals as goal

pub returns-then-self-eq1-clause-games : goal.returns-then-self-eq1-clause-games
returns-then-self-eq1-clause-games c = λ k lt.
    let s = c.args.self.now in
    let first : 0 ≡ k = omega (arith, lt, c.if-self-eq1.true) in
    let items : c.push.new.self.items ≡ c.games_at.result ∷ [] = c.in_ok-push.ensures.items ∙ ap (λ (ws : List ℕ). ws ++ c.games_at.result ∷ []) c.clear.ensures.items in
    subst (λ (i : ℕ). HaveEach s.planes.now.games (s.base + i) s.wants.now c.args.among (length s.wants.now) (slice_index c.push.new.self.items i)) first
    (subst (λ (ws : List ℕ). HaveEach s.planes.now.games (s.base + 0) s.wants.now c.args.among (length s.wants.now) (slice_index ws 0)) (sym items)
    (subst (λ (b : ℕ). HaveEach s.planes.now.games b s.wants.now c.args.among (length s.wants.now) c.games_at.result) (omega arith) c.games_at.ensures))

-- an empty list that was made longer by equal numbers
module _ (n among len had : ℕ) (old resized read words : List ℕ) (none : old ≡ []) (few : had ≡ 0) (is : resized ≡ take n old ++ replicate (n - had) among) (same : read ≡ resized) (count : length words ≡ length read) (all : len ≡ n) (k : ℕ) (lt : k < n) where
  whole : resized ≡ replicate n among
  whole = is ∙ ap (λ (xs : List ℕ). take n xs ++ replicate (n - had) among) none ∙ ap (λ (m : ℕ). take n [] ++ replicate (n - m) among) few ∙ grind (arith, common_steps)

  resized-at : slice_index read k ≡ among
  resized-at = ap (λ (xs : List ℕ). slice_index xs k) (same ∙ whole) ∙ get_or-replicate n k among 0 lt

  long : k < length words
  long = omega (arith, lt, count, ap length (same ∙ whole), length-replicate n among)

  written-at : slice_index (take len (words ++ drop (length words) resized)) k ≡ slice_index words k
  written-at = get_or-take len (words ++ drop (length words) resized) k 0 (omega (arith, lt, all)) ∙ get_or_append_left words (drop (length words) resized) 0 k long

pub returns-clause-games : goal.returns-clause-games
returns-clause-games c = λ k lt.
    let s = c.args.self.now in
    let n = s.count in
    let at = resized-at n c.args.among c.resize.new.self.len (vec_len c.clear.new.self) c.clear.new.self.items c.resize.new.self.items c.deref_mut.result.now c.keep_wanted.new.words c.clear.ensures.items c.clear.ensures.len c.in_ok-resize.ensures.items c.deref_mut.ensures.value c.keep_wanted.ensures.count c.in_ok-resize.ensures.len k lt in
    let written = written-at n c.args.among c.resize.new.self.len (vec_len c.clear.new.self) c.clear.new.self.items c.resize.new.self.items c.deref_mut.result.now c.keep_wanted.new.words c.clear.ensures.items c.clear.ensures.len c.in_ok-resize.ensures.items c.deref_mut.ensures.value c.keep_wanted.ensures.count c.in_ok-resize.ensures.len k lt in
    let inside : k < length c.deref_mut.result.now = omega (arith, long n c.args.among c.resize.new.self.len (vec_len c.clear.new.self) c.clear.new.self.items c.resize.new.self.items c.deref_mut.result.now c.keep_wanted.new.words c.clear.ensures.items c.clear.ensures.len c.in_ok-resize.ensures.items c.deref_mut.ensures.value c.keep_wanted.ensures.count c.in_ok-resize.ensures.len k lt, c.keep_wanted.ensures.count) in
    subst₂ (λ (among word : ℕ). HaveEach s.planes.now.games (s.base + k) s.wants.now among (length s.wants.now) word) at (sym written) (c.keep_wanted.ensures.kept k inside)
