-- The keys of games, one game after another.
use Rattle.std.proofs.Common.{◌≡◌, ◌∙◌, ◌+◌, ◌<◌, ◌≤◌, ◌++◌, ℕ, zero, suc, List, [], ◌∷◌, ap, arith, get_or, length, refl, sym, take}
use Rattle.std.specs.Borrow.{Bor}
use Rattle.std.specs.List.{flat_map}
use Rattle.std.proofs.lemmas.List.{take_all}
use Rattle.dyer_signature.specs.declared.bytes.Signature.{Signature}
use Rattle.node_position.specs.Games.{Game}
use Rattle.session_core.specs.Doubles.{DoubleKey, groups_of}
use Rattle.session_core.specs.Grouping.{Entry, group_in, key_with, keys_with, with_number}
use Rattle.session_core.proofs.Groups.{all_entries, entries-more, groups-entries}

keys-next : (games : List (Bor Game)) (forms : List Signature) (n : ℕ) (game : Bor Game) (d : Signature) → n < length games → n < length forms → game ≡ get_or games n game
    → keys_with (take (suc n) games) (take (suc n) forms) ≡ keys_with (take n games) (take n forms) ++ key_with game.now (get_or forms n d) ∷ []
keys-next [] forms n game d below within at = absurd (omega (arith, below))
keys-next (g ∷ gs) [] n game d below within at = absurd (omega (arith, within))
keys-next (g ∷ gs) (s ∷ ss) zero game d below within at = λ i. key_with (sym at i).now s ∷ []
keys-next (g ∷ gs) (s ∷ ss) (suc n) game d below within at = ap (λ (keys : List DoubleKey). key_with g.now s ∷ keys) (keys-next gs ss n game d (omega (arith, below)) (omega (arith, within)) at)

length-keys : (games : List (Bor Game)) (forms : List Signature) (n : ℕ) → n ≤ length games → n ≤ length forms → length (keys_with (take n games) (take n forms)) ≡ n
length-keys games forms zero below within = refl
length-keys [] forms (suc n) below within = absurd (omega (arith, below))
length-keys (g ∷ gs) [] (suc n) below within = absurd (omega (arith, within))
length-keys (g ∷ gs) (s ∷ ss) (suc n) below within = ap suc (length-keys gs ss n (omega (arith, below)) (omega (arith, within)))

module _ (games : List (Bor Game)) (forms : List Signature) (n : ℕ) where
  -- the number of one game more
  pub entries-next : (game : Bor Game) (d : Signature) (key : DoubleKey) (old new : List Entry) → n < length games → n < length forms → game ≡ get_or games n game
      → key ≡ key_with game.now (get_or forms n d) → old ≡ all_entries (keys_with (take n games) (take n forms)) → new ≡ with_number old key n → new ≡ all_entries (keys_with (take (n + 1) games) (take (n + 1) forms))
  entries-next game d key old new below within at own so_far added =
      let keys = keys_with (take n games) (take n forms) in
      let long = length-keys games forms n (omega (arith, below)) (omega (arith, within)) in
      let one : suc n ≡ n + 1 = omega arith in
      added
      ∙ (λ i. with_number (so_far i) (own i) (sym long i))
      ∙ entries-more keys (key_with game.now (get_or forms n d))
      ∙ ap all_entries (sym (keys-next games forms n game d below within at) ∙ ap (λ m. keys_with (take m games) (take m forms)) one)

  -- the groups of all games
  pub groups-all : (entries : List Entry) → length games ≤ n → length forms ≡ length games → entries ≡ all_entries (keys_with (take n games) (take n forms)) → flat_map group_in entries ≡ groups_of (keys_with games forms)
  groups-all entries past as_many so_far =
      let all = take_all n games past in
      let each = take_all n forms (omega (arith, past, as_many)) in
      ap (flat_map group_in) so_far
      ∙ groups-entries (keys_with (take n games) (take n forms))
      ∙ (λ i. groups_of (keys_with (all i) (each i)))
