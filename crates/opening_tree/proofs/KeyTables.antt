-- Keys in one list of words: each of them, one more, and where one is found.
use Prim.Native.Nat.{zero}
use Rattle.std.proofs.Common.{◌≡◌, ◌≢◌, ℕ, suc, ◌+◌, ◌*◌, ◌<◌, ◌≤◌, Bool, true, false, cond, inl, inr, List, [], ◌∷◌, ◌++◌, length, length-append, length-drop, get_or, set, take, drop, refl, sym, ap, ◌∙◌, subst, arith}
use Rattle.std.specs.Prelude.{nat_eq, slice_index}
use Rattle.std.specs.Cmp.Lexicographic.{pointwise}
use Rattle.std.proofs.lemmas.Bool.{both_ways, cases_eq, cases_lt}
use Rattle.std.proofs.lemmas.List.{drop-append-le, drop_at, get_or_append_left, get_or_push, get_or_read, get_or-set_other, get_or-set_same, length-set, length_push, take-append-le, take_all}
use Rattle.std.proofs.lemmas.List.FromFn.{fill_by_all, get_or-map-range_with_len, length-map-range_with_len, map-range_with_len_more}
use Rattle.std.proofs.lemmas.Nat.{mul-le}
use Rattle.std.proofs.lemmas.Slice.Eq.{bytes_eq-Decides}
use Rattle.opening_tree.specs.Keys.{AreLinked, IsKeyTable, IsLastBefore, IsNoKey, KeyList, bucket_at, bucket_in, hash_of, key_at, keys_in, number_of, with_key}

-- ---- keys of as many words each

-- a key ends before the keys do
pub key_within : (width k count : ℕ) → k < count → width * k + width ≤ width * count
key_within width k count lt =
    let le : width * (k + 1) ≤ width * count = mul-le width (k + 1) width count (omega arith) (omega (arith, lt)) in
    let more : width * (k + 1) ≡ width * k + width = omega arith in
    omega (arith, le, more)

pub key_before : (width k : ℕ) (words more : List ℕ) → width * k + width ≤ length words → key_at width k (words ++ more) ≡ key_at width k words
unfolding key_at
key_before width k words more fits =
    ap (take width) (drop-append-le (width * k) words more (omega (arith, fits)))
    ∙ take-append-le width (drop (width * k) words) more (omega (arith, fits, length-drop (width * k) words))

pub key_last : (width count : ℕ) (words key : List ℕ) → length words ≡ width * count → length key ≡ width → key_at width count (words ++ key) ≡ key
unfolding key_at
key_last width count words key long wide = ap (take width) (drop_at words key (width * count) long) ∙ take_all width key (omega (arith, wide))

pub length-keys : (width count : ℕ) (words : List ℕ) → length (keys_in width count words) ≡ count
length-keys width count words = length-map-range_with_len (λ k. key_at width k words) 0 count

pub get_or-keys : (width count : ℕ) (words : List ℕ) (k : ℕ) (d : List ℕ) → k < count → get_or (keys_in width count words) k d ≡ key_at width k words
get_or-keys width count words k d lt = get_or-map-range_with_len (λ j. key_at width j words) 0 count k k d lt (omega arith)

pub keys-pushed : (width count : ℕ) (words key : List ℕ) → length words ≡ width * count → length key ≡ width → keys_in width (count + 1) (words ++ key) ≡ keys_in width count words ++ key ∷ []
keys-pushed width count words key long wide =
    map-range_with_len_more (λ k. key_at width k (words ++ key)) 0 count count (omega arith)
    ∙ ap (λ (ks : List (List ℕ)). ks ++ key_at width count (words ++ key) ∷ [])
    (fill_by_all (λ k. key_at width k words) (keys_in width count (words ++ key)) count []
    (length-keys width count (words ++ key))
    (λ k lt. get_or-keys width count (words ++ key) k [] lt ∙ key_before width k words key (omega (arith, long, key_within width k count lt))))
    ∙ ap (λ (w : List ℕ). keys_in width count words ++ w ∷ []) (key_last width count words key long wide)

-- ---- the number of a key

not_same : (key k : List ℕ) → k ≢ key → pointwise nat_eq key k ≡ false
not_same key k ne = by (pointwise nat_eq key k) refl
  where
    by : (b : Bool) → pointwise nat_eq key k ≡ b → pointwise nat_eq key k ≡ false
    by true e = absurd (ne (sym ((bytes_eq-Decides key k).0 e)))
    by false e = e

no-tail : (k : List ℕ) (ks : List (List ℕ)) (key : List ℕ) → IsNoKey (k ∷ ks) key → IsNoKey ks key
no-tail k ks key none j d lt = none (suc j) d (omega (arith, lt))

pub number-new : (keys : List (List ℕ)) (key : List ℕ) → IsNoKey keys key → number_of key keys ≡ length keys
number-new [] key none = refl
number-new (k ∷ ks) key none =
    ap (λ b. cond b 0 (suc (number_of key ks))) (not_same key k (none 0 k (omega arith)))
    ∙ ap (λ n. suc n) (number-new ks key (no-tail k ks key none))

pub with_key-new : (keys : List (List ℕ)) (key : List ℕ) → IsNoKey keys key → with_key keys key ≡ keys ++ key ∷ []
with_key-new [] key none = refl
with_key-new (k ∷ ks) key none =
    ap (λ b. cond b (k ∷ ks) (k ∷ with_key ks key)) (not_same key k (none 0 k (omega arith)))
    ∙ ap (λ xs. k ∷ xs) (with_key-new ks key (no-tail k ks key none))

-- the key with this number is the first that is equal
pub record IsFirstKey (keys : List (List ℕ)) (key : List ℕ) (at : ℕ) : Type 0 where
  pub in_range : at < length keys
  pub is : (d : List ℕ) → get_or keys at d ≡ key
  pub before : (k : ℕ) (d : List ℕ) → k < at → get_or keys k d ≢ key

first-tail : (k : List ℕ) (ks : List (List ℕ)) (key : List ℕ) (at : ℕ) → IsFirstKey (k ∷ ks) key (suc at) → IsFirstKey ks key at
first-tail k ks key at first = record {
  in_range = omega (arith, first.in_range);
  is = first.is;
  before = λ j d lt. first.before (suc j) d (omega (arith, lt));
}

pub number-found : (keys : List (List ℕ)) (key : List ℕ) (at : ℕ) → IsFirstKey keys key at → number_of key keys ≡ at
number-found [] key at first = absurd (omega (arith, first.in_range))
number-found (k ∷ ks) key zero first =
    ap (λ b. cond b 0 (suc (number_of key ks))) ((bytes_eq-Decides key k).1 (sym (first.is k)))
number-found (k ∷ ks) key (suc at) first =
    ap (λ b. cond b 0 (suc (number_of key ks))) (not_same key k (first.before 0 k (omega arith)))
    ∙ ap (λ n. suc n) (number-found ks key at (first-tail k ks key at first))

pub with_key-found : (keys : List (List ℕ)) (key : List ℕ) (at : ℕ) → IsFirstKey keys key at → keys ≡ with_key keys key
with_key-found [] key at first = absurd (omega (arith, first.in_range))
with_key-found (k ∷ ks) key zero first =
    sym (ap (λ b. cond b (k ∷ ks) (k ∷ with_key ks key)) ((bytes_eq-Decides key k).1 (sym (first.is k))))
with_key-found (k ∷ ks) key (suc at) first =
    ap (λ xs. k ∷ xs) (with_key-found ks key at (first-tail k ks key at first))
    ∙ sym (ap (λ b. cond b (k ∷ ks) (k ∷ with_key ks key)) (not_same key k (first.before 0 k (omega arith))))

-- ---- what a test and a read tell

pub is_same_key : (xs ys : List ℕ) (b : Bool) → b ≡ pointwise nat_eq xs ys → b ≡ true → xs ≡ ys
is_same_key xs ys b e is = (bytes_eq-Decides xs ys).0 (sym e ∙ is)

pub is_other_key : (xs ys : List ℕ) (b : Bool) → b ≡ pointwise nat_eq xs ys → b ≡ false → xs ≢ ys
is_other_key xs ys b e differ same = both_ways b differ (e ∙ (bytes_eq-Decides xs ys).1 same)

pub link-read : (xs : List ℕ) (k x : ℕ) → k < length xs → x ≡ get_or xs k x → x ≡ slice_index xs k
link-read xs k x lt is = get_or_read xs k x lt is 0

-- ---- a search along the links of a bucket

-- All keys from a link on are others, and the link is one of the key's bucket.
pub record IsSearched (width : ℕ) (words : List ℕ) (buckets count : ℕ) (key : List ℕ) (next : ℕ) : Type 0 where
  pub below : next ≤ count
  pub there : (k : ℕ) → suc k ≡ next → bucket_at width words buckets k ≡ bucket_in (hash_of key) buckets
  pub none : (k : ℕ) → next ≤ k → k < count → key_at width k words ≢ key

module _ (width : ℕ) (words nexts heads : List ℕ) (table : IsKeyTable width words nexts heads) (key : List ℕ) where
  other_bucket : (k : ℕ) → bucket_at width words (length heads) k ≢ bucket_in (hash_of key) (length heads) → key_at width k words ≢ key
  other_bucket k ne e = ne (ap (λ (ws : List ℕ). bucket_in (hash_of ws) (length heads)) e)

  pub searched-start : (bucket next : ℕ) → bucket ≡ bucket_in (hash_of key) (length heads) → bucket < length heads → next ≡ slice_index heads bucket → IsSearched width words (length heads) (length nexts) key next
  searched-start bucket next b lt is =
      let last = subst (λ l. IsLastBefore width words (length heads) (length nexts) bucket l) (sym is) (table.linked.heads_are bucket lt) in
      record {
        below = last.below;
        there = λ k e. last.there k e ∙ b;
        none = λ k le less. other_bucket k (λ e. last.none k le less (e ∙ sym b));
      }

  pub searched-next : (next at after : ℕ) → IsSearched width words (length heads) (length nexts) key next → suc at ≡ next → key_at width at words ≢ key → after ≡ slice_index nexts at → IsSearched width words (length heads) (length nexts) key after
  searched-next next at after so_far e ne is =
      let in_range : at < length nexts = omega (arith, so_far.below, e) in
      let last = subst (λ l. IsLastBefore width words (length heads) at (bucket_at width words (length heads) at) l) (sym is) (table.linked.nexts_are at in_range) in
      record {
        below = omega (arith, last.below, in_range);
        there = λ k f. last.there k f ∙ so_far.there at e;
        none = λ k le less. elim (cases_lt k at) [
          | inl before ↦ other_bucket k (λ f. last.none k le before (f ∙ sym (so_far.there at e)))
          | inr ge ↦ elim (cases_eq k at) [
            | inl same ↦ subst (λ j. key_at width j words ≢ key) (sym same) ne
            | inr not ↦ so_far.none k (omega (arith, e, ge, not)) less
          ]
        ];
      }

  pub searched-none : (next : ℕ) → IsSearched width words (length heads) (length nexts) key next → next ≡ 0 → IsNoKey (keys_in width (length nexts) words) key
  searched-none next so_far e k d lt is =
      let less : k < length nexts = omega (arith, lt, length-keys width (length nexts) words) in
      so_far.none k (omega (arith, e)) less (sym (get_or-keys width (length nexts) words k d less) ∙ is)

  pub searched-found : (at : ℕ) → at < length nexts → key_at width at words ≡ key → IsFirstKey (keys_in width (length nexts) words) key at
  searched-found at lt is = record {
    in_range = omega (arith, lt, length-keys width (length nexts) words);
    is = λ d. get_or-keys width (length nexts) words at d lt ∙ is;
    before = λ k d less e. table.different k at less lt (sym (get_or-keys width (length nexts) words k d (omega (arith, lt, less))) ∙ e ∙ sym is);
  }

pub link-below : (width : ℕ) (words nexts heads : List ℕ) → IsKeyTable width words nexts heads → (at : ℕ) → at < length nexts → slice_index nexts at ≤ at
link-below width words nexts heads table at lt = (table.linked.nexts_are at lt).below

-- ---- links

last-link : (width : ℕ) (words : List ℕ) (buckets bound bucket link other : ℕ) → IsLastBefore width words buckets bound bucket link → other ≡ link → IsLastBefore width words buckets bound bucket other
last-link width words buckets bound bucket link other last e = subst (λ l. IsLastBefore width words buckets bound bucket l) (sym e) last

pub linked-none : (width : ℕ) (words : List ℕ) (buckets : ℕ) (nexts heads : List ℕ) → ((b : ℕ) → b < buckets → slice_index heads b ≡ 0) → AreLinked width words buckets nexts heads 0
linked-none width words buckets nexts heads none = record {
  heads_are = λ b lt. record {
    below = omega (arith, none b lt);
    there = λ k e. absurd (omega (arith, e, none b lt));
    none = λ k le less. absurd (omega (arith, less));
  };
  nexts_are = λ k lt. absurd (omega (arith, lt));
}

module _ (width : ℕ) (words : List ℕ) (buckets : ℕ) (nexts heads : List ℕ) (count : ℕ) (so_far : AreLinked width words buckets nexts heads count) where
  -- one key more
  pub linked-more : (more : List ℕ) (bucket link : ℕ) → bucket ≡ bucket_at width words buckets count → bucket < length heads → length heads ≡ buckets → link ≡ count + 1
      → ((k : ℕ) → k < count → slice_index more k ≡ slice_index nexts k) → slice_index more count ≡ slice_index heads bucket
      → AreLinked width words buckets more (set heads bucket link) (count + 1)
  linked-more more bucket link is lt all new same last = record {
    heads_are = λ b less. elim (cases_eq b bucket) [
      | inl e ↦
          let here : slice_index (set heads bucket link) b ≡ count + 1 = ap (slice_index (set heads bucket link)) e ∙ get_or-set_same heads bucket link 0 lt ∙ new in
          last-link width words buckets (count + 1) b (count + 1) _ (record {
            below = omega arith;
            there = λ k f. let g : k ≡ count = omega (arith, f) in ap (bucket_at width words buckets) g ∙ sym is ∙ sym e;
            none = λ k le below. absurd (omega (arith, le, below));
          }) here
      | inr ne ↦
          let old = so_far.heads_are b less in
          last-link width words buckets (count + 1) b (slice_index heads b) _ (record {
            below = omega (arith, old.below);
            there = old.there;
            none = λ k le below. elim (cases_lt k count) [
              | inl before ↦ old.none k le before
              | inr ge ↦ λ f. let g : k ≡ count = omega (arith, ge, below) in ne (sym f ∙ ap (bucket_at width words buckets) g ∙ sym is)
            ];
          }) (get_or-set_other heads bucket b link 0 ne)
    ];
    nexts_are = λ k less. elim (cases_lt k count) [
      | inl before ↦ last-link width words buckets k (bucket_at width words buckets k) _ _ (so_far.nexts_are k before) (same k before)
      | inr ge ↦
          let g : k ≡ count = omega (arith, ge, less) in
          subst (λ j. IsLastBefore width words buckets j (bucket_at width words buckets j) (slice_index more j)) (sym g)
          (last-link width words buckets count (bucket_at width words buckets count) _ _
          (subst (λ b. IsLastBefore width words buckets count b (slice_index heads bucket)) is (so_far.heads_are bucket (omega (arith, lt, all)))) last)
    ];
  }

  -- more words behind those of the keys
  pub linked-words : (all : List ℕ) → ((k : ℕ) → k < count → key_at width k all ≡ key_at width k words) → AreLinked width all buckets nexts heads count
  linked-words all same =
      let own : (k : ℕ) → k < count → bucket_at width all buckets k ≡ bucket_at width words buckets k = λ k lt. ap (λ (ws : List ℕ). bucket_in (hash_of ws) buckets) (same k lt) in
      let moved : (bound bucket link : ℕ) → bound ≤ count → IsLastBefore width words buckets bound bucket link → IsLastBefore width all buckets bound bucket link = λ bound bucket link within last. record {
        below = last.below;
        there = λ k e. own k (omega (arith, e, last.below, within)) ∙ last.there k e;
        none = λ k le lt f. last.none k le lt (sym (own k (omega (arith, lt, within))) ∙ f);
      } in
      record {
        heads_are = λ b lt. moved count b (slice_index heads b) (omega arith) (so_far.heads_are b lt);
        nexts_are = λ k lt. moved k (bucket_at width all buckets k) (slice_index nexts k) (omega (arith, lt))
            (subst (λ b. IsLastBefore width words buckets k b (slice_index nexts k)) (sym (own k lt)) (so_far.nexts_are k lt));
      }

-- ---- the table

pub table-none : (width : ℕ) (words nexts heads : List ℕ) → words ≡ [] → nexts ≡ [] → 0 < length heads → ((b : ℕ) → b < length heads → slice_index heads b ≡ 0) → IsKeyTable width words nexts heads
table-none width words nexts heads no_word no_next some none =
    let count : length nexts ≡ 0 = ap length no_next in
    record {
      counted = ap length no_word ∙ sym (ap (λ n. width * n) count ∙ omega arith);
      few = omega (arith, count);
      some = some;
      linked = subst (λ n. AreLinked width words (length heads) nexts heads n) (sym count) (linked-none width words (length heads) nexts heads none);
      different = λ j k less lt. absurd (omega (arith, lt, count));
    }

pub table-linked : (width : ℕ) (words old nexts first heads : List ℕ) → IsKeyTable width words old first → length nexts ≡ length old → 0 < length heads → AreLinked width words (length heads) nexts heads (length old) → IsKeyTable width words nexts heads
table-linked width words old nexts first heads table long some linked = record {
  counted = table.counted ∙ ap (λ n. width * n) (sym long);
  few = omega (arith, table.few, long);
  some = some;
  linked = subst (λ n. AreLinked width words (length heads) nexts heads n) (sym long) linked;
  different = λ j k less lt. table.different j k less (omega (arith, lt, long));
}

pub table-pushed : (width : ℕ) (words nexts heads key : List ℕ) → IsKeyTable width words nexts heads → length key ≡ width → IsNoKey (keys_in width (length nexts) words) key → length nexts < 4294967295
    → (bucket head link : ℕ) → bucket ≡ bucket_in (hash_of key) (length heads) → bucket < length heads → head ≡ slice_index heads bucket → link ≡ length nexts + 1
    → IsKeyTable width (words ++ key) (nexts ++ head ∷ []) (set heads bucket link)
table-pushed width words nexts heads key table wide none few bucket head link is lt read new =
    let count = length nexts in
    let all : length (nexts ++ head ∷ []) ≡ count + 1 = length_push nexts head in
    let buckets : length (set heads bucket link) ≡ length heads = length-set heads bucket link in
    let old : (k : ℕ) → k < count → key_at width k (words ++ key) ≡ key_at width k words = λ k less. key_before width k words key (omega (arith, table.counted, key_within width k count less)) in
    let own : key_at width count (words ++ key) ≡ key = key_last width count words key table.counted wide in
    let linked : AreLinked width (words ++ key) (length heads) (nexts ++ head ∷ []) (set heads bucket link) (count + 1) =
    linked-more width (words ++ key) (length heads) nexts heads count (linked-words width words (length heads) nexts heads count table.linked (words ++ key) old)
    (nexts ++ head ∷ []) bucket link (is ∙ sym (ap (λ (ws : List ℕ). bucket_in (hash_of ws) (length heads)) own)) lt refl new
    (λ k less. get_or_append_left nexts (head ∷ []) 0 k less) (get_or_push nexts head 0 count refl ∙ read) in
    record {
      counted = length-append words key ∙ (λ i. table.counted i + wide i) ∙ sym (ap (λ n. width * n) all ∙ omega arith);
      few = omega (arith, all, few);
      some = omega (arith, buckets, table.some);
      linked = subst (λ n. AreLinked width (words ++ key) n (nexts ++ head ∷ []) (set heads bucket link) (length (nexts ++ head ∷ []))) (sym buckets)
          (subst (λ n. AreLinked width (words ++ key) (length heads) (nexts ++ head ∷ []) (set heads bucket link) n) (sym all) linked);
      different = λ j k less lt e. elim (cases_lt k count) [
        | inl before ↦ table.different j k less before (sym (old j (omega (arith, less, before))) ∙ e ∙ old k before)
        | inr ge ↦
            let last : k ≡ count = omega (arith, ge, lt, all) in
            let first : j < count = omega (arith, less, last) in
            none j [] (omega (arith, first, length-keys width count words))
            (get_or-keys width count words j [] first ∙ sym (old j first) ∙ e ∙ ap (λ i. key_at width i (words ++ key)) last ∙ own)
      ];
    }

-- what is seen where the keys are as many
pub same-view : (width : ℕ) (words : List ℕ) (m n : ℕ) (seen : KeyList) → m ≡ n → ◌≡◌ {A = KeyList} (record { width = width; keys = keys_in width n words }) seen → ◌≡◌ {A = KeyList} (record { width = width; keys = keys_in width m words }) seen
same-view width words m n seen e is = subst (λ k. ◌≡◌ {A = KeyList} (record { width = width; keys = keys_in width k words }) seen) (sym e) is

pub keys-more : (width : ℕ) (words nexts heads key : List ℕ) → IsKeyTable width words nexts heads → length key ≡ width → IsNoKey (keys_in width (length nexts) words) key → (head : ℕ)
    → keys_in width (length (nexts ++ head ∷ [])) (words ++ key) ≡ with_key (keys_in width (length nexts) words) key
keys-more width words nexts heads key table wide none head =
    ap (λ n. keys_in width n (words ++ key)) (length_push nexts head)
    ∙ keys-pushed width (length nexts) words key table.counted wide
    ∙ sym (with_key-new (keys_in width (length nexts) words) key none)
