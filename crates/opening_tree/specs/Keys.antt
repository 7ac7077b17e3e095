-- Keys of words in one list, and the table by which a key is found.
use Rattle.std.specs.Prelude.{◌≡◌, ◌≢◌, ℕ, suc, ◌-◌, ◌*◌, ◌/◌, ◌%◌, ◌<◌, ◌≤◌, if◌then◌else◌, nat_eq, List, [], ◌∷◌, map, length, take, drop, slice_index, slice_index_or}
use Rattle.std.specs.Cmp.Lexicographic.{pointwise}
use Rattle.std.specs.List.{fold, range_with_len}
use Rattle.std.specs.Int.{rotate_left, w64}
use Rattle.std.specs.Int.RustNames.{bit_and, bit_xor}

-- ---- what is seen

-- keys of so many words each, in the order in which they first came
pub record KeyList : Type 0 where
  pub width : ℕ
  pub keys : List (List ℕ)

-- the number of a key: that of the first that is equal, and where none is, how many keys there are
abbrev pub number_of : List ℕ → List (List ℕ) → ℕ
number_of key [] = 0
number_of key (k ∷ ks) = if pointwise nat_eq key k then 0 else suc (number_of key ks)

-- the keys with this one: it stands at the end if none is equal
abbrev pub with_key : List (List ℕ) → List ℕ → List (List ℕ)
with_key [] key = key ∷ []
with_key (k ∷ ks) key = if pointwise nat_eq key k then k ∷ ks else k ∷ with_key ks key

-- none of the keys is equal to this one
abbrev pub IsNoKey : List (List ℕ) → List ℕ → Type 0
IsNoKey keys key = (k : ℕ) (d : List ℕ) → k < length keys → slice_index_or keys k d ≢ key

-- ---- how it is kept

-- the key with a number, of so many words
unfoldable pub key_at : ℕ → ℕ → List ℕ → List ℕ
key_at width k words = take width (drop (width * k) words)

-- so many keys
abbrev pub keys_in : ℕ → ℕ → List ℕ → List (List ℕ)
keys_in width count words = map (λ k. key_at width k words) (range_with_len 0 count)

-- one word more in a hash
unfoldable pub mixed : ℕ → ℕ → ℕ
mixed hash word = rotate_left w64 (bit_xor hash word * 11400714819323198485 % 18446744073709551616) 29

-- the hash of a key
unfoldable pub hash_of : List ℕ → ℕ
hash_of words = fold mixed 0 words

-- the bucket of a hash, of so many
unfoldable pub bucket_in : ℕ → ℕ → ℕ
bucket_in hash buckets = bit_and (hash / 4294967296) (buckets - 1)

-- the bucket of a key, of so many
abbrev pub bucket_at : ℕ → List ℕ → ℕ → ℕ → ℕ
bucket_at width words buckets k = bucket_in (hash_of (key_at width k words)) buckets

-- A link names the last of so many first keys that is in a bucket, by one more than its number, or
-- no key by 0.
pub record IsLastBefore (width : ℕ) (words : List ℕ) (buckets bound bucket link : ℕ) : Type 0 where
  pub below : link ≤ bound
  pub there : (k : ℕ) → suc k ≡ link → bucket_at width words buckets k ≡ bucket
  pub none : (k : ℕ) → link ≤ k → k < bound → bucket_at width words buckets k ≢ bucket

-- For so many first keys, each of the buckets has a link to its last key, and each key one to the key
-- before it in its bucket.
pub record AreLinked (width : ℕ) (words : List ℕ) (buckets : ℕ) (nexts heads : List ℕ)
    (count : ℕ) : Type 0 where
  pub heads_are : (b : ℕ) → b < buckets →
      IsLastBefore width words buckets count b (slice_index heads b)
  pub nexts_are : (k : ℕ) → k < count →
      IsLastBefore width words buckets k (bucket_at width words buckets k) (slice_index nexts k)

-- the words of different keys, linked
pub record IsKeyTable (width : ℕ) (words nexts heads : List ℕ) : Type 0 where
  pub counted : length words ≡ width * length nexts
  pub few : length nexts ≤ 4294967295
  pub some : 0 < length heads
  pub linked : AreLinked width words (length heads) nexts heads (length nexts)
  pub different : (j k : ℕ) → j < k → k < length nexts →
      key_at width j words ≢ key_at width k words
