-- Files cut into batches, and the segments that they make.
use Rattle.std.proofs.Common.{◌≡◌, inl, inr, ℕ, zero, suc, ◌+◌, ◌-◌, ◌*◌, ◌/◌, ◌≤◌, List, [], ◌∷◌, ◌++◌, ◌<◌, drop, length, length-append, map, take, refl, sym, ap, ◌∙◌, subst, add-one, zero-add, zero-mul, suc-mul, arith}
use Rattle.std.specs.Fork.{slice_chunk}
use Rattle.std.specs.List.{range_with_len}
use Rattle.std.proofs.lemmas.Bool.{cases_lt}
use Rattle.std.proofs.Math.Seq.{drop-append_seam, take-add}
use Rattle.std.proofs.lemmas.Grind.{flat_map-append}
use mathlib.Core.List.{IsPrefix}
use Rattle.std.proofs.lemmas.List.{append-nil, drop-append-le, length-drop, map-append, take-append-drop, take-append-le, take-map, take_all}
use Rattle.std.proofs.lemmas.List.FromFn.{map-range_with_len_more, take-map-range_with_len}
use Rattle.std.proofs.lemmas.Nat.{div-mul-add}
use Rattle.std.proofs.Math.Nat.{div-mul-le_self, le-div_iff_mul-le, lt-div-mul-add, mul-le-mul_left, mul-le-mul_right}
use Rattle.node_position.specs.Games.{Game}
use Rattle.import_work.specs.Course.{Files, ImportFile, games_of_files}
use Rattle.import_work.specs.Log.{Segment, batches, games_of_segments, segments_of}

-- one piece more
pieces_more : (piece : ℕ → List ImportFile) (k : ℕ) → map piece (range_with_len 0 (suc k)) ≡ map piece (range_with_len 0 k) ++ piece k ∷ []
pieces_more piece k = ap (λ n. map piece (range_with_len 0 n)) (sym (add-one k)) ∙ map-range_with_len_more piece 0 k k (zero-add k)

-- the games of the first so many pieces are those of the files in them
pub pieces_joined : (files : List ImportFile) (batch k : ℕ) → games_of_segments (map games_of_files (map (slice_chunk files batch) (range_with_len 0 k))) ≡ games_of_files (take (k * batch) files)
pieces_joined files batch zero = ap (λ n. games_of_files (take n files)) (sym (zero-mul batch))
pieces_joined files batch (suc k) =
    let piece = slice_chunk files batch in
    let pieces = map piece (range_with_len 0 k) in
    ap (λ ps. games_of_segments (map games_of_files ps)) (pieces_more piece k)
    ∙ ap games_of_segments (map-append games_of_files pieces (piece k ∷ []))
    ∙ flat_map-append (λ (g : List Game). g) (map games_of_files pieces) (games_of_files (piece k) ∷ [])
    ∙ ap (λ gs. games_of_segments (map games_of_files pieces) ++ gs) (append-nil (games_of_files (piece k)))
    ∙ ap (λ gs. gs ++ games_of_files (piece k)) (pieces_joined files batch k)
    ∙ sym (flat_map-append (λ (f : ImportFile). f.games) (take (k * batch) files) (piece k))
    ∙ ap games_of_files (sym (take-add (k * batch) batch files))
    ∙ ap (λ n. games_of_files (take n files)) (next_end k batch)
  where
    next_end : (k batch : ℕ) → k * batch + batch ≡ suc k * batch
    next_end k batch = omega (arith, suc-mul k batch)

-- so many pieces there are of so many files, where the last one holds the last file
pub piece_count : (count batch k : ℕ) → 1 ≤ batch → count ≤ k * batch → k * batch ≤ count + (batch - 1) → (count + (batch - 1)) / batch ≡ k
piece_count count batch k some all last =
    let behind : ℕ = (count + (batch - 1)) - k * batch in
    let split : count + (batch - 1) ≡ k * batch + behind = omega (arith, last) in
    ap (λ n. n / batch) split ∙ div-mul-add k batch behind (omega (arith, some, all))

-- all files are in the pieces
pieces_hold : (count batch : ℕ) → 1 ≤ batch → count ≤ (count + (batch - 1)) / batch * batch
pieces_hold count batch some =
    let below : count + (batch - 1) < (count + (batch - 1)) / batch * batch + batch = lt-div-mul-add some in
    omega (arith, below, some)

-- there are no more pieces than files
pub pieces_few : (count batch : ℕ) → 1 ≤ batch → (count + (batch - 1)) / batch ≤ count
pieces_few count batch some =
    let k : ℕ = (count + (batch - 1)) / batch in
    let within : k * batch ≤ count + (batch - 1) = div-mul-le_self (count + (batch - 1)) batch in
    elim (cases_lt count k) [
      | inl many ↦
          let more : suc count * batch ≤ k * batch = mul-le-mul_right batch (omega (arith, many)) in
          let whole : count * 1 ≤ count * batch = mul-le-mul_left count some in
          absurd (omega (arith, within, more, whole, suc-mul count batch, some))
      | inr few ↦ few
    ]

-- the segments of an import have the games of its files
pub games_of_segments-all : (batch : ℕ) → 1 ≤ batch → (files : List ImportFile) → games_of_segments (segments_of batch (Files files)) ≡ games_of_files files
games_of_segments-all batch some files =
    pieces_joined files batch ((length files + (batch - 1)) / batch)
    ∙ ap games_of_files (take_all ((length files + (batch - 1)) / batch * batch) files (pieces_hold (length files) batch some))

-- ---- whole batches, and one batch more

module _ (batch : ℕ) (files more : List ImportFile) where
  -- a whole piece of the files is one of all files
  same_piece : (k : ℕ) → k * batch + batch ≤ length files → slice_chunk (files ++ more) batch k ≡ slice_chunk files batch k
  same_piece k within =
      ap (take batch) (drop-append-le (k * batch) files more (omega (arith, within)))
      ∙ take-append-le batch (drop (k * batch) files) more (rw length-drop (omega (arith, within)))

  same_pieces : (k : ℕ) → k * batch ≤ length files → map (slice_chunk (files ++ more) batch) (range_with_len 0 k) ≡ map (slice_chunk files batch) (range_with_len 0 k)
  same_pieces zero within = refl
  same_pieces (suc k) within =
      let here : k * batch + batch ≤ length files = omega (arith, within, suc-mul k batch) in
      pieces_more (slice_chunk (files ++ more) batch) k
      ∙ ap (λ ps. ps ++ slice_chunk (files ++ more) batch k ∷ []) (same_pieces k (omega (arith, here)))
      ∙ ap (λ p. map (slice_chunk files batch) (range_with_len 0 k) ++ p ∷ []) (same_piece k here)
      ∙ sym (pieces_more (slice_chunk files batch) k)

  -- the files behind whole batches are a batch
  pub batches-more : (k : ℕ) → length files ≡ k * batch → 1 ≤ length more → length more ≤ batch → batches batch (files ++ more) ≡ batches batch files ++ more ∷ []
  batches-more k whole some few =
      let joined : length (files ++ more) ≡ k * batch + length more = length-append files more ∙ ap (λ n. n + length more) whole in
      let all : (length (files ++ more) + (batch - 1)) / batch ≡ suc k = piece_count (length (files ++ more)) batch (suc k) (omega (arith, some, few)) (omega (arith, joined, few, suc-mul k batch)) (omega (arith, joined, some, few, suc-mul k batch)) in
      let before : (length files + (batch - 1)) / batch ≡ k = piece_count (length files) batch k (omega (arith, some, few)) (omega (arith, whole)) (omega (arith, whole)) in
      let last : slice_chunk (files ++ more) batch k ≡ more =
      ap (λ n. take batch (drop n (files ++ more))) (sym whole) ∙ ap (take batch) (drop-append_seam files more) ∙ take_all batch more few in
      ap (λ n. map (slice_chunk (files ++ more) batch) (range_with_len 0 n)) all
      ∙ pieces_more (slice_chunk (files ++ more) batch) k
      ∙ ap (λ ps. ps ++ slice_chunk (files ++ more) batch k ∷ []) (same_pieces k (omega (arith, whole)))
      ∙ ap (λ p. map (slice_chunk files batch) (range_with_len 0 k) ++ p ∷ []) last
      ∙ ap (λ n. map (slice_chunk files batch) (range_with_len 0 n) ++ more ∷ []) (sym before)

  -- and make a segment
  pub segments-more : (k : ℕ) → length files ≡ k * batch → 1 ≤ length more → length more ≤ batch → segments_of batch (Files (files ++ more)) ≡ segments_of batch (Files files) ++ games_of_files more ∷ []
  segments-more k whole some few =
      ap (map games_of_files) (batches-more k whole some few) ∙ map-append games_of_files (batches batch files) (more ∷ [])

-- no files make no segment
pub segments_of-none : (batch : ℕ) → 1 ≤ batch → segments_of batch (Files []) ≡ []
segments_of-none batch some = ap (λ n. map games_of_files (map (slice_chunk [] batch) (range_with_len 0 n))) (piece_count 0 batch 0 some (omega arith) (omega arith))

-- whole batches are the first ones, whatever files are behind them
pub batches_first : (batch : ℕ) → 1 ≤ batch → (files more : List ImportFile) (k : ℕ) → length files ≡ k * batch → batches batch files ≡ take k (batches batch (files ++ more))
batches_first batch some files more k whole =
    let count : ℕ = (length (files ++ more) + (batch - 1)) / batch in
    let before : (length files + (batch - 1)) / batch ≡ k = piece_count (length files) batch k some (omega (arith, whole)) (omega (arith, whole)) in
    let within : k * batch ≤ length (files ++ more) + (batch - 1) = omega (arith, whole, length-append files more) in
    let positive : 0 < batch = omega (arith, some) in
    let all : k ≤ count = (le-div_iff_mul-le positive).1 within in
    ap (λ n. map (slice_chunk files batch) (range_with_len 0 n)) before
    ∙ sym (same_pieces batch files more k (omega (arith, whole)))
    ∙ sym (take-map-range_with_len (slice_chunk (files ++ more) batch) 0 count k all)

pub segments_first : (batch : ℕ) → 1 ≤ batch → (files more : List ImportFile) (k : ℕ) → length files ≡ k * batch → IsPrefix (segments_of batch (Files files)) (segments_of batch (Files (files ++ more)))
segments_first batch some files more k whole =
    let all = segments_of batch (Files (files ++ more)) in
    subst (λ ss. IsPrefix ss all) (sym (ap (map games_of_files) (batches_first batch some files more k whole) ∙ sym (take-map games_of_files k (batches batch (files ++ more))))) (drop k all, take-append-drop k all)

-- the games of segments, and of more segments
pub games_of_segments-append : (segments more : List Segment) → games_of_segments (segments ++ more) ≡ games_of_segments segments ++ games_of_segments more
games_of_segments-append segments more = flat_map-append (λ (s : Segment). s) segments more

pub games_of_segments-push : (segments : List Segment) (s : Segment) → games_of_segments (segments ++ s ∷ []) ≡ games_of_segments segments ++ s
games_of_segments-push segments s = games_of_segments-append segments (s ∷ []) ∙ ap (λ gs. games_of_segments segments ++ gs) (append-nil s)
