-- Whether words spell a statement can be told, and they spell one at most.
use Rattle.std.proofs.Common.{◌≡◌, ◌≢◌, ◌⊎◌, ◌≤◌, ◌∙◌, ℕ, All, List, [], ◌∷◌, codes, length, refl, sym, ap, subst, inl, inr, arith}
use Rattle.std.proofs.lemmas.Bool.{cases_eq, cases_lt}
use Rattle.std.proofs.lemmas.List.Elements.{All-cons, All-head, All-nil, All-tail}
use Rattle.std.specs.Str.{IsUtf8}
use Rattle.dyer_signature.specs.declared.bytes.SigPattern.{SigPattern}
use Rattle.dyer_signature.specs.Patterns.{IsSignaturePatternByte, star}
use Rattle.dyer_signature.specs.Signatures.{question_mark}
use Rattle.sgf_reader.specs.Bytes.{capital_a, capital_z, small_a, small_z}
use Rattle.sgf_reader.specs.Grammar.{IsLetter, IsUpper}
use Rattle.pattern_images.proofs.Tellings.{Told, told_both, told_le}
use Rattle.query_script.specs.declared.statement.Statement.{Statement}
use Rattle.query_script.specs.declared.statement.Statement.TheVariants as statement
use Rattle.query_script.specs.declared.word.Word.{Word}
use Rattle.query_script.specs.declared.word.Word.TheVariants as word
use Rattle.query_script.specs.Conditions.{IsFilteredBody, IsNamedBody}
use Rattle.query_script.specs.Reading.{BeginsOtherwise}
use Rattle.query_script.specs.Search.{IsKeptBody}
use Rattle.query_script.specs.Statements.{IsPath, IsSignaturePattern, IsStatement, AreMakeNumbers, greatest_start, most_games_made, most_number}
use Rattle.query_script.specs.Words.{IsNumber, bare, bytes_of}
use Rattle.query_script.proofs.LineStatements.{of_name}
use Rattle.query_script.proofs.Numbers.{IsNumber-once}
use Rattle.query_script.proofs.FilteredBodies.{told_filtered_body}
use Rattle.query_script.proofs.KeptBodies.{told_kept_body}
use Rattle.query_script.proofs.OpeningWords.{opening_once, told_opening}
use Rattle.query_script.proofs.NamedBodies.{told_named_body, told_utf8}
use Rattle.query_script.proofs.ToldSearches.{behind_name, same_bare, same_first, same_rest, told_name, told_up_to}

-- the statement that words spell, and no other
abbrev pub HasStatement : List Word → Type 0
HasStatement words = (s : Statement) × IsStatement words s × ((other : Statement) → IsStatement words other → other ≡ s)

abbrev pub NoStatement : List Word → Type 0
NoStatement words = (s : Statement) → IsStatement words s → ⊥

abbrev pub ToldStatement : List Word → Type 0
ToldStatement words = HasStatement words ⊎ NoStatement words

-- ---- what stands behind a name

-- one word, or not
told_single : (words : List Word) → ((w : Word) × (words ≡ w ∷ [])) ⊎ ((w : Word) → words ≢ w ∷ [])
told_single [] = inr (λ w e. absurd (cc e))
told_single (w ∷ []) = inl (w, refl)
told_single (w ∷ v ∷ rest) = inr (λ u e. absurd (cc e))

single_once : (words : List Word) (w v : Word) → words ≡ w ∷ [] → words ≡ v ∷ [] → w ≡ v
single_once words w v one other = same_first w v [] [] (sym one ∙ other)

-- one bare word, or not
told_single_bare : (words : List Word) → ((bytes : List ℕ) × (words ≡ bare bytes ∷ [])) ⊎ ((bytes : List ℕ) → words ≢ bare bytes ∷ [])
told_single_bare [] = inr (λ bytes e. absurd (cc e))
told_single_bare ((word.Bare bytes) ∷ []) = inl (bytes, refl)
told_single_bare ((word.Quoted bytes) ∷ []) = inr (λ other e. let first : word.Quoted bytes ≡ bare other = same_first (word.Quoted bytes) (bare other) [] [] e in absurd (cc first))
told_single_bare (w ∷ v ∷ rest) = inr (λ bytes e. absurd (cc e))

single_bare_once : (words : List Word) (a b : List ℕ) → words ≡ bare a ∷ [] → words ≡ bare b ∷ [] → a ≡ b
single_bare_once words a b one other = same_bare a b (single_once words (bare a) (bare b) one other)

told_path : (w : Word) → Told (IsPath w (bytes_of w))
told_path w = elim (cases_lt 0 (length (bytes_of w))) [
  | inr none ↦ inr (λ h. omega (arith, h.some))
  | inl some ↦ elim (told_utf8 (bytes_of w)) [
    | inr never ↦ inr (λ h. never h.utf8)
    | inl utf8 ↦ inl (record { bytes = refl; some = some; utf8 = utf8 })
  ]
]

told_either : (P Q : Type 0) → Told P → Told Q → Told (P ⊎ Q)
told_either P Q (inl p) told = inl (inl p)
told_either P Q (inr never) (inl q) = inl (inr q)
told_either P Q (inr never) (inr none) = inr (λ h. elim h [ inl p ↦ never p | inr q ↦ none q ])

told_between : (low high byte : ℕ) → Told ((low ≤ byte) × (byte ≤ high))
told_between low high byte = told_both (low ≤ byte) (byte ≤ high) (told_le low byte) (told_le byte high)

told_pattern_byte : (byte : ℕ) → Told (IsSignaturePatternByte byte)
told_pattern_byte byte =
    told_either (IsLetter byte) _ (told_either (IsUpper byte) _ (told_between capital_a capital_z byte) (told_between small_a small_z byte))
    (told_either (byte ≡ question_mark) _ (cases_eq byte question_mark) (cases_eq byte star))

told_pattern_bytes : (bytes : List ℕ) → Told (All IsSignaturePatternByte bytes)
told_pattern_bytes [] = inl (All-nil IsSignaturePatternByte)
told_pattern_bytes (byte ∷ bytes) = elim (told_pattern_byte byte) [
  | inr never ↦ inr (λ all. never (All-head IsSignaturePatternByte byte bytes all))
  | inl first ↦ elim (told_pattern_bytes bytes) [
    | inr never ↦ inr (λ all. never (All-tail IsSignaturePatternByte byte bytes all))
    | inl rest ↦ inl (All-cons IsSignaturePatternByte byte bytes first rest)
  ]
]

told_signature_pattern : (bytes : List ℕ) → Told (IsSignaturePattern bytes)
told_signature_pattern bytes = elim (cases_eq (length bytes) 12) [
  | inr other ↦ inr (λ h. other h.twelve)
  | inl twelve ↦ elim (told_pattern_bytes bytes) [
    | inr never ↦ inr (λ h. never h.kinds)
    | inl kinds ↦ inl (record { twelve = twelve; kinds = kinds })
  ]
]

-- what the words behind a name are, if a statement spells them so
behind_single : (name : List ℕ) (words rest : List Word) (w v : Word) → words ≡ bare name ∷ rest → rest ≡ w ∷ [] → words ≡ bare name ∷ v ∷ [] → v ≡ w
behind_single name words rest w v is single other =
    single_once rest v w (behind_name name words rest (v ∷ []) is other) single

-- ---- one kind after the other

import_there : (words rest : List Word) → words ≡ bare (codes "import") ∷ rest → ToldStatement words
import_there words rest name = elim (told_single rest) [
  | inr never ↦ inr (λ s is.
      let (path, same) = of_name words rest (codes "import") s name is in
      let (w, both, path_is) = subst (IsStatement words) same is in
      never w (behind_name (codes "import") words rest (w ∷ []) name both))
  | inl (w, single) ↦ elim (told_path w) [
    | inr never ↦ inr (λ s is.
        let (path, same) = of_name words rest (codes "import") s name is in
        let (v, both, path_is) = subst (IsStatement words) same is in
        let one : v ≡ w = behind_single (codes "import") words rest w v name single both in
        let bytes : path ≡ bytes_of w = sym path_is.bytes ∙ ap bytes_of one in
        never (subst (IsPath w) bytes (subst (λ u. IsPath u path) one path_is)))
    | inl path_is ↦ inl (
      statement.Import (bytes_of w),
      (w, name ∙ ap (λ l. bare (codes "import") ∷ l) single, path_is),
      λ s is.
          let (path, same) = of_name words rest (codes "import") s name is in
          let (v, both, is_path) = subst (IsStatement words) same is in
          let one : v ≡ w = behind_single (codes "import") words rest w v name single both in
          same ∙ ap (λ p. statement.Import p) (sym is_path.bytes ∙ ap bytes_of one),
    )
  ]
]

-- two words, or not
told_double : (words : List Word) → ((w : Word) × (v : Word) × (words ≡ w ∷ v ∷ [])) ⊎ ((w v : Word) → words ≢ w ∷ v ∷ [])
told_double [] = inr (λ w v e. absurd (cc e))
told_double (w ∷ []) = inr (λ a b e. let none : [] ≡ b ∷ [] = same_rest w a [] (b ∷ []) e in absurd (cc none))
told_double (w ∷ v ∷ []) = inl (w, v, refl)
told_double (w ∷ v ∷ u ∷ rest) = inr (λ a b e.
    let behind : v ∷ u ∷ rest ≡ b ∷ [] = same_rest w a (v ∷ u ∷ rest) (b ∷ []) e in
    let none : u ∷ rest ≡ [] = same_rest v b (u ∷ rest) [] behind in
    absurd (cc none))

-- a number of games to make
told_games : (w : Word) → ((n : ℕ) × IsNumber w n × (1 ≤ n) × (n ≤ most_games_made)) ⊎ ((n : ℕ) → IsNumber w n → 1 ≤ n → n ≤ most_games_made → ⊥)
told_games w = elim (told_up_to w most_games_made) [
  | inr never ↦ inr (λ n is some few. never n is few)
  | inl (n, is, few) ↦ elim (cases_lt 0 n) [
    | inr none ↦ inr (λ m is_m some _. omega (arith, IsNumber-once w n m is is_m))
    | inl some ↦ inl (n, is, some, few)
  ]
]

told_make_numbers : (w v : Word) → ((games : ℕ) × (start : ℕ) × AreMakeNumbers w v games start) ⊎ ((games start : ℕ) → AreMakeNumbers w v games start → ⊥)
told_make_numbers w v = elim (told_games w) [
  | inr never ↦ inr (λ games start h. never games h.games_are h.some h.few)
  | inl (games, games_are, some, few) ↦ elim (told_up_to v greatest_start) [
    | inr never ↦ inr (λ games start h. never start h.start_is h.bound)
    | inl (start, start_is, bound) ↦ inl (games, start, record { games_are = games_are; some = some; few = few; start_is = start_is; bound = bound })
  ]
]

-- what a statement that makes games is, where its two words are known
make_behind : (words rest : List Word) (w v : Word) (s : Statement) → words ≡ bare (codes "make") ∷ rest → rest ≡ w ∷ v ∷ [] → IsStatement words s →
    (games : ℕ) × (start : ℕ) × (s ≡ statement.Make games start) × AreMakeNumbers w v games start
make_behind words rest w v s name double is =
    let (games, start, same) = of_name words rest (codes "make") s name is in
    let (a, b, both, numbers) = subst (IsStatement words) same is in
    let tails : a ∷ b ∷ [] ≡ w ∷ v ∷ [] = sym (behind_name (codes "make") words rest (a ∷ b ∷ []) name both) ∙ double in
    let first : a ≡ w = same_first a w (b ∷ []) (v ∷ []) tails in
    let second : b ≡ v = same_first b v [] [] (same_rest a w (b ∷ []) (v ∷ []) tails) in
    (games, start, same, subst (λ u. AreMakeNumbers w u games start) second (subst (λ u. AreMakeNumbers u b games start) first numbers))

make_there : (words rest : List Word) → words ≡ bare (codes "make") ∷ rest → ToldStatement words
make_there words rest name = elim (told_double rest) [
  | inr never ↦ inr (λ s is.
      let (games, start, same) = of_name words rest (codes "make") s name is in
      let (w, v, both, numbers) = subst (IsStatement words) same is in
      never w v (behind_name (codes "make") words rest (w ∷ v ∷ []) name both))
  | inl (w, v, double) ↦ elim (told_make_numbers w v) [
    | inr never ↦ inr (λ s is.
        let (games, start, same, numbers) = make_behind words rest w v s name double is in
        never games start numbers)
    | inl (games, start, numbers) ↦ inl (
      statement.Make games start,
      (w, v, name ∙ ap (λ l. bare (codes "make") ∷ l) double, numbers),
      λ s is.
          let (other, other_start, same, here) = make_behind words rest w v s name double is in
          same ∙ ap (λ n. statement.Make n other_start) (IsNumber-once w other games here.games_are numbers.games_are)
          ∙ ap (λ n. statement.Make games n) (IsNumber-once v other_start start here.start_is numbers.start_is),
    )
  ]
]

-- a statement that is its name alone
name_there : (name : List ℕ) (s : Statement) (words rest : List Word) → words ≡ bare name ∷ rest → ((l : List Word) → l ≡ bare name ∷ [] → IsStatement l s) →
    ((l more : List Word) (t : Statement) → l ≡ bare name ∷ more → IsStatement l t → (t ≡ s) × (l ≡ bare name ∷ [])) → ToldStatement words
name_there name s words [] is spells alone = inl (s, spells words is, λ t told. (alone words [] t is told).0)
name_there name s words (w ∷ rest) is spells alone = inr (λ t told.
    let none : w ∷ rest ≡ [] = behind_name name words (w ∷ rest) [] is (alone words (w ∷ rest) t is told).1 in
    absurd (cc none))

wait_there : (words rest : List Word) → words ≡ bare (codes "wait") ∷ rest → ToldStatement words
wait_there words rest name = name_there (codes "wait") statement.Wait words rest name (λ l e. e)
    (λ l more t is told. let same = of_name l more (codes "wait") t is told in (same, subst (IsStatement l) same told))

players_there : (words rest : List Word) → words ≡ bare (codes "players") ∷ rest → ToldStatement words
players_there words rest name = name_there (codes "players") statement.Players words rest name (λ l e. e)
    (λ l more t is told. let same = of_name l more (codes "players") t is told in (same, subst (IsStatement l) same told))

doubles_there : (words rest : List Word) → words ≡ bare (codes "doubles") ∷ rest → ToldStatement words
doubles_there words rest name = name_there (codes "doubles") statement.Doubles words rest name (λ l e. e)
    (λ l more t is told. let same = of_name l more (codes "doubles") t is told in (same, subst (IsStatement l) same told))

report_there : (words rest : List Word) → words ≡ bare (codes "report") ∷ rest → ToldStatement words
report_there words rest name = name_there (codes "report") statement.Report words rest name (λ l e. e)
    (λ l more t is told. let same = of_name l more (codes "report") t is told in (same, subst (IsStatement l) same told))

search_there : (words rest : List Word) → words ≡ bare (codes "search") ∷ rest → ToldStatement words
search_there words rest name = elim (told_filtered_body rest) [
  | inr never ↦ inr (λ s is.
      let (query, filter, same) = of_name words rest (codes "search") s name is in
      let (body, both, spelled) = subst (IsStatement words) same is in
      never query filter (subst (λ l. IsFilteredBody l query filter) (sym (behind_name (codes "search") words rest body name both)) spelled))
  | inl (query, filter, spelled, only) ↦ inl (
    statement.Search query filter,
    (rest, name, spelled),
    λ s is.
        let (other, other_filter, same) = of_name words rest (codes "search") s name is in
        let (body, both, spelled_too) = subst (IsStatement words) same is in
        let here : IsFilteredBody rest other other_filter = subst (λ l. IsFilteredBody l other other_filter) (sym (behind_name (codes "search") words rest body name both)) spelled_too in
        let (queries, filters) = only other other_filter here in
        same ∙ ap (λ q. statement.Search q other_filter) queries ∙ ap (λ f. statement.Search query f) filters,
  )
]

kept_there : (words rest : List Word) → words ≡ bare (codes "kept") ∷ rest → ToldStatement words
kept_there words rest name = elim (told_kept_body rest) [
  | inr never ↦ inr (λ s is.
      let (query, same) = of_name words rest (codes "kept") s name is in
      let (body, both, spelled) = subst (IsStatement words) same is in
      never query (subst (λ l. IsKeptBody l query) (sym (behind_name (codes "kept") words rest body name both)) spelled))
  | inl (query, spelled, only) ↦ inl (
    statement.Kept query,
    (rest, name, spelled),
    λ s is.
        let (other, same) = of_name words rest (codes "kept") s name is in
        let (body, both, spelled_too) = subst (IsStatement words) same is in
        let here : IsKeptBody rest other = subst (λ l. IsKeptBody l other) (sym (behind_name (codes "kept") words rest body name both)) spelled_too in
        same ∙ ap (λ q. statement.Kept q) (only other here),
  )
]

-- the pattern of a question for signatures
pattern_behind : (words rest : List Word) (pattern : SigPattern) → words ≡ bare (codes "signature") ∷ rest → words ≡ bare (codes "signature") ∷ bare pattern.bytes ∷ [] → rest ≡ bare pattern.bytes ∷ []
pattern_behind words rest pattern name both = behind_name (codes "signature") words rest (bare pattern.bytes ∷ []) name both

same_pattern : (p q : SigPattern) → p.bytes ≡ q.bytes → p ≡ q
same_pattern p q bytes = ap (λ l. record { bytes = l }) bytes

signature_there : (words rest : List Word) → words ≡ bare (codes "signature") ∷ rest → ToldStatement words
signature_there words rest name = elim (told_single_bare rest) [
  | inr never ↦ inr (λ s is.
      let (pattern, same) = of_name words rest (codes "signature") s name is in
      let (both, pattern_is) = subst (IsStatement words) same is in
      never pattern.bytes (pattern_behind words rest pattern name both))
  | inl (bytes, single) ↦ elim (told_signature_pattern bytes) [
    | inr never ↦ inr (λ s is.
        let (pattern, same) = of_name words rest (codes "signature") s name is in
        let (both, pattern_is) = subst (IsStatement words) same is in
        never (subst IsSignaturePattern (single_bare_once rest pattern.bytes bytes (pattern_behind words rest pattern name both) single) pattern_is))
    | inl pattern_is ↦ inl (
      statement.Signature (record { bytes = bytes }),
      (name ∙ ap (λ l. bare (codes "signature") ∷ l) single, pattern_is),
      λ s is.
          let (pattern, same) = of_name words rest (codes "signature") s name is in
          let (both, _) = subst (IsStatement words) same is in
          same ∙ ap (λ p. statement.Signature p) (same_pattern pattern (record { bytes = bytes }) (single_bare_once rest pattern.bytes bytes (pattern_behind words rest pattern name both) single)),
    )
  ]
]

-- the name of a collector that is retired
name_behind : (words rest : List Word) (name : List ℕ) → words ≡ bare (codes "retire") ∷ rest → words ≡ bare (codes "retire") ∷ bare name ∷ [] → rest ≡ bare name ∷ []
name_behind words rest name begins both = behind_name (codes "retire") words rest (bare name ∷ []) begins both

retire_there : (words rest : List Word) → words ≡ bare (codes "retire") ∷ rest → ToldStatement words
retire_there words rest begins = elim (told_single_bare rest) [
  | inr never ↦ inr (λ s is.
      let (name, same) = of_name words rest (codes "retire") s begins is in
      let (both, utf8) = subst (IsStatement words) same is in
      never name (name_behind words rest name begins both))
  | inl (bytes, single) ↦ elim (told_utf8 bytes) [
    | inr never ↦ inr (λ s is.
        let (name, same) = of_name words rest (codes "retire") s begins is in
        let (both, utf8) = subst (IsStatement words) same is in
        never (subst IsUtf8 (single_bare_once rest name bytes (name_behind words rest name begins both) single) utf8))
    | inl utf8 ↦ inl (
      statement.Retire bytes,
      (begins ∙ ap (λ l. bare (codes "retire") ∷ l) single, utf8),
      λ s is.
          let (name, same) = of_name words rest (codes "retire") s begins is in
          let (both, _) = subst (IsStatement words) same is in
          same ∙ ap (λ n. statement.Retire n) (single_bare_once rest name bytes (name_behind words rest name begins both) single),
    )
  ]
]

watch_there : (words rest : List Word) → words ≡ bare (codes "watch") ∷ rest → ToldStatement words
watch_there words rest begins = elim (told_named_body rest) [
  | inr never ↦ inr (λ s is.
      let (name, query, filter, same) = of_name words rest (codes "watch") s begins is in
      let (body, both, spelled) = subst (IsStatement words) same is in
      never name query filter (subst (λ l. IsNamedBody l name query filter) (sym (behind_name (codes "watch") words rest body begins both)) spelled))
  | inl (name, query, filter, spelled, only) ↦ inl (
    statement.Watch name query filter,
    (rest, begins, spelled),
    λ s is.
        let (other, another, others, same) = of_name words rest (codes "watch") s begins is in
        let (body, both, spelled_too) = subst (IsStatement words) same is in
        let here : IsNamedBody rest other another others = subst (λ l. IsNamedBody l other another others) (sym (behind_name (codes "watch") words rest body begins both)) spelled_too in
        let (names, queries, filters) = only other another others here in
        same ∙ ap (λ n. statement.Watch n another others) names ∙ ap (λ q. statement.Watch name q others) queries ∙ ap (λ f. statement.Watch name query f) filters,
  )
]

watched_there : (words rest : List Word) → words ≡ bare (codes "watched") ∷ rest → ToldStatement words
watched_there words rest begins = elim (told_single_bare rest) [
  | inr never ↦ inr (λ s is.
      let (name, same) = of_name words rest (codes "watched") s begins is in
      let (both, utf8) = subst (IsStatement words) same is in
      never name (behind_name (codes "watched") words rest (bare name ∷ []) begins both))
  | inl (bytes, single) ↦ elim (told_utf8 bytes) [
    | inr never ↦ inr (λ s is.
        let (name, same) = of_name words rest (codes "watched") s begins is in
        let (both, utf8) = subst (IsStatement words) same is in
        never (subst IsUtf8 (single_bare_once rest name bytes (behind_name (codes "watched") words rest (bare name ∷ []) begins both) single) utf8))
    | inl utf8 ↦ inl (
      statement.Watched bytes,
      (begins ∙ ap (λ l. bare (codes "watched") ∷ l) single, utf8),
      λ s is.
          let (name, same) = of_name words rest (codes "watched") s begins is in
          let (both, _) = subst (IsStatement words) same is in
          same ∙ ap (λ n. statement.Watched n) (single_bare_once rest name bytes (behind_name (codes "watched") words rest (bare name ∷ []) begins both) single),
    )
  ]
]

until_there : (words rest : List Word) → words ≡ bare (codes "until") ∷ rest → ToldStatement words
until_there words rest name = elim (told_single rest) [
  | inr never ↦ inr (λ s is.
      let (number, same) = of_name words rest (codes "until") s name is in
      let (w, both, number_is, bound) = subst (IsStatement words) same is in
      never w (behind_name (codes "until") words rest (w ∷ []) name both))
  | inl (w, single) ↦ elim (told_up_to w most_number) [
    | inr never ↦ inr (λ s is.
        let (number, same) = of_name words rest (codes "until") s name is in
        let (v, both, number_is, bound) = subst (IsStatement words) same is in
        let one : v ≡ w = behind_single (codes "until") words rest w v name single both in
        never number (subst (λ u. IsNumber u number) one number_is) bound)
    | inl (number, number_is, bound) ↦ inl (
      statement.Until number,
      (w, name ∙ ap (λ l. bare (codes "until") ∷ l) single, number_is, bound),
      λ s is.
          let (other, same) = of_name words rest (codes "until") s name is in
          let (v, both, other_is, _) = subst (IsStatement words) same is in
          let one : v ≡ w = behind_single (codes "until") words rest w v name single both in
          same ∙ ap (λ n. statement.Until n) (IsNumber-once w other number (subst (λ u. IsNumber u other) one other_is) number_is),
    )
  ]
]

game_there : (words rest : List Word) → words ≡ bare (codes "game") ∷ rest → ToldStatement words
game_there words rest name = elim (told_single rest) [
  | inr never ↦ inr (λ s is.
      let (number, same) = of_name words rest (codes "game") s name is in
      let (w, both, number_is, bound) = subst (IsStatement words) same is in
      never w (behind_name (codes "game") words rest (w ∷ []) name both))
  | inl (w, single) ↦ elim (told_up_to w most_number) [
    | inr never ↦ inr (λ s is.
        let (number, same) = of_name words rest (codes "game") s name is in
        let (v, both, number_is, bound) = subst (IsStatement words) same is in
        let one : v ≡ w = behind_single (codes "game") words rest w v name single both in
        never number (subst (λ u. IsNumber u number) one number_is) bound)
    | inl (number, number_is, bound) ↦ inl (
      statement.Game number,
      (w, name ∙ ap (λ l. bare (codes "game") ∷ l) single, number_is, bound),
      λ s is.
          let (other, same) = of_name words rest (codes "game") s name is in
          let (v, both, other_is, _) = subst (IsStatement words) same is in
          let one : v ≡ w = behind_single (codes "game") words rest w v name single both in
          same ∙ ap (λ n. statement.Game n) (IsNumber-once w other number (subst (λ u. IsNumber u other) one other_is) number_is),
    )
  ]
]

opening_there : (words rest : List Word) → words ≡ bare (codes "opening") ∷ rest → ToldStatement words
opening_there words rest name = elim (told_opening rest) [
  | inr never ↦ inr (λ s is.
      let (shape, depth, least, same) = of_name words rest (codes "opening") s name is in
      let (c, r, d, m, both, numbers) = subst (IsStatement words) same is in
      never shape depth least (c, r, d, m, behind_name (codes "opening") words rest (c ∷ r ∷ d ∷ m ∷ []) name both, numbers))
  | inl (shape, depth, least, there) ↦
      let (c, r, d, m, four, numbers) = there in
      inl (
        statement.Opening shape depth least,
        (c, r, d, m, name ∙ ap (λ l. bare (codes "opening") ∷ l) four, numbers),
        λ s is.
            let (other, deep, few, same) = of_name words rest (codes "opening") s name is in
            let (a, b, e, f, both, numbers_too) = subst (IsStatement words) same is in
            let (shapes, depths, leasts) = opening_once rest shape other depth deep least few there (a, b, e, f, behind_name (codes "opening") words rest (a ∷ b ∷ e ∷ f ∷ []) name both, numbers_too) in
            same ∙ ap (λ t. statement.Opening t deep few) shapes ∙ ap (λ t. statement.Opening shape t few) depths ∙ ap (λ t. statement.Opening shape depth t) leasts,
      )
]

-- words without such a name spell nothing
none_there : (words : List Word) → BeginsOtherwise (codes "import") words → BeginsOtherwise (codes "make") words → BeginsOtherwise (codes "wait") words →
    BeginsOtherwise (codes "until") words → BeginsOtherwise (codes "search") words → BeginsOtherwise (codes "kept") words → BeginsOtherwise (codes "signature") words →
    BeginsOtherwise (codes "players") words → BeginsOtherwise (codes "doubles") words → BeginsOtherwise (codes "game") words → BeginsOtherwise (codes "opening") words →
    BeginsOtherwise (codes "report") words → BeginsOtherwise (codes "retire") words → BeginsOtherwise (codes "watch") words → BeginsOtherwise (codes "watched") words → NoStatement words
none_there words import_ make wait until searched kept signature players doubles game opening report retire watch watched (statement.Import path) (w, is, _) = import_ (w ∷ []) is
none_there words import_ make wait until searched kept signature players doubles game opening report retire watch watched (statement.Make games start) (w, v, is, _) = make (w ∷ v ∷ []) is
none_there words import_ make wait until searched kept signature players doubles game opening report retire watch watched statement.Wait is = wait [] is
none_there words import_ make wait until searched kept signature players doubles game opening report retire watch watched (statement.Until number) (w, is, _, _) = until (w ∷ []) is
none_there words import_ make wait until searched kept signature players doubles game opening report retire watch watched (statement.Search query filter) (body, is, _) = searched body is
none_there words import_ make wait until searched kept signature players doubles game opening report retire watch watched (statement.Kept query) (body, is, _) = kept body is
none_there words import_ make wait until searched kept signature players doubles game opening report retire watch watched (statement.Signature pattern) (is, _) = signature (bare pattern.bytes ∷ []) is
none_there words import_ make wait until searched kept signature players doubles game opening report retire watch watched statement.Players is = players [] is
none_there words import_ make wait until searched kept signature players doubles game opening report retire watch watched statement.Doubles is = doubles [] is
none_there words import_ make wait until searched kept signature players doubles game opening report retire watch watched (statement.Game number) (w, is, _, _) = game (w ∷ []) is
none_there words import_ make wait until searched kept signature players doubles game opening report retire watch watched (statement.Together searches) is = is
none_there words import_ make wait until searched kept signature players doubles game opening report retire watch watched (statement.Opening shape depth least) (c, r, d, m, is, _) = opening (c ∷ r ∷ d ∷ m ∷ []) is
none_there words import_ make wait until searched kept signature players doubles game opening report retire watch watched statement.Report is = report [] is
none_there words import_ make wait until searched kept signature players doubles game opening report retire watch watched (statement.Retire name) (is, _) = retire (bare name ∷ []) is
none_there words import_ make wait until searched kept signature players doubles game opening report retire watch watched (statement.Watch name query filter) (body, is, _) = watch body is
none_there words import_ make wait until searched kept signature players doubles game opening report retire watch watched (statement.Watched name) (is, _) = watched (bare name ∷ []) is

-- of words that begin with the name of none of the first seven kinds it can be told
told_later : (words : List Word) → BeginsOtherwise (codes "import") words → BeginsOtherwise (codes "make") words → BeginsOtherwise (codes "wait") words →
    BeginsOtherwise (codes "until") words → BeginsOtherwise (codes "search") words → BeginsOtherwise (codes "kept") words → BeginsOtherwise (codes "signature") words →
    ToldStatement words
told_later words import_ make wait until searched kept signature = elim (told_name (codes "players") words) [
  | inl (rest, is) ↦ players_there words rest is
  | inr players ↦ elim (told_name (codes "doubles") words) [
    | inl (rest, is) ↦ doubles_there words rest is
    | inr doubles ↦ elim (told_name (codes "game") words) [
      | inl (rest, is) ↦ game_there words rest is
      | inr game ↦ elim (told_name (codes "opening") words) [
        | inl (rest, is) ↦ opening_there words rest is
        | inr opening ↦ elim (told_name (codes "report") words) [
          | inl (rest, is) ↦ report_there words rest is
          | inr report ↦ elim (told_name (codes "retire") words) [
            | inl (rest, is) ↦ retire_there words rest is
            | inr retire ↦ elim (told_name (codes "watch") words) [
              | inl (rest, is) ↦ watch_there words rest is
              | inr watch ↦ elim (told_name (codes "watched") words) [
                | inl (rest, is) ↦ watched_there words rest is
                | inr watched ↦ inr (none_there words import_ make wait until searched kept signature players doubles game opening report retire watch watched)
              ]
            ]
          ]
        ]
      ]
    ]
  ]
]

pub told_statement : (words : List Word) → ToldStatement words
told_statement words = elim (told_name (codes "import") words) [
  | inl (rest, is) ↦ import_there words rest is
  | inr import_ ↦ elim (told_name (codes "make") words) [
    | inl (rest, is) ↦ make_there words rest is
    | inr make ↦ elim (told_name (codes "wait") words) [
      | inl (rest, is) ↦ wait_there words rest is
      | inr wait ↦ elim (told_name (codes "until") words) [
        | inl (rest, is) ↦ until_there words rest is
        | inr until ↦ elim (told_name (codes "search") words) [
          | inl (rest, is) ↦ search_there words rest is
          | inr searched ↦ elim (told_name (codes "kept") words) [
            | inl (rest, is) ↦ kept_there words rest is
            | inr kept ↦ elim (told_name (codes "signature") words) [
              | inl (rest, is) ↦ signature_there words rest is
              | inr signature ↦ told_later words import_ make wait until searched kept signature
            ]
          ]
        ]
      ]
    ]
  ]
]

-- words spell one statement at most
pub statement_once : (words : List Word) (s t : Statement) → IsStatement words s → IsStatement words t → s ≡ t
statement_once words s t one other = elim (told_statement words) [
  | inl (u, is, only) ↦ only s one ∙ sym (only t other)
  | inr never ↦ absurd (never s one)
]
