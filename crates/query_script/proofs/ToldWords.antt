-- Whether a line is made of words can be told: word by word, behind the blanks before each.
use Rattle.std.proofs.Common.{◌≡◌, ◌≢◌, ◌⊎◌, ◌<◌, ◌≤◌, ◌++◌, ◌∙◌, ℕ, zero, suc, List, [], ◌∷◌, All, length, refl, sym, ap, subst, inl, inr, arith, append_assoc}
use Rattle.std.proofs.lemmas.Bool.{cases_eq}
use Rattle.std.proofs.lemmas.List.{length-append}
use Rattle.std.proofs.lemmas.List.Elements.{All-cons, All-nil}
use Rattle.pattern_images.proofs.Tellings.{Told}
use Rattle.query_script.specs.Bytes.{backslash, quote, space, tab}
use Rattle.query_script.specs.declared.word.Word.{Word}
use Rattle.query_script.specs.declared.word.Word.TheVariants as word
use Rattle.query_script.specs.Reading.{AreWordsTo, BeginsWithNoBareByte, BeginsWithNoBlank, BeginsWithWord}
use Rattle.query_script.specs.Words.{AreWords, IsBareByte, IsBlank, IsWordEnd, escaped, escaped_byte}
use Rattle.query_script.proofs.LineWords.{AreWordsTo-end, AreWordsTo-more, AreWordsTo-start, IsBehindBlanks, bare_no_end, bare_there, quoted_no_end, quoted_not, quoted_there}
use Rattle.query_script.proofs.Quoted.{escaped_byte-cases}

-- ---- blanks

told_blank : (c : ℕ) → Told (IsBlank c)
told_blank c = elim (cases_eq c space) [
  | inl is ↦ inl (inl is)
  | inr no_space ↦ elim (cases_eq c tab) [
    | inl is ↦ inl (inr is)
    | inr no_tab ↦ inr (λ blank. elim blank [ inl is ↦ no_space is | inr is ↦ no_tab is ])
  ]
]

-- a text has something behind its blanks
pub behind_blanks : (text : List ℕ) → (rest : List ℕ) × IsBehindBlanks text rest × BeginsWithNoBlank rest
behind_blanks [] = ([], ([], refl, All-nil IsBlank), λ byte rest e. absurd (cc e))
behind_blanks (b ∷ text) = elim (told_blank b) [
  | inl blank ↦
      let (rest, (blanks, is, are), first) = behind_blanks text in
      (rest, (b ∷ blanks, ap (λ l. b ∷ l) is, All-cons IsBlank b blanks blank are), first)
  | inr other ↦ (
    b ∷ text,
    ([], refl, All-nil IsBlank),
    λ byte rest e blank. let same : b ≡ byte = cc in other (subst IsBlank (sym same) blank),
  )
]

told_end : (text : List ℕ) → Told (IsWordEnd text)
told_end [] = inl tt
told_end (c ∷ text) = told_blank c

-- ---- quoted words

-- how a text of escaped bytes and a quote begins
data QuotedStep (text behind : List ℕ) : Type 0 where
  at_quote : text ≡ quote ∷ behind → QuotedStep text behind
  at_special : (b : ℕ) (bs : List ℕ) → text ≡ backslash ∷ b ∷ (escaped bs ++ quote ∷ behind) →
      (b ≡ quote) ⊎ (b ≡ backslash) → QuotedStep text behind
  at_plain : (b : ℕ) (bs : List ℕ) → text ≡ b ∷ (escaped bs ++ quote ∷ behind) →
      b ≢ quote → b ≢ backslash → QuotedStep text behind

escaped-more : (b : ℕ) (bs rest : List ℕ) → escaped (b ∷ bs) ++ rest ≡ escaped_byte b ++ (escaped bs ++ rest)
escaped-more b bs rest = append_assoc (escaped_byte b) (escaped bs) rest

quoted_step : (text bytes behind : List ℕ) → text ≡ escaped bytes ++ quote ∷ behind → QuotedStep text behind
quoted_step text [] behind is = at_quote is
quoted_step text (b ∷ bs) behind is = elim (escaped_byte-cases b) [
  | inl (shown, special) ↦ at_special b bs
      (is ∙ escaped-more b bs (quote ∷ behind) ∙ ap (λ l. l ++ (escaped bs ++ quote ∷ behind)) shown) special
  | inr (shown, no_quote, no_backslash) ↦ at_plain b bs
      (is ∙ escaped-more b bs (quote ∷ behind) ∙ ap (λ l. l ++ (escaped bs ++ quote ∷ behind)) shown) no_quote no_backslash
]

-- what two lists begin with
first_of : (a b : ℕ) (x y : List ℕ) → a ∷ x ≡ b ∷ y → a ≡ b
first_of a b x y e = cc

rest_of : (a b : ℕ) (x y : List ℕ) → a ∷ x ≡ b ∷ y → x ≡ y
rest_of a b x y e = cc

-- bytes between quotes, and the quote behind them
abbrev IsQuoted : List ℕ → Type 0
IsQuoted inner = (bytes : List ℕ) × (behind : List ℕ) × (inner ≡ escaped bytes ++ quote ∷ behind)

abbrev IsNotQuoted : List ℕ → Type 0
IsNotQuoted inner = (bytes behind : List ℕ) → inner ≢ escaped bytes ++ quote ∷ behind

-- one byte more before what is quoted
more_special : (d : ℕ) (rest : List ℕ) → (d ≡ quote) ⊎ (d ≡ backslash) → IsQuoted rest → IsQuoted (backslash ∷ d ∷ rest)
more_special d rest special (bytes, behind, is) = elim (escaped_byte-cases d) [
  | inl (shown, _) ↦ (
    d ∷ bytes,
    behind,
    ap (λ l. backslash ∷ d ∷ l) is ∙ sym (escaped-more d bytes (quote ∷ behind) ∙ ap (λ l. l ++ (escaped bytes ++ quote ∷ behind)) shown),
  )
  | inr (shown, no_quote, no_backslash) ↦ elim special [ inl e ↦ absurd (no_quote e) | inr e ↦ absurd (no_backslash e) ]
]

more_plain : (c : ℕ) (rest : List ℕ) → c ≢ quote → c ≢ backslash → IsQuoted rest → IsQuoted (c ∷ rest)
more_plain c rest no_quote no_backslash (bytes, behind, is) = elim (escaped_byte-cases c) [
  | inl (shown, special) ↦ elim special [ inl e ↦ absurd (no_quote e) | inr e ↦ absurd (no_backslash e) ]
  | inr (shown, _, _) ↦ (
    c ∷ bytes,
    behind,
    ap (λ l. c ∷ l) is ∙ sym (escaped-more c bytes (quote ∷ behind) ∙ ap (λ l. l ++ (escaped bytes ++ quote ∷ behind)) shown),
  )
]

-- and no more where there was none
none_special : (d : ℕ) (rest : List ℕ) → IsNotQuoted rest → IsNotQuoted (backslash ∷ d ∷ rest)
none_special d rest none bytes behind is = elim (quoted_step (backslash ∷ d ∷ rest) bytes behind is) [
  | at_quote e ↦ (let differ : backslash ≡ quote = first_of backslash quote (d ∷ rest) behind e in omega (arith, differ))
  | at_special b bs e special ↦
      none bs behind (rest_of d b rest (escaped bs ++ quote ∷ behind) (rest_of backslash backslash (d ∷ rest) (b ∷ (escaped bs ++ quote ∷ behind)) e))
  | at_plain b bs e no_quote no_backslash ↦
      no_backslash (sym (first_of backslash b (d ∷ rest) (escaped bs ++ quote ∷ behind) e))
]

none_plain : (c : ℕ) (rest : List ℕ) → c ≢ quote → c ≢ backslash → IsNotQuoted rest → IsNotQuoted (c ∷ rest)
none_plain c rest no_quote no_backslash none bytes behind is = elim (quoted_step (c ∷ rest) bytes behind is) [
  | at_quote e ↦ no_quote (first_of c quote rest behind e)
  | at_special b bs e special ↦ no_backslash (first_of c backslash rest (b ∷ (escaped bs ++ quote ∷ behind)) e)
  | at_plain b bs e _ _ ↦ none bs behind (rest_of c b rest (escaped bs ++ quote ∷ behind) e)
]

none_empty : IsNotQuoted []
none_empty bytes behind is = elim (quoted_step [] bytes behind is) [
  | at_quote e ↦ absurd (cc e)
  | at_special b bs e special ↦ absurd (cc e)
  | at_plain b bs e _ _ ↦ absurd (cc e)
]

-- a backslash stands before a quote or a backslash only
none_lonely : (rest : List ℕ) → ((d : ℕ) (more : List ℕ) → rest ≡ d ∷ more → (d ≢ quote) × (d ≢ backslash)) →
    IsNotQuoted (backslash ∷ rest)
none_lonely rest other bytes behind is = elim (quoted_step (backslash ∷ rest) bytes behind is) [
  | at_quote e ↦ (let differ : backslash ≡ quote = first_of backslash quote rest behind e in omega (arith, differ))
  | at_special b bs e special ↦
      (let apart = other b (escaped bs ++ quote ∷ behind) (rest_of backslash backslash rest (b ∷ (escaped bs ++ quote ∷ behind)) e) in
      elim special [ inl is_quote ↦ apart.0 is_quote | inr is_backslash ↦ apart.1 is_backslash ])
  | at_plain b bs e no_quote no_backslash ↦ no_backslash (sym (first_of backslash b rest (escaped bs ++ quote ∷ behind) e))
]

abbrev ToldQuoted : List ℕ → Type 0
ToldQuoted inner = IsQuoted inner ⊎ IsNotQuoted inner

-- behind a backslash
told_special : (rest : List ℕ) → ((d : ℕ) (more : List ℕ) → rest ≡ d ∷ more → ToldQuoted more) → ToldQuoted (backslash ∷ rest)
told_special [] told = inr (none_lonely [] (λ d more e. absurd (cc e)))
told_special (d ∷ more) told = elim (cases_eq d quote) [
  | inl is_quote ↦ elim (told d more refl) [
    | inl quoted ↦ inl (more_special d more (inl is_quote) quoted)
    | inr none ↦ inr (none_special d more none)
  ]
  | inr no_quote ↦ elim (cases_eq d backslash) [
    | inl is_backslash ↦ elim (told d more refl) [
      | inl quoted ↦ inl (more_special d more (inr is_backslash) quoted)
      | inr none ↦ inr (none_special d more none)
    ]
    | inr no_backslash ↦ inr (none_lonely (d ∷ more) (λ e others is.
        let same : d ≡ e = first_of d e more others is in
        (λ q. no_quote (same ∙ q), λ b. no_backslash (same ∙ b))))
  ]
]

told_quoted_within : (most : ℕ) (inner : List ℕ) → length inner ≤ most → ToldQuoted inner
told_quoted_within most [] le = inr none_empty
told_quoted_within zero (c ∷ rest) le = absurd (omega arith)
told_quoted_within (suc most) (c ∷ rest) le = elim (cases_eq c quote) [
  | inl is_quote ↦ inl ([], rest, ap (λ b. b ∷ rest) is_quote)
  | inr no_quote ↦ elim (cases_eq c backslash) [
    | inl is_backslash ↦
        subst (λ b. ToldQuoted (b ∷ rest)) (sym is_backslash)
        (told_special rest (λ d more e. told_quoted_within most more (omega (arith, ap length e))))
    | inr no_backslash ↦ elim (told_quoted_within most rest (omega arith)) [
      | inl quoted ↦ inl (more_plain c rest no_quote no_backslash quoted)
      | inr none ↦ inr (none_plain c rest no_quote no_backslash none)
    ]
  ]
]

-- ---- bare words

told_bare_byte : (c : ℕ) → Told (IsBareByte c)
told_bare_byte c = elim (cases_eq c space) [
  | inl is ↦ inr (λ h. h.0 is)
  | inr no_space ↦ elim (cases_eq c tab) [
    | inl is ↦ inr (λ h. h.1 is)
    | inr no_tab ↦ elim (cases_eq c quote) [
      | inl is ↦ inr (λ h. h.2 is)
      | inr no_quote ↦ inl (no_space, no_tab, no_quote)
    ]
  ]
]

-- the bytes of a bare word before a text, and what stands behind them
bare_part : (text : List ℕ) → (bytes : List ℕ) × (behind : List ℕ) × (text ≡ bytes ++ behind) × All IsBareByte bytes × BeginsWithNoBareByte behind
bare_part [] = ([], [], refl, All-nil IsBareByte, λ byte rest e. absurd (cc e))
bare_part (c ∷ text) = elim (told_bare_byte c) [
  | inl is ↦
      let (bytes, behind, split, all, ends) = bare_part text in
      (c ∷ bytes, behind, ap (λ l. c ∷ l) split, All-cons IsBareByte c bytes is all, ends)
  | inr other ↦ (
    [],
    c ∷ text,
    refl,
    All-nil IsBareByte,
    λ byte rest e is. other (subst IsBareByte (sym (first_of c byte text rest e)) is),
  )
]

-- ---- the first word of a text

-- the text begins with a word
pub record HasFirst (text : List ℕ) : Type 0 where
  pub first : Word
  pub behind : List ℕ
  pub begins : BeginsWithWord text first behind
  pub shorter : length behind < length text

abbrev HasNoWords : List ℕ → Type 0
HasNoWords text = (words : List Word) → AreWords text words → ⊥

told_quoted_word : (inner : List ℕ) → HasFirst (quote ∷ inner) ⊎ HasNoWords (quote ∷ inner)
told_quoted_word inner = elim (told_quoted_within (length inner) inner (omega arith)) [
  | inr none ↦ inr (quoted_not inner none)
  | inl (bytes, behind, is) ↦ elim (told_end behind) [
    | inr no_end ↦ inr (quoted_no_end inner bytes behind is no_end)
    | inl end ↦ inl (record {
      first = word.Quoted bytes;
      behind = behind;
      begins = quoted_there inner bytes behind is end;
      shorter = omega (arith, ap length is, length-append (escaped bytes) (quote ∷ behind));
    })
  ]
]

told_bare_word : (c : ℕ) (text : List ℕ) → BeginsWithNoBlank (c ∷ text) → c ≢ quote → HasFirst (c ∷ text) ⊎ HasNoWords (c ∷ text)
told_bare_word c text first no_quote =
    let is_bare : IsBareByte c = (λ e. first c text refl (inl e), λ e. first c text refl (inr e), no_quote) in
    let (bytes, behind, split, all, ends) = bare_part text in
    let whole : c ∷ text ≡ (c ∷ bytes) ++ behind = ap (λ l. c ∷ l) split in
    let not_quoted : (rest : List ℕ) → c ∷ text ≢ quote ∷ rest = λ rest e. no_quote (first_of c quote text rest e) in
    let all_bare : All IsBareByte (c ∷ bytes) = All-cons IsBareByte c bytes is_bare all in
    elim (told_end behind) [
      | inr no_end ↦ inr (bare_no_end (c ∷ text) (c ∷ bytes) behind (omega arith) first not_quoted whole all_bare ends no_end)
      | inl end ↦ inl (record {
        first = word.Bare (c ∷ bytes);
        behind = behind;
        begins = bare_there (c ∷ text) (c ∷ bytes) behind (omega arith) first not_quoted whole all_bare ends end;
        shorter = omega (arith, ap length split, length-append bytes behind);
      })
    ]

told_first : (c : ℕ) (text : List ℕ) → BeginsWithNoBlank (c ∷ text) → HasFirst (c ∷ text) ⊎ HasNoWords (c ∷ text)
told_first c text first = elim (cases_eq c quote) [
  | inl is_quote ↦ subst (λ b. HasFirst (b ∷ text) ⊎ HasNoWords (b ∷ text)) (sym is_quote) (told_quoted_word text)
  | inr no_quote ↦ told_bare_word c text first no_quote
]

-- ---- all words

abbrev pub ToldWords : List ℕ → Type 0
ToldWords line = ((words : List Word) × AreWords line words) ⊎ ((words : List Word) → AreWords line words → ⊥)

told_words_from : (most : ℕ) (line rest : List ℕ) (words : List Word) → length rest ≤ most → AreWordsTo line words rest → BeginsWithNoBlank rest → ToldWords line
told_words_from most line [] words le read starts = inl (words, AreWordsTo-end line [] words read refl)
told_words_from zero line (c ∷ text) words le read starts = absurd (omega arith)
told_words_from (suc most) line (c ∷ text) words le read starts = elim (told_first c text starts) [
  | inr none ↦ inr (λ all are. let (others, is, are_others) = read.only all are in none others are_others)
  | inl has ↦
      let (next, (blanks, split, are_blanks), next_starts) = behind_blanks has.behind in
      told_words_from most line next (words ++ has.first ∷ [])
      (omega (arith, has.shorter, ap length split, length-append blanks next))
      (AreWordsTo-more line (c ∷ text) has.behind next words has.first read has.begins (blanks, split, are_blanks) next_starts)
      next_starts
]

pub told_words : (line : List ℕ) → ToldWords line
told_words line =
    let (rest, behind, starts) = behind_blanks line in
    told_words_from (length rest) line rest [] (omega arith) (AreWordsTo-start line rest behind starts) starts
