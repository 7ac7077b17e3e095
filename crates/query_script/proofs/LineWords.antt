-- The words of a line: what its first word is, and that a line has one list of words only.
use Rattle.std.proofs.Common.{◌≡◌, ◌≢◌, ◌⊎◌, ◌≤◌, ◌-◌, ◌++◌, ◌∙◌, ℕ, zero, suc, get_or, take, drop, List, [], ◌∷◌, All, length, refl, sym, ap, subst, inl, inr, arith, append_assoc}
use Rattle.std.proofs.lemmas.List.{append-nil, take_all}
use Rattle.std.proofs.lemmas.List.Elements.{All-append, All-head, All-nil, All-tail}
use Rattle.query_script.specs.declared.word.Word.{Word}
use Rattle.query_script.specs.declared.word.Word.TheVariants as word
use Rattle.query_script.specs.Reading.{AreWordsTo, BeginsWithNoBareByte, BeginsWithNoBlank, BeginsWithWord}
use Rattle.query_script.specs.Statements.{IsRemark, IsSkipped}
use Rattle.query_script.specs.Words.{AreBlanks, AreWords, IsBareByte, IsBlank, IsWord, IsWordEnd, escaped, none, one_more, word_text}
use Rattle.query_script.proofs.Quoted.{escaped-once}

-- ---- blanks

-- a text and what stands behind the blanks before it
abbrev pub IsBehindBlanks : List ℕ → List ℕ → Type 0
IsBehindBlanks text rest = (blanks : List ℕ) × (text ≡ blanks ++ rest) × AreBlanks blanks

-- what stands behind the blanks before a text
pub behind_blanks-once : (one other front back : List ℕ) → AreBlanks one → AreBlanks other → BeginsWithNoBlank front → BeginsWithNoBlank back → one ++ front ≡ other ++ back → front ≡ back
behind_blanks-once [] [] front back one other starts starts' e = e
behind_blanks-once [] (b ∷ other) front back one blanks starts starts' e = absurd (starts b (other ++ back) e (All-head IsBlank b other blanks))
behind_blanks-once (a ∷ one) [] front back blanks other starts starts' e = absurd (starts' a (one ++ front) (sym e) (All-head IsBlank a one blanks))
behind_blanks-once (a ∷ one) (b ∷ other) front back blanks blanks' starts starts' e =
    let rest : one ++ front ≡ other ++ back = cc in
    behind_blanks-once one other front back (All-tail IsBlank a one blanks) (All-tail IsBlank b other blanks') starts starts' rest

-- one blank more before a text
one_blank : (byte : ℕ) → IsBlank byte → AreBlanks (byte ∷ [])
one_blank byte blank zero d inside = blank
one_blank byte blank (suc k) d inside = absurd (omega arith)

pub one_more_blank : (text rest : List ℕ) → IsBehindBlanks text rest → 1 ≤ length rest → IsBlank (get_or rest 0 0) → IsBehindBlanks text (take (length rest - 1) (drop 1 rest))
one_more_blank text [] so_far some blank = absurd (omega arith)
one_more_blank text (b ∷ rest) (blanks, is, are_blanks) some blank =
    let whole : take (length (b ∷ rest) - 1) (drop 1 (b ∷ rest)) ≡ rest = take_all (length (b ∷ rest) - 1) rest (omega arith) in
    (blanks ++ b ∷ [], is ∙ sym (append_assoc blanks (b ∷ []) rest) ∙ ap (λ r. (blanks ++ b ∷ []) ++ r) (sym whole), All-append IsBlank blanks (b ∷ []) are_blanks (one_blank b blank))

-- of blanks that begin with none nothing is left
no_blanks : (text : List ℕ) → BeginsWithNoBlank text → AreBlanks text → text ≡ []
no_blanks [] starts blanks = refl
no_blanks (b ∷ text) starts blanks = absurd (starts b text refl (All-head IsBlank b text blanks))

rest_of_blanks : (blanks rest : List ℕ) → AreBlanks (blanks ++ rest) → AreBlanks rest
rest_of_blanks [] rest all = all
rest_of_blanks (b ∷ blanks) rest all = rest_of_blanks blanks rest (All-tail IsBlank b (blanks ++ rest) all)

-- ---- one word

-- a word begins with no blank
word-first : (w : Word) (rest : List ℕ) → IsWord w → BeginsWithNoBlank (word_text w ++ rest)
word-first (word.Bare []) rest is byte others e blank = absurd (omega (arith, is.0))
word-first (word.Bare (b ∷ bytes)) rest is byte others e blank =
    let first : b ≡ byte = cc in
    let (space, tab, quote) = All-head IsBareByte b bytes is.1 in
    elim blank [ inl e ↦ space (first ∙ e) | inr e ↦ tab (first ∙ e) ]
word-first (word.Quoted bytes) rest is byte others e blank =
    let first : 34 ≡ byte = cc in
    elim blank [ inl e ↦ absurd (omega (arith, first, e)) | inr e ↦ absurd (omega (arith, first, e)) ]

-- what stands behind a word begins with no byte of a bare one
end-no_bare : (rest : List ℕ) → IsWordEnd rest → BeginsWithNoBareByte rest
end-no_bare [] end byte others e bare = absurd (cc e)
end-no_bare (c ∷ rest) end byte others e (space, tab, quote) =
    let first : c ≡ byte = cc in
    elim end [ inl e ↦ space (sym first ∙ e) | inr e ↦ tab (sym first ∙ e) ]

-- a text has one bare word at its beginning
bare-once : (one other front back : List ℕ) → All IsBareByte one → All IsBareByte other → BeginsWithNoBareByte front → BeginsWithNoBareByte back → one ++ front ≡ other ++ back → (one ≡ other) × (front ≡ back)
bare-once [] [] front back one other ends ends' e = (refl, e)
bare-once [] (b ∷ other) front back one bare ends ends' e = absurd (ends b (other ++ back) e (All-head IsBareByte b other bare))
bare-once (a ∷ one) [] front back bare other ends ends' e = absurd (ends' a (one ++ front) (sym e) (All-head IsBareByte a one bare))
bare-once (a ∷ one) (b ∷ other) front back bare bare' ends ends' e =
    let first : a ≡ b = cc in
    let rest : one ++ front ≡ other ++ back = cc in
    let (fronts, backs) = bare-once one other front back (All-tail IsBareByte a one bare) (All-tail IsBareByte b other bare') ends ends' rest in
    let whole : a ∷ one ≡ b ∷ other = cc (first, fronts) in
    (whole, backs)

-- the text is a word and what stands behind it
record IsAt (text : List ℕ) (w : Word) (rest : List ℕ) : Type 0 where
  is : text ≡ word_text w ++ rest
  word : IsWord w
  end : IsWordEnd rest

quoted_text : (bytes rest : List ℕ) → word_text (word.Quoted bytes) ++ rest ≡ 34 ∷ (escaped bytes ++ 34 ∷ rest)
quoted_text bytes rest = ap (λ l. 34 ∷ l) (append_assoc (escaped bytes) (34 ∷ []) rest)

-- a bare word, as long as it can be
bare-only : (text bytes behind : List ℕ) (v : Word) (rest : List ℕ) → text ≡ bytes ++ behind → 1 ≤ length bytes → All IsBareByte bytes → BeginsWithNoBareByte behind → IsAt text v rest → (v ≡ word.Bare bytes) × (rest ≡ behind)
bare-only text bytes behind (word.Bare others) rest is some bare ends at =
    let (words, rests) = bare-once others bytes rest behind at.word.1 bare (end-no_bare rest at.end) ends (sym at.is ∙ is) in
    (ap word.Bare words, rests)
bare-only text [] behind (word.Quoted others) rest is some bare ends at = absurd (omega (arith, some))
bare-only text (b ∷ bytes) behind (word.Quoted others) rest is some bare ends at =
    let both : 34 ∷ (escaped others ++ 34 ∷ rest) ≡ b ∷ (bytes ++ behind) = sym (quoted_text others rest) ∙ sym at.is ∙ is in
    let first : b ≡ 34 = cc in
    absurd ((All-head IsBareByte b bytes bare).2 first)

-- a quoted word
quoted-only : (inner bytes behind : List ℕ) (v : Word) (rest : List ℕ) → inner ≡ escaped bytes ++ 34 ∷ behind → IsAt (34 ∷ inner) v rest → (v ≡ word.Quoted bytes) × (rest ≡ behind)
quoted-only inner bytes behind (word.Bare []) rest is at = absurd (omega (arith, at.word.0))
quoted-only inner bytes behind (word.Bare (b ∷ others)) rest is at =
    let both : 34 ∷ inner ≡ b ∷ (others ++ rest) = at.is in
    let first : b ≡ 34 = cc in
    absurd ((All-head IsBareByte b others at.word.1).2 first)
quoted-only inner bytes behind (word.Quoted others) rest is at =
    let both : 34 ∷ inner ≡ 34 ∷ (escaped others ++ 34 ∷ rest) = at.is ∙ quoted_text others rest in
    let inners : inner ≡ escaped others ++ 34 ∷ rest = cc in
    let (words, rests) = escaped-once others bytes rest behind (sym inners ∙ is) in
    (ap word.Quoted words, rests)

-- nothing but a quoted word begins with a quote
quoted_at : (inner : List ℕ) (v : Word) (rest : List ℕ) → IsAt (34 ∷ inner) v rest → (bytes : List ℕ) × (inner ≡ escaped bytes ++ 34 ∷ rest)
quoted_at inner (word.Bare []) rest at = absurd (omega (arith, at.word.0))
quoted_at inner (word.Bare (b ∷ others)) rest at =
    let both : 34 ∷ inner ≡ b ∷ (others ++ rest) = at.is in
    let first : b ≡ 34 = cc in
    absurd ((All-head IsBareByte b others at.word.1).2 first)
quoted_at inner (word.Quoted others) rest at =
    let both : 34 ∷ inner ≡ 34 ∷ (escaped others ++ 34 ∷ rest) = at.is ∙ quoted_text others rest in
    let inners : inner ≡ escaped others ++ 34 ∷ rest = cc in
    (others, inners)

-- ---- the first of the words

-- the first word of a line, and the others
record HasFirst (line : List ℕ) (w : Word) (words : List Word) : Type 0 where
  blanks : List ℕ
  rest : List ℕ
  is : line ≡ blanks ++ (word_text w ++ rest)
  are_blanks : AreBlanks blanks
  word : IsWord w
  end : IsWordEnd rest
  more : AreWords rest words

first_of : (line : List ℕ) (w : Word) (words : List Word) → AreWords line (w ∷ words) → HasFirst line w words
first_of _ w words (one_more blanks rest _ are_blanks is end more) = record { blanks = blanks; rest = rest; is = refl; are_blanks = are_blanks; word = is; end = end; more = more }

none_of : (line : List ℕ) → AreWords line [] → AreBlanks line
none_of _ (none blanks) = blanks

first_from : (line : List ℕ) (w : Word) (words : List Word) → HasFirst line w words → AreWords line (w ∷ words)
first_from line w words first = subst (λ l. AreWords l (w ∷ words)) (sym first.is) (one_more first.blanks first.rest w first.are_blanks first.word first.end first.more)

-- the words of a text that begins with none of the blanks
first_at : (text : List ℕ) (w : Word) (words : List Word) → BeginsWithNoBlank text → AreWords text (w ∷ words) → (rest : List ℕ) × IsAt text w rest × AreWords rest words
first_at text w words starts are =
    let first = first_of text w words are in
    let is : text ≡ word_text w ++ first.rest = behind_blanks-once [] first.blanks text (word_text w ++ first.rest) (All-nil IsBlank) first.are_blanks starts (word-first w first.rest first.word) first.is in
    (first.rest, record { is = is; word = first.word; end = first.end }, first.more)

-- there is no word
no_first : (text : List ℕ) → 1 ≤ length text → BeginsWithNoBlank text → ((w : Word) (rest : List ℕ) → ¬ IsAt text w rest) → (words : List Word) → ¬ AreWords text words
no_first text some starts without [] are = let empty = no_blanks text starts (none_of text are) in absurd (omega (arith, ap length empty))
no_first text some starts without (w ∷ words) are = let (rest, at, more) = first_at text w words starts are in without w rest at

-- there is this word
one_first : (text : List ℕ) (w : Word) (behind : List ℕ) → 1 ≤ length text → BeginsWithNoBlank text → IsAt text w behind → ((v : Word) (rest : List ℕ) → IsAt text v rest → (v ≡ w) × (rest ≡ behind)) → BeginsWithWord text w behind
one_first text w behind some starts at once = record {
  more = λ words are. first_from text w words (record { blanks = []; rest = behind; is = at.is; are_blanks = All-nil IsBlank; word = at.word; end = at.end; more = are });
  only = only;
}
  where
    only : (words : List Word) → AreWords text words → (others : List Word) × (words ≡ w ∷ others) × AreWords behind others
    only [] are = let empty = no_blanks text starts (none_of text are) in absurd (omega (arith, ap length empty))
    only (v ∷ words) are =
        let (rest, at_v, more) = first_at text v words starts are in
        let (same, rests) = once v rest at_v in
        (words, ap (λ x. x ∷ words) same, subst (λ r. AreWords r words) rests more)

begins_with_quote : (inner : List ℕ) → BeginsWithNoBlank (34 ∷ inner)
begins_with_quote inner byte rest e blank =
    let first : 34 ≡ byte = cc in
    elim blank [ inl e ↦ absurd (omega (arith, first, e)) | inr e ↦ absurd (omega (arith, first, e)) ]

-- a quoted word and its end
pub quoted_there : (inner bytes behind : List ℕ) → inner ≡ escaped bytes ++ 34 ∷ behind → IsWordEnd behind → BeginsWithWord (34 ∷ inner) (word.Quoted bytes) behind
quoted_there inner bytes behind is end =
    one_first (34 ∷ inner) (word.Quoted bytes) behind (omega arith) (begins_with_quote inner)
    (record { is = ap (λ l. 34 ∷ l) is ∙ sym (quoted_text bytes behind); word = tt; end = end })
    (λ v rest at. quoted-only inner bytes behind v rest is at)

-- a quoted word that goes on behind its quote
pub quoted_no_end : (inner bytes behind : List ℕ) → inner ≡ escaped bytes ++ 34 ∷ behind → ¬ IsWordEnd behind → (words : List Word) → ¬ AreWords (34 ∷ inner) words
quoted_no_end inner bytes behind is no_end =
    no_first (34 ∷ inner) (omega arith) (begins_with_quote inner)
    (λ w rest at. no_end (subst IsWordEnd (quoted-only inner bytes behind w rest is at).1 at.end))

-- a quote that no other ends
pub quoted_not : (inner : List ℕ) → ((bytes behind : List ℕ) → inner ≢ escaped bytes ++ 34 ∷ behind) → (words : List Word) → ¬ AreWords (34 ∷ inner) words
quoted_not inner without =
    no_first (34 ∷ inner) (omega arith) (begins_with_quote inner)
    (λ w rest at. let (bytes, is) = quoted_at inner w rest at in without bytes rest is)

-- a text whose first byte may stand in a bare word has a bare word at its beginning
bare-some : (text bytes behind : List ℕ) → 1 ≤ length text → BeginsWithNoBlank text → ((rest : List ℕ) → text ≢ 34 ∷ rest) → text ≡ bytes ++ behind → BeginsWithNoBareByte behind → 1 ≤ length bytes
bare-some [] bytes behind some starts bare is ends = absurd (omega (arith, some))
bare-some (t ∷ text) [] behind some starts bare is ends =
    absurd (ends t text (sym is) ((λ e. starts t text refl (inl e)), (λ e. starts t text refl (inr e)), (λ e. bare text (ap (λ c. c ∷ text) e))))
bare-some text (b ∷ bytes) behind some starts bare is ends = omega arith

-- a bare word and its end
pub bare_there : (text bytes behind : List ℕ) → 1 ≤ length text → BeginsWithNoBlank text → ((rest : List ℕ) → text ≢ 34 ∷ rest) → text ≡ bytes ++ behind → All IsBareByte bytes → BeginsWithNoBareByte behind → IsWordEnd behind → BeginsWithWord text (word.Bare bytes) behind
bare_there text bytes behind some starts bare is all ends end =
    let long = bare-some text bytes behind some starts bare is ends in
    one_first text (word.Bare bytes) behind some starts
    (record { is = is; word = (long, all); end = end })
    (λ v rest at. bare-only text bytes behind v rest is long all ends at)

-- a bare word with a quote behind it
pub bare_no_end : (text bytes behind : List ℕ) → 1 ≤ length text → BeginsWithNoBlank text → ((rest : List ℕ) → text ≢ 34 ∷ rest) → text ≡ bytes ++ behind → All IsBareByte bytes → BeginsWithNoBareByte behind → ¬ IsWordEnd behind → (words : List Word) → ¬ AreWords text words
bare_no_end text bytes behind some starts bare is all ends no_end =
    let long = bare-some text bytes behind some starts bare is ends in
    no_first text some starts
    (λ w rest at. no_end (subst IsWordEnd (bare-only text bytes behind w rest is long all ends at).1 at.end))

-- ---- all words

-- the words behind the blanks before a line
words-with_blanks : (blanks rest line : List ℕ) (words : List Word) → line ≡ blanks ++ rest → AreBlanks blanks → AreWords rest words → AreWords line words
words-with_blanks blanks rest line [] is are_blanks are =
    subst (λ l. AreWords l []) (sym is) (none (All-append IsBlank blanks rest are_blanks (none_of rest are)))
words-with_blanks blanks rest line (w ∷ words) is are_blanks are =
    let first = first_of rest w words are in
    first_from line w words (record {
      blanks = blanks ++ first.blanks;
      rest = first.rest;
      is = is ∙ ap (λ l. blanks ++ l) first.is ∙ sym (append_assoc blanks first.blanks (word_text w ++ first.rest));
      are_blanks = All-append IsBlank blanks first.blanks are_blanks first.are_blanks;
      word = first.word;
      end = first.end;
      more = first.more;
    })

words-without_blanks : (blanks rest line : List ℕ) (words : List Word) → line ≡ blanks ++ rest → AreBlanks blanks → BeginsWithNoBlank rest → AreWords line words → AreWords rest words
words-without_blanks blanks rest line [] is are_blanks starts are =
    none (rest_of_blanks blanks rest (subst AreBlanks is (none_of line are)))
words-without_blanks blanks rest line (w ∷ words) is are_blanks starts are =
    let first = first_of line w words are in
    first_from rest w words (record {
      blanks = [];
      rest = first.rest;
      is = behind_blanks-once blanks first.blanks rest (word_text w ++ first.rest) are_blanks first.are_blanks starts (word-first w first.rest first.word) (sym is ∙ first.is);
      are_blanks = All-nil IsBlank;
      word = first.word;
      end = first.end;
      more = first.more;
    })

pub AreWordsTo-start : (line rest : List ℕ) → IsBehindBlanks line rest → BeginsWithNoBlank rest → AreWordsTo line [] rest
AreWordsTo-start line rest (blanks, is, are_blanks) starts = record {
  more = λ others are. words-with_blanks blanks rest line others is are_blanks are;
  only = λ all are. (all, refl, words-without_blanks blanks rest line all is are_blanks starts are);
}

pub AreWordsTo-more : (line rest behind next : List ℕ) (words : List Word) (w : Word) → AreWordsTo line words rest → BeginsWithWord rest w behind → IsBehindBlanks behind next → BeginsWithNoBlank next → AreWordsTo line (words ++ w ∷ []) next
AreWordsTo-more line rest behind next words w so_far first (blanks, is, are_blanks) starts = record {
  more = λ others are. subst (AreWords line) (sym (append_assoc words (w ∷ []) others)) (so_far.more (w ∷ others) (first.more others (words-with_blanks blanks next behind others is are_blanks are)));
  only = λ all are.
      let (some, whole, are_some) = so_far.only all are in
      let (others, rest_is, are_others) = first.only some are_some in
      (others, whole ∙ ap (λ l. words ++ l) rest_is ∙ sym (append_assoc words (w ∷ []) others), words-without_blanks blanks next behind others is are_blanks starts are_others);
}

-- a word has a byte
no_text : (w : Word) (rest : List ℕ) → IsWord w → [] ≢ word_text w ++ rest
no_text (word.Bare []) rest is e = absurd (omega (arith, is.0))
no_text (word.Bare (b ∷ bytes)) rest is e = absurd (cc e)
no_text (word.Quoted bytes) rest is e = absurd (cc e)

-- a word that begins with `#`
comment_word : (w : Word) (rest text : List ℕ) → IsWord w → 35 ∷ text ≡ word_text w ++ rest → (more : List ℕ) × (w ≡ word.Bare (35 ∷ more))
comment_word (word.Bare []) rest text is e = absurd (omega (arith, is.0))
comment_word (word.Bare (b ∷ bytes)) rest text is e =
    let first : b ≡ 35 = cc in
    (bytes, ap (λ c. word.Bare (c ∷ bytes)) first)
comment_word (word.Quoted bytes) rest text is e =
    let first : ◌≡◌ {A = ℕ} 35 34 = cc in
    absurd (omega (arith, first))

-- a remark begins with no blank
pub remark-begins : (rest : List ℕ) → IsRemark rest → BeginsWithNoBlank rest
remark-begins rest (inl empty) byte others is blank =
    let both : [] ≡ byte ∷ others = sym empty ∙ is in
    absurd (cc both)
remark-begins rest (inr (text, comment)) byte others is blank =
    let both : 35 ∷ text ≡ byte ∷ others = sym comment ∙ is in
    let first : 35 ≡ byte = cc in
    elim blank [ inl e ↦ absurd (omega (arith, first, e)) | inr e ↦ absurd (omega (arith, first, e)) ]

-- the words of a line that is skipped: none, or the first one begins with `#`
pub skipped_words : (text : List ℕ) (words : List Word) → IsSkipped text → AreWords text words → (words ≡ []) ⊎ ((more : List ℕ) × (others : List Word) × (words ≡ word.Bare (35 ∷ more) ∷ others))
skipped_words text [] skip are = inl refl
skipped_words text (w ∷ words) skip are =
    let first = first_of text w words are in
    let is : skip.rest ≡ word_text w ++ first.rest = behind_blanks-once skip.blanks first.blanks skip.rest (word_text w ++ first.rest) skip.are_blanks first.are_blanks (remark-begins skip.rest skip.remark) (word-first w first.rest first.word) (sym skip.split ∙ first.is) in
    elim skip.remark [
      | inl empty ↦ absurd (no_text w first.rest first.word (sym empty ∙ is))
      | inr (rest, comment) ↦
          let (more, same) = comment_word w first.rest rest first.word (sym comment ∙ is) in
          inr (more, words, ap (λ v. v ∷ words) same)
    ]

pub AreWordsTo-end : (line rest : List ℕ) (words : List Word) → AreWordsTo line words rest → rest ≡ [] → AreWords line words
AreWordsTo-end line rest words so_far end =
    subst (AreWords line) (append-nil words) (so_far.more [] (subst (λ r. AreWords r []) (sym end) (none (All-nil IsBlank))))

-- ---- one list of words

-- a text begins with one word
word-once : (w v : Word) (rest others : List ℕ) → IsWord w → IsWord v → IsWordEnd rest → IsWordEnd others → word_text w ++ rest ≡ word_text v ++ others → (w ≡ v) × (rest ≡ others)
word-once (word.Bare bytes) v rest others is_w is_v end_w end_v e =
    let (words, rests) = bare-only (bytes ++ rest) bytes rest v others refl is_w.0 is_w.1 (end-no_bare rest end_w) (record { is = e; word = is_v; end = end_v }) in
    (sym words, sym rests)
word-once (word.Quoted bytes) v rest others is_w is_v end_w end_v e =
    let (words, rests) = quoted-only (escaped bytes ++ 34 ∷ rest) bytes rest v others refl (record { is = sym (quoted_text bytes rest) ∙ e; word = is_v; end = end_v }) in
    (sym words, sym rests)

-- blanks have no word
blanks-no_word : (line : List ℕ) (w : Word) (words : List Word) → AreBlanks line → ¬ AreWords line (w ∷ words)
blanks-no_word line w words blanks are =
    let first = first_of line w words are in
    let empty = no_blanks (word_text w ++ first.rest) (word-first w first.rest first.word) (rest_of_blanks first.blanks (word_text w ++ first.rest) (subst AreBlanks first.is blanks)) in
    no_text w first.rest first.word (sym empty)

-- a line has one list of words
pub AreWords-once : (line : List ℕ) (a b : List Word) → AreWords line a → AreWords line b → a ≡ b
AreWords-once line [] [] one other = refl
AreWords-once line [] (v ∷ b) one other = absurd (blanks-no_word line v b (none_of line one) other)
AreWords-once line (w ∷ a) [] one other = absurd (blanks-no_word line w a (none_of line other) one)
AreWords-once line (w ∷ a) (v ∷ b) one other =
    let first = first_of line w a one in
    let second = first_of line v b other in
    let texts = behind_blanks-once first.blanks second.blanks (word_text w ++ first.rest) (word_text v ++ second.rest) first.are_blanks second.are_blanks (word-first w first.rest first.word) (word-first v second.rest second.word) (sym first.is ∙ second.is) in
    let (words, rests) = word-once w v first.rest second.rest first.word second.word first.end second.end texts in
    let others = AreWords-once second.rest a b (subst (λ r. AreWords r a) rests first.more) second.more in
    let whole : w ∷ a ≡ v ∷ b = cc (words, others) in
    whole
