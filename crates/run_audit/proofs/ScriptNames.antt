-- The names that a script has: no line of it has a line feed, and so no word of a statement.
use Rattle.std.proofs.Common.{◌≡◌, ◌∙◌, ◌⊎◌, inl, inr, ℕ, zero, suc, ◌^◌, ◌+◌, ◌-◌, ◌<◌, Bool, true, false, cond, List, [], ◌∷◌, ◌++◌, length, map, take, drop, get_or, refl, sym, ap, subst, arith}
use Rattle.std.specs.Prelude.{◌&&◌, ◌||◌, ◌==◌, All, nat_lt, not}
use Rattle.std.proofs.lemmas.Bool.{and_from, and_parts, cases_eq, cases_lt, cond-true, cond_both, eq-eqb, eqb-true, false≢true, lt-ltb}
use Rattle.std.proofs.lemmas.List.{get_or_past, length-append, length-map, take-append-le, take_all}
use Rattle.std.proofs.Math.Seq.{get_or-append_seam}
use Rattle.std.proofs.lemmas.List.Elements.{All-cons, All-map, All-nil, All-weaker}
use Rattle.bstr.specs.Text.{line_len, lines_from, lines_of}
use Rattle.bstr.proofs.lemmas.LengthLemmas.{length-lines_of}
use Rattle.info_filter.specs.declared.filter.Filter.{Filter}
use Rattle.pattern_images.specs.declared.query.Query.{Query}
use Rattle.query_script.specs.declared.statement.Placed.{Placed}
use Rattle.query_script.specs.declared.statement.PlacedSearch.{PlacedSearch}
use Rattle.query_script.specs.declared.statement.Statement.{Statement}
use Rattle.query_script.specs.declared.statement.Statement.TheVariants as statement
use Rattle.query_script.proofs.LineWords.{AreWordsTo-start, bare_no_end, bare_there, quoted_no_end, quoted_not, quoted_there, skipped_words}
use Rattle.query_script.proofs.ToldWords.{behind_blanks}
use Rattle.query_script.specs.Reading.{BeginsWithNoBareByte, BeginsWithNoBlank}
use Rattle.query_script.specs.Script.{IsPlacedAt, IsSearchOf, IsStatementAt, line_at, script_lines, without_end, without_last}
use Rattle.query_script.specs.Statements.{IsStatement, SpellsStatement}
use Rattle.query_script.specs.Words.{AreWords, IsBareByte, IsBlank, bytes_of, escaped, escaped_byte, word_text}
use Rattle.serial_run.specs.Script.{IsScript}
use Rattle.run_audit.proofs.LineLists.{AreLines, one_line}

-- ---- parts of a line

one_line-parts : (a b : List ℕ) → one_line (a ++ b) ≡ true → (one_line a ≡ true) × (one_line b ≡ true)
one_line-parts [] b one = (refl, one)
one_line-parts (x ∷ a) b one =
    let parts = and_parts (not (x == 10)) (one_line (a ++ b)) one in
    let rest = one_line-parts a b parts.1 in
    (and_from (not (x == 10)) (one_line a) parts.0 rest.0, rest.1)

one_line-take : (n : ℕ) (text : List ℕ) → one_line text ≡ true → one_line (take n text) ≡ true
one_line-take zero text one = refl
one_line-take (suc n) [] one = refl
one_line-take (suc n) (x ∷ text) one =
    let parts = and_parts (not (x == 10)) (one_line text) one in
    and_from (not (x == 10)) (one_line (take n text)) parts.0 (one_line-take n text parts.1)

-- ---- lines of a text

-- a line feed stands at the end alone, or nowhere
record EndsSo (line : List ℕ) : Type 0 where
  front : List ℕ
  one : one_line front ≡ true
  is : (line ≡ front) ⊎ (line ≡ front ++ 10 ∷ [])

ends-behind : (b : ℕ) (line : List ℕ) → (b == 10) ≡ false → EndsSo line → EndsSo (b ∷ line)
ends-behind b line other h = record {
  front = b ∷ h.front;
  one = and_from (not (b == 10)) (one_line h.front) (ap not other) h.one;
  is = elim h.is [ inl same ↦ inl (ap (λ t. b ∷ t) same) | inr same ↦ inr (ap (λ t. b ∷ t) same) ];
}

first-ends : (bytes : List ℕ) → EndsSo (take (line_len bytes) bytes)
unfolding line_len
first-ends [] = record { front = []; one = refl; is = inl refl }
first-ends (b ∷ bytes) = by (b == 10) refl (first-ends bytes)
  where
    by : (t : Bool) → (b == 10) ≡ t → EndsSo (take (line_len bytes) bytes) → EndsSo (take (cond t 1 (suc (line_len bytes))) (b ∷ bytes))
    by true e rest = record { front = []; one = refl; is = inr (ap (λ x. x ∷ []) (eqb-true b 10 e)) }
    by false e rest = ends-behind b (take (line_len bytes) bytes) e rest

all-end : (n : ℕ) (bytes : List ℕ) → All EndsSo (lines_from n bytes)
unfolding lines_from
all-end zero bytes = All-nil EndsSo
all-end (suc n) [] = All-nil EndsSo
all-end (suc n) (b ∷ bytes) =
    All-cons EndsSo (take (line_len (b ∷ bytes)) (b ∷ bytes)) (lines_from n (drop (line_len (b ∷ bytes)) (b ∷ bytes))) (first-ends (b ∷ bytes)) (all-end n (drop (line_len (b ∷ bytes)) (b ∷ bytes)))

-- one byte at the end is taken off, or none
last-line : (c : ℕ) (line : List ℕ) → one_line line ≡ true → one_line (without_last c line) ≡ true
last-line c line one =
    cond_both (nat_lt 0 (length line) && (get_or line (length line - 1) 0 == c)) (take (length line - 1) line) line (λ t. one_line t ≡ true)
    (λ e. one_line-take (length line - 1) line one) (λ e. one)

feed-taken : (front : List ℕ) → without_last 10 (front ++ 10 ∷ []) ≡ front
feed-taken front =
    let counted : length (front ++ 10 ∷ []) ≡ length front + 1 = length-append front (10 ∷ []) in
    let place : length (front ++ 10 ∷ []) - 1 ≡ length front = omega arith in
    let some : nat_lt 0 (length (front ++ 10 ∷ [])) ≡ true = lt-ltb 0 (length (front ++ 10 ∷ [])) (omega arith) in
    let last : (get_or (front ++ 10 ∷ []) (length (front ++ 10 ∷ []) - 1) 0 == 10) ≡ true =
    eq-eqb (get_or (front ++ 10 ∷ []) (length (front ++ 10 ∷ []) - 1) 0) 10 (ap (λ k. get_or (front ++ 10 ∷ []) k 0) place ∙ get_or-append_seam front 10 [] 0) in
    cond-true (nat_lt 0 (length (front ++ 10 ∷ [])) && (get_or (front ++ 10 ∷ []) (length (front ++ 10 ∷ []) - 1) 0 == 10)) (take (length (front ++ 10 ∷ []) - 1) (front ++ 10 ∷ [])) (front ++ 10 ∷ []) (and_from (nat_lt 0 (length (front ++ 10 ∷ []))) (get_or (front ++ 10 ∷ []) (length (front ++ 10 ∷ []) - 1) 0 == 10) some last)
    ∙ ap (λ k. take k (front ++ 10 ∷ [])) place ∙ take-append-le (length front) front (10 ∷ []) (omega arith) ∙ take_all (length front) front (omega arith)

end-line : (line : List ℕ) → EndsSo line → one_line (without_end line) ≡ true
end-line line h = last-line 13 (without_last 10 line) (elim h.is [
  | inl same ↦ last-line 10 line (ap one_line same ∙ h.one)
  | inr same ↦ ap one_line (ap (without_last 10) same ∙ feed-taken h.front) ∙ h.one
])

script-lines : (script : List ℕ) → All (λ line. one_line line ≡ true) (script_lines script)
script-lines script =
    All-map (λ line. one_line line ≡ true) without_end (lines_of script) (All-weaker EndsSo (λ line. one_line (without_end line) ≡ true) end-line (lines_of script) (all-end (length script) script))

at-line : (lines : List (List ℕ)) → All (λ line. one_line line ≡ true) lines → (k : ℕ) → one_line (line_at lines k) ≡ true
at-line lines are k = elim (cases_lt k (length ([] ∷ lines))) [
  | inl below ↦ All-cons (λ line. one_line line ≡ true) [] lines refl are k [] below
  | inr past ↦ ap one_line (get_or_past ([] ∷ lines) k [] past)
]

-- ---- words of a line

escaped-back : (bytes : List ℕ) → one_line (escaped bytes) ≡ true → one_line bytes ≡ true
escaped-back [] one = refl
escaped-back (b ∷ bytes) one =
    let parts = one_line-parts (escaped_byte b) (escaped bytes) one in
    let first : not (b == 10) ≡ true = by ((b == 34) || (b == 92)) parts.0 in
    and_from (not (b == 10)) (one_line bytes) first (escaped-back bytes parts.1)
  where
    by : (special : Bool) → one_line (cond special (92 ∷ b ∷ []) (b ∷ [])) ≡ true → not (b == 10) ≡ true
    by true e = (and_parts (not (b == 10)) true e).0
    by false e = (and_parts (not (b == 10)) true e).0

first-same : {A : Type 0} (x y : A) (xs ys : List A) → x ∷ xs ≡ y ∷ ys → x ≡ y
first-same x y xs ys e = cc

carried : {A : Type 0} (f : A → List ℕ) (x y : A) → x ≡ y → f x ≡ f y
carried f x y e = ap f e

-- the bytes of a bare word before a text, and what stands behind them
bare-byte : (c : ℕ) → IsBareByte c ⊎ (IsBareByte c → ⊥)
bare-byte c = elim (cases_eq c 32) [
  | inl is ↦ inr (λ h. h.0 is)
  | inr no_space ↦ elim (cases_eq c 9) [
    | inl is ↦ inr (λ h. h.1 is)
    | inr no_tab ↦ elim (cases_eq c 34) [
      | inl is ↦ inr (λ h. h.2 is)
      | inr no_quote ↦ inl (no_space, no_tab, no_quote)
    ]
  ]
]

bare-part : (text : List ℕ) → (bytes : List ℕ) × (behind : List ℕ) × (text ≡ bytes ++ behind) × All IsBareByte bytes × BeginsWithNoBareByte behind
bare-part [] = ([], [], refl, All-nil IsBareByte, λ byte rest e. absurd (cc e))
bare-part (c ∷ text) = elim (bare-byte c) [
  | inl is ↦
      let rest = bare-part text in
      (c ∷ rest.0, rest.1, ap (λ l. c ∷ l) rest.2, All-cons IsBareByte c rest.0 is rest.3, rest.4)
  | inr other ↦ (
    [],
    c ∷ text,
    refl,
    All-nil IsBareByte,
    λ byte rest e is. other (subst IsBareByte (sym (first-same c byte text rest e)) is),
  )
]

-- A word's bytes have no line feed where its text has none. A word is bare or quoted: so much is told by the
-- text at which it stands.
quoted-word : (inner : List ℕ) (w : _) (words : List _) → AreWords (34 ∷ inner) (w ∷ words) → one_line (word_text w) ≡ true → (one_line (bytes_of w) ≡ true → ⊥) → ⊥
quoted-word inner w words are one bad =
    quoted_not inner (λ bytes behind is.
    quoted_no_end inner bytes behind is (λ end.
    let at = (quoted_there inner bytes behind is end).only (w ∷ words) are in
    let same = first-same w _ words at.0 at.1 in
    let text : word_text w ≡ 34 ∷ (escaped bytes ++ 34 ∷ []) = carried word_text w _ same in
    let own : bytes_of w ≡ bytes = carried bytes_of w _ same in
    bad (ap one_line own ∙ escaped-back bytes (one_line-parts (escaped bytes) (34 ∷ []) (sym (ap one_line text) ∙ one)).0)) (w ∷ words) are) (w ∷ words) are

bare-word : (c : ℕ) (rest : List ℕ) (w : _) (words : List _) → BeginsWithNoBlank (c ∷ rest) → (c ≡ 34 → ⊥) → AreWords (c ∷ rest) (w ∷ words) → one_line (word_text w) ≡ true → (one_line (bytes_of w) ≡ true → ⊥) → ⊥
bare-word c rest w words starts no_quote are one bad =
    let text = c ∷ rest in
    let parts = bare-part text in
    let not_quoted : (more : List ℕ) → text ≡ 34 ∷ more → ⊥ = λ more e. no_quote (first-same c 34 rest more e) in
    bare_no_end text parts.0 parts.1 (omega arith) starts not_quoted parts.2 parts.3 parts.4 (λ end.
    let at = (bare_there text parts.0 parts.1 (omega arith) starts not_quoted parts.2 parts.3 parts.4 end).only (w ∷ words) are in
    let same = first-same w _ words at.0 at.1 in
    let shown : word_text w ≡ parts.0 = carried word_text w _ same in
    let own : bytes_of w ≡ parts.0 = carried bytes_of w _ same in
    bad (ap one_line (own ∙ sym shown) ∙ one)) (w ∷ words) are

no-word : (w : _) (words : List _) → AreWords [] (w ∷ words) → one_line (word_text w) ≡ true → (one_line (bytes_of w) ≡ true → ⊥) → ⊥
no-word w words are one bad = elim (skipped_words [] (w ∷ words) (record { blanks = []; rest = []; split = refl; are_blanks = All-nil IsBlank; remark = inl refl }) are) [
  | inl none ↦ absurd (cc none)
  | inr (more, others, is) ↦
      let same = first-same w _ words others is in
      let shown : word_text w ≡ 35 ∷ more = carried word_text w _ same in
      let own : bytes_of w ≡ 35 ∷ more = carried bytes_of w _ same in
      bad (ap one_line (own ∙ sym shown) ∙ one)
]

word-at : (text : List ℕ) (w : _) (words : List _) → BeginsWithNoBlank text → AreWords text (w ∷ words) → one_line (word_text w) ≡ true → (one_line (bytes_of w) ≡ true → ⊥) → ⊥
word-at [] w words starts are one bad = no-word w words are one bad
word-at (c ∷ rest) w words starts are one bad = elim (cases_eq c 34) [
  | inl quote ↦ quoted-word rest w words (subst (λ (b : ℕ). AreWords (b ∷ rest) (w ∷ words)) quote are) one bad
  | inr other ↦ bare-word c rest w words starts other are one bad
]

stable : (b : Bool) → ((b ≡ true → ⊥) → ⊥) → b ≡ true
stable true never = refl
stable false never = absurd (never false≢true)

word-line : (text : List ℕ) (w : _) (words : List _) → AreWords text (w ∷ words) → one_line (word_text w) ≡ true → one_line (bytes_of w) ≡ true
word-line text w words are one =
    let cut = behind_blanks text in
    let at = (AreWordsTo-start text cut.0 cut.1 cut.2).only (w ∷ words) are in
    stable (one_line (bytes_of w)) (λ bad. word-at cut.0 w words cut.2 (subst (AreWords cut.0) (sym at.1) at.2) one bad)

-- the bytes of each word of a line
word-lines : (line : List ℕ) (words : List _) → one_line line ≡ true → AreWords line words → AreLines (map bytes_of words)
word-lines _ _ one (AreWords.none blank) = tt
word-lines _ _ one (AreWords.one_more {words} blanks rest w blank is end more) =
    let parts = one_line-parts blanks (word_text w ++ rest) one in
    let both = one_line-parts (word_text w) rest parts.1 in
    (word-line (word_text w ++ rest) w words (AreWords.one_more [] rest w (All-nil IsBlank) is end more) both.0, word-lines rest words both.1 more)

-- ---- statements

-- the names of a statement have no line feed, and the searches of a block stand at small lines
abbrev pub HasLineNames : Statement → Type 0
HasLineNames (statement.Import path) = one_line path ≡ true
HasLineNames (statement.Retire name) = one_line name ≡ true
HasLineNames (statement.Watch name query filter) = one_line name ≡ true
HasLineNames (statement.Watched name) = one_line name ≡ true
HasLineNames (statement.Together searches) = All (λ (p : PlacedSearch). p.line < 2 ^ 64) searches
HasLineNames other = Unit {0}

-- the statement stands at a small line, and its names have no line feed
pub record IsFine (p : Placed) : Type 0 where
  pub few : p.line < 2 ^ 64
  pub names : HasLineNames p.statement

import-names : (words : List _) (path : List ℕ) → AreLines (map bytes_of words) → IsStatement words (statement.Import path) → one_line path ≡ true
import-names words path are (w, is, names) = ap one_line (sym names.bytes) ∙ (subst (λ ws. AreLines (map bytes_of ws)) is are).1.0

watch-names : (words : List _) (name : List ℕ) (query : Query) (filter : Filter) → AreLines (map bytes_of words) → IsStatement words (statement.Watch name query filter) → one_line name ≡ true
watch-names words name query filter are (body, is, named) = (subst (λ ws. AreLines (map bytes_of ws)) named.split (subst (λ ws. AreLines (map bytes_of ws)) is are).1).0

module _ (lines : List (List ℕ)) (are : All (λ line. one_line line ≡ true) lines) (short : length lines < 2 ^ 64) where
  spelled-words : (k : ℕ) (own : Statement) (spelled : SpellsStatement (line_at lines k) own) → AreLines (map bytes_of spelled.0)
  spelled-words k own spelled = word-lines (line_at lines k) spelled.0 (at-line lines are k) spelled.1

  stands-fine : (k : ℕ) (own : Statement) → IsStatementAt lines k own → HasLineNames own
  stands-fine k (statement.Import path) stands = import-names stands.spelled.0 path (spelled-words k (statement.Import path) stands.spelled) stands.spelled.2
  stands-fine k (statement.Retire name) stands = (subst (λ ws. AreLines (map bytes_of ws)) stands.spelled.2.0 (spelled-words k (statement.Retire name) stands.spelled)).1.0
  stands-fine k (statement.Watched name) stands = (subst (λ ws. AreLines (map bytes_of ws)) stands.spelled.2.0 (spelled-words k (statement.Watched name) stands.spelled)).1.0
  stands-fine k (statement.Watch name query filter) stands = watch-names stands.spelled.0 name query filter (spelled-words k (statement.Watch name query filter) stands.spelled) stands.spelled.2
  stands-fine k (statement.Together searches) stands = All-weaker (IsSearchOf lines k) (λ (p : PlacedSearch). p.line < 2 ^ 64) (λ p is. omega (arith, is.there)) searches stands.1.sound
  stands-fine k (statement.Make games start) stands = tt
  stands-fine k statement.Wait stands = tt
  stands-fine k (statement.Until number) stands = tt
  stands-fine k (statement.Search query filter) stands = tt
  stands-fine k (statement.Kept query) stands = tt
  stands-fine k (statement.Signature pattern) stands = tt
  stands-fine k statement.Players stands = tt
  stands-fine k statement.Doubles stands = tt
  stands-fine k (statement.Game number) stands = tt
  stands-fine k (statement.Opening shape depth least) stands = tt
  stands-fine k statement.Report stands = tt

  placed-fine : (p : Placed) → IsPlacedAt lines p → IsFine p
  placed-fine p at = record { few = omega (arith, at.to_last); names = stands-fine p.line p.statement at.stands }

pub script-fine : (script : List ℕ) (placed : List Placed) → IsScript script placed → All IsFine placed
script-fine script placed is =
    let lines = script_lines script in
    let counted : length lines ≡ length (lines_of script) = length-map (lines_of script) without_end in
    All-weaker (IsPlacedAt lines) IsFine (placed-fine lines (script-lines script) (omega (arith, is.0, counted, length-lines_of script))) placed is.1.sound
