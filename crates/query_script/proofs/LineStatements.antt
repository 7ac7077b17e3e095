-- What the words of a line spell, and what a line is.
use Rattle.std.proofs.Common.{◌≡◌, ◌≢◌, ◌∙◌, ℕ, List, [], ◌∷◌, Option, Some, None, Result, Ok, Err, IfOk, IfNone, codes, if◌then◌else◌, refl, sym, ap, subst, inl, inr, arith}
use Rattle.std.specs.Str.{bytes_eq}
use Rattle.kb_geometry.specs.declared.shape.Shape.{Shape}
use Rattle.pattern_images.specs.declared.query.Query.{Query}
use Rattle.dyer_signature.specs.declared.bytes.SigPattern.{SigPattern}
use Rattle.info_filter.specs.declared.filter.Filter.{Filter}
use Rattle.query_script.specs.declared.line.Line.TheVariants as line
use Rattle.query_script.specs.declared.statement.Statement.{Statement}
use Rattle.query_script.specs.declared.statement.Statement.TheVariants as statement
use Rattle.query_script.specs.declared.word.Word.{Word}
use Rattle.query_script.specs.Conditions.{IsFilteredBody, IsNamedBody}
use Rattle.query_script.specs.Lines.{IsLine}
use Rattle.query_script.specs.Reading.{BeginsWithNoBlank}
use Rattle.query_script.specs.Script.{IsSearch}
use Rattle.query_script.specs.Search.{IsKeptBody}
use Rattle.query_script.specs.Statements.{IsRemark, IsSkipped, IsStatement, SpellsStatement}
use Rattle.query_script.specs.Words.{AreWords, bare}
use Rattle.query_script.proofs.LineWords.{AreWords-once, IsBehindBlanks, behind_blanks-once, remark-begins, skipped_words}

-- ---- the statements that words spell

-- no search where its body is none
pub search-none : {E : Type 0} (result : Result (Option (Query × Filter)) E) (words rest : List Word) → words ≡ bare (codes "search") ∷ rest → IfOk result (λ found. IfNone found ((query : Query) (filter : Filter) → ¬ IsFilteredBody rest query filter)) → IfOk result (λ found. IfNone found ((query : Query) (filter : Filter) → ¬ IsStatement words (statement.Search query filter)))
search-none (Ok (Some found)) words rest is none = tt
search-none (Ok None) words rest is none = λ query filter (body, name, spelled).
    let both : bare (codes "search") ∷ rest ≡ bare (codes "search") ∷ body = sym is ∙ name in
    let same : body ≡ rest = cc in
    none query filter (subst (λ l. IsFilteredBody l query filter) same spelled)
search-none (Err e) words rest is none = tt

-- no count of kept games where its body is none
pub kept-none : {E : Type 0} (result : Result (Option Query) E) (words rest : List Word) → words ≡ bare (codes "kept") ∷ rest → IfOk result (λ found. IfNone found ((query : Query) → ¬ IsKeptBody rest query)) → IfOk result (λ found. IfNone found ((query : Query) → ¬ IsStatement words (statement.Kept query)))
kept-none (Ok (Some found)) words rest is none = tt
kept-none (Ok None) words rest is none = λ query (body, name, spelled).
    let both : bare (codes "kept") ∷ rest ≡ bare (codes "kept") ∷ body = sym is ∙ name in
    let same : body ≡ rest = cc in
    none query (subst (λ l. IsKeptBody l query) same spelled)
kept-none (Err e) words rest is none = tt

-- no watched search where the words behind its name spell none
pub watch-none : {E T : Type 0} (result : Result (Option T) E) (words rest : List Word) → words ≡ bare (codes "watch") ∷ rest → IfOk result (λ found. IfNone found ((name : List ℕ) (query : Query) (filter : Filter) → ¬ IsNamedBody rest name query filter)) → IfOk result (λ found. IfNone found ((name : List ℕ) (query : Query) (filter : Filter) → ¬ IsStatement words (statement.Watch name query filter)))
watch-none (Ok (Some found)) words rest is none = tt
watch-none (Ok None) words rest is none = λ name query filter (body, begins, spelled).
    let both : bare (codes "watch") ∷ rest ≡ bare (codes "watch") ∷ body = sym is ∙ begins in
    let same : body ≡ rest = cc in
    none name query filter (subst (λ l. IsNamedBody l name query filter) same spelled)
watch-none (Err e) words rest is none = tt

-- no statement of any kind
pub no_statement : (words : List Word) →
    ((query : Query) (filter : Filter) → ¬ IsStatement words (statement.Search query filter)) → ((path : List ℕ) → ¬ IsStatement words (statement.Import path)) →
    ((games start : ℕ) → ¬ IsStatement words (statement.Make games start)) → words ≢ bare (codes "wait") ∷ [] →
    ((number : ℕ) → ¬ IsStatement words (statement.Until number)) → ((query : Query) → ¬ IsStatement words (statement.Kept query)) → ((pattern : SigPattern) → ¬ IsStatement words (statement.Signature pattern)) →
    words ≢ bare (codes "players") ∷ [] → words ≢ bare (codes "doubles") ∷ [] → ((number : ℕ) → ¬ IsStatement words (statement.Game number)) →
    ((shape : Shape) (depth least : ℕ) → ¬ IsStatement words (statement.Opening shape depth least)) →
    words ≢ bare (codes "report") ∷ [] → ((name : List ℕ) → ¬ IsStatement words (statement.Retire name)) →
    ((name : List ℕ) (query : Query) (filter : Filter) → ¬ IsStatement words (statement.Watch name query filter)) → ((name : List ℕ) → ¬ IsStatement words (statement.Watched name)) →
    (s : Statement) → ¬ IsStatement words s
no_statement words searched import_ make wait until kept signature players doubles game opening report retire watch watched (statement.Import path) is = import_ path is
no_statement words searched import_ make wait until kept signature players doubles game opening report retire watch watched (statement.Make games start) is = make games start is
no_statement words searched import_ make wait until kept signature players doubles game opening report retire watch watched statement.Wait is = wait is
no_statement words searched import_ make wait until kept signature players doubles game opening report retire watch watched (statement.Until number) is = until number is
no_statement words searched import_ make wait until kept signature players doubles game opening report retire watch watched (statement.Search query filter) is = searched query filter is
no_statement words searched import_ make wait until kept signature players doubles game opening report retire watch watched (statement.Together searches) is = is
no_statement words searched import_ make wait until kept signature players doubles game opening report retire watch watched (statement.Kept query) is = kept query is
no_statement words searched import_ make wait until kept signature players doubles game opening report retire watch watched (statement.Signature pattern) is = signature pattern is
no_statement words searched import_ make wait until kept signature players doubles game opening report retire watch watched statement.Players is = players is
no_statement words searched import_ make wait until kept signature players doubles game opening report retire watch watched statement.Doubles is = doubles is
no_statement words searched import_ make wait until kept signature players doubles game opening report retire watch watched (statement.Game number) is = game number is
no_statement words searched import_ make wait until kept signature players doubles game opening report retire watch watched (statement.Opening shape depth least) is = opening shape depth least is
no_statement words searched import_ make wait until kept signature players doubles game opening report retire watch watched statement.Report is = report is
no_statement words searched import_ make wait until kept signature players doubles game opening report retire watch watched (statement.Retire name) is = retire name is
no_statement words searched import_ make wait until kept signature players doubles game opening report retire watch watched (statement.Watch name query filter) is = watch name query filter is
no_statement words searched import_ make wait until kept signature players doubles game opening report retire watch watched (statement.Watched name) is = watched name is

-- ---- the kinds of statements, by the words with which they begin

-- What a statement that takes one line does.
pub data Kind : Type 0 where
  imports : Kind
  makes : Kind
  waits : Kind
  awaits : Kind
  searches : Kind
  counts : Kind
  signs : Kind
  players : Kind
  doubles : Kind
  shows : Kind
  opens : Kind
  reports : Kind
  retires : Kind
  watches : Kind
  tells : Kind

-- the kind of a statement; a block has none
abbrev pub kind_of : Statement → Option Kind
kind_of (statement.Import path) = Some imports
kind_of (statement.Make games start) = Some makes
kind_of statement.Wait = Some waits
kind_of (statement.Until number) = Some awaits
kind_of (statement.Search query filter) = Some searches
kind_of (statement.Together others) = None
kind_of (statement.Kept query) = Some counts
kind_of (statement.Signature pattern) = Some signs
kind_of statement.Players = Some players
kind_of statement.Doubles = Some doubles
kind_of (statement.Game number) = Some shows
kind_of (statement.Opening shape depth least) = Some opens
kind_of statement.Report = Some reports
kind_of (statement.Retire name) = Some retires
kind_of (statement.Watch name query filter) = Some watches
kind_of (statement.Watched name) = Some tells

-- the kind of the statements that begin with this bare word
abbrev pub kind_named : List ℕ → Option Kind
kind_named name =
    if bytes_eq name (codes "import") then Some imports
    else (if bytes_eq name (codes "make") then Some makes
    else (if bytes_eq name (codes "wait") then Some waits
    else (if bytes_eq name (codes "until") then Some awaits
    else (if bytes_eq name (codes "search") then Some searches
    else (if bytes_eq name (codes "kept") then Some counts
    else (if bytes_eq name (codes "signature") then Some signs
    else (if bytes_eq name (codes "players") then Some players
    else (if bytes_eq name (codes "doubles") then Some doubles
    else (if bytes_eq name (codes "game") then Some shows
    else (if bytes_eq name (codes "opening") then Some opens
    else (if bytes_eq name (codes "report") then Some reports
    else (if bytes_eq name (codes "retire") then Some retires
    else (if bytes_eq name (codes "watch") then Some watches
    else (if bytes_eq name (codes "watched") then Some tells
    else None))))))))))))))

-- the statement is of this kind
abbrev pub IsOfKind : Option Kind → Statement → Type 0
IsOfKind (Some imports) s = (path : List ℕ) × (s ≡ statement.Import path)
IsOfKind (Some makes) s = (games : ℕ) × (start : ℕ) × (s ≡ statement.Make games start)
IsOfKind (Some waits) s = s ≡ statement.Wait
IsOfKind (Some awaits) s = (number : ℕ) × (s ≡ statement.Until number)
IsOfKind (Some searches) s = IsSearch s
IsOfKind (Some counts) s = (query : Query) × (s ≡ statement.Kept query)
IsOfKind (Some signs) s = (pattern : SigPattern) × (s ≡ statement.Signature pattern)
IsOfKind (Some players) s = s ≡ statement.Players
IsOfKind (Some doubles) s = s ≡ statement.Doubles
IsOfKind (Some shows) s = (number : ℕ) × (s ≡ statement.Game number)
IsOfKind (Some opens) s = (shape : Shape) × (depth : ℕ) × (least : ℕ) × (s ≡ statement.Opening shape depth least)
IsOfKind (Some reports) s = s ≡ statement.Report
IsOfKind (Some retires) s = (name : List ℕ) × (s ≡ statement.Retire name)
IsOfKind (Some watches) s = (name : List ℕ) × (query : Query) × (filter : Filter) × (s ≡ statement.Watch name query filter)
IsOfKind (Some tells) s = (name : List ℕ) × (s ≡ statement.Watched name)
IsOfKind None s = Unit {0}

of_kind : (s : Statement) → IsOfKind (kind_of s) s
of_kind (statement.Import path) = (path, refl)
of_kind (statement.Make games start) = (games, start, refl)
of_kind statement.Wait = refl
of_kind (statement.Until number) = (number, refl)
of_kind (statement.Search query filter) = (query, filter, refl)
of_kind (statement.Together others) = tt
of_kind (statement.Kept query) = (query, refl)
of_kind (statement.Signature pattern) = (pattern, refl)
of_kind statement.Players = refl
of_kind statement.Doubles = refl
of_kind (statement.Game number) = (number, refl)
of_kind (statement.Opening shape depth least) = (shape, depth, least, refl)
of_kind statement.Report = refl
of_kind (statement.Retire name) = (name, refl)
of_kind (statement.Watch name query filter) = (name, query, filter, refl)
of_kind (statement.Watched name) = (name, refl)

-- the words begin with a bare word that names the kind of the statement
record IsNamed (words : List Word) (s : Statement) : Type 0 where
  name : List ℕ
  rest : List Word
  kind : Kind
  begins : words ≡ bare name ∷ rest
  names : kind_named name ≡ Some kind
  is_kind : kind_of s ≡ Some kind

name_of : (words : List Word) (s : Statement) → IsStatement words s → IsNamed words s
name_of words (statement.Import path) (w, is, path_is) = record { name = codes "import"; rest = w ∷ []; kind = imports; begins = is; names = refl; is_kind = refl }
name_of words (statement.Make games start) (w, v, is, numbers) = record { name = codes "make"; rest = w ∷ v ∷ []; kind = makes; begins = is; names = refl; is_kind = refl }
name_of words statement.Wait is = record { name = codes "wait"; rest = []; kind = waits; begins = is; names = refl; is_kind = refl }
name_of words (statement.Until number) (w, is, number_is, bound) = record { name = codes "until"; rest = w ∷ []; kind = awaits; begins = is; names = refl; is_kind = refl }
name_of words (statement.Search query filter) (body, is, spelled) = record { name = codes "search"; rest = body; kind = searches; begins = is; names = refl; is_kind = refl }
name_of words (statement.Together others) is = absurd is
name_of words (statement.Kept query) (body, is, spelled) = record { name = codes "kept"; rest = body; kind = counts; begins = is; names = refl; is_kind = refl }
name_of words (statement.Signature pattern) (is, pattern_is) = record { name = codes "signature"; rest = bare pattern.bytes ∷ []; kind = signs; begins = is; names = refl; is_kind = refl }
name_of words statement.Players is = record { name = codes "players"; rest = []; kind = players; begins = is; names = refl; is_kind = refl }
name_of words statement.Doubles is = record { name = codes "doubles"; rest = []; kind = doubles; begins = is; names = refl; is_kind = refl }
name_of words (statement.Game number) (w, is, number_is, bound) = record { name = codes "game"; rest = w ∷ []; kind = shows; begins = is; names = refl; is_kind = refl }
name_of words (statement.Opening shape depth least) (c, r, d, m, is, numbers) = record { name = codes "opening"; rest = c ∷ r ∷ d ∷ m ∷ []; kind = opens; begins = is; names = refl; is_kind = refl }
name_of words statement.Report is = record { name = codes "report"; rest = []; kind = reports; begins = is; names = refl; is_kind = refl }
name_of words (statement.Retire name) (is, utf8) = record { name = codes "retire"; rest = bare name ∷ []; kind = retires; begins = is; names = refl; is_kind = refl }
name_of words (statement.Watch name query filter) (body, is, spelled) = record { name = codes "watch"; rest = body; kind = watches; begins = is; names = refl; is_kind = refl }
name_of words (statement.Watched name) (is, utf8) = record { name = codes "watched"; rest = bare name ∷ []; kind = tells; begins = is; names = refl; is_kind = refl }

-- words that begin with a name spell a statement of its kind
pub of_name : (words rest : List Word) (name : List ℕ) (s : Statement) → words ≡ bare name ∷ rest → IsStatement words s → IsOfKind (kind_named name) s
of_name words rest name s is spelled =
    let own = name_of words s spelled in
    let both : bare own.name ∷ own.rest ≡ bare name ∷ rest = sym own.begins ∙ is in
    let same : own.name ≡ name = cc in
    subst (λ k. IsOfKind k s) (own.is_kind ∙ sym own.names ∙ ap kind_named same) (of_kind s)

-- words that begin with another name spell no statement
pub no_name : (words rest : List Word) (name : List ℕ) (s : Statement) → kind_named name ≡ None → words ≡ bare name ∷ rest → ¬ IsStatement words s
no_name words rest name s none is spelled =
    let own = name_of words s spelled in
    let both : bare own.name ∷ own.rest ≡ bare name ∷ rest = sym own.begins ∙ is in
    let same : own.name ≡ name = cc in
    let apart : None ≡ Some own.kind = sym none ∙ ap kind_named (sym same) ∙ own.names in
    absurd (cc apart)

other_first : (a b : ℕ) (x y : List ℕ) → a ≢ b → a ∷ x ≢ b ∷ y
other_first a b x y differ e = let first : a ≡ b = cc in differ first

-- a line that spells a search spells no other statement
pub SpellsStatement-search : (text : List ℕ) (s other : Statement) → SpellsStatement text s → SpellsStatement text other → IsSearch other → IsSearch s
SpellsStatement-search text s other (words, are, spelled) (others, are_others, spelled_other) (query, filter, is) =
    let (body, name, is_body) = subst (IsStatement others) is spelled_other in
    of_name words body (codes "search") s (AreWords-once text words others are are_others ∙ name) spelled

-- ---- skipped lines

-- a remark behind the blanks of a line
pub skipped : (text rest : List ℕ) → IsBehindBlanks text rest → IsRemark rest → IsSkipped text
skipped text rest (blanks, is, are_blanks) remark = record { blanks = blanks; rest = rest; split = is; are_blanks = are_blanks; remark = remark }

pub skipped-remark : (text rest : List ℕ) → IsBehindBlanks text rest → BeginsWithNoBlank rest → IsSkipped text → IsRemark rest
skipped-remark text rest (blanks, is, are_blanks) starts skip =
    subst IsRemark (behind_blanks-once skip.blanks blanks skip.rest rest skip.are_blanks are_blanks (remark-begins skip.rest skip.remark) starts (sym skip.split ∙ is)) skip.remark

-- the first word of a skipped line is that of no statement
skipped-no_name : (text name : List ℕ) (words rest : List Word) → IsSkipped text → AreWords text words → ((more : List ℕ) → name ≢ 35 ∷ more) → words ≢ bare name ∷ rest
skipped-no_name text name words rest skip are no_comment is = elim (skipped_words text words skip are) [
  | inl empty ↦ let both : [] ≡ bare name ∷ rest = sym empty ∙ is in absurd (cc both)
  | inr (more, others, comment) ↦
      let both : bare name ∷ rest ≡ bare (35 ∷ more) ∷ others = sym is ∙ comment in
      let same : name ≡ 35 ∷ more = cc in
      no_comment more same
]

pub skipped-line : (text : List ℕ) → IsSkipped text → IsLine text line.Skipped
skipped-line text skip = (
  skip,
  (λ together. skipped-no_name text (codes "together") (bare (codes "together") ∷ []) [] skip together (λ more. other_first 116 35 _ more (λ e. omega (arith, e))) refl),
  (λ end. skipped-no_name text (codes "end") (bare (codes "end") ∷ []) [] skip end (λ more. other_first 101 35 _ more (λ e. omega (arith, e))) refl),
  (λ s (words, are, spelled).
      let own = name_of words s spelled in
      skipped-no_name text own.name words own.rest skip are
      (λ more comment. let apart : None ≡ Some own.kind = ap kind_named (sym comment) ∙ own.names in absurd (cc apart)) own.begins),
)

-- ---- other lines

-- the beginning of a block
pub together-line : (text : List ℕ) (words : List Word) → AreWords text words → ¬ IsSkipped text → words ≡ bare (codes "together") ∷ [] → IsLine text line.Together
together-line text words are shown is = (
  subst (AreWords text) is are,
  shown,
  (λ end. let both : bare (codes "end") ∷ [] ≡ bare (codes "together") ∷ [] = AreWords-once text (bare (codes "end") ∷ []) words end are ∙ is in absurd (cc both)),
  (λ s (others, are_others, spelled). no_name others [] (codes "together") s refl (AreWords-once text others words are_others are ∙ is) spelled),
)

-- the end of a block
pub end-line : (text : List ℕ) (words : List Word) → AreWords text words → ¬ IsSkipped text → words ≡ bare (codes "end") ∷ [] → IsLine text line.End
end-line text words are shown is = (
  subst (AreWords text) is are,
  shown,
  (λ together. let both : bare (codes "together") ∷ [] ≡ bare (codes "end") ∷ [] = AreWords-once text (bare (codes "together") ∷ []) words together are ∙ is in absurd (cc both)),
  (λ s (others, are_others, spelled). no_name others [] (codes "end") s refl (AreWords-once text others words are_others are ∙ is) spelled),
)

-- a statement
pub statement-line : (text : List ℕ) (words : List Word) (s : Statement) → AreWords text words → ¬ IsSkipped text → words ≢ bare (codes "together") ∷ [] → words ≢ bare (codes "end") ∷ [] → IsStatement words s → IsLine text (line.Statement s)
statement-line text words s are shown no_together no_end spelled = (
  (words, are, spelled),
  shown,
  (λ together. no_together (sym (AreWords-once text (bare (codes "together") ∷ []) words together are))),
  (λ end. no_end (sym (AreWords-once text (bare (codes "end") ∷ []) words end are))),
  (λ other spelled_other. SpellsStatement-search text s other (words, are, spelled) spelled_other),
)

-- words that spell nothing
pub bad-line : (text : List ℕ) (words : List Word) → AreWords text words → ¬ IsSkipped text → words ≢ bare (codes "together") ∷ [] → words ≢ bare (codes "end") ∷ [] → ((s : Statement) → ¬ IsStatement words s) → IsLine text line.Bad
bad-line text words are shown no_together no_end none = (
  shown,
  (λ together. no_together (sym (AreWords-once text (bare (codes "together") ∷ []) words together are))),
  (λ end. no_end (sym (AreWords-once text (bare (codes "end") ∷ []) words end are))),
  (λ s (others, are_others, spelled). none s (subst (λ l. IsStatement l s) (AreWords-once text others words are_others are) spelled)),
)
