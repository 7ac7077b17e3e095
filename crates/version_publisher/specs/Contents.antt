-- What is published, what a publisher and a searcher are seen as, and the rule of the published
-- value.
use Rattle.std.specs.Prelude.{ℕ, ◌≡◌, ◌≢◌, ◌⊎◌, ◌≤◌, ◌<◌, Bool, true, false, List, [], ◌∷◌, ◌++◌, length, nat_lt, if◌then◌else◌}
use mathlib.Core.Option.{some}
use mathlib.Core.List.{IsPrefix}
use lib.ListN.{get_elem?}
use Rattle.logbook.specs.Pages.{Book}
use Rattle.version_publisher.specs.declared.state.Content.{Content}
use Rattle.version_publisher.specs.declared.state.Knowledge.{Knowledge}
use Rattle.version_publisher.specs.declared.state.SearcherState.{SearcherState}

-- the lists, one after another
abbrev pub items_in : {A : Type 0} → List (List A) → List A
items_in [] = []
items_in (x ∷ xs) = x ++ items_in xs

-- the name of a log's book, its three numbers: it tells one opening of a publisher from all others
abbrev pub BookName : Type 0
BookName = ℕ × ℕ × ℕ

-- the name of this book
abbrev pub book_name_of : Book → BookName
book_name_of b = (b.number, b.log_name, b.cells_name)

abbrev pub content : {A : Type 0} → ℕ → List (List A) → List (List A) → Book → Content A
content n parts log b = record { number = n; parts = parts; log = log; opening = book_name_of b }

-- the content with these parts behind its own, the log then being this one
abbrev pub extended : {A : Type 0} → Content A → ℕ → List (List A) → List (List A) → Book →
    Content A
extended c n parts log b = record {
  number = n;
  parts = c.parts ++ parts;
  log = log;
  opening = book_name_of b;
}

-- the list with this element in the place of its last two; a list of fewer stays
abbrev pub merged_last : {B : Type 0} → List B → B → List B
merged_last [] x = []
merged_last (a ∷ []) x = a ∷ []
merged_last (a ∷ b ∷ []) x = x ∷ []
merged_last (a ∷ b ∷ c ∷ xs) x = a ∷ merged_last (b ∷ c ∷ xs) x

-- the last two lists, one after the other
abbrev pub last_two_joined : {A : Type 0} → List (List A) → List A
last_two_joined [] = []
last_two_joined (a ∷ []) = a
last_two_joined (a ∷ b ∷ []) = a ++ b
last_two_joined (a ∷ b ∷ c ∷ xs) = last_two_joined (b ∷ c ∷ xs)

-- the content with this part in the place of its last two
abbrev pub merged_content : {A : Type 0} → Content A → List A → Content A
merged_content c part = record c { parts = merged_last c.parts part }

-- the number is the length of the log, and the parts hold the log's items, of which there are not
-- too many
abbrev pub IsConsistent : {A : Type 0} → ℕ → Content A → Type 0
IsConsistent most c = (c.number ≡ length c.log) × (items_in c.parts ≡ items_in c.log)
    × (length (items_in c.log) ≤ most)

-- no opening but this one is known
abbrev pub KnowsOnly : BookName → List BookName → Type 0
KnowsOnly b [] = Unit {0}
KnowsOnly b (x ∷ xs) = (x ≡ b) × KnowsOnly b xs

-- exactly one opening is known
abbrev pub KnowsOne : List BookName → Type 0
KnowsOne v = (b : BookName) × (v ≡ b ∷ [])

-- the log is empty, or one of these
abbrev pub IsEmptyOrAmong : {B : Type 0} → List B → List (List B) → Type 0
IsEmptyOrAmong log [] = log ≡ []
IsEmptyOrAmong log (x ∷ xs) = (log ≡ x) ⊎ IsEmptyOrAmong log xs

-- all of these logs are empty
abbrev pub AreEmpty : {B : Type 0} → List (List B) → Type 0
AreEmpty [] = Unit {0}
AreEmpty (x ∷ xs) = (x ≡ []) × AreEmpty xs

-- all of these logs are prefixes of this one
abbrev pub ArePrefixes : {B : Type 0} → List (List B) → List B → Type 0
ArePrefixes [] log = Unit {0}
ArePrefixes (x ∷ xs) log = IsPrefix x log × ArePrefixes xs log

-- What one seat may know, where the publisher's seat is this and these logs were published, in
-- order: no opening but this one, it has read none but published logs, and the publisher alone has
-- published
abbrev pub IsLawfulSeat : {A : Type 0} → ℕ → List (List (List A)) → BookName → ℕ → Knowledge A →
    Type 0
IsLawfulSeat publisher history opening seat v =
    KnowsOnly opening v.openings × IsEmptyOrAmong v.read history
    × (seat ≡ publisher → v.published ≡ history) × (seat ≢ publisher → AreEmpty v.published)

-- The rule of the published value: it is consistent, its log was published, all logs that were
-- published are prefixes of it, and each seat knows what it may
pub record IsLawfulContent {A : Type 0} (most : ℕ) (c : Content A)
    (views : List (Knowledge A)) : Type 0 where
  pub publisher : ℕ
  pub history : List (List (List A))
  pub consistent : IsConsistent most c
  pub is_seat : publisher < length views
  pub is_published : IsEmptyOrAmong c.log history
  pub rises : ArePrefixes history c.log
  pub each_seat : (seat : ℕ) (v : Knowledge A) → get_elem? views seat ≡ some v →
      IsLawfulSeat publisher history c.opening seat v

-- Under the rule, whoever has published what is published has published each log that anyone has
-- read
abbrev pub ReadsArePublished : Type 0 → ℕ → Type 0
ReadsArePublished A most =
    (c : Content A) (views : List (Knowledge A)) → IsLawfulContent most c views
    → (seat : ℕ) (v : Knowledge A) → get_elem? views seat ≡ some v →
    IsEmptyOrAmong c.log v.published
    → (other : ℕ) (u : Knowledge A) → get_elem? views other ≡ some u →
    IsEmptyOrAmong u.read v.published

-- A content to which a publish of that one may go
abbrev pub MayFollow : {A : Type 0} → ℕ → Content A → Content A → Type 0
MayFollow most x y = IsConsistent most y × (y.opening ≡ x.opening) × IsPrefix x.log y.log

-- What a reader or the writer knows at first
abbrev pub nothing_known : {A : Type 0} → Knowledge A
nothing_known = record { openings = []; read = []; published = [] }

-- What is known after a look at this content
abbrev pub after_look : {A : Type 0} → Knowledge A → Content A → Knowledge A
after_look v c = record v { openings = c.opening ∷ []; read = c.log }

-- What is known after a publish of this content
abbrev pub after_publish : {A : Type 0} → Knowledge A → Content A → Knowledge A
after_publish v c = record v { openings = c.opening ∷ []; published = v.published ++ c.log ∷ [] }

-- What a look at the content y tells a reader that knew v and then knows w
abbrev pub LookTells : {A : Type 0} → ℕ → Knowledge A → Content A → Knowledge A → Type 0
LookTells most v y w = KnowsOnly y.opening v.openings × IsConsistent most y × IsPrefix v.read y.log
    × (w ≡ after_look v y)

-- What a publish of the content y tells the writer that knew v and then knows w
abbrev pub PublishTells : {A : Type 0} → Knowledge A → Content A → Knowledge A → Type 0
PublishTells v y w = (w ≡ after_publish v y) × IsEmptyOrAmong y.log w.published

-- What holds between two calls of a publisher: of what is published, of what it is once the queued
-- changes are made, of the parts that wait behind them, and of the whole log
pub record IsReady {A : Type 0} (most : ℕ) (published next : Content A)
    (waiting whole : List (List A)) (b : Book) : Type 0 where
  pub published_consistent : IsConsistent most published
  pub next_consistent : IsConsistent most next
  pub published_opening : published.opening ≡ book_name_of b
  pub next_opening : next.opening ≡ book_name_of b
  pub grows : IsPrefix published.log next.log
  pub is_whole : next.log ++ waiting ≡ whole
  pub fits : length (items_in whole) ≤ most

-- a searcher of this opening that has read, seen and learned nothing
abbrev pub IsNewSearcher : {A : Type 0} → BookName → SearcherState A → Type 0
IsNewSearcher b s = (s.opening ≡ b) × (s.read ≡ []) × (s.seen ≡ []) × (s.learned ≡ [])

-- the longer of two lists, and the second where they are as long
abbrev pub longer : {A : Type 0} → List A → List A → List A
longer xs ys = if nat_lt (length ys) (length xs) then xs else ys

abbrev pub is_nonempty : {X : Type 0} → List X → Bool
is_nonempty [] = false
is_nonempty (x ∷ xs) = true
