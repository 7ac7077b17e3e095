-- What stands at the head of the text of a statement that names a version: its line, what is asked, and
-- the number.
use Rattle.std.proofs.Common.{◌≡◌, ◌∙◌, ℕ, ◌^◌, ◌<◌, false, List, [], ◌∷◌, ◌++◌, length, codes, refl, sym, ap, subst, append_assoc}
use Rattle.std.specs.Char.{is_ascii_digit}
use Rattle.std.specs.Fmt.{decimal}
use Rattle.std.specs.List.{flat_map}
use Rattle.std.proofs.lemmas.List.{append-nil, append_cancel_left}
use Rattle.kb_geometry.specs.declared.shape.Shape.{Shape}
use Rattle.info_filter.specs.declared.filter.Filter.{Filter}
use Rattle.pattern_images.specs.declared.query.Query.{Query}
use Rattle.query_script.specs.Bytes.{line_feed}
use Rattle.query_script.specs.Texts.{double_text, found_game_text, game_head, head_text, hit_text, no_game_text, player_text, row_text, total_text, until_text, watch_text}
use Rattle.session_core.specs.Answers.{IsDoublesText, IsGameText, IsKeptText, IsOpeningText, IsPlayersText, IsSearched, IsSignatureText, IsWatchBegun, IsWatchMissing, IsWatchTaken, IsWatchTold, View}
use Rattle.session_core.specs.Doubles.{Group, groups_of}
use Rattle.session_core.specs.OpeningLines.{opening_lines}
use Rattle.session_core.specs.SessionState.{SessionState}
use Rattle.session_core.specs.Signed.{FoundGame}
use Rattle.run_audit.specs.Chosen.{StandsAt}
use Rattle.run_audit.specs.Guided.{NamesBehind, version_head}
use Rattle.run_audit.proofs.ChosenNumbers.{stands-one}

-- ---- one text names one number

pub names-one : (line : ℕ) (asked text : List ℕ) (m n : ℕ) → m < 2 ^ 64 → n < 2 ^ 64 → NamesBehind line asked text m → NamesBehind line asked text n → m ≡ n
names-one line asked text m n m_few n_few a b =
    let same = append_cancel_left (version_head line asked) a.others b.others (sym a.text_is ∙ b.text_is) in
    stands-one b.others m n m_few n_few (subst (λ t. StandsAt t m) same a.stands) b.stands

-- ---- a line with a number, and a byte behind it that is no digit

regrouped : (a b c d e rest more : List ℕ) → (a ++ (b ++ (c ++ (d ++ (e ++ rest))))) ++ more ≡ (a ++ (b ++ (c ++ d))) ++ (e ++ (rest ++ more))
regrouped a b c d e rest more =
    append_assoc a (b ++ (c ++ (d ++ (e ++ rest)))) more
    ∙ ap (λ t. a ++ t)
    (append_assoc b (c ++ (d ++ (e ++ rest))) more
    ∙ ap (λ t. b ++ t)
    (append_assoc c (d ++ (e ++ rest)) more
    ∙ ap (λ t. c ++ t) (append_assoc d (e ++ rest) more ∙ ap (λ t. d ++ t) (append_assoc e rest more))
    ∙ sym (append_assoc c d (e ++ (rest ++ more))))
    ∙ sym (append_assoc b (c ++ d) (e ++ (rest ++ more))))
    ∙ sym (append_assoc a (b ++ (c ++ d)) (e ++ (rest ++ more)))

-- what is asked stands in the text as one word
named-text : (line : ℕ) (asked : List ℕ) (n byte : ℕ) (rest more text : List ℕ) → is_ascii_digit byte ≡ false →
    text ≡ (decimal line ++ (codes " " ++ (asked ++ (codes " version " ++ (decimal n ++ byte ∷ rest))))) ++ more → NamesBehind line asked text n
named-text line asked n byte rest more text ended is = record {
  others = decimal n ++ (byte ∷ (rest ++ more));
  text_is = is ∙ regrouped (decimal line) (codes " ") asked (codes " version ") (decimal n) (byte ∷ rest) more;
  stands = record { behind = byte ∷ (rest ++ more); begins = refl; ended = ended };
}

-- it stands there as two
named-apart : (line : ℕ) (word what : List ℕ) (n byte : ℕ) (rest more text : List ℕ) → is_ascii_digit byte ≡ false →
    text ≡ (decimal line ++ (codes " " ++ (word ++ (what ++ (codes " version " ++ (decimal n ++ byte ∷ rest)))))) ++ more → NamesBehind line (word ++ what) text n
named-apart line word what n byte rest more text ended is =
    named-text line (word ++ what) n byte rest more text ended
    (is ∙ ap (λ t. (decimal line ++ (codes " " ++ t)) ++ more) (sym (append_assoc word what (codes " version " ++ (decimal n ++ byte ∷ rest)))))

-- the first line of a text that counts something
pub head-text : (line : ℕ) (asked counted : List ℕ) (version games count : ℕ) (more text : List ℕ) → text ≡ head_text line asked version games counted count ++ more → NamesBehind line asked text version
head-text line asked counted version games count more text is =
    named-text line asked version 32 (codes "games " ++ (decimal games ++ (codes " " ++ (counted ++ (codes " " ++ (decimal count ++ line_feed ∷ [])))))) more text refl is

-- the same where nothing more follows
head-alone : (line : ℕ) (asked counted : List ℕ) (version games count : ℕ) (text : List ℕ) → text ≡ head_text line asked version games counted count → NamesBehind line asked text version
head-alone line asked counted version games count text is =
    head-text line asked counted version games count [] text (is ∙ sym (append-nil (head_text line asked version games counted count)))

-- ---- the text of a statement names the version

pub until-names : (line number version : ℕ) (text : List ℕ) → text ≡ until_text line number version → NamesBehind line (codes "until " ++ decimal number) text version
until-names line number version text is =
    named-apart line (codes "until ") (decimal number) version line_feed [] [] text refl (is ∙ sym (append-nil (until_text line number version)))

module _ (line : ℕ) (view : View) where
  pub search-names : (query : Query) (filter : Filter) (session after : SessionState) (text : List ℕ) → IsSearched line view query filter session text after → NamesBehind line (codes "search") text view.version
  search-names query filter session after text of =
      head-text line (codes "search") (codes "hits") view.version (length view.games) (length of.hits)
      (flat_map hit_text of.hits ++ (flat_map row_text of.is_text.table.rows ++ total_text of.is_text.table.totals)) text of.is_text.text_is

  pub kept-names : (query : Query) (text : List ℕ) → IsKeptText line view query text → NamesBehind line (codes "kept") text view.version
  kept-names query text of = head-alone line (codes "kept") (codes "kept") view.version (length view.games) of.kept text of.text_is

  pub signature-names : (pattern text : List ℕ) → IsSignatureText line view pattern text → NamesBehind line (codes "signature") text view.version
  signature-names pattern text of =
      head-text line (codes "signature") (codes "found") view.version (length view.games) (length of.found)
      (flat_map (λ (s : FoundGame). found_game_text s.game s.form) of.found) text of.text_is

  pub players-names : (text : List ℕ) → IsPlayersText line view text → NamesBehind line (codes "players") text view.version
  players-names text of =
      head-text line (codes "players") (codes "names") view.version (length view.games) (length of.rows) (flat_map player_text of.rows) text of.text_is

  pub doubles-names : (text : List ℕ) → IsDoublesText line view text → NamesBehind line (codes "doubles") text view.version
  doubles-names text of =
      head-text line (codes "doubles") (codes "groups") view.version (length view.games) (length (groups_of of.keys))
      (flat_map (λ (g : Group). double_text g.form g.games) (groups_of of.keys)) text of.text_is

  pub opening-names : (shape : Shape) (depth least : ℕ) (text : List ℕ) → IsOpeningText line view shape depth least text → NamesBehind line (codes "opening") text view.version
  opening-names shape depth least text of =
      head-text line (codes "opening") (codes "positions") view.version (length view.games) (length of.openings) (flat_map opening_lines of.openings) text of.text_is

  pub game-names : (number : ℕ) (text : List ℕ) → IsGameText line view number text → NamesBehind line (codes "game " ++ decimal number) text view.version
  game-names number _ (IsGameText.there game written there is) =
      named-apart line (codes "game ") (decimal number) view.version 32
      (codes "place " ++ (decimal game.place ++ (codes " file " ++ (game.file ++ line_feed ∷ [])))) (written ++ line_feed ∷ [])
      (game_head line number view.version game.place game.file ++ (written ++ line_feed ∷ [])) refl refl
  game-names number _ (IsGameText.none past) =
      named-apart line (codes "game ") (decimal number) view.version 32 (codes "none" ++ line_feed ∷ []) [] (no_game_text line number view.version) refl
      (sym (append-nil (no_game_text line number view.version)))

  pub begun-names : (name : List ℕ) (query : Query) (filter : Filter) (session after : SessionState) (text : List ℕ) → IsWatchBegun line view name query filter session text after → NamesBehind line (codes "watch " ++ name) text view.version
  begun-names name query filter session after text of =
      named-apart line (codes "watch ") name view.version 32 (codes "hits " ++ (decimal (length of.hits) ++ line_feed ∷ [])) [] text refl
      (of.text_is ∙ sym (append-nil (watch_text line name view.version (length of.hits))))

  pub told-names : (name : List ℕ) (session after : SessionState) (text : List ℕ) → IsWatchTold line view name session text after → NamesBehind line (codes "watched " ++ name) text view.version
  told-names name session after text of =
      named-apart line (codes "watched ") name view.version 32
      (codes "games " ++ (decimal (length view.games) ++ (codes " hits " ++ (decimal (length of.hits) ++ line_feed ∷ []))))
      (flat_map hit_text of.hits ++ (flat_map row_text of.table.rows ++ total_text of.table.totals)) text refl of.text_is

-- ---- texts that name none

-- where something else stands in place of the number
unnamed : (line : ℕ) (word name behind text : List ℕ) (number : ℕ) → ((others : List ℕ) → codes " version " ++ others ≡ behind → ⊥) →
    text ≡ decimal line ++ (codes " " ++ (word ++ (name ++ behind))) → NamesBehind line (word ++ name) text number → ⊥
unnamed line word name behind text number other is named =
    let whole : version_head line (word ++ name) ++ named.others ≡ decimal line ++ (codes " " ++ (word ++ (name ++ (codes " version " ++ named.others)))) =
    append_assoc (decimal line) (codes " " ++ ((word ++ name) ++ codes " version ")) named.others
    ∙ ap (λ t. decimal line ++ t)
    (append_assoc (codes " ") ((word ++ name) ++ codes " version ") named.others
    ∙ ap (λ t. codes " " ++ t)
    (append_assoc (word ++ name) (codes " version ") named.others ∙ append_assoc word name (codes " version " ++ named.others))) in
    let same = sym whole ∙ sym named.text_is ∙ is in
    let first = append_cancel_left (decimal line) (codes " " ++ (word ++ (name ++ (codes " version " ++ named.others)))) (codes " " ++ (word ++ (name ++ behind))) same in
    let second = append_cancel_left (codes " ") (word ++ (name ++ (codes " version " ++ named.others))) (word ++ (name ++ behind)) first in
    let third = append_cancel_left word (name ++ (codes " version " ++ named.others)) (name ++ behind) second in
    other named.others (append_cancel_left name (codes " version " ++ named.others) behind third)

not_taken : (others : List ℕ) → codes " version " ++ others ≡ codes " taken" ++ line_feed ∷ [] → ⊥
not_taken others e = cc

not_none : (others : List ℕ) → codes " version " ++ others ≡ codes " none" ++ line_feed ∷ [] → ⊥
not_none others e = cc

pub taken-unnamed : (line : ℕ) (name : List ℕ) (session after : SessionState) (text : List ℕ) (number : ℕ) → IsWatchTaken line name session text after → NamesBehind line (codes "watch " ++ name) text number → ⊥
taken-unnamed line name session after text number of named = unnamed line (codes "watch ") name (codes " taken" ++ line_feed ∷ []) text number not_taken of.text_is named

pub missing-unnamed : (line : ℕ) (name : List ℕ) (session after : SessionState) (text : List ℕ) (number : ℕ) → IsWatchMissing line name session text after → NamesBehind line (codes "watched " ++ name) text number → ⊥
missing-unnamed line name session after text number of named = unnamed line (codes "watched ") name (codes " none" ++ line_feed ∷ []) text number not_none of.text_is named
