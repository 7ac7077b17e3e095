-- The texts of answers, from what was printed.
use Rattle.std.proofs.Common.{◌≡◌, ◌≢◌, ℕ, ◌≤◌, inl, inr, Some, None, List, [], ◌∷◌, ◌++◌, All, length, map, take, slice_get, subst, sym, ap, ◌∙◌}
use Rattle.std.proofs.Math.Seq.{take-append_seam}
use Rattle.std.proofs.lemmas.List.Elements.{All-map}
use Rattle.std.specs.Prelude.{Result, Ok, Err, OnErr, OnOk}
use Rattle.std.proofs.lemmas.Option.{get_or_from_slice_get, slice_get_cases, slice_get_within}
use Rattle.indexmap.proofs.MapLemmas.{OnOk-map}
use Rattle.sgf_writer.specs.Written.{IsWritten}
use Rattle.pattern_images.specs.declared.hit.Hit.{Hit}
use Rattle.pattern_images.specs.declared.query.Query.{Query}
use Rattle.info_filter.specs.declared.filter.Filter.{Filter}
use Rattle.continuation_table.specs.Table.{IsTable, TableView}
use Rattle.node_position.specs.Games.{Game}
use Rattle.query_script.specs.Texts.{game_head, no_game_text, no_retire_text, retire_text, search_text}
use Rattle.search_engine.specs.Hits.{AreHits}
use Rattle.hit_collectors.specs.Boxes.{IsFedInPart, IsRetired}
use Rattle.hit_collectors.specs.Tallies.{BoxTally}
use Rattle.session_core.specs.Answers.{IsGameText, IsLeft, IsRetiredBy, IsSearched, View}
use Rattle.session_core.specs.SessionState.{SessionState, Watched, fed_with, session_of, with_boxes}

-- the text of a search was appended, and its hits were given to the boxes
pub IsSearched-delivered : {T E : Type 0} (result : Result T E) (line number games : ℕ) (hits : List Hit) (table : TableView) (session after : SessionState) (old new : List ℕ)
    → OnOk result (new ≡ old ++ search_text line number games hits table) → OnOk result (after ≡ fed_with hits session)
    → OnOk result ((view : View) (query : Query) (filter : Filter) → number ≡ view.version → games ≡ length view.games → AreHits query filter view.games hits → IsTable hits table
    → (text : List ℕ) × IsSearched line view query filter session text after × (new ≡ old ++ text))
IsSearched-delivered (Err e) line number games hits table session after old new printed fed = tt
IsSearched-delivered (Ok x) line number games hits table session after old new printed fed = λ view query filter own counted are is. (
  search_text line number games hits table,
  record {
    hits = hits;
    is_text = record { table = table; are_hits = are; is_table = is; text_is = λ i. search_text line (own i) (counted i) hits table };
    fed = fed;
  },
  printed,
)

-- the boxes were fed in part
pub IsLeft-fed : {T E : Type 0} (result : Result T E) (AreThese : List Hit → Type 0) (hits : List Hit) (session after : SessionState) (boxes : List BoxTally) → AreThese hits → after ≡ with_boxes session boxes
    → OnErr result (IsFedInPart hits session.boxes boxes) → OnErr result (IsLeft AreThese session after)
IsLeft-fed (Ok x) AreThese hits session after boxes these same fed = tt
IsLeft-fed (Err e) AreThese hits session after boxes these same fed = inr (hits, boxes, these, fed, same)

-- what is left by hits of which one thing holds is left by hits of which another does
pub IsLeft-weaker : {T E : Type 0} (result : Result T E) (AreThese AreThose : List Hit → Type 0) (session after : SessionState) → ((hits : List Hit) → AreThese hits → AreThose hits)
    → OnErr result (IsLeft AreThese session after) → OnErr result (IsLeft AreThose session after)
IsLeft-weaker (Ok x) AreThese AreThose session after weaker left = tt
IsLeft-weaker (Err e) AreThese AreThose session after weaker (inl same) = inl same
IsLeft-weaker (Err e) AreThese AreThose session after weaker (inr (hits, boxes, these, fed, is)) = inr (hits, boxes, weaker hits these, fed, is)

-- a box was retired, and told so
pub IsRetiredBy-retired : (line : ℕ) (name : List ℕ) (boxes after : List BoxTally) (old new : List ℕ) → IsRetired (λ (told : BoxTally). told.name) name boxes after → new ≡ old ++ retire_text line name
    → (watches : List Watched) → (text : List ℕ) × IsRetiredBy line name (session_of boxes watches) text (session_of after watches) × (new ≡ old ++ text)
IsRetiredBy-retired line name boxes after old new gone printed watches = (retire_text line name, IsRetiredBy.retired after gone, printed)

-- none was, and that was told, in place of what stood behind the old text
pub IsRetiredBy-none : {A T E : Type 0} (result : Result T E) (told : A → BoxTally) (line : ℕ) (name : List ℕ) (boxes after : List A) (old more between new : List ℕ) (count : ℕ)
    → All (λ (box : A). (told box).name ≢ name) boxes → after ≡ boxes → count ≡ length old → between ≡ take count (old ++ more) → OnOk result (new ≡ between ++ no_retire_text line name)
    → OnOk result ((watches : List Watched) → (text : List ℕ) × IsRetiredBy line name (session_of (map told boxes) watches) text (session_of (map told after) watches) × (new ≡ old ++ text))
IsRetiredBy-none (Err e) told line name boxes after old more between new count none same counted cut printed = tt
IsRetiredBy-none (Ok x) told line name boxes after old more between new count none same counted cut printed = λ watches.
    let all = All-map (λ (box : BoxTally). box.name ≢ name) told boxes none in (
      no_retire_text line name,
      subst (λ left. IsRetiredBy line name (session_of (map told boxes) watches) (no_retire_text line name) (session_of left watches)) (ap (map told) (sym same)) (IsRetiredBy.none all),
      printed ∙ ap (λ text. text ++ no_retire_text line name) (cut ∙ ap (λ n. take n (old ++ more)) counted ∙ take-append_seam old more),
    )

-- where nothing stands, a list is past its end
past_all : {A : Type 0} (xs : List A) (n : ℕ) → None ≡ slice_get xs n → length xs ≤ n
past_all xs n none = elim (slice_get_cases xs n).1 [
  | inl (x, below, found, same) ↦ let both : None ≡ Some x = none ∙ found in absurd cc
  | inr (past, nothing) ↦ past
]

module _ (line : ℕ) (view : View) (version number : ℕ) (own : version ≡ view.version) where
  -- the text of a game that is there was appended
  pub IsGameText-there : {T E : Type 0} (result : Result T E) (game : Game) (old new : List ℕ) → Some game ≡ slice_get view.games number
      → OnOk result ((written : List ℕ) × IsWritten game.tree written × (new ≡ old ++ (game_head line number version game.place game.file ++ (written ++ 10 ∷ []))))
      → OnOk result ((text : List ℕ) × IsGameText line view number text × (new ≡ old ++ text))
  IsGameText-there result game old new found printed =
      let below = slice_get_within view.games number game (sym found) in
      OnOk-map result _ _ (λ (written, is, same). (
        game_head line number view.version game.place game.file ++ (written ++ 10 ∷ []),
        IsGameText.there game written (record { in_range = below; at = λ d. get_or_from_slice_get view.games number game d (sym found) }) is,
        same ∙ ap (λ v. old ++ (game_head line number v game.place game.file ++ (written ++ 10 ∷ []))) own,
      )) printed

  -- that there is none was appended
  pub IsGameText-none : {T E : Type 0} (result : Result T E) (old new : List ℕ) → None ≡ slice_get view.games number → OnOk result (new ≡ old ++ no_game_text line number version)
      → OnOk result ((text : List ℕ) × IsGameText line view number text × (new ≡ old ++ text))
  IsGameText-none result old new none printed =
      OnOk-map result _ _ (λ same. (no_game_text line number view.version, IsGameText.none (past_all view.games number none), same ∙ ap (λ v. old ++ no_game_text line number v) own)) printed
