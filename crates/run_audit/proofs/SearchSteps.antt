-- The text of a search, printed and compared piece by piece.
use Rattle.std.proofs.Common.{◌≡◌, ◌∙◌, ℕ, List, [], ◌++◌, All, length, refl, sym, ap, subst, append-nil, append_assoc}
use Rattle.std.specs.List.{flat_map}
use Rattle.std.proofs.lemmas.Grind.{flat_map-append}
use Rattle.std.proofs.lemmas.List.{nil_from_length}
use Rattle.game_tree.specs.Tree.{IsTree}
use Rattle.node_position.specs.Games.{Game}
use Rattle.pattern_images.specs.declared.hit.Hit.{Hit}
use Rattle.pattern_images.specs.declared.query.Query.{Query}
use Rattle.info_filter.specs.declared.filter.Filter.{Filter}
use Rattle.continuation_table.specs.Table.{IsTable, TableView}
use Rattle.query_script.specs.Texts.{hit_text, row_text, search_head, search_text, total_text}
use Rattle.search_engine.specs.Hits.{AreHits}
use Rattle.session_core.specs.Answers.{IsSearched, View}
use Rattle.session_core.specs.SessionState.{SessionState, fed_with}
use Rattle.session_core.proofs.OneAnswer.{search-one}
use Rattle.run_audit.specs.Standing.{DepartsIn}
use Rattle.run_audit.proofs.Departures.{departs-behind, departs-longer}

-- ---- the lines of hits, some at a time

-- The lines of the first hits stand there, and these hits are left.
pub record HitsTo (hits rest : List Hit) (left here : List ℕ) : Type 0 where
  pub done : List Hit
  pub parts : hits ≡ done ++ rest
  pub stands : left ≡ flat_map hit_text done ++ here

pub hits-start : (hits rest : List Hit) (left : List ℕ) → rest ≡ hits → HitsTo hits rest left left
hits-start hits rest left all = record { done = []; parts = sym all; stands = refl }

pub hits-more : (hits rest chunk more : List Hit) (left here behind : List ℕ) → HitsTo hits rest left here → rest ≡ chunk ++ more → here ≡ flat_map hit_text chunk ++ behind → HitsTo hits more left behind
hits-more hits rest chunk more left here behind so_far cut is = record {
  done = so_far.done ++ chunk;
  parts = so_far.parts ∙ ap (λ (l : List Hit). so_far.done ++ l) cut ∙ sym (append_assoc so_far.done chunk more);
  stands =
      so_far.stands
      ∙ ap (λ l. flat_map hit_text so_far.done ++ l) is
      ∙ sym (append_assoc (flat_map hit_text so_far.done) (flat_map hit_text chunk) behind)
      ∙ ap (λ l. l ++ behind) (sym (flat_map-append hit_text so_far.done chunk));
}

pub hits-end : (hits rest : List Hit) (left here : List ℕ) → length rest ≡ 0 → HitsTo hits rest left here → left ≡ flat_map hit_text hits ++ here
hits-end hits rest left here none so_far =
    so_far.stands
    ∙ ap (λ (l : List Hit). flat_map hit_text l ++ here) (sym (append-nil so_far.done) ∙ ap (λ (l : List Hit). so_far.done ++ l) (sym (nil_from_length rest none)) ∙ sym so_far.parts)

pub hits-depart : (hits rest chunk more : List Hit) (left here : List ℕ) (count : ℕ) → HitsTo hits rest left here → rest ≡ chunk ++ more → DepartsIn here (flat_map hit_text chunk) count → DepartsIn left (flat_map hit_text hits) count
hits-depart hits rest chunk more left here count so_far cut departs =
    subst (λ l. DepartsIn left l count)
    (sym (ap (flat_map hit_text) (so_far.parts ∙ ap (λ (l : List Hit). so_far.done ++ l) cut)
    ∙ flat_map-append hit_text so_far.done (chunk ++ more)
    ∙ ap (λ l. flat_map hit_text so_far.done ++ l) (flat_map-append hit_text chunk more)))
    (departs-behind left (flat_map hit_text so_far.done) here (flat_map hit_text chunk ++ flat_map hit_text more) count so_far.stands
    (departs-longer here (flat_map hit_text chunk) (flat_map hit_text more) count departs))

-- ---- the whole text

module _ (line : ℕ) (view : View) (query : Query) (filter : Filter) (session : SessionState) (number games count : ℕ) (hits : List Hit) (table : TableView)
    (own : number ≡ view.version) (counted : games ≡ length view.games) (many : count ≡ length hits) (are : AreHits query filter view.games hits) (is_table : IsTable hits table) where
  abbrev pub found_text : List ℕ
  found_text = search_text line view.version (length view.games) hits table

  abbrev pub printed_head : List ℕ
  printed_head = search_head line number games count

  abbrev pub printed_end : List ℕ
  printed_end = flat_map row_text table.rows ++ total_text table.totals

  text_is : found_text ≡ printed_head ++ (flat_map hit_text hits ++ printed_end)
  text_is = λ i. search_head line (sym own i) (sym counted i) (sym many i) ++ (flat_map hit_text hits ++ printed_end)

  pub search-stands : (after : SessionState) (left left_1 left_2 rest : List ℕ) → left ≡ printed_head ++ left_1 → left_1 ≡ flat_map hit_text hits ++ left_2 → left_2 ≡ printed_end ++ rest → after ≡ fed_with hits session
      → (text : List ℕ) × (left ≡ text ++ rest) × IsSearched line view query filter session text after
  search-stands after left left_1 left_2 rest one two three fed = (
    found_text,
    one
        ∙ ap (λ l. printed_head ++ l) (two ∙ ap (λ l. flat_map hit_text hits ++ l) three ∙ sym (append_assoc (flat_map hit_text hits) printed_end rest))
        ∙ sym (append_assoc printed_head (flat_map hit_text hits ++ printed_end) rest)
        ∙ ap (λ l. l ++ rest) (sym text_is),
    record { hits = hits; is_text = record { table = table; are_hits = are; is_table = is_table; text_is = refl }; fed = fed },
  )

  -- each text of this search is that one
  module _ (trees : All (λ (g : Game). IsTree g.tree) view.games) (text : List ℕ) (after : SessionState) (searched : IsSearched line view query filter session text after) where
    same : text ≡ printed_head ++ (flat_map hit_text hits ++ printed_end)
    same =
        (search-one line view trees query filter session text found_text after (fed_with hits session) searched
        (record { hits = hits; is_text = record { table = table; are_hits = are; is_table = is_table; text_is = refl }; fed = refl })).0
        ∙ text_is

    pub head-departs-search : (left : List ℕ) (n : ℕ) → DepartsIn left printed_head n → DepartsIn left text n
    head-departs-search left n departs = subst (λ l. DepartsIn left l n) (sym same) (departs-longer left printed_head (flat_map hit_text hits ++ printed_end) n departs)

    pub hits-depart-search : (left left_1 : List ℕ) (n : ℕ) → left ≡ printed_head ++ left_1 → DepartsIn left_1 (flat_map hit_text hits) n → DepartsIn left text n
    hits-depart-search left left_1 n one departs =
        subst (λ l. DepartsIn left l n) (sym same)
        (departs-behind left printed_head left_1 (flat_map hit_text hits ++ printed_end) n one (departs-longer left_1 (flat_map hit_text hits) printed_end n departs))

    pub end-departs-search : (left left_1 left_2 : List ℕ) (n : ℕ) → left ≡ printed_head ++ left_1 → left_1 ≡ flat_map hit_text hits ++ left_2 → DepartsIn left_2 printed_end n → DepartsIn left text n
    end-departs-search left left_1 left_2 n one two departs =
        subst (λ l. DepartsIn left l n) (sym same)
        (departs-behind left printed_head left_1 (flat_map hit_text hits ++ printed_end) n one
        (departs-behind left_1 (flat_map hit_text hits) left_2 printed_end n two departs))
