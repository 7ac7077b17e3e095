-- The board and the information that a written root tells.
use Rattle.std.proofs.Common.{◌≡◌, ℕ, false, List, [], ◌++◌, map, Option, Some, None, codes, refl, sym, ◌∙◌, ap, subst, inl, inr}
use Rattle.std.specs.Prelude.{filter, find}
use Rattle.std.specs.Str.{bytes_eq}
use Rattle.kb_geometry.specs.declared.shape.Shape.{Shape}
use Rattle.kb_geometry.specs.declared.stone.Cell.{Cell}
use Rattle.kb_geometry.specs.declared.stone.Cell.TheVariants as cell
use Rattle.kb_geometry.specs.declared.stone.Colour.{Colour}
use Rattle.kb_geometry.specs.declared.stone.Colour.TheVariants as colour
use Rattle.kb_geometry.specs.Board.{cols_of, rows_of}
use Rattle.sgf_reader.specs.declared.collection.Pair.{Pair}
use Rattle.game_tree.specs.declared.node.Move.{Move}
use Rattle.game_tree.specs.declared.node.Setup.{Setup}
use Rattle.game_tree.specs.Information.{HasNoControls, Information}
use Rattle.game_tree.specs.Property.{IsTrimmed, bytes_of, is_of, is_upper}
use Rattle.game_tree.specs.SimpleText.{IsSimpleText}
use Rattle.game_tree.specs.Trees.{IsTextOf}
use Rattle.game_tree.specs.Value.{IsSize}
use Rattle.game_tree.specs.ValueFaults.{IsBoardOf}
use Rattle.game_tree.proofs.Trimming.{IsTrimmed-only}
use Rattle.sgf_writer.specs.Written.{escaped, mover_name, setter_name, size_text}
use Rattle.sgf_writer.proofs.Entries.{move_entries, root_entries, setup_entries, text_entries}
use Rattle.sgf_writer.proofs.EntriesRead.{IsShownText, absent, shown, find-shown, find-skip, find-tail, find-text, is_named}
use Rattle.sgf_writer.proofs.Spelling.{Entry, entry_of}
use Rattle.sgf_writer.proofs.ValuesRead.{dark-size, size-only, size-read, size-some, text-read, trimmed-itself}

-- ---- from what is found among properties to pairs

find-same : (whole name : List ℕ) (pairs : List Pair) (entries : List Entry) (entry : Entry) → map (entry_of whole) pairs ≡ entries → find (is_named name) entries ≡ Some entry → (p : Pair) × (find (is_of whole name) pairs ≡ Some p) × (entry_of whole p ≡ entry)
find-same whole name pairs entries entry e found =
    let here : find (is_named name) (map (entry_of whole) pairs) ≡ Some entry = ap (find (is_named name)) e ∙ found in
    elim (find-shown whole name pairs) [
      | inl p ↦ absurd (let f : None ≡ Some entry = sym p.1 ∙ here in cc)
      | inr p ↦ let same : Some (entry_of whole p.0) ≡ Some entry = sym p.2 ∙ here in let inner : entry_of whole p.0 ≡ entry = cc in (p.0, p.1, inner)
    ]

absent-only : (o : Option Entry) (bytes : List ℕ) → IsShownText o bytes → o ≡ None → bytes ≡ []
absent-only o bytes absent e = refl
absent-only o bytes (shown v) e = absurd cc

shown-only : (o : Option Entry) (bytes : List ℕ) (entry : Entry) → IsShownText o bytes → o ≡ Some entry → entry.value ≡ escaped bytes
shown-only o bytes entry absent e = absurd cc
shown-only o bytes entry (shown {entry = other} v) e = let same : other ≡ entry = cc in ap (λ (x : Entry). x.value) (sym same) ∙ v

text-shown : (whole name : List ℕ) (pairs : List Pair) (entries : List Entry) (bytes : List ℕ) → map (entry_of whole) pairs ≡ entries → IsShownText (find (is_named name) entries) bytes → HasNoControls bytes → IsTextOf whole (find (is_of whole name) pairs) bytes
text-shown whole name pairs entries bytes e is plain =
    let found = subst (λ (xs : List Entry). IsShownText (find (is_named name) xs) bytes) (sym e) is in
    elim (find-shown whole name pairs) [
      | inl p ↦
          subst (λ (t : List ℕ). IsTextOf whole (find (is_of whole name) pairs) t) (sym (absent-only _ bytes found p.1))
          (subst (λ (o : Option Pair). IsTextOf whole o []) (sym p.0) IsTextOf.no_value)
      | inr p ↦
          let value : bytes_of whole p.0.value ≡ escaped bytes = shown-only _ bytes (entry_of whole p.0) found p.2 in
          subst (λ (o : Option Pair). IsTextOf whole o bytes) (sym p.1) (IsTextOf.value (subst (λ (t : List ℕ). IsSimpleText t bytes) (sym value) (text-read bytes plain)))
    ]

-- ---- the root

module _ (shape : Shape) (info : Information) (setups : List Setup) (played : Option Move) where
  none_behind : (name : List ℕ) → ((c : Cell) → bytes_eq (filter is_upper (setter_name c)) name ≡ false) → ((c : Colour) → bytes_eq (filter is_upper (mover_name c)) name ≡ false) → find (is_named name) (setup_entries setups ++ move_entries played) ≡ None
  none_behind name setters movers = find-tail name setters movers setups played

  abbrev from_result : List Entry
  from_result = text_entries (codes "RE") info.outcome_text ++ (setup_entries setups ++ move_entries played)

  abbrev from_date : List Entry
  from_date = text_entries (codes "DT") info.date ++ (text_entries (codes "RE") info.outcome_text ++ (setup_entries setups ++ move_entries played))

  abbrev from_place : List Entry
  from_place = text_entries (codes "PC") info.place ++ (text_entries (codes "DT") info.date ++ (text_entries (codes "RE") info.outcome_text ++ (setup_entries setups ++ move_entries played)))

  abbrev from_event : List Entry
  from_event = text_entries (codes "EV") info.event ++ (text_entries (codes "PC") info.place ++ (text_entries (codes "DT") info.date ++ (text_entries (codes "RE") info.outcome_text ++ (setup_entries setups ++ move_entries played))))

  abbrev from_white : List Entry
  from_white = text_entries (codes "PW") info.white ++ (text_entries (codes "EV") info.event ++ (text_entries (codes "PC") info.place ++ (text_entries (codes "DT") info.date ++ (text_entries (codes "RE") info.outcome_text ++ (setup_entries setups ++ move_entries played)))))

  find-black : IsShownText (find (is_named (codes "PB")) (root_entries shape info (setup_entries setups ++ move_entries played))) info.black
  find-black =
      find-text (codes "PB") (codes "PB") info.black from_white refl (find-skip (codes "PB") (codes "PW") info.white from_event refl ∙ find-skip (codes "PB") (codes "EV") info.event from_place refl ∙ find-skip (codes "PB") (codes "PC") info.place from_date refl ∙ find-skip (codes "PB") (codes "DT") info.date from_result refl ∙ find-skip (codes "PB") (codes "RE") info.outcome_text (setup_entries setups ++ move_entries played) refl ∙ none_behind (codes "PB") setters movers)
    where
      setters : (c : Cell) → bytes_eq (filter is_upper (setter_name c)) (codes "PB") ≡ false
      setters cell.Empty = refl
      setters cell.Black = refl
      setters cell.White = refl

      movers : (c : Colour) → bytes_eq (filter is_upper (mover_name c)) (codes "PB") ≡ false
      movers colour.Black = refl
      movers colour.White = refl

  find-white : IsShownText (find (is_named (codes "PW")) (root_entries shape info (setup_entries setups ++ move_entries played))) info.white
  find-white =
      let here = find-text (codes "PW") (codes "PW") info.white from_event refl (find-skip (codes "PW") (codes "EV") info.event from_place refl ∙ find-skip (codes "PW") (codes "PC") info.place from_date refl ∙ find-skip (codes "PW") (codes "DT") info.date from_result refl ∙ find-skip (codes "PW") (codes "RE") info.outcome_text (setup_entries setups ++ move_entries played) refl ∙ none_behind (codes "PW") setters movers) in
      let before = find-skip (codes "PW") (codes "PB") info.black from_white refl in
      subst (λ (o : Option Entry). IsShownText o info.white) (sym before) here
    where
      setters : (c : Cell) → bytes_eq (filter is_upper (setter_name c)) (codes "PW") ≡ false
      setters cell.Empty = refl
      setters cell.Black = refl
      setters cell.White = refl

      movers : (c : Colour) → bytes_eq (filter is_upper (mover_name c)) (codes "PW") ≡ false
      movers colour.Black = refl
      movers colour.White = refl

  find-event : IsShownText (find (is_named (codes "EV")) (root_entries shape info (setup_entries setups ++ move_entries played))) info.event
  find-event =
      let here = find-text (codes "EV") (codes "EV") info.event from_place refl (find-skip (codes "EV") (codes "PC") info.place from_date refl ∙ find-skip (codes "EV") (codes "DT") info.date from_result refl ∙ find-skip (codes "EV") (codes "RE") info.outcome_text (setup_entries setups ++ move_entries played) refl ∙ none_behind (codes "EV") setters movers) in
      let before = find-skip (codes "EV") (codes "PB") info.black from_white refl ∙ find-skip (codes "EV") (codes "PW") info.white from_event refl in
      subst (λ (o : Option Entry). IsShownText o info.event) (sym before) here
    where
      setters : (c : Cell) → bytes_eq (filter is_upper (setter_name c)) (codes "EV") ≡ false
      setters cell.Empty = refl
      setters cell.Black = refl
      setters cell.White = refl

      movers : (c : Colour) → bytes_eq (filter is_upper (mover_name c)) (codes "EV") ≡ false
      movers colour.Black = refl
      movers colour.White = refl

  find-place : IsShownText (find (is_named (codes "PC")) (root_entries shape info (setup_entries setups ++ move_entries played))) info.place
  find-place =
      let here = find-text (codes "PC") (codes "PC") info.place from_date refl (find-skip (codes "PC") (codes "DT") info.date from_result refl ∙ find-skip (codes "PC") (codes "RE") info.outcome_text (setup_entries setups ++ move_entries played) refl ∙ none_behind (codes "PC") setters movers) in
      let before = find-skip (codes "PC") (codes "PB") info.black from_white refl ∙ find-skip (codes "PC") (codes "PW") info.white from_event refl ∙ find-skip (codes "PC") (codes "EV") info.event from_place refl in
      subst (λ (o : Option Entry). IsShownText o info.place) (sym before) here
    where
      setters : (c : Cell) → bytes_eq (filter is_upper (setter_name c)) (codes "PC") ≡ false
      setters cell.Empty = refl
      setters cell.Black = refl
      setters cell.White = refl

      movers : (c : Colour) → bytes_eq (filter is_upper (mover_name c)) (codes "PC") ≡ false
      movers colour.Black = refl
      movers colour.White = refl

  find-date : IsShownText (find (is_named (codes "DT")) (root_entries shape info (setup_entries setups ++ move_entries played))) info.date
  find-date =
      let here = find-text (codes "DT") (codes "DT") info.date from_result refl (find-skip (codes "DT") (codes "RE") info.outcome_text (setup_entries setups ++ move_entries played) refl ∙ none_behind (codes "DT") setters movers) in
      let before = find-skip (codes "DT") (codes "PB") info.black from_white refl ∙ find-skip (codes "DT") (codes "PW") info.white from_event refl ∙ find-skip (codes "DT") (codes "EV") info.event from_place refl ∙ find-skip (codes "DT") (codes "PC") info.place from_date refl in
      subst (λ (o : Option Entry). IsShownText o info.date) (sym before) here
    where
      setters : (c : Cell) → bytes_eq (filter is_upper (setter_name c)) (codes "DT") ≡ false
      setters cell.Empty = refl
      setters cell.Black = refl
      setters cell.White = refl

      movers : (c : Colour) → bytes_eq (filter is_upper (mover_name c)) (codes "DT") ≡ false
      movers colour.Black = refl
      movers colour.White = refl

  find-result : IsShownText (find (is_named (codes "RE")) (root_entries shape info (setup_entries setups ++ move_entries played))) info.outcome_text
  find-result =
      let here = find-text (codes "RE") (codes "RE") info.outcome_text (setup_entries setups ++ move_entries played) refl (none_behind (codes "RE") setters movers) in
      let before = find-skip (codes "RE") (codes "PB") info.black from_white refl ∙ find-skip (codes "RE") (codes "PW") info.white from_event refl ∙ find-skip (codes "RE") (codes "EV") info.event from_place refl ∙ find-skip (codes "RE") (codes "PC") info.place from_date refl ∙ find-skip (codes "RE") (codes "DT") info.date from_result refl in
      subst (λ (o : Option Entry). IsShownText o info.outcome_text) (sym before) here
    where
      setters : (c : Cell) → bytes_eq (filter is_upper (setter_name c)) (codes "RE") ≡ false
      setters cell.Empty = refl
      setters cell.Black = refl
      setters cell.White = refl

      movers : (c : Colour) → bytes_eq (filter is_upper (mover_name c)) (codes "RE") ≡ false
      movers colour.Black = refl
      movers colour.White = refl

  -- the information
  module _ (whole : List ℕ) (pairs : List Pair) (same : map (entry_of whole) pairs ≡ root_entries shape info (setup_entries setups ++ move_entries played)) where
    pub black-read : HasNoControls info.black → IsTextOf whole (find (is_of whole (codes "PB")) pairs) info.black
    black-read plain = text-shown whole (codes "PB") pairs _ info.black same find-black plain

    pub white-read : HasNoControls info.white → IsTextOf whole (find (is_of whole (codes "PW")) pairs) info.white
    white-read plain = text-shown whole (codes "PW") pairs _ info.white same find-white plain

    pub event-read : HasNoControls info.event → IsTextOf whole (find (is_of whole (codes "EV")) pairs) info.event
    event-read plain = text-shown whole (codes "EV") pairs _ info.event same find-event plain

    pub place-read : HasNoControls info.place → IsTextOf whole (find (is_of whole (codes "PC")) pairs) info.place
    place-read plain = text-shown whole (codes "PC") pairs _ info.place same find-place plain

    pub date-read : HasNoControls info.date → IsTextOf whole (find (is_of whole (codes "DT")) pairs) info.date
    date-read plain = text-shown whole (codes "DT") pairs _ info.date same find-date plain

    pub result-read : HasNoControls info.outcome_text → IsTextOf whole (find (is_of whole (codes "RE")) pairs) info.outcome_text
    result-read plain = text-shown whole (codes "RE") pairs _ info.outcome_text same find-result plain

    -- the first GM value is 1
    pub game-read : (p : Pair) × (find (is_of whole (codes "GM")) pairs ≡ Some p) × (bytes_of whole p.value ≡ codes "1")
    game-read =
        let found = find-same whole (codes "GM") pairs _ (record { name = codes "GM"; value = codes "1" }) same refl in
        (found.0, found.1, ap (λ (x : Entry). x.value) found.2)

    -- the first SZ value is the size
    pub size-found : (p : Pair) × (find (is_of whole (codes "SZ")) pairs ≡ Some p) × (bytes_of whole p.value ≡ size_text shape)
    size-found =
        let found = find-same whole (codes "SZ") pairs _ (record { name = codes "SZ"; value = size_text shape }) same refl in
        (found.0, found.1, ap (λ (x : Entry). x.value) found.2)

    pub board-read : IsBoardOf whole (find (is_of whole (codes "SZ")) pairs) shape
    board-read =
        let trimmed : IsTrimmed (bytes_of whole size-found.0.value) (size_text shape) = subst (λ (t : List ℕ). IsTrimmed t (size_text shape)) (sym size-found.2) (trimmed-itself (size_text shape) (dark-size shape)) in
        subst (λ (o : Option Pair). IsBoardOf whole o shape) (sym size-found.1) (IsBoardOf.size (size_text shape) trimmed (size-read shape))

    -- no other board is told
    pub board-only : (other : Shape) → IsBoardOf whole (find (is_of whole (codes "SZ")) pairs) other → (cols_of other ≡ cols_of shape) × (rows_of other ≡ rows_of shape)
    board-only other board = go (find (is_of whole (codes "SZ")) pairs) board size-found.1
      where
        is_size : (pair : Pair) (inner : List ℕ) → Some pair ≡ Some size-found.0 → IsTrimmed (bytes_of whole pair.value) inner → inner ≡ size_text shape
        is_size pair inner e trimmed =
            let same_pair : pair ≡ size-found.0 = cc in
            let value : bytes_of whole pair.value ≡ size_text shape = ap (λ (x : Pair). bytes_of whole x.value) same_pair ∙ size-found.2 in
            IsTrimmed-only (size_text shape) inner (size_text shape) (subst (λ (t : List ℕ). IsTrimmed t inner) value trimmed) (trimmed-itself (size_text shape) (dark-size shape))

        go : (o : Option Pair) → IsBoardOf whole o other → o ≡ Some size-found.0 → (cols_of other ≡ cols_of shape) × (rows_of other ≡ rows_of shape)
        go o (IsBoardOf.no_value c r) e = absurd cc
        go o (IsBoardOf.empty {pair = pair} trimmed c r) e = absurd (size-some shape (sym (is_size pair [] e trimmed)))
        go o (IsBoardOf.size {pair = pair} inner trimmed size) e = size-only shape other (subst (λ (t : List ℕ). IsSize t other) (is_size pair inner e trimmed) size)
