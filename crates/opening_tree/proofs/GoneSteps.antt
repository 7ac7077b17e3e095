-- The openings grow by the entries and the next moves of a game, node by node.
use Rattle.std.proofs.Common.{◌≡◌, ◌≢◌, ℕ, suc, ◌+◌, ◌<◌, ◌≤◌, inl, inr, List, [], ◌∷◌, ◌++◌, append-nil, append_assoc, length, length-append, get_or, Option, None, Some, refl, sym, ap, ◌∙◌, subst, arith}
use Rattle.std.specs.Prelude.{All, IfSome}
use Rattle.std.proofs.lemmas.Bool.{cases_eq}
use Rattle.std.proofs.lemmas.List.{get_or_append_left, get_or_push}
use Rattle.kb_geometry.specs.declared.shape.Point.{Point}
use Rattle.kb_geometry.specs.declared.shape.Shape.{Shape}
use Rattle.kb_geometry.specs.declared.stone.Change.{Change}
use Rattle.kb_geometry.specs.declared.stone.Outcome.{Outcome}
use Rattle.kb_geometry.specs.Board.{point_count}
use Rattle.kb_geometry.specs.Capture.{Position}
use Rattle.node_paths.proofs.Ancestors.{parent-lt}
use Rattle.game_tree.specs.declared.node.Move.{Move}
use Rattle.game_tree.specs.Position.{ArePositions}
use Rattle.game_tree.specs.Result.{outcome_of}
use Rattle.game_tree.specs.Tree as tree
use Rattle.capture_board.specs.Deltas as deltas
use Rattle.node_position.specs.Games.{AreNodeChanges, Game}
use Rattle.opening_tree.specs.declared.least.LeastImages.{LeastImages}
use Rattle.opening_tree.specs.declared.openings_of_games.Frame.{Frame}
use Rattle.opening_tree.specs.Canonical.{IsCanonicalPosition}
use Rattle.opening_tree.specs.Entries.{AreEntriesTo, Entry, position_in}
use Rattle.opening_tree.specs.Frames.{AreImages, image_in, symmetries_of}
use Rattle.opening_tree.specs.GameFrames.{IsChangedWithin, IsNextOf, IsPastFrom}
use Rattle.opening_tree.specs.Games.{AreOnBoard}
use Rattle.opening_tree.specs.GoneThrough.{AreFramesTo, AreNextsGone, IsFrameOf, IsGoneTo, IsReadyForGame}
use Rattle.opening_tree.specs.Groups.{Grouped, IsGroupWithin, with_entry, with_next}
use Rattle.opening_tree.specs.Least.{AreBringing, AreLeastOf}
use Rattle.opening_tree.specs.NextMoves.{AreNextsTo, IsNextAt, IsPlaceInFrame, NextAt}
use Rattle.opening_tree.specs.Packing.{AreCells, cells_of}
use Rattle.opening_tree.specs.StoredGames.{AreOpeningsOf, AreStored}
use Rattle.opening_tree.specs.StoredGroups.{AreKeptIn, AreKeys, IsKeyAt, IsReadyForEntry, Stored, groups_shown, next_shown}
use Rattle.opening_tree.specs.Turned.{StandsTurned, TurnedState, TurnedWalk}
use Rattle.opening_tree.proofs.Bringing.{least-words}
use Rattle.opening_tree.proofs.FoundNodes.{entries-end, entries-skip, is_entry, nexts-end, nexts-more, nexts-skip, same_there}
use Rattle.opening_tree.proofs.FramesOfGames.{move_number-above, position-there}
use Rattle.opening_tree.proofs.GamesRead.{entries-few, nexts-few, place-on_board}
use Rattle.opening_tree.proofs.KeysAt.{key-cells}
use Rattle.opening_tree.proofs.OneOpening.{played_on_board}
use Rattle.opening_tree.proofs.StoredSteps.{entry-stored, following-longer, next-stored, openings-more, stored-room}

suc_is : (n : ℕ) → suc n ≡ n + 1
suc_is n = omega arith

-- changes that aren't some are none
empty_if_not : (cs : List Change) → ¬ (cs ≢ []) → cs ≡ []
empty_if_not [] not = refl
empty_if_not (c ∷ cs) not = absurd (not (λ e. omega (arith, ap length e)))

-- ---- frames

frame-kept : (shape : Shape) (position : Position) (stored new : List Stored) (frame : Frame) → AreKeptIn stored new → IsFrameOf shape position stored frame → IsFrameOf shape position new frame
frame-kept shape position stored new frame kept is = record {
  words = is.words;
  is_key = kept frame.opening is.words is.is_key;
  is_canonical = is.is_canonical;
  are_bringing = is.are_bringing;
}

module _ (depth : ℕ) (game : tree.Tree) (positions : List Position) (stored new : List Stored) (kept : AreKeptIn stored new) where
  frames-kept : (end : ℕ) (frames : List Frame) → AreFramesTo depth game positions end stored frames → AreFramesTo depth game positions end new frames
  frames-kept end frames to = record {
    each_node = to.each_node;
    each = λ k d lt within. frame-kept game.shape (position_in positions k) stored new (get_or frames k d) kept (to.each k d lt within);
  }

  frames-more : (n : ℕ) (frames : List Frame) (frame : Frame) → AreFramesTo depth game positions n stored frames → (tree.move_number_of game n ≤ depth → IsFrameOf game.shape (position_in positions n) new frame) → AreFramesTo depth game positions (n + 1) new (frames ++ frame ∷ [])
  frames-more n frames frame to is = record {
    each_node = length-append frames (frame ∷ []) ∙ omega (arith, to.each_node);
    each = λ k d lt within. elim (cases_eq k n) [
      | inl e ↦
          let here : get_or (frames ++ frame ∷ []) k d ≡ frame = get_or_push frames frame d k (to.each_node ∙ sym e) in
          subst (λ (f : Frame). IsFrameOf game.shape (position_in positions k) new f) (sym here)
          (subst (λ j. IsFrameOf game.shape (position_in positions j) new frame) (sym e) (is (subst (λ j. tree.move_number_of game j ≤ depth) e within)))
      | inr ne ↦
          let low : k < n = omega (arith, lt, ne) in
          subst (λ (f : Frame). IsFrameOf game.shape (position_in positions k) new f) (sym (get_or_append_left frames (frame ∷ []) d k (omega (arith, low, to.each_node))))
          (frame-kept game.shape (position_in positions k) stored new (get_or frames k d) kept (to.each k d low within))
    ];
  }

-- ---- entries

-- no node yet
pub gone-start : (depth number : ℕ) (game : tree.Tree) (positions : List Position) (es : List Entry) (ns : List NextAt) (stored : List Stored) → IsReadyForGame game.shape es ns stored → IsGoneTo depth number game positions 0 es ns stored []
gone-start depth number game positions es ns stored ready = record {
  more = [];
  are_entries = AreEntriesTo.nothing;
  are_stored = subst (λ (xs : List Entry). AreStored game.shape xs ns stored) (sym (append-nil es)) ready.so_far;
  are_frames = record { each_node = refl; each = λ k d lt. absurd (omega (arith, lt)) };
  following = ready.following;
  entries_fit = ready.entries_fit;
  nexts_fit = ready.nexts_fit;
}

module _ (depth number : ℕ) (game : tree.Tree) (is_tree : tree.IsTree game) (changes : deltas.Deltas) (of : AreNodeChanges game changes) (positions : List Position) (are : ArePositions game positions) (n : ℕ) (lt : n < tree.node_count game) (es : List Entry) (ns : List NextAt) (stored : List Stored) (frames : List Frame) (to : IsGoneTo depth number game positions n es ns stored frames) where
  -- no count of the openings is at its end
  gone-room : All (λ (g : Grouped). IsGroupWithin 18446744073709551614 g.opening) (groups_shown (point_count game.shape) stored)
  gone-room =
      stored-room game.shape (es ++ to.more) ns stored to.are_stored
      (omega (arith, length-append es to.more, entries-few depth number game is_tree positions are n to.more to.are_entries, lt, is_tree.most, to.entries_fit)) (omega (arith, to.nexts_fit))

  -- a node that is no entry
  pub gone-skip : ¬ IsChangedWithin depth game changes n → (frame : Frame) → ((m : ℕ) (d : Frame) → deltas.parent_of changes n ≡ Some m → frame ≡ get_or frames m d) → IsGoneTo depth number game positions (n + 1) es ns stored (frames ++ frame ∷ [])
  gone-skip not frame above = record {
    more = to.more;
    are_entries = entries-skip depth game is_tree changes of positions are n lt number to.more to.are_entries not;
    are_stored = to.are_stored;
    are_frames = frames-more depth game positions stored stored (λ at words is. is) n frames frame to.are_frames here;
    following = to.following;
    entries_fit = to.entries_fit;
    nexts_fit = to.nexts_fit;
  }
    where
      by : tree.move_number_of game n ≤ depth → (o : Option ℕ) → o ≡ deltas.parent_of changes n → IsFrameOf game.shape (position_in positions n) stored frame
      by within None e = absurd (not (within, subst (λ (o : Option ℕ). IfSome o (λ m. deltas.changes_of changes n ≢ [])) e tt))
      by within (Some m) e =
          let up : tree.parent_of game n ≡ Some m = sym (of.lead.parents n lt) ∙ sym e in
          let none : deltas.changes_of changes n ≡ [] = empty_if_not (deltas.changes_of changes n) (λ some. not (within, subst (λ (o : Option ℕ). IfSome o (λ k. deltas.changes_of changes n ≢ [])) e some)) in
          let same : position_in positions n ≡ position_in positions m = same_there depth game is_tree changes of positions are n lt m up none in
          let there : IsFrameOf game.shape (position_in positions m) stored (get_or frames m frame) =
          to.are_frames.each m frame (parent-lt is_tree.parents n m up) (omega (arith, within, move_number-above game is_tree n m up)) in
          subst (λ (p : Position). IsFrameOf game.shape p stored frame) (sym same) (subst (IsFrameOf game.shape (position_in positions m) stored) (sym (above m frame (sym e))) there)

      here : tree.move_number_of game n ≤ depth → IsFrameOf game.shape (position_in positions n) stored frame
      here within = by within (deltas.parent_of changes n) refl

  -- an entry
  gone-entry : IsChangedWithin depth game changes n → (words : List ℕ) (outcome : Outcome) (new : List Stored) (frame : Frame) → outcome ≡ outcome_of game.info.outcome_text → IsCanonicalPosition game.shape (position_in positions n) (cells_of (point_count game.shape) words)
      → AreBringing game.shape (position_in positions n) (cells_of (point_count game.shape) words) frame.symmetries → AreKeys (point_count game.shape) new
      → groups_shown (point_count game.shape) new ≡ with_entry (groups_shown (point_count game.shape) stored) (record { game = number; node = n; canonical = cells_of (point_count game.shape) words; outcome = outcome })
      → IsKeyAt new frame.opening words → AreKeptIn stored new → IsGoneTo depth number game positions (n + 1) es ns new (frames ++ frame ∷ [])
  gone-entry is words outcome new frame ended canonical bringing keys added key kept =
      let cells = cells_of (point_count game.shape) words in
      let entry : Entry = record { game = number; node = n; canonical = cells; outcome = outcome_of game.info.outcome_text } in
      let last : groups_shown (point_count game.shape) new ≡ with_entry (groups_shown (point_count game.shape) stored) entry =
      added ∙ ap (λ (o : Outcome). with_entry (groups_shown (point_count game.shape) stored) (record { game = number; node = n; canonical = cells; outcome = o })) ended in
      record {
        more = to.more ++ entry ∷ [];
        are_entries =
            subst (λ k. AreEntriesTo depth number game positions k (to.more ++ entry ∷ [])) (suc_is n)
            (AreEntriesTo.entry cells to.are_entries (is_entry depth game is_tree changes of positions are n lt is) canonical);
        are_stored =
            subst (λ (xs : List Entry). AreStored game.shape xs ns new) (append_assoc es to.more (entry ∷ []))
            (entry-stored game.shape (es ++ to.more) ns stored new to.are_stored keys entry (following-longer es to.more ns to.following) last);
        are_frames = frames-more depth game positions stored new kept n frames frame to.are_frames (λ low. record { words = words; is_key = key; is_canonical = canonical; are_bringing = bringing });
        following = to.following;
        entries_fit = to.entries_fit;
        nexts_fit = to.nexts_fit;
      }

  module _ (walk : TurnedWalk) (stands : StandsTurned changes walk) (at_node : walk.here ≡ Some n) (turned : TurnedState) (same_shape : turned.shape ≡ walk.shape) (same_images : turned.images ≡ walk.images) (words : List ℕ) where
    board : turned.shape ≡ game.shape
    board = same_shape ∙ stands.same_shape ∙ of.lead.same_shape

    here : deltas.position_at changes n ≡ position_in positions n
    here = position-there depth game is_tree changes of positions are n lt

    images : AreImages game.shape (position_in positions n) turned.images
    images =
        subst (λ (s : Shape). AreImages s (position_in positions n) turned.images) (stands.same_shape ∙ of.lead.same_shape)
        (subst (λ (p : Position). AreImages walk.shape p turned.images) (ap (deltas.position_where changes) at_node ∙ here)
        (subst (AreImages walk.shape (deltas.position_where changes walk.here)) (sym same_images) stands.are_images))

    ready : AreCells (point_count turned.shape) words → IsReadyForEntry (point_count game.shape) words stored
    ready cells = record { keys = to.are_stored.keys; key = subst (λ (s : Shape). AreCells (point_count s) words) board cells; room = gone-room }

    -- an entry can be added
    pub entry-ready : AreCells (point_count turned.shape) words → (points : ℕ) × IsReadyForEntry points words stored
    entry-ready cells = (point_count game.shape, ready cells)

    -- and with it the openings have grown
    pub gone-at : IsChangedWithin depth game changes n → AreCells (point_count turned.shape) words → (least : LeastImages) → AreLeastOf (symmetries_of turned.shape) turned.images least → cells_of (point_count turned.shape) words ≡ image_in turned.images least.first
        → (outcome : Outcome) → outcome ≡ outcome_of game.info.outcome_text → (new : List Stored) (opening : ℕ)
        → ((points : ℕ) → IsReadyForEntry points words stored
        → AreKeys points new × (groups_shown points new ≡ with_entry (groups_shown points stored) (record { game = number; node = n; canonical = cells_of points words; outcome = outcome })) × IsKeyAt new opening words × AreKeptIn stored new)
        → IsGoneTo depth number game positions (n + 1) es ns new (frames ++ record { opening = opening; symmetries = least.all } ∷ [])
    gone-at is cells least of_least value outcome ended new opening added =
        let told = least-words game.shape (position_in positions n) turned least words board images of_least value in
        let grown = added (point_count game.shape) (ready cells) in
        gone-entry is words outcome new (record { opening = opening; symmetries = least.all }) ended told.0 told.1 grown.0 grown.1 grown.2 grown.3

-- all nodes that are gone through
pub gone-end : (depth number : ℕ) (game same : tree.Tree) → game ≡ same → (positions : List Position) (es : List Entry) (ns : List NextAt) (stored : List Stored) (frames : List Frame) (n end : ℕ) → n ≡ end → IsPastFrom depth game end → IsGoneTo depth number game positions n es ns stored frames
    → IsPastFrom depth same (length frames) × IsGoneTo depth number same positions (length frames) es ns stored frames
gone-end depth number game same e positions es ns stored frames n end all past to =
    let count : length frames ≡ n = to.are_frames.each_node in
    subst (λ (t : tree.Tree). IsPastFrom depth t (length frames) × IsGoneTo depth number t positions (length frames) es ns stored frames) e (
      subst (IsPastFrom depth game) (sym (count ∙ all)) past,
      subst (λ k. IsGoneTo depth number game positions k es ns stored frames) (sym count) to,
    )

-- ---- next moves

-- no node yet
pub nexts-start : (depth number : ℕ) (game : tree.Tree) (is_tree : tree.IsTree game) (positions : List Position) (are : ArePositions game positions) (es : List Entry) (ns : List NextAt) (stored : List Stored) (frames : List Frame) → IsPastFrom depth game (length frames) → (to : IsGoneTo depth number game positions (length frames) es ns stored frames) → AreNextsGone depth game positions 0 (es ++ to.more) ns stored frames
nexts-start depth number game is_tree positions are es ns stored frames past to = record {
  more = [];
  are_nexts = AreNextsTo.nothing;
  are_stored = subst (λ (xs : List NextAt). AreStored game.shape (es ++ to.more) xs stored) (sym (append-nil ns)) to.are_stored;
  are_frames = to.are_frames;
  past = past;
  entries_fit = omega (arith, length-append es to.more, entries-few depth number game is_tree positions are (length frames) to.more to.are_entries, past.in_game, is_tree.most, to.entries_fit);
  nexts_fit = to.nexts_fit;
}

module _ (depth : ℕ) (game : tree.Tree) (positions : List Position) (n : ℕ) (es : List Entry) (ns : List NextAt) (stored : List Stored) (frames : List Frame) (to : AreNextsGone depth game positions n es ns stored frames) where
  -- a node that plays none
  pub nexts-none : ((parent : ℕ) (played : Move) → ¬ IsNextAt depth game n parent played) → AreNextsGone depth game positions (n + 1) es ns stored frames
  nexts-none not = record {
    more = to.more;
    are_nexts = nexts-skip depth game positions n to.more to.are_nexts not;
    are_stored = to.are_stored;
    are_frames = to.are_frames;
    past = to.past;
    entries_fit = to.entries_fit;
    nexts_fit = to.nexts_fit;
  }

  module _ (is_tree : tree.IsTree game) (are : ArePositions game positions) (lt : n < length frames) where
    nexts-room : All (λ (g : Grouped). IsGroupWithin 18446744073709551614 g.opening) (groups_shown (point_count game.shape) stored)
    nexts-room =
        stored-room game.shape es (ns ++ to.more) stored to.are_stored to.entries_fit
        (omega (arith, length-append ns to.more, nexts-few depth 0 game is_tree positions are n to.more to.are_nexts, lt, to.past.in_game, is_tree.most, to.nexts_fit))

    -- the frame of a parent
    frame-above : (m : ℕ) → tree.parent_of game n ≡ Some m → tree.move_number_of game m ≤ depth → (frame : Frame) → frame ≡ get_or frames m frame → IsFrameOf game.shape (position_in positions m) stored frame
    frame-above m up within frame at =
        subst (IsFrameOf game.shape (position_in positions m) stored) (sym at) (to.are_frames.each m frame (omega (arith, lt, parent-lt is_tree.parents n m up)) within)

    nexts-one : (next : NextAt) → IsNextOf depth game positions n next → (new : List Stored) → AreKeys (point_count game.shape) new → groups_shown (point_count game.shape) new ≡ with_next (groups_shown (point_count game.shape) stored) next → AreKeptIn stored new → AreNextsGone depth game positions (n + 1) es ns new frames
    nexts-one next is new keys added kept =
        let played = played_on_board depth game is_tree positions n is.played (omega (arith, lt, to.past.in_game)) is.is_next.plays in
        let on = place-on_board depth 0 game is_tree positions are (position_in positions is.parent) next.canonical is.played.point next.played.point played is.in_frame.place in
        record {
          more = to.more ++ next ∷ [];
          are_nexts = nexts-more depth game positions n to.more (to.more ++ next ∷ []) next to.are_nexts is refl;
          are_stored =
              subst (λ (xs : List NextAt). AreStored game.shape es xs new) (append_assoc ns to.more (next ∷ []))
              (next-stored game.shape es (ns ++ to.more) stored new to.are_stored keys next on added);
          are_frames = frames-kept depth game positions stored new kept (length frames) frames to.are_frames;
          past = to.past;
          entries_fit = to.entries_fit;
          nexts_fit = to.nexts_fit;
        }

    module _ (m : ℕ) (played : Move) (next : IsNextAt depth game n m played) (frame : Frame) (at : frame ≡ get_or frames m frame) where
      above : IsFrameOf game.shape (position_in positions m) stored frame
      above = frame-above m next.is_parent next.within frame at

      -- the point of the move can be turned
      pub next-bringing : (position : Position) × (canonical : Position) × AreBringing game.shape position canonical frame.symmetries
      next-bringing = (position_in positions m, cells_of (point_count game.shape) above.words, above.are_bringing)

      ready_words : IsReadyForEntry (point_count game.shape) above.words stored
      ready_words = record {
        keys = to.are_stored.keys;
        key = key-cells (point_count game.shape) stored frame.opening above.words to.are_stored.keys above.is_key;
        room = nexts-room;
      }

      -- the move can be added
      pub next-ready : (points : ℕ) × (words : List ℕ) × IsReadyForEntry points words stored × IsKeyAt stored frame.opening words
      next-ready = (point_count game.shape, above.words, ready_words, above.is_key)

      -- and with it the openings have grown
      pub nexts-at : (place : Option Point) → ((position canonical : Position) → AreBringing game.shape position canonical frame.symmetries → IsPlaceInFrame game.shape position canonical played.point place)
          → (outcome : Outcome) → outcome ≡ outcome_of game.info.outcome_text → (new : List Stored)
          → ((points : ℕ) (words : List ℕ) → IsReadyForEntry points words stored → IsKeyAt stored frame.opening words
          → AreKeys points new × (groups_shown points new ≡ with_next (groups_shown points stored) (next_shown points words (record { colour = played.colour; point = place }) outcome)) × AreKeptIn stored new)
          → AreNextsGone depth game positions (n + 1) es ns new frames
      nexts-at place placed outcome ended new added =
          let grown = added (point_count game.shape) above.words ready_words above.is_key in
          nexts-one (next_shown (point_count game.shape) above.words (record { colour = played.colour; point = place }) outcome) (record {
            parent = m;
            played = played;
            is_next = next;
            is_canonical = above.is_canonical;
            in_frame = record { same_colour = refl; place = placed (position_in positions m) (cells_of (point_count game.shape) above.words) above.are_bringing };
            outcome = ended;
          }) new grown.0 grown.1 grown.2

-- the same openings, told of what is the same
pub nexts-carried : (depth same_depth : ℕ) (game : tree.Tree) (positions : List Position) (n : ℕ) (es : List Entry) (ns : List NextAt) (stored : List Stored) (frames same_frames : List Frame) → depth ≡ same_depth → frames ≡ same_frames → AreNextsGone depth game positions n es ns stored frames → AreNextsGone same_depth game positions n es ns stored same_frames
nexts-carried depth same_depth game positions n es ns stored frames same_frames e f to =
    subst (λ d. AreNextsGone d game positions n es ns stored same_frames) e (subst (λ (fs : List Frame). AreNextsGone depth game positions n es ns stored fs) f to)

-- ---- one game

-- all entries and next moves of a game on the board are added
pub game-added : (shape : Shape) (depth number : ℕ) (game : Game) (is_tree : tree.IsTree game.tree) (first : ℕ) (games : List Game) (count : first + length games ≡ number) (few : number < 400000) (stored : List Stored) (are : AreOpeningsOf first shape depth games stored) → game.tree.shape ≡ shape
    → (positions : List Position) → ArePositions game.tree positions → (new last : List Stored) (frames : List Frame) → IsPastFrom depth game.tree (length frames) → (to : IsGoneTo depth number game.tree positions (length frames) are.entries are.nexts new frames)
    → AreNextsGone depth game.tree positions (length frames) (are.entries ++ to.more) are.nexts last frames → AreOpeningsOf first shape depth (games ++ game ∷ []) last
game-added shape depth number game is_tree first games count few stored are on positions at new last frames past to gone =
    openings-more shape depth number game is_tree first games count few stored are to.more gone.more (AreOnBoard.on_board on (record {
      positions = positions;
      are_positions = at;
      are_entries = entries-end depth game.tree is_tree positions (length frames) past number to.more to.are_entries;
      are_nexts = nexts-end depth game.tree is_tree positions (length frames) past gone.more gone.are_nexts;
    })) last (subst (λ (s : Shape). AreStored s (are.entries ++ to.more) (are.nexts ++ gone.more) last) on gone.are_stored)
