-- What is done with watched searches, step by step: one is added, or goes on, its text is printed, and its new hits are
-- given to the boxes.
use Rattle.std.proofs.Common.{◌≡◌, inl, inr, ℕ, suc, ◌+◌, ◌<◌, Bool, true, List, [], ◌∷◌, ◌++◌, Option, Some, None, drop, get_or, length, length-append, length-take, set, take, refl, sym, ap, ◌∙◌, subst, arith, true≢false}
use Rattle.std.specs.Prelude.{IfOk, IfSome, IsSomeAnd, OnErr, OnOk, Result, Ok, Err, is_some}
use Rattle.std.specs.Option.{option_map_or}
use Rattle.std.proofs.Math.Seq.{get_or-append_seam, split_at}
use Rattle.std.proofs.lemmas.List.{get_or_default, set_split, set-get_or}
use Rattle.std.proofs.lemmas.Option.{slice_get_cases}
use Rattle.node_position.specs.Games.{Game}
use Rattle.pattern_images.specs.declared.hit.Hit.{Hit}
use Rattle.pattern_images.specs.declared.query.Query.{Query}
use Rattle.info_filter.specs.declared.filter.Filter.{Filter}
use Rattle.continuation_table.specs.Table.{IsTable, TableView}
use Rattle.query_script.specs.declared.statement.Statement.{Statement}
use Rattle.query_script.specs.declared.statement.Statement.TheVariants as statement
use Rattle.query_script.specs.Texts.{no_watch_text, taken_text, watch_text, watched_text}
use Rattle.hit_collectors.specs.Boxes.{all_with_hits}
use Rattle.hit_collectors.specs.Tallies.{BoxTally}
use Rattle.search_engine.specs.Hits.{AreHits, AreHitsFrom}
use Rattle.session_core.specs.Answers.{ChangesUnfed, IsAnswer, IsAnsweredUnfed, IsLeft, IsLeftBehind, View}
use Rattle.session_core.specs.SessionState.{SessionState, Watched, fed_with, with_boxes, with_watches}
use Rattle.session_core.specs.Watches.{IsFree, IsWatch, IsWatchAdvanced, fed_by, new_hits, watch_over}
use Rattle.session_core.specs.Watching.{IsAdvanced, IsAdvancedAt, IsWatchAt}
use Rattle.session_core.specs.declared.watches.NewHits.{NewHits}

-- what holds anyway holds after an error
pub after_error : {T E : Type 0} (result : Result T E) (P : Type 0) → P → OnErr result P
after_error (Ok x) P p = tt
after_error (Err e) P p = p

-- what holds where a result is Ok
pub on_ok : {T E : Type 0} (x : T) (result : Result T E) (P : Type 0) → Ok x ≡ result → OnOk result P → P
on_ok x (Ok y) P is p = p
on_ok x (Err e) P is p = absurd cc

-- ---- one watched search goes on

pub is-advanced : {E : Type 0} (result : Result ℕ E) (name : List ℕ) (query : Query) (filter : Filter) (games : List Game) (covered now : ℕ) (old hits : List Hit) →
    OnOk result (now ≡ length games) → OnOk result (AreHits query filter games hits) → IfOk result (λ at. at ≡ length old) → IfOk result (λ at. take at hits ≡ old) →
    IfOk result (λ at. AreHitsFrom covered query filter (drop covered games) (drop at hits)) →
    IfOk result (λ first. IsAdvanced games (record { name = name; query = query; filter = filter; covered = covered; hits = old }) (record { name = name; query = query; filter = filter; covered = now; hits = hits }) first)
is-advanced (Err e) name query filter games covered now old hits counted all place earlier new = tt
is-advanced (Ok at) name query filter games covered now old hits counted all place earlier new = record {
  after_is = ap (λ n. record { name = name; query = query; filter = filter; covered = n; hits = hits }) counted;
  are_hits = all;
  place = omega (arith, place, ap length earlier, length-take at hits);
  are_new = new;
}

-- ---- the one at a place goes on

pub advanced-at : (games : List Game) (before : List Watched) (at first : ℕ) (d now : Watched) → at < length before → IsAdvanced games (get_or before at d) now first → IsAdvancedAt games at before (set before at now) first
advanced-at games before at first d now below on =
    let next : suc at ≡ at + 1 = omega arith in record {
      watch = get_or before at d;
      there = λ e. get_or_default before at e d below;
      now = now;
      advanced = on;
      others = set_split before at now below ∙ ap (λ (n : ℕ). take at before ++ now ∷ drop n before) next;
    }

-- the one at a place stays as it is
pub stays-at : {T E : Type 0} (result : Result T E) (before : List Watched) (at : ℕ) (d now : Watched) → OnErr result (now ≡ get_or before at d) → OnErr result (set before at now ≡ before)
stays-at (Ok x) before at d now same = tt
stays-at (Err e) before at d now same = ap (set before at) same ∙ set-get_or before at d

-- the one at a place is that of a name
pub watch-at : (name : List ℕ) (watches : List Watched) (at : ℕ) (w : Watched) → IsWatchAt name watches at → ((d : Watched) → get_or watches at d ≡ w) → IsWatch name watches
watch-at name watches at w is there =
    let next : suc at ≡ at + 1 = omega arith in record {
      earlier = take at watches;
      watch = w;
      later = drop (at + 1) watches;
      split =
          split_at watches at w is.within
          ∙ ap (λ (x : Watched). take at watches ++ x ∷ drop (suc at) watches) (there w)
          ∙ ap (λ (n : ℕ). take at watches ++ w ∷ drop n watches) next;
      is_named = ap (λ (x : Watched). x.name) (sym (there w)) ∙ is.is_named w;
      is_first = is.is_first;
    }

pub advanced-is : (name : List ℕ) (games : List Game) (at first : ℕ) (before after : List Watched) → IsWatchAt name before at → (on : IsAdvancedAt games at before after first) → IsWatchAdvanced name games before after on.now.hits (drop first on.now.hits)
unfolding watch-at
advanced-is name games at first before after is on = record {
  found = watch-at name before at on.watch is on.there;
  are_hits = on.advanced.are_hits;
  are_new = on.advanced.are_new;
  others = on.others ∙ ap (λ (w : Watched). take at before ++ w ∷ drop (at + 1) before) on.advanced.after_is;
}

-- one has a name
pub is-watched : (found : Option ℕ) (told : Bool) (name : List ℕ) (watches : List Watched) → told ≡ is_some found → IfSome found (λ at. IsWatchAt name watches at) → told ≡ true → IsWatch name watches
is-watched None told name watches is there holds = absurd (true≢false (sym holds ∙ is))
is-watched (Some at) told name watches is there holds =
    elim (slice_get_cases watches at).1 [
      | inl (x, within, is_there, same) ↦ watch-at name watches at x there (λ d. get_or_default watches at d x within ∙ same)
      | inr (past, none) ↦ absurd (omega (arith, there.within, past))
    ]

-- ---- the one that the boxes are fed with

-- the last one of a list
pub last-there : (watches all : List Watched) (w : Watched) (at : ℕ) → all ≡ watches ++ w ∷ [] → at ≡ length watches → (d : Watched) → get_or all at d ≡ w
last-there watches all w at is counted d =
    ap (λ (l : List Watched). get_or l at d) is ∙ ap (λ (n : ℕ). get_or (watches ++ w ∷ []) n d) counted ∙ get_or-append_seam watches w [] d

-- the one that went on
pub now-there : (games : List Game) (at first : ℕ) (before after : List Watched) → at < length before → (on : IsAdvancedAt games at before after first) → (d : Watched) → get_or after at d ≡ on.now
now-there games at first before after below on d =
    let counted : at ≡ length (take at before) = omega (arith, length-take at before, below) in
    ap (λ (l : List Watched). get_or l at d) on.others
    ∙ ap (λ (n : ℕ). get_or (take at before ++ on.now ∷ drop (at + 1) before) n d) counted
    ∙ get_or-append_seam (take at before) on.now (drop (at + 1) before) d

-- a session whose boxes alone were given hits
pub fed-alone : {T E : Type 0} (result : Result T E) (hits : List Hit) (session after : SessionState) (boxes : List BoxTally) → after ≡ with_boxes session boxes → OnOk result (boxes ≡ all_with_hits hits session.boxes) → OnOk result (after ≡ fed_with hits session)
fed-alone (Err e) hits session after boxes same fed = tt
fed-alone (Ok x) hits session after boxes same fed = same ∙ ap (with_boxes session) fed

-- the new hits of the one at a place
pub new-there : (watches : List Watched) (at first : ℕ) (w : Watched) → at < length watches → ((d : Watched) → get_or watches at d ≡ w) → new_hits watches (record { at = at; first = first }) ≡ drop first w.hits
new-there watches at first w below there = elim (slice_get_cases watches at).1 [
  | inl (x, within, is, same) ↦
      ap (λ (o : Option Watched). option_map_or (λ (v : Watched). drop first v.hits) o []) is
      ∙ ap (λ (v : Watched). drop first v.hits) (sym same ∙ there x)
  | inr (past, none) ↦ absurd (omega (arith, below, past))
]

-- ---- a search is watched from now on

module _ (line : ℕ) (view : View) (name : List ℕ) (query : Query) (filter : Filter) (session : SessionState) (watch : Watched) (free : IsFree name session.watches)
    (is : watch ≡ watch_over name query filter view.games watch.hits) (are : AreHits query filter view.games watch.hits) where
  -- the watched searches with this one more
  abbrev pub with_more : List Watched
  with_more = session.watches ++ watch ∷ []

  abbrev all_new : ℕ → NewHits
  all_new at = record { at = at; first = 0 }

  -- all its hits are new
  new_are : (after : SessionState) (at : ℕ) → at ≡ length session.watches → after ≡ with_watches session with_more → new_hits after.watches (all_new at) ≡ watch.hits
  new_are after at counted same =
      ap (λ (s : SessionState). new_hits s.watches (all_new at)) same
      ∙ new-there with_more at 0 watch (omega (arith, counted, length-append session.watches (watch ∷ []))) (last-there session.watches with_more watch at refl counted)

  begun_changes : (after : SessionState) (at : ℕ) → at ≡ length session.watches → after ≡ with_watches session with_more → ChangesUnfed view (statement.Watch name query filter) session after (Some (all_new at))
  begun_changes after at counted same =
      let hits = new_are after at counted same in (
        record {
          free = free;
          are_hits = subst (AreHits query filter view.games) (sym hits) are;
          added =
              ap (λ (s : SessionState). s.watches) same
              ∙ ap (λ (w : Watched). session.watches ++ w ∷ []) (is ∙ ap (watch_over name query filter view.games) (sym hits));
        },
        same ∙ sym (ap (λ (s : SessionState). with_watches session s.watches) same),
      )

  pub watch-begun : (after : SessionState) (at : ℕ) (old new : List ℕ) (version count : ℕ) → at ≡ length session.watches → version ≡ view.version → count ≡ length watch.hits
      → new ≡ old ++ watch_text line name version count → after ≡ with_watches session with_more
      → (text : List ℕ) × IsAnsweredUnfed line view session (statement.Watch name query filter) text after (Some (all_new at)) × (new ≡ old ++ text)
  watch-begun after at old new version count place own counted printed same =
      let hits = new_are after at place same in (
        watch_text line name view.version (length watch.hits),
        record {
          answered = inl (record {
            hits = watch.hits;
            watches = with_more;
            added = record { free = free; are_hits = are; added = ap (λ (w : Watched). session.watches ++ w ∷ []) is };
            text_is = refl;
            fed = λ i. fed_with (hits i) (same i);
          });
          changed = begun_changes after at place same;
        },
        printed ∙ (λ i. old ++ watch_text line name (own i) (counted i)),
      )

-- its name is taken
pub watch-taken : (line : ℕ) (view : View) (name : List ℕ) (query : Query) (filter : Filter) (session : SessionState) (old new : List ℕ) → IsWatch name session.watches → new ≡ old ++ taken_text line name
    → (text : List ℕ) × IsAnsweredUnfed line view session (statement.Watch name query filter) text session None × (new ≡ old ++ text)
watch-taken line view name query filter session old new found printed = (
  taken_text line name,
  record { answered = inr (record { found = found; text_is = refl; same = refl }); changed = refl },
  printed,
)

-- ---- a watched search is told

module _ (line : ℕ) (view : View) (name : List ℕ) (session : SessionState) (watches : List Watched) (at first : ℕ) (is : IsWatchAt name session.watches at)
    (on : IsAdvancedAt view.games at session.watches watches first) where
  abbrev told_new : NewHits
  told_new = record { at = at; first = first }

  goes_on : IsWatchAdvanced name view.games session.watches watches on.now.hits (drop first on.now.hits)
  goes_on = advanced-is name view.games at first session.watches watches is on

  told_are : new_hits watches told_new ≡ drop first on.now.hits
  told_are =
      new-there watches at first on.now
      (omega (arith, is.within, ap length on.others, length-append (take at session.watches) (on.now ∷ drop (at + 1) session.watches), length-take at session.watches))
      (now-there view.games at first session.watches watches is.within on)

  told_changes : ChangesUnfed view (statement.Watched name) session (with_watches session watches) (Some told_new)
  told_changes = ((on.now.hits, subst (IsWatchAdvanced name view.games session.watches watches on.now.hits) (sym told_are) goes_on), refl)

  pub watch-told : (hits : List Hit) (table : TableView) (old new : List ℕ) (version games : ℕ) → hits ≡ on.now.hits → IsTable hits table → version ≡ view.version → games ≡ length view.games
      → new ≡ old ++ watched_text line name version games hits table
      → (text : List ℕ) × IsAnsweredUnfed line view session (statement.Watched name) text (with_watches session watches) (Some told_new) × (new ≡ old ++ text)
  watch-told hits table old new version games these is_table own counted printed = (
    watched_text line name view.version (length view.games) on.now.hits table,
    record {
      answered = inl (record {
        hits = on.now.hits;
        new = drop first on.now.hits;
        table = table;
        watches = watches;
        advanced = goes_on;
        is_table = subst (λ (hs : List Hit). IsTable hs table) these is_table;
        text_is = refl;
        fed = ap (λ (hs : List Hit). fed_with hs (with_watches session watches)) told_are;
      });
      changed = told_changes;
    },
    printed ∙ (λ i. old ++ watched_text line name (own i) (counted i) (these i) table),
  )

  -- it goes on, and then memory is wanted
  pub told-left : (new : Option NewHits) × ChangesUnfed view (statement.Watched name) session (with_watches session watches) new
  told-left = (Some told_new, told_changes)

-- none is watched under the name
pub watch-missing : (line : ℕ) (view : View) (name : List ℕ) (session : SessionState) (old new : List ℕ) → IsFree name session.watches → new ≡ old ++ no_watch_text line name
    → (text : List ℕ) × IsAnsweredUnfed line view session (statement.Watched name) text session None × (new ≡ old ++ text)
watch-missing line view name session old new free printed = (
  no_watch_text line name,
  record { answered = inr (record { free = free; text_is = refl; same = refl }); changed = refl },
  printed,
)

-- ---- and then its new hits are given to the boxes

module _ (line : ℕ) (view : View) (own : Statement) (session between after : SessionState) (new : Option NewHits) where
  pub watch-answered : {T E : Type 0} (result : Result T E) (old told out : List ℕ) → (text : List ℕ) × IsAnsweredUnfed line view session own text between new × (told ≡ old ++ text)
      → OnOk result (out ≡ told) → OnOk result (after ≡ fed_by new between) → OnOk result ((text : List ℕ) × IsAnswer line view session own text after × (out ≡ old ++ text))
  watch-answered (Err e) old told out unfed same fed = tt
  watch-answered (Ok x) old told out (text, unfed, printed) same fed = (text, subst (IsAnswer line view session own text) (sym fed) unfed.answered, same ∙ printed)

pub unfed-left : (view : View) (own : Statement) (session after : SessionState) → (new : Option NewHits) × ChangesUnfed view own session after new → IsLeftBehind view own session after
unfed-left view own session after (None, same) = inl (inl same)
unfed-left view own session after (Some new, changes) = inr (after.watches, new_hits after.watches new, changes.0, inl changes.1)

pub fed-left : (view : View) (own : Statement) (session between after : SessionState) (new : Option NewHits) → ChangesUnfed view own session between new
    → IsSomeAnd new (λ n. IsLeft (λ hits. hits ≡ new_hits between.watches n) between after) → IsLeftBehind view own session after
fed-left view own session between after None changes left = absurd left
fed-left view own session between after (Some new) changes left =
    inr (between.watches, new_hits between.watches new, changes.0, subst (λ (s : SessionState). IsLeft (λ hits. hits ≡ new_hits between.watches new) s after) changes.1 left)
