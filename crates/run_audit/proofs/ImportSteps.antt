-- An import of made games into the base of an audit, segment by segment.
use Rattle.std.proofs.Common.{◌≡◌, ◌∙◌, inl, inr, ℕ, suc, ◌+◌, ◌<◌, ◌≤◌, false, List, [], ◌∷◌, ◌++◌, Option, length, length-append, length-drop, refl, sym, ap, subst, append-nil, append_assoc, arith, true≢false}
use Rattle.std.proofs.lemmas.Bool.{cases_lt}
use Rattle.std.proofs.lemmas.List.{length-replicate, nil_from_length}
use Rattle.kb_edges.specs.Files.{File}
use Rattle.node_position.specs.Games.{Game}
use Rattle.version_publisher.specs.declared.state.VersionState.{VersionState}
use Rattle.import_work.specs.Course.{HasMade, Made, made_name, nothing_lost, trees_in}
use Rattle.import_work.specs.Imports.{AddsUp, HasGiven, ImportState, IsListed, IsOpened, IsStep, games_reported, nothing, one_more}
use Rattle.import_work.specs.Log.{Segment, games_of_segments}
use Rattle.import_work.specs.Outcome.{counts_of}
use Rattle.import_work.specs.declared.outcome.Counts.{Counts}
use Rattle.import_work.specs.declared.source.Source.TheVariants as source
use Rattle.import_work.proofs.GivenSegments.{GoesOn, adds_up, goes_on}
use Rattle.import_work.proofs.MadeSegments.{made_given}
use Rattle.import_work.proofs.RoomLemmas.{counts_of-more, length-trees}
use Rattle.run_audit.specs.Importing.{ImportsBy}
use Rattle.run_audit.specs.Standing.{FitsTogether, Kept, kept_games, kept_last}

-- ---- one segment more

module _ (told : Option (List File)) (batch : ℕ) (between now : ImportState) (segment : Segment) (before last : ℕ) (step : IsStep told batch between now segment before last) (kept : Kept) (fits : FitsTogether kept) (same : kept.counts ≡ between.counts) where
  on : GoesOn batch between now segment
  on = goes_on told batch between now segment before last step

  -- these are the counts of the base with it
  pub counted-then : now.counts ≡ counts_of (trees_in (kept_games kept ++ segment))
  counted-then = counts_of-more between.counts now.counts (kept_games kept) segment (kept_games kept ++ segment) (sym same ∙ fits.counted) on.counts refl

  pub few-then : now.counts.games ≤ 400000
  few-then = elim (cases_lt 0 (length segment)) [
    | inl some ↦ (on.room (λ none. omega (arith, some, ap length none))).0
    | inr none ↦
        let more : now.counts.games ≡ between.counts.games + length segment = ap (λ (c : Counts). c.games) on.counts ∙ ap (λ n. between.counts.games + n) (length-trees segment) in
        let had : kept.counts.games ≡ between.counts.games = ap (λ (c : Counts). c.games) same in
        omega (arith, more, had, none, fits.few)
  ]

-- a step where the folder stays
pub is-step : {told own : Option (List File)} {before last faults : ℕ} {batch : ℕ} {between now : ImportState} {segment : Segment} → told ≡ own → before ≡ faults → last ≡ faults → IsStep told batch between now segment before last → IsStep own batch between now segment faults faults
is-step {told} {own} {before} {last} {faults} {batch} {between} {now} {segment} files first later step =
    subst (λ (n : ℕ). IsStep own batch between now segment faults n) later
    (subst (λ (n : ℕ). IsStep own batch between now segment n last) first (subst (λ (t : Option (List File)). IsStep t batch between now segment before last) files step))

-- fewer names are left
pub left-smaller : (told : Option (List File)) (batch : ℕ) (between now : ImportState) (segment : Segment) (before last : ℕ) → 1 ≤ batch → IsStep told batch between now segment before last → suc (length now.left) ≤ length between.left
left-smaller told batch between now segment before last any step =
    let on = goes_on told batch between now segment before last step in
    elim (cases_lt 0 (length between.left)) [
      | inl some ↦ omega (arith, any, some, ap length on.left, length-drop batch between.left)
      | inr none ↦ absurd (on.some (nil_from_length between.left (omega (arith, none))))
    ]

-- ---- all segments of made games

-- An import of so many made games has given these segments, and they are behind all others.
pub record MadeTo (told : Option (List File)) (batch games seed line : ℕ) (before now : Kept) (import : ImportState) (faults : ℕ) : Type 0 where
  pub start : ImportState
  pub opened : IsOpened (source.Made games seed) line before.counts (kept_last before) start
  pub listed : IsListed (source.Made games seed) start.body start.left
  pub segments : List Segment
  pub given : HasGiven told batch start faults segments import faults
  pub ahead : now.ahead ≡ before.ahead ++ segments
  pub held : now.held ≡ before.held
  pub waiting : now.waiting ≡ before.waiting
  pub fits : FitsTogether now
  pub same : now.counts ≡ import.counts

pub made-start : (told : Option (List File)) (batch games seed line : ℕ) (kept : Kept) (import : ImportState) (faults : ℕ) → FitsTogether kept → IsOpened (source.Made games seed) line kept.counts (kept_last kept) import → IsListed (source.Made games seed) import.body import.left
    → MadeTo told batch games seed line kept kept import faults
made-start told batch games seed line kept import faults fits opened listed = record {
  start = import;
  opened = opened;
  listed = listed;
  segments = [];
  given = nothing;
  ahead = sym (append-nil kept.ahead);
  held = refl;
  waiting = refl;
  fits = fits;
  same = sym (ap (λ (i : ImportState). i.counts) opened);
}

module _ (told : Option (List File)) (batch games seed line : ℕ) (any : 1 ≤ batch) (before now : Kept) (import : ImportState) (faults : ℕ) (so_far : MadeTo told batch games seed line before now import faults) where
  up : AddsUp so_far.start import so_far.segments
  up = adds_up told batch so_far.start faults import so_far.segments faults any so_far.given

  last_is : kept_last now ≡ kept_last before + length so_far.segments
  last_is = omega (arith, ap (λ (v : VersionState Game). v.number) so_far.held, ap length so_far.ahead, length-append before.ahead so_far.segments)

  -- it doesn't give more segments than games
  made-few : length so_far.segments + length import.left ≤ games
  made-few = omega (arith, up.few, ap length so_far.listed.1, length-replicate games made_name)

  pub made-source : import.source ≡ source.Made games seed
  made-source = up.source ∙ ap (λ (i : ImportState). i.source) so_far.opened

  pub made-more : (segment : Segment) (next : ImportState) (after : Kept) → IsStep told batch import next segment faults faults → after ≡ record now { ahead = now.ahead ++ segment ∷ []; counts = next.counts } → FitsTogether after
      → MadeTo told batch games seed line before after next faults
  made-more segment next after step is fits = record {
    start = so_far.start;
    opened = so_far.opened;
    listed = so_far.listed;
    segments = so_far.segments ++ segment ∷ [];
    given = one_more next segment faults so_far.given step;
    ahead = ap (λ (k : Kept). k.ahead) is ∙ ap (λ (l : List Segment). l ++ segment ∷ []) so_far.ahead ∙ append_assoc before.ahead so_far.segments (segment ∷ []);
    held = ap (λ (k : Kept). k.held) is ∙ so_far.held;
    waiting = ap (λ (k : Kept). k.waiting) is ∙ so_far.waiting;
    fits = fits;
    same = ap (λ (k : Kept). k.counts) is;
  }

  -- there is room for one segment more
  pub made-room : (segment : Segment) (next : ImportState) → IsStep told batch import next segment faults faults → kept_last before + 4294967295 ≤ 9000000000000000000 → kept_last now + 1 ≤ 9000000000000000000
  made-room segment next step within =
      let some : 0 < length import.left = elim (cases_lt 0 (length import.left)) [
        | inl some ↦ some
        | inr none ↦ absurd ((goes_on told batch import next segment faults faults step).some (nil_from_length import.left (omega (arith, none))))
      ] in
      omega (arith, within, last_is, made-few, some, so_far.listed.2)

  pub made-last : kept_last now ≤ kept_last before + 4294967295
  made-last = omega (arith, last_is, made-few, so_far.listed.2)

  -- it has added no more games than a base may have
  pub made-reported : games_reported import.body ≤ 400000
  made-reported =
      let added : import.counts.games ≡ so_far.start.counts.games + length (trees_in (games_of_segments so_far.segments)) = ap (λ (c : Counts). c.games) up.counted in
      let none : games_reported so_far.start.body ≡ 0 = ap games_reported so_far.listed.0 in
      omega (arith, added, length-trees (games_of_segments so_far.segments), up.told, none, ap (λ (c : Counts). c.games) so_far.same, so_far.fits.few)

  -- the report tells the last version
  pub made-version : import.number + import.given ≡ kept_last now
  made-version =
      omega (arith, up.number, up.given, last_is, ap (λ (i : ImportState). i.number) so_far.opened, ap (λ (i : ImportState). i.given) so_far.opened)

  pub made-line : import.line ≡ line
  made-line = up.line ∙ ap (λ (i : ImportState). i.line) so_far.opened

  -- at the end it has given all
  pub made-end : import.left ≡ [] → (all : List File) → ImportsBy all (source.Made games seed) batch false (λ name. false) before now import.body
  made-end none all =
      let gives = made_given told batch any so_far.start import so_far.segments faults faults games seed (ap (λ (i : ImportState). i.source) so_far.opened) so_far.listed so_far.given none in
      let counts : so_far.start.counts ≡ before.counts = ap (λ (i : ImportState). i.counts) so_far.opened in record {
        finds = record {
          entry = nothing_lost;
          finding = Made gives.files;
          imported = (subst (λ (c : Counts). HasMade games seed c gives.files) counts gives.made, refl);
          unlisted = ((λ e. absurd (true≢false (sym e))), (λ e. absurd e.1));
          unread = refl;
        };
        tells = gives.tells;
        ahead = so_far.ahead ∙ ap (λ (l : List Segment). before.ahead ++ l) gives.segments_are;
        held = so_far.held;
        waiting = so_far.waiting;
      }
