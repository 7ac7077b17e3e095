use Rattle.std.proofs.Common.{◌≡◌, ◌∙◌, ◌+◌, [], ◌∷◌, ◌++◌, List, ℕ, get_or, inl, inr, ap, arith, length, map, refl, rules, subst, sym, take}
use Rattle.std.specs.Prelude.{string_bytes}
use Rattle.std.proofs.lemmas.Grind.{common_steps}
use Rattle.std.proofs.lemmas.List.{length-map, map-append, take_all, take_more}
use Rattle.std.proofs.Math.ListN.{get_or-map}
use Rattle.kb_edges.specs.Files.{HasFile}
use Rattle.node_position.specs.Games.{Game}
use Rattle.import_work.specs.Batches.{line_reports}
use Rattle.import_work.specs.Course.{trees_in}
use Rattle.import_work.specs.Outcome.{with_games}
use Rattle.import_work.proofs.RoomLemmas.{AreAdded-more, with_games-none}
use Rattle.run_audit.specs.Importing.{ReadsBy}
use Rattle.run_audit.specs.Shown.{is_shown_unread}
use Rattle.run_audit.proofs.FileSteps.{reads-more, reads-start, room-more, told-more}
use Rattle.run_audit.proofs.importing.segment_of.Goals as goal

pub loop-name-init : goal.loop-name-init
loop-name-init g c = record {
  same = refl;
  later = omega arith;
  few = omega (arith, ap length c.new-games.ensures);
  added = record { added = []; pushed = c.new-games.ensures; counted = sym (with_games-none c.args.counts.now) };
  room = inl c.new-games.ensures;
  told = refl;
  read = λ all told recorded shows. reads-start all c.args.path.now (is_shown_unread recorded c.args.shown.now.line) c.args.counts.now c.args.lines.now.items c.new-games.result c.new-games.ensures;
}

pub file_outcome-requires-clause-there : goal.file_outcome-requires-clause-there
file_outcome-requires-clause-there g c = λ all told.
    subst (HasFile all c.args.path.now) (get_or-map string_bytes c.args.names.now c.loop-name.name-index c.name-item.result ∙ ap string_bytes (sym c.name-item.is) ∙ sym c.as_str-name.ensures.value)
    (c.requires.there all (sym c.loop-name.invariant.same ∙ told) c.loop-name.name-index (string_bytes c.name-item.result) (omega (arith, c.loop-name-test.true, length-map c.args.names.now string_bytes)))

pub loop-name-preserved : goal.loop-name-preserved
loop-name-preserved g c =
    let h = c.loop-name.invariant in
    let is = c.in_ok-outcome.ensures in
    let line_is : line_reports c.push.new.self.items ≡ line_reports c.loop-name.lines.items ++ record { name = c.as_str-name.result.now; outcome = c.in_ok-outcome.outcome } ∷ [] = first_of (search rules, grind (arith, common_steps)) in
    let grown : map string_bytes (take (c.loop-name.name-index + 1) c.args.names.now) ≡ map string_bytes (take c.loop-name.name-index c.args.names.now) ++ c.as_str-name.result.now ∷ [] =
    ap (map string_bytes) (take_more c.args.names.now c.loop-name.name-index c.name-item.result c.loop-name-test.true)
    ∙ map-append string_bytes (take c.loop-name.name-index c.args.names.now) (get_or c.args.names.now c.loop-name.name-index c.name-item.result ∷ [])
    ∙ ap (λ s. map string_bytes (take c.loop-name.name-index c.args.names.now) ++ string_bytes s ∷ []) (sym c.name-item.is)
    ∙ ap (λ b. map string_bytes (take c.loop-name.name-index c.args.names.now) ++ b ∷ []) (sym c.as_str-name.ensures.value) in record {
      same = is.same ∙ h.same;
      later = omega (arith, h.later, is.later);
      few = is.few;
      added = record {
        added = c.file_outcome.new.games;
        pushed = refl;
        counted =
            AreAdded-more c.args.counts.now c.loop-name.counts c.file_outcome.new.counts c.loop-name.games c.file_outcome.new.games
            (h.added.counted ∙ ap (λ (gs : List Game). with_games c.args.counts.now (trees_in gs)) (sym h.added.pushed)) is.added;
      };
      room = room-more c.loop-name.counts c.file_outcome.new.counts c.loop-name.games c.file_outcome.new.games h.room is.room;
      told = omega (arith, h.told, is.counted, told-more (line_reports c.loop-name.lines.items) (line_reports c.push.new.self.items) (record { name = c.as_str-name.result.now; outcome = c.in_ok-outcome.outcome }) line_is);
      read = λ all told recorded shows.
          subst (λ (names : List (List ℕ)). ReadsBy all c.args.path.now (is_shown_unread recorded c.args.shown.now.line) names c.args.counts.now c.file_outcome.new.counts c.args.lines.now.items c.push.new.self.items c.file_outcome.new.games) (sym grown)
          (reads-more all c.args.path.now (is_shown_unread recorded c.args.shown.now.line) c.args.counts.now (map string_bytes (take c.loop-name.name-index c.args.names.now)) c.loop-name.counts c.file_outcome.new.counts c.args.lines.now.items c.loop-name.lines.items c.push.new.self.items c.loop-name.games c.file_outcome.new.games
          (h.read all told recorded shows) c.as_str-name.result.now c.in_ok-outcome.outcome line_is _ refl (is.told all (h.same ∙ told) recorded shows));
    }

pub returns-clause-read : goal.returns-clause-read
returns-clause-read g c = λ all told recorded shows.
    subst (λ (gs : List Game). ReadsBy all c.args.path.now (is_shown_unread recorded c.args.shown.now.line) (map string_bytes c.args.names.now) c.args.counts.now c.loop-name.counts c.args.lines.now.items c.loop-name.lines.items gs) (sym c.in_ok-finish.ensures)
    (subst (λ ns. ReadsBy all c.args.path.now (is_shown_unread recorded c.args.shown.now.line) (map string_bytes ns) c.args.counts.now c.loop-name.counts c.args.lines.now.items c.loop-name.lines.items c.loop-name.games)
    (take_all c.loop-name.name-index c.args.names.now (omega (arith, c.loop-name-test.false))) (c.loop-name.invariant.read all told recorded shows))

pub returns-clause-room : goal.returns-clause-room
returns-clause-room g c = λ some. elim c.loop-name.invariant.room [
  | inl none ↦ absurd (some (c.in_ok-finish.ensures ∙ none))
  | inr within ↦ within
]
