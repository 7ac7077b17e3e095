-- What is kept of the base, as segments are added, the floor is raised, and versions are made.
use Rattle.std.proofs.Common.{◌≡◌, ◌∙◌, ℕ, ◌+◌, ◌-◌, ◌<◌, ◌≤◌, List, [], ◌∷◌, ◌++◌, Option, drop, get_or, length, length-append, length-drop, map, max, take, refl, sym, ap, ap₂, subst, append-nil, append_assoc, arith}
use Rattle.std.proofs.Math.Seq.{take-add}
use Rattle.std.proofs.Math.ListN.{get_or-map}
use Rattle.std.proofs.lemmas.List.{drop-drop, get_or_default, length-map, take-append-drop, take_more}
use Rattle.node_position.specs.Games.{Game}
use Rattle.version_publisher.specs.Contents.{items_in}
use Rattle.version_publisher.specs.declared.state.VersionState.{VersionState}
use Rattle.import_work.specs.Course.{trees_in}
use Rattle.import_work.specs.Log.{Segment}
use Rattle.import_work.specs.Outcome.{counts_of}
use Rattle.import_work.specs.declared.outcome.Counts.{Counts}
use Rattle.run_audit.specs.Standing.{FitsTogether, IsRaised, Kept, kept_games, kept_last}

pub items-append : {A : Type 0} (xs ys : List (List A)) → items_in (xs ++ ys) ≡ items_in xs ++ items_in ys
items-append [] ys = refl
items-append (x ∷ xs) ys = ap (λ l. x ++ l) (items-append xs ys) ∙ sym (append_assoc x (items_in xs) (items_in ys))

pub items-push : {A : Type 0} (xs : List (List A)) (x : List A) → items_in (xs ++ x ∷ []) ≡ items_in xs ++ x
items-push xs x = items-append xs (x ∷ []) ∙ ap (λ l. items_in xs ++ l) (append-nil x)

items-one : {A : Type 0} (x : List A) (xs : List (List A)) → items_in (take 1 (x ∷ xs)) ≡ x
items-one x xs = append-nil x

-- the base has at most 400,000 games
pub few-games : (kept : Kept) → FitsTogether kept → length (kept_games kept) ≤ 400000
few-games kept fits = omega (arith, fits.few, ap (λ (c : Counts). c.games) fits.counted, length-map (kept_games kept) (λ (g : Game). g.tree))

-- so has the version at the floor with some segments behind it
pub few-behind : (kept : Kept) (count : ℕ) → FitsTogether kept → length (items_in kept.held.parts) + length (items_in (take count kept.ahead)) ≤ 400000
few-behind kept count fits =
    let parts = ap (λ (l : List Segment). length (items_in l)) (sym (take-append-drop count kept.ahead)) ∙ ap length (items-append (take count kept.ahead) (drop count kept.ahead)) in
    omega (arith, few-games kept fits, length-append (items_in kept.held.parts) (items_in kept.ahead), parts, length-append (items_in (take count kept.ahead)) (items_in (drop count kept.ahead)))

-- a segment more
pub added-fits : (kept after : Kept) (segment : List Game) (counts : Counts) → FitsTogether kept → kept_last kept + 1 ≤ 9000000000000000000 → counts ≡ counts_of (trees_in (kept_games kept ++ segment)) → counts.games ≤ 400000
    → after ≡ record kept { ahead = kept.ahead ++ segment ∷ []; counts = counts } → FitsTogether after
added-fits kept after segment counts fits number counted few is =
    let games : kept_games kept ++ segment ≡ kept_games (record kept { ahead = kept.ahead ++ segment ∷ []; counts = counts }) =
    append_assoc (items_in kept.held.parts) (items_in kept.ahead) segment ∙ ap (λ (l : List Game). items_in kept.held.parts ++ l) (sym (items-push kept.ahead segment)) in
    subst FitsTogether (sym is) (record {
      counted = counted ∙ ap (λ (l : List Game). counts_of (trees_in l)) games;
      few = few;
      number = omega (arith, number, length-append kept.ahead (segment ∷ []));
    })

-- ---- the floor is raised

pub raised-none : (kept : Kept) → IsRaised kept kept.held.number kept
raised-none kept =
    let none : kept.held.number - kept.held.number ≡ 0 = omega arith in record {
      floor = omega arith;
      held = record {
        number_is = refl;
        games = sym (append-nil (items_in kept.held.parts)) ∙ ap (λ (n : ℕ). items_in kept.held.parts ++ items_in (take n kept.ahead)) (sym none);
      };
      ahead = ap (λ (n : ℕ). drop n kept.ahead) (sym none);
      counts = refl;
      waiting = refl;
    }

pub raised-trans : (a b c : Kept) (n m : ℕ) → n ≤ m → IsRaised a n b → IsRaised b m c → IsRaised a m c
raised-trans a b c n m below one other =
    let low : ℕ = b.held.number - a.held.number in
    let high : ℕ = c.held.number - b.held.number in
    let place : n - a.held.number ≡ low = omega (arith, one.floor) in
    let whole : low + high ≡ c.held.number - a.held.number = omega (arith, one.floor, other.floor) in
    let rest : b.ahead ≡ drop low a.ahead = one.ahead ∙ ap (λ (k : ℕ). drop k a.ahead) place in record {
      floor = omega (arith, one.floor, other.floor, below);
      held = record {
        number_is = refl;
        games =
            other.held.games
            ∙ ap₂ (λ (games : List Game) (l : List Segment). games ++ items_in (take high l)) one.held.games rest
            ∙ append_assoc (items_in a.held.parts) (items_in (take low a.ahead)) (items_in (take high (drop low a.ahead)))
            ∙ ap (λ (l : List Game). items_in a.held.parts ++ l)
            (sym (items-append (take low a.ahead) (take high (drop low a.ahead)))
            ∙ ap items_in (sym (take-add low high a.ahead))
            ∙ ap (λ (k : ℕ). items_in (take k a.ahead)) whole);
      };
      ahead =
          other.ahead
          ∙ ap (drop (m - b.held.number)) one.ahead
          ∙ drop-drop (m - b.held.number) (n - a.held.number) a.ahead
          ∙ ap (λ (k : ℕ). drop k a.ahead) (omega (arith, one.floor, below));
      counts = other.counts ∙ one.counts;
      waiting = other.waiting ∙ one.waiting;
    }

-- the last number that was gone over is the one that was asked for, or the floor
pub raised-end : (before now : Kept) (n number : ℕ) → before.held.number ≤ n → n ≤ max before.held.number number → number ≤ n → IsRaised before n now → IsRaised before number now
raised-end before now n number low high past raised = record {
  floor = omega (arith, raised.floor, low, high, past);
  held = raised.held;
  ahead = raised.ahead ∙ ap (λ (k : ℕ). drop k before.ahead) (omega (arith, low, high, past));
  counts = raised.counts;
  waiting = raised.waiting;
}

-- by one
pub raised-once : (kept after : Kept) (part : List Game) → kept.ahead ≡ part ∷ after.ahead → after.held.number ≡ kept.held.number + 1 → items_in after.held.parts ≡ items_in kept.held.parts ++ part
    → after.counts ≡ kept.counts → after.waiting ≡ kept.waiting → IsRaised kept (kept.held.number + 1) after
raised-once kept after part first next games counts waiting =
    let by_one : after.held.number - kept.held.number ≡ 1 = omega (arith, next) in
    let one : (kept.held.number + 1) - kept.held.number ≡ 1 = omega arith in record {
      floor = omega (arith, next);
      held = record {
        number_is = refl;
        games =
            games
            ∙ ap (λ (l : List Game). items_in kept.held.parts ++ l)
            (sym (ap₂ (λ (n : ℕ) (l : List Segment). items_in (take n l)) by_one first ∙ items-one part after.ahead));
      };
      ahead = sym (ap₂ (λ (n : ℕ) (l : List Segment). drop n l) one first);
      counts = counts;
      waiting = waiting;
    }

-- by nothing: the version at the floor has other parts, and the same number and games
pub raised-parts : (kept after : Kept) → after.held.number ≡ kept.held.number → items_in after.held.parts ≡ items_in kept.held.parts → after.ahead ≡ kept.ahead → after.counts ≡ kept.counts → after.waiting ≡ kept.waiting → IsRaised kept kept.held.number after
raised-parts kept after number games ahead counts waiting =
    let none : after.held.number - kept.held.number ≡ 0 = omega (arith, number) in
    let still : kept.held.number - kept.held.number ≡ 0 = omega arith in record {
      floor = omega (arith, number);
      held = record {
        number_is = refl;
        games = games ∙ sym (append-nil (items_in kept.held.parts)) ∙ ap (λ (n : ℕ). items_in kept.held.parts ++ items_in (take n kept.ahead)) (sym none);
      };
      ahead = ahead ∙ ap (λ (n : ℕ). drop n kept.ahead) (sym still);
      counts = counts;
      waiting = waiting;
    }

-- the games stay
pub raised-games : (before after : Kept) (n : ℕ) → IsRaised before n after → kept_games after ≡ kept_games before
raised-games before after n raised =
    let count : ℕ = after.held.number - before.held.number in
    let same : n - before.held.number ≡ count = omega (arith, raised.floor) in
    ap₂ (λ (games : List Game) (l : List Segment). games ++ items_in l) raised.held.games (raised.ahead ∙ ap (λ (k : ℕ). drop k before.ahead) same)
    ∙ append_assoc (items_in before.held.parts) (items_in (take count before.ahead)) (items_in (drop count before.ahead))
    ∙ ap (λ (l : List Game). items_in before.held.parts ++ l) (sym (items-append (take count before.ahead) (drop count before.ahead)) ∙ ap items_in (take-append-drop count before.ahead))

-- so does the last version
pub raised-last : (before after : Kept) (n : ℕ) → n ≤ kept_last before → IsRaised before n after → kept_last after ≡ kept_last before
raised-last before after n within raised = omega (arith, raised.floor, within, ap length raised.ahead, length-drop (n - before.held.number) before.ahead)

pub raised-fits : (before after : Kept) (n : ℕ) → n ≤ kept_last before → IsRaised before n after → FitsTogether before → FitsTogether after
raised-fits before after n within raised fits = record {
  counted = raised.counts ∙ fits.counted ∙ ap (λ (games : List Game). counts_of (trees_in games)) (sym (raised-games before after n raised));
  few = omega (arith, fits.few, ap (λ (c : Counts). c.games) raised.counts);
  number = omega (arith, fits.number, raised-last before after n within raised);
}

-- what fits together does so whatever waits
pub fits-waiting : (kept : Kept) (waiting : Option (List ℕ)) → FitsTogether kept → FitsTogether (record kept { waiting = waiting })
fits-waiting kept waiting fits = record { counted = fits.counted; few = fits.few; number = fits.number }

-- ---- versions

pub version-more : (kept : Kept) (at : ℕ) (version after : VersionState Game) (part : List Game) → at < length kept.ahead → part ≡ get_or kept.ahead at part
    → items_in version.parts ≡ items_in kept.held.parts ++ items_in (take at kept.ahead) → items_in after.parts ≡ items_in version.parts ++ part
    → items_in after.parts ≡ items_in kept.held.parts ++ items_in (take (at + 1) kept.ahead)
version-more kept at version after part below is so_far more =
    more
    ∙ ap (λ (l : List Game). l ++ part) so_far
    ∙ append_assoc (items_in kept.held.parts) (items_in (take at kept.ahead)) part
    ∙ ap (λ (l : List Game). items_in kept.held.parts ++ l)
    (sym (ap items_in (take_more kept.ahead at part below)
    ∙ items-append (take at kept.ahead) (get_or kept.ahead at part ∷ [])
    ∙ ap (λ (l : List Game). items_in (take at kept.ahead) ++ l) (append-nil (get_or kept.ahead at part) ∙ sym is)))

-- a part that was cloned is the segment at its place
pub part-at : {A : Type 0} (f : A → List Game) (items : List A) (ahead : List Segment) (at : ℕ) (x y : A) → ahead ≡ map f items → at < length ahead → x ≡ get_or items at x → f y ≡ f x → f y ≡ get_or ahead at (f y)
part-at f items ahead at x y is below found same = same ∙ ap f found ∙ sym (get_or-map f items at x) ∙ ap (λ (l : List Segment). get_or l at (f x)) (sym is) ∙ get_or_default ahead at (f x) (f y) below

-- there is room for it
pub version-room : (kept : Kept) (at : ℕ) (version : VersionState Game) (part : List Game) → FitsTogether kept → at < length kept.ahead → part ≡ get_or kept.ahead at part → items_in version.parts ≡ items_in kept.held.parts ++ items_in (take at kept.ahead)
    → length (items_in version.parts) + length part ≤ 400000
version-room kept at version part fits below is so_far =
    let more = version-more kept at version (record { number = version.number; parts = version.parts ++ part ∷ [] }) part below is so_far (items-push version.parts part) in
    omega (arith, few-behind kept (at + 1) fits, ap length (sym (items-push version.parts part) ∙ more), length-append (items_in version.parts) part, length-append (items_in kept.held.parts) (items_in (take (at + 1) kept.ahead)))
