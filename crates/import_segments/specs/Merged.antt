-- The published parts of an importer, which merges the last two as long as the last is no smaller.
use Rattle.std.specs.Prelude.{◌≡◌, ◌<◌, List, [], ◌∷◌, ◌++◌, fold, length, nat_lt, reverse, if◌then◌else◌}
use Rattle.import_work.specs.Log.{Segment}

-- the last part has fewer games than the one before it, where there are two
abbrev pub AreMerged : List Segment → Type 0
AreMerged [] = Unit {0}
AreMerged (a ∷ []) = Unit {0}
AreMerged (a ∷ b ∷ []) = length b < length a
AreMerged (a ∷ b ∷ c ∷ parts) = AreMerged (b ∷ c ∷ parts)

-- Parts, the last first, with one more: it takes in the part before it as long as that doesn't have
-- more games.
abbrev pub with_part : List Segment → Segment → List Segment
with_part [] part = part ∷ []
with_part (before ∷ parts) part = if nat_lt (length part) (length before)
    then part ∷ before ∷ parts
    else with_part parts (before ++ part)

-- The published parts have grown as the log has, by the same segments, one after another, and each
-- came as `with_part` says.
pub record MergesEach (log_before log_now parts_before parts_now : List Segment) : Type 0 where
  pub segments : List Segment
  pub grown : log_now ≡ log_before ++ segments
  pub merged : reverse parts_now ≡ fold with_part (reverse parts_before) segments
