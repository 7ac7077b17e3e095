-- What the word of a point tells: definitions for the private functions.
use Rattle.std.specs.Prelude.{◌≡◌, ℕ, ◌-◌, ◌*◌, ◌/◌, ◌%◌, ◌<◌, ◌≤◌, ◌↔◌, ◌==◌, nat_le, IsTrue, Bool, true, false, if◌then◌else◌}
use Rattle.kb_geometry.specs.declared.stone.Colour.{Colour}
use Rattle.kb_geometry.specs.declared.stone.Colour.TheVariants as colour
use Rattle.capture_index.specs.declared.time.PackedTime.{PackedTime}
use Rattle.capture_index.specs.declared.time.Time.{Time}
use Rattle.capture_index.specs.declared.time.Time.TheVariants as time
use Rattle.capture_index.specs.declared.time.TheConstants.{MANY, NEVER}

-- the stone of a word that tells a node
abbrev pub stone_by : ℕ → Colour
stone_by word = if (word % 2) == 1 then colour.White else colour.Black

-- the time that a word tells: twice the first node with a stone, and 1 more where it is white; or that
-- there is none; or the number of a list
unfoldable pub told_by : PackedTime → Time
told_by packed =
    if nat_le MANY packed.word then time.Many (packed.word - MANY)
    else (if nat_le (2 * NEVER) packed.word then time.Never
    else time.First (packed.word / 2) (stone_by packed.word))

-- a word has room for it
abbrev pub FitsWord : Time → Type 0
FitsWord (time.First node stone) = node < NEVER
FitsWord (time.Many list) = list < MANY
FitsWord time.Never = Unit {0}

-- whether a list tells
abbrev pub is_many : Time → Bool
is_many (time.First node stone) = false
is_many (time.Many list) = true
is_many time.Never = false

-- there is one run, which has begun by the node
abbrev pub HasStoneAt : Time → ℕ → Type 0
HasStoneAt (time.First node stone) n = node ≤ n
HasStoneAt (time.Many list) n = ⊥
HasStoneAt time.Never n = ⊥

-- it is told whether the stone, if there is one, is white or else black
abbrev pub IsColourTold : Bool → Bool → Time → Type 0
IsColourTold white told (time.First node stone) =
    IsTrue told ↔ (stone ≡ (if white then colour.White else colour.Black))
IsColourTold white told (time.Many list) = Unit {0}
IsColourTold white told time.Never = Unit {0}
