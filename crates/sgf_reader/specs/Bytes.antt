-- The bytes that the forms of a text are made of, by name.
use Rattle.std.specs.Prelude.{ℕ}

-- line feed and carriage return
abbrev pub LF : ℕ
LF = 10

abbrev pub CR : ℕ
CR = 13

-- the greatest byte that is white space
abbrev pub space : ℕ
space = 32

-- `(` and `)`
abbrev pub round_open : ℕ
round_open = 40

abbrev pub round_close : ℕ
round_close = 41

-- `0` and `9`
abbrev pub digit_zero : ℕ
digit_zero = 48

abbrev pub digit_nine : ℕ
digit_nine = 57

-- `:` and `;`
abbrev pub colon : ℕ
colon = 58

abbrev pub semicolon : ℕ
semicolon = 59

-- `A` and `Z`
abbrev pub capital_a : ℕ
capital_a = 65

abbrev pub capital_z : ℕ
capital_z = 90

-- `[`, a backslash and `]`
abbrev pub square_open : ℕ
square_open = 91

abbrev pub backslash : ℕ
backslash = 92

abbrev pub square_close : ℕ
square_close = 93

-- `a` and `z`
abbrev pub small_a : ℕ
small_a = 97

abbrev pub small_z : ℕ
small_z = 122
