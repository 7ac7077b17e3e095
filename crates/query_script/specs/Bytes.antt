-- The bytes that the grammar of a script names.
use Rattle.std.specs.Prelude.{ℕ}

abbrev pub tab : ℕ
tab = 9

abbrev pub line_feed : ℕ
line_feed = 10

abbrev pub carriage_return : ℕ
carriage_return = 13

abbrev pub space : ℕ
space = 32

-- the byte `"`
abbrev pub quote : ℕ
quote = 34

-- the byte `#`
abbrev pub number_sign : ℕ
number_sign = 35

-- the byte `\`
abbrev pub backslash : ℕ
backslash = 92

-- the letters with which the names of the options begin, and the second one of `main`
abbrev pub letter_a : ℕ
letter_a = 97

abbrev pub letter_b : ℕ
letter_b = 98

abbrev pub letter_f : ℕ
letter_f = 102

abbrev pub letter_m : ℕ
letter_m = 109

abbrev pub letter_s : ℕ
letter_s = 115

abbrev pub letter_t : ℕ
letter_t = 116
