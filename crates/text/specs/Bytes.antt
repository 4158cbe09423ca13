-- What a byte may be. Assumes nothing.
use Rattle.std.specs.Prelude.{ℕ, Bool, true, false, cond, ◌&&◌, ◌||◌, Some, None, Option, ◌==◌, nat_le}

-- low ≤ b ≤ high
abbrev pub within : ℕ → ℕ → ℕ → Bool
within low high b = nat_le low b && nat_le b high

abbrev pub digit : ℕ → Bool
digit b = within 48 57 b

-- a byte that may stand in a name: a letter, a digit or an underscore
abbrev pub name_byte : ℕ → Bool
name_byte b = within 97 122 b || within 65 90 b || digit b || b == 95

-- a byte that a text may hold: the white space 9 to 12, the printable bytes, and what may stand in a name
abbrev pub admitted : ℕ → Bool
admitted b = name_byte b || within 9 12 b || within 32 126 b

-- a mark that opens a literal: ' or "
abbrev pub mark : ℕ → Bool
mark b = b == 39 || b == 34

-- The next byte of a literal that its mark opened: none where the byte closes it,
-- else whether the byte behind is taken along, as it is behind a backslash that was not itself taken along.
abbrev pub quoting : ℕ → Bool → ℕ → Option Bool
quoting mark true b = Some false
quoting mark false b = cond (b == mark) None (Some (b == 92))
