-- How the spellings of a table lie in its text. Assumes nothing.
use Rattle.std.specs.Prelude.{ℕ, ◌+◌, Bool, ◌&&◌, List, [], ◌∷◌, length, ◌==◌}
use Rattle.token.specs.declared.TokenRef.{TokenRef}
use Rattle.token.specs.declared.record.Record.{Record}

-- from the first byte on, each record starts where the last one ended, and the last one ends at the end
abbrev pub packed : ℕ → List Record → ℕ → Bool
packed at [] end = at == end
packed at (r ∷ rs) end = r.spelling.start == at && packed (at + r.spelling.len) rs end

-- the record of a token whose spelling starts at the given place
abbrev pub record_of : ℕ → TokenRef → Record
record_of start t = record { kind = t.kind; spelling = record { start = start; len = length t.spelling.now }; line = t.line; marked = t.marked }
