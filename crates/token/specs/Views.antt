-- Tokens as they are read, and how many bytes they take. Assumes nothing.
use Rattle.std.specs.Prelude.{ℕ, ◌+◌, Bool, ◌&&◌, List, [], ◌∷◌, map, length, nat_le, nat_lt}
use Rattle.token.specs.declared.limited.LimitedTable.{LimitedTable}
use Rattle.token.specs.declared.table.TokenTable.{TokenTable}
use Rattle.token.specs.declared.tokens.Tokens.{Tokens}
use Rattle.token.specs.Limited.{record_token, limited_tokens, limit_of_tokens, limit_of_bytes}
use Rattle.token.specs.Tables.{table_tokens}
use Rattle.token.specs.Tokens.{Token}

-- the tokens that a view shows
abbrev pub view_tokens : Tokens → List Token
view_tokens v = map (record_token v.text.now) v.records.now

-- how many bytes the spellings have together
abbrev pub spelled : List Token → ℕ
spelled [] = 0
spelled (t ∷ ts) = length t.spelling + spelled ts

-- whether one more token, with a spelling of k bytes, stays within a table's limits
abbrev pub has_room : {n b : ℕ} → TokenTable n b → ℕ → Bool
has_room {n} {b} t k = nat_lt (length (table_tokens t)) n && nat_le (spelled (table_tokens t) + k) b

-- the same of a table with limits of its own
abbrev pub has_place : LimitedTable → ℕ → Bool
has_place t k = nat_lt (length (limited_tokens t)) (limit_of_tokens t) && nat_le (spelled (limited_tokens t) + k) (limit_of_bytes t)
