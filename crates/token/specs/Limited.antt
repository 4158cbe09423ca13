-- What a table with limits of its own holds. Assumes nothing.
use Rattle.std.specs.Prelude.{ℕ, List, map, take, drop, vec_items}
use Rattle.token.specs.declared.limited.LimitedTable.{LimitedTable}
use Rattle.token.specs.declared.record.Record.{Record}
use Rattle.token.specs.Tokens.{Token}

-- the token of a record, whose spelling lies in the text
abbrev pub record_token : List ℕ → Record → Token
record_token text r = record { kind = r.kind; spelling = take r.spelling.len (drop r.spelling.start text); line = r.line; marked = r.marked }

abbrev pub limited_tokens : LimitedTable → List Token
limited_tokens t = map (record_token (vec_items t.text)) (vec_items t.records)

-- the limits of a table
abbrev pub limit_of_tokens : LimitedTable → ℕ
limit_of_tokens t = t.tokens_limit

abbrev pub limit_of_bytes : LimitedTable → ℕ
limit_of_bytes t = t.bytes_limit
