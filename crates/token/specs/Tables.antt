-- What a token table holds. Assumes nothing.
use Rattle.std.specs.Prelude.{ℕ, List}
use Rattle.token.specs.declared.table.TokenTable.{TokenTable}
use Rattle.token.specs.declared.TokenRef.{TokenRef}
use Rattle.token.specs.Limited.{limited_tokens}
use Rattle.token.specs.Tokens.{Token}

abbrev pub table_tokens : {n b : ℕ} → TokenTable n b → List Token
table_tokens t = limited_tokens t.table

-- the token that is referred to
abbrev pub referred : TokenRef → Token
referred t = record { kind = t.kind; spelling = t.spelling.now; line = t.line; marked = t.marked }
