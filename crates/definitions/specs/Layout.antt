-- A definition as tokens of a table. Assumes nothing.
use Rattle.std.specs.Prelude.{ℕ, ◌+◌, ◌-◌, ◌≤◌, Bool, false, cond, ◌&&◌, List, [], ◌∷◌, ◌++◌, map, length, Some, None, Option, nat_le}
use Rattle.std.specs.Option.{unwrap_or}
use Rattle.std.specs.Str.{bytes_eq}
use Rattle.token.specs.declared.Kind.TheVariants.{Identifier}
use Rattle.token.specs.declared.table.TokenTable.{TokenTable}
use Rattle.token.specs.Tables.{table_tokens}
use Rattle.token.specs.Tokens.{Token}
use Rattle.token.specs.Views.{spelled}
use Rattle.definition.specs.Definitions.{Macro}
use Rattle.definitions.specs.InForce.{same_mark}

abbrev pub name_token : List ℕ → Token
name_token w = record { kind = Identifier; spelling = w; line = 0; marked = false }

abbrev pub name_tokens : List (List ℕ) → List Token
name_tokens ws = map name_token ws

abbrev pub parameter_tokens : Option (List (List ℕ)) → List Token
parameter_tokens o = name_tokens (unwrap_or o [])

-- the name, the parameters and the list
abbrev pub laid : Macro → List Token
laid m = name_token m.name ∷ parameter_tokens m.parameters ++ m.list

-- whether tokens can be added to a table
abbrev pub Holds : {n b : ℕ} → TokenTable n b → List Token → Type 0
Holds {n} {b} t ts = (length (table_tokens t) + length ts ≤ n) × (spelled (table_tokens t) + spelled ts ≤ b)

-- what is left of a room, where it is large enough
abbrev pub left : ℕ → ℕ → Option ℕ
left room n = cond (nat_le n room) (Some (room - n)) None

abbrev pub same_token : Token → Token → Bool
same_token t u = bytes_eq t.spelling u.spelling && same_mark t.marked u.marked
