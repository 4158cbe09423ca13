-- How the tokens of definitions lie one behind the other. Assumes nothing.
use Rattle.std.specs.Prelude.{ℕ, ◌+◌, Bool, ◌&&◌, List, [], ◌∷◌, map, take, drop, Option, ◌==◌, nat_le}
use Rattle.std.specs.Option.{option_map, unwrap_or}
use Rattle.token.specs.Tokens.{Token}
use Rattle.definition.specs.Definitions.{Macro}
use Rattle.definitions.specs.declared.entry.Entry.{Entry}

abbrev pub first_spelling : List Token → List ℕ
first_spelling [] = []
first_spelling (t ∷ ts) = t.spelling

abbrev pub spellings : List Token → List (List ℕ)
spellings ts = map (λ t. t.spelling) ts

-- the definition that a block of tokens holds: the name, so many parameters where it is function-like, and the list
abbrev pub block_macro : List Token → Option ℕ → Macro
block_macro b p = record { name = first_spelling b; parameters = option_map (λ n. spellings (take n (drop 1 b))) p; list = drop (unwrap_or p 0) (drop 1 b) }

abbrev pub block : List Token → Entry → List Token
block ts e = take e.block.len (drop e.block.start ts)

abbrev pub macro_at : List Token → Entry → Macro
macro_at ts e = block_macro (block ts e) e.parameters

-- from a place on, each block starts where the last one ended, and the last one ends at the end;
-- none has more than 127 parameters
abbrev pub placed : ℕ → List Entry → ℕ → Bool
placed at [] end = at == end
placed at (e ∷ es) end = e.block.start == at && (nat_le (unwrap_or e.parameters 0) 127 && placed (at + e.block.len) es end)
