-- A list whose last token may be the left operand of ##. Assumes nothing.
use Rattle.std.specs.Prelude.{ℕ, ◌-◌, Bool, true, false, List, [], ◌∷◌, ◌++◌, length, take, Some, None, Option}
use Rattle.std.specs.List.{slice_get}
use Rattle.std.specs.Option.{option_map}
use Rattle.replacement.specs.Items.{Item, Outcome, giving, ◌then◌}
use Rattle.replacement.specs.Joining.{Piece, joined, join_all}

-- the left operand, where there is one, and what stands before it
abbrev pub last_of : Bool → List Item → Option Item
last_of true is = slice_get is (length is - 1)
last_of false is = None

abbrev pub before : Bool → List Item → List Item
before true is = take (length is - 1) is
before false is = is

-- an operand and a token joined, none where they do not make one token
abbrev pub joined_to : ℕ → Option Item → Item → Option Item
joined_to line None b = Some b
joined_to line (Some a) b = joined line a b

-- the list once its operand and a token are joined
abbrev pub joined_end : ℕ → Bool → List Item → Item → Option (List Item)
joined_end line o is b = option_map (λ i. before o is ++ i ∷ []) (joined_to line (last_of o is) b)

-- what the list and the pieces behind it give
abbrev pub going_on : ℕ → ℕ → Bool → List Item → List Piece → Outcome Item
going_on line left o is ps = giving (before o is) left then (λ n. join_all line n (last_of o is) ps)
