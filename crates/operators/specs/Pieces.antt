-- What stands in a result before joining, as the code keeps it. Assumes nothing.
use Rattle.std.specs.Prelude.{false, List, map, Some, None, Option}
use Rattle.item.specs.declared.hide_set.HideSet.{HideSet}
use Rattle.item.specs.Sets.{empty_set}
use Rattle.item.specs.Tagged.{Tagged}
use Rattle.token.specs.Tokens.{Token}
use Rattle.definition.specs.Definitions.{Macro}
use Rattle.replacement.specs.Joining.{Piece, piece, joiner, nothing}
use Rattle.replacement.specs.Meaning.{hidden}
use Rattle.operators.specs.declared.Role.{Role}
use Rattle.operators.specs.declared.Role.TheVariants.{Plain, Join, Nothing}

abbrev pub in_role : List Macro → Token → Role → Piece
in_role ms t (Plain h) = piece (record { token = t; hides = hidden ms h })
in_role ms t Join = joiner (record { token = t; hides = λ n. false })
in_role ms t Nothing = nothing

abbrev pub piece_of : List Macro → Tagged Role → Piece
piece_of ms x = in_role ms x.token x.tag

abbrev pub pieces_of : List Macro → List (Tagged Role) → List Piece
pieces_of ms xs = map (piece_of ms) xs

-- the token that a piece is as an operand
abbrev pub as_operand : Token → Role → Option (Tagged HideSet)
as_operand t (Plain h) = Some (record { token = t; tag = h })
as_operand t Join = Some (record { token = t; tag = empty_set })
as_operand t Nothing = None

abbrev pub operand_of : Tagged Role → Option (Tagged HideSet)
operand_of x = as_operand x.token x.tag
