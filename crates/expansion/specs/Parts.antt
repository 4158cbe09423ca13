-- What the tokens of a replacement list become. Assumes nothing.
use Rattle.std.specs.Prelude.{◌≡◌, ℕ, Bool, true, false, cond, ◌||◌, List, [], ◌∷◌, map, Some, None, Option, unwrap_or, nat_lt}
use Rattle.std.specs.List.{slice_get}
use Rattle.token.specs.declared.Kind.TheVariants.{Other}
use Rattle.token.specs.Tokens.{Token as PlainToken}
use Rattle.item.specs.declared.hide_set.HideSet.{HideSet}
use Rattle.item.specs.Tagged.{Tagged, bytes}
use Rattle.definition.specs.Definitions.{Macro, hash, join}
use Rattle.definitions.specs.InForce.{index}
use Rattle.replacement.specs.Items.{Item, Outcome, giving, ◌then◌, fresh, placing, marking_first}
use Rattle.replacement.specs.Joining.{Piece, piece, joiner, literal}
use Rattle.replacement.specs.Replacing.{raw, operand_of, piece_bytes, limited_pieces}
use Rattle.operators.specs.declared.Role.{Role}
use Rattle.operators.specs.declared.Role.TheVariants.{Plain, Nothing}
use Rattle.operators.specs.Pieces.{pieces_of}
use Rattle.expansion.specs.declared.part.Part.{Part}
use Rattle.expansion.specs.declared.part.Part.TheVariants.{Token, Join, Literal, Raw, Expanded}

-- an index of one of so many arguments
abbrev pub within : ℕ → Option ℕ → Option ℕ
within n None = None
within n (Some k) = cond (nat_lt k n) (Some k) None

-- the index of the argument that a token stands for
abbrev pub argument_at : List (List ℕ) → ℕ → PlainToken → Option ℕ
argument_at ps n t = within n (index t.spelling ps)

abbrev pub substituted_part : Option ℕ → Bool → Part
substituted_part None beside = Token
substituted_part (Some k) beside = cond beside (Raw k) (Expanded k)

-- a token of a list and the one behind it, for so many arguments and with whether ## stands before it; no argument has
-- the index n, so that # makes a literal of no tokens where no parameter follows
abbrev pub part_of : Option (List (List ℕ)) → ℕ → Bool → PlainToken → Option PlainToken → Part
part_of None n joins t next = cond (join t) Join Token
part_of (Some ps) n joins t None = cond (join t) Join (substituted_part (argument_at ps n t) joins)
part_of (Some ps) n joins t (Some u) =
    cond (join t) Join (cond (hash t) (Literal (unwrap_or (argument_at ps n u) n)) (substituted_part (argument_at ps n t) (joins || join u)))

-- what a part gives for the arguments; one that is expanded has been expanded to these tokens
abbrev pub given : ℕ → List (List Item) → List Item → PlainToken → ℕ → Part → Outcome Piece
given line args is t left Token = giving (piece (fresh (placing line t)) ∷ []) left
given line args is t left Join = giving (joiner (fresh (placing line t)) ∷ []) left
given line args is t left (Literal k) = literal t line (operand_of (slice_get args k)) left
given line args is t left (Raw k) = giving (raw t.marked (operand_of (slice_get args k))) left
given line args is t left (Expanded k) = giving (map piece (marking_first t.marked is)) left

-- how many tokens of the list a part is
abbrev pub width : Part → ℕ
width Token = 1
width Join = 1
width (Literal k) = 2
width (Raw k) = 1
width (Expanded k) = 1

-- whether ## stands before what follows a part
abbrev pub is_join_part : Part → Bool
is_join_part Token = false
is_join_part Join = true
is_join_part (Literal k) = false
is_join_part (Raw k) = false
is_join_part (Expanded k) = false

-- pieces with what a part gives behind them, within the limits
abbrev pub added_to : ℕ → List (List Item) → List Item → PlainToken → Part → List Piece → ℕ → Outcome Piece
added_to line args is t p ps left = limited_pieces line (giving ps left then (λ n. given line args is t n p))

-- Pieces as the code keeps them

-- a token of an argument, with a mark or with its own
abbrev pub plainly : Bool → Tagged HideSet → Tagged Role
plainly m x = record { token = record { kind = x.token.kind; spelling = x.token.spelling; line = x.token.line; marked = m }; tag = Plain x.tag }

abbrev pub as_is : Tagged HideSet → Tagged Role
as_is x = record { token = x.token; tag = Plain x.tag }

abbrev pub placemarker : Tagged Role
placemarker = record { token = record { kind = Other; spelling = []; line = 0; marked = false }; tag = Nothing }

-- the tokens of an argument, the first with the mark of the parameter
abbrev pub plains : Bool → List (Tagged HideSet) → List (Tagged Role)
plains m [] = []
plains m (x ∷ xs) = plainly m x ∷ map as_is xs

-- the same, with a placemarker where there is no token
abbrev pub raws : Bool → List (Tagged HideSet) → List (Tagged Role)
raws m [] = placemarker ∷ []
raws m (x ∷ xs) = plains m (x ∷ xs)

-- the placemarkers of a table have no bytes
abbrev pub Sized : List (Tagged Role) → Type 0
Sized xs = (ms : List Macro) → piece_bytes (pieces_of ms xs) ≡ bytes xs
