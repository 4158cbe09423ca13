-- What a token is. Assumes nothing.
use Rattle.std.specs.Prelude.{ℕ, Bool, List}
use Rattle.token.specs.declared.Kind.{Kind}
use Rattle.token.specs.declared.Kind.TheVariants.{Identifier, Number, Character, String, Punctuator, Other}

-- the numbers of the six kinds
abbrev pub kind_number : Kind → ℕ
kind_number Identifier = 1
kind_number Number = 2
kind_number Character = 3
kind_number String = 4
kind_number Punctuator = 5
kind_number Other = 6

-- A preprocessing token: its kind, its spelling, the line of its first byte,
-- and whether it is marked: white space precedes it, or it is the first of its line.
pub record Token : Type 0 where
  pub kind : Kind
  pub spelling : List ℕ
  pub line : ℕ
  pub marked : Bool
