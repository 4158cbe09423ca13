-- What the scanner answers, and how it knows punctuators. Assumes nothing.
use Rattle.std.specs.Prelude.{ℕ, zero, suc, Bool, false, cond, ◌&&◌, ◌||◌, List, [], ◌∷◌, Some, None, Ok, Err, Option, Result, ◌==◌, nat_le}
use Rattle.text.specs.Bytes.{digit, name_byte, mark}
use Rattle.text.specs.declared.Fault.{Fault}
use Rattle.text.specs.declared.FaultKind.TheVariants.{OpenLiteral, LongToken}
use Rattle.token.specs.declared.Kind.{Kind}
use Rattle.token.specs.declared.Kind.TheVariants.{Punctuator, Other}
use Rattle.lexer.specs.declared.scan.Class.{Class}
use Rattle.lexer.specs.declared.scan.Class.TheVariants.{Literal, WideLiteral, Number, Name, Symbol}
use Rattle.lexer.specs.Cutting.{Scan, token, unclosed}
use Rattle.lexer.specs.Punctuators.{ones, twos, threes, fours, begins}

abbrev pub scanned : Option (Kind × ℕ) → Scan
scanned (Some m) = token m.0 m.1
scanned None = unclosed

-- what the first two bytes, 0 where there is none, say of a token
abbrev pub class_of : ℕ → ℕ → Class
class_of a b =
    cond (mark a) Literal (cond (a == 76 && mark b) WideLiteral (cond (digit a || (a == 46 && digit b)) Number (cond (name_byte a) Name Symbol)))

-- a punctuator of so many bytes, or any other byte, where there is no punctuator
abbrev pub symbol_token : Option ℕ → Scan
symbol_token None = token Other 1
symbol_token (Some n) = token Punctuator n

-- whether the bytes begin with one of the words
abbrev pub starting : List (List ℕ) → List ℕ → Bool
starting [] bs = false
starting (w ∷ ws) bs = begins w bs || starting ws bs

-- a length, where it is one of more than no bytes
abbrev pub some_length : ℕ → Option ℕ
some_length zero = None
some_length (suc n) = Some (suc n)

-- the length of the longest punctuator that four bytes begin with
abbrev pub longest_of : ℕ → ℕ → ℕ → ℕ → Option ℕ
longest_of a b c d =
    cond (starting fours (a ∷ b ∷ c ∷ d ∷ [])) (Some 4) (cond (starting threes (a ∷ b ∷ c ∷ [])) (Some 3) (cond (starting twos (a ∷ b ∷ [])) (Some 2) (cond (starting ones (a ∷ [])) (Some 1) None)))

-- the kind and the length of a token, or the fault that takes its place on a line
abbrev pub measured : Scan → ℕ → Result (Kind × ℕ) Fault
measured unclosed line = Err (record { kind = OpenLiteral; line = line })
measured (token k n) line = cond (nat_le n 1023) (Ok (k, n)) (Err (record { kind = LongToken; line = line }))
