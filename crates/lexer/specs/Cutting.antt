-- A logical line cut into tokens, from the left, each as long as it can be. Assumes nothing.
use Rattle.std.specs.Prelude.{ℕ, zero, suc, ◌+◌, Bool, true, false, cond, not, ◌&&◌, ◌||◌, List, [], ◌∷◌, map, length, take, drop, Some, None, Ok, Err, Option, Result, ◌==◌, nat_le, slice_index}
use Rattle.std.specs.List.{list_all}
use Rattle.std.specs.Option.{option_map}
use Rattle.text.specs.Bytes.{within, digit, name_byte, admitted, mark, quoting}
use Rattle.text.specs.Placing.{byte_of}
use Rattle.text.specs.declared.Placed.{Placed}
use Rattle.text.specs.declared.Fault.{Fault}
use Rattle.text.specs.declared.FaultKind.TheVariants.{OpenLiteral, LongToken}
use Rattle.token.specs.declared.Kind.{Kind}
use Rattle.token.specs.declared.Kind.TheVariants.{Identifier, Number, Character, String, Punctuator, Other}
use Rattle.lexer.specs.Punctuators.{punctuators, longest}
use Rattle.token.specs.Tokens.{Token}

-- white space within a line: space, horizontal and vertical tab, form feed
abbrev pub white : ℕ → Bool
white b = b == 32 || b == 9 || within 11 12 b

abbrev pub sign : ℕ → Bool
sign b = b == 43 || b == 45

-- a letter behind which a number takes a sign along: e E p P
abbrev pub exponent : ℕ → Bool
exponent b = b == 101 || b == 69 || b == 112 || b == 80

-- how many bytes at the front may stand in a name
abbrev pub name_length : List ℕ → ℕ
name_length [] = 0
name_length (b ∷ bs) = cond (name_byte b) (suc (name_length bs)) 0

-- how many bytes at the front go on with a number; the flag says whether the byte before is an exponent's letter
abbrev pub number_length : Bool → List ℕ → ℕ
number_length e [] = 0
number_length e (b ∷ bs) = cond (name_byte b || b == 46 || (e && sign b)) (suc (number_length (exponent b) bs)) 0

-- how many bytes a literal has behind the mark that opens it, the closing mark included
abbrev pub literal_length : ℕ → Bool → List ℕ → Option ℕ
literal_length m escaped [] = None
literal_length m escaped (b ∷ bs) = elim (quoting m escaped b) [ None ↦ Some 1 | Some e ↦ option_map suc (literal_length m e bs) ]

-- the token at the front of what is left: its kind and length, or a literal that is not closed or is ''
pub data Scan : Type 0 where
  token : Kind → ℕ → Scan
  unclosed : Scan

-- a literal with n bytes up to the mark that opens it, and then bs
abbrev pub literal : ℕ → ℕ → List ℕ → Scan
literal m n bs =
    elim (literal_length m false bs) [ None ↦ unclosed | Some k ↦ cond (m == 39) (cond (k == 1) unclosed (token Character (n + k))) (token String (n + k)) ]

-- whether the bytes begin with one that passes the test
abbrev pub front : (ℕ → Bool) → List ℕ → Bool
front test [] = false
front test (b ∷ bs) = test b

abbrev pub scan : List ℕ → Scan
scan [] = unclosed
scan (b ∷ bs) =
    cond (mark b) (literal b 1 bs)
    (cond (b == 76 && front mark bs) (literal (slice_index bs 0) 2 (drop 1 bs))
    (cond (digit b || (b == 46 && front digit bs)) (token Number (suc (number_length false bs)))
    (cond (name_byte b) (token Identifier (suc (name_length bs)))
    (elim (longest punctuators (b ∷ bs)) [ zero ↦ token Other 1 | suc n ↦ token Punctuator (suc n) ]))))

abbrev pub before : Token → Result (List Token) Fault → Result (List Token) Fault
before t (Ok ts) = Ok (t ∷ ts)
before t (Err f) = Err f

-- The tokens of a line, or the leftmost fault, which stands in for the whole line. The flag says whether the next
-- token is marked; each step takes at least one byte, so as many steps as bytes are enough.
abbrev pub cut : ℕ → Bool → List Placed → Result (List Token) Fault
cut zero marked ps = Ok []
cut (suc g) marked [] = Ok []
cut (suc g) marked (p ∷ ps) =
    elim (white p.byte) [
      | true ↦ cut g true ps
      | false ↦
          elim (scan (map byte_of (p ∷ ps))) [
            | unclosed ↦ Err (record { kind = OpenLiteral; line = p.line })
            | token k n ↦
                elim (nat_le n 1023) [
                  | true ↦ before (record { kind = k; spelling = take n (map byte_of (p ∷ ps)); line = p.line; marked = marked }) (cut g false (drop n (p ∷ ps)))
                  | false ↦ Err (record { kind = LongToken; line = p.line })
                ]
          ]
    ]

abbrev pub cut_line : List Placed → Result (List Token) Fault
cut_line ps = cut (length ps) true ps

-- bytes that may stand in a line
abbrev pub fitting : List ℕ → Bool
fitting bs = list_all (λ b. admitted b && not (b == 10)) bs

-- the kind, where all of the bytes are one token
abbrev pub exactly : ℕ → Scan → Option Kind
exactly n unclosed = None
exactly n (token k m) = cond (m == n) (Some k) None

-- the kind of bytes that are exactly one token of at most 1,023 bytes, each of which may stand in a line
abbrev pub one_token : List ℕ → Option Kind
one_token bs = cond (fitting bs && nat_le (length bs) 1023 && not (front white bs)) (exactly (length bs) (scan bs)) None
