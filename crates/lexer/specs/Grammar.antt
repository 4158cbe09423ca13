-- The lexical grammar of preprocessing tokens, and what it is to cut a line by it. Assumes nothing.
use Rattle.std.specs.Prelude.{◌≡◌, ℕ, ◌<◌, ◌≤◌, Bool, true, false, ◌||◌, List, [], ◌∷◌, ◌++◌, map, length, take, Ok, Err, Result, ◌==◌}
use mathlib.Core.List.{Memᴰ}
use Rattle.text.specs.Bytes.{digit, name_byte, mark}
use Rattle.text.specs.Placing.{byte_of}
use Rattle.text.specs.declared.Placed.{Placed}
use Rattle.text.specs.declared.Fault.{Fault}
use Rattle.text.specs.declared.FaultKind.TheVariants.{OpenLiteral, LongToken}
use Rattle.token.specs.declared.Kind.{Kind}
use Rattle.token.specs.declared.Kind.TheVariants.{Identifier, Number, Character, String, Punctuator, Other}
use Rattle.lexer.specs.Cutting.{white, sign, exponent, before, cut_line}
use Rattle.lexer.specs.Punctuators.{punctuators}
use Rattle.token.specs.Tokens.{Token}

-- bytes that may all stand in a name
pub data Named : List ℕ → Type 0 where
  none : Named []
  and : {b : ℕ} {bs : List ℕ} → name_byte b ≡ true → Named bs → Named (b ∷ bs)

-- a digit, or a point and a digit; then digits, letters and points, and signs behind an exponent's letter
pub data Numeral : List ℕ → Type 0 where
  one : {d : ℕ} → digit d ≡ true → Numeral (d ∷ [])
  point : {d : ℕ} → digit d ≡ true → Numeral (46 ∷ d ∷ [])
  more : {bs : List ℕ} (b : ℕ) → Numeral bs → (name_byte b || b == 46) ≡ true → Numeral (bs ++ b ∷ [])
  signed : {bs : List ℕ} (e b : ℕ) → Numeral bs → exponent e ≡ true → sign b ≡ true → Numeral (bs ++ e ∷ b ∷ [])

-- what stands between two marks m: bytes other than m and the backslash, and a backslash with any byte
pub data Inside (m : ℕ) : List ℕ → Type 0 where
  nothing : Inside m []
  plain : {b : ℕ} {bs : List ℕ} → (b == m) ≡ false → (b == 92) ≡ false → Inside m bs → Inside m (b ∷ bs)
  escape : {b : ℕ} {bs : List ℕ} → Inside m bs → Inside m (92 ∷ b ∷ bs)

-- bytes between two marks m, without or with an L in front
pub data Quoted (m : ℕ) : List ℕ → List ℕ → Type 0 where
  narrow : {bs : List ℕ} → Inside m bs → Quoted m bs (m ∷ (bs ++ m ∷ []))
  wide : {bs : List ℕ} → Inside m bs → Quoted m bs (76 ∷ m ∷ (bs ++ m ∷ []))

-- the bytes spell a token of the kind
pub data Spells : Kind → List ℕ → Type 0 where
  identifier : {b : ℕ} {bs : List ℕ} → name_byte b ≡ true → digit b ≡ false → Named bs → Spells Identifier (b ∷ bs)
  number : {bs : List ℕ} → Numeral bs → Spells Number bs
  character : {b : ℕ} {bs w : List ℕ} → Quoted 39 (b ∷ bs) w → Spells Character w
  string : {bs w : List ℕ} → Quoted 34 bs w → Spells String w
  punctuator : {w : List ℕ} → Memᴰ w punctuators → Spells Punctuator w
  other : {b : ℕ} → white b ≡ false → mark b ≡ false → name_byte b ≡ false → (Memᴰ (b ∷ []) punctuators → ⊥) → Spells Other (b ∷ [])

-- no longer front of w and what follows it spells a token
abbrev pub Longest : List ℕ → List ℕ → Type 0
Longest w rest = (k : Kind) (n : ℕ) → length w < n → n ≤ length (w ++ rest) → Spells k (take n (w ++ rest)) → ⊥

-- the bytes begin with a mark, without or with an L in front, and no front of them is a literal
pub data Unclosed : List ℕ → Type 0 where
  narrow : {m : ℕ} {bs : List ℕ} → mark m ≡ true → ((k : Kind) (n : ℕ) → Spells k (take n (m ∷ bs)) → ⊥) → Unclosed (m ∷ bs)
  wide : {m : ℕ} {bs : List ℕ} → mark m ≡ true → ((n : ℕ) → Spells Character (take n (76 ∷ m ∷ bs)) → ⊥) → ((n : ℕ) → Spells String (take n (76 ∷ m ∷ bs)) → ⊥) → Unclosed (76 ∷ m ∷ bs)

-- What it is to cut a line: white space and spellings make it up, each spelling is a token of at most 1,023 bytes, and
-- no longer one would be, nor does a literal open there that is not closed; else the first place where that cannot be is a fault. The flag says whether the next token is marked.
pub data Cuts : Bool → List Placed → Result (List Token) Fault → Type 0 where
  end : {m : Bool} → Cuts m [] (Ok [])
  space : {m : Bool} {p : Placed} {ps : List Placed} {r : Result (List Token) Fault} → white p.byte ≡ true → Cuts true ps r → Cuts m (p ∷ ps) r
  word : {m : Bool} {k : Kind} (p : Placed) (ps rest : List Placed) {r : Result (List Token) Fault} → white p.byte ≡ false → Spells k (map byte_of (p ∷ ps)) → Longest (map byte_of (p ∷ ps)) (map byte_of rest) → (Unclosed (map byte_of ((p ∷ ps) ++ rest)) → ⊥) → length (p ∷ ps) ≤ 1023 → Cuts false rest r → Cuts m ((p ∷ ps) ++ rest) (before (record { kind = k; spelling = map byte_of (p ∷ ps); line = p.line; marked = m }) r)
  long : {m : Bool} {k : Kind} (p : Placed) (ps rest : List Placed) → white p.byte ≡ false → Spells k (map byte_of (p ∷ ps)) → Longest (map byte_of (p ∷ ps)) (map byte_of rest) → (Unclosed (map byte_of ((p ∷ ps) ++ rest)) → ⊥) → 1023 < length (p ∷ ps) → Cuts m ((p ∷ ps) ++ rest) (Err (record { kind = LongToken; line = p.line }))
  open_literal : {m : Bool} {p : Placed} {ps : List Placed} → Unclosed (map byte_of (p ∷ ps)) → Cuts m (p ∷ ps) (Err (record { kind = OpenLiteral; line = p.line }))

-- the definition of cutting is what the grammar says
pub record Lexical : Type 0 where
  -- every line is cut by the grammar
  pub cuts : (ps : List Placed) → Cuts true ps (cut_line ps)
  -- and in no other way
  pub only : (ps : List Placed) (r : Result (List Token) Fault) → Cuts true ps r → r ≡ cut_line ps
