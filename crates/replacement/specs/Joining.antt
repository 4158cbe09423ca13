-- The operators # and ##. Assumes nothing.
use Rattle.std.specs.Prelude.{ℕ, Bool, true, false, cond, ◌||◌, List, [], ◌∷◌, ◌++◌, Some, None, Option, ◌==◌}
use Rattle.token.specs.declared.Kind.{Kind}
use Rattle.token.specs.declared.Kind.TheVariants.{Identifier, Number, Character, String, Punctuator, Other}
use Rattle.token.specs.Tokens.{Token}
use Rattle.lexer.specs.Cutting.{one_token}
use Rattle.replacement.specs.Items.{Item, Outcome, failing, giving, shared, ◌then◌}

-- a literal's quotes and backslashes get a backslash in front
abbrev pub escaped : List ℕ → List ℕ
escaped [] = []
escaped (b ∷ bs) = cond (b == 34 || b == 92) (92 ∷ b ∷ escaped bs) (b ∷ escaped bs)

abbrev pub written : Kind → List ℕ → List ℕ
written Identifier bs = bs
written Number bs = bs
written Character bs = escaped bs
written String bs = escaped bs
written Punctuator bs = bs
written Other bs = bs

-- the spellings one behind the other, a space before each marked one
abbrev pub spaced : List Item → List ℕ
spaced [] = []
spaced (i ∷ is) = cond i.token.marked (32 ∷ (written i.token.kind i.token.spelling ++ spaced is)) (written i.token.kind i.token.spelling ++ spaced is)

-- but the first
abbrev pub inner : List Item → List ℕ
inner [] = []
inner (i ∷ is) = written i.token.kind i.token.spelling ++ spaced is

abbrev pub is_string : Option Kind → Bool
is_string None = false
is_string (Some Identifier) = false
is_string (Some Number) = false
is_string (Some Character) = false
is_string (Some String) = true
is_string (Some Punctuator) = false
is_string (Some Other) = false

-- what stands in a list before joining: a token, the operator ##, or nothing, where an argument is empty
pub data Piece : Type 0 where
  piece : Item → Piece
  joiner : Item → Piece
  nothing : Piece

-- # makes a string literal of an argument; no literal, or one too long, is fault 54
abbrev pub literal : Token → ℕ → List Item → ℕ → Outcome Piece
literal hash line argument left =
    let bs = 34 ∷ (inner argument ++ 34 ∷ []) in
    cond (is_string (one_token bs))
    (giving (piece (record { token = record { kind = String; spelling = bs; line = line; marked = hash.marked }; hides = λ n. false }) ∷ []) left)
    (failing 54 line left)

-- two operands joined; no token is fault 53
abbrev pub joined_token : Item → Item → ℕ → List ℕ → Option Kind → Option Item
joined_token a b line bs None = None
joined_token a b line bs (Some k) = Some (record { token = record { kind = k; spelling = bs; line = line; marked = a.token.marked }; hides = shared a.hides b.hides })

abbrev pub joined : ℕ → Item → Item → Option Item
joined line a b = let bs = a.token.spelling ++ b.token.spelling in joined_token a b line bs (one_token bs)

-- what an operand of ## is: a token, or nothing
abbrev pub operand : Piece → Option Item
operand (piece i) = Some i
operand (joiner i) = Some i
operand nothing = None

-- two operands: nothing gives the other unchanged
pub data Join : Type 0 where
  good : Option Item → Join
  bad : Join

abbrev pub judged : Option Item → Join
judged None = bad
judged (Some i) = good (Some i)

abbrev pub joining : ℕ → Option Item → Option Item → Join
joining line None b = good b
joining line (Some a) None = good (Some a)
joining line (Some a) (Some b) = judged (joined line a b)

abbrev pub settled : Option Item → List Item
settled None = []
settled (Some i) = i ∷ []

-- Each ## from the left joins its neighbours; what is left are the tokens. The first argument is the operand so far.
abbrev pub join_all : ℕ → ℕ → Option Item → List Piece → Outcome Item
join_all line left a [] = giving (settled a) left
join_all line left a (piece i ∷ ps) = giving (settled a) left then (λ n. join_all line n (Some i) ps)
join_all line left a (nothing ∷ ps) = giving (settled a) left then (λ n. join_all line n None ps)
join_all line left a (joiner j ∷ []) = giving (settled a) left
join_all line left a (joiner j ∷ p ∷ ps) = elim (joining line a (operand p)) [ bad ↦ failing 53 line left | good b ↦ join_all line left b ps ]
