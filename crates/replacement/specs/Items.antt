-- Tokens on their way through replacement. Assumes nothing.
use Rattle.std.specs.Prelude.{ℕ, ◌+◌, Bool, false, cond, ◌&&◌, ◌||◌, List, [], ◌∷◌, ◌++◌, length, nat_lt}
use Rattle.std.specs.Str.{bytes_eq}
use Rattle.token.specs.Tokens.{Token}

-- a token and its hide set, as the test whether a name is in it
pub record Item : Type 0 where
  pub token : Token
  pub hides : List ℕ → Bool

-- as it is read
abbrev pub fresh : Token → Item
fresh t = record { token = t; hides = λ n. false }

abbrev pub spelling : Item → List ℕ
spelling i = i.token.spelling

abbrev pub line : Item → ℕ
line i = i.token.line

-- the same with another mark, or on another line
abbrev pub marking : Bool → Item → Item
marking m i = record { token = record { kind = i.token.kind; spelling = i.token.spelling; line = i.token.line; marked = m }; hides = i.hides }

abbrev pub marking_first : Bool → List Item → List Item
marking_first m [] = []
marking_first m (i ∷ is) = marking m i ∷ is

abbrev pub placing : ℕ → Token → Token
placing n t = record { kind = t.kind; spelling = t.spelling; line = n; marked = t.marked }

-- sets: a name more, what two share, and one joined to another
abbrev pub with : (List ℕ → Bool) → List ℕ → List ℕ → Bool
with h n m = bytes_eq m n || h m

abbrev pub shared : (List ℕ → Bool) → (List ℕ → Bool) → List ℕ → Bool
shared h k m = h m && k m

abbrev pub hiding : (List ℕ → Bool) → Item → Item
hiding h i = record { token = i.token; hides = λ m. i.hides m || h m }

-- how a list of tokens ends: whole, or with a fault on a line
pub data End : Type 0 where
  whole : End
  fault : ℕ → ℕ → End

-- a list, how it ends, and how many replacements are left
pub record Outcome (A : Type 0) : Type 0 where
  pub items : List A
  pub ending : End
  pub left : ℕ

abbrev pub failing : {A : Type 0} → ℕ → ℕ → ℕ → Outcome A
failing number line left = record { items = []; ending = fault number line; left = left }

abbrev pub giving : {A : Type 0} → List A → ℕ → Outcome A
giving is left = record { items = is; ending = whole; left = left }

-- one after the other: the second is reached where the first ends whole
abbrev pub after : {A : Type 0} → List A → End → ℕ → (ℕ → Outcome A) → Outcome A
after is whole left next = let o = next left in record { items = is ++ o.items; ending = o.ending; left = o.left }
after is (fault n l) left next = record { items = is; ending = fault n l; left = left }

abbrev pub ◌then◌ : {A : Type 0} → Outcome A → (ℕ → Outcome A) → Outcome A
o then next = after o.items o.ending o.left next

infixr 40 ◌then◌
-- the bytes of all spellings
abbrev pub bytes : List Item → ℕ
bytes [] = 0
bytes (i ∷ is) = length i.token.spelling + bytes is

-- more than 1,024 tokens or 16,384 bytes
abbrev pub over : List Item → Bool
over is = nat_lt 1024 (length is) || nat_lt 16384 (bytes is)

-- too many items are fault 64, before whatever ends them
abbrev pub limited : ℕ → Outcome Item → Outcome Item
limited line o = cond (over o.items) (failing 64 line o.left) o
