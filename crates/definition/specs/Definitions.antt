-- A macro definition, read from the tokens behind `define`. Assumes nothing.
use Rattle.std.specs.Prelude.{ℕ, ◌+◌, Bool, true, false, cond, not, ◌&&◌, ◌||◌, List, [], ◌∷◌, length, take, drop, position, Some, None, codes, Option, nat_le}
use Rattle.std.specs.List.{list_any, list_all}
use Rattle.std.specs.Option.{option_map}
use Rattle.std.specs.Str.{bytes_eq}
use Rattle.token.specs.declared.Kind.{Kind}
use Rattle.token.specs.declared.Kind.TheVariants.{Identifier, Number, Character, String, Punctuator, Other}
use Rattle.token.specs.Tokens.{Token}

-- A definition: its name, the names of its parameters where it is function-like, and its replacement list.
-- Where the parameters end in `...`, the last is __VA_ARGS__, which no other parameter may be called.
pub record Macro : Type 0 where
  pub name : List ℕ
  pub parameters : Option (List (List ℕ))
  pub list : List Token

-- whether a word is one of the words
abbrev pub member : List ℕ → List (List ℕ) → Bool
member w xs = list_any (λ x. bytes_eq w x) xs

abbrev pub variable : List ℕ
variable = codes "__VA_ARGS__"

-- the names that are neither defined nor undefined
abbrev pub reserved : List (List ℕ)
reserved = codes "defined" ∷ variable ∷ codes "__LINE__" ∷ codes "__FILE__" ∷ codes "__STDC__" ∷ codes "__STDC_VERSION__" ∷ []

abbrev pub is_identifier : Kind → Bool
is_identifier Identifier = true
is_identifier Number = false
is_identifier Character = false
is_identifier String = false
is_identifier Punctuator = false
is_identifier Other = false

abbrev pub spells : Token → List ℕ → Bool
spells t w = bytes_eq t.spelling w

-- the operators # and ##, also as digraphs
abbrev pub hash : Token → Bool
hash t = spells t (codes "#") || spells t (codes "%:")

abbrev pub join : Token → Bool
join t = spells t (codes "##") || spells t (codes "%:%:")

-- a token that may be a parameter
abbrev pub nameable : Token → Bool
nameable t = is_identifier t.kind && not (spells t variable)

-- a name before others, none of which it may be
abbrev pub fresh : List ℕ → Option (List (List ℕ)) → Option (List (List ℕ))
fresh n None = None
fresh n (Some ns) = cond (member n ns) None (Some (n ∷ ns))

-- names with commas between them; the last may be `...`
abbrev pub names : List Token → Option (List (List ℕ))
names [] = None
names (t ∷ []) = cond (nameable t) (Some (t.spelling ∷ [])) (cond (spells t (codes "...")) (Some (variable ∷ [])) None)
names (t ∷ c ∷ ts) = cond (nameable t && spells c (codes ",")) (fresh t.spelling (names ts)) None

-- at most 127 parameters
abbrev pub few : Option (List (List ℕ)) → Option (List (List ℕ))
few None = None
few (Some ns) = cond (nat_le (length ns) 127) (Some ns) None

-- what stands between the parentheses: nothing, or names
abbrev pub parameters : List Token → Option (List (List ℕ))
parameters [] = Some []
parameters (t ∷ ts) = few (names (t ∷ ts))

-- the tokens before the first `)` and those behind it
pub record Parted : Type 0 where
  pub inside : List Token
  pub behind : List Token

abbrev pub parted : List Token → Option Parted
parted ts = option_map (λ n. record { inside = take n ts; behind = drop (n + 1) ts }) (position (λ t. spells t (codes ")")) ts)

-- ## stands neither first nor last in a list
abbrev pub last_joins : List Token → Bool
last_joins [] = false
last_joins (t ∷ []) = join t
last_joins (t ∷ u ∷ ts) = last_joins (u ∷ ts)

abbrev pub first_joins : List Token → Bool
first_joins [] = false
first_joins (t ∷ ts) = join t

-- behind each # of a function-like list stands a parameter
abbrev pub hashed : List (List ℕ) → List Token → Bool
hashed ns [] = true
hashed ns (t ∷ []) = not (hash t)
hashed ns (t ∷ u ∷ ts) = (not (hash t) || member u.spelling ns) && hashed ns (u ∷ ts)

-- __VA_ARGS__ stands in no list
abbrev pub plain : List Token → Bool
plain ts = list_all (λ t. not (spells t variable)) ts

-- whether a list is proper for parameters, none where it is object-like
abbrev pub proper_for : Option (List (List ℕ)) → List Token → Bool
proper_for None ts = plain ts
proper_for (Some ns) ts = hashed ns ts && (member variable ns || plain ts)

abbrev pub proper : Option (List (List ℕ)) → List Token → Bool
proper ns ts = not (first_joins ts) && not (last_joins ts) && proper_for ns ts

abbrev pub made : List ℕ → Option (List (List ℕ)) → List Token → Option Macro
made n ns ts = cond (proper ns ts) (Some (record { name = n; parameters = ns; list = ts })) None

abbrev pub function_like : List ℕ → List Token → Option (List (List ℕ)) → Option Macro
function_like n ts None = None
function_like n ts (Some ns) = made n (Some ns) ts

abbrev pub in_parentheses : List ℕ → Option Parted → Option Macro
in_parentheses n None = None
in_parentheses n (Some p) = function_like n p.behind (parameters p.inside)

-- Behind the name: a `(` directly behind it opens parameters; else white space stands before the list.
abbrev pub behind_name : List ℕ → List Token → Option Macro
behind_name n [] = made n None []
behind_name n (t ∷ ts) = cond t.marked (made n None (t ∷ ts)) (cond (spells t (codes "(")) (in_parentheses n (parted ts)) None)

-- the definition that the tokens behind `define` are, or none where they break a constraint
abbrev pub define : List Token → Option Macro
define [] = None
define (t ∷ ts) = cond (is_identifier t.kind && not (member t.spelling reserved)) (behind_name t.spelling ts) None
