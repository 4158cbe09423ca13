-- The definitions in force: defining, undefining and finding a name. Assumes nothing.
use Rattle.std.specs.Prelude.{ℕ, suc, ◌+◌, Bool, true, false, cond, not, ◌&&◌, List, [], ◌∷◌, ◌++◌, map, length, Some, None, Ok, Err, Option, Result, nat_le}
use Rattle.std.specs.Option.{option_map}
use Rattle.std.specs.Str.{bytes_eq}
use Rattle.text.specs.declared.FaultKind.{FaultKind}
use Rattle.text.specs.declared.FaultKind.TheVariants.{OtherDefinition, ManyDefinitions}
use Rattle.token.specs.Tokens.{Token}
use Rattle.token.specs.Views.{spelled}
use Rattle.definition.specs.Definitions.{Macro}

-- the place of a word among words
abbrev pub index : List ℕ → List (List ℕ) → Option ℕ
index n [] = None
index n (w ∷ ws) = cond (bytes_eq n w) (Some 0) (option_map suc (index n ws))

-- the place of the definition of a name
abbrev pub slot : List ℕ → List Macro → Option ℕ
slot n ms = index n (map (λ m. m.name) ms)

-- the definition of a name
abbrev pub found : List ℕ → List Macro → Option Macro
found n [] = None
found n (m ∷ ms) = cond (bytes_eq n m.name) (Some m) (found n ms)

-- Two definitions of a name are the same where their parameters have the same names in the same order, and their lists
-- have the same spellings and the same marks, but for the mark of the first token.
abbrev pub same_mark : Bool → Bool → Bool
same_mark a b = cond a b (not b)

abbrev pub same_tokens : List Token → List Token → Bool
same_tokens [] [] = true
same_tokens [] (u ∷ us) = false
same_tokens (t ∷ ts) [] = false
same_tokens (t ∷ ts) (u ∷ us) = bytes_eq t.spelling u.spelling && same_mark t.marked u.marked && same_tokens ts us

abbrev pub same_list : List Token → List Token → Bool
same_list [] [] = true
same_list [] (u ∷ us) = false
same_list (t ∷ ts) [] = false
same_list (t ∷ ts) (u ∷ us) = bytes_eq t.spelling u.spelling && same_tokens ts us

abbrev pub same_words : List (List ℕ) → List (List ℕ) → Bool
same_words [] [] = true
same_words [] (w ∷ ws) = false
same_words (v ∷ vs) [] = false
same_words (v ∷ vs) (w ∷ ws) = bytes_eq v w && same_words vs ws

abbrev pub same_parameters : Option (List (List ℕ)) → Option (List (List ℕ)) → Bool
same_parameters None None = true
same_parameters None (Some ws) = false
same_parameters (Some vs) None = false
same_parameters (Some vs) (Some ws) = same_words vs ws

abbrev pub same : Macro → Macro → Bool
same m n = same_parameters m.parameters n.parameters && same_list m.list n.list

-- the bytes of a definition: its name, its parameters, with 11 for `...`, and its list
abbrev pub words_size : List (List ℕ) → ℕ
words_size [] = 0
words_size (w ∷ ws) = length w + words_size ws

abbrev pub parameters_size : Option (List (List ℕ)) → ℕ
parameters_size None = 0
parameters_size (Some ws) = words_size ws

abbrev pub size : Macro → ℕ
size m = length m.name + parameters_size m.parameters + spelled m.list

abbrev pub sizes : List Macro → ℕ
sizes [] = 0
sizes (m ∷ ms) = size m + sizes ms

abbrev pub list_token_count : List Macro → ℕ
list_token_count [] = 0
list_token_count (m ∷ ms) = length m.list + list_token_count ms

-- at most 256 names, 4,096 list tokens and 32,768 bytes
abbrev pub fit : List Macro → Bool
fit ms = nat_le (length ms) 256 && nat_le (list_token_count ms) 4096 && nat_le (sizes ms) 32768

-- What defining gives: nothing new where the name is defined the same way already, fault 45 where it is defined
-- otherwise, and fault 61 where the definitions would become too many or too long.
abbrev pub added : List Macro → Macro → Option Macro → Result (List Macro) FaultKind
added ms m (Some o) = cond (same o m) (Ok ms) (Err OtherDefinition)
added ms m None = cond (fit (ms ++ m ∷ [])) (Ok (ms ++ m ∷ [])) (Err ManyDefinitions)

abbrev pub defining : List Macro → Macro → Result (List Macro) FaultKind
defining ms m = added ms m (found m.name ms)

-- the definitions of other names
abbrev pub without : List ℕ → List Macro → List Macro
without n [] = []
without n (m ∷ ms) = cond (bytes_eq n m.name) (without n ms) (m ∷ without n ms)
