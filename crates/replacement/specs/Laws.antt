-- Laws of replacement. Assumes nothing.
use Rattle.std.specs.Prelude.{◌≡◌, ℕ, suc, ◌<◌, Bool, true, false, not, ◌&&◌, ◌||◌, List, [], ◌∷◌, ◌++◌, is_some, codes}
use Rattle.definition.specs.Definitions.{Macro, member, is_identifier}
use Rattle.replacement.specs.Items.{Item, End, whole, giving, ◌then◌}
use Rattle.replacement.specs.Replacing.{Turn, found, opens, built_in_result, step, along, turns, levels, expand}

-- the expansion at a level, with W and the run
abbrev pub expanding : List Macro → List ℕ → ℕ → End → Turn
expanding ms file n end left w run = turns (levels ms file n) ms file end (suc left) left w run

-- More turns than there are replacements left change nothing, so the bound decides nothing: an expansion goes along W and
-- the run, and where a result has gone before W it is the expansion of that.
pub record Unbounded : Type 0 where
  pub enough : (ms : List Macro) (file : List ℕ) (n : ℕ) (end : End) (g left : ℕ) (w run : List Item) → left < g → turns (levels ms file n) ms file end g left w run ≡ expanding ms file n end left w run
  pub equation : (ms : List Macro) (file : List ℕ) (n : ℕ) (end : End) (left : ℕ) (w run : List Item) → expanding ms file n end left w run ≡ along (step (levels ms file n) ms file end) (expanding ms file n end) end left w run

-- a token that names no macro, built-in or defined
abbrev pub plain : List Macro → List ℕ → Item → Bool
plain ms file i = not (is_identifier i.token.kind) || not (is_some (built_in_result file i) || is_some (found i.token.spelling ms))

abbrev pub all_plain : List Macro → List ℕ → List Item → Bool
all_plain ms file [] = true
all_plain ms file (i ∷ is) = plain ms file i && all_plain ms file is

-- a run that names no macro expands to itself
abbrev pub Unchanged : Type 0
Unchanged =
    (ms : List Macro) (file : List ℕ) (left : ℕ) (run : List Item) (end : End) → all_plain ms file run ≡ true → expand ms file left run end ≡ record { items = run; ending = end; left = left }

-- the four built-in names
abbrev pub built_ins : List (List ℕ)
built_ins = codes "__LINE__" ∷ codes "__FILE__" ∷ codes "__STDC__" ∷ codes "__STDC_VERSION__" ∷ []

-- no hide set holds one
pub data Open : List Item → Type 0 where
  none : Open []
  and : {i : Item} {is : List Item} → ((n : List ℕ) → member n built_ins ≡ true → i.hides n ≡ false) → Open is → Open (i ∷ is)

-- no token is an identifier that spells one
abbrev pub settled : List Item → Bool
settled [] = true
settled (i ∷ is) = not (is_identifier i.token.kind && member i.token.spelling built_ins) && settled is

-- no token handed on is an identifier that spells a built-in name, where no hide set of the run holds one
abbrev pub Settled : Type 0
Settled =
    (ms : List Macro) (file : List ℕ) (left : ℕ) (run : List Item) (end : End) → Open run → settled (expand ms file left run end).items ≡ true

-- A token that names no macro and is no ( parts the expansion in two, where the expansion of what stands before it is whole.
abbrev pub Parting : Type 0
Parting =
    (ms : List Macro) (file : List ℕ) (left : ℕ) (before : List Item) (t : Item) (behind : List Item) (end : End) → plain ms file t ≡ true → opens t ≡ false → (expand ms file left before whole).ending ≡ whole → expand ms file left (before ++ t ∷ behind) end ≡ (expand ms file left before whole then (λ n. giving (t ∷ []) n then (λ k. expand ms file k behind end)))
