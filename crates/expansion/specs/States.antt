-- Results and expansions, as the code makes them. Assumes nothing.
use Rattle.std.specs.Prelude.{◌≡◌, ℕ, ◌≤◌, Bool, true, false, List, [], length, take, Some, None, Ok, Err, Option, Result}
use Rattle.text.specs.declared.Fault.{Fault}
use Rattle.text.specs.declared.FaultKind.TheVariants.{ManyTokens}
use Rattle.source.specs.declared.Ending.{Ending}
use Rattle.source.specs.declared.Ending.TheVariants.{Whole, Fails}
use Rattle.item.specs.declared.hide_set.HideSet.{HideSet}
use Rattle.item.specs.Tables.{held}
use Rattle.item.specs.Tagged.{Tagged}
use Rattle.definition.specs.Definitions.{Macro}
use Rattle.replacement.specs.Items.{Item, End as Ends, Outcome, giving, ◌then◌, over}
use Rattle.replacement.specs.Joining.{Piece}
use Rattle.replacement.specs.Laws.{expanding}
use Rattle.replacement.specs.Meaning.{items_of, end_of}
use Rattle.replacement.specs.Replacing.{Expander, Turn, Move, built, limited_pieces, levels}
use Rattle.invocation.specs.Calls.{arguments_in}
use Rattle.invocation.specs.Fronts.{waiting}
use Rattle.steps.specs.declared.context.Context.{Context}
use Rattle.steps.specs.declared.prepared.Call.{Call}
use Rattle.steps.specs.Contexts.{macros, file_of}
use Rattle.steps.specs.Steps.{State, arguments_for, moved, Failing}
use Rattle.expansion.specs.declared.expansion.Expansion.{Expansion}
use Rattle.expansion.specs.declared.level.Level.{Level}

-- the result of a macro before joining
abbrev pub pieces_for : Expander → List (List Item) → Call → ℕ → Option Macro → Outcome Piece
pieces_for e args c left None = giving [] left
pieces_for e args c left (Some m) = limited_pieces c.name.line (built e c.name.line m.parameters (arguments_for m.parameters args) false left m.list)

-- what a level holds, for the definitions of a context
abbrev pub waiting_in : Context → Level → List Item
waiting_in c l = items_of (macros c) (waiting l.w)

abbrev pub arguments_of : Context → Level → List (List Item)
arguments_of c l = arguments_in (macros c) l.arguments

-- arguments are expanded in the levels below
abbrev pub expander : Context → List Level → Expander
expander c below = levels (macros c) (file_of c) (length below)

-- What an answer says of an outcome: that its list is this one and it ends whole with so many replacements left, or that
-- it ends with the fault.
abbrev pub Matches : {A : Type 0} → Outcome A → List A → Result ℕ Fault → Type 0
Matches o is (Ok n) = o ≡ giving is n
Matches o is (Err f) = o.ending ≡ end_of (Fails f)

-- What an answer says of a result that goes before W: that W becomes this one, or that there is nothing but the fault.
abbrev pub Moving : Turn → Move → List Item → List Item → Result ℕ Fault → Type 0
Moving next m w run (Ok n) = moved next m ≡ next n w run
Moving next m w run (Err f) = Failing (moved next m) f

-- no more replacements are left than before
abbrev pub Fewer : ℕ → Result ℕ Fault → Type 0
Fewer left (Ok n) = n ≤ left
Fewer left (Err f) = Unit {0}

-- the state of an expansion with what is left of the run
abbrev pub state_of : Expansion → List (Tagged HideSet) → State
state_of x run = record { left = x.left; w = waiting x.level.w; run = run }

-- the token handed on last
abbrev pub handed_on : Expansion → List (Tagged HideSet)
handed_on x = held x.handed

-- the expansion from a state on, with 16 levels of arguments
unfoldable pub expanding_from : List Macro → List ℕ → Ends → State → Outcome Item
expanding_from ms file end s = expanding ms file 16 end s.left (items_of ms s.w) (items_of ms s.run)

-- the first token of an outcome is longer than a table allows
abbrev pub is_long : Outcome Item → Bool
is_long o = over (take 1 o.items)

-- an ending that says so; the line of its fault is free
abbrev pub Overfull : Ending → Type 0
Overfull Whole = ⊥
Overfull (Fails f) = f.kind ≡ ManyTokens

-- What an answer says of the expansion from the state before it, with the state behind it: its first token is handed on;
-- or it has no token and ends so; or no table may hold its first token, and a fault says so.
abbrev pub Advancing : List Macro → List ℕ → Ends → State → State → List (Tagged HideSet) → Result (Unit {0}) Ending → Type 0
Advancing ms file end s t xs (Ok u) =
    (expanding_from ms file end s ≡ (giving (items_of ms xs) t.left then (λ n. expanding_from ms file end (record { left = n; w = t.w; run = t.run })))) × (length xs ≡ 1)
Advancing ms file end s t xs (Err e) =
    (is_long (expanding_from ms file end s) ≡ false → ((expanding_from ms file end s).items ≡ []) × ((expanding_from ms file end s).ending ≡ end_of e) × (e ≡ Whole → (expanding_from ms file end s).left ≡ t.left)) × (is_long (expanding_from ms file end s) ≡ true → Overfull e)
