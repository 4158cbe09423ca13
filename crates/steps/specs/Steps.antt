-- A step of replacement. Assumes nothing.
use Rattle.std.specs.Prelude.{◌≡◌, ℕ, ◌+◌, ◌-◌, ◌<◌, ◌≤◌, false, List, [], ◌∷◌, ◌++◌, length, drop, Some, None, Ok, Err, Option, Result}
use Rattle.std.specs.List.{slice_get}
use Rattle.text.specs.declared.Fault.{Fault}
use Rattle.source.specs.declared.Ending.TheVariants.{Fails}
use Rattle.token.specs.declared.Kind.TheVariants.{Identifier}
use Rattle.item.specs.declared.hide_set.HideSet.{HideSet}
use Rattle.item.specs.Tagged.{Tagged}
use Rattle.definition.specs.Definitions.{Macro}
use Rattle.replacement.specs.Items.{Item, End as Ends, Outcome, giving, failing, ◌then◌}
use Rattle.replacement.specs.Meaning.{hidden, items_of, end_of}
use Rattle.replacement.specs.Replacing.{Expander, Turn, Move, hand, go, halt, before, result, step, along}
use Rattle.steps.specs.declared.prepared.Call.{Call}
use Rattle.steps.specs.declared.prepared.Prepared.{Prepared}
use Rattle.steps.specs.declared.prepared.Prepared.TheVariants.{End, Hand, Replace}
use Rattle.steps.specs.Handing.{handed_items, taken}

-- the replacements left, W and the run
pub record State : Type 0 where
  pub left : ℕ
  pub w : List (Tagged HideSet)
  pub run : List (Tagged HideSet)

-- what is given from a state on: e expands arguments, and next goes on where a result has gone before W
abbrev pub onward : Expander → Turn → List Macro → List ℕ → Ends → State → Outcome Item
onward e next ms file end s = along (step e ms file end) next end s.left (items_of ms s.w) (items_of ms s.run)

-- the name that a result stands for, as far as results depend on it
abbrev pub standing : Call → Item
standing c = record { token = record { kind = Identifier; spelling = []; line = c.name.line; marked = c.name.marked }; hides = λ n. false }

-- an object-like macro has no arguments
abbrev pub arguments_for : Option (List (List ℕ)) → List (List Item) → List (List Item)
arguments_for None args = []
arguments_for (Some ps) args = args

-- the result of a macro
abbrev pub result_for : Expander → List Macro → List (List Item) → Call → ℕ → Option Macro → Outcome Item
result_for e ms args c left None = giving [] left
result_for e ms args c left (Some m) = result e (standing c) m.parameters (arguments_for m.parameters args) (hidden ms c.name.hides) m.list left

abbrev pub result_of : Expander → List Macro → List (List Item) → Call → ℕ → Outcome Item
result_of e ms args c left = result_for e ms args c left (slice_get ms c.slot)

-- what a move leads to
abbrev pub moved : Turn → Move → Outcome Item
moved next (hand u n) = giving (u ∷ []) n
moved next (go v r n) = next n v r
moved next (halt k l n) = failing k l n

-- nothing but a fault
abbrev pub Failing : Outcome Item → Fault → Type 0
Failing o f = (o.items ≡ []) × (o.ending ≡ end_of (Fails f))

-- the state behind what is handed on
abbrev pub behind : State → ℕ → ℕ → State
behind t n left = record { left = left; w = drop n t.w; run = drop (n - length t.w) t.run }

-- What a prepared step says of the state before it, with the state and the arguments that it leaves.
abbrev pub Preparing : List Macro → List ℕ → Ends → State → State → List (List Item) → Result Prepared Fault → Type 0
Preparing ms file end s t args (Ok End) = (s.w ++ s.run ≡ []) × (t.left ≡ s.left)
Preparing ms file end s t args (Ok (Hand h)) =
    (e : Expander) (next : Turn) → onward e next ms file end s ≡ (giving (handed_items ms file (t.w ++ t.run) h) t.left then (λ n. onward e next ms file end (behind t (taken h) n)))
Preparing ms file end s t args (Ok (Replace c)) =
    (e : Expander) (next : Turn) → onward e next ms file end s ≡ moved next (before c.name.line (items_of ms t.w) (items_of ms t.run) (result_of e ms args c t.left))
Preparing ms file end s t args (Err f) = (e : Expander) (next : Turn) → Failing (onward e next ms file end s) f

-- how much is left behind a step
abbrev pub size : State → ℕ
size s = length s.w + length s.run

-- A step hands on one of the tokens, or counts a replacement; the run does not grow.
abbrev pub Falling : State → State → Result Prepared Fault → Type 0
Falling s t (Ok End) = Unit {0}
Falling s t (Ok (Hand h)) = (t.left ≤ s.left) × (size (behind t (taken h) t.left) < size s) × (length t.run ≤ length s.run)
Falling s t (Ok (Replace c)) = (t.left < s.left) × (length t.run ≤ length s.run)
Falling s t (Err f) = Unit {0}
