-- The parts of a step. Assumes nothing.
use Rattle.std.specs.Prelude.{◌≡◌, ℕ, Bool, true, false, List, ◌++◌, Some, None, Ok, Err, Option, Result}
use Rattle.std.specs.List.{slice_get}
use Rattle.text.specs.declared.Fault.{Fault}
use Rattle.text.specs.declared.FaultKind.{FaultKind}
use Rattle.text.specs.declared.FaultKind.TheVariants.{OpenCall}
use Rattle.text.specs.Faults.{fault_number}
use Rattle.source.specs.declared.Ending.{Ending}
use Rattle.source.specs.declared.Ending.TheVariants.{Whole, Fails}
use Rattle.token.specs.declared.Kind.TheVariants.{Identifier}
use Rattle.item.specs.declared.hide_set.HideSet.{HideSet}
use Rattle.item.specs.Tagged.{Tagged}
use Rattle.definition.specs.Definitions.{Macro}
use Rattle.definitions.specs.InForce.{slot as slot_of}
use Rattle.replacement.specs.Items.{Item, End as Ends}
use Rattle.replacement.specs.Meaning.{item_of, items_of}
use Rattle.replacement.specs.Replacing.{Expander, Move, halt, before, arguments, gathered, called}
use Rattle.invocation.specs.declared.bracket.Bracket.{Bracket}
use Rattle.invocation.specs.declared.bracket.Bracket.TheVariants as bracket
use Rattle.invocation.specs.Fronts.{Dropped}
use Rattle.item.specs.declared.Name.{Name}
use Rattle.steps.specs.declared.prepared.Prepared.{Prepared}
use Rattle.steps.specs.declared.prepared.Prepared.TheVariants.{End, Hand, Replace}
use Rattle.steps.specs.Classes.{name_of}
use Rattle.steps.specs.Steps.{State, result_of}

abbrev pub is_opening : Bracket → Bool
is_opening bracket.Opens = true
is_opening (bracket.Closes h) = false
is_opening bracket.Inner = false
is_opening bracket.End = false

abbrev pub fault_at : FaultKind → ℕ → Fault
fault_at k l = record { kind = k; line = l }

-- a call that is open at the end of its run
abbrev pub open_fault : Ending → ℕ → Fault
open_fault Whole l = fault_at OpenCall l
open_fault (Fails f) l = f

-- the arguments for a macro, where it is function-like and their number is right
abbrev pub arguments_of : Option Macro → List Item → Option (List (List Item))
arguments_of None is = None
arguments_of (Some m) is = elim m.parameters [ None ↦ None | Some ps ↦ arguments ps is ]

-- a token that names the macro in a slot
pub record Named (ms : List Macro) (x : Tagged HideSet) (k : ℕ) (n : Name) (m : Macro) (ps : Option (List (List ℕ))) : Type 0 where
  pub kind : x.token.kind ≡ Identifier
  pub name : n ≡ name_of x
  pub slot : slot_of x.token.spelling ms ≡ Some k
  pub definition : slice_get ms k ≡ Some m
  pub parameters : m.parameters ≡ ps

-- what a prepared step says of a move that hands nothing on
abbrev pub Leading : List Macro → (Expander → Move) → State → List (List Item) → Result Prepared Fault → Type 0
Leading ms move t args (Ok End) = ⊥
Leading ms move t args (Ok (Hand h)) = ⊥
Leading ms move t args (Ok (Replace c)) =
    (e : Expander) → move e ≡ before c.name.line (items_of ms t.w) (items_of ms t.run) (result_of e ms args c t.left)
Leading ms move t args (Err f) = (e : Expander) → move e ≡ halt (fault_number f.kind) f.line t.left

-- a call, from the state behind its `(`
abbrev pub Calling : List Macro → Ends → ℕ → Name → State → State → List (List Item) → Result Prepared Fault → Type 0
Calling ms end k n s t args r =
    (x : Tagged HideSet) (m : Macro) (ps : List (List ℕ)) (w run : List (Tagged HideSet)) → Named ms x k n m (Some ps) → Dropped 1 w run s.w s.run → Leading ms (λ e. called e m ps (item_of ms x) (items_of ms w) (items_of ms run) end s.left (gathered 0 (items_of ms (s.w ++ s.run)))) t args r
