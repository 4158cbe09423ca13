-- The result of a macro before joining, from its list. Assumes nothing.
use Rattle.std.proofs.Common.{◌≡◌, ℕ, Bool, false, List, [], Some, None, Option, sym, refl, ap, ◌∙◌}
use Rattle.std.specs.List.{slice_get}
use Rattle.std.specs.Option.{option_map}
use Rattle.token.specs.Tokens.{Token as PlainToken}
use Rattle.token.specs.Views.{view_tokens}
use Rattle.definition.specs.Definitions.{Macro}
use Rattle.definitions.specs.declared.Macro.{Macro as Stored}
use Rattle.definitions.specs.Blocks.{spellings}
use Rattle.definitions.specs.Meaning.{stored_macro}
use Rattle.replacement.specs.Items.{Item, limited}
use Rattle.replacement.specs.Joining.{Piece}
use Rattle.replacement.specs.Replacing.{Expander, operand_of, built, levels, limited_pieces}
use Rattle.steps.specs.declared.prepared.Call.{Call}
use Rattle.steps.specs.Steps.{arguments_for}
use Rattle.expansion.specs.declared.part.Part.{Part}
use Rattle.expansion.specs.Parts.{added_to}
use Rattle.expansion.specs.States.{pieces_for}
use Rattle.expansion.proofs.Building.{built-plain}

arguments_alike : (e : Expander) (line : ℕ) (ps : Option (List (List ℕ))) (args : List (List Item)) (joins : Bool) (left : ℕ) (ts : List PlainToken) → built e line ps (arguments_for ps args) joins left ts ≡ built e line ps args joins left ts
arguments_alike e line None args joins left ts = built-plain e line [] args joins left ts
arguments_alike e line (Some ps) args joins left ts = refl

-- by the definition as it is stored
pub pieces_are : (e : Expander) (args : List (List Item)) (c : Call) (left : ℕ) (o : Option Macro) (d : Stored) → Some (stored_macro d) ≡ o → pieces_for e args c left o ≡ limited_pieces c.name.line (built e c.name.line (option_map (λ v. spellings (view_tokens v)) d.parameters) args false left (view_tokens d.list))
pieces_are e args c left o d h =
    ap (pieces_for e args c left) (sym h) ∙ ap (limited_pieces c.name.line) (arguments_alike e c.name.line (option_map (λ v. spellings (view_tokens v)) d.parameters) args false left (view_tokens d.list))

-- an argument by other names
pub argument_same : (ms : List Macro) (file : List ℕ) (m n line left k : ℕ) (is : List Item) (args args' : List (List Item)) → m ≡ n → is ≡ operand_of (slice_get args' k) → args' ≡ args → limited line (levels ms file m line left is) ≡ limited line (levels ms file n line left (operand_of (slice_get args k)))
argument_same ms file m n line left k is args args' e f g =
    (λ j. limited line (levels ms file (e j) line left ((f ∙ ap (λ a. operand_of (slice_get a k)) g) j)))

-- what a part adds, by other names
pub added_same : (line : ℕ) (args args' : List (List Item)) (is : List Item) (t : PlainToken) (p : Part) (qs qs' : List Piece) (left : ℕ) → args' ≡ args → qs' ≡ qs → added_to line args is t p qs left ≡ added_to line args' is t p qs' left
added_same line args args' is t p qs qs' left e f = (λ j. added_to line (sym e j) is t p (sym f j) left)
