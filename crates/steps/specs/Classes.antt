-- What a token is to replacement. Assumes nothing.
use Rattle.std.specs.Prelude.{ℕ, cond, not, ◌&&◌, List, Some, None, codes, Option}
use Rattle.std.specs.List.{slice_get}
use Rattle.std.specs.Str.{bytes_eq}
use Rattle.item.specs.declared.hide_set.HideSet.{HideSet}
use Rattle.item.specs.Tagged.{Tagged}
use Rattle.definition.specs.Definitions.{Macro, is_identifier}
use Rattle.definitions.specs.InForce.{slot}
use Rattle.replacement.specs.Meaning.{hidden}
use Rattle.steps.specs.declared.class.BuiltIn.{BuiltIn as BuiltInName}
use Rattle.steps.specs.declared.class.BuiltIn.TheVariants.{Line, File, Standard, Version}
use Rattle.steps.specs.declared.class.Class.{Class}
use Rattle.steps.specs.declared.class.Class.TheVariants.{End, Plain, BuiltIn, Object, Function}
use Rattle.item.specs.declared.Name.{Name}

-- the four built-in names
abbrev pub built_in_name : List ℕ → Option BuiltInName
built_in_name n =
    cond (bytes_eq n (codes "__LINE__")) (Some Line)
    (cond (bytes_eq n (codes "__FILE__")) (Some File)
    (cond (bytes_eq n (codes "__STDC__")) (Some Standard)
    (cond (bytes_eq n (codes "__STDC_VERSION__")) (Some Version) None)))

abbrev pub name_of : Tagged HideSet → Name
name_of x = record { line = x.token.line; marked = x.token.marked; hides = x.tag }

-- a name by the slot of its definition
abbrev pub macro_class : ℕ → Name → Option Macro → Class
macro_class k n None = Plain
macro_class k n (Some m) = elim m.parameters [ None ↦ Object k n | Some ps ↦ Function k n ]

abbrev pub defined_class : List Macro → Name → Option ℕ → Class
defined_class ms n None = Plain
defined_class ms n (Some k) = macro_class k n (slice_get ms k)

abbrev pub named_class : List Macro → Name → Option ℕ → Option BuiltInName → Class
named_class ms n k None = defined_class ms n k
named_class ms n k (Some b) = BuiltIn b n

abbrev pub class_of : List Macro → Tagged HideSet → Class
class_of ms x =
    cond (is_identifier x.token.kind && not (hidden ms x.tag x.token.spelling)) (named_class ms (name_of x) (slot x.token.spelling ms) (built_in_name x.token.spelling)) Plain

-- of the next token, where there is one
abbrev pub class : List Macro → Option (Tagged HideSet) → Class
class ms None = End
class ms (Some x) = class_of ms x
