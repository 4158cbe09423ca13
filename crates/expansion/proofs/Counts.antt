-- How many tokens an expansion has. Assumes nothing.
use Rattle.std.proofs.Common.{◌≡◌, ℕ, ◌<◌, List, length, Ok, ap, arith, length-append}
use Rattle.source.specs.declared.Ending.{Ending}
use Rattle.item.specs.declared.hide_set.HideSet.{HideSet}
use Rattle.item.specs.Tagged.{Tagged}
use Rattle.replacement.specs.Meaning.{items_of, end_of}
use Rattle.operators.proofs.Sized.{items_length}
use Rattle.steps.specs.declared.context.Context.{Context}
use Rattle.steps.specs.Contexts.{macros, file_of}
use Rattle.expansion.specs.declared.expansion.Expansion.{Expansion}
use Rattle.expansion.specs.States.{state_of, handed_on, expanding_from, Advancing}

-- the tokens that are still to be handed on
abbrev pub count : Context → Ending → Expansion → List (Tagged HideSet) → ℕ
count c e x rest = length (expanding_from (macros c) (file_of c) (end_of e) (state_of x rest)).items

-- one that is handed on leaves fewer
pub count_falls : (c : Context) (e e' : Ending) (x y : Expansion) (rest rest' : List (Tagged HideSet)) → Advancing (macros c) (file_of c) (end_of e) (state_of x rest) (state_of y rest') (handed_on y) (Ok tt) → e' ≡ e → count c e' y rest' < count c e x rest
count_falls c e e' x y rest rest' h same =
    let ms = macros c in
    let last = (expanding_from ms (file_of c) (end_of e) (state_of y rest')).items in
    omega (arith, ap length (ap (λ o. o.items) h.0), length-append (items_of ms (handed_on y)) last, items_length ms (handed_on y), h.1, ap (λ k. count c k y rest') same)
