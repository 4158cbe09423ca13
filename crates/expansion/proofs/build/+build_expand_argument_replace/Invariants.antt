use Rattle.std.proofs.Common.{◌≡◌, ◌+◌, ◌*◌, ◌≤◌, false, length}
use Rattle.std.specs.Option.{option_map}
use Rattle.token.specs.Views.{view_tokens}
use Rattle.item.specs.Tables.{held, shown}
use Rattle.definitions.specs.Blocks.{spellings}
use Rattle.replacement.specs.Items.{giving, ◌then◌, whole}
use Rattle.replacement.specs.Meaning.{items_of}
use Rattle.replacement.specs.Replacing.{built}
use Rattle.invocation.specs.Fronts.{waiting}
use Rattle.operators.specs.Pieces.{pieces_of}
use Rattle.steps.specs.Contexts.{macros, file_of}
use Rattle.expansion.specs.Parts.{Sized}
use Rattle.expansion.specs.States.{arguments_of, expander}
use Rattle.expansion.proofs.Building as building
use Rattle.expansion.proofs.Falling.{weight}
use Rattle.expansion.proofs.Turning as turning
use Rattle.expansion.proofs.build.+build_expand_argument_replace.Given as goal

abbrev pub decreases-build : goal.decreases-build
decreases-build l = 3 * length l.below.now + 1

abbrev pub decreases-expand_argument : goal.decreases-expand_argument
decreases-expand_argument l = 3 * length l.scratch.now

abbrev pub decreases-replace : goal.decreases-replace
decreases-replace l = 3 * length l.below.now + 2

-- the pieces so far and what is left of the list make up the whole
abbrev pub invariant-build-loop-token : goal.invariant-build-loop-token
invariant-build-loop-token l =
    let e = expander l.initial.context l.initial.below in
    let ps = option_map (λ v. spellings (view_tokens v)) l.initial.definition.parameters in
    let list = view_tokens l.initial.definition.list in
    let args = arguments_of l.initial.context l.initial.level in
    (built e l.initial.call.name.line ps args false l.initial.left list ≡ (giving (pieces_of (macros l.initial.context) (held l.level.pieces)) l.left then building.from e l.initial.call.name.line ps args l.joins (view_tokens l.rest))) × Sized (held l.level.pieces) × (l.level.w ≡ l.initial.level.w) × (l.level.arguments ≡ l.initial.level.arguments) × (length l.below ≡ length l.initial.below)

abbrev pub decreases-build-loop-token : goal.decreases-build-loop-token
decreases-build-loop-token l = length (view_tokens l.rest)

-- what is handed on so far and what is left make up the whole
abbrev pub invariant-expand_argument-loop-handed : goal.invariant-expand_argument-loop-handed
invariant-expand_argument-loop-handed l =
    let ms = macros l.initial.context in
    let from = turning.from ms (file_of l.initial.context) (length l.initial.below) whole in
    (from (record { left = l.initial.left; w = waiting l.initial.level.w; run = shown l.initial.run.items }) ≡ turning.prepend (items_of ms (held l.to)) (from (record { left = l.left; w = waiting l.level.w; run = shown l.run.items }))) × (length (shown l.run.items) ≤ length (shown l.initial.run.items)) × (length l.below ≡ length l.initial.below)

abbrev pub decreases-expand_argument-loop-handed : goal.decreases-expand_argument-loop-handed
decreases-expand_argument-loop-handed l =
    weight (length (shown l.initial.run.items)) l.left (length (waiting l.level.w) + length (shown l.run.items))
