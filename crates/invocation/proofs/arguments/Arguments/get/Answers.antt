use Rattle.std.proofs.Common.{◌≡◌, ap, ◌∙◌, take, drop, get_or, unwrap_or, vec_items, arith}
use Rattle.item.specs.Tables.{held}
use Rattle.replacement.specs.Meaning.{items_of}
use Rattle.text.specs.declared.Extent.{Extent}
use Rattle.invocation.specs.Calls.{part_of}
use Rattle.invocation.proofs.Arguing.{argument}
use Rattle.invocation.proofs.arguments.Arguments.get.Goals as goal

pub returns : goal.returns
returns c ms =
    let within = held c.args.self.now.inside in
    let none : Extent = record { start = 0; len = 0 } in
    let found = c.get.ensures.lookup.4 (omega arith) none in
    let extent : c.unwrap_or-extent.result ≡ get_or (vec_items c.args.self.now.extents) c.args.index none = c.unwrap_or-extent.ensures ∙ ap (λ o. unwrap_or o none) c.copied.ensures ∙ found ∙ ap (λ es. get_or es c.args.index none) c.deref.ensures.value in
    ap (items_of ms) (c.part.ensures ∙ ap (λ xs. take c.unwrap_or-extent.result.len (drop c.unwrap_or-extent.result.start xs)) c.view.ensures) ∙ ap (part_of ms within) extent ∙ argument ms within (vec_items c.args.self.now.extents) c.args.index
