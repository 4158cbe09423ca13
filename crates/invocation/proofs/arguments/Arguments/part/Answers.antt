use Rattle.std.proofs.Common.{◌≡◌, cond, map, length, Some, None, vec_items, sym, ap, ◌∙◌, subst, arith}
use Rattle.item.specs.Tables.{held}
use Rattle.replacement.specs.Meaning.{items_of}
use Rattle.replacement.specs.Replacing.{parted}
use Rattle.invocation.specs.Calls.{part_of}
use Rattle.invocation.proofs.Arguing.{no_parameters, some_parameters}
use Rattle.invocation.proofs.Held.{few}
use Rattle.invocation.proofs.arguments.Arguments.part.Goals as goal

pub returns-then-parameters-eq0-clause-parts : goal.returns-then-parameters-eq0-clause-parts
returns-then-parameters-eq0-clause-parts c ms ps e v =
    let within = held c.args.self.now.inside in
    no_parameters ms ps within (vec_items c.clear.new.self) _ (c.len.ensures ∙ ap length c.view-inside.ensures) (e ∙ c.if-parameters-eq0.true) c.clear.ensures.items ∙ ap (λ b. cond b (Some (map (part_of ms within) (vec_items c.clear.new.self))) None) (sym c.same_count.ensures.same)

pub part_at_commas-requires : goal.part_at_commas-requires
part_at_commas-requires c = record {
  few = omega (arith, few c.args.self.now.inside, ap length c.view-inside.ensures);
  none = c.clear.ensures.items;
  room = omega arith;
}

pub returns-clause-parts : goal.returns-clause-parts
returns-clause-parts c ms ps e v =
    let within = held c.args.self.now.inside in
    let extents = c.part_at_commas.new.extents in
    let size = c.len-2.ensures ∙ ap length c.view-inside.ensures in
    some_parameters ms ps within (vec_items extents) _ size c.args.parameters _ _ _ e c.if-parameters-eq0.false v c.most_commas-most.ensures (c.len-3.ensures ∙ extents.ok.0) (subst (λ xs. map (part_of ms xs) (vec_items extents) ≡ parted c.most_commas-most.result 0 (items_of ms xs)) c.view-inside.ensures (c.part_at_commas.ensures.parts ms)) ∙ ap (λ b. cond b (Some (map (part_of ms within) (vec_items extents))) None) (sym c.same_count-2.ensures.same)
