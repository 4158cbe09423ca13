use Rattle.std.proofs.Common.{◌≡◌, vec_items, vec_len, ap, ◌∙◌, arith, rules}
use Rattle.token.specs.Packing.{packed}
use Rattle.token.proofs.Filled.{dense_pop, tokens-pop}
use Rattle.token.proofs.limited.LimitedTable.pop.Goals as goal

pub invariant_of-self : goal.invariant_of-self
invariant_of-self c =
    let was = c.in-Some.ensures in
    let both = dense_pop c.args.self.now _ c.in-Some.record was.items in
    let start : vec_len c.cut_off.new.text ≡ c.in-Some.record.spelling.start = omega arith in
    record {
      few = omega arith;
      short = omega arith;
      records_room = omega arith;
      text_room = omega arith;
      dense = ap (packed 0 (vec_items c.pop.new.self)) start ∙ both.0;
    }

pub returns-in-Some : goal.returns-in-Some
returns-in-Some c =
    record {
      tokens = tokens-pop c.args.self.now _ c.in-Some.record c.in-Some.ensures.items _ c.cut_off.ensures.items;
      limits = search rules;
    }
