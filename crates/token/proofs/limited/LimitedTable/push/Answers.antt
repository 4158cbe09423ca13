use Rattle.std.proofs.Common.{length, is_ok, sym, ◌∙◌, arith, rules}
use Rattle.std.proofs.ResultArms.{chosen}
use Rattle.std.proofs.lemmas.Bool.{both_ways}
use Rattle.token.proofs.Filled.{has_place_lem, room, dense_push, tokens-push}
use Rattle.token.proofs.limited.LimitedTable.push.Goals as goal

pub returns-then-not-has_room : goal.returns-then-not-has_room
returns-then-not-has_room c =
    record {
      room = c.if-not-has_room.ensures ∙ sym (has_place_lem c.args.self.now _);
      tokens = search rules;
      unchanged = search rules;
      limits = search rules;
    }

pub returns-then-is_err : goal.returns-then-is_err
returns-then-is_err c =
    let h = room c.args.self.now (length c.args.token.spelling.now) c.if-not-has_room.ensures in
    absurd (both_ways (is_ok c.extend_from_slice.result) c.if-is_err.ensures.negation (c.extend_from_slice.ensures.succeeds (omega arith)))

pub push_reserved-requires : goal.push_reserved-requires
push_reserved-requires c = let h = room c.args.self.now _ c.if-not-has_room.ensures in omega arith

pub invariant_of-self-2 : goal.invariant_of-self-2
invariant_of-self-2 c =
    let t = c.args.self.now in
    let h = room t _ c.if-not-has_room.ensures in
    let longer = chosen _ _ _ _ c.extend_from_slice.ensures.len c.if-is_err.ensures.negation in
    record {
      few = omega arith;
      short = omega arith;
      records_room = omega arith;
      text_room = omega arith;
      dense = dense_push t c.args.token _ _ c.record_at-record.ensures c.len.ensures _ c.push_reserved.ensures.items _ longer;
    }

pub returns : goal.returns
returns c =
    let longer = chosen _ _ _ _ c.extend_from_slice.ensures.items c.if-is_err.ensures.negation in
    record {
      room = c.if-not-has_room.ensures ∙ sym (has_place_lem c.args.self.now _);
      tokens = tokens-push c.args.self.now c.args.token _ _ c.record_at-record.ensures c.len.ensures _ c.push_reserved.ensures.items _ longer;
      unchanged = search rules;
      limits = search rules;
    }
