use Rattle.std.proofs.Common.{rules, ◌∙◌}
use Rattle.std.proofs.lemmas.Bool.{false≢true}
use Rattle.item.proofs.Held.{fits}
use Rattle.item.specs.Tables.{held, referred_to}
use Rattle.operators.proofs.Turned.{start, ended, nothing_turn, plain_fits, plain_turn, operator_last, nothing_right, right_fits, operator_fault, operator_turn}
use Rattle.operators.proofs.join.join_all.Goals as goal

pub loop-part-init : goal.loop-part-init
loop-part-init c = search (rules, start, fits)

pub returns-in_err-push-in-Plain : goal.returns-in_err-push-in-Plain
returns-in_err-push-in-Plain c =
    let room = plain_fits c.loop-part.invariant (referred_to c.in-Some.part) c.in-Some.ensures.steps c.in-Plain.hides in
    absurd (false≢true (c.in_err-push-in-Plain.ensures.room ∙ room))

pub loop-part-preserved-in-Plain : goal.loop-part-preserved-in-Plain
loop-part-preserved-in-Plain c =
    plain_turn c.loop-part.invariant (referred_to c.in-Some.part) c.in-Some.ensures.steps c.in-Plain.hides (held c.push.new.self) c.in-Plain.is c.in_ok-push-in-Plain.ensures.tokens

pub loop-part-preserved-in-Nothing : goal.loop-part-preserved-in-Nothing
loop-part-preserved-in-Nothing c =
    nothing_turn c.loop-part.invariant (referred_to c.in-Some.part) c.in-Some.ensures.steps c.in-Nothing.is

pub returns-in_default-next-clause-whole : goal.returns-in_default-next-clause-whole
returns-in_default-next-clause-whole c ms left e =
    operator_last c.loop-part.invariant (referred_to c.in-Some.part) c.in-Some.ensures.steps c.in-Join.is c.in_default-next.ensures.steps.0 ms left

pub join_next-requires : goal.join_next-requires
join_next-requires c =
    right_fits c.loop-part.invariant (referred_to c.in-Some.part) c.in-Some.ensures.steps c.in-Join.is (referred_to c.in-Some-next.next) c.in-Some-next.ensures.steps (referred_to c.in-Some-operand_of.right) c.in-Some-operand_of.ensures

pub returns-in_err-join_next-in-Join-clause-failed : goal.returns-in_err-join_next-in-Join-clause-failed
returns-in_err-join_next-in-Join-clause-failed c ms left e =
    operator_fault c.loop-part.invariant (referred_to c.in-Some.part) c.in-Some.ensures.steps c.in-Join.is (referred_to c.in-Some-next.next) c.in-Some-next.ensures.steps (referred_to c.in-Some-operand_of.right) c.in-Some-operand_of.ensures c.in_err-join_next-in-Join.ensures.ending ms left

pub loop-part-preserved-in-Some-operand_of : goal.loop-part-preserved-in-Some-operand_of
loop-part-preserved-in-Some-operand_of c =
    operator_turn c.loop-part.invariant (referred_to c.in-Some.part) c.in-Some.ensures.steps c.in-Join.is (referred_to c.in-Some-next.next) c.in-Some-next.ensures.steps (referred_to c.in-Some-operand_of.right) c.in-Some-operand_of.ensures (held c.join_next.new.joined) c.in_ok-join_next-in-Join.ensures.ending

pub loop-part-preserved : goal.loop-part-preserved
loop-part-preserved c =
    nothing_right c.loop-part.invariant (referred_to c.in-Some.part) c.in-Some.ensures.steps c.in-Join.is (referred_to c.in-Some-next.next) c.in-Some-next.ensures.steps c.in_default-operand_of.ensures

pub returns-clause-whole : goal.returns-clause-whole
returns-clause-whole c ms left e = ended c.loop-part.invariant c.in_default.ensures.steps.0 ms left
