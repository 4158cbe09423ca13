use Rattle.std.proofs.Common.{rules, ◌≡◌, Some, None, [], ◌∷◌, ◌++◌, sym, ap, ◌∙◌}
use Rattle.std.proofs.lemmas.Bool.{false≢true}
use Rattle.std.proofs.lemmas.Result.{err_from_is_err_and}
use Rattle.item.specs.Tagged.{fit}
use Rattle.item.specs.Tables.{held, referred_to}
use Rattle.replacement.specs.Meaning.{items_of}
use Rattle.operators.proofs.Joined.{last_tagged, put_behind, not_one, one, one_fits}
use Rattle.operators.proofs.join.join_next.Goals as goal
use Rattle.operators.proofs.join.join_next.Goals.{else-operand-via-else-operand, else-operand-via-then-operand+in-None-1}

pub returns-in_err-kind-clause-ending : goal.returns-in_err-kind-clause-ending
returns-in_err-kind-clause-ending c ms =
    let err = err_from_is_err_and c.from_residual.result c.from_residual.ensures.1 in
    let xs = held c.args.joined.now in
    let last = ap (λ o. last_tagged o xs) c.if-operand.true ∙ sym c.in-Some.ensures in
    rw err.1 (not_one ms c.args.line c.args.operand xs (referred_to c.args.right) _ last c.spell.result c.spell.ensures.kind c.in_err-kind.ensures.variant)

-- there is room for the joined token
pub returns-in_err-push : goal.returns-in_err-push
returns-in_err-push c =
    let xs = held c.args.joined.now in
    let last = ap (λ o. last_tagged o xs) c.if-operand.true ∙ sym c.in-Some.ensures in
    let fits = one_fits [] c.args.line c.args.operand xs (referred_to c.args.right) _ last (referred_to c.sharing.result) _ _ (c.sharing.ensures []) (c.bytes.ensures ∙ c.spell.ensures.spelt (sym c.in_ok-kind.ensures.variant)) c.requires in
    absurd (false≢true (c.in_err-push.ensures.room ∙ ap (λ zs. fit (zs ++ referred_to c.sharing.result ∷ [])) c.pop.ensures ∙ fits))

pub returns-in_ok-push-clause-ending : goal.returns-in_ok-push-clause-ending
returns-in_ok-push-clause-ending c ms =
    let xs = held c.args.joined.now in
    let last = ap (λ o. last_tagged o xs) c.if-operand.true ∙ sym c.in-Some.ensures in
    let pushed = c.in_ok-push.ensures.tokens ∙ ap (λ zs. zs ++ referred_to c.sharing.result ∷ []) c.pop.ensures in
    ap (λ ys. Some (items_of ms ys)) pushed ∙ one ms c.args.line c.args.operand xs (referred_to c.args.right) _ last (referred_to c.sharing.result) _ _ (c.sharing.ensures ms) (c.bytes.ensures ∙ c.spell.ensures.spelt (sym c.in_ok-kind.ensures.variant)) (sym c.in_ok-kind.ensures.ok_part ∙ c.spell.ensures.kind)

pub returns-in_ok-push-2-clause-ending : goal.returns-in_ok-push-2-clause-ending
returns-in_ok-push-2-clause-ending c ms =
    let xs = held c.args.joined.now in
    let none : last_tagged c.args.operand xs ≡ None = elim c.else-operand.branch [ else-operand-via-else-operand w ↦ ap (λ o. last_tagged o xs) w.if-operand.false | else-operand-via-then-operand+in-None-1 w ↦ search rules ] in
    ap (λ ys. Some (items_of ms ys)) c.in_ok-push-2.ensures.tokens ∙ put_behind ms c.args.line c.args.operand xs (referred_to c.args.right) none
