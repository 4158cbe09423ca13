use Rattle.std.proofs.Common.{ℕ, reverse, refl, sym, ap, ◌∙◌}
use Rattle.std.proofs.lemmas.List.{map-id}
use Rattle.std.proofs.lemmas.Result.{err_from_is_err_and}
use Rattle.item.specs.Tables.{held}
use Rattle.replacement.specs.Items.{giving}
use Rattle.replacement.specs.Meaning.{items_of, hidden}
use Rattle.operators.specs.Pieces.{pieces_of}
use Rattle.operators.proofs.Placed.{placing}
use Rattle.operators.proofs.Plain.{join-plain}
use Rattle.operators.proofs.place.place_result.Goals as goal

pub returns-then-are_plain : goal.returns-then-are_plain
returns-then-are_plain c ms =
    let xs = held c.args.pieces.now in
    placing c.args.name.line c.args.name.marked (hidden ms c.args.name.hides) (pieces_of ms xs) (items_of ms (reverse (held c.args.w.now))) (items_of ms (reverse (held c.put_before.new.w))) _ (join-plain c.args.name.line ms xs (sym c.are_plain.ensures ∙ c.if-are_plain.true)) _ _ (c.put_before.ensures.room ms) (c.put_before.ensures.before ms) c.placed.ensures

pub returns-in_err-join_all : goal.returns-in_err-join_all
returns-in_err-join_all c ms =
    let err = err_from_is_err_and c.from_residual.result c.from_residual.ensures.1 in
    rw (err.1, err.2, c.in_err-join_all.ensures.fault) (λ left. c.in_err-join_all.ensures.failed ms left refl)

pub returns : goal.returns
returns c ms =
    let whole = λ (left : ℕ). c.in_ok-join_all.ensures.whole ms left refl ∙ ap (λ ys. giving (items_of ms ys) left) (sym (map-id (held c.join_all.new.joined))) in
    placing c.args.name.line c.args.name.marked (hidden ms c.args.name.hides) (pieces_of ms (held c.args.pieces.now)) (items_of ms (reverse (held c.args.w.now))) (items_of ms (reverse (held c.put_before-2.new.w))) _ whole _ _ (c.put_before-2.ensures.room ms) (c.put_before-2.ensures.before ms) c.placed-2.ensures
