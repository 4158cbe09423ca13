use Rattle.std.proofs.Common.{length, sym, refl, ap, ◌∙◌, arith}
use Rattle.std.specs.Option.{option_map}
use Rattle.std.proofs.lemmas.Bool.{ltb-true, ltb-false}
use Rattle.std.proofs.lemmas.Option.{slice_get_past, slice_get_read}
use Rattle.token.specs.Views.{view_tokens}
use Rattle.item.specs.Tables.{referred_to, shown}
use Rattle.item.proofs.Beside.{length-beside, nth-beside, nth_beyond}
use Rattle.item.proofs.view.TagView.get.Goals as goal

pub returns-in_err-token : goal.returns-in_err-token
returns-in_err-token g c =
    let view = c.args.self.now in
    let past = nth_beyond (view_tokens view.tokens) c.args.index (sym c.in_err-token.ensures) in
    ap (option_map referred_to) c.from_residual.ensures ∙ sym (slice_get_past (shown view) c.args.index (omega (arith, length-beside (view_tokens view.tokens) view.tags.now view.even)))

pub returns-in_err-tag : goal.returns-in_err-tag
returns-in_err-tag g c =
    let view = c.args.self.now in
    let past = ltb-false c.args.index (length view.tags.now) (sym c.in_err-tag.ensures.lookup.0) in
    ap (option_map referred_to) c.from_residual-in_err-tag.ensures ∙ sym (slice_get_past (shown view) c.args.index (omega (arith, length-beside (view_tokens view.tokens) view.tags.now view.even)))

pub returns : goal.returns
returns g c =
    let view = c.args.self.now in
    let tag = c.in_ok-tag.ensures.lookup in
    sym (nth-beside (view_tokens view.tokens) view.tags.now c.args.index _ _ (sym c.in_ok-token.ensures) (slice_get_read view.tags.now _ c.args.index _ refl (ltb-true _ _ (sym tag.0)) tag.1))
