use Rattle.std.proofs.Common.{map, take, drop, sym, ap, ◌∙◌}
use Rattle.std.proofs.lemmas.List.{take-map, drop-map}
use Rattle.token.specs.Limited.{record_token}
use Rattle.token.proofs.tokens.Tokens.part.Goals as goal

pub returns : goal.returns
returns c =
    let view = c.args.self.now in
    let token = record_token view.text.now in
    ap (map token) c.slice_of.ensures ∙ sym (take-map token c.args.len (drop c.args.start view.records.now)) ∙ ap (take c.args.len) (sym (drop-map token c.args.start view.records.now))
