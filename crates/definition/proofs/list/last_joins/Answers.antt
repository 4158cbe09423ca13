use Rattle.std.proofs.Common.{◌≡◌, ◌-◌, ap, ◌∙◌, rules}
use Rattle.std.specs.List.{slice_get}
use Rattle.token.specs.Views.{view_tokens}
use Rattle.definition.proofs.Lists.{joins, last_joins_lem}
use Rattle.definition.proofs.list.last_joins.Goals as goal

pub returns : goal.returns
returns c =
    let tested : c.is_some_and.result ≡ joins c.get.result = search rules in
    let ts = view_tokens c.args.list in
    tested ∙ last_joins_lem ts _ (c.get.ensures ∙ ap (slice_get ts) (c.saturating_sub.ensures ∙ ap (λ n. n - 1) c.len.ensures))
