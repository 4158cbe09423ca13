use Rattle.std.proofs.Common.{sym, ◌∙◌}
use Rattle.token.proofs.Filled.{size}
use Rattle.token.proofs.limited.LimitedTable.bytes.Goals as goal

pub returns : goal.returns
returns c = c.len.ensures ∙ sym (size c.args.self.now)
