use Rattle.std.proofs.Common.{sym, ◌∙◌}
use Rattle.lexer.specs.Scanning.{longest_of}
use Rattle.lexer.proofs.Words.{longest-punctuator}
use Rattle.lexer.proofs.scan.punctuator_length.Goals as goal

pub returns : goal.returns
returns c =
    c.longest_of.ensures
    ∙ (λ i. longest_of (c.byte_at.ensures i) (c.byte_at-2.ensures i) (c.byte_at-3.ensures i) (c.byte_at-4.ensures i))
    ∙ sym (longest-punctuator c.args.bytes.now)
