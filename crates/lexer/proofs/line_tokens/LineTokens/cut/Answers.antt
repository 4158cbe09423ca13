use Rattle.std.proofs.Common.{◌≡◌, length, sym, ap, ◌∙◌}
use lib.ListN.{length-map}
use Rattle.source.specs.Lines.{held}
use Rattle.text.specs.Placing.{placed}
use Rattle.lexer.specs.Cutting.{cut_line}
use Rattle.lexer.proofs.Lexical.{lexical}
use Rattle.lexer.proofs.Sofar.{placed_parts}
use Rattle.lexer.proofs.line_tokens.LineTokens.cut.Goals as goal
use Rattle.lexer.proofs.line_tokens.LineTokens.cut.Goals.{After-lines}

-- the line is made of the bytes and the lines that were read
line_is : (c : After-lines) → cut_line (held c.args.line.now) ≡ cut_line (placed c.bytes.result.now c.lines.result.now)
line_is c = ap cut_line (sym ((λ i. placed (c.bytes.ensures.value i) (c.lines.ensures.value i)) ∙ placed_parts (held c.args.line.now)))

pub fill-requires : goal.fill-requires
fill-requires c =
    record {
      empty = c.clear.ensures;
      beside = ap length c.lines.ensures.value ∙ length-map _ _ ∙ sym (ap length c.bytes.ensures.value ∙ length-map _ _);
      short = c.bytes.ensures.bound;
    }

pub returns-in-Err : goal.returns-in-Err
returns-in-Err c =
    record {
      tokens = (line_is (goal.at.returns-in-Err c).After-lines ∙ c.in-Err.ensures, c.clear-in-Err.ensures);
      lexical = lexical;
    }

pub returns : goal.returns
returns c =
    record { tokens = line_is (goal.at.returns c).After-lines ∙ c.in_default.ensures; lexical = lexical }
