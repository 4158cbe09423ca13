-- Phases 1 to 3, one after another over a whole text. Assumes nothing.
use Rattle.std.specs.Prelude.{ℕ, List, [], Ok, Err, Result}
use Rattle.source.specs.declared.Ending.{Ending}
use Rattle.source.specs.declared.Ending.TheVariants.{Fails}
use Rattle.source.specs.Lines.{Lines, line, stop}
use Rattle.source.specs.Phases.{logical_lines}
use Rattle.source.specs.Stream.{Stream}
use Rattle.token.specs.Tokens.{Token}
use Rattle.lexer.specs.Cutting.{cut_line}

-- the tokens of line after line, each with the physical line of its newline, and then how they end
pub data TokenLines : Type 0 where
  tokens : List Token → ℕ → TokenLines → TokenLines
  over : Ending → TokenLines

-- every line is cut, and the first fault ends them
abbrev pub cut_lines : Lines → TokenLines
cut_lines (line ps n ls) = elim (cut_line ps) [ Ok ts ↦ tokens ts n (cut_lines ls) | Err f ↦ over (Fails f) ]
cut_lines (stop e) = over e

-- the tokens of a text
abbrev pub token_lines : Stream → TokenLines
token_lines s = cut_lines (logical_lines s)

-- the first line, as an answer, and its tokens
abbrev pub tokens_head : TokenLines → Result ℕ Ending
tokens_head (tokens ts n ls) = Ok n
tokens_head (over e) = Err e

abbrev pub tokens_first : TokenLines → List Token
tokens_first (tokens ts n ls) = ts
tokens_first (over e) = []
