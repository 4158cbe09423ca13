-- How many lines are left, for a loop over the lines of a reader. Assumes nothing.
use Rattle.std.proofs.Common.{◌≡◌, ℕ, suc, ◌<◌, Ok, arith}
use Rattle.source.specs.Lines.{Lines, line, stop, line_tail}
use Rattle.lexer.specs.Phases.{cut_lines, tokens_head}

abbrev pub count : Lines → ℕ
count (line ps n ls) = suc (count ls)
count (stop e) = 0

-- each line is one less
pub count_falls : (before after : Lines) (n : ℕ) → Ok n ≡ tokens_head (cut_lines before) → after ≡ line_tail before → count after < count before
count_falls (line ps m ls) after n h e = rw e (omega arith)
count_falls (stop x) after n h e = let z : ◌≡◌ {A = ℕ} 0 1 = cc in absurd (omega arith)
