use Rattle.std.proofs.Common.{◌≡◌, ℕ, true, [], Ok, Err, Result, is_err, refl, sym, ◌∙◌}
use Rattle.source.specs.declared.Ending.{Ending}
use Rattle.source.specs.Lines.{Lines, line, stop, line_head, line_bytes}
use Rattle.source.proofs.reader.Reader.next_line.Goals as goal

no_bytes : (ls : Lines) (r : Result ℕ Ending) → r ≡ line_head ls → true ≡ is_err r → line_bytes ls ≡ []
no_bytes (line ps n ls) (Ok m) e h = cc
no_bytes (line ps n ls) (Err x) e h = cc
no_bytes (stop x) r e h = refl

pub returns-then-is_err-clause-bytes : goal.returns-then-is_err-clause-bytes
returns-then-is_err-clause-bytes g c = c.clear-then-is_err.ensures ∙ sym (no_bytes _ _ c.fill-newline.ensures.answer c.if-is_err.ensures.value)
