-- The first line of the tokens that are left. Assumes nothing.
use Rattle.std.proofs.Common.{◌≡◌, ℕ, List, [], Ok, Err, Result, refl, ap, arith}
use Rattle.source.specs.declared.Ending.TheVariants.{Fails}
use Rattle.source.specs.Lines.{Lines, line, stop, line_head, line_bytes}
use Rattle.text.specs.declared.Fault.{Fault}
use Rattle.token.specs.Tokens.{Token}
use Rattle.lexer.specs.Cutting.{cut_line}
use Rattle.lexer.specs.Phases.{TokenLines, tokens, over, cut_lines, tokens_head, tokens_first}

-- what a line's cut makes of the lines behind it
abbrev cut_before : ℕ → TokenLines → Result (List Token) Fault → TokenLines
cut_before n ls r = elim r [ Ok ts ↦ tokens ts n ls | Err f ↦ over (Fails f) ]

-- a line without a fault gives its tokens
pub line_tokens : (ls : Lines) (ts : List Token) → cut_line (line_bytes ls) ≡ Ok ts → (line_head ls ≡ tokens_head (cut_lines ls)) × (ts ≡ tokens_first (cut_lines ls))
line_tokens (line ps n ls) ts e =
    let same : cut_lines (line ps n ls) ≡ tokens ts n (cut_lines ls) = ap (cut_before n (cut_lines ls)) e in
    (rw same refl, rw same refl)
line_tokens (stop x) ts e = (refl, cc)

-- a fault ends them
pub line_fault : (ls : Lines) (f : Fault) → cut_line (line_bytes ls) ≡ Err f → (Err (Fails f) ≡ tokens_head (cut_lines ls)) × ([] ≡ tokens_first (cut_lines ls))
line_fault (line ps n ls) f e =
    let same : cut_lines (line ps n ls) ≡ over (Fails f) = ap (cut_before n (cut_lines ls)) e in
    (rw same refl, rw same refl)
line_fault (stop x) f e = let z : ◌≡◌ {A = ℕ} 0 1 = cc in absurd (omega arith)
