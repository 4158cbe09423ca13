-- A name goes as far as its bytes may stand in one. Assumes nothing.
use Rattle.std.proofs.Common.{ℕ, suc, ◌≤◌, List, [], ◌∷◌, ◌++◌, length, take, sym, subst, arith}
use Rattle.std.proofs.lemmas.Bool.{cond_both, cond-true}
use Rattle.text.specs.Bytes.{name_byte}
use Rattle.lexer.specs.Cutting.{name_length}
use Rattle.lexer.specs.Grammar.{Named}
use Rattle.lexer.specs.Grammar.Named.{none, and}

-- what a name takes may stand in it
pub name_named : (bs : List ℕ) → Named (take (name_length bs) bs)
name_named [] = none
name_named (b ∷ bs) = let h = name_named bs in cond_both (name_byte b) (suc (name_length bs)) 0 (λ n. Named (take n (b ∷ bs))) (λ e. and e h) (λ _. none)

-- and it takes all that may
pub name_reaches : {bs : List ℕ} (rest : List ℕ) → Named bs → length bs ≤ name_length (bs ++ rest)
name_reaches rest none = omega arith
name_reaches rest (and {b} {bs} e h) = let k = name_reaches rest h in subst (λ n. suc (length bs) ≤ n) (sym (cond-true (name_byte b) (suc (name_length (bs ++ rest))) 0 e)) (omega arith)
