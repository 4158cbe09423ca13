-- Bytes and their lines, side by side. Assumes nothing.
use Rattle.std.proofs.Common.{◌≡◌, ℕ, List, [], ◌∷◌, ◌++◌, map, length, refl, ap, arith}
use Rattle.text.specs.declared.Placed.{Placed}
use Rattle.text.specs.Placing.{placed, byte_of, line_of}

pub placed-push : (bs ls : List ℕ) (p : Placed) → length ls ≡ length bs → placed (bs ++ p.byte ∷ []) (ls ++ p.line ∷ []) ≡ placed bs ls ++ p ∷ []
placed-push [] [] p e = refl
placed-push [] (l ∷ ls) p e = absurd (omega arith)
placed-push (b ∷ bs) [] p e = absurd (omega arith)
placed-push (b ∷ bs) (l ∷ ls) p e = ap (λ ps. record { byte = b; line = l } ∷ ps) (placed-push bs ls p (omega arith))

pub bytes-placed : (bs ls : List ℕ) → length ls ≡ length bs → bs ≡ map byte_of (placed bs ls)
bytes-placed [] ls e = refl
bytes-placed (b ∷ bs) [] e = absurd (omega arith)
bytes-placed (b ∷ bs) (l ∷ ls) e = ap (λ xs. b ∷ xs) (bytes-placed bs ls (omega arith))

pub lines_placed : (bs ls : List ℕ) → length ls ≡ length bs → ls ≡ map line_of (placed bs ls)
lines_placed [] [] e = refl
lines_placed [] (l ∷ ls) e = absurd (omega arith)
lines_placed (b ∷ bs) [] e = absurd (omega arith)
lines_placed (b ∷ bs) (l ∷ ls) e = ap (λ xs. l ∷ xs) (lines_placed bs ls (omega arith))
