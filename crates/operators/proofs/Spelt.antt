-- What is too long is no token. Assumes nothing.
use Rattle.std.proofs.Common.{◌≡◌, ℕ, ◌<◌, Bool, false, cond, not, ◌&&◌, List, length, None, Option, arith}
use Rattle.std.proofs.lemmas.Bool.{lt-leb}
use Rattle.std.proofs.lemmas.Bool.Decides.{nat_tests}
use Rattle.token.specs.declared.Kind.{Kind}
use Rattle.lexer.specs.Cutting.{exactly, fitting, front, one_token, scan, white}

never : (x y z : Bool) (k : Option Kind) → y ≡ false → cond (x && y && z) k None ≡ None
never x y z k h = grind (arith, nat_tests)

pub no_token : (bs : List ℕ) → 1023 < length bs → one_token bs ≡ None
no_token bs h = never (fitting bs) _ (not (front white bs)) (exactly (length bs) (scan bs)) (lt-leb _ _ h)
