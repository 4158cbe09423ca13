-- A token at the front has at least one byte, and no more than there are. Assumes nothing.
use Rattle.std.proofs.Common.{◌≡◌, ℕ, zero, suc, ◌+◌, ◌<◌, ◌≤◌, true, false, cond, eqb, List, [], ◌∷◌, length, get_or, drop, Some, None, Option, sym, subst, arith, length-drop}
use Rattle.std.proofs.lemmas.Bool.{and_parts, cond_both}
use Rattle.token.specs.declared.Kind.TheVariants.{Character, String}
use Rattle.lexer.specs.declared.scan.Class.{Class}
use Rattle.lexer.specs.declared.scan.Class.TheVariants.{Literal, WideLiteral, Number, Name, Symbol}
use Rattle.lexer.specs.Cutting.{Scan, token, unclosed, literal, literal_length, scan}
use Rattle.lexer.specs.Punctuators.{punctuators, begins, longest}
use Rattle.lexer.specs.Scanning.{symbol_token, some_length}
use Rattle.lexer.proofs.Fronts.{scan_as, scan_as_lem}
use Rattle.lexer.proofs.Lengths.{Fitting, fitting-literal, name_bound, number_bound}

abbrev pub Fits : ℕ → Scan → Type 0
Fits m unclosed = Unit {0}
Fits m (token k n) = (0 < n) × (n ≤ m)

begins_bound : (w bs : List ℕ) → begins w bs ≡ true → length w ≤ length bs
begins_bound [] bs h = omega arith
begins_bound (x ∷ w) [] h = absurd (let z : ◌≡◌ {A = ℕ} 0 1 = cc in omega arith)
begins_bound (x ∷ w) (b ∷ bs) h = omega (arith, begins_bound w bs (and_parts (eqb x b) _ h).1)

longest_bound : (ws : List (List ℕ)) (bs : List ℕ) → longest ws bs ≤ length bs
longest_bound [] bs = omega arith
longest_bound (w ∷ ws) bs =
    let first : cond (begins w bs) (length w) 0 ≤ length bs = cond_both (begins w bs) _ _ (λ n. n ≤ length bs) (begins_bound w bs) (λ _. omega arith) in
    omega (arith, longest_bound ws bs)

symbol_fits : (m n : ℕ) → 0 < m → n ≤ m → Fits m (symbol_token (some_length n))
symbol_fits m zero some h = (omega arith, omega arith)
symbol_fits m (suc n) some h = (omega arith, omega arith)

closed-fits : (m n l : ℕ) (o : Option ℕ) (top : ℕ) → Fitting l o → ((k : ℕ) → 0 < k → k ≤ l → (0 < n + k) × (n + k ≤ top)) → Fits top (elim o [ None ↦ unclosed | Some k ↦ cond (eqb m 39) (cond (eqb k 1) unclosed (token Character (n + k))) (token String (n + k)) ])
closed-fits m n l None top f h = tt
closed-fits m n l (Some k) top f h =
    let ends = h k f.0 f.1 in
    cond_both (eqb m 39) _ _ (Fits top) (λ _. cond_both (eqb k 1) _ _ (Fits top) (λ _. tt) (λ _. ends)) (λ _. ends)

literal-fits : (m n : ℕ) (bs : List ℕ) (top : ℕ) → ((k : ℕ) → 0 < k → k ≤ length bs → (0 < n + k) × (n + k ≤ top)) → Fits top (literal m n bs)
literal-fits m n bs top h = closed-fits m n (length bs) (literal_length m false bs) top (fitting-literal m false bs) h

class-fits : (k : Class) (bs : List ℕ) → 0 < length bs → Fits (length bs) (scan_as k bs)
class-fits Literal bs some = literal-fits (get_or bs 0 0) 1 (drop 1 bs) (length bs) (λ k p h. (omega arith, omega (arith, length-drop 1 bs)))
class-fits WideLiteral bs some = literal-fits (get_or bs 1 0) 2 (drop 2 bs) (length bs) (λ k p h. (omega arith, omega (arith, length-drop 2 bs)))
class-fits Number bs some = (omega arith, omega (arith, number_bound false (drop 1 bs), length-drop 1 bs))
class-fits Name bs some = (omega arith, omega (arith, name_bound (drop 1 bs), length-drop 1 bs))
class-fits Symbol bs some = symbol_fits (length bs) (longest punctuators bs) some (longest_bound punctuators bs)

pub scan-fits : (bs : List ℕ) → 0 < length bs → Fits (length bs) (scan bs)
scan-fits bs some = subst (Fits (length bs)) (sym (scan_as_lem bs some)) (class-fits _ bs some)
