-- The token at the front, by the class of the first two bytes. Assumes nothing.
use Rattle.std.proofs.Common.{◌≡◌, ℕ, zero, suc, ◌<◌, ◌≤◌, Bool, true, false, cond, ◌&&◌, ◌||◌, eqb, List, [], ◌∷◌, length, get_or, drop, sym, refl, ap, ◌∙◌, ⊎_elim, arith}
use Rattle.std.proofs.lemmas.List.{get_or_past}
use Rattle.std.proofs.lemmas.Bool.{cases_lt}
use Rattle.text.specs.Bytes.{digit, name_byte, mark}
use Rattle.token.specs.declared.Kind.TheVariants.{Identifier, Number, Punctuator, Other}
use Rattle.lexer.specs.declared.scan.Class as class
use Rattle.lexer.specs.declared.scan.Class.{Class}
use Rattle.lexer.specs.declared.scan.Class.TheVariants.{Literal, WideLiteral, Name, Symbol}
use Rattle.lexer.specs.Cutting.{Scan, token, literal, scan, name_length, number_length}
use Rattle.lexer.specs.Punctuators.{punctuators, longest}
use Rattle.lexer.specs.Scanning.{class_of, symbol_token, some_length}

abbrev pub scan_as : Class → List ℕ → Scan
scan_as Literal bs = literal (get_or bs 0 0) 1 (drop 1 bs)
scan_as WideLiteral bs = literal (get_or bs 1 0) 2 (drop 2 bs)
scan_as class.TheVariants.Number bs = token Number (suc (number_length false (drop 1 bs)))
scan_as Name bs = token Identifier (suc (name_length (drop 1 bs)))
scan_as Symbol bs = symbol_token (some_length (longest punctuators bs))

chosen : (F : Class → Scan) (a b c d : Bool) → cond a (F Literal) (cond b (F WideLiteral) (cond c (F class.TheVariants.Number) (cond d (F Name) (F Symbol)))) ≡ F (cond a Literal (cond b WideLiteral (cond c class.TheVariants.Number (cond d Name Symbol))))
chosen F true b c d = refl
chosen F false true c d = refl
chosen F false false true d = refl
chosen F false false false true = refl
chosen F false false false false = refl

narrow : (a b c d : Bool) → WideLiteral ≡ cond a Literal (cond (b && false) WideLiteral (cond c class.TheVariants.Number (cond d Name Symbol))) → ⊥
narrow true b c d e = let z : ◌≡◌ {A = ℕ} 0 1 = cc in omega arith
narrow false true true d e = let z : ◌≡◌ {A = ℕ} 0 1 = cc in omega arith
narrow false true false true e = let z : ◌≡◌ {A = ℕ} 0 1 = cc in omega arith
narrow false true false false e = let z : ◌≡◌ {A = ℕ} 0 1 = cc in omega arith
narrow false false true d e = let z : ◌≡◌ {A = ℕ} 0 1 = cc in omega arith
narrow false false false true e = let z : ◌≡◌ {A = ℕ} 0 1 = cc in omega arith
narrow false false false false e = let z : ◌≡◌ {A = ℕ} 0 1 = cc in omega arith

-- a symbol, by the length of the punctuator there
symbol_lem : (n : ℕ) → elim n [ zero ↦ token Other 1 | suc k ↦ token Punctuator (suc k) ] ≡ symbol_token (some_length n)
symbol_lem zero = refl
symbol_lem (suc n) = refl

pub scan_as_lem : (bs : List ℕ) → 0 < length bs → scan bs ≡ scan_as (class_of (get_or bs 0 0) (get_or bs 1 0)) bs
scan_as_lem [] h = absurd (omega arith)
scan_as_lem (b ∷ []) h = ap (λ x. cond (mark b) (scan_as Literal (b ∷ [])) (cond (eqb b 76 && false) (scan_as WideLiteral (b ∷ [])) (cond (digit b || (eqb b 46 && false)) (scan_as class.TheVariants.Number (b ∷ [])) (cond (name_byte b) (scan_as Name (b ∷ [])) x)))) (symbol_lem (longest punctuators (b ∷ []))) ∙ chosen (λ c. scan_as c (b ∷ [])) (mark b) (eqb b 76 && false) (digit b || (eqb b 46 && false)) (name_byte b)
scan_as_lem (a ∷ b ∷ bs) h = ap (λ x. cond (mark a) (scan_as Literal (a ∷ b ∷ bs)) (cond (eqb a 76 && mark b) (scan_as WideLiteral (a ∷ b ∷ bs)) (cond (digit a || (eqb a 46 && digit b)) (scan_as class.TheVariants.Number (a ∷ b ∷ bs)) (cond (name_byte a) (scan_as Name (a ∷ b ∷ bs)) x)))) (symbol_lem (longest punctuators (a ∷ b ∷ bs))) ∙ chosen (λ c. scan_as c (a ∷ b ∷ bs)) (mark a) (eqb a 76 && mark b) (digit a || (eqb a 46 && digit b)) (name_byte a)

-- the same, for bytes that were read
module _ (bs : List ℕ) (a b : ℕ) (first : a ≡ get_or bs 0 0) (second : b ≡ get_or bs 1 0) where
  pub by_class : (k : Class) → 0 < length bs → k ≡ class_of a b → scan bs ≡ scan_as k bs
  by_class k some e = scan_as_lem bs some ∙ ap (λ c. scan_as c bs) (sym (e ∙ (λ i. class_of (first i) (second i))))

  -- the second byte of a wide literal is there, since 0 is no mark
  pub wide-within : WideLiteral ≡ class_of a b → 2 ≤ length bs
  wide-within e =
      ⊎_elim (λ within. omega arith) (λ past. absurd (narrow (mark a) (eqb a 76) (digit a || (eqb a 46 && false)) (name_byte a) (e ∙ ap (class_of a) (second ∙ get_or_past bs 1 0 past)))) (cases_lt 1 (length bs))
