-- How long names, numbers and literals are, one byte on. Assumes nothing.
use Rattle.std.proofs.Common.{◌≡◌, ℕ, suc, ◌+◌, ◌<◌, ◌≤◌, Bool, true, false, cond, ◌&&◌, ◌||◌, eqb, List, [], ◌∷◌, length, get_or, drop, IfSome, Some, None, Option, refl, ap, ◌∙◌, arith}
use Rattle.std.specs.Option.{option_map}
use Rattle.std.proofs.lemmas.List.{at_drop_more}
use Rattle.std.proofs.lemmas.Option.{MatchOption-at_some}
use Rattle.text.specs.Bytes.{name_byte, quoting}
use Rattle.lexer.specs.Cutting.{sign, exponent, name_length, number_length, literal_length}

-- whether a byte goes on with a number; the flag is that of number_length
abbrev pub goes : Bool → ℕ → Bool
goes e b = name_byte b || eqb b 46 || (e && sign b)

further : (i : ℕ) (o : Option ℕ) → option_map (λ n. i + n) (option_map suc o) ≡ option_map (λ n. i + 1 + n) o
further i None = refl
further i (Some n) = ap Some (omega arith)

module _ (bs : List ℕ) (i : ℕ) (within : i < length bs) where
  literal-step : (m : ℕ) (e : Bool) (q : Option Bool) → quoting m e (get_or bs i 0) ≡ q → literal_length m e (drop i bs) ≡ elim q [ None ↦ Some 1 | Some n ↦ option_map suc (literal_length m n (drop (i + 1) bs)) ]
  literal-step m e q t =
      at_drop_more (literal_length m e) bs i 0 within ∙ ap (λ q. elim q [ None ↦ Some 1 | Some n ↦ option_map suc (literal_length m n (drop (i + 1) bs)) ]) t

  pub literal-closes : (m : ℕ) (e : Bool) → quoting m e (get_or bs i 0) ≡ None → option_map (λ n. i + n) (literal_length m e (drop i bs)) ≡ Some (i + 1)
  literal-closes m e t = ap (option_map (λ n. i + n)) (literal-step m e None t)

  pub literal_more : (m : ℕ) (e n : Bool) → quoting m e (get_or bs i 0) ≡ Some n → option_map (λ n. i + n) (literal_length m e (drop i bs)) ≡ option_map (λ n. i + 1 + n) (literal_length m n (drop (i + 1) bs))
  literal_more m e n t = ap (option_map (λ n. i + n)) (literal-step m e (Some n) t) ∙ further i (literal_length m n (drop (i + 1) bs))

-- none of them is longer than the bytes

shorter : (b : Bool) (n m : ℕ) → n ≤ m → cond b (suc n) 0 ≤ suc m
shorter true n m h = omega arith
shorter false n m h = omega arith

pub name_bound : (bs : List ℕ) → name_length bs ≤ length bs
name_bound [] = omega arith
name_bound (b ∷ bs) = shorter (name_byte b) _ _ (name_bound bs)

pub number_bound : (e : Bool) (bs : List ℕ) → number_length e bs ≤ length bs
number_bound e [] = omega arith
number_bound e (b ∷ bs) = shorter (goes e b) _ _ (number_bound (exponent b) bs)

-- a length that is there is at least 1 and at most n
abbrev pub Fitting : ℕ → Option ℕ → Type 0
Fitting n o = IfSome o (λ k. (0 < k) × (k ≤ n))

fitting_suc : (n : ℕ) (o : Option ℕ) → Fitting n o → Fitting (suc n) (option_map suc o)
fitting_suc n None h = tt
fitting_suc n (Some k) h = (omega arith, omega arith)

pub fitting-literal : (m : ℕ) (e : Bool) (bs : List ℕ) → Fitting (length bs) (literal_length m e bs)
fitting-literal m e [] = tt
fitting-literal m e (b ∷ bs) =
    elim (quoting m e b) as (λ q. Fitting (suc (length bs)) (elim q [ None ↦ Some 1 | Some n ↦ option_map suc (literal_length m n bs) ])) [
      | None ↦ (omega arith, omega arith)
      | Some n ↦ fitting_suc (length bs) (literal_length m n bs) (fitting-literal m n bs)
    ]

pub literal_bound : (m : ℕ) (e : Bool) (bs : List ℕ) (k : ℕ) → literal_length m e bs ≡ Some k → (0 < k) × (k ≤ length bs)
literal_bound m e bs k t = MatchOption-at_some _ _ k t (fitting-literal m e bs)
