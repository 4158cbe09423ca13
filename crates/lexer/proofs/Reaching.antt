-- The scan takes at least a front that spells a token, as one of its kind, if that has two bytes or is all there is. Assumes nothing.
use Rattle.std.proofs.Common.{◌≡◌, ℕ, zero, suc, ◌+◌, ◌<◌, ◌≤◌, Bool, true, false, cond, not, ◌&&◌, ◌||◌, eqb, List, [], ◌∷◌, ◌++◌, length, take, Some, None, Option, sym, refl, ap, ◌∙◌, subst, append_assoc, arith, length-append}
use mathlib.Core.List.Memᴰ
use mathlib.Core.List.{Memᴰ}
use Rattle.std.proofs.lemmas.Bool.{and_parts, and_left, and_right, or_from, not-true, ne_eqb, false≢true, cond-true, cond-false}
use Rattle.std.proofs.lemmas.Bool.Decides.{nat_tests}
use Rattle.text.specs.Bytes.{digit, name_byte, mark}
use Rattle.token.specs.declared.Kind.{Kind}
use Rattle.token.specs.declared.Kind.TheVariants.{Identifier, Number, Character, String, Punctuator, Other}
use Rattle.lexer.specs.Cutting.{front, name_length, number_length, literal_length, literal, scan, Scan}
use Rattle.lexer.specs.Cutting.Scan.{token, unclosed}
use Rattle.lexer.specs.Punctuators.{punctuators, longest}
use Rattle.lexer.specs.Grammar.{Named, Inside, Spells}
use Rattle.lexer.specs.Grammar.Named.{none, and}
use Rattle.lexer.specs.Grammar.Quoted.{narrow, wide}
use Rattle.lexer.specs.Grammar.Spells.{identifier, number, character, string, punctuator, other}
use Rattle.lexer.proofs.Names.{name_reaches}
use Rattle.lexer.proofs.Numerals.{all_go, number_front, tail_of, number-front-append, number_reaches, numeral_goes}
use Rattle.lexer.proofs.Literals.{literal_reaches}
use Rattle.lexer.proofs.Punctuators.{punctuator_front, begins_with, begins-take, begins-fits, longest_reaches, longest-found, punctuator-front}

-- the scan takes at least n bytes, as a token of the kind
abbrev pub Reaches : Kind → ℕ → Scan → Type 0
Reaches k n (token j m) = (j ≡ k) × (n ≤ m)
Reaches k n unclosed = ⊥

-- what the scan gives where the byte is none of a literal, a number or a name
abbrev pub punctuator_or_other : ℕ → Scan
punctuator_or_other zero = token Other 1
punctuator_or_other (suc n) = token Punctuator (suc n)

module _ (b : ℕ) (bs : List ℕ) (no-mark : mark b ≡ false) (no-wide : (eqb b 76 && front mark bs) ≡ false) where
  pub scan-number : number_front (b ∷ bs) ≡ true → scan (b ∷ bs) ≡ token Number (suc (number_length false bs))
  scan-number o = cond-false _ _ _ no-mark ∙ cond-false _ _ _ no-wide ∙ cond-true _ _ _ o

  pub scan-name : number_front (b ∷ bs) ≡ false → name_byte b ≡ true → scan (b ∷ bs) ≡ token Identifier (suc (name_length bs))
  scan-name o n = cond-false _ _ _ no-mark ∙ cond-false _ _ _ no-wide ∙ cond-false _ _ _ o ∙ cond-true _ _ _ n

  pub scan-punctuator : number_front (b ∷ bs) ≡ false → name_byte b ≡ false → scan (b ∷ bs) ≡ punctuator_or_other (longest punctuators (b ∷ bs))
  scan-punctuator o n = cond-false _ _ _ no-mark ∙ cond-false _ _ _ no-wide ∙ cond-false _ _ _ o ∙ cond-false _ _ _ n ∙ go (longest punctuators (b ∷ bs))
    where
      go : (x : ℕ) → elim x [ zero ↦ token Other 1 | suc n ↦ token Punctuator (suc n) ] ≡ punctuator_or_other x
      go zero = refl
      go (suc n) = refl

pub name-mark : (b : ℕ) → name_byte b ≡ true → mark b ≡ false
name-mark b h = grind (arith, nat_tests)

name-point : (b : ℕ) → name_byte b ≡ true → eqb b 46 ≡ false
name-point b h = grind (arith, nat_tests)

pub number-front-mark : (b : ℕ) (t : Bool) → (digit b || (eqb b 46 && t)) ≡ true → mark b ≡ false
number-front-mark b t h = grind (arith, nat_tests)

number-front-wide : (b : ℕ) (t : Bool) → (digit b || (eqb b 46 && t)) ≡ true → eqb b 76 ≡ false
number-front-wide b t h = grind (arith, nat_tests)

other-digit : (b : ℕ) → name_byte b ≡ false → digit b ≡ false
other-digit b h = grind (arith, nat_tests)

other-wide : (b : ℕ) → name_byte b ≡ false → eqb b 76 ≡ false
other-wide b h = grind (arith, nat_tests)

named_front : {bs : List ℕ} → Named bs → front mark bs ≡ false
named_front none = refl
named_front (and {b} e n) = name-mark b e

-- the first byte of bs and what follows it is that of bs, unless there is none
front-append : (test : ℕ → Bool) (bs rest : List ℕ) → (length bs ≡ 0 → rest ≡ []) → front test bs ≡ false → front test (bs ++ rest) ≡ false
front-append test [] rest alone h = ap (front test) (alone refl)
front-append test (b ∷ bs) rest alone h = h

number_far : (bs rest : List ℕ) → number_front bs ≡ true → all_go false (tail_of bs) ≡ true → Reaches Number (length bs) (scan (bs ++ rest))
number_far [] rest o r = absurd (false≢true o)
number_far (b ∷ bs) rest o r =
    let n = number_reaches false bs rest r in
    let goal : suc (length bs) ≤ suc (number_length false (bs ++ rest)) = omega arith in
    subst (Reaches Number (suc (length bs))) (sym (scan-number b (bs ++ rest) (number-front-mark b (front digit bs) o) (and_left _ _ (number-front-wide b (front digit bs) o)) (number-front-append (b ∷ bs) rest o))) (refl, goal)

-- what the scan gives of a literal, by its length behind the mark
abbrev pub literal_scan : ℕ → ℕ → Option ℕ → Scan
literal_scan m n None = unclosed
literal_scan m n (Some k) = cond (eqb m 39) (cond (eqb k 1) unclosed (token Character (n + k))) (token String (n + k))

pub literal_is : (m n : ℕ) (bs : List ℕ) → literal m n bs ≡ literal_scan m n (literal_length m false bs)
literal_is m n bs = go (literal_length m false bs)
  where
    go : (o : Option ℕ) → elim o [ None ↦ unclosed | Some k ↦ cond (eqb m 39) (cond (eqb k 1) unclosed (token Character (n + k))) (token String (n + k)) ] ≡ literal_scan m n o
    go None = refl
    go (Some k) = refl

closed : (m n : ℕ) (cs rest : List ℕ) → eqb 92 m ≡ false → Inside m cs → literal m n ((cs ++ m ∷ []) ++ rest) ≡ literal_scan m n (Some (suc (length cs)))
closed m n cs rest s i = literal_is m n _ ∙ ap (literal_scan m n) (ap (literal_length m false) (append_assoc cs (m ∷ []) rest) ∙ literal_reaches rest s i)

character_far : (n l b : ℕ) (cs rest : List ℕ) → Inside 39 (b ∷ cs) → l ≤ n + length ((b ∷ cs) ++ 39 ∷ []) → Reaches Character l (literal 39 n (((b ∷ cs) ++ 39 ∷ []) ++ rest))
character_far n l b cs rest i h =
    let more = length-append cs (39 ∷ []) in
    let goal : l ≤ n + suc (suc (length cs)) = omega arith in
    subst (Reaches Character l) (sym (closed 39 n (b ∷ cs) rest refl i ∙ cond-false (eqb (suc (suc (length cs))) 1) _ _ (ne_eqb _ 1 (λ e. omega arith)))) (refl, goal)

string_far : (n l : ℕ) (cs rest : List ℕ) → Inside 34 cs → l ≤ n + length (cs ++ 34 ∷ []) → Reaches String l (literal 34 n ((cs ++ 34 ∷ []) ++ rest))
string_far n l cs rest i h =
    let more = length-append cs (34 ∷ []) in
    let goal : l ≤ n + suc (length cs) = omega arith in
    subst (Reaches String l) (sym (closed 34 n cs rest refl i)) (refl, goal)

punctuator_reaches : (n x : ℕ) → 0 < n → n ≤ x → Reaches Punctuator n (punctuator_or_other x)
punctuator_reaches n zero h k = absurd (omega arith)
punctuator_reaches n (suc x) h k = (refl, k)

-- the scan at a byte that is none of a literal, a number or a name
scan_symbol : (b : ℕ) (bs : List ℕ) → mark b ≡ false → name_byte b ≡ false → front digit bs ≡ false → scan (b ∷ bs) ≡ punctuator_or_other (longest punctuators (b ∷ bs))
scan_symbol b bs no-mark no_name no_digit = scan-punctuator b bs no-mark (and_left _ _ (other-wide b no_name)) (or_from _ _ (other-digit b no_name) (and_right _ _ no_digit)) no_name

punctuator_far : (w rest : List ℕ) → (length w ≡ 1 → rest ≡ []) → Memᴰ w punctuators → punctuator_front w ≡ true → Reaches Punctuator (length w) (scan (w ++ rest))
punctuator_far [] rest alone mem s = absurd (false≢true s)
punctuator_far (b ∷ w) rest alone mem s =
    let p = and_parts (not (mark b)) _ s in
    let q = and_parts (not (name_byte b)) (not (front digit w)) p.1 in
    subst (Reaches Punctuator (length (b ∷ w)))
    (sym (scan_symbol b (w ++ rest) (not-true (mark b) p.0) (not-true (name_byte b) q.0) (front-append digit w rest (λ e. alone (ap suc e)) (not-true (front digit w) q.1))))
    (punctuator_reaches _ _ (omega arith) (longest_reaches ((b ∷ w) ++ rest) mem (begins_with (b ∷ w) rest)))

-- a byte that is no punctuator begins none
no_punctuator : (b n : ℕ) → (Memᴰ (b ∷ []) punctuators → ⊥) → longest punctuators (b ∷ []) ≡ n → n ≡ 0
no_punctuator b zero no_one e = refl
no_punctuator b (suc n) no_one e =
    let found = longest-found punctuators (b ∷ []) n e in
    let l = found.long in
    let f = begins-fits found.spelling (b ∷ []) found.stands in
    let one : length found.spelling ≡ 1 = omega arith in
    absurd (no_one (Memᴰ.cast (ap (λ (k : ℕ). take k (b ∷ [])) (sym one) ∙ begins-take found.spelling (b ∷ []) found.stands) found.listed))

other_far : (b : ℕ) → mark b ≡ false → name_byte b ≡ false → (Memᴰ (b ∷ []) punctuators → ⊥) → Reaches Other 1 (scan (b ∷ []))
other_far b no-mark no_name no_one =
    let goal : 1 ≤ 1 = omega arith in
    subst (Reaches Other 1) (sym (scan_symbol b [] no-mark no_name refl ∙ ap punctuator_or_other (no_punctuator b _ no_one refl))) (refl, goal)

pub reaching : {k : Kind} {w : List ℕ} → Spells k w → (rest : List ℕ) → (length w ≡ 1 → rest ≡ []) → Reaches k (length w) (scan (w ++ rest))
reaching (identifier {b} {bs} nb nd named) rest alone =
    let n = name_reaches rest named in
    let goal : suc (length bs) ≤ suc (name_length (bs ++ rest)) = omega arith in
    subst (Reaches Identifier (suc (length bs)))
    (sym (scan-name b (bs ++ rest) (name-mark b nb) (and_right _ _ (front-append mark bs rest (λ e. alone (ap suc e)) (named_front named))) (or_from _ _ nd (and_left _ _ (name-point b nb))) nb))
    (refl, goal)
reaching (number {bs} n) rest alone = let p = numeral_goes n in number_far bs rest p.0 p.1
reaching (character {b} {bs} (narrow inside)) rest alone = character_far 1 _ b bs rest inside (omega arith)
reaching (character {b} {bs} (wide inside)) rest alone = character_far 2 _ b bs rest inside (omega arith)
reaching (string {bs} (narrow inside)) rest alone = string_far 1 _ bs rest inside (omega arith)
reaching (string {bs} (wide inside)) rest alone = string_far 2 _ bs rest inside (omega arith)
reaching (punctuator {w} mem) rest alone = punctuator_far w rest alone mem (punctuator-front mem)
reaching (other {b} no-white no-mark no_name no_one) rest alone = subst (λ (l : List ℕ). Reaches Other 1 (scan (b ∷ l))) (sym (alone refl)) (other_far b no-mark no_name no_one)
