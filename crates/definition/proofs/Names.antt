-- Names with commas, two tokens on. Assumes nothing.
use Rattle.std.proofs.Common.{◌≡◌, ℕ, suc, ◌+◌, Bool, true, false, cond, not, ◌&&◌, ◌||◌, ltb, eqb, leb, List, [], ◌∷◌, length, is_some, Some, None, codes, Option, sym, refl, ap, ◌∙◌, arith}
use Rattle.std.proofs.lemmas.Bool.Decides.{nat_tests}
use Rattle.std.proofs.lemmas.Bool.{and_parts}
use Rattle.token.specs.Tokens.{Token}
use Rattle.definition.specs.Definitions.{member, names, parameters, few, fresh, nameable, spells, variable}
use Rattle.definition.specs.Parameters.{words, fresh_name}

-- where tokens are names, the names are the words

abbrev pub As : Option (List (List ℕ)) → List (List ℕ) → Type 0
As o ws = o ≡ cond (is_some o) (Some ws) None

last_as : (n e : Bool) (s v : List ℕ) → As (cond n (Some (s ∷ [])) (cond e (Some (v ∷ [])) None)) (cond n s v ∷ [])
last_as true e s v = refl
last_as false true s v = refl
last_as false false s v = refl

new_as : (b : Bool) (s : List ℕ) (ns ws : List (List ℕ)) → ns ≡ ws → As (cond b None (Some (s ∷ ns))) (s ∷ ws)
new_as true s ns ws p = refl
new_as false s ns ws p = ap (λ z. Some (s ∷ z)) p

fresh_as : (s : List ℕ) (o : Option (List (List ℕ))) (ws : List (List ℕ)) → As o ws → As (fresh s o) (s ∷ ws)
fresh_as s None ws h = refl
fresh_as s (Some ns) ws h = let p : ns ≡ ws = cc in new_as (member s ns) s ns ws p

more_as : (n k : Bool) (s v : List ℕ) (o : Option (List (List ℕ))) (ws : List (List ℕ)) → As o ws → As (cond (n && k) (fresh s o) None) (cond n s v ∷ ws)
more_as true true s v o ws h = fresh_as s o ws h
more_as true false s v o ws h = refl
more_as false k s v o ws h = refl

names_as : (xs : List Token) → As (names xs) (words xs)
names_as [] = refl
names_as (t ∷ []) = last_as (nameable t) (spells t (codes "...")) t.spelling variable
names_as (t ∷ c ∷ ts) = more_as (nameable t) (spells c (codes ",")) t.spelling variable (names ts) (words ts) (names_as ts)

-- whether tokens are names, two tokens on

new_some : (b : Bool) (s : List ℕ) (ns : List (List ℕ)) → is_some (cond b None (Some (s ∷ ns))) ≡ (not b && true)
new_some true s ns = refl
new_some false s ns = refl

and_false : (b : Bool) → false ≡ (b && false)
and_false true = refl
and_false false = refl

fresh_some : (s : List ℕ) (o : Option (List (List ℕ))) (ws : List (List ℕ)) → As o ws → is_some (fresh s o) ≡ (not (member s ws) && is_some o)
fresh_some s None ws h = and_false (not (member s ws))
fresh_some s (Some ns) ws h =
    let p : ns ≡ ws = cc in
    new_some (member s ns) s ns ∙ ap (λ z. not (member s z) && true) p

more_some : (n k : Bool) (s : List ℕ) (o : Option (List (List ℕ))) (ws : List (List ℕ)) → As o ws → is_some (cond (n && k) (fresh s o) None) ≡ ((n && k && not (member s ws)) && is_some o)
more_some true true s o ws h = fresh_some s o ws h
more_some true false s o ws h = refl
more_some false k s o ws h = refl

pub names_more : (t c : Token) (ts : List Token) → is_some (names (t ∷ c ∷ ts)) ≡ (fresh_name t c ts && is_some (names ts))
names_more t c ts = more_some (nameable t) (spells c (codes ",")) t.spelling (names ts) (words ts) (names_as ts)

pub names_behind : (xs ys zs : List Token) (t c : Token) (b : Bool) → xs ≡ t ∷ ys → ys ≡ c ∷ zs → b ≡ fresh_name t c zs → is_some (names xs) ≡ (b && is_some (names zs))
names_behind xs ys zs t c b e f h =
    ap (λ ts. is_some (names ts)) (e ∙ ap (λ ts. t ∷ ts) f) ∙ names_more t c zs ∙ ap (λ d. d && is_some (names zs)) (sym h)

-- n names and their commas are 2 n - 1 tokens

odd : (xs : List Token) → is_some (names xs) ≡ true → suc (length xs) ≡ length (words xs) + length (words xs)
odd [] e = cc
odd (t ∷ []) e = refl
odd (t ∷ c ∷ ts) e =
    let p : suc (length ts) ≡ length (words ts) + length (words ts) = odd ts (and_parts (fresh_name t c ts) (is_some (names ts)) (sym (names_more t c ts) ∙ e)).1 in
    omega arith

few_some : (o : Option (List (List ℕ))) (ws : List (List ℕ)) (n : ℕ) → As o ws → (is_some o ≡ true → suc n ≡ length ws + length ws) → is_some (few o) ≡ (ltb n 254 && is_some o)
few_some None ws n h k = and_false (ltb n 254)
few_some (Some ns) ws n h k =
    let p : ns ≡ ws = cc in
    let l : length ns ≡ length ws = ap length p in
    let q : suc n ≡ length ws + length ws = k refl in
    grind (arith, nat_tests)

short_as : (b : Bool) (ns ws : List (List ℕ)) → ns ≡ ws → As (cond b (Some ns) None) ws
short_as true ns ws p = ap Some p
short_as false ns ws p = refl

few_as : (o : Option (List (List ℕ))) (ws : List (List ℕ)) → As o ws → As (few o) ws
few_as None ws h = refl
few_as (Some ns) ws h = let p : ns ≡ ws = cc in short_as (leb (length ns) 127) ns ws p

pub parameters_as : (xs : List Token) → parameters xs ≡ cond (is_some (parameters xs)) (Some (words xs)) None
parameters_as [] = refl
parameters_as (t ∷ ts) = few_as (names (t ∷ ts)) (words (t ∷ ts)) (names_as (t ∷ ts))

pub parameters_some : (xs : List Token) → is_some (parameters xs) ≡ (eqb (length xs) 0 || (ltb (length xs) 254 && is_some (names xs)))
parameters_some [] = refl
parameters_some (t ∷ ts) =
    let some = few_some (names (t ∷ ts)) (words (t ∷ ts)) (length (t ∷ ts)) (names_as (t ∷ ts)) (odd (t ∷ ts)) in
    let full : eqb (length (t ∷ ts)) 0 ≡ false = grind (arith, nat_tests) in some ∙ ap (λ b. b || (ltb (length (t ∷ ts)) 254 && is_some (names (t ∷ ts)))) (sym full)
