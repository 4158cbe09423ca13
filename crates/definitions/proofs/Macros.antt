-- Lists of definitions: sums over them, and what fits. Assumes nothing.
use Rattle.std.proofs.Common.{◌≡◌, ℕ, suc, ◌+◌, ◌<◌, ◌≤◌, Bool, true, false, cond, ◌&&◌, leb, List, [], ◌∷◌, ◌++◌, map, length, get_or, drop, is_some, Some, None, Option, sym, refl, ap, ◌∙◌, append_assoc, arith, length-append}
use Rattle.std.specs.List.{slice_get}
use Rattle.std.specs.Option.{option_map}
use Rattle.std.specs.Str.{bytes_eq}
use Rattle.std.proofs.lemmas.List.{drop_more}
use Rattle.std.proofs.lemmas.Bool.{and_parts, and_from, leb-true, le-leb}
use Rattle.token.specs.Tokens.{Token}
use Rattle.definition.specs.Definitions.{Macro}
use Rattle.definitions.specs.declared.entry.Entry.{Entry}
use Rattle.definitions.specs.Blocks.{macro_at}
use Rattle.definitions.specs.InForce.{slot, found, size, sizes, list_token_count, fit, without}

sizes-push : (ms : List Macro) (m : Macro) → sizes (ms ++ m ∷ []) ≡ sizes ms + size m
sizes-push [] m = omega arith
sizes-push (o ∷ ms) m = omega (arith, sizes-push ms m)

pub list_token_count-push : (ms : List Macro) (m : Macro) → list_token_count (ms ++ m ∷ []) ≡ list_token_count ms + length m.list
list_token_count-push [] m = omega arith
list_token_count-push (o ∷ ms) m = omega (arith, list_token_count-push ms m)

pub fit-push : (ms : List Macro) (m : Macro) → fit (ms ++ m ∷ []) ≡ (leb (length ms + 1) 256 && leb (list_token_count ms + length m.list) 4096 && leb (sizes ms + size m) 32768)
fit-push ms m = λ i. leb (length-append ms (m ∷ []) i) 256 && leb (list_token_count-push ms m i) 4096 && leb (sizes-push ms m i) 32768

pub fit_parts : (ms : List Macro) (m : Macro) → fit (ms ++ m ∷ []) ≡ true → (length ms + 1 ≤ 256) × ((list_token_count ms + length m.list ≤ 4096) × (sizes ms + size m ≤ 32768))
fit_parts ms m h =
    let a = and_parts _ _ (sym (fit-push ms m) ∙ h) in
    let b = and_parts _ _ a.0 in
    (leb-true _ _ b.0, (leb-true _ _ b.1, leb-true _ _ a.1))

-- what fits, in three bounds
abbrev pub Within : List Macro → Type 0
Within ms = (length ms ≤ 256) × ((list_token_count ms ≤ 4096) × (sizes ms ≤ 32768))

fit-within : (ms : List Macro) → fit ms ≡ true → Within ms
fit-within ms h =
    let a = and_parts _ _ h in
    let b = and_parts _ _ a.0 in
    (leb-true _ _ b.0, (leb-true _ _ b.1, leb-true _ _ a.1))

pub within-fit : (ms : List Macro) → Within ms → fit ms ≡ true
within-fit ms w = and_from _ _ (and_from _ _ (le-leb _ _ w.0) (le-leb _ _ w.1.0)) (le-leb _ _ w.1.1)

sizes-append : (ms os : List Macro) → sizes (ms ++ os) ≡ sizes ms + sizes os
sizes-append [] os = omega arith
sizes-append (m ∷ ms) os = omega (arith, sizes-append ms os)

list_token_count-append : (ms os : List Macro) → list_token_count (ms ++ os) ≡ list_token_count ms + list_token_count os
list_token_count-append [] os = omega arith
list_token_count-append (m ∷ ms) os = omega (arith, list_token_count-append ms os)

fit-front : (ms os : List Macro) → fit (ms ++ os) ≡ true → fit ms ≡ true
fit-front ms os h =
    let w = fit-within (ms ++ os) h in
    within-fit ms (omega (arith, w.0, length-append ms os), (omega (arith, w.1.0, list_token_count-append ms os), omega (arith, w.1.1, sizes-append ms os)))

-- without a name there is no more than before
abbrev pub NoMore : List Macro → List Macro → Type 0
NoMore os ms = (length os ≤ length ms) × ((list_token_count os ≤ list_token_count ms) × (sizes os ≤ sizes ms))

no_more : (b : Bool) (m : Macro) (os ms : List Macro) → NoMore os ms → NoMore (cond b os (m ∷ os)) (m ∷ ms)
no_more true m os ms h = (omega (arith, h.0), (omega (arith, h.1.0), omega (arith, h.1.1)))
no_more false m os ms h = (omega (arith, h.0), (omega (arith, h.1.0), omega (arith, h.1.1)))

without_no_more : (n : List ℕ) (ms : List Macro) → NoMore (without n ms) ms
without_no_more n [] = (omega arith, (omega arith, omega arith))
without_no_more n (m ∷ ms) = no_more (bytes_eq n m.name) m (without n ms) ms (without_no_more n ms)

fit-without : (n : List ℕ) (ms : List Macro) → fit ms ≡ true → fit (without n ms) ≡ true
fit-without n ms h =
    let w = fit-within ms h in
    let z = without_no_more n ms in
    within-fit (without n ms) (omega (arith, w.0, z.0), (omega (arith, w.1.0, z.1.0), omega (arith, w.1.1, z.1.1)))

-- the definition at a place

abbrev at : List Macro → Option ℕ → Option Macro
at ms None = None
at ms (Some k) = slice_get ms k

found-step : (m : Macro) (ms : List Macro) (f : Option Macro) (b : Bool) (o : Option ℕ) → f ≡ at ms o → cond b (Some m) f ≡ at (m ∷ ms) (cond b (Some 0) (option_map suc o))
found-step m ms f true o h = refl
found-step m ms f false None h = h
found-step m ms f false (Some k) h = h

found_at : (n : List ℕ) (ms : List Macro) → found n ms ≡ at ms (slot n ms)
found_at n [] = refl
found_at n (m ∷ ms) = found-step m ms (found n ms) (bytes_eq n m.name) (slot n ms) (found_at n ms)

pub found_none : (n : List ℕ) (ms : List Macro) → slot n ms ≡ None → found n ms ≡ None
found_none n ms e = found_at n ms ∙ ap (at ms) e

pub found_some : (n : List ℕ) (ms : List Macro) (k : ℕ) → slot n ms ≡ Some k → found n ms ≡ slice_get ms k
found_some n ms k e = found_at n ms ∙ ap (at ms) e

slot_step : (f : Macro → Bool) (m : Macro) (g : Option Macro) (b : Bool) (o : Option ℕ) → (None ≡ option_map f g → o ≡ None) → None ≡ option_map f (cond b (Some m) g) → cond b (Some 0) (option_map suc o) ≡ None
slot_step f m g true o h e = cc
slot_step f m g false o h e = ap (option_map suc) (h e)

pub slot_none : (f : Macro → Bool) (n : List ℕ) (ms : List Macro) → None ≡ option_map f (found n ms) → slot n ms ≡ None
slot_none f n [] e = refl
slot_none f n (m ∷ ms) e = slot_step f m (found n ms) (bytes_eq n m.name) (slot n ms) (slot_none f n ms) e

without-step : (m : Macro) (ms os : List Macro) (b : Bool) (o : Option ℕ) → (is_some o ≡ false → os ≡ ms) → is_some (cond b (Some 0) (option_map suc o)) ≡ false → cond b os (m ∷ os) ≡ m ∷ ms
without-step m ms os true o h e = cc
without-step m ms os false None h e = ap (λ l. m ∷ l) (h refl)
without-step m ms os false (Some k) h e = cc

pub without_none : (n : List ℕ) (ms : List Macro) → is_some (slot n ms) ≡ false → without n ms ≡ ms
without_none n [] e = refl
without_none n (m ∷ ms) e = without-step m ms (without n ms) (bytes_eq n m.name) (slot n ms) (without_none n ms) e

-- where the definitions so far, and what stays of those that are left, make up what stays of all, one more fits
pub taken-fits : (n : List ℕ) (ts : List Token) (es : List Entry) (i : ℕ) (have : List Macro) → have ++ without n (map (macro_at ts) (drop i es)) ≡ without n (map (macro_at ts) es) → (d : Entry) → i < length es → false ≡ bytes_eq n (macro_at ts (get_or es i d)).name → fit (map (macro_at ts) es) ≡ true → fit (have ++ macro_at ts (get_or es i d) ∷ []) ≡ true
taken-fits n ts es i have inv d h e f =
    let m = macro_at ts (get_or es i d) in
    let rest : List Macro = without n (map (macro_at ts) (drop (i + 1) es)) in
    let all = append_assoc have (m ∷ []) rest ∙ ap (λ b. have ++ cond b rest (m ∷ rest)) e ∙ sym (ap (λ l. have ++ without n (map (macro_at ts) l)) (drop_more es i d h)) ∙ inv in
    fit-front (have ++ m ∷ []) rest (ap fit all ∙ fit-without n (map (macro_at ts) es) f)
