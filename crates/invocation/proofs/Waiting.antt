-- Tokens taken away from W, or else from the run. Assumes nothing.
use Rattle.std.proofs.Common.{◌≡◌, ℕ, ◌+◌, ◌-◌, ◌<◌, List, [], ◌∷◌, ◌++◌, reverse, length, take, drop, Some, None, Option, sym, refl, ap, ◌∙◌, arith}
use lib.ListN.{length-reverse}
use Rattle.std.proofs.lemmas.List.{drop-drop, length-drop}
use Rattle.std.specs.List.{slice_get}
use Rattle.item.specs.declared.hide_set.HideSet.{HideSet}
use Rattle.item.specs.Tagged.{Tagged}
use Rattle.invocation.specs.Fronts.{front_of, Dropped}
use Rattle.invocation.proofs.Lists.{drop-reverse}

pub dropped_none : (w run w' run' : List (Tagged HideSet)) → w' ≡ w → run' ≡ run → Dropped 0 w run w' run'
dropped_none w run w' run' e f =
    let none : 0 ≡ 0 - length w = omega arith in
    record { first = e; then = f ∙ ap (λ n. drop n run) none }

-- from a table that holds tokens
pub dropped_waiting : (xs ys run : List (Tagged HideSet)) → 0 < length xs → ys ≡ take (length xs - 1) xs → Dropped 1 (reverse xs) run (reverse ys) run
dropped_waiting xs ys run h e =
    let none : 0 ≡ 1 - length (reverse xs) = omega (arith, length-reverse xs) in
    record { first = ap reverse e ∙ sym (drop-reverse xs); then = ap (λ n. drop n run) none }

-- from the run
pub dropped_run : (w run run' : List (Tagged HideSet)) → w ≡ [] → run' ≡ drop 1 run → Dropped 1 w run w run'
dropped_run w run run' e f =
    let one : 1 ≡ 1 - length w = omega (arith, ap length e) in
    record { first = e ∙ ap (drop 1) (sym e); then = f ∙ ap (λ n. drop n run) one }

-- so many more
pub dropped_more : (k n m : ℕ) (w run w' run' w'' run'' : List (Tagged HideSet)) → k ≡ n + m → Dropped n w run w' run' → Dropped m w' run' w'' run'' → Dropped k w run w'' run''
dropped_more k n m w run w' run' w'' run'' s d e =
    let count : n - length w + (m - length w') ≡ k - length w = omega (arith, ap length d.first, length-drop n w) in
    record {
      first = e.first ∙ ap (drop m) d.first ∙ drop-drop m n w ∙ ap (λ j. drop j w) (sym s);
      then = e.then ∙ ap (drop (m - length w')) d.then ∙ drop-drop _ _ run ∙ ap (λ j. drop j run) count;
    }

-- what is left
pub dropped_left : (w run w' run' : List (Tagged HideSet)) → Dropped 1 w run w' run' → w' ++ run' ≡ drop 1 (w ++ run)
dropped_left [] run w' run' d = (λ i. d.first i ++ d.then i)
dropped_left (x ∷ w) run w' run' d =
    let none : 1 - length (x ∷ w) ≡ 0 = omega arith in
    (λ i. d.first i ++ (d.then ∙ ap (λ n. drop n run) none) i)

-- from where nothing is left
pub dropped_end : (w run run' : List (Tagged HideSet)) → w ≡ [] → run ≡ [] → run' ≡ run → Dropped 1 w run w run'
dropped_end w run run' e f h = dropped_run w run run' e (h ∙ f ∙ ap (drop 1) (sym f))

-- the first of W, where it holds a token, and else what the run has at hand
pub front_waiting : (w : List (Tagged HideSet)) (x : Tagged HideSet) (hand : Option (Tagged HideSet)) → Some x ≡ slice_get w 0 → Some x ≡ front_of w hand
front_waiting [] x hand e = cc
front_waiting (y ∷ w) x hand e = e

pub front_at_hand : (w : List (Tagged HideSet)) (hand : Option (Tagged HideSet)) → None ≡ slice_get w 0 → hand ≡ front_of w hand
front_at_hand [] hand e = refl
front_at_hand (y ∷ w) hand e = cc
