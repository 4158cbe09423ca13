-- Arguments parted at commas, one token on. Assumes nothing.
use Rattle.std.proofs.Common.{◌≡◌, ℕ, suc, ◌+◌, ◌-◌, ◌≤◌, Bool, true, false, cond, ◌&&◌, eqb, leb, List, [], ◌∷◌, ◌++◌, map, length, take, drop, Some, codes, sym, refl, ap, ◌∙◌, append_assoc, append-nil, arith}
use Rattle.std.specs.List.{slice_get}
use Rattle.std.proofs.lemmas.List.{map_push, drop_all}
use Rattle.std.proofs.lemmas.Bool.Decides.{nat_tests}
use Rattle.item.specs.declared.hide_set.HideSet.{HideSet}
use Rattle.item.specs.Tagged.{Tagged}
use Rattle.definition.specs.Definitions.{Macro, spells}
use Rattle.replacement.specs.Items.{Item}
use Rattle.replacement.specs.Meaning.{item_of, items_of}
use Rattle.replacement.specs.Replacing.{opens, closes, onto_first, parted}
use Rattle.invocation.specs.declared.bracket.Bracket.TheVariants.{Opens, Closes, Inner}
use Rattle.text.specs.declared.Extent.{Extent}
use Rattle.invocation.specs.Calls.{part_of}
use Rattle.invocation.specs.Fronts.{bracket_of, depth_behind}
use Rattle.invocation.proofs.Lists.{drop_nth, take_nth, nth_drop}

-- tokens before the first argument
abbrev onto_all : List Item → List (List Item) → List (List Item)
onto_all [] args = args
onto_all (i ∷ is) args = onto_first i (onto_all is args)

onto_first_lem : (is a : List Item) (args : List (List Item)) → onto_all is (a ∷ args) ≡ (is ++ a) ∷ args
onto_first_lem [] a args = refl
onto_first_lem (i ∷ is) a args = ap (onto_first i) (onto_first_lem is a args)

onto-push : (is : List Item) (i : Item) (args : List (List Item)) → onto_all is (onto_first i args) ≡ onto_all (is ++ i ∷ []) args
onto-push [] i args = refl
onto-push (j ∷ is) i args = ap (onto_first j) (onto-push is i args)

-- the parts so far, the tokens from the start of the open one, and what is left are the parts of all
abbrev pub Parts : List (Tagged HideSet) → ℕ → List Extent → ℕ → ℕ → ℕ → ℕ → Type 0
Parts xs most spans start left depth at =
    (ms : List Macro) → map (part_of ms xs) spans ++ onto_all (items_of ms (take (at - start) (drop start xs))) (parted left depth (items_of ms (drop at xs))) ≡ parted most 0 (items_of ms xs)

-- before the first token nothing is parted
pub parts_first : (xs : List (Tagged HideSet)) (most at : ℕ) (spans : List Extent) → spans ≡ [] → at ≡ 0 → Parts xs most spans 0 most 0 at
parts_first xs most at spans e f ms =
    (λ j. map (part_of ms xs) (e j) ++ onto_all (items_of ms (take (f j - 0) (drop 0 xs))) (parted most 0 (items_of ms (drop (f j) xs))))

-- the same by other names
pub parts_same : (xs : List (Tagged HideSet)) (most : ℕ) (spans : List Extent) (start start' left depth depth' at at' : ℕ) → start' ≡ start → depth' ≡ depth → at' ≡ at → Parts xs most spans start left depth at → Parts xs most spans start' left depth' at'
parts_same xs most spans start start' left depth depth' at at' e f g h ms =
    (λ j. map (part_of ms xs) spans ++ onto_all (items_of ms (take (g j - e j) (drop (e j) xs))) (parted left (f j) (items_of ms (drop (g j) xs)))) ∙ h ms

-- what a turn does by the answers to the tests
abbrev chosen : Bool → ℕ → ℕ → Item → List Item → List (List Item)
chosen c left depth i is =
    elim c [ true ↦ [] ∷ parted (left - 1) 0 is | false ↦ onto_first i (parted left (cond (opens i) (suc depth) (cond (closes i) (depth - 1) depth)) is) ]

depth_is : (a b : Bool) (h : HideSet) (depth : ℕ) → cond a (suc depth) (cond b (depth - 1) depth) ≡ depth_behind depth (cond a Opens (cond b (Closes h) Inner))
depth_is true b h depth = refl
depth_is false true h depth = refl
depth_is false false h depth = refl

-- one more span ends the open part
span_push : (ms : List Macro) (xs : List (Tagged HideSet)) (spans : List Extent) (start at : ℕ) (args : List (List Item)) → map (part_of ms xs) (spans ++ record { start = start; len = at - start } ∷ []) ++ args ≡ map (part_of ms xs) spans ++ onto_all (items_of ms (take (at - start) (drop start xs))) ([] ∷ args)
span_push ms xs spans start at args =
    let part = items_of ms (take (at - start) (drop start xs)) in
    ap (λ ps. ps ++ args) (map_push (part_of ms xs) spans _) ∙ append_assoc (map (part_of ms xs) spans) _ args ∙ ap (λ a. map (part_of ms xs) spans ++ a ∷ args) (sym (append-nil part)) ∙ ap (λ ps. map (part_of ms xs) spans ++ ps) (sym (onto_first_lem part [] args))

outside : (b : Bool) (depth left : ℕ) → true ≡ (b && eqb depth 0 && leb 1 left) → depth ≡ 0
outside b depth left e = grind (arith, nat_tests)

module _ (xs : List (Tagged HideSet)) (most : ℕ) (spans spans' : List Extent) (start left depth at : ℕ) where
  from_here : (x : Tagged HideSet) → Some x ≡ slice_get xs at → x ∷ drop (at + 1) xs ≡ drop at xs
  from_here x n = let one : at + 1 ≡ suc at = omega arith in ap (λ k. x ∷ drop k xs) one ∙ sym (drop_nth xs at x n)

  pub parts_comma : (x : Tagged HideSet) → Some x ≡ slice_get xs at → true ≡ (spells x.token (codes ",") && eqb depth 0 && leb 1 left) → spans' ≡ spans ++ record { start = start; len = at - start } ∷ [] → Parts xs most spans start left depth at → Parts xs most spans' (at + 1) (left - 1) depth (at + 1)
  parts_comma x n t e h ms =
      let none : at + 1 - (at + 1) ≡ 0 = omega arith in
      let part = items_of ms (take (at - start) (drop start xs)) in
      let rest = items_of ms (drop (at + 1) xs) in
      let here = ap (λ c. chosen c left depth (item_of ms x) rest) t ∙ ap (λ ys. parted left depth (items_of ms ys)) (from_here x n) in
      ap (λ k. map (part_of ms xs) spans' ++ onto_all (items_of ms (take k (drop (at + 1) xs))) (parted (left - 1) depth rest)) none ∙ (λ j. map (part_of ms xs) (e j) ++ parted (left - 1) (outside (spells x.token (codes ",")) depth left t j) rest) ∙ span_push ms xs spans start at (parted (left - 1) 0 rest) ∙ ap (λ ps. map (part_of ms xs) spans ++ onto_all part ps) here ∙ h ms

  pub parts_more : (x : Tagged HideSet) → Some x ≡ slice_get xs at → false ≡ (spells x.token (codes ",") && eqb depth 0 && leb 1 left) → start ≤ at → Parts xs most spans start left depth at → Parts xs most spans start left (depth_behind depth (bracket_of x)) (at + 1)
  parts_more x n t le h ms =
      let one : at + 1 - start ≡ suc (at - start) = omega arith in
      let i = item_of ms x in
      let part = take (at - start) (drop start xs) in
      let rest = items_of ms (drop (at + 1) xs) in
      let behind = parted left (depth_behind depth (bracket_of x)) rest in
      let more = ap (λ k. items_of ms (take k (drop start xs))) one ∙ ap (items_of ms) (take_nth (drop start xs) (at - start) x (n ∙ sym (nth_drop xs start at le))) ∙ map_push (item_of ms) part x in
      let here = ap (λ d. onto_first i (parted left d rest)) (sym (depth_is (opens i) (closes i) x.tag depth)) ∙ ap (λ c. chosen c left depth i rest) t ∙ ap (λ ys. parted left depth (items_of ms ys)) (from_here x n) in
      ap (λ ys. map (part_of ms xs) spans ++ onto_all ys behind) more ∙ ap (λ ps. map (part_of ms xs) spans ++ ps) (sym (onto-push (items_of ms part) i behind) ∙ ap (onto_all (items_of ms part)) here) ∙ h ms

  pub parts_end : length xs ≤ at → spans' ≡ spans ++ record { start = start; len = at - start } ∷ [] → Parts xs most spans start left depth at → (ms : List Macro) → map (part_of ms xs) spans' ≡ parted most 0 (items_of ms xs)
  parts_end le e h ms =
      let part = items_of ms (take (at - start) (drop start xs)) in
      ap (map (part_of ms xs)) e ∙ sym (append-nil _) ∙ span_push ms xs spans start at [] ∙ ap (λ ys. map (part_of ms xs) spans ++ onto_all part (parted left depth (items_of ms ys))) (sym (drop_all at xs le)) ∙ h ms
