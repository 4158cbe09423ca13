-- A result that goes before W from its last token on. Assumes nothing.
use Rattle.std.proofs.Common.{◌≡◌, ℕ, suc, Bool, true, false, cond, not, eqb, List, [], ◌∷◌, ◌++◌, map, reverse, length, sym, refl, ap, ◌∙◌, append_assoc, arith, length-append}
use Rattle.std.proofs.lemmas.List.{length-map, length-reverse, map-append, reverse-append}
use Rattle.std.proofs.lemmas.Bool.{cond-false, ne_eqb, not-false}
use Rattle.std.proofs.lemmas.Bool.Decides.{nat_tests}
use Rattle.item.proofs.Beside.{bytes-append}
use Rattle.item.specs.declared.hide_set.HideSet.{HideSet}
use Rattle.item.specs.Tagged.{Tagged, bytes, fit}
use Rattle.definition.specs.Definitions.{Macro}
use Rattle.replacement.specs.Items.{Item, over, hiding, marking, marking_first}
use Rattle.replacement.specs.Meaning.{item_of, items_of, hidden}
use Rattle.operators.specs.Placing.{placed_before}
use Rattle.operators.specs.Sets.{with_set, with_sets}
use Rattle.operators.proofs.Sized.{items_length, items_bytes, item_bytes-append}

bytes-reverse : (xs : List (Tagged HideSet)) → bytes (reverse xs) ≡ bytes xs
bytes-reverse [] = refl
bytes-reverse (x ∷ xs) =
    ap bytes (reverse-append (x ∷ []) xs) ∙ bytes-append (reverse xs) (x ∷ []) ∙ omega (arith, bytes-reverse xs)

-- a table that fits is not over
pub fit-over : (ms : List Macro) (xs : List (Tagged HideSet)) → fit xs ≡ not (over (items_of ms (reverse xs)))
fit-over ms xs =
    let n = items_length ms (reverse xs) ∙ length-reverse xs in
    let m = items_bytes ms (reverse xs) ∙ bytes-reverse xs in
    grind (arith, nat_tests)

-- once over, longer lists are over too
over_more : (is js : List Item) → over js ≡ true → over (is ++ js) ≡ true
over_more is js h = grind (arith, nat_tests, length-append is js, item_bytes-append is js)

-- the last token stands right before W
last_before : (m : Bool) (h : List ℕ → Bool) (w is : List Item) (i : Item) → placed_before m h w (is ++ i ∷ []) ≡ placed_before m h (marking (cond (eqb (length is) 0) m i.token.marked) (hiding h i) ∷ w) is
last_before m h w [] i = refl
last_before m h w (j ∷ is) i =
    let own = cond-false (eqb (suc (length is)) 0) m i.token.marked (ne_eqb (suc (length is)) 0 (λ z. omega arith)) in
    ap (λ js. marking m (hiding h j) ∷ (js ++ w)) (map-append (hiding h) is (i ∷ [])) ∙ ap (λ js. marking m (hiding h j) ∷ js) (append_assoc (map (hiding h) is) (hiding h i ∷ []) w) ∙ ap (λ v. marking m (hiding h j) ∷ (map (hiding h) is ++ marking v (hiding h i) ∷ w)) (sym own)

-- one turn: the last of the tokens that are left goes to W
module _ {T : Type 0} (ms : List Macro) (set : T → HideSet) (hides : HideSet) (m : Bool) (xs ys : List (Tagged T)) (x : Tagged T) (e : xs ≡ ys ++ x ∷ []) (k : ℕ) (count : k ≡ length ys) (ws : List (Tagged HideSet)) (n : Tagged HideSet) (made : item_of ms n ≡ marking (cond (eqb k 0) m x.token.marked) (hiding (hidden ms hides) (item_of ms (with_set set x)))) where
  pub turn : placed_before m (hidden ms hides) (items_of ms (reverse (ws ++ n ∷ []))) (items_of ms (with_sets set ys)) ≡ placed_before m (hidden ms hides) (items_of ms (reverse ws)) (items_of ms (with_sets set xs))
  turn =
      let w = items_of ms (reverse ws) in
      let is = items_of ms (with_sets set ys) in
      let long : k ≡ length is = count ∙ sym (items_length ms (with_sets set ys) ∙ length-map ys (with_set set)) in
      let split : items_of ms (with_sets set xs) ≡ is ++ item_of ms (with_set set x) ∷ [] = ap (λ zs. items_of ms (with_sets set zs)) e ∙ ap (items_of ms) (map-append (with_set set) ys (x ∷ [])) ∙ map-append (item_of ms) (with_sets set ys) (with_set set x ∷ []) in
      ap (λ zs. placed_before m (hidden ms hides) (items_of ms zs) is) (reverse-append ws (n ∷ [])) ∙ ap (λ j. placed_before m (hidden ms hides) (j ∷ w) is) (made ∙ ap (λ l. marking (cond (eqb l 0) m x.token.marked) (hiding (hidden ms hides) (item_of ms (with_set set x)))) long) ∙ sym (ap (placed_before m (hidden ms hides) w) split ∙ last_before m (hidden ms hides) w is (item_of ms (with_set set x)))

  pub refused : fit (ws ++ n ∷ []) ≡ false → over (placed_before m (hidden ms hides) (items_of ms (reverse ws)) (items_of ms (with_sets set xs))) ≡ true
  refused h =
      ap over (sym turn) ∙ over_more (marking_first m (map (hiding (hidden ms hides)) (items_of ms (with_sets set ys)))) _ (not-false _ (sym (fit-over ms (ws ++ n ∷ [])) ∙ h))
