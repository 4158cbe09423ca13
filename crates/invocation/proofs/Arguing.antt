-- The arguments by the number of parameters. Assumes nothing.
use Rattle.std.proofs.Common.{◌≡◌, ℕ, zero, suc, ◌-◌, Bool, cond, eqb, List, [], ◌∷◌, map, length, get_or, Some, None, sym, refl, ap, ◌∙◌, arith}
use lib.ListN.{length-map}
use Rattle.std.specs.List.{slice_get}
use Rattle.std.proofs.lemmas.Bool.{cond-true, cond-false, eq-eqb, ne_eqb}
use Rattle.item.specs.declared.hide_set.HideSet.{HideSet}
use Rattle.item.specs.Tagged.{Tagged}
use Rattle.definition.specs.Definitions.{Macro, member, variable}
use Rattle.replacement.specs.Meaning.{item_of, items_of}
use Rattle.replacement.specs.Replacing.{arguments, is_nil, operand_of, parted}
use Rattle.text.specs.declared.Extent.{Extent}
use Rattle.invocation.specs.Calls.{part_of}

-- an argument by its index, and no tokens past the last
pub argument : (ms : List Macro) (xs : List (Tagged HideSet)) (es : List Extent) (index : ℕ) → part_of ms xs (get_or es index (record { start = 0; len = 0 })) ≡ operand_of (slice_get (map (part_of ms xs) es) index)
argument ms xs [] index = refl
argument ms xs (e ∷ es) zero = refl
argument ms xs (e ∷ es) (suc index) = argument ms xs es index

is_nil_lem : (ms : List Macro) (xs : List (Tagged HideSet)) (n : ℕ) → n ≡ length xs → is_nil (items_of ms xs) ≡ eqb n 0
is_nil_lem ms [] n e = sym (eq-eqb n 0 e)
is_nil_lem ms (x ∷ xs) n e = sym (ne_eqb n 0 (λ z. omega arith))

module _ (ms : List Macro) (ps : List (List ℕ)) (xs : List (Tagged HideSet)) (spans : List Extent) (n : ℕ) (size : n ≡ length xs) where
  pub no_parameters : length ps ≡ 0 → spans ≡ [] → arguments ps (items_of ms xs) ≡ cond (eqb n 0) (Some (map (part_of ms xs) spans)) None
  no_parameters e none =
      cond-true (eqb (length ps) 0) _ _ (eq-eqb _ 0 e) ∙ (λ j. cond (is_nil_lem ms xs n size j) (Some (map (part_of ms xs) (sym none j))) None)

  pub some_parameters : (count : ℕ) (varies : Bool) (most k : ℕ) → length ps ≡ count → (count ≡ 0 → ⊥) → member variable ps ≡ varies → most ≡ cond varies (count - 1) n → k ≡ length spans → map (part_of ms xs) spans ≡ parted most 0 (items_of ms xs) → arguments ps (items_of ms xs) ≡ cond (eqb k count) (Some (map (part_of ms xs) spans)) None
  some_parameters count varies most k e some v m l p =
      let most_is : cond (member variable ps) (length ps - 1) (length (items_of ms xs)) ≡ most = (λ j. cond (v j) (e j - 1) ((length-map xs (item_of ms) ∙ sym size) j)) ∙ sym m in
      let parts = ap (λ x. parted x 0 (items_of ms xs)) most_is ∙ sym p in
      cond-false (eqb (length ps) 0) _ _ (ne_eqb _ 0 (λ z. some (sym e ∙ z))) ∙ ap (λ args. cond (eqb (length args) (length ps)) (Some args) None) parts ∙ (λ j. cond (eqb ((length-map spans (part_of ms xs) ∙ sym l) j) (e j)) (Some (map (part_of ms xs) spans)) None)
