-- Sets of names as sets of slots. Assumes nothing.
use Rattle.std.proofs.Common.{◌≡◌, ℕ, suc, ◌<◌, Bool, true, false, cond, ◌&&◌, ◌||◌, eqb, ltb, List, [], ◌∷◌, Some, None, Option, sym, refl, ap, ◌∙◌}
use mathlib.Core.Path.{fun_ext}
use Rattle.std.specs.List.{slice_get}
use Rattle.std.specs.Option.{option_map}
use Rattle.std.specs.Str.{bytes_eq}
use Rattle.std.proofs.lemmas.Slice.Eq.{bytes_eq-Decides}
use Rattle.std.proofs.lemmas.Bool.{eq-eqb, ne_eqb, lt-ltb, true≢false}
use Rattle.item.specs.declared.hide_set.HideSet.{HideSet}
use Rattle.item.specs.Sets.{in_set}
use Rattle.definition.specs.Definitions.{Macro}
use Rattle.definitions.specs.InForce.{slot}
use Rattle.replacement.specs.Items.{with, shared}
use Rattle.replacement.specs.Meaning.{hidden}

-- a name is that of the definition in its slot
pub slot-name : (n : List ℕ) (ms : List Macro) (k : ℕ) (m : Macro) → slot n ms ≡ Some k → slice_get ms k ≡ Some m → n ≡ m.name
slot-name n [] k m e f = cc
slot-name n (p ∷ ms) k m e f = first (bytes_eq n p.name) (slot n ms) refl (λ j r. slot-name n ms j m r) e
  where
    first : (b : Bool) (o : Option ℕ) → bytes_eq n p.name ≡ b → ((j : ℕ) → o ≡ Some j → slice_get ms j ≡ Some m → n ≡ m.name) → cond b (Some 0) (option_map suc o) ≡ Some k → n ≡ m.name
    first true o q r h =
        let zeroth : k ≡ 0 = cc in
        let is : Some p ≡ Some m = ap (slice_get (p ∷ ms)) (sym zeroth) ∙ f in
        let same : p ≡ m = cc in
        (bytes_eq-Decides n p.name).0 q ∙ ap (λ d. d.name) same
    first false None q r h = cc
    first false (Some j) q r h = let later : k ≡ suc j = cc in r j refl (ap (slice_get (p ∷ ms)) (sym later) ∙ f)

-- the sets of a name and of a slot, by the slot of a name
abbrev in_slot : HideSet → Option ℕ → Bool
in_slot h o = elim o [ None ↦ false | Some k ↦ in_set h k ]

module _ (ms : List Macro) (n : List ℕ) (k : ℕ) (m : Macro) (s : slot n ms ≡ Some k) (d : slice_get ms k ≡ Some m) (h h' : HideSet) (more : (j : ℕ) → in_set h' j ≡ ((eqb j k && ltb k 256) || in_set h j)) where
  with_at : k < 256 → (v : List ℕ) (o : Option ℕ) (b : Bool) → slot v ms ≡ o → bytes_eq v n ≡ b → (b || in_slot h o) ≡ in_slot h' o
  with_at lt v None true p q =
      let none : Some k ≡ None = sym s ∙ ap (λ u. slot u ms) (sym ((bytes_eq-Decides v n).0 q)) ∙ p in
      cc
  with_at lt v None false p q = refl
  with_at lt v (Some j) true p q =
      let some : Some j ≡ Some k = sym p ∙ ap (λ u. slot u ms) ((bytes_eq-Decides v n).0 q) ∙ s in
      let same : j ≡ k = cc in
      sym (more j ∙ (λ i. (eq-eqb j k same i && lt-ltb k 256 lt i) || in_set h j))
  with_at lt v (Some j) false p q =
      let other : j ≡ k → ⊥ = λ same. true≢false (sym ((bytes_eq-Decides v n).1 (slot-name v ms k m (p ∙ ap Some same) d ∙ sym (slot-name n ms k m s d))) ∙ q) in
      sym (more j ∙ ap (λ b. (b && ltb k 256) || in_set h j) (ne_eqb j k other))

  pub with_hidden : k < 256 → with (hidden ms h) n ≡ hidden ms h'
  with_hidden lt = fun_ext (λ v. with_at lt v (slot v ms) (bytes_eq v n) refl refl)

pub shared-hidden : (ms : List Macro) (a b c : HideSet) → ((j : ℕ) → in_set c j ≡ (in_set a j && in_set b j)) → shared (hidden ms a) (hidden ms b) ≡ hidden ms c
shared-hidden ms a b c f = fun_ext (λ v. at (slot v ms))
  where
    at : (o : Option ℕ) → (in_slot a o && in_slot b o) ≡ in_slot c o
    at None = refl
    at (Some j) = sym (f j)
