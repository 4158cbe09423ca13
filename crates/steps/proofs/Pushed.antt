-- Tokens at the end of a table. Assumes nothing.
use Rattle.std.proofs.Common.{◌≡◌, ℕ, ◌+◌, Bool, true, false, cond, not, ◌&&◌, ◌||◌, ltb, leb, List, [], ◌∷◌, ◌++◌, length, take, Some, None, Option, sym, refl, ap, ◌∙◌, subst, append-nil, arith}
use mathlib.Core.List.{map-append}
use lib.ListN.{length-map}
use Rattle.std.specs.List.{slice_get}
use Rattle.std.proofs.lemmas.Bool.Decides.{nat_tests}
use Rattle.token.specs.declared.Kind.{Kind}
use Rattle.token.specs.declared.Kind.TheVariants.{Identifier}
use Rattle.item.specs.declared.hide_set.HideSet.{HideSet}
use Rattle.item.specs.declared.table.TagTable.{TagTable}
use Rattle.item.specs.Tables.{held}
use Rattle.item.specs.Tagged.{Tagged, bytes, fit}
use Rattle.definition.specs.Definitions.{Macro}
use Rattle.replacement.specs.Items as items
use Rattle.replacement.specs.Items.{Item, over}
use Rattle.replacement.specs.Meaning.{item_of, items_of}
use Rattle.invocation.specs.Fronts.{Dropped}
use Rattle.invocation.proofs.Held.{fits}
use Rattle.invocation.proofs.Waiting.{dropped_none}
use Rattle.steps.specs.declared.class.BuiltIn.{BuiltIn as BuiltInName}
use Rattle.item.specs.declared.Name.{Name as NameAt}
use Rattle.steps.specs.declared.prepared.Handed.{Handed}
use Rattle.steps.specs.declared.prepared.Handed.TheVariants.{Front, Name, BuiltIn}
use Rattle.steps.specs.Handing.{built_in_kind, built_in_spelling, placed_at, in_place, named_items, handed_items, taken, Onto}

module _ (ms : List Macro) where
  bytes_items : (xs : List (Tagged HideSet)) → bytes xs ≡ items.bytes (items_of ms xs)
  bytes_items [] = refl
  bytes_items (x ∷ xs) = ap (λ n. length x.token.spelling + n) (bytes_items xs)

  not_over : (n b : ℕ) → (leb n 1024 && leb b 16384) ≡ not (ltb 1024 n || ltb 16384 b)
  not_over n b = grind (arith, nat_tests)

  fit-over : (xs : List (Tagged HideSet)) → fit xs ≡ not (over (items_of ms xs))
  fit-over xs =
      not_over (length xs) (bytes xs) ∙ (λ j. not (ltb 1024 (sym (length-map xs (item_of ms)) j) || ltb 16384 (bytes_items xs j)))

  moved_by : (r : Bool) (xs ys zs : List (Tagged HideSet)) → ys ≡ cond r (xs ++ zs) xs → items_of ms ys ≡ items_of ms xs ++ cond r (items_of ms zs) []
  moved_by true xs ys zs e = ap (items_of ms) e ∙ map-append (item_of ms) xs zs
  moved_by false xs ys zs e = ap (items_of ms) e ∙ sym (append-nil (items_of ms xs))

  -- as a table takes them
  onto : (xs ys zs : List (Tagged HideSet)) (r : Bool) → r ≡ fit (xs ++ zs) → ys ≡ cond r (xs ++ zs) xs → Onto ms xs ys (items_of ms zs) r
  onto xs ys zs r e f =
      record { room = e ∙ fit-over (xs ++ zs) ∙ ap (λ is. not (over is)) (map-append (item_of ms) xs zs); moved = moved_by r xs ys zs f }

  onto_none : (t : TagTable HideSet) → Onto ms (held t) (held t) [] true
  onto_none t =
      let none = sym (append-nil (items_of ms (held t))) in
      record { room = sym (fits t) ∙ fit-over (held t) ∙ ap (λ is. not (over is)) none; moved = none }

  -- a token in the place of a name
  pub onto-placed : (xs ys : List (Tagged HideSet)) (n : NameAt) (k : Kind) (bs : List ℕ) (x : Tagged HideSet) (r : Bool) → x ≡ placed_at n k bs → r ≡ fit (xs ++ x ∷ []) → ys ≡ cond r (xs ++ x ∷ []) xs → Onto ms xs ys (in_place ms n k bs ∷ []) r
  onto-placed xs ys n k bs x r s e f =
      let P : Tagged HideSet → Type 0 = λ y. Onto ms xs ys (item_of ms y ∷ []) r in
      subst P s (onto xs ys (x ∷ []) r e f)

  -- by the definition in a slot
  abbrev named_by : NameAt → Option Macro → List Item
  named_by n None = []
  named_by n (Some m) = in_place ms n Identifier m.name ∷ []

  pub onto_named : (xs ys : List (Tagged HideSet)) (k : ℕ) (n : NameAt) (m : Macro) (r : Bool) → Some m ≡ slice_get ms k → Onto ms xs ys (in_place ms n Identifier m.name ∷ []) r → Onto ms xs ys (named_items ms k n) r
  onto_named xs ys k n m r e o = let P : Option Macro → Type 0 = λ s. Onto ms xs ys (named_by n s) r in subst P e o

  pub onto_unnamed : (t : TagTable HideSet) (k : ℕ) (n : NameAt) → None ≡ slice_get ms k → Onto ms (held t) (held t) (named_items ms k n) true
  onto_unnamed t k n e = let P : Option Macro → Type 0 = λ s. Onto ms (held t) (held t) (named_by n s) true in subst P e (onto_none t)

  -- what is handed on
  module _ (file : List ℕ) (xs ys w run w' run' : List (Tagged HideSet)) (r : Bool) where
    abbrev pub HandedOn : Handed → Type 0
    HandedOn h = Onto ms xs ys (handed_items ms file (w ++ run) h) r × (r ≡ true → Dropped (taken h) w run w' run')

    dropped_true : (b : Bool) → Dropped (cond b 1 0) w run w' run' → b ≡ true → Dropped 1 w run w' run'
    dropped_true true d e = d
    dropped_true false d e = let z : ◌≡◌ {A = ℕ} 0 1 = cc in absurd (omega arith)

    pub handed_front : (h : Handed) → h ≡ Front → r ≡ fit (xs ++ take 1 (w ++ run)) → ys ≡ cond r (xs ++ take 1 (w ++ run)) xs → Dropped (cond r 1 0) w run w' run' → HandedOn h
    handed_front h e room moved d = subst HandedOn (sym e) (onto xs ys (take 1 (w ++ run)) r room moved, dropped_true r d)

    pub handed_name : (h : Handed) (k : ℕ) (n : NameAt) → h ≡ Name k n → Onto ms xs ys (named_items ms k n) r → w' ≡ w → run' ≡ run → HandedOn h
    handed_name h k n e o f g = subst HandedOn (sym e) (o, λ _. dropped_none w run w' run' f g)

    pub handed_built_in : (h : Handed) (b : BuiltInName) (n : NameAt) → h ≡ BuiltIn b n → Onto ms xs ys (in_place ms n (built_in_kind b) (built_in_spelling file n.line b) ∷ []) r → w' ≡ w → run' ≡ run → HandedOn h
    handed_built_in h b n e o f g = subst HandedOn (sym e) (o, λ _. dropped_none w run w' run' f g)
