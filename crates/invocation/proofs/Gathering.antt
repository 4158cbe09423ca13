-- Gathering up to the matching parenthesis, one token on. Assumes nothing.
use Rattle.std.proofs.Common.{◌≡◌, ℕ, zero, suc, ◌+◌, ◌-◌, ◌<◌, ◌≤◌, Bool, true, false, cond, ◌&&◌, ◌||◌, ltb, leb, List, [], ◌∷◌, ◌++◌, length, take, drop, Some, None, Ok, Err, Result, codes, sym, refl, ap, ◌∙◌, subst, append_assoc, append-nil, add_assoc, zero-add, arith, length-append}
use mathlib.Core.List.{map-append}
use lib.ListN.{length-map}
use Rattle.std.specs.List.{slice_get}
use Rattle.std.specs.Option.{option_map}
use Rattle.std.specs.Str.{bytes_eq}
use Rattle.std.proofs.lemmas.Slice.Eq.{bytes_eq-Decides}
use Rattle.std.proofs.lemmas.Bool.{cond-false, ne_eqb, true≢false}
use Rattle.std.proofs.lemmas.Bool.Decides.{nat_tests}
use Rattle.item.specs.declared.hide_set.HideSet.{HideSet}
use Rattle.item.specs.Tagged.{Tagged, bytes, fit}
use Rattle.definition.specs.Definitions.{Macro}
use Rattle.replacement.specs.Items as items
use Rattle.replacement.specs.Items.{Item, over}
use Rattle.replacement.specs.Meaning.{item_of, items_of}
use Rattle.replacement.specs.Replacing.{Gathered, and_inside, gathered, opens, closes}
use Rattle.invocation.specs.declared.bracket.Bracket.TheVariants.{Opens, Closes, Inner}
use Rattle.invocation.specs.declared.bracket.GatherError.{GatherError}
use Rattle.invocation.specs.declared.bracket.GatherError.TheVariants.{Open, Full}
use Rattle.invocation.specs.Calls.{Gathering, end_before}
use Rattle.invocation.specs.Fronts.{bracket, bracket_of, depth_behind}

-- tokens before what is gathered
abbrev pub onto : List Item → Gathered → Gathered
onto is g = record { inside = is ++ g.inside; close = g.close }

-- what is gathered so far, and from what is left with so many parentheses open, is what is gathered of all
abbrev pub Continues : List (Tagged HideSet) → List (Tagged HideSet) → ℕ → List (Tagged HideSet) → Type 0
Continues all within depth xs = (ms : List Macro) → gathered 0 (items_of ms all) ≡ onto (items_of ms within) (gathered depth (items_of ms xs))

-- a token is not both parentheses
one-bracket : (w : List ℕ) → bytes_eq w (codes "(") ≡ true → bytes_eq w (codes ")") ≡ false
one-bracket w e = ap (λ v. bytes_eq v (codes ")")) ((bytes_eq-Decides w (codes "(")).0 e)

-- what a turn does by the answers to both tests
abbrev chosen : Bool → Bool → ℕ → Item → List Item → Gathered
chosen a b depth i is =
    elim b [
      | true ↦ elim depth [ zero ↦ record { inside = []; close = Some i } | suc d ↦ and_inside i (gathered d is) ]
      | false ↦ and_inside i (gathered (cond a (suc depth) depth) is)
    ]

-- the end before a token is a closing parenthesis with none open
ended_closes : (a b : Bool) (t : HideSet) (depth : ℕ) (r : Result HideSet GatherError) → Some r ≡ end_before depth (cond a Opens (cond b (Closes t) Inner)) → (b ≡ true) × (depth ≡ 0) × (r ≡ Ok t)
ended_closes true b t depth r e = let z : ◌≡◌ {A = ℕ} 0 1 = cc in absurd (omega arith)
ended_closes false true t zero r e = (refl, refl, cc)
ended_closes false true t (suc d) r e =
    let no : Some r ≡ None = e ∙ cond-false _ (Some (Ok t)) None (ne_eqb (suc d) 0 (λ z. omega arith)) in
    let z : ◌≡◌ {A = ℕ} 0 1 = cc in
    absurd (omega arith)
ended_closes false false t depth r e = let z : ◌≡◌ {A = ℕ} 0 1 = cc in absurd (omega arith)

more_chosen : (a b : Bool) (t : HideSet) (depth : ℕ) (i : Item) (is : List Item) → (a ≡ true → b ≡ false) → None ≡ end_before depth (cond a Opens (cond b (Closes t) Inner)) → chosen a b depth i is ≡ and_inside i (gathered (depth_behind depth (cond a Opens (cond b (Closes t) Inner))) is)
more_chosen true true t depth i is one e = absurd (true≢false (one refl))
more_chosen true false t depth i is one e = refl
more_chosen false true t zero i is one e = let z : ◌≡◌ {A = ℕ} 0 1 = cc in absurd (omega arith)
more_chosen false true t (suc d) i is one e = let less : d ≡ suc d - 1 = omega arith in ap (λ n. and_inside i (gathered n is)) less
more_chosen false false t depth i is one e = refl

module _ (all within : List (Tagged HideSet)) (depth : ℕ) where
  pub gathering_ended : (xs : List (Tagged HideSet)) (r : Result HideSet GatherError) → Continues all within depth xs → Some r ≡ end_before depth (bracket (slice_get xs 0)) → (ms : List Macro) → Gathering ms all r within
  gathering_ended [] r h e ms =
      let P : Result HideSet GatherError → Type 0 = λ s. Gathering ms all s within in
      let is : Err Open ≡ r = cc in
      subst P is (ap (λ g. g.inside) (h ms) ∙ append-nil _, ap (λ g. g.close) (h ms))
  gathering_ended (x ∷ xs) r h e ms =
      let P : Result HideSet GatherError → Type 0 = λ s. Gathering ms all s within in
      let i = item_of ms x in
      let at = ended_closes (opens i) (closes i) x.tag depth r e in
      let is = h ms ∙ (λ j. onto (items_of ms within) (chosen (opens i) (at.0 j) (at.1 j) i (items_of ms xs))) in
      subst P (sym at.2) (ap (λ g. g.inside) is ∙ append-nil _, ap (λ g. option_map (λ k. k.hides) g.close) is)

  pub continues_more : (xs : List (Tagged HideSet)) → Continues all within depth xs → None ≡ end_before depth (bracket (slice_get xs 0)) → Continues all (within ++ take 1 xs) (depth_behind depth (bracket (slice_get xs 0))) (drop 1 xs)
  continues_more [] h e ms = let z : ◌≡◌ {A = ℕ} 0 1 = cc in absurd (omega arith)
  continues_more (x ∷ xs) h e ms =
      let i = item_of ms x in
      let g = gathered (depth_behind depth (bracket_of x)) (items_of ms xs) in
      h ms ∙ ap (onto (items_of ms within)) (more_chosen (opens i) (closes i) x.tag depth i (items_of ms xs) (one-bracket x.token.spelling) e) ∙ ap (λ is. record { inside = is; close = g.close }) (sym (ap (λ is. is ++ g.inside) (map-append (item_of ms) within (x ∷ [])) ∙ append_assoc (items_of ms within) (i ∷ []) g.inside))

-- bytes and tokens behind others only add to them
bytes_items : (ms : List Macro) (xs : List (Tagged HideSet)) (more : List Item) → items.bytes (items_of ms xs ++ more) ≡ bytes xs + items.bytes more
bytes_items ms [] more = sym (zero-add (items.bytes more))
bytes_items ms (x ∷ xs) more = ap (λ n. length x.token.spelling + n) (bytes_items ms xs more) ∙ sym (add_assoc _ (bytes xs) (items.bytes more))

not_fit : (n m b c : ℕ) → n ≤ m → b ≤ c → false ≡ (leb n 1024 && leb b 16384) → (ltb 1024 m || ltb 16384 c) ≡ true
not_fit n m b c h k e = grind (arith, nat_tests)

over_more : (ms : List Macro) (xs : List (Tagged HideSet)) (more : List Item) → false ≡ fit xs → over (items_of ms xs ++ more) ≡ true
over_more ms xs more e =
    let tokens : length xs ≤ length (items_of ms xs ++ more) = omega (arith, length-append (items_of ms xs) more, length-map xs (item_of ms)) in
    let size : bytes xs ≤ items.bytes (items_of ms xs ++ more) = omega (arith, bytes_items ms xs more) in
    not_fit (length xs) _ (bytes xs) _ tokens size e

pub gathering_full : (all within xs : List (Tagged HideSet)) (depth : ℕ) → Continues all within depth xs → None ≡ end_before depth (bracket (slice_get xs 0)) → false ≡ fit (within ++ take 1 xs) → (ms : List Macro) → Gathering ms all (Err Full) within
gathering_full all within xs depth h e f ms =
    ap (λ g. over g.inside) (continues_more all within depth xs h e ms) ∙ over_more ms (within ++ take 1 xs) _ f

pub some_left : (depth : ℕ) (xs : List (Tagged HideSet)) → None ≡ end_before depth (bracket (slice_get xs 0)) → 0 < length xs
some_left depth [] e = let z : ◌≡◌ {A = ℕ} 0 1 = cc in absurd (omega arith)
some_left depth (x ∷ xs) e = omega arith
