-- Two operands joined at the end of a table. Assumes nothing.
use Rattle.std.proofs.Common.{◌≡◌, ℕ, ◌+◌, ◌-◌, Bool, true, false, cond, List, [], ◌∷◌, ◌++◌, length, take, is_some, Some, None, Option, sym, refl, ap, ◌∙◌, append-nil, arith, length-append}
use Rattle.std.specs.List.{slice_get}
use Rattle.std.specs.Option.{option_map}
use Rattle.std.proofs.lemmas.Bool.{false≢true}
use Rattle.std.proofs.lemmas.List.{map-append, take-map}
use Rattle.std.proofs.lemmas.Option.{slice_get-map, slice_get_within}
use Rattle.item.proofs.Beside.{bytes-append, split_last}
use Rattle.item.specs.declared.hide_set.HideSet.{HideSet}
use Rattle.item.specs.Tagged.{Tagged, bytes, fit}
use Rattle.token.specs.declared.Kind.{Kind}
use Rattle.lexer.specs.Cutting.{one_token}
use Rattle.definition.specs.Definitions.{Macro}
use Rattle.replacement.specs.Items.{shared}
use Rattle.replacement.specs.Joining.{joined_token, settled}
use Rattle.replacement.specs.Meaning.{item_of, items_of, hidden}
use Rattle.operators.specs.Ends.{last_of, before, joined_to, joined_end}
use Rattle.operators.proofs.Ended.{before-push, whole_list}
use Rattle.operators.proofs.Sized.{items_length, fit_within, limits}

-- the last of tagged tokens, where it is an operand
abbrev pub last_tagged : Bool → List (Tagged HideSet) → Option (Tagged HideSet)
last_tagged o xs = cond o (slice_get xs (length xs - 1)) None

operand_read : (o : Bool) (xs : List (Tagged HideSet)) (a : Tagged HideSet) → last_tagged o xs ≡ Some a → slice_get xs (length xs - 1) ≡ Some a
operand_read true xs a e = e
operand_read false xs a e = absurd (cc)

last_item : (ms : List Macro) (o : Bool) (xs : List (Tagged HideSet)) → last_of o (items_of ms xs) ≡ option_map (item_of ms) (last_tagged o xs)
last_item ms true xs =
    ap (λ n. slice_get (items_of ms xs) (n - 1)) (items_length ms xs) ∙ slice_get-map (item_of ms) xs (length xs - 1)
last_item ms false xs = refl

module _ (ms : List Macro) (line : ℕ) (o : Bool) (xs : List (Tagged HideSet)) (b : Tagged HideSet) where
  -- a token goes behind a list with no operand
  pub put_behind : last_tagged o xs ≡ None → Some (items_of ms (xs ++ b ∷ [])) ≡ joined_end line o (items_of ms xs) (item_of ms b)
  put_behind e =
      let none = last_item ms o xs ∙ ap (option_map (item_of ms)) e in
      let all = sym (append-nil (before o (items_of ms xs))) ∙ ap (λ a. before o (items_of ms xs) ++ settled a) (sym none) ∙ whole_list o (items_of ms xs) in
      ap Some (map-append (item_of ms) xs (b ∷ []) ∙ ap (λ is. is ++ item_of ms b ∷ []) (sym all)) ∙ ap (λ a. option_map (λ i. before o (items_of ms xs) ++ i ∷ []) (joined_to line a (item_of ms b))) (sym none)

  -- the last token and another
  module _ (a : Tagged HideSet) (last : last_tagged o xs ≡ Some a) where
    some : last_of o (items_of ms xs) ≡ Some (item_of ms a)
    some = last_item ms o xs ∙ ap (option_map (item_of ms)) last

    front : before o (items_of ms xs) ≡ items_of ms (take (length xs - 1) xs)
    front =
        let all = ap (λ x. before o (items_of ms xs) ++ settled x) (sym some) ∙ whole_list o (items_of ms xs) in
        sym (before-push (before o (items_of ms xs)) (item_of ms a)) ∙ ap (before true) all ∙ ap (λ n. take (n - 1) (items_of ms xs)) (items_length ms xs) ∙ take-map (item_of ms) (length xs - 1) xs

    joining : (t : Option Kind) → t ≡ one_token (a.token.spelling ++ b.token.spelling) → joined_end line o (items_of ms xs) (item_of ms b) ≡ option_map (λ i. items_of ms (take (length xs - 1) xs) ++ i ∷ []) (joined_token (item_of ms a) (item_of ms b) line (a.token.spelling ++ b.token.spelling) t)
    joining t e =
        (λ k. option_map (λ i. front k ++ i ∷ []) (joined_to line (some k) (item_of ms b))) ∙ ap (λ u. option_map (λ i. items_of ms (take (length xs - 1) xs) ++ i ∷ []) (joined_token (item_of ms a) (item_of ms b) line (a.token.spelling ++ b.token.spelling) u)) (sym e)

    pub not_one : (t : Option Kind) → t ≡ one_token (a.token.spelling ++ b.token.spelling) → false ≡ is_some t → None ≡ joined_end line o (items_of ms xs) (item_of ms b)
    not_one None e h = sym (joining None e)
    not_one (Some k) e h = absurd (false≢true h)

    -- the table without its last token, and the joined one
    module _ (n : Tagged HideSet) (kind : Kind) (bs : List ℕ) (made : item_of ms n ≡ record { token = record { kind = kind; spelling = bs; line = line; marked = a.token.marked }; hides = shared (hidden ms a.tag) (hidden ms b.tag) }) (spelt : bs ≡ a.token.spelling ++ b.token.spelling) where
      pub one : Some kind ≡ one_token (a.token.spelling ++ b.token.spelling) → Some (items_of ms (take (length xs - 1) xs ++ n ∷ [])) ≡ joined_end line o (items_of ms xs) (item_of ms b)
      one e =
          let token = made ∙ ap (λ cs. record { token = record { kind = kind; spelling = cs; line = line; marked = a.token.marked }; hides = shared (hidden ms a.tag) (hidden ms b.tag) }) spelt in
          ap Some (map-append (item_of ms) (take (length xs - 1) xs) (n ∷ [])) ∙ ap (λ i. Some (items_of ms (take (length xs - 1) xs) ++ i ∷ [])) token ∙ sym (joining (Some kind) e)

      pub one_fits : fit (xs ++ b ∷ []) ≡ true → fit (take (length xs - 1) xs ++ n ∷ []) ≡ true
      one_fits h =
          let zs = take (length xs - 1) xs in
          let read = operand_read o xs a last in
          let split = split_last xs (length xs - 1) a read (omega (arith, slice_get_within xs _ a read)) in
          let size : length n.token.spelling ≡ length a.token.spelling + length b.token.spelling = ap (λ i. length i.token.spelling) made ∙ ap length spelt ∙ length-append a.token.spelling b.token.spelling in
          let both = limits (xs ++ b ∷ []) h in
          fit_within (zs ++ n ∷ []) (omega (arith, both.0, ap length split, length-append zs (a ∷ []), length-append zs (n ∷ []), length-append xs (b ∷ []))) (omega (arith, both.1, ap bytes split, bytes-append zs (a ∷ []), bytes-append zs (n ∷ []), bytes-append xs (b ∷ [])))
