-- Pieces that are all tokens. Assumes nothing.
use Rattle.std.proofs.Common.{◌≡◌, ℕ, true, false, List, [], ◌∷◌, ◌++◌, Some, None, Option, sym, refl, ap, append-nil}
use Rattle.std.proofs.lemmas.Bool.{both_ways}
use Rattle.item.specs.Tagged.{Tagged}
use Rattle.token.specs.Tokens.{Token}
use Rattle.definition.specs.Definitions.{Macro}
use Rattle.replacement.specs.Items.{Item, Outcome, giving}
use Rattle.replacement.specs.Joining.{join_all, settled}
use Rattle.replacement.specs.Meaning.{item_of, items_of}
use Rattle.operators.specs.declared.Role.{Role}
use Rattle.operators.specs.declared.Role.TheVariants.{Plain, Join, Nothing}
use Rattle.operators.specs.Pieces.{pieces_of}
use Rattle.operators.specs.Sets.{role_set, with_sets, all_plain}

-- tokens alone are left as they are
module _ (line : ℕ) (ms : List Macro) where
  abbrev behind : List Item → Outcome Item → Outcome Item
  behind is o = record { items = is ++ o.items; ending = o.ending; left = o.left }

  abbrev Left : ℕ → Option Item → List (Tagged Role) → Type 0
  Left left a xs =
      all_plain xs ≡ true → join_all line left a (pieces_of ms xs) ≡ giving (settled a ++ items_of ms (with_sets role_set xs)) left

  at_plain : (left : ℕ) (a : Option Item) (t : Token) (r : Role) (xs : List (Tagged Role)) → ((b : Option Item) → Left left b xs) → Left left a (record { token = t; tag = r } ∷ xs)
  at_plain left a t (Plain h) xs more e =
      ap (behind (settled a)) (more (Some (item_of ms (record { token = t; tag = h }))) e)
  at_plain left a t Join xs more e = absurd (both_ways false refl e)
  at_plain left a t Nothing xs more e = absurd (both_ways false refl e)

  plain_from : (left : ℕ) (xs : List (Tagged Role)) (a : Option Item) → Left left a xs
  plain_from left [] a e = ap (λ is. giving is left) (sym (append-nil (settled a)))
  plain_from left (x ∷ xs) a e = at_plain left a x.token x.tag xs (plain_from left xs) e

  pub join-plain : (xs : List (Tagged Role)) → all_plain xs ≡ true → (left : ℕ) → join_all line left None (pieces_of ms xs) ≡ giving (items_of ms (with_sets role_set xs)) left
  join-plain xs e left = plain_from left xs None e
