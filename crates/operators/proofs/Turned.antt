-- The turns of the loop that joins pieces. Assumes nothing.
use Rattle.std.proofs.Common.{◌≡◌, ℕ, ◌+◌, ◌≤◌, Bool, true, false, List, [], ◌∷◌, ◌++◌, length, Some, None, sym, ap, ◌∙◌, arith, length-append}
use Rattle.std.proofs.lemmas.List.{map-append}
use Rattle.item.proofs.Beside.{bytes-append}
use Rattle.item.specs.declared.hide_set.HideSet.{HideSet}
use Rattle.item.specs.Tagged.{Tagged, bytes, fit}
use Rattle.definition.specs.Definitions.{Macro}
use Rattle.replacement.specs.Items.{fresh, giving, fault}
use Rattle.replacement.specs.Joining.{joiner, join_all}
use Rattle.replacement.specs.Meaning.{item_of, items_of}
use Rattle.operators.specs.declared.Role.{Role}
use Rattle.operators.specs.declared.Role.TheVariants.{Plain, Join, Nothing}
use Rattle.operators.specs.Ends.{going_on, joined_end}
use Rattle.operators.specs.Pieces.{in_role, piece_of, pieces_of, operand_of}
use Rattle.operators.proofs.Ended.{at_end_lem, at_piece, at_nothing, at_joiner, at_fault, at_none}
use Rattle.operators.proofs.Operands.{operand_is, operand_token}
use Rattle.operators.proofs.Sized.{fit_within, limits, items_length, items_bytes, end_size}

-- what is joined and the pieces that are left give the whole, and stay within the limits together
pub record Holds (line : ℕ) (all : List (Tagged Role)) (o : Bool) (xs : List (Tagged HideSet)) (ps : List (Tagged Role)) : Type 0 where
  pub whole : (ms : List Macro) (left : ℕ) → join_all line left None (pieces_of ms all) ≡ going_on line left o (items_of ms xs) (pieces_of ms ps)
  pub few : length xs + length ps ≤ 1024
  pub small : bytes xs + bytes ps ≤ 16384

pub start : (line : ℕ) (all ps : List (Tagged Role)) (xs : List (Tagged HideSet)) → fit all ≡ true → ps ≡ all → xs ≡ [] → Holds line all false xs ps
start line all ps xs h e f =
    let both = limits all h in
    record {
      whole = λ ms left. sym (λ k. going_on line left false (items_of ms (f k)) (pieces_of ms (e k)));
      few = omega (arith, ap length e, ap length f, both.0);
      small = omega (arith, ap bytes e, ap bytes f, both.1);
    }

module _ {line : ℕ} {all : List (Tagged Role)} {o : Bool} {xs : List (Tagged HideSet)} {ps : List (Tagged Role)} (inv : Holds line all o xs ps) where
  pub ended : ps ≡ [] → (ms : List Macro) (left : ℕ) → join_all line left None (pieces_of ms all) ≡ giving (items_of ms xs) left
  ended e ms left =
      inv.whole ms left ∙ ap (λ v. going_on line left o (items_of ms xs) (pieces_of ms v)) e ∙ at_end_lem line left o (items_of ms xs)

  -- a piece stands first
  module _ (x : Tagged Role) {rest : List (Tagged Role)} (first : ps ≡ x ∷ rest) where
    in_turn : (r : Role) → x.tag ≡ r → (ms : List Macro) (left : ℕ) → join_all line left None (pieces_of ms all) ≡ going_on line left o (items_of ms xs) (in_role ms x.token r ∷ pieces_of ms rest)
    in_turn r e ms left =
        inv.whole ms left ∙ ap (λ v. going_on line left o (items_of ms xs) (pieces_of ms v)) first ∙ ap (λ v. going_on line left o (items_of ms xs) (in_role ms x.token v ∷ pieces_of ms rest)) e

    pub nothing_turn : x.tag ≡ Nothing → Holds line all false xs rest
    nothing_turn e =
        record {
          whole = λ ms left. in_turn Nothing e ms left ∙ at_nothing line left o (items_of ms xs) (pieces_of ms rest);
          few = omega (arith, inv.few, ap length first);
          small = omega (arith, inv.small, ap bytes first);
        }

    pub plain_fits : (h : HideSet) → fit (xs ++ record { token = x.token; tag = h } ∷ []) ≡ true
    plain_fits h =
        let ys : List (Tagged HideSet) = record { token = x.token; tag = h } ∷ [] in
        fit_within (xs ++ ys) (omega (arith, inv.few, ap length first, length-append xs ys)) (omega (arith, inv.small, ap bytes first, bytes-append xs ys))

    pub plain_turn : (h : HideSet) (zs : List (Tagged HideSet)) → x.tag ≡ Plain h → zs ≡ xs ++ record { token = x.token; tag = h } ∷ [] → Holds line all true zs rest
    plain_turn h zs e f =
        let ys : List (Tagged HideSet) = record { token = x.token; tag = h } ∷ [] in
        record {
          whole = λ ms left. in_turn (Plain h) e ms left ∙ at_piece line left o (items_of ms xs) (item_of ms (record { token = x.token; tag = h })) (pieces_of ms rest) ∙ ap (λ is. going_on line left true is (pieces_of ms rest)) (sym (ap (items_of ms) f ∙ map-append (item_of ms) xs ys));
          few = omega (arith, inv.few, ap length first, ap length f, length-append xs ys);
          small = omega (arith, inv.small, ap bytes first, ap bytes f, bytes-append xs ys);
        }

    -- the operator, and nothing behind it
    pub operator_last : x.tag ≡ Join → rest ≡ [] → (ms : List Macro) (left : ℕ) → join_all line left None (pieces_of ms all) ≡ giving (items_of ms xs) left
    operator_last e f ms left =
        in_turn Join e ms left ∙ ap (λ v. going_on line left o (items_of ms xs) (joiner (fresh x.token) ∷ pieces_of ms v)) f ∙ at_end_lem line left o (items_of ms xs)

    -- the operator, and a piece behind it
    module _ (e : x.tag ≡ Join) (y : Tagged Role) {more : List (Tagged Role)} (second : rest ≡ y ∷ more) where
      with_next : (ms : List Macro) (left : ℕ) → join_all line left None (pieces_of ms all) ≡ going_on line left o (items_of ms xs) (joiner (fresh x.token) ∷ piece_of ms y ∷ pieces_of ms more)
      with_next ms left =
          in_turn Join e ms left ∙ ap (λ v. going_on line left o (items_of ms xs) (joiner (fresh x.token) ∷ pieces_of ms v)) second

      pub nothing_right : None ≡ operand_of y → Holds line all o xs more
      nothing_right f =
          record {
            whole = λ ms left. with_next ms left ∙ at_none line left o (items_of ms xs) (fresh x.token) (piece_of ms y) (pieces_of ms more) (operand_is ms y None f);
            few = omega (arith, inv.few, ap length first, ap length second);
            small = omega (arith, inv.small, ap bytes first, ap bytes second);
          }

      module _ (b : Tagged HideSet) (right : Some b ≡ operand_of y) where
        pub right_fits : fit (xs ++ b ∷ []) ≡ true
        right_fits =
            fit_within (xs ++ b ∷ []) (omega (arith, inv.few, ap length first, ap length second, length-append xs (b ∷ []))) (omega (arith, inv.small, ap bytes first, ap bytes second, bytes-append xs (b ∷ []), ap (λ t. length t.spelling) (operand_token y b right)))

        pub operator_fault : ((ms : List Macro) → None ≡ joined_end line o (items_of ms xs) (item_of ms b)) → (ms : List Macro) (left : ℕ) → (join_all line left None (pieces_of ms all)).ending ≡ fault 53 line
        operator_fault bad ms left =
            ap (λ v. v.ending) (with_next ms left) ∙ at_fault line left o (items_of ms xs) (fresh x.token) (piece_of ms y) (pieces_of ms more) (item_of ms b) (operand_is ms y (Some b) right) (bad ms)

        pub operator_turn : (ys : List (Tagged HideSet)) → ((ms : List Macro) → Some (items_of ms ys) ≡ joined_end line o (items_of ms xs) (item_of ms b)) → Holds line all true ys more
        operator_turn ys made =
            let grown = end_size line o (items_of [] xs) (items_of [] ys) (item_of [] b) (made []) in
            record {
              whole = λ ms left. with_next ms left ∙ at_joiner line left o (items_of ms xs) (fresh x.token) (piece_of ms y) (pieces_of ms more) (item_of ms b) (items_of ms ys) (operand_is ms y (Some b) right) (made ms);
              few = omega (arith, inv.few, ap length first, ap length second, grown.0, items_length [] xs, items_length [] ys);
              small = omega (arith, inv.small, ap bytes first, ap bytes second, grown.1, items_bytes [] xs, items_bytes [] ys, ap (λ t. length t.spelling) (operand_token y b right));
            }
