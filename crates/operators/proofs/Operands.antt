-- Pieces as operands. Assumes nothing.
use Rattle.std.proofs.Common.{◌≡◌, ℕ, false, List, Some, None, Option, sym, refl, ap, ◌∙◌, arith, lit<}
use Rattle.std.specs.Option.{option_map}
use Rattle.std.proofs.lemmas.Bool.Decides.{nat_tests}
use Rattle.item.proofs.Bits.{bit_past}
use Rattle.item.specs.declared.hide_set.HideSet.{HideSet}
use Rattle.item.specs.Sets.{bit, empty_set, in_set}
use Rattle.item.specs.Tagged.{Tagged}
use Rattle.token.specs.Tokens.{Token}
use Rattle.definition.specs.Definitions.{Macro}
use Rattle.definitions.specs.InForce.{slot}
use Rattle.replacement.specs.Joining.{operand}
use Rattle.replacement.specs.Meaning.{item_of, hidden}
use Rattle.operators.specs.declared.Role.{Role}
use Rattle.operators.specs.declared.Role.TheVariants.{Plain, Join, Nothing}
use Rattle.operators.specs.Pieces.{in_role, piece_of, as_operand, operand_of}

no_bit : (k : ℕ) → bit 0 k ≡ false
no_bit k = bit_past 0 0 k (lit< tt) (omega arith)

empty_set_lem : (k : ℕ) → in_set empty_set k ≡ false
empty_set_lem k = grind (arith, nat_tests, no_bit)

hidden_empty : (ms : List Macro) (n : List ℕ) → hidden ms empty_set n ≡ false
hidden_empty ms n =
    elim (slot n ms) as (λ o. elim o [ None ↦ false | Some k ↦ in_set empty_set k ] ≡ false) [ None ↦ refl | Some k ↦ empty_set_lem k ]

-- the operator hides nothing as an operand
in_role_lem : (ms : List Macro) (t : Token) (r : Role) → option_map (item_of ms) (as_operand t r) ≡ operand (in_role ms t r)
in_role_lem ms t (Plain h) = refl
in_role_lem ms t Join = λ i. Some (record { token = t; hides = λ n. hidden_empty ms n i })
in_role_lem ms t Nothing = refl

-- the token that a piece is as an operand
pub operand_is : (ms : List Macro) (x : Tagged Role) (o : Option (Tagged HideSet)) → o ≡ operand_of x → operand (piece_of ms x) ≡ option_map (item_of ms) o
operand_is ms x o e = sym (ap (option_map (item_of ms)) e ∙ in_role_lem ms x.token x.tag)

token_in : (t : Token) (r : Role) (b : Tagged HideSet) → Some b ≡ as_operand t r → b.token ≡ t
token_in t (Plain h) b e = cc
token_in t Join b e = cc
token_in t Nothing b e = absurd (cc)

pub operand_token : (x : Tagged Role) (b : Tagged HideSet) → Some b ≡ operand_of x → b.token ≡ x.token
operand_token x b e = token_in x.token x.tag b e
