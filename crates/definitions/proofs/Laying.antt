-- Tokens that are added to a table. Assumes nothing.
use Rattle.std.proofs.Common.{◌≡◌, ℕ, ◌+◌, true, List, [], ◌∷◌, ◌++◌, length, sym, ap, ◌∙◌, append_assoc, arith, length-append}
use Rattle.std.proofs.lemmas.Bool.{and_from, lt-ltb, le-leb}
use Rattle.token.specs.declared.table.TokenTable.{TokenTable}
use Rattle.token.specs.Tables.{table_tokens}
use Rattle.token.specs.Tokens.{Token}
use Rattle.token.specs.Views.{spelled, has_room}
use Rattle.definitions.specs.Layout.{Holds}

pub spelled-append : (xs ys : List Token) → spelled (xs ++ ys) ≡ spelled xs + spelled ys
spelled-append [] ys = omega arith
spelled-append (x ∷ xs) ys = omega (arith, spelled-append xs ys)

-- a table that holds a part of the tokens has room for those that are left
module _ {n b : ℕ} (s t : TokenTable n b) (vs : List Token) (holds : Holds s vs) where
  pub held : (xs ys : List Token) → table_tokens t ++ (xs ++ ys) ≡ table_tokens s ++ vs → Holds t xs
  held xs ys e =
      (omega (arith, simp length-append at (ap length e), holds.0), omega (arith, simp spelled-append at (ap spelled e), holds.1))

  pub room : (x : Token) (ws more : List Token) → ws ≡ x ∷ more → table_tokens t ++ ws ≡ table_tokens s ++ vs → has_room t (length x.spelling) ≡ true
  room x ws more w e =
      let h = held (x ∷ []) more (ap (λ l. table_tokens t ++ l) (sym w) ∙ e) in
      and_from _ _ (lt-ltb (length (table_tokens t)) n (omega (arith, h.0))) (le-leb (spelled (table_tokens t) + length x.spelling) b (omega (arith, h.1)))

  pub held_behind : (front xs ys : List Token) → table_tokens t ≡ table_tokens s ++ front → vs ≡ front ++ (xs ++ ys) → Holds t xs
  held_behind front xs ys p q =
      held xs ys (ap (λ l. l ++ (xs ++ ys)) p ∙ append_assoc (table_tokens s) front (xs ++ ys) ∙ ap (λ l. table_tokens s ++ l) (sym q))
