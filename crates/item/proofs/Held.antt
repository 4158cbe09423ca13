-- What a table's fields say of the tokens that it holds. Assumes nothing.
use Rattle.std.proofs.Common.{◌≡◌, suc, ◌+◌, ◌-◌, ◌≤◌, true, ◌&&◌, leb, List, [], ◌∷◌, ◌++◌, length, take, vec_items, vec_len, sym, ap, ◌∙◌, arith}
use Rattle.std.proofs.lemmas.List.{length_push}
use Rattle.std.proofs.lemmas.Bool.{and_from, le-leb}
use Rattle.token.specs.Tables.{table_tokens}
use Rattle.token.specs.Tokens.{Token}
use Rattle.token.specs.Views.{has_room, spelled}
use Rattle.token.proofs.Filled as filled
use Rattle.item.specs.declared.table.TagTable.{TagTable}
use Rattle.item.specs.Tables.{held}
use Rattle.item.specs.Tagged.{Tagged, beside, bytes, fit}
use Rattle.item.proofs.Beside.{length-beside, beside-append, take-beside, bytes-beside, bytes-append}

module _ {T : Type 0} (t : TagTable T) where
  pub even : length (vec_items t.tags) ≡ length (table_tokens t.tokens)
  even = sym t.tags.ok.0 ∙ t.even

  pub count : length (held t) ≡ length (table_tokens t.tokens)
  count = length-beside (table_tokens t.tokens) (vec_items t.tags) even

  -- a table stays within its limits
  pub fits : fit (held t) ≡ true
  fits =
      let few : length (held t) ≤ 1024 = omega (arith, count, filled.few t.tokens) in
      let small : bytes (held t) ≤ 16384 = omega (arith, bytes-beside (table_tokens t.tokens) (vec_items t.tags) even, filled.short t.tokens) in
      and_from _ _ (le-leb _ _ few) (le-leb _ _ small)

  pub room : (i : Tagged T) → has_room t.tokens (length i.token.spelling) ≡ fit (held t ++ i ∷ [])
  room i =
      let tokens : suc (length (table_tokens t.tokens)) ≡ length (held t ++ i ∷ []) = omega (arith, length_push (held t) i, count) in
      let size : spelled (table_tokens t.tokens) + length i.token.spelling ≡ bytes (held t ++ i ∷ []) = omega (arith, bytes-append (held t) (i ∷ []), bytes-beside (table_tokens t.tokens) (vec_items t.tags) even) in
      (λ j. leb (tokens j) 1024 && leb (size j) 16384)

  -- one more token and what stands beside it
  pub held-push : (i : Tagged T) (ts : List Token) (xs : List T) → ts ≡ table_tokens t.tokens ++ i.token ∷ [] → xs ≡ vec_items t.tags ++ i.tag ∷ [] → beside ts xs ≡ held t ++ i ∷ []
  held-push i ts xs e f =
      (λ j. beside (e j) (f j)) ∙ beside-append (table_tokens t.tokens) (i.token ∷ []) (vec_items t.tags) (i.tag ∷ []) even

  -- the last token and what stands beside it taken away
  pub held-pop : (ts : List Token) (xs : List T) → ts ≡ take (length (table_tokens t.tokens) - 1) (table_tokens t.tokens) → xs ≡ take (vec_len t.tags - 1) (vec_items t.tags) → beside ts xs ≡ take (length (held t) - 1) (held t)
  held-pop ts xs e f =
      (λ j. beside (e j) ((f ∙ ap (λ n. take (n - 1) (vec_items t.tags)) t.even) j)) ∙ sym (take-beside _ (table_tokens t.tokens) (vec_items t.tags)) ∙ ap (λ n. take (n - 1) (held t)) (sym count)
