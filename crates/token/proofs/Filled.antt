-- What a table's fields say of its tokens. Assumes nothing.
use Rattle.std.proofs.Common.{◌≡◌, ℕ, ◌+◌, ◌-◌, ◌<◌, ◌≤◌, true, ◌&&◌, ltb, leb, List, [], ◌∷◌, ◌++◌, map, length, take, vec_items, vec_len, sym, refl, ap, ◌∙◌, zero-add, arith}
use lib.ListN.{length-map}
use Rattle.std.proofs.lemmas.Bool.{and_parts, ltb-true, leb-true}
use Rattle.token.specs.declared.TokenRef.{TokenRef}
use Rattle.token.specs.declared.record.Record.{Record}
use Rattle.token.specs.declared.limited.LimitedTable.{LimitedTable}
use Rattle.token.specs.declared.table.TokenTable.{TokenTable}
use Rattle.token.specs.Packing.{packed, record_of}
use Rattle.token.specs.Limited.{record_token, limited_tokens}
use Rattle.token.specs.Tables.{table_tokens, referred}
use Rattle.token.specs.Views.{spelled, has_place}
use Rattle.token.proofs.Packed as packed
use Rattle.token.proofs.Packed.{spelled-packed, packed-push, packed-pop}

pub dense : (t : LimitedTable) → packed 0 (vec_items t.records) (length (vec_items t.text)) ≡ true
dense t = ap (packed 0 (vec_items t.records)) (sym t.text.ok.0) ∙ t.dense

pub count : (t : LimitedTable) → length (limited_tokens t) ≡ vec_len t.records
count t = length-map _ _ ∙ sym t.records.ok.0

pub size : (t : LimitedTable) → spelled (limited_tokens t) ≡ vec_len t.text
size t = sym (zero-add _) ∙ spelled-packed _ 0 _ (dense t) ∙ sym t.text.ok.0

pub has_place_lem : (t : LimitedTable) (k : ℕ) → has_place t k ≡ (ltb (vec_len t.records) t.tokens_limit && leb (vec_len t.text + k) t.bytes_limit)
has_place_lem t k = λ i. ltb (count t i) t.tokens_limit && leb (size t i + k) t.bytes_limit

pub room : (t : LimitedTable) (k : ℕ) → true ≡ (ltb (vec_len t.records) t.tokens_limit && leb (vec_len t.text + k) t.bytes_limit) → (vec_len t.records < t.tokens_limit) × (vec_len t.text + k ≤ t.bytes_limit)
room t k h = let both = and_parts _ _ (sym h) in (ltb-true _ _ both.0, leb-true _ _ both.1)

-- a table with its limits in the type holds at most so many tokens and so many bytes
pub few : {n b : ℕ} (t : TokenTable n b) → length (table_tokens t) ≤ n
few t = omega (arith, count t.table, t.table.few, t.tokens_limit)

pub short : {n b : ℕ} (t : TokenTable n b) → spelled (table_tokens t) ≤ b
short t = omega (arith, size t.table, t.table.short, t.bytes_limit)

-- a token's record and its spelling added to a table
module _ (t : LimitedTable) (u : TokenRef) (at : ℕ) (r : Record) (is : r ≡ record_of at u) (end : at ≡ vec_len t.text) (rs : List Record) (added : rs ≡ vec_items t.records ++ r ∷ []) where
  pub dense_push : (k : ℕ) → k ≡ vec_len t.text + length u.spelling.now → packed 0 rs k ≡ true
  dense_push k e =
      (λ i. packed 0 ((added ∙ ap (λ x. vec_items t.records ++ x ∷ []) is) i) (e i)) ∙ packed-push 0 (vec_items t.records) _ (record_of at u) t.dense end

  pub tokens-push : (text : List ℕ) → text ≡ vec_items t.text ++ u.spelling.now → map (record_token text) rs ≡ limited_tokens t ++ referred u ∷ []
  tokens-push text e =
      (λ i. map (record_token (e i)) ((added ∙ ap (λ x. vec_items t.records ++ x ∷ []) is) i)) ∙ packed.tokens-push (vec_items t.text) u.spelling.now (vec_items t.records) (record_of at u) (dense t) (end ∙ t.text.ok.0) refl

-- a table's last record and its spelling taken away
module _ (t : LimitedTable) (rs : List Record) (r : Record) (was : vec_items t.records ≡ rs ++ r ∷ []) where
  pub dense_pop : (packed 0 rs r.spelling.start ≡ true) × (r.spelling.start + r.spelling.len ≡ vec_len t.text)
  dense_pop = packed-pop 0 rs r _ (ap (λ xs. packed 0 xs (vec_len t.text)) (sym was) ∙ t.dense)

  pub tokens-pop : (text : List ℕ) → text ≡ take r.spelling.start (vec_items t.text) → map (record_token text) rs ≡ take (length (limited_tokens t) - 1) (limited_tokens t)
  tokens-pop text e =
      let all = ap (λ xs. packed 0 xs (length (vec_items t.text))) (sym was) ∙ dense t in
      ap (λ x. map (record_token x) rs) e ∙ packed.tokens-pop (vec_items t.text) rs r all ∙ ap (λ xs. take (length (map (record_token (vec_items t.text)) xs) - 1) (map (record_token (vec_items t.text)) xs)) (sym was)
