-- What a store's fields say, and one more definition in it. Assumes nothing.
use Rattle.std.proofs.Common.{◌≡◌, ℕ, ◌+◌, ◌<◌, ◌≤◌, Bool, true, false, cond, ◌&&◌, leb, List, [], ◌∷◌, ◌++◌, map, length, get_or, Some, None, vec_items, vec_len, Option, unwrap_or, sym, refl, ap, ◌∙◌, subst, arith, length-append}
use lib.ListN.{length-map}
use Rattle.std.specs.Option.{option_map}
use Rattle.std.specs.List.{slice_get}
use Rattle.std.proofs.lemmas.Bool.{leb-true}
use Rattle.std.proofs.lemmas.Option.{slice_get-map, slice_get-get_or}
use Rattle.token.specs.declared.tokens.Tokens.{Tokens}
use Rattle.token.specs.Tables.{table_tokens}
use Rattle.token.specs.Tokens.{Token}
use Rattle.token.specs.Views.{view_tokens, spelled}
use Rattle.definition.specs.Definitions.{Macro, parameters, names, few}
use Rattle.definition.specs.Meaning.{parameter_names}
use Rattle.definitions.specs.declared.entry.Entry.{Entry}
use Rattle.definitions.specs.declared.store.Store.{Store}
use Rattle.definitions.specs.Blocks.{block_macro, macro_at, placed}
use Rattle.definitions.specs.InForce.{slot, size, sizes, list_token_count, fit}
use Rattle.definitions.specs.Layout.{laid, Holds}
use Rattle.definitions.specs.Stores.{store_macros}
use Rattle.definitions.proofs.Blocks.{placed-push, macros-push, size-block, sizes-placed, block-length, length-placed, laid_macro}
use Rattle.token.proofs.Filled.{short as held_bytes}
use Rattle.definitions.proofs.Finding.{slot_below}
use Rattle.definitions.proofs.Macros.{within-fit, fit_parts, fit-push, list_token_count-push}

pub count : (s : Store) → length (store_macros s) ≡ vec_len s.entries
count s = length-map _ _ ∙ sym s.entries.ok.0

pub bytes : (s : Store) → sizes (store_macros s) ≡ spelled (table_tokens s.tokens)
bytes s = sizes-placed (table_tokens s.tokens) (vec_items s.entries) s.dense

pub slot-within : (s : Store) (n : List ℕ) (k : ℕ) → slot n (store_macros s) ≡ Some k → k < 256
slot-within s n k e = omega (arith, slot_below n (store_macros s) k e, count s, s.few)

few-names : (o : Option (List (List ℕ))) → unwrap_or (option_map length (few o)) 0 ≤ 127
few-names None = omega arith
few-names (Some ns) = short (leb (length ns) 127) refl
  where
    short : (b : Bool) → leb (length ns) 127 ≡ b → unwrap_or (option_map length (cond b (Some ns) None)) 0 ≤ 127
    short true e = leb-true _ _ e
    short false e = omega arith

few-inside : (ts : List Token) → unwrap_or (option_map length (parameters ts)) 0 ≤ 127
few-inside [] = omega arith
few-inside (t ∷ ts) = few-names (names (t ∷ ts))

pub few-parameters : (o : Option Tokens) → unwrap_or (option_map length (parameter_names o)) 0 ≤ 127
few-parameters None = omega arith
few-parameters (Some v) = few-inside (view_tokens v)

-- a block that fits behind the others
module _ (s : Store) (b : List Token) (p : Option ℕ) (short : unwrap_or p 0 ≤ 127) (fits : fit (store_macros s ++ block_macro b p ∷ []) ≡ true) where
  pub block_held : Holds s.tokens b
  block_held =
      let f = fit_parts (store_macros s) (block_macro b p) fits in
      let n = length-placed (table_tokens s.tokens) (vec_items s.entries) s.dense in
      (omega (arith, f.0, f.1.0, n, count s, s.entries.ok.0, block-length b p short), omega (arith, f.1.1, bytes s, size-block b p))

  pub list-fits : s.list_tokens + length (block_macro b p).list ≤ 4096
  list-fits = let f = fit_parts (store_macros s) (block_macro b p) fits in omega (arith, f.1.0, s.listed)

  module _ (ts : List Token) (laid-is : ts ≡ table_tokens s.tokens ++ b) (e : Entry) (start : e.block.start ≡ length (table_tokens s.tokens)) (len : e.block.len ≡ length b) (is : e.parameters ≡ p) (es : List Entry) (pushed : es ≡ vec_items s.entries ++ e ∷ []) where
    pub store_push : map (macro_at ts) es ≡ store_macros s ++ block_macro b p ∷ []
    store_push =
        (λ i. map (macro_at (laid-is i)) (pushed i)) ∙ macros-push (table_tokens s.tokens) b (vec_items s.entries) e s.dense start len ∙ ap (λ q. store_macros s ++ block_macro b q ∷ []) is

    pub dense_push : placed 0 es (length ts) ≡ true
    dense_push =
        let n : length ts ≡ length (table_tokens s.tokens) + e.block.len = ap length laid-is ∙ length-append (table_tokens s.tokens) b ∙ ap (λ k. length (table_tokens s.tokens) + k) (sym len) in
        (λ i. placed 0 (pushed i) (n i)) ∙ placed-push 0 (vec_items s.entries) _ e s.dense start (subst (λ q. unwrap_or q 0 ≤ 127) (sym is) short)

    pub listed_push : (k : ℕ) → k ≡ length (block_macro b p).list → list_token_count (map (macro_at ts) es) ≡ s.list_tokens + k
    listed_push k e =
        ap list_token_count store_push ∙ list_token_count-push (store_macros s) (block_macro b p) ∙ (λ i. s.listed i + sym e i)

-- the block of a definition
pub laid-fits : (ms : List Macro) (m : Macro) → fit (ms ++ m ∷ []) ≡ true → fit (ms ++ block_macro (laid m) (option_map length m.parameters) ∷ []) ≡ true
laid-fits ms m h = ap (λ o. fit (ms ++ o ∷ [])) (laid_macro m) ∙ h

-- what fits, by what is counted
pub fit_store : (s : Store) (m : Macro) (a b : Bool) (n k z : ℕ) → n ≡ vec_len s.entries → k ≡ length m.list → z ≡ spelled (table_tokens s.tokens) → a ≡ (leb (n + 1) 256 && leb (s.list_tokens + k) 4096) → b ≡ leb (z + size m) 32768 → (a && b) ≡ fit (store_macros s ++ m ∷ [])
fit_store s m a b n k z p q r x y =
    (λ i. x i && y i) ∙ (λ i. leb ((p ∙ sym (count s)) i + 1) 256 && leb (sym s.listed i + q i) 4096 && leb ((r ∙ sym (bytes s)) i + size m) 32768) ∙ sym (fit-push (store_macros s) m)

pub store_fits : (s : Store) → fit (store_macros s) ≡ true
store_fits s =
    within-fit (store_macros s) (omega (arith, count s, s.few), (omega (arith, s.listed, s.short), omega (arith, bytes s, held_bytes s.tokens)))

-- the definition of an entry is the one in its slot
pub entry_slot : (ts us : List Token) (es fs : List Entry) (i : ℕ) (d : Entry) (m : Macro) → us ≡ ts → fs ≡ es → i < length fs → m ≡ macro_at us (get_or fs i d) → Some m ≡ slice_get (map (macro_at ts) es) i
entry_slot ts us es fs i d m e f h s =
    let here : Some m ≡ slice_get (map (macro_at us) fs) i = ap Some s ∙ sym (slice_get-map (macro_at us) fs i ∙ ap (option_map (macro_at us)) (slice_get-get_or fs i d h)) in
    here ∙ (λ j. slice_get (map (macro_at (e j)) (f j)) i)
