-- What follows from blocks that lie one behind the other. Assumes nothing.
use Rattle.std.proofs.Common.{◌≡◌, ℕ, zero, suc, ◌+◌, ◌*◌, ◌<◌, ◌≤◌, true, eqb, leb, List, [], ◌∷◌, ◌++◌, map, length, get_or, take, drop, Some, None, Option, unwrap_or, sym, refl, ap, ◌∙◌, arith, length-drop}
use lib.ListN.{length-map}
use Rattle.std.specs.Option.{option_map}
use Rattle.std.proofs.lemmas.List.{take-append-le, drop-append-le, length-take-le, drop_at, drop_all, drop-drop, take_at, take_all, take-append-drop, map_push}
use Rattle.std.proofs.lemmas.Bool.{and_parts, and_from, eqb-true, eq-eqb, leb-true, le-leb}
use Rattle.token.specs.Tokens.{Token}
use Rattle.token.specs.Views.{spelled}
use Rattle.definition.specs.Definitions.{Macro}
use Rattle.definitions.specs.declared.entry.Entry.{Entry}
use Rattle.definitions.specs.Blocks.{first_spelling, spellings, block_macro, block, macro_at, placed}
use Rattle.definitions.specs.InForce.{words_size, size, sizes, list_token_count}
use Rattle.definitions.specs.Layout.{name_token, name_tokens, parameter_tokens, laid}
use Rattle.definitions.proofs.Laying.{spelled-append}

starts : (at : ℕ) (e : Entry) (es : List Entry) (end : ℕ) → placed at (e ∷ es) end ≡ true → e.block.start ≡ at
starts at e es end h = eqb-true _ _ (and_parts (eqb e.block.start at) _ h).0

few_first : (at : ℕ) (e : Entry) (es : List Entry) (end : ℕ) → placed at (e ∷ es) end ≡ true → unwrap_or e.parameters 0 ≤ 127
few_first at e es end h = leb-true _ _ (and_parts (leb (unwrap_or e.parameters 0) 127) _ (and_parts (eqb e.block.start at) _ h).1).0

goes_on : (at : ℕ) (e : Entry) (es : List Entry) (end : ℕ) → placed at (e ∷ es) end ≡ true → placed (at + e.block.len) es end ≡ true
goes_on at e es end h = (and_parts (leb (unwrap_or e.parameters 0) 127) _ (and_parts (eqb e.block.start at) _ h).1).1

ends : (at : ℕ) (es : List Entry) (end : ℕ) → placed at es end ≡ true → at ≤ end
ends at [] end h = omega (arith, eqb-true at end h)
ends at (e ∷ es) end h = omega (arith, ends (at + e.block.len) es end (goes_on at e es end h))

within : (at : ℕ) (e : Entry) (es : List Entry) (end : ℕ) → placed at (e ∷ es) end ≡ true → e.block.start + e.block.len ≤ end
within at e es end h = omega (arith, starts at e es end h, ends (at + e.block.len) es end (goes_on at e es end h))

pub few_at : (at : ℕ) (es : List Entry) (end i : ℕ) (d : Entry) → placed at es end ≡ true → i < length es → unwrap_or (get_or es i d).parameters 0 ≤ 127
few_at at [] end i d h l = absurd (omega arith)
few_at at (e ∷ es) end zero d h l = few_first at e es end h
few_at at (e ∷ es) end (suc i) d h l = few_at (at + e.block.len) es end i d (goes_on at e es end h) (omega arith)

-- one more block, which starts where the last one ended
pub placed-push : (at : ℕ) (es : List Entry) (end : ℕ) (e : Entry) → placed at es end ≡ true → e.block.start ≡ end → unwrap_or e.parameters 0 ≤ 127 → placed at (es ++ e ∷ []) (end + e.block.len) ≡ true
placed-push at [] end e h s f =
    let same = eqb-true at end h in
    and_from _ _ (eq-eqb _ _ (s ∙ sym same)) (and_from _ _ (le-leb _ _ f) (eq-eqb _ _ (ap (λ n. n + e.block.len) same)))
placed-push at (o ∷ es) end e h s f =
    and_from _ _ (eq-eqb _ _ (starts at o es end h)) (and_from _ _ (le-leb _ _ (few_first at o es end h)) (placed-push (at + o.block.len) es end e (goes_on at o es end h) s f))

-- a block within the tokens stays, whatever is added behind
block_stays : (ts more : List Token) (e : Entry) → e.block.start + e.block.len ≤ length ts → block (ts ++ more) e ≡ block ts e
block_stays ts more e h =
    let long : e.block.len ≤ length (drop e.block.start ts) = simp length-drop (omega arith) in
    ap (take e.block.len) (drop-append-le e.block.start ts more (omega arith)) ∙ take-append-le e.block.len (drop e.block.start ts) more long

macros_stay : (ts more : List Token) (at : ℕ) (es : List Entry) → placed at es (length ts) ≡ true → map (macro_at (ts ++ more)) es ≡ map (macro_at ts) es
macros_stay ts more at [] h = refl
macros_stay ts more at (e ∷ es) h =
    let same = block_stays ts more e (within at e es _ h) in
    λ i. block_macro (same i) e.parameters ∷ macros_stay ts more (at + e.block.len) es (goes_on at e es _ h) i

-- one more block behind the tokens
pub macros-push : (ts b : List Token) (es : List Entry) (e : Entry) → placed 0 es (length ts) ≡ true → e.block.start ≡ length ts → e.block.len ≡ length b → map (macro_at (ts ++ b)) (es ++ e ∷ []) ≡ map (macro_at ts) es ++ block_macro b e.parameters ∷ []
macros-push ts b es e h s l =
    let new : block (ts ++ b) e ≡ b = ap (take e.block.len) (drop_at ts b e.block.start (sym s)) ∙ take_all e.block.len b (omega arith) in
    map_push (macro_at (ts ++ b)) es e ∙ (λ i. macros_stay ts b 0 es h i ++ block_macro (new i) e.parameters ∷ [])

-- a block and its definition have the same bytes

spelled_parts : (n : ℕ) (ts : List Token) → spelled (take n ts) + spelled (drop n ts) ≡ spelled ts
spelled_parts n ts = sym (spelled-append (take n ts) (drop n ts)) ∙ ap spelled (take-append-drop n ts)

size-spellings : (ts : List Token) → words_size (spellings ts) ≡ spelled ts
size-spellings [] = refl
size-spellings (t ∷ ts) = omega (arith, size-spellings ts)

spelled_first : (b : List Token) → length (first_spelling b) + spelled (drop 1 b) ≡ spelled b
spelled_first [] = refl
spelled_first (t ∷ b) = refl

pub size-block : (b : List Token) (p : Option ℕ) → size (block_macro b p) ≡ spelled b
size-block b None = omega (arith, spelled_first b)
size-block b (Some n) = omega (arith, spelled_first b, size-spellings (take n (drop 1 b)), spelled_parts n (drop 1 b))

sizes_from : (ts : List Token) (at : ℕ) (es : List Entry) → placed at es (length ts) ≡ true → sizes (map (macro_at ts) es) ≡ spelled (drop at ts)
sizes_from ts at [] h = ap spelled (sym (drop_all at ts (omega (arith, eqb-true at _ h))))
sizes_from ts at (e ∷ es) h =
    let here = ap (λ n. spelled (take e.block.len (drop n ts))) (starts at e es _ h) in
    let rest = ap spelled (drop-drop e.block.len at ts) in
    omega (arith, size-block (block ts e) e.parameters, here, rest, spelled_parts e.block.len (drop at ts), sizes_from ts (at + e.block.len) es (goes_on at e es _ h))

pub sizes-placed : (ts : List Token) (es : List Entry) → placed 0 es (length ts) ≡ true → sizes (map (macro_at ts) es) ≡ spelled ts
sizes-placed ts es h = sizes_from ts 0 es h

-- a name, at most 127 parameters, and the list
pub block-length : (b : List Token) (p : Option ℕ) → unwrap_or p 0 ≤ 127 → length b ≤ 128 + length (block_macro b p).list
block-length b p h = omega (arith, length-drop (unwrap_or p 0) (drop 1 b), length-drop 1 b)

length_from : (ts : List Token) (at : ℕ) (es : List Entry) → placed at es (length ts) ≡ true → length ts ≤ at + 128 * length es + list_token_count (map (macro_at ts) es)
length_from ts at [] h = omega (arith, eqb-true at _ h)
length_from ts at (e ∷ es) h =
    let w = within at e es _ h in
    let long : e.block.len ≤ length (drop e.block.start ts) = simp length-drop (omega arith) in
    omega (arith, length-take-le e.block.len (drop e.block.start ts) long, block-length (block ts e) e.parameters (few_first at e es _ h), length_from ts (at + e.block.len) es (goes_on at e es _ h))

pub length-placed : (ts : List Token) (es : List Entry) → placed 0 es (length ts) ≡ true → length ts ≤ 128 * length es + list_token_count (map (macro_at ts) es)
length-placed ts es h = omega (arith, length_from ts 0 es h)

-- the block of a definition

spellings-names : (ws : List (List ℕ)) → spellings (name_tokens ws) ≡ ws
spellings-names [] = refl
spellings-names (w ∷ ws) = ap (λ l. w ∷ l) (spellings-names ws)

pub laid_macro : (m : Macro) → block_macro (laid m) (option_map length m.parameters) ≡ m
laid_macro m =
    elim m.parameters as (λ o. block_macro (name_token m.name ∷ parameter_tokens o ++ m.list) (option_map length o) ≡ record { name = m.name; parameters = o; list = m.list }) [
      | None ↦ refl
      | Some ws ↦ (λ i. record { name = m.name; parameters = Some ((ap spellings (take_at (name_tokens ws) m.list (length ws) (length-map ws name_token)) ∙ spellings-names ws) i); list = drop_at (name_tokens ws) m.list (length ws) (length-map ws name_token) i })
    ]
