-- How many tokens and bytes lists have. Assumes nothing.
use Rattle.std.proofs.Common.{◌≡◌, ℕ, ◌+◌, ◌≤◌, Bool, true, List, [], ◌∷◌, ◌++◌, length, Some, None, Option, sym, refl, ap, ◌∙◌, add_assoc, zero-add, arith, length-append}
use Rattle.std.proofs.lemmas.List.{length-map}
use Rattle.std.proofs.lemmas.Bool.{and_from, and_parts, le-leb, leb-true}
use Rattle.item.specs.declared.hide_set.HideSet.{HideSet}
use Rattle.item.specs.Tagged.{Tagged, bytes, fit}
use Rattle.token.specs.declared.Kind.{Kind}
use Rattle.lexer.specs.Cutting.{one_token}
use Rattle.definition.specs.Definitions.{Macro}
use Rattle.replacement.specs.Items.{Item, bytes as bytes_of_item}
use Rattle.replacement.specs.Joining.{joined_token, settled}
use Rattle.replacement.specs.Meaning.{items_of}
use Rattle.operators.specs.Ends.{last_of, before, joined_to, joined_end}
use Rattle.operators.proofs.Ended.{end_some, whole_list}

pub items_length : (ms : List Macro) (xs : List (Tagged HideSet)) → length (items_of ms xs) ≡ length xs
items_length ms xs = length-map xs _

pub items_bytes : (ms : List Macro) (xs : List (Tagged HideSet)) → bytes_of_item (items_of ms xs) ≡ bytes xs
items_bytes ms [] = refl
items_bytes ms (x ∷ xs) = ap (λ n. length x.token.spelling + n) (items_bytes ms xs)

pub item_bytes-append : (is js : List Item) → bytes_of_item (is ++ js) ≡ bytes_of_item is + bytes_of_item js
item_bytes-append [] js = sym (zero-add (bytes_of_item js))
item_bytes-append (i ∷ is) js = ap (λ n. length i.token.spelling + n) (item_bytes-append is js) ∙ sym (add_assoc _ (bytes_of_item is) (bytes_of_item js))

-- a table fits where it stays within the limits
pub fit_within : {T : Type 0} (xs : List (Tagged T)) → length xs ≤ 1024 → bytes xs ≤ 16384 → fit xs ≡ true
fit_within xs few small = and_from _ _ (le-leb _ _ few) (le-leb _ _ small)

pub limits : {T : Type 0} (xs : List (Tagged T)) → fit xs ≡ true → (length xs ≤ 1024) × (bytes xs ≤ 16384)
limits xs h = let both = and_parts _ _ h in (leb-true _ _ both.0, leb-true _ _ both.1)

-- an operand and a token make a token of no more bytes
joined_size : (line : ℕ) (a b i : Item) (bs : List ℕ) (t : Option Kind) → joined_token a b line bs t ≡ Some i → length i.token.spelling ≡ length bs
joined_size line a b i bs None e = absurd (cc)
joined_size line a b i bs (Some k) e = omega (arith, ap (λ o. bytes_of_item (settled o)) e)

made_size : (line : ℕ) (a : Option Item) (b i : Item) → joined_to line a b ≡ Some i → length i.token.spelling ≤ bytes_of_item (settled a) + length b.token.spelling
made_size line None b i e = omega (arith, ap (λ o. bytes_of_item (settled o)) e)
made_size line (Some a) b i e =
    let bs = a.token.spelling ++ b.token.spelling in
    omega (arith, joined_size line a b i bs (one_token bs) e, length-append a.token.spelling b.token.spelling)

-- a list with an operand and a token joined is no larger than both
pub end_size : (line : ℕ) (o : Bool) (is js : List Item) (b : Item) → Some js ≡ joined_end line o is b → (length js ≤ length is + 1) × (bytes_of_item js ≤ bytes_of_item is + length b.token.spelling)
end_size line o is js b e =
    let made = end_some (before o is) js (joined_to line (last_of o is) b) e in
    let front = before o is in
    let last = settled (last_of o is) in
    let new = made.0 ∷ [] in
    (omega (arith, ap length made.2, length-append front new, ap length (whole_list o is), length-append front last), omega (arith, made_size line (last_of o is) b made.0 made.1, ap bytes_of_item made.2, item_bytes-append front new, ap bytes_of_item (whole_list o is), item_bytes-append front last))
