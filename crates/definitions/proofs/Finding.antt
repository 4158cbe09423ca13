-- The place of a name among names. Assumes nothing.
use Rattle.std.proofs.Common.{◌≡◌, ℕ, suc, ◌+◌, ◌<◌, Bool, true, false, cond, List, [], ◌∷◌, map, length, position, Some, None, Option, sym, refl, ap, ◌∙◌, arith}
use lib.ListN.{length-map}
use Rattle.std.specs.Option.{option_map}
use Rattle.std.specs.Str.{bytes_eq}
use Rattle.std.specs.List.{position_from}
use Rattle.std.proofs.lemmas.Simd.{map-map}
use Rattle.std.proofs.lemmas.Iterator.Adapters.{position_from-zero}
use Rattle.token.specs.Tokens.{Token}
use Rattle.definition.specs.Definitions.{Macro}
use Rattle.definitions.specs.declared.entry.Entry.{Entry}
use Rattle.definitions.specs.Blocks.{macro_at}
use Rattle.definitions.specs.InForce.{index, slot}

numbered-step : (i : ℕ) (b : Bool) (o : Option ℕ) → cond b (Some i) (option_map (λ k. i + 1 + k) o) ≡ option_map (λ k. i + k) (cond b (Some 0) (option_map suc o))
numbered-step i true o = ap Some (omega arith)
numbered-step i false None = refl
numbered-step i false (Some k) = ap Some (omega arith)

-- the position of a word among what a function gives, from i on
position-from : {A : Type 0} (f : A → List ℕ) (n : List ℕ) (i : ℕ) (xs : List A) → position_from (λ x. bytes_eq n (f x)) i xs ≡ option_map (λ k. i + k) (index n (map f xs))
position-from f n i [] = refl
position-from f n i (x ∷ xs) =
    let b = bytes_eq n (f x) in ap (cond b (Some i)) (position-from f n (i + 1) xs) ∙ numbered-step i b (index n (map f xs))

from_zero : (o : Option ℕ) → option_map (λ k. 0 + k) o ≡ o
from_zero None = refl
from_zero (Some k) = ap Some (omega arith)

pub position-index : {A : Type 0} (f : A → List ℕ) (n : List ℕ) (xs : List A) → position (λ x. bytes_eq n (f x)) xs ≡ index n (map f xs)
position-index f n xs = position_from-zero (λ x. bytes_eq n (f x)) xs ∙ position-from f n 0 xs ∙ from_zero (index n (map f xs))

pub slot_at : (n : List ℕ) (ts : List Token) (es : List Entry) → position (λ e. bytes_eq n (macro_at ts e).name) es ≡ slot n (map (macro_at ts) es)
slot_at n ts es = position-index (λ e. (macro_at ts e).name) n es ∙ ap (index n) (sym (map-map (λ m. m.name) (macro_at ts) es))

index_below : (n : List ℕ) (ws : List (List ℕ)) (k : ℕ) → index n ws ≡ Some k → k < length ws
index_below n [] k e = let z : ◌≡◌ {A = ℕ} 0 1 = cc in omega arith
index_below n (w ∷ ws) k e = first (bytes_eq n w) (index n ws) (λ j q. index_below n ws j q) e
  where
    first : (b : Bool) (o : Option ℕ) → ((j : ℕ) → o ≡ Some j → j < length ws) → cond b (Some 0) (option_map suc o) ≡ Some k → k < length (w ∷ ws)
    first true o q h = let z : k ≡ 0 = cc in omega arith
    first false None q h = let z : ◌≡◌ {A = ℕ} 0 1 = cc in omega arith
    first false (Some j) q h = let z : k ≡ suc j = cc in omega (arith, q j refl)

pub slot_below : (n : List ℕ) (ms : List Macro) (k : ℕ) → slot n ms ≡ Some k → k < length ms
slot_below n ms k e = omega (arith, index_below n (map (λ m. m.name) ms) k e, length-map ms (λ m. m.name))
