-- Hints, and names that are not repeated. Assumes nothing.
use Rattle.std.proofs.Common.{◌≡◌, ℕ, zero, suc, ◌+◌, Bool, true, false, cond, not, eqb, List, [], ◌∷◌, ◌++◌, map, take, is_some, Some, None, Option, sym, refl, ap, ◌∙◌, arith}
use Rattle.std.specs.List.{slice_get}
use Rattle.std.specs.Option.{option_map}
use Rattle.std.specs.Str.{bytes_eq}
use Rattle.std.proofs.lemmas.Slice.Eq.{bytes_eq-Decides}
use Rattle.std.proofs.lemmas.List.{map_push}
use Rattle.std.proofs.lemmas.Option.{slice_get-map}
use Rattle.std.proofs.lemmas.Bool.{and_parts, and_from, both_ways}
use Rattle.std.proofs.lemmas.Bool.Decides.{nat_tests}
use Rattle.definition.specs.Definitions.{Macro}
use Rattle.definitions.specs.Hashes.{cell_of}
use Rattle.definitions.specs.Hints.{cell, hinted, distinct, is_named}
use Rattle.definitions.specs.InForce.{index, slot, without}
use Rattle.definitions.proofs.Lists.{take_some}

same_self : (w : List ℕ) → bytes_eq w w ≡ true
same_self w = (bytes_eq-Decides w w).1 refl

not_false : (b : Bool) → not b ≡ true → b ≡ false
not_false true e = cc
not_false false e = refl

-- a test that cannot be true
untrue : (b : Bool) → (b ≡ true → ⊥) → b ≡ false
untrue true h = absurd (h refl)
untrue false h = refl

same_turned : (v w : List ℕ) → bytes_eq v w ≡ false → bytes_eq w v ≡ false
same_turned v w h = untrue (bytes_eq w v) (λ e. both_ways (bytes_eq v w) h (ap (λ z. bytes_eq v z) ((bytes_eq-Decides w v).0 e) ∙ same_self v))

none_is : {A : Type 0} (o : Option A) → is_some o ≡ false → o ≡ None
none_is None e = refl
none_is (Some x) e = cc

-- the index of a name before others
index_later : (n w : List ℕ) (ws : List (List ℕ)) → bytes_eq n w ≡ false → index n (w ∷ ws) ≡ option_map suc (index n ws)
index_later n w ws e = ap (λ b. cond b (Some 0) (option_map suc (index n ws))) e

later_none : (o : Option ℕ) → is_some (option_map suc o) ≡ is_some o
later_none None = refl
later_none (Some k) = refl

index_first : (b : Bool) (o : Option ℕ) → is_some (cond b (Some 0) (option_map suc o)) ≡ false → (b ≡ false) × (is_some o ≡ false)
index_first true o e = (e, cc)
index_first false o e = (refl, sym (later_none o) ∙ e)

index_none : (n w : List ℕ) (ws : List (List ℕ)) → bytes_eq n w ≡ false → is_some (index n ws) ≡ false → is_some (index n (w ∷ ws)) ≡ false
index_none n w ws e h = ap is_some (index_later n w ws e) ∙ later_none (index n ws) ∙ h

-- a name whose cell has no slot does not stand among the names
unhinted : (cells : List (Option ℕ)) (n : List ℕ) (ws : List (List ℕ)) → hinted cells ws ≡ true → cell cells (cell_of n) ≡ None → is_some (index n ws) ≡ false
unhinted cells n [] h e = refl
unhinted cells n (w ∷ ws) h e =
    let parts = and_parts (is_some (cell cells (cell_of w))) (hinted cells ws) h in
    let differs : bytes_eq n w ≡ false = untrue (bytes_eq n w) (λ s. both_ways (is_some (cell cells (cell_of w))) (ap is_some (sym (ap (λ v. cell cells (cell_of v)) ((bytes_eq-Decides n w).0 s)) ∙ e)) parts.0) in
    index_none n w ws differs (unhinted cells n ws parts.1 e)

pub hint_none : (cells : List (Option ℕ)) (n : List ℕ) (ms : List Macro) → hinted cells (map (λ m. m.name) ms) ≡ true → cell cells (cell_of n) ≡ None → None ≡ slot n ms
hint_none cells n ms h e = sym (none_is (slot n ms) (unhinted cells n (map (λ m. m.name) ms) h e))

-- a name that stands at a place stands there first
index_at : (w : List ℕ) (ws : List (List ℕ)) (k : ℕ) → distinct ws ≡ true → slice_get ws k ≡ Some w → index w ws ≡ Some k
index_at w [] k h e = cc
index_at w (x ∷ ws) zero h e =
    let p : x ≡ w = cc in
    ap (λ b. cond b (Some 0) (option_map suc (index w ws))) (ap (bytes_eq w) p ∙ same_self w)
index_at w (x ∷ ws) (suc k) h e =
    let parts = and_parts (not (is_some (index x ws))) (distinct ws) h in
    let rest : index w ws ≡ Some k = index_at w ws k parts.1 e in
    let apart : is_some (index x ws) ≡ false = not_false (is_some (index x ws)) parts.0 in
    let differs : bytes_eq w x ≡ false = untrue (bytes_eq w x) (λ s. both_ways (is_some (index x ws)) apart (ap (λ v. is_some (index v ws)) (sym ((bytes_eq-Decides w x).0 s)) ∙ ap is_some rest)) in
    index_later w x ws differs ∙ ap (option_map suc) rest

named_some : (n : List ℕ) (o : Option Macro) → true ≡ is_named n o → option_map (λ m. m.name) o ≡ Some n
named_some n None e = cc
named_some n (Some m) e = ap Some (sym ((bytes_eq-Decides n m.name).0 (sym e)))

pub hint_right : (n : List ℕ) (ms : List Macro) (k : ℕ) → distinct (map (λ m. m.name) ms) ≡ true → true ≡ is_named n (slice_get ms k) → Some k ≡ slot n ms
hint_right n ms k h e =
    sym (index_at n (map (λ m. m.name) ms) k h (slice_get-map (λ m. m.name) ms k ∙ named_some n (slice_get ms k) e))

-- one more name

index-push : (w n : List ℕ) (ws : List (List ℕ)) → is_some (index w ws) ≡ false → bytes_eq w n ≡ false → is_some (index w (ws ++ n ∷ [])) ≡ false
index-push w n [] h e = index_none w n [] e refl
index-push w n (x ∷ ws) h e =
    let first = index_first (bytes_eq w x) (index w ws) h in
    index_none w x (ws ++ n ∷ []) first.0 (index-push w n ws first.1 e)

distinct_push : (ws : List (List ℕ)) (n : List ℕ) → distinct ws ≡ true → is_some (index n ws) ≡ false → distinct (ws ++ n ∷ []) ≡ true
distinct_push [] n h e = refl
distinct_push (w ∷ ws) n h e =
    let parts = and_parts (not (is_some (index w ws))) (distinct ws) h in
    let first = index_first (bytes_eq n w) (index n ws) e in
    let apart = index-push w n ws (not_false (is_some (index w ws)) parts.0) (same_turned n w first.0) in
    and_from _ _ (ap not apart) (distinct_push ws n parts.1 first.1)

pub unlike_push : (ms os : List Macro) (m : Macro) → os ≡ ms ++ m ∷ [] → distinct (map (λ o. o.name) ms) ≡ true → slot m.name ms ≡ None → distinct (map (λ o. o.name) os) ≡ true
unlike_push ms os m p h e =
    ap (λ l. distinct (map (λ o. o.name) l)) p ∙ ap distinct (map_push (λ o. o.name) ms m) ∙ distinct_push (map (λ o. o.name) ms) m.name h (ap is_some e)

-- a cell that is set for a name
module _ (old new : List (Option ℕ)) (n : List ℕ) (k : ℕ) (here : cell new (cell_of n) ≡ Some k) (others : (i : ℕ) → (i ≡ cell_of n → ⊥) → cell new i ≡ cell old i) where
  set_stays : (i : ℕ) → is_some (cell old i) ≡ true → is_some (cell new i) ≡ true
  set_stays i h = stays (eqb i (cell_of n)) refl
    where
      stays : (b : Bool) → eqb i (cell_of n) ≡ b → is_some (cell new i) ≡ true
      stays true e = let p : i ≡ cell_of n = grind (arith, nat_tests) in ap (λ v. is_some (cell new v)) p ∙ ap is_some here
      stays false e = ap is_some (others i (λ p. both_ways (eqb i (cell_of n)) e (grind (arith, nat_tests)))) ∙ h

  hinted-push : (ws : List (List ℕ)) → hinted old ws ≡ true → hinted new (ws ++ n ∷ []) ≡ true
  hinted-push [] h = and_from _ _ (ap is_some here) refl
  hinted-push (w ∷ ws) h =
      let parts = and_parts (is_some (cell old (cell_of w))) (hinted old ws) h in
      and_from _ _ (set_stays (cell_of w) parts.0) (hinted-push ws parts.1)

  pub noted_push : (ms os : List Macro) (m : Macro) → os ≡ ms ++ m ∷ [] → m.name ≡ n → hinted old (map (λ o. o.name) ms) ≡ true → hinted new (map (λ o. o.name) os) ≡ true
  noted_push ms os m p q h =
      ap (λ l. hinted new (map (λ o. o.name) l)) p ∙ ap (hinted new) (map_push (λ o. o.name) ms m) ∙ ap (λ w. hinted new (map (λ o. o.name) ms ++ w ∷ [])) q ∙ hinted-push (map (λ o. o.name) ms) h

  pub noted_more : (ms : List Macro) (i : ℕ) (m : Macro) → Some m ≡ slice_get ms i → m.name ≡ n → hinted old (map (λ o. o.name) (take i ms)) ≡ true → hinted new (map (λ o. o.name) (take (i + 1) ms)) ≡ true
  noted_more ms i m e q h = noted_push (take i ms) (take (i + 1) ms) m (take_some ms i m e) q h

-- names without one name are not repeated either

without_absent : (n w : List ℕ) (ms : List Macro) → is_some (slot w ms) ≡ false → is_some (slot w (without n ms)) ≡ false
without_absent n w [] h = refl
without_absent n w (m ∷ ms) h =
    let first = index_first (bytes_eq w m.name) (slot w ms) h in
    let rest = without_absent n w ms first.1 in
    elim (bytes_eq n m.name) as (λ b. is_some (slot w (cond b (without n ms) (m ∷ without n ms))) ≡ false) [
      | true ↦ rest
      | false ↦ index_none w m.name (map (λ o. o.name) (without n ms)) first.0 rest
    ]

pub unlike_without : (n : List ℕ) (ms : List Macro) → distinct (map (λ o. o.name) ms) ≡ true → distinct (map (λ o. o.name) (without n ms)) ≡ true
unlike_without n [] h = refl
unlike_without n (m ∷ ms) h =
    let parts = and_parts (not (is_some (slot m.name ms))) (distinct (map (λ o. o.name) ms)) h in
    let rest = unlike_without n ms parts.1 in
    let apart = without_absent n m.name ms (not_false (is_some (slot m.name ms)) parts.0) in
    elim (bytes_eq n m.name) as (λ b. distinct (map (λ o. o.name) (cond b (without n ms) (m ∷ without n ms))) ≡ true) [
      | true ↦ rest
      | false ↦ and_from _ _ (ap not apart) rest
    ]
