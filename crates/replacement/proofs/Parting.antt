-- A token that names no macro and is no ( parts the expansion in two. Assumes nothing.
use Rattle.std.proofs.Common.{◌≡◌, ℕ, zero, suc, ◌+◌, ◌-◌, ◌<◌, ◌≤◌, Bool, true, false, cond, not, ◌&&◌, List, [], ◌∷◌, ◌++◌, length, drop, Some, None, Option, refl, ap, append_assoc, arith, length-append}
use lib.Seq.{drop-append-le}
use Rattle.definition.specs.Definitions.{Macro, is_identifier}
use Rattle.replacement.specs.Items.{Item, with, shared, End, whole, fault, Outcome, giving, after, ◌then◌, over}
use Rattle.replacement.specs.Replacing.{found, Gathered, and_inside, opens, closes, gathered, arguments, Expander, result, Move, hand, go, halt, before, counting, built_in_result, called, applied, replaced, step, Step, Turn, along, along_run, turns, levels}
use Rattle.replacement.specs.Laws.{plain, Parting}
use Rattle.replacement.proofs.Counts.{Modest, Falls, step_falls}
use Rattle.replacement.proofs.Turns.{moving, turns_same, levels_modest}
use Rattle.replacement.proofs.Unchanged.{step-plain}

-- Tokens in parentheses

-- where they close within so many tokens, a longer list gives the same
abbrev Within : ℕ → List Item → Option Item → Gathered → Type 0
Within n is None g = Unit {0}
Within n is (Some c) g = (g ≡ record { inside = is; close = Some c }) × (suc (length is) ≤ n)

within-onto : (i : Item) (n : ℕ) (is : List Item) (o : Option Item) (g : Gathered) → Within n is o g → Within (suc n) (i ∷ is) o (and_inside i g)
within-onto i n is None g h = tt
within-onto i n is (Some c) g h = (ap (and_inside i) h.0, omega (arith, h.1))

-- a relation of both ways of a test
both : {A : Type 0} (P : A → A → Type 0) (b : Bool) (x y z v : A) → P x z → P y v → P (elim b [ true ↦ x | false ↦ y ]) (elim b [ true ↦ z | false ↦ v ])
both P true x y z v h k = h
both P false x y z v h k = k

abbrev Closing : ℕ → Gathered → Gathered → Type 0
Closing n g k = Within n g.inside g.close k

closing : (d : ℕ) (is rest : List Item) → Closing (length is) (gathered d is) (gathered d (is ++ rest))
closing d [] rest = tt
closing zero (i ∷ is) rest =
    let one : 1 ≤ suc (length is) = omega arith in
    let d = cond (opens i) 1 0 in
    let g = gathered d is in
    let k = gathered d (is ++ rest) in
    let here : Gathered = record { inside = []; close = Some i } in
    both (Closing (suc (length is))) (closes i) here (and_inside i g) here (and_inside i k) (refl, one) (within-onto i (length is) g.inside g.close k (closing d is rest))
closing (suc d) (i ∷ is) rest =
    let f = cond (opens i) (suc (suc d)) (suc d) in
    let onto : (n : ℕ) → Closing (suc (length is)) (and_inside i (gathered n is)) (and_inside i (gathered n (is ++ rest))) = λ n. within-onto i (length is) (gathered n is).inside (gathered n is).close (gathered n (is ++ rest)) (closing n is rest) in
    both (Closing (suc (length is))) (closes i) (and_inside i (gathered d is)) (and_inside i (gathered f is)) (and_inside i (gathered d (is ++ rest))) (and_inside i (gathered f (is ++ rest))) (onto d) (onto f)

-- Steps

-- what a step does where more stands behind the run: the same, unless it was a fault
abbrev Parts : List Item → Move → Move → Type 0
Parts rest (hand u n) m = m ≡ hand u n
Parts rest (go w r n) m = m ≡ go w (r ++ rest) n
Parts rest (halt k l n) m = Unit {0}

parts_option : {A : Type 0} (rest : List Item) (o : Option A) (x y : Move) (f g : A → Move) → Parts rest x y → ((a : A) → Parts rest (f a) (g a)) → Parts rest (elim o [ None ↦ x | Some a ↦ f a ]) (elim o [ None ↦ y | Some a ↦ g a ])
parts_option rest None x y f g h k = h
parts_option rest (Some a) x y f g h k = k a

parts_counting : (rest : List Item) (line left : ℕ) (f g : ℕ → Move) → ((n : ℕ) → Parts rest (f n) (g n)) → Parts rest (counting line left f) (counting line left g)
parts_counting rest line zero f g h = tt
parts_counting rest line (suc n) f g h = h n

parts_limit : (rest : List Item) (b : Bool) (line left : ℕ) (w a r : List Item) → r ≡ a ++ rest → Parts rest (cond b (halt 64 line left) (go w a left)) (cond b (halt 64 line left) (go w r left))
parts_limit rest true line left w a r e = tt
parts_limit rest false line left w a r e = ap (λ (x : List Item). go w x left) e

parts_before : (rest : List Item) (line : ℕ) (w a r is : List Item) (end : End) (left : ℕ) → r ≡ a ++ rest → Parts rest (before line w a (record { items = is; ending = end; left = left })) (before line w r (record { items = is; ending = end; left = left }))
parts_before rest line w a r is whole left e = parts_limit rest (over (is ++ w)) line left (is ++ w) a r e
parts_before rest line w a r is (fault n l) left e = tt

parts_halts : (rest : List Item) (b : Bool) (l left : ℕ) (m : Move) → Parts rest (elim b [ true ↦ halt 64 l left | false ↦ halt 51 l left ]) m
parts_halts rest true l left m = tt
parts_halts rest false l left m = tt

-- what is used of the run is used of the longer one
dropped : (used : ℕ) (w a rest : List Item) → used ≤ length w + length a → drop (used - length w) (a ++ rest) ≡ drop (used - length w) a ++ rest
dropped used w a rest h = drop-append-le (used - length w) a rest (omega arith)

parts_called : (e : Expander) (m : Macro) (ps : List (List ℕ)) (t : Item) (w a rest : List Item) (end : End) (left n : ℕ) (is : List Item) (o : Option Item) (g : Gathered) → Within n is o g → suc n ≤ length w + length a → Parts rest (called e m ps t w a whole left (record { inside = is; close = o })) (called e m ps t w (a ++ rest) end left g)
parts_called e m ps t w a rest end left n is None g h k = parts_halts rest (over is) t.token.line left (called e m ps t w (a ++ rest) end left g)
parts_called e m ps t w a rest end left n is (Some close) g h k =
    let l = t.token.line in
    let used = suc (suc (length is)) in
    let hs = with (shared t.hides close.hides) t.token.spelling in
    let made : List (List Item) → ℕ → Outcome Item = λ args n. result e t (Some ps) args hs m.list n in
    let next : List Item → List (List Item) → ℕ → Move = λ r args n. before l (drop used w) (drop (used - length w) r) (made args n) in
    let same : drop (used - length w) (a ++ rest) ≡ drop (used - length w) a ++ rest = dropped used w a rest (omega (arith, h.1)) in
    rw h.0
    (both (Parts rest) (over is) _ _ _ _ tt
    (parts_option rest (arguments ps is) (halt 52 l left) (halt 52 l left) (λ args. counting l left (next a args)) (λ args. counting l left (next (a ++ rest) args)) tt
    (λ args. parts_counting rest l left (next a args) (next (a ++ rest) args)
    (λ n. parts_before rest l (drop used w) (drop (used - length w) a) (drop (used - length w) (a ++ rest)) (made args n).items (made args n).ending (made args n).left same))))

-- the list that a function-like name looks at, with a token behind it that does not open
parts_applied : (e : Expander) (m : Macro) (ps : List (List ℕ)) (u : Item) (w a : List Item) (t : Item) (behind : List Item) (end : End) (left : ℕ) (is : List Item) → opens t ≡ false → length is ≡ length w + length a → Parts (t ∷ behind) (applied e m ps u w a whole left is) (applied e m ps u w (a ++ t ∷ behind) end left (is ++ t ∷ behind))
parts_applied e m ps u w a t behind end left [] p h = rw (p, applied) refl
parts_applied e m ps u w a t behind end left (i ∷ is) p h =
    let rest = t ∷ behind in
    let g = gathered 0 is in
    let k = gathered 0 (is ++ rest) in
    both (Parts rest) (opens i) (called e m ps u w a whole left g) (hand u left) (called e m ps u w (a ++ rest) end left k) (hand u left) (parts_called e m ps u w a rest end left (length is) g.inside g.close k (closing 0 is rest) (omega arith)) refl

parts_replaced : (e : Expander) (u : Item) (w a : List Item) (t : Item) (behind : List Item) (end : End) (left : ℕ) (m : Macro) → opens t ≡ false → Parts (t ∷ behind) (replaced e u w a whole left m) (replaced e u w (a ++ t ∷ behind) end left m)
parts_replaced e u w a t behind end left m p =
    let rest = t ∷ behind in
    let l = u.token.line in
    let made : ℕ → Outcome Item = λ n. result e u None [] (with u.hides u.token.spelling) m.list n in
    parts_option rest m.parameters (counting l left (λ n. before l w a (made n))) (counting l left (λ n. before l w (a ++ rest) (made n))) (λ ps. applied e m ps u w a whole left (w ++ a)) (λ ps. applied e m ps u w (a ++ rest) end left (w ++ (a ++ rest)))
    (parts_counting rest l left (λ n. before l w a (made n)) (λ n. before l w (a ++ rest) (made n)) (λ n. parts_before rest l w a (a ++ rest) (made n).items (made n).ending (made n).left refl))
    (λ ps. rw (← append_assoc w a rest) (parts_applied e m ps u w a t behind end left (w ++ a) p (length-append w a)))

parts_choice : (rest : List Item) (b : Bool) (o : Option Item) (f : Option Macro) (z : Move) (x : Item → Move) (y v : Macro → Move) → Parts rest z z → ((u : Item) → Parts rest (x u) (x u)) → ((m : Macro) → Parts rest (y m) (v m)) → Parts rest (elim b [ false ↦ z | true ↦ elim o [ Some u ↦ x u | None ↦ elim f [ None ↦ z | Some m ↦ y m ] ] ]) (elim b [ false ↦ z | true ↦ elim o [ Some u ↦ x u | None ↦ elim f [ None ↦ z | Some m ↦ v m ] ] ])
parts_choice rest false o f z x y v h k r = h
parts_choice rest true (Some u) f z x y v h k r = k u
parts_choice rest true None None z x y v h k r = h
parts_choice rest true None (Some m) z x y v h k r = r m

parts_step : (e : Expander) (ms : List Macro) (file : List ℕ) (end : End) (t : Item) (behind : List Item) → opens t ≡ false → (u : Item) (w a : List Item) (left : ℕ) → Parts (t ∷ behind) (step e ms file whole u w a left) (step e ms file end u w (a ++ t ∷ behind) left)
parts_step e ms file end t behind p u w a left =
    let rest = t ∷ behind in
    let named : Item → Move = λ v. counting u.token.line left (λ n. hand v n) in
    parts_choice rest (is_identifier u.token.kind && not (u.hides u.token.spelling)) (built_in_result file u) (found u.token.spelling ms) (hand u left) named (replaced e u w a whole left) (replaced e u w (a ++ rest) end left) refl (λ v. parts_counting rest u.token.line left (λ n. hand v n) (λ n. hand v n) (λ n. refl)) (λ m. parts_replaced e u w a t behind end left m p)

-- Steps in a row

-- a token before what goes on behind another outcome
onto-then : (u : Item) (n : ℕ) (is : List Item) (end : End) (left : ℕ) (next : ℕ → Outcome Item) → giving (u ∷ []) n then (λ k. after is end left next) ≡ after (u ∷ is) end left next
onto-then u n is whole left next = refl
onto-then u n is (fault k l) left next = refl

broken : {A : Type 0} (k l : ℕ) (x y : A) → fault k l ≡ whole → x ≡ y
broken k l x y e = cc

-- two moves of which one has more behind it
moved : (rest : List Item) (f h : Turn) (p q next : ℕ → Outcome Item) (left : ℕ) (m v : Move) → Falls left m → Parts rest m v → ((n : ℕ) (w r : List Item) → n < left → (f n w r).ending ≡ whole → h n w (r ++ rest) ≡ (f n w r then next)) → ((n : ℕ) → n ≤ left → (p n).ending ≡ whole → q n ≡ (p n then next)) → (moving f p m).ending ≡ whole → moving h q v ≡ (moving f p m then next)
moved rest f h p q next left (hand u n) v d e a b c = rw e (rw (b n d c) (onto-then u n (p n).items (p n).ending (p n).left next))
moved rest f h p q next left (go w r n) v d e a b c = rw e (a n w r d c)
moved rest f h p q next left (halt k l n) v d e a b c = broken k l _ _ c

module _ (s z : Step) (t : Item) (behind : List Item) (end : End) (falls : (u : Item) (w run : List Item) (left : ℕ) → Falls left (s u w run left)) (parts : (u : Item) (w a : List Item) (left : ℕ) → Parts (t ∷ behind) (s u w a left) (z u w (a ++ t ∷ behind) left)) (f h : Turn) (next : ℕ → Outcome Item) where
  -- what goes on where the run was at its end, and where a result goes before W
  abbrev Ends : ℕ → Type 0
  Ends left = (n : ℕ) → n ≤ left → along_run z h end n (t ∷ behind) ≡ next n

  abbrev Turned : ℕ → Type 0
  Turned left = (n : ℕ) (w r : List Item) → n < left → (f n w r).ending ≡ whole → h n w (r ++ t ∷ behind) ≡ (f n w r then next)

  run_parts : (left : ℕ) (a : List Item) → Ends left → Turned left → (along_run s f whole left a).ending ≡ whole → along_run z h end left (a ++ t ∷ behind) ≡ (along_run s f whole left a then next)
  run_parts left [] k r c = k left (omega arith)
  run_parts left (u ∷ a) k r c = moved (t ∷ behind) f h (λ n. along_run s f whole n a) (λ n. along_run z h end n (a ++ t ∷ behind)) next left (s u [] a left) (z u [] (a ++ t ∷ behind) left) (falls u [] a left) (parts u [] a left) r (λ n d. run_parts n a (λ m l. k m (omega arith)) (λ m w b l. r m w b (omega arith))) c

  along_parts : (left : ℕ) (w a : List Item) → Ends left → Turned left → (along s f whole left w a).ending ≡ whole → along z h end left w (a ++ t ∷ behind) ≡ (along s f whole left w a then next)
  along_parts left [] a k r c = run_parts left a k r c
  along_parts left (u ∷ w) a k r c = moved (t ∷ behind) f h (λ n. along s f whole n w a) (λ n. along z h end n w (a ++ t ∷ behind)) next left (s u w a left) (z u w (a ++ t ∷ behind) left) (falls u w a left) (parts u w a left) r (λ n d. along_parts n w a (λ m l. k m (omega arith)) (λ m v b l. r m v b (omega arith))) c

module _ (e : Expander) (modest : Modest e) (ms : List Macro) (file : List ℕ) (end : End) (t : Item) (behind : List Item) (p : plain ms file t ≡ true) (q : opens t ≡ false) where
  -- the token itself, and what stands behind it
  abbrev next : ℕ → Outcome Item
  next n = giving (t ∷ []) n then (λ k. turns e ms file end (suc k) k [] behind)

  ends : (g n : ℕ) → n ≤ g → along_run (step e ms file end) (turns e ms file end g) end n (t ∷ behind) ≡ next n
  ends g n d =
      rw (step-plain e ms file end t [] behind n p, along_run) (ap (λ (o : Outcome Item). giving (t ∷ []) n then (λ k. o)) (turns_same e modest ms file end (suc g) (suc n) n [] behind (omega arith) (omega arith)))

  turns_parts : (g left : ℕ) (w a : List Item) → left < g → (turns e ms file whole g left w a).ending ≡ whole → turns e ms file end g left w (a ++ t ∷ behind) ≡ (turns e ms file whole g left w a then next)
  turns_parts zero left w a d c = absurd (omega arith)
  turns_parts (suc g) left w a d c = along_parts (step e ms file whole) (step e ms file end) t behind end (step_falls e modest ms file whole) (parts_step e ms file end t behind q) (turns e ms file whole g) (turns e ms file end g) next left w a (λ n l. ends g n (omega arith)) (λ n v r l. turns_parts g n v r (omega arith)) c

pub parting : Parting
parting ms file left before t behind end p q c = turns_parts (levels ms file 16) (levels_modest ms file 16) ms file end t behind p q (suc left) left [] before (omega arith) c
