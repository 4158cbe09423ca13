-- No token handed on is an identifier that spells a built-in name. Assumes nothing.
use Rattle.std.proofs.Common.{◌≡◌, ℕ, zero, suc, ◌-◌, Bool, true, false, cond, not, ◌&&◌, ◌||◌, eqb, ltb, leb, List, [], ◌∷◌, ◌++◌, map, length, drop, Some, None, codes, Option, sym, refl, ap, ◌∙◌}
use Rattle.std.specs.List.{slice_get}
use Rattle.std.specs.Str.{bytes_eq}
use Rattle.std.proofs.lemmas.Bool.{both_ways, and_left, and_right, and_from, or_from, not_from_false, cond_both}
use Rattle.std.proofs.lemmas.Slice.Eq.{bytes_eq-Decides}
use Rattle.token.specs.declared.Kind.{Kind}
use Rattle.token.specs.Tokens.{Token}
use Rattle.lexer.specs.Cutting.{one_token}
use Rattle.definition.specs.Definitions.{Macro, member, variable, is_identifier, hash, join}
use Rattle.replacement.specs.Items.{Item, fresh, marking_first, placing, with, shared, hiding, End, whole, fault, Outcome, failing, giving, after, ◌then◌, over, limited}
use Rattle.replacement.specs.Joining.{Piece, piece, joiner, nothing, literal, is_string, inner, joined_token, operand, Join, good, bad, judged, joining, join_all, settled as kept}
use Rattle.replacement.specs.Replacing.{found, place, Gathered, and_inside, opens, closes, comma, gathered, onto_first, parted, is_nil, arguments, Expander, raw, argument_pieces, expanded, argument_of, operand_of, substituted, built, limited_pieces, piece_bytes, joined_outcome, result, Move, hand, go, halt, before, counting, built_in_result, called, applied, replaced, step, Step, Turn, along_run, along, turns, levels, expand}
use Rattle.replacement.specs.Laws.{built_ins, Open, none, and, settled, Settled}

-- Lists and options each of whose elements has a property

abbrev Each : {A : Type 0} → (A → Type 0) → List A → Type 0
Each P [] = Unit {0}
Each P (x ∷ xs) = P x × Each P xs

abbrev Perhaps : {A : Type 0} → (A → Type 0) → Option A → Type 0
Perhaps P None = Unit {0}
Perhaps P (Some x) = P x

each_append : {A : Type 0} (P : A → Type 0) (xs ys : List A) → Each P xs → Each P ys → Each P (xs ++ ys)
each_append P [] ys h k = k
each_append P (x ∷ xs) ys h k = (h.0, each_append P xs ys h.1 k)

each_drop : {A : Type 0} (P : A → Type 0) (n : ℕ) (xs : List A) → Each P xs → Each P (drop n xs)
each_drop P zero xs h = h
each_drop P (suc n) [] h = tt
each_drop P (suc n) (x ∷ xs) h = each_drop P n xs h.1

each_map : {A B : Type 0} (P : A → Type 0) (Q : B → Type 0) (f : A → B) → ((x : A) → P x → Q (f x)) → (xs : List A) → Each P xs → Each Q (map f xs)
each_map P Q f k [] h = tt
each_map P Q f k (x ∷ xs) h = (k x h.0, each_map P Q f k xs h.1)

each_weaker : {A : Type 0} (P Q : A → Type 0) → ((x : A) → P x → Q x) → (xs : List A) → Each P xs → Each Q xs
each_weaker P Q k [] h = tt
each_weaker P Q k (x ∷ xs) h = (k x h.0, each_weaker P Q k xs h.1)

each_nth : {A : Type 0} (P : A → Type 0) (xs : List A) (n : ℕ) → Each P xs → Perhaps P (slice_get xs n)
each_nth P [] n h = tt
each_nth P (x ∷ xs) zero h = h.0
each_nth P (x ∷ xs) (suc n) h = each_nth P xs n h.1

each_then : {A : Type 0} (P : A → Type 0) (is : List A) (end : End) (left : ℕ) (next : ℕ → Outcome A) → Each P is → ((n : ℕ) → Each P (next n).items) → Each P (after is end left next).items
each_then P is whole left next h k = each_append P is (next left).items h (k left)
each_then P is (fault n l) left next h k = h

-- a property of both ways of a test
either : {A : Type 0} (P : A → Type 0) (b : Bool) (x y : A) → P x → P y → P (elim b [ true ↦ x | false ↦ y ])
either P true x y h k = h
either P false x y h k = k

-- Hide sets that hold no built-in name

abbrev Free : (List ℕ → Bool) → Type 0
Free h = (n : List ℕ) → member n built_ins ≡ true → h n ≡ false

-- of a token, of what stands in a list before joining, and of all that an outcome has
abbrev Clear : Item → Type 0
Clear i = Free i.hides

abbrev ClearPiece : Piece → Type 0
ClearPiece (piece i) = Clear i
ClearPiece (joiner i) = Clear i
ClearPiece nothing = Unit {0}

abbrev ClearAll : Outcome Item → Type 0
ClearAll o = Each Clear o.items

abbrev ClearPieces : Outcome Piece → Type 0
ClearPieces o = Each ClearPiece o.items

free_nothing : Free (λ n. false)
free_nothing n e = refl

free_shared : (h k : List ℕ → Bool) → Free h → Free (shared h k)
free_shared h k f n e = and_left (h n) (k n) (f n e)

-- a built-in name is not the same as one that is not
other : (m n : List ℕ) → member m built_ins ≡ true → member n built_ins ≡ false → (b : Bool) → bytes_eq m n ≡ b → b ≡ false
other m n p q true e = absurd (both_ways (member m built_ins) (ap (λ (x : List ℕ). member x built_ins) ((bytes_eq-Decides m n).0 e) ∙ q) p)
other m n p q false e = refl

free_with : (h : List ℕ → Bool) (n : List ℕ) → Free h → member n built_ins ≡ false → Free (with h n)
free_with h n f q m e = or_from (bytes_eq m n) (h m) (other m n e q (bytes_eq m n) refl) (f m e)

clear_hiding : (h : List ℕ → Bool) → Free h → (i : Item) → Clear i → Clear (hiding h i)
clear_hiding h f i c m e = or_from (i.hides m) (h m) (c m e) (f m e)

clear_first : (m : Bool) (is : List Item) → Each Clear is → Each Clear (marking_first m is)
clear_first m [] h = tt
clear_first m (i ∷ is) h = (h.0, h.1)

-- Tokens in parentheses

abbrev ClearGathered : Gathered → Type 0
ClearGathered g = Each Clear g.inside × Perhaps Clear g.close

clear_gathered : (d : ℕ) (is : List Item) → Each Clear is → ClearGathered (gathered d is)
clear_gathered d [] h = (tt, tt)
clear_gathered zero (i ∷ is) h =
    let k = clear_gathered (cond (opens i) 1 0) is h.1 in
    either ClearGathered (closes i) (record { inside = []; close = Some i }) (and_inside i (gathered (cond (opens i) 1 0) is)) (tt, h.0) ((h.0, k.0), k.1)
clear_gathered (suc d) (i ∷ is) h =
    let j = clear_gathered d is h.1 in
    let k = clear_gathered (cond (opens i) (suc (suc d)) (suc d)) is h.1 in
    either ClearGathered (closes i) (and_inside i (gathered d is)) (and_inside i (gathered (cond (opens i) (suc (suc d)) (suc d)) is)) ((h.0, j.0), j.1) ((h.0, k.0), k.1)

clear_onto : (i : Item) (args : List (List Item)) → Clear i → Each (Each Clear) args → Each (Each Clear) (onto_first i args)
clear_onto i [] c h = ((c, tt), tt)
clear_onto i (a ∷ args) c h = ((c, h.0), h.1)

clear_parted : (most d : ℕ) (is : List Item) → Each Clear is → Each (Each Clear) (parted most d is)
clear_parted most d [] h = (tt, tt)
clear_parted most d (i ∷ is) h =
    let e = cond (opens i) (suc d) (cond (closes i) (d - 1) d) in
    either (Each (Each Clear)) (comma i && eqb d 0 && leb 1 most) ([] ∷ parted (most - 1) 0 is) (onto_first i (parted most e is)) (tt, clear_parted (most - 1) 0 is h.1) (clear_onto i (parted most e is) h.0 (clear_parted most e is h.1))

clear_arguments : (ps : List (List ℕ)) (is : List Item) → Each Clear is → Perhaps (Each (Each Clear)) (arguments ps is)
clear_arguments ps is h =
    let most = cond (member variable ps) (length ps - 1) (length is) in
    let args = parted most 0 is in
    let P : Option (List (List Item)) → Type 0 = Perhaps (Each (Each Clear)) in
    cond_both (eqb (length ps) 0) (cond (is_nil is) (Some []) None) (cond (eqb (length args) (length ps)) (Some args) None) P (λ _. cond_both (is_nil is) (Some []) None P (λ _. tt) (λ _. tt)) (λ _. cond_both (eqb (length args) (length ps)) (Some args) None P (λ _. clear_parted most 0 is h) (λ _. tt))

-- Building a result

-- where the hide sets of an argument hold no built-in name, neither do those of what it expands to
abbrev Opening : Expander → Type 0
Opening e = (line left : ℕ) (a : List Item) → Each Clear a → ClearAll (e line left a)

clear_raw : (m : Bool) (a : List Item) → Each Clear a → Each ClearPiece (raw m a)
clear_raw m [] h = (tt, tt)
clear_raw m (i ∷ is) h = (h.0, each_map Clear ClearPiece piece (λ x c. c) is h.1)

clear_pieces : (m : Bool) (is : List Item) (end : End) (left : ℕ) → Each Clear is → ClearPieces (argument_pieces m is end left)
clear_pieces m is whole left h = each_map Clear ClearPiece piece (λ x d. d) (marking_first m is) (clear_first m is h)
clear_pieces m is (fault n l) left h = tt

clear_expanded : (e : Expander) → Opening e → (line : ℕ) (m : Bool) (a : List Item) (left : ℕ) → Each Clear a → ClearPieces (expanded e line m a left)
clear_expanded e k line m a left h =
    let o = limited line (e line left a) in
    let c : ClearAll o = cond_both (over (e line left a).items) (failing 64 line (e line left a).left) (e line left a) ClearAll (λ _. tt) (λ _. k line left a h) in
    clear_pieces m o.items o.ending o.left c

picked : (args : List (List Item)) → Each (Each Clear) args → (o : Option ℕ) → Perhaps (Each Clear) (elim o [ None ↦ None | Some k ↦ slice_get args k ])
picked args h None = tt
picked args h (Some k) = each_nth (Each Clear) args k h

clear_operand : (o : Option (List Item)) → Perhaps (Each Clear) o → Each Clear (operand_of o)
clear_operand None h = tt
clear_operand (Some a) h = h

clear_substituted : (e : Expander) → Opening e → (line : ℕ) (b : Bool) (t : Token) (o : Option (List Item)) (left : ℕ) → Perhaps (Each Clear) o → ClearPieces (substituted e line b t o left)
clear_substituted e k line b t None left h = (free_nothing, tt)
clear_substituted e k line true t (Some a) left h = clear_raw t.marked a h
clear_substituted e k line false t (Some a) left h = clear_expanded e k line t.marked a left h

clear_literal : (t : Token) (line : ℕ) (a : List Item) (left : ℕ) → ClearPieces (literal t line a left)
clear_literal t line a left = cond_both (is_string (one_token (34 ∷ (inner a ++ 34 ∷ [])))) _ _ ClearPieces (λ _. (free_nothing, tt)) (λ _. tt)

clear_then : (o : Outcome Piece) (next : ℕ → Outcome Piece) → ClearPieces o → ((n : ℕ) → ClearPieces (next n)) → ClearPieces (o then next)
clear_then o next h k = each_then ClearPiece o.items o.ending o.left next h k

clear_built : (e : Expander) → Opening e → (line : ℕ) (ps : Option (List (List ℕ))) (args : List (List Item)) → Each (Each Clear) args → (joins : Bool) (left : ℕ) (ts : List Token) → ClearPieces (built e line ps args joins left ts)
clear_built e k line ps args h joins left [] = tt
clear_built e k line None args h joins left (t ∷ ts) =
    let next : Bool → ℕ → Outcome Piece = λ b n. built e line None args b n ts in
    let rest : (b : Bool) (n : ℕ) → ClearPieces (next b n) = λ b n. clear_built e k line None args h b n ts in
    let a : Outcome Piece = giving (joiner (fresh (placing line t)) ∷ []) left in
    let b : Outcome Piece = giving (piece (fresh (placing line t)) ∷ []) left in
    either ClearPieces (join t) (a then next true) (b then next false) (clear_then a (next true) (free_nothing, tt) (rest true)) (clear_then b (next false) (free_nothing, tt) (rest false))
clear_built e k line (Some ps) args h joins left (t ∷ []) =
    let a : Outcome Piece = giving (joiner (fresh (placing line t)) ∷ []) left in
    let o = argument_of ps args t in
    either ClearPieces (join t) a (substituted e line joins t o left) (free_nothing, tt) (clear_substituted e k line joins t o left (picked args h (place 0 t.spelling ps)))
clear_built e k line (Some ps) args h joins left (t ∷ u ∷ ts) =
    let next : Bool → ℕ → Outcome Piece = λ b n. built e line (Some ps) args b n (u ∷ ts) in
    let rest : (b : Bool) (n : ℕ) → ClearPieces (next b n) = λ b n. clear_built e k line (Some ps) args h b n (u ∷ ts) in
    let behind : ℕ → Outcome Piece = λ n. built e line (Some ps) args false n ts in
    let a : Outcome Piece = giving (joiner (fresh (placing line t)) ∷ []) left in
    let b = literal t line (operand_of (argument_of ps args u)) left in
    let c = substituted e line (joins || join u) t (argument_of ps args t) left in
    let d : ClearPieces c = clear_substituted e k line (joins || join u) t (argument_of ps args t) left (picked args h (place 0 t.spelling ps)) in
    either ClearPieces (join t) (a then next true) (elim (hash t) [ true ↦ b then behind | false ↦ c then next false ]) (clear_then a (next true) (free_nothing, tt) (rest true))
    (either ClearPieces (hash t) (b then behind) (c then next false) (clear_then b behind (clear_literal t line (operand_of (argument_of ps args u)) left) (λ n. clear_built e k line (Some ps) args h false n ts)) (clear_then c (next false) d (rest false)))

-- Joining

abbrev ClearJoin : Join → Type 0
ClearJoin bad = Unit {0}
ClearJoin (good o) = Perhaps Clear o

clear_judged : (o : Option Item) → Perhaps Clear o → ClearJoin (judged o)
clear_judged None h = tt
clear_judged (Some i) h = h

clear_joined : (a b : Item) (line : ℕ) (bs : List ℕ) (k : Option Kind) → Clear a → Perhaps Clear (joined_token a b line bs k)
clear_joined a b line bs None h = tt
clear_joined a b line bs (Some k) h = free_shared a.hides b.hides h

clear_joining : (line : ℕ) (a b : Option Item) → Perhaps Clear a → Perhaps Clear b → ClearJoin (joining line a b)
clear_joining line None b h k = k
clear_joining line (Some a) None h k = h
clear_joining line (Some a) (Some b) h k = let bs = a.token.spelling ++ b.token.spelling in clear_judged (joined_token a b line bs (one_token bs)) (clear_joined a b line bs (one_token bs) h)

clear_side : (p : Piece) → ClearPiece p → Perhaps Clear (operand p)
clear_side (piece i) h = h
clear_side (joiner i) h = h
clear_side nothing h = tt

clear_option : (o : Option Item) → Perhaps Clear o → Each Clear (kept o)
clear_option None h = tt
clear_option (Some i) h = (h, tt)

clear_choice : (line left : ℕ) (next : Option Item → Outcome Item) → ((b : Option Item) → Perhaps Clear b → ClearAll (next b)) → (j : Join) → ClearJoin j → ClearAll (elim j [ bad ↦ failing 53 line left | good b ↦ next b ])
clear_choice line left next k bad h = tt
clear_choice line left next k (good b) h = k b h

clear_all : (line left : ℕ) (a : Option Item) (ps : List Piece) → Perhaps Clear a → Each ClearPiece ps → ClearAll (join_all line left a ps)
clear_all line left a [] h k = clear_option a h
clear_all line left a (piece i ∷ ps) h k = each_append Clear (kept a) (join_all line left (Some i) ps).items (clear_option a h) (clear_all line left (Some i) ps k.0 k.1)
clear_all line left a (nothing ∷ ps) h k = each_append Clear (kept a) (join_all line left None ps).items (clear_option a h) (clear_all line left None ps tt k.1)
clear_all line left a (joiner j ∷ []) h k = clear_option a h
clear_all line left a (joiner j ∷ p ∷ ps) h k =
    clear_choice line left (λ b. join_all line left b ps) (λ b c. clear_all line left b ps c k.1.1) (joining line a (operand p)) (clear_joining line a (operand p) h (clear_side p k.1.0))

clear_outcome : (line : ℕ) (ps : List Piece) (end : End) (left : ℕ) → Each ClearPiece ps → ClearAll (joined_outcome line (record { items = ps; ending = end; left = left }))
clear_outcome line ps whole left h = clear_all line left None ps tt h
clear_outcome line ps (fault n l) left h = tt

clear_limited : (line : ℕ) (o : Outcome Piece) → ClearPieces o → ClearPieces (limited_pieces line o)
clear_limited line o h = cond_both (ltb 1024 (length o.items) || ltb 16384 (piece_bytes o.items)) (failing 64 line o.left) o ClearPieces (λ _. tt) (λ _. h)

clear_result : (e : Expander) → Opening e → (t : Item) (ps : Option (List (List ℕ))) (args : List (List Item)) → Each (Each Clear) args → (h : List ℕ → Bool) → Free h → (list : List Token) (left : ℕ) → ClearAll (result e t ps args h list left)
clear_result e k t ps args c h f list left =
    let l = t.token.line in
    let p = limited_pieces l (built e l ps args false left list) in
    let o = joined_outcome l p in
    let d : ClearAll o = clear_outcome l p.items p.ending p.left (clear_limited l (built e l ps args false left list) (clear_built e k l ps args c false left list)) in
    clear_first t.token.marked (map (hiding h) o.items) (each_map Clear Clear (hiding h) (clear_hiding h f) o.items d)

-- Steps

-- a token that may be handed on
abbrev Fine : Item → Type 0
Fine i = Clear i × (not (is_identifier i.token.kind && member i.token.spelling built_ins) ≡ true)

abbrev FineAll : Outcome Item → Type 0
FineAll o = Each Fine o.items

-- what a step leaves: a token that may be handed on, or hide sets that hold no built-in name
abbrev Moved : Move → Type 0
Moved (hand u n) = Fine u
Moved (go w r n) = Each Clear w × Each Clear r
Moved (halt k l n) = Unit {0}

moved_before : (line : ℕ) (w run is : List Item) (end : End) (left : ℕ) → Each Clear w → Each Clear run → Each Clear is → Moved (before line w run (record { items = is; ending = end; left = left }))
moved_before line w run is whole left h k c = cond_both (over (is ++ w)) (halt 64 line left) (go (is ++ w) run left) Moved (λ _. tt) (λ _. (each_append Clear is w c h, k))
moved_before line w run is (fault n l) left h k c = tt

moved-counting : (line left : ℕ) (next : ℕ → Move) → ((n : ℕ) → Moved (next n)) → Moved (counting line left next)
moved-counting line zero next k = tt
moved-counting line (suc n) next k = k n

-- what a built-in name stands for, and that a name is none
abbrev Known : Item → Option Item → Type 0
Known t None = member t.token.spelling built_ins ≡ false
Known t (Some u) = Fine u

known : (file : List ℕ) (t : Item) → Clear t → Known t (built_in_result file t)
known file t c =
    let s = t.token.spelling in
    cond_both (bytes_eq s (codes "__LINE__")) _ _ (Known t) (λ _. (c, refl))
    (λ p. cond_both (bytes_eq s (codes "__FILE__")) _ _ (Known t) (λ _. (c, refl))
    (λ q. cond_both (bytes_eq s (codes "__STDC__")) _ _ (Known t) (λ _. (c, refl))
    (λ r. cond_both (bytes_eq s (codes "__STDC_VERSION__")) _ _ (Known t) (λ _. (c, refl))
    (λ v. or_from _ _ p (or_from _ _ q (or_from _ _ r (or_from _ _ v refl)))))))

-- a token that hides itself, or is no identifier
held : (i h m : Bool) → (m ≡ true → h ≡ false) → (i && not h) ≡ false → not (i && m) ≡ true
held false h m k e = refl
held true h false k e = refl
held true true true k e = sym (k refl)
held true false true k e = sym e

-- a token that spells no built-in name
unspelled : (i m : Bool) → m ≡ false → not (i && m) ≡ true
unspelled i m e = not_from_false (i && m) (and_right i m e)

moved_end : (l left : ℕ) (end : End) → Moved (elim end [ whole ↦ halt 51 l left | fault n k ↦ halt n k left ])
moved_end l left whole = tt
moved_end l left (fault n k) = tt

moved-arguments : (l left : ℕ) (next : List (List Item) → Move) → ((args : List (List Item)) → Each (Each Clear) args → Moved (next args)) → (o : Option (List (List Item))) → Perhaps (Each (Each Clear)) o → Moved (elim o [ None ↦ halt 52 l left | Some args ↦ next args ])
moved-arguments l left next k None h = tt
moved-arguments l left next k (Some args) h = k args h

moved-called : (e : Expander) → Opening e → (m : Macro) (ps : List (List ℕ)) (t : Item) (w run : List Item) (end : End) (left : ℕ) (is : List Item) (o : Option Item) → Clear t → member t.token.spelling built_ins ≡ false → Each Clear w → Each Clear run → Each Clear is → Perhaps Clear o → Moved (called e m ps t w run end left (record { inside = is; close = o }))
moved-called e k m ps t w run end left is None c q hw hr hi ho = either Moved (over is) _ _ tt (moved_end t.token.line left end)
moved-called e k m ps t w run end left is (Some close) c q hw hr hi ho =
    let l = t.token.line in
    let used = suc (suc (length is)) in
    let h = with (shared t.hides close.hides) t.token.spelling in
    let f : Free h = free_with (shared t.hides close.hides) t.token.spelling (free_shared t.hides close.hides c) q in
    let made : List (List Item) → ℕ → Outcome Item = λ args n. result e t (Some ps) args h m.list n in
    let next : List (List Item) → ℕ → Move = λ args n. before l (drop used w) (drop (used - length w) run) (made args n) in
    either Moved (over is) _ _ tt
    (moved-arguments l left (λ args. counting l left (next args))
    (λ args a. moved-counting l left (next args) (λ n. moved_before l (drop used w) (drop (used - length w) run) (made args n).items (made args n).ending (made args n).left (each_drop Clear used w hw) (each_drop Clear (used - length w) run hr) (clear_result e k t (Some ps) args a h f m.list n)))
    (arguments ps is) (clear_arguments ps is hi))

moved-applied : (e : Expander) → Opening e → (m : Macro) (ps : List (List ℕ)) (t : Item) (w run : List Item) (end : End) (left : ℕ) (is : List Item) → Fine t → member t.token.spelling built_ins ≡ false → Each Clear w → Each Clear run → Each Clear is → Moved (applied e m ps t w run end left is)
moved-applied e k m ps t w run end left [] c q hw hr hi = c
moved-applied e k m ps t w run end left (i ∷ is) c q hw hr hi =
    let g = gathered 0 is in
    let d = clear_gathered 0 is hi.1 in
    either Moved (opens i) (called e m ps t w run end left g) (hand t left) (moved-called e k m ps t w run end left g.inside g.close c.0 q hw hr d.0 d.1) c

moved-replaced : (e : Expander) → Opening e → (t : Item) (w run : List Item) (end : End) (left : ℕ) (n : List ℕ) (ps : Option (List (List ℕ))) (list : List Token) → Fine t → member t.token.spelling built_ins ≡ false → Each Clear w → Each Clear run → Moved (replaced e t w run end left (record { name = n; parameters = ps; list = list }))
moved-replaced e k t w run end left n None list c q hw hr =
    let l = t.token.line in
    let h = with t.hides t.token.spelling in
    let made : ℕ → Outcome Item = λ n. result e t None [] h list n in
    moved-counting l left (λ n. before l w run (made n)) (λ n. moved_before l w run (made n).items (made n).ending (made n).left hw hr (clear_result e k t None [] tt h (free_with t.hides t.token.spelling c.0 q) list n))
moved-replaced e k t w run end left n (Some ps) list c q hw hr = moved-applied e k (record { name = n; parameters = Some ps; list = list }) ps t w run end left (w ++ run) c q hw hr (each_append Clear w run hw hr)

moved_choice : (t : Item) (left : ℕ) (b : Bool) (o : Option Item) (f : Option Macro) (y : Macro → Move) → Clear t → (b ≡ false → Fine t) → Known t o → (Fine t → member t.token.spelling built_ins ≡ false → (m : Macro) → Moved (y m)) → Moved (elim b [ false ↦ hand t left | true ↦ elim o [ Some u ↦ counting t.token.line left (λ n. hand u n) | None ↦ elim f [ None ↦ hand t left | Some m ↦ y m ] ] ])
moved_choice t left false o f y c h k r = h refl
moved_choice t left true (Some u) f y c h k r = moved-counting t.token.line left (λ n. hand u n) (λ n. k)
moved_choice t left true None None y c h k r = (c, unspelled (is_identifier t.token.kind) (member t.token.spelling built_ins) k)
moved_choice t left true None (Some m) y c h k r = r (c, unspelled (is_identifier t.token.kind) (member t.token.spelling built_ins) k) k m

moved-step : (e : Expander) → Opening e → (ms : List Macro) (file : List ℕ) (end : End) (t : Item) (w run : List Item) (left : ℕ) → Clear t → Each Clear w → Each Clear run → Moved (step e ms file end t w run left)
moved-step e k ms file end t w run left c hw hr =
    let s = t.token.spelling in
    let i = is_identifier t.token.kind in
    moved_choice t left (i && not (t.hides s)) (built_in_result file t) (found s ms) (replaced e t w run end left) c (λ p. (c, held i (t.hides s) (member s built_ins) (c s) p)) (known file t c)
    (λ f q m. moved-replaced e k t w run end left m.name m.parameters m.list f q hw hr)

-- Steps in a row

abbrev Moving : Step → Type 0
Moving s = (t : Item) (w run : List Item) (left : ℕ) → Clear t → Each Clear w → Each Clear run → Moved (s t w run left)

abbrev Turning : Turn → Type 0
Turning next = (n : ℕ) (w run : List Item) → Each Clear w → Each Clear run → FineAll (next n w run)

fine_move : (next : Turn) → Turning next → (rest : ℕ → Outcome Item) → ((n : ℕ) → FineAll (rest n)) → (m : Move) → Moved m → FineAll (elim m [ hand u n ↦ giving (u ∷ []) n then rest | go w r n ↦ next n w r | halt k l n ↦ failing k l n ])
fine_move next k rest r (hand u n) h = (h, r n)
fine_move next k rest r (go v w n) h = k n v w h.0 h.1
fine_move next k rest r (halt a b n) h = tt

fine_run : (s : Step) → Moving s → (next : Turn) → Turning next → (end : End) (left : ℕ) (run : List Item) → Each Clear run → FineAll (along_run s next end left run)
fine_run s m next k end left [] h = tt
fine_run s m next k end left (t ∷ run) h = fine_move next k (λ n. along_run s next end n run) (λ n. fine_run s m next k end n run h.1) (s t [] run left) (m t [] run left h.0 tt h.1)

fine_along : (s : Step) → Moving s → (next : Turn) → Turning next → (end : End) (left : ℕ) (w run : List Item) → Each Clear w → Each Clear run → FineAll (along s next end left w run)
fine_along s m next k end left [] run h r = fine_run s m next k end left run r
fine_along s m next k end left (t ∷ w) run h r = fine_move next k (λ n. along s next end n w run) (λ n. fine_along s m next k end n w run h.1 r) (s t w run left) (m t w run left h.0 h.1 r)

fine_turns : (e : Expander) → Opening e → (ms : List Macro) (file : List ℕ) (end : End) (g : ℕ) → Turning (turns e ms file end g)
fine_turns e k ms file end zero left w run h r = tt
fine_turns e k ms file end (suc g) left w run h r = fine_along (step e ms file end) (moved-step e k ms file end) (turns e ms file end g) (fine_turns e k ms file end g) end left w run h r

-- every level
opening : (ms : List Macro) (file : List ℕ) (n : ℕ) → Opening (levels ms file n)
opening ms file zero line left a h = tt
opening ms file (suc n) line left a h = each_weaker Fine Clear (λ x f. f.0) (levels ms file (suc n) line left a).items (fine_turns (levels ms file n) (opening ms file n) ms file whole (suc left) left [] a tt h)

-- the hypothesis on the run, and what is to be shown
each_clear : {is : List Item} → Open is → Each Clear is
each_clear none = tt
each_clear (and c o) = (c, each_clear o)

settled_fine : (is : List Item) → Each Fine is → settled is ≡ true
settled_fine [] h = refl
settled_fine (i ∷ is) h = and_from (not (is_identifier i.token.kind && member i.token.spelling built_ins)) (settled is) h.0.1 (settled_fine is h.1)

pub all_settled : Settled
all_settled ms file left run end o = settled_fine (expand ms file left run end).items (fine_turns (levels ms file 16) (opening ms file 16) ms file end (suc left) left [] run tt (each_clear o))
