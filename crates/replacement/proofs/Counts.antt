-- No step gives back more replacements than it was given. Assumes nothing.
use Rattle.std.proofs.Common.{ℕ, zero, suc, ◌-◌, ◌<◌, ◌≤◌, Bool, true, false, cond, not, ◌&&◌, ◌||◌, List, [], ◌∷◌, ◌++◌, length, drop, Some, None, Option, arith}
use Rattle.token.specs.Tokens.{Token}
use Rattle.definition.specs.Definitions.{Macro, is_identifier, hash, join}
use Rattle.replacement.specs.Items.{limited, Item, with, shared, End, whole, fault, Outcome, failing, after, ◌then◌, over}
use Rattle.replacement.specs.Joining.{Piece, piece, joiner, nothing, Join, good, bad, literal, joining, operand, join_all}
use Rattle.replacement.specs.Replacing.{found, Gathered, opens, gathered, arguments, Expander, argument_of, operand_of, argument_pieces, expanded, substituted, built, limited_pieces, joined_outcome, result, Move, hand, go, halt, before, counting, built_in_result, called, applied, replaced, step}

-- an expander that never gives back more than it was given
abbrev pub Modest : Expander → Type 0
Modest e = (line left : ℕ) (is : List Item) → (e line left is).left ≤ left

-- what a move leaves: less than before where a result goes before W
abbrev pub Falls : ℕ → Move → Type 0
Falls left (hand u n) = n ≤ left
Falls left (go w r n) = n < left
Falls left (halt k l n) = n ≤ left

-- one of two outcomes
abbrev either : {A : Type 0} → Bool → Outcome A → Outcome A → Outcome A
either b x y = elim b [ true ↦ x | false ↦ y ]

either_left : {A : Type 0} (k : ℕ) (b : Bool) (x y : Outcome A) → x.left ≤ k → y.left ≤ k → (either b x y).left ≤ k
either_left k true x y p q = p
either_left k false x y p q = q

cond_left : {A : Type 0} (k : ℕ) (b : Bool) (x y : Outcome A) → x.left ≤ k → y.left ≤ k → (cond b x y).left ≤ k
cond_left k true x y p q = p
cond_left k false x y p q = q

-- one after the other
after_left : {A : Type 0} (k : ℕ) (is : List A) (end : End) (n : ℕ) (next : ℕ → Outcome A) → n ≤ k → ((m : ℕ) → m ≤ k → (next m).left ≤ k) → (after is end n next).left ≤ k
after_left k is whole n next p f = f n p
after_left k is (fault a l) n next p f = p

then_left : {A : Type 0} (k : ℕ) (o : Outcome A) (next : ℕ → Outcome A) → o.left ≤ k → ((m : ℕ) → m ≤ k → (next m).left ≤ k) → (o then next).left ≤ k
then_left k o next p f = after_left k o.items o.ending o.left next p f

-- the operators
literal_left : (t : Token) (line : ℕ) (is : List Item) (left k : ℕ) → left ≤ k → (literal t line is left).left ≤ k
literal_left t line is left k p = cond_left k _ _ _ p p

join_left : (k : ℕ) (j : Join) (x : Outcome Item) (f : Option Item → Outcome Item) → x.left ≤ k → ((c : Option Item) → (f c).left ≤ k) → (elim j as (λ z. Outcome Item) [ bad ↦ x | good c ↦ f c ]).left ≤ k
join_left k bad x f p q = p
join_left k (good c) x f p q = q c

join_all_left : (line left k : ℕ) (a : Option Item) (ps : List Piece) → left ≤ k → (join_all line left a ps).left ≤ k
join_all_left line left k a [] p = p
join_all_left line left k a (piece i ∷ ps) p = join_all_left line left k (Some i) ps p
join_all_left line left k a (nothing ∷ ps) p = join_all_left line left k None ps p
join_all_left line left k a (joiner j ∷ []) p = p
join_all_left line left k a (joiner j ∷ b ∷ ps) p = join_left k (joining line a (operand b)) (failing 53 line left) (λ c. join_all line left c ps) p (λ c. join_all_left line left k c ps p)

pub limited_pieces_left : (line k : ℕ) (o : Outcome Piece) → o.left ≤ k → (limited_pieces line o).left ≤ k
limited_pieces_left line k o p = cond_left k _ _ _ p p

joined_left : (line k : ℕ) (is : List Piece) (end : End) (left : ℕ) → left ≤ k → (joined_outcome line (record { items = is; ending = end; left = left })).left ≤ k
joined_left line k is whole left p = join_all_left line left k None is p
joined_left line k is (fault n l) left p = p

pieces_left : (m : Bool) (is : List Item) (end : End) (left k : ℕ) → left ≤ k → (argument_pieces m is end left).left ≤ k
pieces_left m is whole left k p = p
pieces_left m is (fault n l) left k p = p

-- a list and its result
module _ (e : Expander) (h : Modest e) where
  expanded_left : (line : ℕ) (m : Bool) (is : List Item) (left k : ℕ) → left ≤ k → (expanded e line m is left).left ≤ k
  expanded_left line m is left k p =
      let q : (e line left is).left ≤ k = omega (arith, h line left is) in
      let o = limited line (e line left is) in
      pieces_left m o.items o.ending o.left k (cond_left k (over (e line left is).items) (failing 64 line (e line left is).left) (e line left is) q q)

  substituted_left : (line : ℕ) (beside : Bool) (t : Token) (a : Option (List Item)) (left k : ℕ) → left ≤ k → (substituted e line beside t a left).left ≤ k
  substituted_left line beside t None left k p = p
  substituted_left line beside t (Some a) left k p = either_left k beside _ _ p (expanded_left line t.marked a left k p)

  pub built_left : (line : ℕ) (ps : Option (List (List ℕ))) (args : List (List Item)) (joins : Bool) (left k : ℕ) (ts : List Token) → left ≤ k → (built e line ps args joins left ts).left ≤ k
  built_left line ps args joins left k [] p = p
  built_left line None args joins left k (t ∷ ts) p = either_left k (join t) _ _ (built_left line None args true left k ts p) (built_left line None args false left k ts p)
  built_left line (Some ps) args joins left k (t ∷ []) p = either_left k (join t) _ _ p (substituted_left line joins t (argument_of ps args t) left k p)
  built_left line (Some ps) args joins left k (t ∷ u ∷ ts) p =
      either_left k (join t) _ _ (built_left line (Some ps) args true left k (u ∷ ts) p)
      (either_left k (hash t) _ _
      (then_left k (literal t line (operand_of (argument_of ps args u)) left) (λ n. built e line (Some ps) args false n ts) (literal_left t line (operand_of (argument_of ps args u)) left k p) (λ n q. built_left line (Some ps) args false n k ts q))
      (then_left k (substituted e line (joins || join u) t (argument_of ps args t) left) (λ n. built e line (Some ps) args false n (u ∷ ts)) (substituted_left line (joins || join u) t (argument_of ps args t) left k p) (λ n q. built_left line (Some ps) args false n k (u ∷ ts) q)))

  result_left : (t : Item) (ps : Option (List (List ℕ))) (args : List (List Item)) (hs : List ℕ → Bool) (list : List Token) (left : ℕ) → (result e t ps args hs list left).left ≤ left
  result_left t ps args hs list left =
      let l = t.token.line in
      let o = limited_pieces l (built e l ps args false left list) in
      joined_left l left o.items o.ending o.left (limited_pieces_left l left (built e l ps args false left list) (built_left l ps args false left left list (omega arith)))

-- moves
one_falls : (left : ℕ) (b : Bool) (x y : Move) → Falls left x → Falls left y → Falls left (elim b as (λ z. Move) [ true ↦ x | false ↦ y ])
one_falls left true x y p q = p
one_falls left false x y p q = q

option_falls : {A : Type 0} (left : ℕ) (o : Option A) (x : Move) (f : A → Move) → Falls left x → ((a : A) → Falls left (f a)) → Falls left (elim o as (λ z. Move) [ None ↦ x | Some a ↦ f a ])
option_falls left None x f p q = p
option_falls left (Some a) x f p q = q a

end_falls : (left line : ℕ) (end : End) → Falls left (elim end as (λ z. Move) [ whole ↦ halt 51 line left | fault n k ↦ halt n k left ])
end_falls left line whole = omega arith
end_falls left line (fault n k) = omega arith

cond_falls : (left : ℕ) (b : Bool) (x y : Move) → Falls left x → Falls left y → Falls left (cond b x y)
cond_falls left true x y p q = p
cond_falls left false x y p q = q

ended_falls : (line : ℕ) (w run is : List Item) (end : End) (left n : ℕ) → left ≤ n → Falls (suc n) (before line w run (record { items = is; ending = end; left = left }))
ended_falls line w run is (fault a l) left n p = omega arith
ended_falls line w run is whole left n p = cond_falls (suc n) (over (is ++ w)) _ _ (omega arith) (omega arith)

before_falls : (line : ℕ) (w run : List Item) (o : Outcome Item) (n : ℕ) → o.left ≤ n → Falls (suc n) (before line w run o)
before_falls line w run o n p = ended_falls line w run o.items o.ending o.left n p

counting_falls : (line left : ℕ) (next : ℕ → Move) → ((n : ℕ) → Falls (suc n) (next n)) → Falls left (counting line left next)
counting_falls line zero next f = omega arith
counting_falls line (suc n) next f = f n

module _ (e : Expander) (h : Modest e) where
  -- a result that counts one
  counted_falls : (t : Item) (left : ℕ) (ps : Option (List (List ℕ))) (args : List (List Item)) (hs : List ℕ → Bool) (list : List Token) (w run : List Item) → Falls left (counting t.token.line left (λ n. before t.token.line w run (result e t ps args hs list n)))
  counted_falls t left ps args hs list w run = counting_falls t.token.line left _ (λ n. before_falls t.token.line w run (result e t ps args hs list n) n (result_left e h t ps args hs list n))

  called_falls : (m : Macro) (ps : List (List ℕ)) (t : Item) (w run : List Item) (end : End) (left : ℕ) (g : Gathered) → Falls left (called e m ps t w run end left g)
  called_falls m ps t w run end left g =
      let l = t.token.line in
      let used = suc (suc (length g.inside)) in
      one_falls left (over g.inside) _ _ (omega arith)
      (option_falls left g.close _ _ (end_falls left l end)
      (λ close. option_falls left (arguments ps g.inside) _ _ (omega arith)
      (λ args. counted_falls t left (Some ps) args (with (shared t.hides close.hides) t.token.spelling) m.list (drop used w) (drop (used - length w) run))))

  applied_falls : (m : Macro) (ps : List (List ℕ)) (t : Item) (w run : List Item) (end : End) (left : ℕ) (is : List Item) → Falls left (applied e m ps t w run end left is)
  applied_falls m ps t w run end left [] = omega arith
  applied_falls m ps t w run end left (i ∷ is) = one_falls left (opens i) _ _ (called_falls m ps t w run end left (gathered 0 is)) (omega arith)

  replaced_falls : (t : Item) (w run : List Item) (end : End) (left : ℕ) (m : Macro) → Falls left (replaced e t w run end left m)
  replaced_falls t w run end left m = option_falls left m.parameters _ _ (counted_falls t left None [] (with t.hides t.token.spelling) m.list w run) (λ ps. applied_falls m ps t w run end left (w ++ run))

  pub step_falls : (ms : List Macro) (file : List ℕ) (end : End) (t : Item) (w run : List Item) (left : ℕ) → Falls left (step e ms file end t w run left)
  step_falls ms file end t w run left =
      one_falls left (is_identifier t.token.kind && not (t.hides t.token.spelling)) _ _
      (option_falls left (built_in_result file t) _ _
      (option_falls left (found t.token.spelling ms) _ _ (omega arith) (λ m. replaced_falls t w run end left m))
      (λ u. counting_falls t.token.line left _ (λ n. omega arith)))
      (omega arith)
