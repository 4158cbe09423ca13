-- Lists whose last token may be the left operand of ##. Assumes nothing.
use Rattle.std.proofs.Common.{◌≡◌, ℕ, zero, suc, ◌-◌, Bool, true, false, List, [], ◌∷◌, ◌++◌, length, take, Some, None, Option, sym, refl, ap, ◌∙◌, append_assoc, append-nil, arith}
use Rattle.std.specs.List.{slice_get}
use Rattle.std.specs.Option.{option_map}
use Rattle.std.proofs.lemmas.List.{length_push, take_all, take_at}
use Rattle.replacement.specs.Items.{Item, fault, Outcome, giving, failing, ◌then◌}
use Rattle.replacement.specs.Joining.{Piece, piece, joiner, nothing, Join, good, bad, judged, joining, join_all, operand, settled}
use Rattle.operators.specs.Ends.{last_of, before, joined_to, joined_end, going_on}

-- a list is what stands before its operand, and the operand
take-settled : (n : ℕ) (is : List Item) → take n is ++ settled (slice_get is n) ≡ take (suc n) is
take-settled zero [] = refl
take-settled (suc n) [] = refl
take-settled zero (i ∷ is) = refl
take-settled (suc n) (i ∷ is) = ap (λ js. i ∷ js) (take-settled n is)

pub whole_list : (o : Bool) (is : List Item) → before o is ++ settled (last_of o is) ≡ is
whole_list true is = take-settled (length is - 1) is ∙ take_all (suc (length is - 1)) is (omega arith)
whole_list false is = append-nil is

-- a list with one token more
nth-push : (is : List Item) (i : Item) → slice_get (is ++ i ∷ []) (length is) ≡ Some i
nth-push [] i = refl
nth-push (j ∷ is) i = nth-push is i

pub before-push : (is : List Item) (i : Item) → before true (is ++ i ∷ []) ≡ is
before-push is i = take_at is (i ∷ []) _ (omega (arith, length_push is i))

last_push : (is : List Item) (i : Item) → last_of true (is ++ i ∷ []) ≡ Some i
last_push is i =
    let n : length (is ++ i ∷ []) - 1 ≡ length is = omega (arith, length_push is i) in
    ap (slice_get (is ++ i ∷ [])) n ∙ nth-push is i

-- joining is told by what an operand and a token make; an operand and nothing stay as they are
joining_some : (line : ℕ) (a : Option Item) (b : Item) → joining line a (Some b) ≡ judged (joined_to line a b)
joining_some line None b = refl
joining_some line (Some a) b = refl

joining_none : (line : ℕ) (a : Option Item) → joining line a None ≡ good a
joining_none line None = refl
joining_none line (Some a) = refl

-- what a list ends with says what was made
pub end_some : (is js : List Item) (t : Option Item) → Some js ≡ option_map (λ i. is ++ i ∷ []) t → (i : Item) × (t ≡ Some i) × (js ≡ is ++ i ∷ [])
end_some is js None e = absurd (cc)
end_some is js (Some i) e = (i, refl, (cc))

end_none : (is : List Item) (t : Option Item) → None ≡ option_map (λ i. is ++ i ∷ []) t → t ≡ None
end_none is None e = refl
end_none is (Some i) e = absurd (cc)

-- a list, and then what an operand and the pieces behind it give
abbrev onward : ℕ → ℕ → List Item → Option Item → List Piece → Outcome Item
onward line left is b ps = giving is left then (λ n. join_all line n b ps)

module _ (line left : ℕ) where
  pushed_some : (is : List Item) (i : Item) (ps : List Piece) → going_on line left true (is ++ i ∷ []) ps ≡ onward line left is (Some i) ps
  pushed_some is i ps = λ k. onward line left (before-push is i k) (last_push is i k) ps

  -- the operand is settled
  settling : (o : Bool) (is : List Item) (b : Option Item) (ps : List Piece) → (giving (before o is) left then (λ n. giving (settled (last_of o is)) n then (λ m. join_all line m b ps))) ≡ onward line left is b ps
  settling o is b ps =
      let x = join_all line left b ps in
      λ k. record { items = (sym (append_assoc (before o is) (settled (last_of o is)) x.items) ∙ ap (λ js. js ++ x.items) (whole_list o is)) k; ending = x.ending; left = x.left }

  pub at_end_lem : (o : Bool) (is : List Item) → going_on line left o is [] ≡ giving is left
  at_end_lem o is = λ k. giving (whole_list o is k) left

  pub at_piece : (o : Bool) (is : List Item) (i : Item) (ps : List Piece) → going_on line left o is (piece i ∷ ps) ≡ going_on line left true (is ++ i ∷ []) ps
  at_piece o is i ps = settling o is (Some i) ps ∙ sym (pushed_some is i ps)

  pub at_nothing : (o : Bool) (is : List Item) (ps : List Piece) → going_on line left o is (nothing ∷ ps) ≡ going_on line left false is ps
  at_nothing o is ps = settling o is None ps

  -- two operands are joined, or do not make one token
  abbrev chosen : List Item → List Piece → Join → Outcome Item
  chosen is ps t = giving is left then (λ n. elim t [ bad ↦ failing 53 line n | good b ↦ join_all line n b ps ])

  -- the operator, and a piece behind it
  module _ (o : Bool) (is : List Item) (j : Item) (p : Piece) (ps : List Piece) where
    at_operand : (c : Option Item) → operand p ≡ c → going_on line left o is (joiner j ∷ p ∷ ps) ≡ chosen (before o is) ps (joining line (last_of o is) c)
    at_operand c f = ap (λ x. chosen (before o is) ps (joining line (last_of o is) x)) f

    pub at_joiner : (b : Item) (js : List Item) → operand p ≡ Some b → Some js ≡ joined_end line o is b → going_on line left o is (joiner j ∷ p ∷ ps) ≡ going_on line left true js ps
    at_joiner b js f e =
        let made = end_some (before o is) js (joined_to line (last_of o is) b) e in
        at_operand (Some b) f ∙ ap (chosen (before o is) ps) (joining_some line (last_of o is) b ∙ ap judged made.1) ∙ sym (ap (λ x. going_on line left true x ps) made.2 ∙ pushed_some (before o is) made.0 ps)

    pub at_fault : (b : Item) → operand p ≡ Some b → None ≡ joined_end line o is b → (going_on line left o is (joiner j ∷ p ∷ ps)).ending ≡ fault 53 line
    at_fault b f e =
        ap (λ x. x.ending) (at_operand (Some b) f ∙ ap (chosen (before o is) ps) (joining_some line (last_of o is) b ∙ ap judged (end_none (before o is) (joined_to line (last_of o is) b) e)))

    pub at_none : operand p ≡ None → going_on line left o is (joiner j ∷ p ∷ ps) ≡ going_on line left o is ps
    at_none f = at_operand None f ∙ ap (chosen (before o is) ps) (joining_none line (last_of o is))
