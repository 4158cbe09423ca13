-- The parts of a list, one after the other. Assumes nothing.
use Rattle.std.proofs.Common.{◌≡◌, ℕ, zero, suc, ◌+◌, ◌-◌, Bool, true, false, cond, ◌||◌, ltb, List, [], ◌∷◌, ◌++◌, length, drop, ◌==◌, is_some, Some, None, Option, unwrap_or, sym, refl, ap, ◌∙◌, subst, inl, inr, append_assoc, append-nil, arith, length-append}
use Rattle.std.specs.List.{slice_get}
use Rattle.std.specs.Iterator.{YieldsFirstBy}
use Rattle.token.specs.declared.TokenRef.{TokenRef}
use Rattle.token.specs.declared.tokens.Tokens.{Tokens}
use Rattle.token.specs.Tables.{referred}
use Rattle.token.specs.Views.{view_tokens}
use Rattle.std.specs.Option.{option_map}
use Rattle.std.specs.Str.{bytes_eq}
use Rattle.std.proofs.lemmas.List.{drop-drop}
use Rattle.std.proofs.lemmas.Option.{slice_get_past}
use Rattle.std.proofs.lemmas.Bool.{cases_Bool, cond-true, cond-false, le-ltb, lt-ltb}
use Rattle.std.proofs.lemmas.Bool.Decides.{nat_tests}
use Rattle.token.specs.Tokens.{Token as PlainToken}
use Rattle.definition.specs.Definitions.{hash, join}
use Rattle.definitions.specs.InForce.{index}
use Rattle.replacement.specs.Items.{Item, End, whole, fault, Outcome, giving, failing, ◌then◌, fresh, placing, limited}
use Rattle.replacement.specs.Joining.{Piece, piece, joiner, literal}
use Rattle.replacement.specs.Replacing.{Expander, place, raw, argument_pieces, expanded, argument_of, operand_of, substituted, built, piece_bytes, limited_pieces}
use Rattle.expansion.specs.declared.part.Part.{Part}
use Rattle.expansion.specs.declared.part.Part.TheVariants.{Token, Join, Literal, Raw, Expanded}
use Rattle.expansion.specs.Parts.{within, argument_at, substituted_part, part_of, given, width, is_join_part, added_to}
use Rattle.expansion.proofs.Added.{over_pieces, piece-bytes-append}

-- what a part gives
abbrev pub part_outcome : Expander → ℕ → List (List Item) → PlainToken → ℕ → Part → Outcome Piece
part_outcome e line args t left Token = given line args [] t left Token
part_outcome e line args t left Join = given line args [] t left Join
part_outcome e line args t left (Literal k) = given line args [] t left (Literal k)
part_outcome e line args t left (Raw k) = given line args [] t left (Raw k)
part_outcome e line args t left (Expanded k) = expanded e line t.marked (operand_of (slice_get args k)) left

-- one after the other
then-nothing : (is : List Piece) (end : End) (left : ℕ) → (record { items = is; ending = end; left = left } then (λ n. giving [] n)) ≡ record { items = is; ending = end; left = left }
then-nothing is whole left = ap (λ ps. giving ps left) (append-nil is)
then-nothing is (fault k l) left = refl

then-within : (ps is : List Piece) (end : End) (left n : ℕ) (next : ℕ → Outcome Piece) → (giving ps left then (λ _. record { items = is; ending = end; left = n } then next)) ≡ ((giving ps left then (λ _. record { items = is; ending = end; left = n })) then next)
then-within ps is whole left n next = ap (λ qs. record { items = qs; ending = (next n).ending; left = (next n).left }) (sym (append_assoc ps is (next n).items))
then-within ps is (fault k l) left n next = refl

-- an argument by its index
index-within : {T : Type 0} (xs : List T) (k : ℕ) → ltb k (length xs) ≡ is_some (slice_get xs k)
index-within [] k = le-ltb k 0 (omega arith)
index-within (x ∷ xs) zero = lt-ltb 0 (length (x ∷ xs)) (omega arith)
index-within (x ∷ xs) (suc k) =
    let same : ltb (suc k) (suc (length xs)) ≡ ltb k (length xs) = grind (arith, nat_tests) in same ∙ index-within xs k

module _ (e : Expander) (line : ℕ) (args : List (List Item)) (t : PlainToken) (left : ℕ) where
  -- a part and what follows it
  abbrev part_then : (Bool → ℕ → ℕ → Outcome Piece) → Part → Outcome Piece
  part_then next p = part_outcome e line args t left p then (λ n. next (is_join_part p) (width p - 1) n)

  module _ (next : Bool → ℕ → ℕ → Outcome Piece) where
    substituted_at : (beside : Bool) (k : ℕ) (a : Option (List Item)) → slice_get args k ≡ a → (substituted e line beside t a left then next false 0) ≡ part_then next (substituted_part (cond (is_some a) (Some k) None) beside)
    substituted_at beside k None h = refl
    substituted_at true k (Some a) h = ap (λ o. giving (raw t.marked (operand_of o)) left then next false 0) (sym h)
    substituted_at false k (Some a) h = ap (λ o. expanded e line t.marked (operand_of o) left then next false 0) (sym h)

    substituted-part : (beside : Bool) (o : Option ℕ) → (substituted e line beside t (elim o [ None ↦ None | Some k ↦ slice_get args k ]) left then next false 0) ≡ part_then next (substituted_part (within (length args) o) beside)
    substituted-part beside None = refl
    substituted-part beside (Some k) =
        substituted_at beside k (slice_get args k) refl ∙ ap (λ v. part_then next (substituted_part (cond v (Some k) None) beside)) (sym (index-within args k))

    literal_at : (k : ℕ) (a : Option (List Item)) → slice_get args k ≡ a → (literal t line (operand_of a) left then next false 1) ≡ part_then next (Literal (unwrap_or (cond (is_some a) (Some k) None) (length args)))
    literal_at k None h = ap (λ o. literal t line (operand_of o) left then next false 1) (sym (slice_get_past args (length args) (omega arith)))
    literal_at k (Some a) h = ap (λ o. literal t line (operand_of o) left then next false 1) (sym h)

    literal-part : (o : Option ℕ) → (literal t line (operand_of (elim o [ None ↦ None | Some k ↦ slice_get args k ])) left then next false 1) ≡ part_then next (Literal (unwrap_or (within (length args) o) (length args)))
    literal-part None = ap (λ o. literal t line (operand_of o) left then next false 1) (sym (slice_get_past args (length args) (omega arith)))
    literal-part (Some k) = literal_at k (slice_get args k) refl ∙ ap (λ v. part_then next (Literal (unwrap_or (cond v (Some k) None) (length args)))) (sym (index-within args k))

-- the place of a word among words, counted from a number on
counted_from : (k : ℕ) (o : Option ℕ) → option_map (λ j. suc k + j) o ≡ option_map (λ j. k + j) (option_map suc o)
counted_from k None = refl
counted_from k (Some j) = let same : suc k + j ≡ k + suc j = omega arith in ap Some same

place_from : (k : ℕ) (n : List ℕ) (ps : List (List ℕ)) → place k n ps ≡ option_map (λ j. k + j) (index n ps)
place_from k n [] = refl
place_from k n (p ∷ ps) =
    let first : k ≡ k + 0 = omega arith in
    elim (bytes_eq n p) as (λ v. cond v (Some k) (place (suc k) n ps) ≡ option_map (λ j. k + j) (cond v (Some 0) (option_map suc (index n ps)))) [
      | true ↦ ap Some first
      | false ↦ place_from (suc k) n ps ∙ counted_from k (index n ps)
    ]

counted_once : (o : Option ℕ) → option_map (λ j. 0 + j) o ≡ o
counted_once None = refl
counted_once (Some j) = let same : 0 + j ≡ j = omega arith in ap Some same

place_index : (n : List ℕ) (ps : List (List ℕ)) → place 0 n ps ≡ index n ps
place_index n ps = place_from 0 n ps ∙ counted_once (index n ps)

module _ (e : Expander) (line : ℕ) (args : List (List Item)) where
  -- the argument at a place
  abbrev at_place : Option ℕ → Option (List Item)
  at_place o = elim o [ None ↦ None | Some k ↦ slice_get args k ]

  -- the tokens of a list behind a part
  abbrev behind : Option (List (List ℕ)) → List PlainToken → Bool → ℕ → ℕ → Outcome Piece
  behind ps ts joins skip n = built e line ps args joins n (drop skip ts)

  pub part_step : (ps : Option (List (List ℕ))) (joins : Bool) (left : ℕ) (t : PlainToken) (ts : List PlainToken) → built e line ps args joins left (t ∷ ts) ≡ (part_outcome e line args t left (part_of ps (length args) joins t (slice_get ts 0)) then (λ n. built e line ps args (is_join_part (part_of ps (length args) joins t (slice_get ts 0))) n (drop (width (part_of ps (length args) joins t (slice_get ts 0)) - 1) ts)))
  part_step None joins left t ts =
      elim (join t) as (λ v. elim v [
        | true ↦ giving (joiner (fresh (placing line t)) ∷ []) left then (λ n. built e line None args true n ts)
        | false ↦ giving (piece (fresh (placing line t)) ∷ []) left then (λ n. built e line None args false n ts)
      ] ≡ part_then e line args t left (behind None ts) (cond v Join Token)) [ true ↦ refl | false ↦ refl ]
  part_step (Some ps) joins left t [] =
      elim (join t) as (λ v. elim v [
        | true ↦ giving (joiner (fresh (placing line t)) ∷ []) left
        | false ↦ substituted e line joins t (argument_of ps args t) left
      ] ≡ part_then e line args t left (behind (Some ps) []) (cond v Join (substituted_part (argument_at ps (length args) t) joins))) [
        | true ↦ refl
        | false ↦ ap (λ o. substituted e line joins t (at_place o) left) (place_index t.spelling ps) ∙ (sym (then-nothing _ _ _) ∙ substituted-part e line args t left (behind (Some ps) []) joins (index t.spelling ps))
      ]
  part_step (Some ps) joins left t (u ∷ ts) =
      elim (join t) as (λ v. elim v [
        | true ↦ giving (joiner (fresh (placing line t)) ∷ []) left then (λ n. built e line (Some ps) args true n (u ∷ ts))
        | false ↦ elim (hash t) [
          | true ↦ literal t line (operand_of (argument_of ps args u)) left then (λ n. built e line (Some ps) args false n ts)
          | false ↦ substituted e line (joins || join u) t (argument_of ps args t) left then (λ n. built e line (Some ps) args false n (u ∷ ts))
        ]
      ] ≡ part_then e line args t left (behind (Some ps) (u ∷ ts)) (cond v Join (cond (hash t) (Literal (unwrap_or (argument_at ps (length args) u) (length args))) (substituted_part (argument_at ps (length args) t) (joins || join u))))) [
        | true ↦ refl
        | false ↦ elim (hash t) as (λ w. elim w [
          | true ↦ literal t line (operand_of (argument_of ps args u)) left then (λ n. built e line (Some ps) args false n ts)
          | false ↦ substituted e line (joins || join u) t (argument_of ps args t) left then (λ n. built e line (Some ps) args false n (u ∷ ts))
        ] ≡ part_then e line args t left (behind (Some ps) (u ∷ ts)) (cond w (Literal (unwrap_or (argument_at ps (length args) u) (length args))) (substituted_part (argument_at ps (length args) t) (joins || join u)))) [
          | true ↦ ap (λ o. literal t line (operand_of (at_place o)) left then (λ n. built e line (Some ps) args false n ts)) (place_index u.spelling ps) ∙ literal-part e line args t left (behind (Some ps) (u ∷ ts)) (index u.spelling ps)
          | false ↦ ap (λ o. substituted e line (joins || join u) t (at_place o) left then (λ n. built e line (Some ps) args false n (u ∷ ts))) (place_index t.spelling ps) ∙ substituted-part e line args t left (behind (Some ps) (u ∷ ts)) (joins || join u) (index t.spelling ps)
        ]
      ]

-- the arguments of a macro without parameters do not matter
pub built-plain : (e : Expander) (line : ℕ) (a b : List (List Item)) (joins : Bool) (left : ℕ) (ts : List PlainToken) → built e line None a joins left ts ≡ built e line None b joins left ts
built-plain e line a b joins left [] = refl
built-plain e line a b joins left (t ∷ ts) =
    elim (join t) as (λ v. elim v [
      | true ↦ giving (joiner (fresh (placing line t)) ∷ []) left then (λ n. built e line None a true n ts)
      | false ↦ giving (piece (fresh (placing line t)) ∷ []) left then (λ n. built e line None a false n ts)
    ] ≡ elim v [
      | true ↦ giving (joiner (fresh (placing line t)) ∷ []) left then (λ n. built e line None b true n ts)
      | false ↦ giving (piece (fresh (placing line t)) ∷ []) left then (λ n. built e line None b false n ts)
    ]) [
      | true ↦ ap (λ o. giving (joiner (fresh (placing line t)) ∷ []) left then (λ _. o)) (built-plain e line a b true left ts)
      | false ↦ ap (λ o. giving (piece (fresh (placing line t)) ∷ []) left then (λ _. o)) (built-plain e line a b false left ts)
    ]

-- limits: once over, the whole is over
over_more_by : (n b k c : ℕ) → (ltb 1024 n || ltb 16384 b) ≡ true → (ltb 1024 (n + k) || ltb 16384 (b + c)) ≡ true
over_more_by n b k c h = grind (arith, nat_tests)

over_more : (ps qs : List Piece) → over_pieces ps ≡ true → over_pieces (ps ++ qs) ≡ true
over_more ps qs h =
    (λ j. ltb 1024 (length-append ps qs j) || ltb 16384 (piece-bytes-append ps qs j)) ∙ over_more_by (length ps) (piece_bytes ps) (length qs) (piece_bytes qs) h

module _ (line : ℕ) where
  limited-over : (o : Outcome Piece) → over_pieces o.items ≡ true → limited_pieces line o ≡ failing 64 line o.left
  limited-over o h = cond-true _ (failing 64 line o.left) o h

  pub limited-within : (o : Outcome Piece) → over_pieces o.items ≡ false → limited_pieces line o ≡ o
  limited-within o h = cond-false _ (failing 64 line o.left) o h

  pub over_first : (ps : List Piece) (left : ℕ) (next : ℕ → Outcome Piece) → over_pieces ps ≡ true → (limited_pieces line (giving ps left then next)).ending ≡ fault 64 line
  over_first ps left next h = ap (λ o. o.ending) (limited-over (giving ps left then next) (over_more ps (next left).items h))

  over-then : (is : List Piece) (end : End) (left : ℕ) (next : ℕ → Outcome Piece) → over_pieces is ≡ true → over_pieces (record { items = is; ending = end; left = left } then next).items ≡ true
  over-then is whole left next h = over_more is (next left).items h
  over-then is (fault k l) left next h = h

  -- what is whole within the limits is all there is
  whole_within : (o : Outcome Piece) (qs : List Piece) (left : ℕ) → limited_pieces line o ≡ giving qs left → (o ≡ giving qs left) × (over_pieces qs ≡ false)
  whole_within o qs left e =
      elim (cases_Bool (over_pieces o.items)) [
        | inl h ↦ let two : whole ≡ fault 64 line = ap (λ x. x.ending) (sym e ∙ limited-over o h) in let z : ◌≡◌ {A = ℕ} 0 1 = cc in absurd (omega arith)
        | inr h ↦ let same = sym (limited-within o h) ∙ e in (same, ap (λ x. over_pieces x.items) (sym same) ∙ h)
      ]

  -- a fault within the limits is that of the whole
  then_fault : (is : List Piece) (end : End) (left x y : ℕ) (next : ℕ → Outcome Piece) → end ≡ fault x y → (record { items = is; ending = end; left = left } then next) ≡ record { items = is; ending = fault x y; left = left }
  then_fault is end left x y next h = ap (λ v. record { items = is; ending = v; left = left } then next) h

  fault_within : (o : Outcome Piece) (next : ℕ → Outcome Piece) (x y : ℕ) → (limited_pieces line o).ending ≡ fault x y → (limited_pieces line (o then next)).ending ≡ fault x y
  fault_within o next x y e =
      elim (cases_Bool (over_pieces o.items)) [
        | inl h ↦ ap (λ v. v.ending) (limited-over (o then next) (over-then o.items o.ending o.left next h)) ∙ sym (ap (λ v. v.ending) (limited-over o h)) ∙ e
        | inr h ↦ let end : o.ending ≡ fault x y = sym (ap (λ v. v.ending) (limited-within o h)) ∙ e in ap (λ v. (limited_pieces line v).ending) (then_fault o.items o.ending o.left x y next end) ∙ ap (λ v. v.ending) (limited-within (record { items = o.items; ending = fault x y; left = o.left }) h)
      ]

-- A turn of the loop. An argument has been expanded to the tokens `is`, and `m` replacements are left.
module _ (e : Expander) (line : ℕ) (args : List (List Item)) (is : List Item) (left m : ℕ) where
  abbrev pub Ready : Part → Type 0
  Ready Token = m ≡ left
  Ready Join = m ≡ left
  Ready (Literal k) = m ≡ left
  Ready (Raw k) = m ≡ left
  Ready (Expanded k) = limited line (e line left (operand_of (slice_get args k))) ≡ giving is m

  pub ready_other : (p : Part) → ((k : ℕ) → p ≡ Expanded k → ⊥) → m ≡ left → Ready p
  ready_other Token h same = same
  ready_other Join h same = same
  ready_other (Literal k) h same = same
  ready_other (Raw k) h same = same
  ready_other (Expanded k) h same = absurd (h k refl)

  pub ready_expanded : (p : Part) (k : ℕ) → p ≡ Expanded k → limited line (e line left (operand_of (slice_get args k))) ≡ giving is m → Ready p
  ready_expanded p k is-expanded h = subst Ready (sym is-expanded) h

  prepared : (ps : List Piece) (t : PlainToken) (p : Part) → Ready p → (giving ps left then (λ n. part_outcome e line args t n p)) ≡ (giving ps m then (λ n. given line args is t n p))
  prepared ps t Token h = ap (λ k. giving ps k then (λ n. given line args is t n Token)) (sym h)
  prepared ps t Join h = ap (λ k. giving ps k then (λ n. given line args is t n Join)) (sym h)
  prepared ps t (Literal k) h = ap (λ j. giving ps j then (λ n. given line args is t n (Literal k))) (sym h)
  prepared ps t (Raw k) h = ap (λ j. giving ps j then (λ n. given line args is t n (Raw k))) (sym h)
  prepared ps t (Expanded k) h = ap (λ o. giving ps left then (λ _. argument_pieces t.marked o.items o.ending o.left)) h

nth_drop : {T : Type 0} (n : ℕ) (xs : List T) → slice_get (drop n xs) 0 ≡ slice_get xs n
nth_drop zero [] = refl
nth_drop zero (x ∷ xs) = refl
nth_drop (suc n) [] = refl
nth_drop (suc n) (x ∷ xs) = nth_drop n xs

width_skip : (p : Part) → 1 + (width p - 1) ≡ width p
width_skip Token = omega arith
width_skip Join = omega arith
width_skip (Literal k) = omega arith
width_skip (Raw k) = omega arith
width_skip (Expanded k) = omega arith

first_of : (list : List PlainToken) (t : PlainToken) → Some t ≡ slice_get list 0 → list ≡ t ∷ drop 1 list
first_of [] t h = cc h
first_of (x ∷ list) t h = let same : t ≡ x = cc in ap (λ z. z ∷ list) (sym same)

none_of : (list : List PlainToken) → None ≡ slice_get list 0 → list ≡ []
none_of [] h = refl
none_of (x ∷ list) h = cc h

module _ (e : Expander) (line : ℕ) (ps : Option (List (List ℕ))) (args : List (List Item)) where
  -- what is left of a list
  abbrev pub from : Bool → List PlainToken → ℕ → Outcome Piece
  from joins rest n = built e line ps args joins n rest

  -- the pieces so far and what is left make up the whole
  module _ (b : Outcome Piece) (qs : List Piece) (left : ℕ) (rest : List PlainToken) (joins : Bool) (inv : b ≡ (giving qs left then from joins rest)) where
    pub built_end : None ≡ slice_get rest 0 → b ≡ giving qs left
    built_end h =
        inv ∙ ap (λ ts. giving qs left then (λ n. built e line ps args joins n ts)) (none_of rest h) ∙ ap (λ rs. giving rs left) (append-nil qs)

    pub built-limited : None ≡ slice_get rest 0 → over_pieces qs ≡ false → limited_pieces line b ≡ giving qs left
    built-limited h fits = ap (limited_pieces line) (built_end h) ∙ limited-within line (giving qs left) fits

    module _ (t : PlainToken) (u : Option PlainToken) (count : ℕ) (p : Part) (here : Some t ≡ slice_get rest 0) (beside : u ≡ slice_get rest 1) (all : count ≡ length args) (is-part : p ≡ part_of ps count joins t u) where
      from_part : (n : ℕ) → from joins rest n ≡ (part_outcome e line args t n p then from (is_join_part p) (drop (width p) rest))
      from_part n =
          let next = λ (q : Part). part_then e line args t n (behind e line args ps (drop 1 rest)) q in
          ap (built e line ps args joins n) (first_of rest t here) ∙ part_step e line args ps joins n t (drop 1 rest) ∙ ap next ((λ j. part_of ps (sym all j) joins t ((nth_drop 1 rest ∙ sym beside) j)) ∙ sym is-part) ∙ ap (λ ts. part_outcome e line args t n p then (λ k. built e line ps args (is_join_part p) k ts)) (drop-drop (width p - 1) 1 rest ∙ ap (λ k. drop k rest) (width_skip p))

      turn : b ≡ ((giving qs left then (λ n. part_outcome e line args t n p)) then from (is_join_part p) (drop (width p) rest))
      turn =
          let o = part_outcome e line args t left p in
          inv ∙ ap (λ v. giving qs left then (λ _. v)) (from_part left) ∙ then-within qs o.items o.ending left o.left (from (is_join_part p) (drop (width p) rest))

      -- an argument that does not expand
      pub built_unexpanded : (k x y : ℕ) → p ≡ Expanded k → over_pieces qs ≡ false → (limited line (e line left (operand_of (slice_get args k)))).ending ≡ fault x y → (limited_pieces line b).ending ≡ fault x y
      built_unexpanded k x y is-expanded fits h =
          let o = limited line (e line left (operand_of (slice_get args k))) in
          let none : (giving qs left then (λ n. part_outcome e line args t n p)) ≡ record { items = qs; ending = fault x y; left = o.left } = ap (λ q. giving qs left then (λ n. part_outcome e line args t n q)) is-expanded ∙ ap (λ v. giving qs left then (λ _. argument_pieces t.marked o.items v o.left)) h ∙ ap (λ rs. record { items = rs; ending = fault x y; left = o.left }) (append-nil qs) in
          ap (λ v. (limited_pieces line v).ending) turn ∙ fault_within line (giving qs left then (λ n. part_outcome e line args t n p)) (from (is_join_part p) (drop (width p) rest)) x y (ap (λ v. (limited_pieces line v).ending) none ∙ ap (λ v. v.ending) (limited-within line (record { items = qs; ending = fault x y; left = o.left }) fits))

      module _ (is : List Item) (m : ℕ) (ready : Ready e line args is left m p) where
        ready_turn : b ≡ ((giving qs m then (λ n. given line args is t n p)) then from (is_join_part p) (drop (width p) rest))
        ready_turn = turn ∙ ap (λ o. o then from (is_join_part p) (drop (width p) rest)) (prepared e line args is left m qs t p ready)

        pub built_turn : (rs : List Piece) → added_to line args is t p qs m ≡ giving rs m → b ≡ (giving rs m then from (is_join_part p) (drop (width p) rest))
        built_turn rs h =
            ready_turn ∙ ap (λ o. o then from (is_join_part p) (drop (width p) rest)) (whole_within line (giving qs m then (λ n. given line args is t n p)) rs m h).0

        -- by other names
        pub built_more : (rs : List Piece) (joins' : Bool) (rest' : List PlainToken) → added_to line args is t p qs m ≡ giving rs m → joins' ≡ is_join_part p → rest' ≡ drop (width p) rest → b ≡ (giving rs m then from joins' rest')
        built_more rs joins' rest' h e f =
            built_turn rs h ∙ (λ j. giving rs m then from (sym e j) (sym f j))

        pub built_fault : (x y : ℕ) → (added_to line args is t p qs m).ending ≡ fault x y → (limited_pieces line b).ending ≡ fault x y
        built_fault x y h =
            ap (λ v. (limited_pieces line v).ending) ready_turn ∙ fault_within line (giving qs m then (λ n. given line args is t n p)) (from (is_join_part p) (drop (width p) rest)) x y h

-- what is left behind a part
pub behind_one : (p : Part) (list rest : List PlainToken) (t : PlainToken) → list ≡ t ∷ rest → (width p == 2) ≡ false → rest ≡ drop (width p) list
behind_one Token list rest t e h = ap (drop 1) (sym e)
behind_one Join list rest t e h = ap (drop 1) (sym e)
behind_one (Literal k) list rest t e h = cc
behind_one (Raw k) list rest t e h = ap (drop 1) (sym e)
behind_one (Expanded k) list rest t e h = ap (drop 1) (sym e)

pub behind_two : (p : Part) (list rest : List PlainToken) (t : PlainToken) → list ≡ t ∷ rest → (width p == 2) ≡ true → drop 1 rest ≡ drop (width p) list
behind_two Token list rest t e h = cc
behind_two Join list rest t e h = cc
behind_two (Literal k) list rest t e h = ap (drop 2) (sym e)
behind_two (Raw k) list rest t e h = cc
behind_two (Expanded k) list rest t e h = cc

-- a call of `next` takes one token, or none is left
pub skipped : (o : Option TokenRef) (s t : Tokens) → YieldsFirstBy referred view_tokens s o t → view_tokens t ≡ drop 1 (view_tokens s)
skipped None s t h = h.1 ∙ ap (drop 1) (sym h.0)
skipped (Some x) s t h = ap (drop 1) (sym h)
