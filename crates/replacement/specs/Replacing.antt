-- Macro replacement by hide sets. Assumes nothing.
use Rattle.std.specs.Prelude.{ℕ, zero, suc, ◌+◌, ◌-◌, ◌/◌, ◌%◌, Bool, true, false, cond, not, ◌&&◌, ◌||◌, List, [], ◌∷◌, ◌++◌, map, length, drop, Some, None, codes, Option, ◌==◌, nat_le, nat_lt}
use Rattle.std.specs.List.{slice_get}
use Rattle.std.specs.Str.{bytes_eq}
use Rattle.token.specs.declared.Kind.{Kind}
use Rattle.token.specs.declared.Kind.TheVariants.{Number, String}
use Rattle.token.specs.Tokens.{Token}
use Rattle.definition.specs.Definitions.{Macro, member, variable, is_identifier, spells, hash, join}
use Rattle.replacement.specs.Items.{Item, fresh, marking, marking_first, placing, with, shared, hiding, End, whole, fault, Outcome, failing, giving, ◌then◌, over, limited}
use Rattle.replacement.specs.Joining.{Piece, piece, joiner, nothing, literal, join_all}

-- the definition in force of a name
abbrev pub found : List ℕ → List Macro → Option Macro
found n [] = None
found n (m ∷ ms) = cond (bytes_eq n m.name) (Some m) (found n ms)

-- the place of a parameter
abbrev pub place : ℕ → List ℕ → List (List ℕ) → Option ℕ
place k n [] = None
place k n (p ∷ ps) = cond (bytes_eq n p) (Some k) (place (suc k) n ps)

-- Tokens in parentheses

-- what stands before the matching ), and that ) where there is one; the first argument is how many ( are open
pub record Gathered : Type 0 where
  pub inside : List Item
  pub close : Option Item

abbrev pub and_inside : Item → Gathered → Gathered
and_inside i g = record { inside = i ∷ g.inside; close = g.close }

abbrev pub opens : Item → Bool
opens i = spells i.token (codes "(")

abbrev pub closes : Item → Bool
closes i = spells i.token (codes ")")

abbrev pub comma : Item → Bool
comma i = spells i.token (codes ",")

abbrev pub gathered : ℕ → List Item → Gathered
gathered depth [] = record { inside = []; close = None }
gathered depth (i ∷ is) =
    elim (closes i) [
      | true ↦ elim depth [ zero ↦ record { inside = []; close = Some i } | suc d ↦ and_inside i (gathered d is) ]
      | false ↦ and_inside i (gathered (cond (opens i) (suc depth) depth) is)
    ]

-- arguments: parted at commas outside parentheses, at most so many times
abbrev pub onto_first : Item → List (List Item) → List (List Item)
onto_first i [] = (i ∷ []) ∷ []
onto_first i (a ∷ args) = (i ∷ a) ∷ args

abbrev pub parted : ℕ → ℕ → List Item → List (List Item)
parted most depth [] = [] ∷ []
parted most depth (i ∷ is) =
    elim (comma i && depth == 0 && nat_le 1 most) [
      | true ↦ [] ∷ parted (most - 1) 0 is
      | false ↦ onto_first i (parted most (cond (opens i) (suc depth) (cond (closes i) (depth - 1) depth)) is)
    ]

abbrev pub is_nil : List Item → Bool
is_nil [] = true
is_nil (i ∷ is) = false

-- the arguments for so many parameters, or none where their number is wrong
abbrev pub arguments : List (List ℕ) → List Item → Option (List (List Item))
arguments ps is =
    let most = cond (member variable ps) (length ps - 1) (length is) in
    let args = parted most 0 is in
    cond (length ps == 0) (cond (is_nil is) (Some []) None) (cond (length args == length ps) (Some args) None)

-- Building a result

-- what an argument expands to alone, by the line of the name whose argument it is and the replacements left
abbrev pub Expander : Type 0
Expander = ℕ → ℕ → List Item → Outcome Item

-- an argument as it stands: nothing, or its tokens, the first with the parameter's mark
abbrev pub raw : Bool → List Item → List Piece
raw m [] = nothing ∷ []
raw m (i ∷ is) = piece (marking m i) ∷ map piece is

-- what an argument expanded to, the first token with the parameter's mark; one that met a fault gives nothing but that
abbrev pub argument_pieces : Bool → List Item → End → ℕ → Outcome Piece
argument_pieces m is whole left = giving (map piece (marking_first m is)) left
argument_pieces m is (fault n l) left = failing n l left

abbrev pub expanded : Expander → ℕ → Bool → List Item → ℕ → Outcome Piece
expanded e line m argument left = let o = limited line (e line left argument) in argument_pieces m o.items o.ending o.left

-- the argument of a token that is a parameter
abbrev pub argument_of : List (List ℕ) → List (List Item) → Token → Option (List Item)
argument_of ps args t = elim (place 0 t.spelling ps) [ None ↦ None | Some k ↦ slice_get args k ]

-- behind # stands a parameter
abbrev pub operand_of : Option (List Item) → List Item
operand_of None = []
operand_of (Some a) = a

-- a token of the list that is no operator: a parameter beside ## its argument, any other parameter that expanded, else itself
abbrev pub substituted : Expander → ℕ → Bool → Token → Option (List Item) → ℕ → Outcome Piece
substituted e line beside t None left = giving (piece (fresh (placing line t)) ∷ []) left
substituted e line beside t (Some a) left = elim beside [ true ↦ giving (raw t.marked a) left | false ↦ expanded e line t.marked a left ]

-- the list from the left; the flag says whether ## stands before
abbrev pub built : Expander → ℕ → Option (List (List ℕ)) → List (List Item) → Bool → ℕ → List Token → Outcome Piece
built e line ps args joins left [] = giving [] left
built e line None args joins left (t ∷ ts) =
    elim (join t) [
      | true ↦ giving (joiner (fresh (placing line t)) ∷ []) left then (λ n. built e line None args true n ts)
      | false ↦ giving (piece (fresh (placing line t)) ∷ []) left then (λ n. built e line None args false n ts)
    ]
built e line (Some ps) args joins left (t ∷ []) =
    elim (join t) [
      | true ↦ giving (joiner (fresh (placing line t)) ∷ []) left
      | false ↦ substituted e line joins t (argument_of ps args t) left
    ]
built e line (Some ps) args joins left (t ∷ u ∷ ts) =
    elim (join t) [
      | true ↦ giving (joiner (fresh (placing line t)) ∷ []) left then (λ n. built e line (Some ps) args true n (u ∷ ts))
      | false ↦
          elim (hash t) [
            | true ↦ literal t line (operand_of (argument_of ps args u)) left then (λ n. built e line (Some ps) args false n ts)
            | false ↦ substituted e line (joins || join u) t (argument_of ps args t) left then (λ n. built e line (Some ps) args false n (u ∷ ts))
          ]
    ]

-- a result before joining holds at most 1,024 pieces and 16,384 bytes; ## counts, and nothing counts as an empty token
abbrev pub piece_bytes : List Piece → ℕ
piece_bytes [] = 0
piece_bytes (piece i ∷ ps) = length i.token.spelling + piece_bytes ps
piece_bytes (joiner i ∷ ps) = length i.token.spelling + piece_bytes ps
piece_bytes (nothing ∷ ps) = piece_bytes ps

abbrev pub limited_pieces : ℕ → Outcome Piece → Outcome Piece
limited_pieces line o = cond (nat_lt 1024 (length o.items) || nat_lt 16384 (piece_bytes o.items)) (failing 64 line o.left) o

-- the pieces joined, where they ended whole
abbrev pub joined_outcome : ℕ → Outcome Piece → Outcome Item
joined_outcome line o = elim o.ending [ whole ↦ join_all line o.left None o.items | fault n l ↦ failing n l o.left ]

-- the result of a macro's list for the token t: joined, each token hiding h, the first with t's mark
abbrev pub result : Expander → Item → Option (List (List ℕ)) → List (List Item) → (List ℕ → Bool) → List Token → ℕ → Outcome Item
result e t ps args h list left =
    let l = t.token.line in
    let o = joined_outcome l (limited_pieces l (built e l ps args false left list)) in
    record { items = marking_first t.token.marked (map (hiding h) o.items); ending = o.ending; left = o.left }

-- Steps

-- what happens to a token before W and the run: another is handed on, W and the run become others, or there is a fault
pub data Move : Type 0 where
  hand : Item → ℕ → Move
  go : List Item → List Item → ℕ → Move
  halt : ℕ → ℕ → ℕ → Move

-- a result goes before W, which holds at most 1,024 tokens and 16,384 bytes
abbrev pub before : ℕ → List Item → List Item → Outcome Item → Move
before line w run o =
    elim o.ending [
      | fault n l ↦ halt n l o.left
      | whole ↦ cond (over (o.items ++ w)) (halt 64 line o.left) (go (o.items ++ w) run o.left)
    ]

-- every replacement counts one, and none is left behind 65,536
abbrev pub counting : ℕ → ℕ → (ℕ → Move) → Move
counting line zero next = halt 65 line 0
counting line (suc n) next = next n

-- the four built-in names
abbrev pub digits : ℕ → ℕ → List ℕ → List ℕ
digits zero n ds = ds
digits (suc g) n ds = let d = (48 + n % 10) ∷ ds in cond (nat_lt n 10) d (digits g (n / 10) d)

abbrev pub built_in_result : List ℕ → Item → Option Item
built_in_result file t =
    let made : Kind → List ℕ → Item = λ k bs. record { token = record { kind = k; spelling = bs; line = t.token.line; marked = t.token.marked }; hides = t.hides } in
    cond (spells t.token (codes "__LINE__")) (Some (made Number (digits 10 t.token.line [])))
    (cond (spells t.token (codes "__FILE__")) (Some (made String (34 ∷ (file ++ 34 ∷ []))))
    (cond (spells t.token (codes "__STDC__")) (Some (made Number (codes "1")))
    (cond (spells t.token (codes "__STDC_VERSION__")) (Some (made Number (codes "199901L"))) None)))

-- with the tokens in parentheses behind a function-like name: 64, 51, 52 and 65 in that order
abbrev pub called : Expander → Macro → List (List ℕ) → Item → List Item → List Item → End → ℕ → Gathered → Move
called e m ps t w run end left g =
    let l = t.token.line in
    let used = suc (suc (length g.inside)) in
    elim (over g.inside) [
      | true ↦ halt 64 l left
      | false ↦
          elim g.close [
            | None ↦ elim end [ whole ↦ halt 51 l left | fault n k ↦ halt n k left ]
            | Some close ↦
                elim (arguments ps g.inside) [
                  | None ↦ halt 52 l left
                  | Some args ↦
                      counting l left (λ n. before l (drop used w) (drop (used - length w) run) (result e t (Some ps) args (with (shared t.hides close.hides) t.token.spelling) m.list n))
                ]
          ]
    ]

-- a function-like name is replaced only where ( follows
abbrev pub applied : Expander → Macro → List (List ℕ) → Item → List Item → List Item → End → ℕ → List Item → Move
applied e m ps t w run end left [] = hand t left
applied e m ps t w run end left (i ∷ is) = elim (opens i) [ true ↦ called e m ps t w run end left (gathered 0 is) | false ↦ hand t left ]

-- a name that is defined
abbrev pub replaced : Expander → Item → List Item → List Item → End → ℕ → Macro → Move
replaced e t w run end left m =
    elim m.parameters [
      | None ↦ counting t.token.line left (λ n. before t.token.line w run (result e t None [] (with t.hides t.token.spelling) m.list n))
      | Some ps ↦ applied e m ps t w run end left (w ++ run)
    ]

-- One step with the token t before W and the run: a token that names no macro, or is in its own hide set, is handed on.
abbrev pub step : Expander → List Macro → List ℕ → End → Item → List Item → List Item → ℕ → Move
step e ms file end t w run left =
    elim (is_identifier t.token.kind && not (t.hides t.token.spelling)) [
      | false ↦ hand t left
      | true ↦
          elim (built_in_result file t) [
            | Some u ↦ counting t.token.line left (λ n. hand u n)
            | None ↦ elim (found t.token.spelling ms) [ None ↦ hand t left | Some m ↦ replaced e t w run end left m ]
          ]
    ]

-- Steps in a row

abbrev pub Step : Type 0
Step = Item → List Item → List Item → ℕ → Move

abbrev pub Turn : Type 0
Turn = ℕ → List Item → List Item → Outcome Item

-- along the run, until a result goes before it
abbrev pub along_run : Step → Turn → End → ℕ → List Item → Outcome Item
along_run s next end left [] = record { items = []; ending = end; left = left }
along_run s next end left (t ∷ run) =
    elim (s t [] run left) [ hand u n ↦ giving (u ∷ []) n then (λ k. along_run s next end k run) | go w r n ↦ next n w r | halt k l n ↦ failing k l n ]

-- along W first
abbrev pub along : Step → Turn → End → ℕ → List Item → List Item → Outcome Item
along s next end left [] run = along_run s next end left run
along s next end left (t ∷ w) run =
    elim (s t w run left) [ hand u n ↦ giving (u ∷ []) n then (λ k. along s next end k w run) | go v r n ↦ next n v r | halt k l n ↦ failing k l n ]

-- at most so many results go before W; one more than there are replacements left is enough
abbrev pub turns : Expander → List Macro → List ℕ → End → ℕ → Turn
turns e ms file end zero left w run = giving [] left
turns e ms file end (suc g) left w run = along (step e ms file end) (turns e ms file end g) end left w run

-- arguments are expanded alone, at most so many levels deep
abbrev pub levels : List Macro → List ℕ → ℕ → Expander
levels ms file zero line left is = failing 66 line left
levels ms file (suc n) line left is = turns (levels ms file n) ms file whole (suc left) left [] is

-- the expansion of a run
abbrev pub expand : List Macro → List ℕ → ℕ → List Item → End → Outcome Item
expand ms file left run end = turns (levels ms file 16) ms file end (suc left) left [] run
