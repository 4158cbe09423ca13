-- A result, from its pieces to its place before W. Assumes nothing.
use Rattle.std.proofs.Common.{◌≡◌, ℕ, ◌≤◌, true, false, cond, List, [], ◌++◌, map, Some, None, Err, Option, sym, refl, ap, ◌∙◌, arith}
use Rattle.text.specs.Faults.{fault_number}
use Rattle.text.specs.declared.FaultKind.{FaultKind}
use Rattle.text.specs.declared.FaultKind.TheVariants.{BrokenFile, BadByte, LongFile, OpenComment, OpenLiteral, LongLine, LongToken, UnknownDirective, BadDirective, BadDefinition, OtherDefinition, OpenCall, ArgumentCount, BadJoin, BadLiteral, ManyDefinitions, ManyTokens, ManyReplacements, DeepArguments}
use Rattle.definition.specs.Definitions.{Macro}
use Rattle.replacement.specs.Items.{Item, End as Ends, whole, fault, Outcome, giving, failing, over, hiding, marking_first}
use Rattle.replacement.specs.Joining.{Piece, join_all}
use Rattle.replacement.specs.Meaning.{hidden}
use Rattle.replacement.specs.Replacing.{Expander, Turn, Move, halt, go, before, joined_outcome, built}
use Rattle.replacement.proofs.Counts.{Modest, built_left, limited_pieces_left}
use Rattle.operators.specs.Placing.{joined_items, Joins, Placing}
use Rattle.steps.specs.declared.prepared.Call.{Call}
use Rattle.steps.specs.Steps.{result_for, arguments_for, moved}
use Rattle.expansion.specs.States.{pieces_for}

-- no more replacements are left than before
pub fewer : (e : Expander) → Modest e → (args : List (List Item)) (c : Call) (left : ℕ) (m : Option Macro) → (pieces_for e args c left m).left ≤ left
fewer e h args c left None = omega arith
fewer e h args c left (Some m) =
    limited_pieces_left c.name.line left (built e c.name.line m.parameters (arguments_for m.parameters args) false left m.list) (built_left e h c.name.line m.parameters (arguments_for m.parameters args) false left left m.list (omega arith))

module _ (ms : List Macro) (c : Call) where
  -- tokens as they go before W
  abbrev pub shaped : List Item → List Item
  shaped is = marking_first c.name.marked (map (hiding (hidden ms c.name.hides)) is)

  abbrev pub shaped_outcome : Outcome Item → Outcome Item
  shaped_outcome o = record { items = shaped o.items; ending = o.ending; left = o.left }

  pub by_pieces : (e : Expander) (args : List (List Item)) (left : ℕ) (m : Option Macro) → result_for e ms args c left m ≡ shaped_outcome (joined_outcome c.name.line (pieces_for e args c left m))
  by_pieces e args left None = refl
  by_pieces e args left (Some m) = refl

  module _ (next : Turn) (w run : List Item) (o : Outcome Item) (p : Outcome Piece) (is : o ≡ shaped_outcome (joined_outcome c.name.line p)) where
    abbrev chosen : Outcome Item → Ends → Outcome Item
    chosen x whole = moved next (cond (over (x.items ++ w)) (halt 64 c.name.line x.left) (go (x.items ++ w) run x.left))
    chosen x (fault n l) = failing n l x.left

    by_ending : (x : Outcome Item) (end : Ends) → x.ending ≡ end → moved next (before c.name.line w run x) ≡ chosen x end
    by_ending x end h = ap (λ z. moved next (elim z as (λ y. Move) [ fault n l ↦ halt n l x.left | whole ↦ cond (over (x.items ++ w)) (halt 64 c.name.line x.left) (go (x.items ++ w) run x.left) ])) h ∙ same end
      where
        same : (z : Ends) → moved next (elim z as (λ y. Move) [ fault n l ↦ halt n l x.left | whole ↦ cond (over (x.items ++ w)) (halt 64 c.name.line x.left) (go (x.items ++ w) run x.left) ]) ≡ chosen x z
        same whole = refl
        same (fault n l) = refl

    -- nothing but a fault
    ends_so : (a l : ℕ) → o.ending ≡ fault a l → ((moved next (before c.name.line w run o)).items ≡ []) × ((moved next (before c.name.line w run o)).ending ≡ fault a l)
    ends_so a l h = let m = by_ending o (fault a l) h in (ap (λ x. x.items) m, ap (λ x. x.ending) m)

    pub fails : (a l : ℕ) → p.ending ≡ fault a l → ((moved next (before c.name.line w run o)).items ≡ []) × ((moved next (before c.name.line w run o)).ending ≡ fault a l)
    fails a l h =
        ends_so a l (ap (λ x. x.ending) is ∙ ap (λ z. (elim z as (λ y. Outcome Item) [ whole ↦ join_all c.name.line p.left None p.items | fault n k ↦ failing n k p.left ]).ending) h)

    module _ (ps : List Piece) (n : ℕ) (given : p ≡ giving ps n) where
      pub joins_not : (a l : ℕ) → (join_all c.name.line n None ps).ending ≡ fault a l → ((moved next (before c.name.line w run o)).items ≡ []) × ((moved next (before c.name.line w run o)).ending ≡ fault a l)
      joins_not a l h = ends_so a l (ap (λ x. x.ending) (is ∙ ap (λ q. shaped_outcome (joined_outcome c.name.line q)) given) ∙ h)

      module _ (js : List Item) (whole_join : join_all c.name.line n None ps ≡ giving js n) where
        all : o ≡ giving (shaped js) n
        all = is ∙ ap (λ q. shaped_outcome (joined_outcome c.name.line q)) given ∙ ap shaped_outcome whole_join

        placed : moved next (before c.name.line w run o) ≡ moved next (cond (over (shaped js ++ w)) (halt 64 c.name.line n) (go (shaped js ++ w) run n))
        placed = ap (λ x. moved next (before c.name.line w run x)) all

        -- the result goes before W
        pub goes : (v : List Item) → over (shaped js ++ w) ≡ false → v ≡ shaped js ++ w → moved next (before c.name.line w run o) ≡ next n v run
        goes v fits same =
            placed ∙ ap (λ b. moved next (cond b (halt 64 c.name.line n) (go (shaped js ++ w) run n))) fits ∙ ap (λ x. next n x run) (sym same)

        -- or there is no room for it
        pub overflows : over (shaped js ++ w) ≡ true → ((moved next (before c.name.line w run o)).items ≡ []) × ((moved next (before c.name.line w run o)).ending ≡ fault 64 c.name.line)
        overflows big =
            let m = placed ∙ ap (λ b. moved next (cond b (halt 64 c.name.line n) (go (shaped js ++ w) run n))) big in (ap (λ x. x.items) m, ap (λ x. x.ending) m)

      -- what placing the pieces says, with W as it stands then
      pub placed-before : (u v : List Item) → u ≡ w → (j : Joins c.name.line ps) → over (shaped (joined_items c.name.line ps) ++ u) ≡ false → v ≡ shaped (joined_items c.name.line ps) ++ u → moved next (before c.name.line w run o) ≡ next n v run
      placed-before u v e j fits same =
          let js = joined_items c.name.line ps in
          goes js (j n) v (ap (λ x. over (shaped js ++ x)) (sym e) ∙ fits) (same ∙ ap (λ x. shaped js ++ x) e)

      pub not_placed : (u v : List Item) → u ≡ w → (k : FaultKind) → Placing c.name.line c.name.marked (hidden ms c.name.hides) ps u v (Err k) → ((moved next (before c.name.line w run o)).items ≡ []) × ((moved next (before c.name.line w run o)).ending ≡ fault (fault_number k) c.name.line)
      not_placed u v e BrokenFile h = absurd h
      not_placed u v e BadByte h = absurd h
      not_placed u v e LongFile h = absurd h
      not_placed u v e OpenComment h = absurd h
      not_placed u v e OpenLiteral h = absurd h
      not_placed u v e LongLine h = absurd h
      not_placed u v e LongToken h = absurd h
      not_placed u v e UnknownDirective h = absurd h
      not_placed u v e BadDirective h = absurd h
      not_placed u v e BadDefinition h = absurd h
      not_placed u v e OtherDefinition h = absurd h
      not_placed u v e OpenCall h = absurd h
      not_placed u v e ArgumentCount h = absurd h
      not_placed u v e BadJoin h = joins_not 53 c.name.line (h n)
      not_placed u v e BadLiteral h = absurd h
      not_placed u v e ManyDefinitions h = absurd h
      not_placed u v e ManyTokens h = let js = joined_items c.name.line ps in overflows js (h.0 n) (ap (λ x. over (shaped js ++ x)) (sym e) ∙ h.1)
      not_placed u v e ManyReplacements h = absurd h
      not_placed u v e DeepArguments h = absurd h
