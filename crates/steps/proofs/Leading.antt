-- Steps that are counted, and where they lead. Assumes nothing.
use Rattle.std.proofs.Common.{◌≡◌, ℕ, zero, suc, ◌+◌, ◌-◌, ◌<◌, ◌≤◌, Bool, true, false, cond, eqb, List, [], ◌∷◌, ◌++◌, length, drop, Some, Ok, Err, Option, Result, sym, refl, ap, ◌∙◌, subst, arith, length-append, length-drop}
use Rattle.std.specs.List.{slice_get}
use Rattle.std.proofs.lemmas.Bool.{cond-false, ne_eqb}
use Rattle.text.specs.declared.Fault.{Fault}
use Rattle.text.specs.declared.FaultKind.TheVariants.{ManyReplacements}
use Rattle.token.specs.declared.Kind.TheVariants.{Identifier}
use Rattle.item.specs.declared.hide_set.HideSet.{HideSet}
use Rattle.item.specs.Tagged.{Tagged}
use Rattle.definition.specs.Definitions.{Macro}
use Rattle.replacement.specs.Items.{Item, End as Ends, whole, fault, Outcome, over}
use Rattle.replacement.specs.Meaning.{hidden, item_of, items_of}
use Rattle.replacement.specs.Replacing.{Expander, Turn, Move, go, halt, before, counting, result}
use Rattle.invocation.specs.Fronts.{Dropped}
use Rattle.item.specs.declared.Name.{Name}
use Rattle.steps.specs.declared.prepared.Call.{Call}
use Rattle.steps.specs.declared.prepared.Prepared.{Prepared}
use Rattle.steps.specs.declared.prepared.Prepared.TheVariants.{End, Hand, Replace}
use Rattle.steps.specs.Calling.{fault_at, Leading, Named}
use Rattle.steps.specs.Steps.{State, onward, arguments_for, result_for, result_of, moved, Preparing}
use Rattle.steps.proofs.Stepping.{led}

-- the result of a macro, by its slot
pub result_is : (e : Expander) (ms : List Macro) (x : Tagged HideSet) (k : ℕ) (n : Name) (m : Macro) (ps : Option (List (List ℕ))) (given args : List (List Item)) (h : List ℕ → Bool) (left : ℕ) (c : Call) → Named ms x k n m ps → c ≡ record { slot = k; name = record { line = n.line; marked = n.marked; hides = c.name.hides } } → args ≡ arguments_for ps given → h ≡ hidden ms c.name.hides → result e (item_of ms x) ps args h m.list left ≡ result_of e ms given c left
result_is e ms x k n m ps given args h left c named place a f =
    let line : x.token.line ≡ c.name.line = sym (ap (λ d. d.name.line) place ∙ ap (λ v. v.line) named.name) in
    let mark : x.token.marked ≡ c.name.marked = sym (ap (λ d. d.name.marked) place ∙ ap (λ v. v.marked) named.name) in
    let here : slice_get ms c.slot ≡ Some m = ap (λ d. slice_get ms d.slot) place ∙ named.definition in
    let own = sym named.parameters in
    (λ j. result e (record { token = record { kind = Identifier; spelling = []; line = line j; marked = mark j }; hides = λ v. false }) (own j) ((a ∙ ap (λ p. arguments_for p given) own) j) (f j) m.list left) ∙ ap (result_for e ms given c left) (sym here)

-- a move that hands nothing on
abbrev chosen : ℕ → List Item → List Item → ℕ → Ends → Bool → Move
chosen line is run left d b =
    elim d [ fault n l ↦ halt n l left | whole ↦ cond b (halt 64 line left) (go is run left) ]

led_chosen : (e : Expander) (next : Turn) (ms : List Macro) (file : List ℕ) (end : Ends) (w' run' : List (Tagged HideSet)) (line : ℕ) (is run : List Item) (left : ℕ) (d : Ends) (b : Bool) → led e next ms file end w' run' (chosen line is run left d b) ≡ moved next (chosen line is run left d b)
led_chosen e next ms file end w' run' line is run left (fault n l) b = refl
led_chosen e next ms file end w' run' line is run left whole true = refl
led_chosen e next ms file end w' run' line is run left whole false = refl

module _ (ms : List Macro) (file : List ℕ) (end : Ends) (s t : State) (args : List (List Item)) where
  pub leading_prepared : (r : Result Prepared Fault) (move : Expander → Move) (w run : List (Tagged HideSet)) → ((e : Expander) (next : Turn) → onward e next ms file end s ≡ led e next ms file end w run (move e)) → Leading ms move t args r → Preparing ms file end s t args r
  leading_prepared (Ok End) move w run f a = absurd a
  leading_prepared (Ok (Hand h)) move w run f a = absurd a
  leading_prepared (Ok (Replace c)) move w run f a =
      λ e next. let o = result_of e ms args c t.left in f e next ∙ ap (led e next ms file end w run) (a e) ∙ led_chosen e next ms file end w run c.name.line (o.items ++ items_of ms t.w) (items_of ms t.run) o.left o.ending (over (o.items ++ items_of ms t.w))
  leading_prepared (Err f) move w run g a =
      λ e next. let is = g e next ∙ ap (led e next ms file end w run) (a e) in (ap (λ o. o.items) is, ap (λ o. o.ending) is)

-- a replacement is counted where one is left
pub counted_cases : (left left' line : ℕ) (p : Prepared) (r : Result Prepared Fault) (P : ℕ → Result Prepared Fault → Type 0) → r ≡ cond (eqb left 0) (Err (fault_at ManyReplacements line)) (Ok p) → left' ≡ left - 1 → (left' ≡ 0 → P 0 (Err (fault_at ManyReplacements line))) → P (suc left') (Ok p) → P left r
counted_cases zero left' line p r P answer less none some = subst (P 0) (sym answer) (none less)
counted_cases (suc n) left' line p r P answer less none some =
    let count : suc left' ≡ suc n = omega arith in
    let is = answer ∙ cond-false _ (Err (fault_at ManyReplacements line)) (Ok p) (ne_eqb (suc n) 0 (λ z. omega arith)) in
    subst (λ k. P k r) count (subst (P (suc left')) (sym is) some)

pub leading_counted : (ms : List Macro) (args : List (List Item)) (left left' line : ℕ) (c : Call) (r : Result Prepared Fault) (w run : List (Tagged HideSet)) (results : Expander → ℕ → Outcome Item) → r ≡ cond (eqb left 0) (Err (fault_at ManyReplacements line)) (Ok (Replace c)) → left' ≡ left - 1 → line ≡ c.name.line → ((e : Expander) (j : ℕ) → results e j ≡ result_of e ms args c j) → Leading ms (λ e. counting line left (λ j. before line (items_of ms w) (items_of ms run) (results e j))) (record { left = left'; w = w; run = run }) args r
leading_counted ms args left left' line c r w run results answer less l f =
    counted_cases left left' line (Replace c) r (λ n q. Leading ms (λ e. counting line n (λ j. before line (items_of ms w) (items_of ms run) (results e j))) (record { left = left'; w = w; run = run }) args q) answer less (λ z e. ap (halt 65 line) (sym z)) (λ e. (λ j. before (l j) (items_of ms w) (items_of ms run) (f e left' j)))

-- less is left behind
pub waiting_less : (n : ℕ) (w run w' run' : List (Tagged HideSet)) → Dropped n w run w' run' → length w' ≤ length w
waiting_less n w run w' run' d = omega (arith, ap length d.first, length-drop n w)

pub run_less : (n : ℕ) (w run w' run' : List (Tagged HideSet)) → Dropped n w run w' run' → length run' ≤ length run
run_less n w run w' run' d = omega (arith, ap length d.then, length-drop (n - length w) run)

pub all_less : (x : Tagged HideSet) (w run w' run' : List (Tagged HideSet)) → Some x ≡ slice_get (w ++ run) 0 → Dropped 1 w run w' run' → length w' + length run' < length w + length run
all_less x w run w' run' f d =
    omega (arith, ap length d.first, length-drop 1 w, ap length d.then, length-drop (1 - length w) run, some_first (w ++ run) f, length-append w run)
  where
    some_first : (xs : List (Tagged HideSet)) → Some x ≡ slice_get xs 0 → 0 < length xs
    some_first [] e = let z : ◌≡◌ {A = ℕ} 0 1 = cc in omega arith
    some_first (y ∷ xs) e = omega arith

-- the same of a run that has been asked for its first token
pub dropped_from : (n : ℕ) (w run run₁ w' run' : List (Tagged HideSet)) → run₁ ≡ run → Dropped n w run₁ w' run' → Dropped n w run w' run'
dropped_from n w run run₁ w' run' e d = record { first = d.first; then = d.then ∙ ap (drop (n - length w)) e }

pub dropped_to : (n : ℕ) (w run w' run' run₁ : List (Tagged HideSet)) → run₁ ≡ run' → Dropped n w run w' run' → Dropped n w run w' run₁
dropped_to n w run w' run' run₁ e d = record { first = d.first; then = e ∙ d.then }
