-- A prepared step by what its calls answer. Assumes nothing.
use Rattle.std.proofs.Common.{◌≡◌, ℕ, ◌-◌, ◌<◌, ◌≤◌, Bool, true, false, cond, ◌&&◌, ◌||◌, eqb, ltb, List, [], ◌∷◌, ◌++◌, length, take, drop, Some, None, Ok, Err, Option, Result, sym, refl, ap, ◌∙◌, arith, length-drop}
use mathlib.Core.List.{map-append}
use Rattle.std.specs.List.{slice_get}
use Rattle.text.specs.declared.Fault.{Fault}
use Rattle.text.specs.declared.FaultKind.TheVariants.{ManyReplacements}
use Rattle.token.specs.declared.Kind.TheVariants.{Identifier}
use Rattle.item.specs.declared.hide_set.HideSet.{HideSet}
use Rattle.item.specs.Sets.{in_set}
use Rattle.item.specs.Tagged.{Tagged}
use Rattle.definition.specs.Definitions.{Macro}
use Rattle.replacement.specs.Items.{Item, End as Ends, Outcome, giving, with, ◌then◌}
use Rattle.replacement.specs.Meaning.{hidden, item_of, items_of}
use Rattle.replacement.specs.Replacing.{Expander, Turn, Move, opens, closes, gathered, counting, hand, before, result, called, applied, step}
use Rattle.invocation.specs.declared.bracket.Bracket.{Bracket}
use Rattle.invocation.specs.declared.bracket.Bracket.TheVariants.{Opens, Closes, Inner}
use Rattle.invocation.specs.Fronts.{Dropped, bracket}
use Rattle.invocation.proofs.Lists.{take_first}
use Rattle.invocation.proofs.Waiting.{dropped_left}
use Rattle.steps.specs.declared.class.BuiltIn.{BuiltIn as BuiltInName}
use Rattle.item.specs.declared.Name.{Name as NameAt}
use Rattle.steps.specs.declared.prepared.Call.{Call}
use Rattle.steps.specs.declared.prepared.Handed.TheVariants.{Front, Name, BuiltIn}
use Rattle.steps.specs.declared.prepared.Prepared.{Prepared}
use Rattle.steps.specs.declared.prepared.Prepared.TheVariants.{End, Hand, Replace}
use Rattle.steps.specs.Calling.{is_opening, fault_at, Named, Calling}
use Rattle.steps.specs.Handing.{built_in_kind, built_in_spelling, in_place}
use Rattle.steps.specs.Steps.{State, onward, behind, size, Preparing, Falling}
use Rattle.steps.proofs.Hiding.{slot-name, with_hidden}
use Rattle.steps.proofs.Leading.{result_is, leading_prepared, leading_counted, counted_cases, waiting_less, run_less, all_less}
use Rattle.steps.proofs.Stepping.{Passed, Standing, Naming, led, onward_first}

-- a name that is defined, by the macro's parameters
abbrev replaced_by : Expander → Item → List Item → List Item → Ends → ℕ → Macro → Option (List (List ℕ)) → Move
replaced_by e t w run end left m o =
    elim o [
      | None ↦ counting t.token.line left (λ n. before t.token.line w run (result e t None [] (with t.hides t.token.spelling) m.list n))
      | Some ps ↦ applied e m ps t w run end left (w ++ run)
    ]

-- a function-like name, by whether `(` follows
abbrev applied_by : Expander → Macro → List (List ℕ) → Item → List Item → List Item → Ends → ℕ → Bool → List Item → Move
applied_by e m ps t w run end left b is = elim b [ true ↦ called e m ps t w run end left (gathered 0 is) | false ↦ hand t left ]

opening_is : (a b : Bool) (h : HideSet) → a ≡ is_opening (cond a Opens (cond b (Closes h) Inner))
opening_is true b h = refl
opening_is false true h = refl
opening_is false false h = refl

applied_by_lem : (ms : List Macro) (e : Expander) (m : Macro) (ps : List (List ℕ)) (t : Item) (w run : List Item) (end : Ends) (left : ℕ) (xs : List (Tagged HideSet)) → applied e m ps t w run end left (items_of ms xs) ≡ applied_by e m ps t w run end left (is_opening (bracket (slice_get xs 0))) (items_of ms (drop 1 xs))
applied_by_lem ms e m ps t w run end left [] = refl
applied_by_lem ms e m ps t w run end left (x ∷ xs) =
    ap (λ b. applied_by e m ps t w run end left b (items_of ms xs)) (opening_is (opens (item_of ms x)) (closes (item_of ms x)) x.tag)

-- a name in its own place
named_item : (ms : List Macro) (x : Tagged HideSet) (k : ℕ) (n : NameAt) (m : Macro) (ps : Option (List (List ℕ))) → Named ms x k n m ps → item_of ms x ∷ [] ≡ elim (slice_get ms k) [ None ↦ [] | Some d ↦ in_place ms n Identifier d.name ∷ [] ]
named_item ms x k n m ps named =
    let spelled = slot-name x.token.spelling ms k m named.slot named.definition in
    (λ j. record { token = record { kind = named.kind j; spelling = spelled j; line = x.token.line; marked = x.token.marked }; hides = hidden ms x.tag } ∷ []) ∙ ap (λ v. in_place ms v Identifier m.name ∷ []) (sym named.name) ∙ ap (λ o. elim o [ None ↦ [] | Some d ↦ in_place ms n Identifier d.name ∷ [] ]) (sym named.definition)

pub falling_counted : (left : ℕ) (w run w₁ run₁ : List (Tagged HideSet)) (k : ℕ) → Dropped k w run w₁ run₁ → (c : Call) (line left₁ : ℕ) (r : Result Prepared Fault) → r ≡ cond (eqb left 0) (Err (fault_at ManyReplacements line)) (Ok (Replace c)) → left₁ ≡ left - 1 → Falling (record { left = left; w = w; run = run }) (record { left = left₁; w = w₁; run = run₁ }) r
falling_counted left w run w₁ run₁ k dropped c line left₁ r answer less =
    counted_cases left left₁ line (Replace c) r (λ j q. Falling (record { left = j; w = w; run = run }) (record { left = left₁; w = w₁; run = run₁ }) q) answer less (λ z. tt) (omega arith, run_less k w run w₁ run₁ dropped)

falling_more : (left : ℕ) (w run w₂ run₂ : List (Tagged HideSet)) (t : State) (r : Result Prepared Fault) → length run₂ ≤ length run → length w₂ ≤ length w → Falling (record { left = left; w = w₂; run = run₂ }) t r → Falling (record { left = left; w = w; run = run }) t r
falling_more left w run w₂ run₂ t (Ok End) a b f = tt
falling_more left w run w₂ run₂ t (Ok (Hand h)) a b f = (f.0, omega (arith, f.1), omega (arith, f.2))
falling_more left w run w₂ run₂ t (Ok (Replace c)) a b f = (f.0, omega (arith, f.1))
falling_more left w run w₂ run₂ t (Err d) a b f = tt

module _ (ms : List Macro) (file : List ℕ) (end : Ends) (args : List (List Item)) (left : ℕ) (w run : List (Tagged HideSet)) where
  -- the next token is handed on
  module _ (run₁ : List (Tagged HideSet)) (same : run₁ ≡ run) (front : Passed ms file end (w ++ run)) where
    taken-one : Dropped 1 w run (drop 1 w) (drop (1 - length w) run₁)
    taken-one = record { first = (λ j. drop 1 w); then = ap (drop (1 - length w)) same }

    pub prepared_plain : Preparing ms file end (record { left = left; w = w; run = run }) (record { left = left; w = w; run = run₁ }) args (Ok (Hand Front))
    prepared_plain e next =
        let items = ap (items_of ms) (take_first (w ++ run) front.x front.first ∙ ap (λ r. take 1 (w ++ r)) (sym same)) in
        onward_first e next ms file end left front.x w run _ _ front.first taken-one ∙ ap (led e next ms file end (drop 1 w) (drop (1 - length w) run₁)) (front.steps e _ _ left) ∙ (λ j. giving (items j) left then (λ k. onward e next ms file end (record { left = k; w = drop 1 w; run = drop (1 - length w) run₁ })))

    pub falling_plain : Falling (record { left = left; w = w; run = run }) (record { left = left; w = w; run = run₁ }) (Ok (Hand Front))
    falling_plain = (omega arith, all_less front.x w run _ _ front.first taken-one, omega (arith, ap length same))

  -- the next token has been taken away
  module _ (w₁ run₁ : List (Tagged HideSet)) (dropped : Dropped 1 w run w₁ run₁) where
    -- a token in its place is handed on
    module _ (x : Tagged HideSet) (first : Some x ≡ slice_get (w ++ run) 0) where
      pub onward_handed : (e : Expander) (next : Turn) (u : Item) (left₁ : ℕ) → step e ms file end (item_of ms x) (items_of ms w₁) (items_of ms run₁) left ≡ hand u left₁ → onward e next ms file end (record { left = left; w = w; run = run }) ≡ (giving (u ∷ []) left₁ then (λ k. onward e next ms file end (behind (record { left = left₁; w = w₁; run = run₁ }) 0 k)))
      onward_handed e next u left₁ f =
          let none : 0 ≡ 0 - length w₁ = omega arith in
          onward_first e next ms file end left x w run w₁ run₁ first dropped ∙ ap (led e next ms file end w₁ run₁) f ∙ (λ j. giving (u ∷ []) left₁ then (λ k. onward e next ms file end (record { left = k; w = w₁; run = drop (none j) run₁ })))

      pub size_handed : (left₁ : ℕ) → size (behind (record { left = left₁; w = w₁; run = run₁ }) 0 left₁) < size (record { left = left; w = w; run = run })
      size_handed left₁ = omega (arith, all_less x w run w₁ run₁ first dropped, length-drop (0 - length w₁) run₁)

    -- a built-in name
    module _ (b : BuiltInName) (n : NameAt) (front : Standing ms file end (w ++ run) b n) (left₁ : ℕ) (r : Result Prepared Fault) (answer : r ≡ cond (eqb left 0) (Err (fault_at ManyReplacements n.line)) (Ok (Hand (BuiltIn b n)))) (less : left₁ ≡ left - 1) where
      pub prepared_built_in : Preparing ms file end (record { left = left; w = w; run = run }) (record { left = left₁; w = w₁; run = run₁ }) args r
      prepared_built_in =
          let u = in_place ms n (built_in_kind b) (built_in_spelling file n.line b) in
          counted_cases left left₁ n.line (Hand (BuiltIn b n)) r (λ k q. ((e : Expander) → step e ms file end (item_of ms front.x) (items_of ms w₁) (items_of ms run₁) left ≡ counting n.line k (λ j. hand u j)) → Preparing ms file end (record { left = left; w = w; run = run }) (record { left = left₁; w = w₁; run = run₁ }) args q) answer less (λ z f e next. let is = onward_first e next ms file end left front.x w run w₁ run₁ front.first dropped ∙ ap (led e next ms file end w₁ run₁) (f e) in (ap (λ o. o.items) is, ap (λ o. o.ending) is)) (λ f e next. onward_handed front.x front.first e next u left₁ (f e)) (λ e. front.steps e (items_of ms w₁) (items_of ms run₁) left)

      pub falling_built_in : Falling (record { left = left; w = w; run = run }) (record { left = left₁; w = w₁; run = run₁ }) r
      falling_built_in =
          counted_cases left left₁ n.line (Hand (BuiltIn b n)) r (λ k q. Falling (record { left = k; w = w; run = run }) (record { left = left₁; w = w₁; run = run₁ }) q) answer less (λ z. tt) (omega arith, size_handed front.x front.first left₁, run_less 1 w run w₁ run₁ dropped)

    -- an object-like macro
    module _ (k : ℕ) (n : NameAt) (front : Naming ms file end (w ++ run) k n false) (c : Call) (left₁ : ℕ) (r : Result Prepared Fault) (answer : r ≡ cond (eqb left 0) (Err (fault_at ManyReplacements n.line)) (Ok (Replace c))) (less : left₁ ≡ left - 1) where
      pub prepared_object : k < 256 → c ≡ record { slot = k; name = record { line = n.line; marked = n.marked; hides = c.name.hides } } → ((j : ℕ) → in_set c.name.hides j ≡ ((eqb j k && ltb k 256) || in_set n.hides j)) → Preparing ms file end (record { left = left; w = w; run = run }) (record { left = left₁; w = w₁; run = run₁ }) args r
      prepared_object within place hides =
          let x = front.x in
          let m = front.m in
          let named = front.named in
          let t = item_of ms x in
          let line = x.token.line in
          let more : (j : ℕ) → in_set c.name.hides j ≡ ((eqb j k && ltb k 256) || in_set x.tag j) = λ j. hides j ∙ ap (λ v. (eqb j k && ltb k 256) || in_set v.hides j) named.name in
          let set = with_hidden ms x.token.spelling k m named.slot named.definition x.tag c.name.hides more within in
          let results : Expander → ℕ → Outcome Item = λ e j. result e t None [] (with (hidden ms x.tag) x.token.spelling) m.list j in
          leading_prepared ms file end (record { left = left; w = w; run = run }) (record { left = left₁; w = w₁; run = run₁ }) args r (λ e. counting line left (λ j. before line (items_of ms w₁) (items_of ms run₁) (results e j))) w₁ run₁ (λ e next. onward_first e next ms file end left x w run w₁ run₁ front.first dropped ∙ ap (led e next ms file end w₁ run₁) (front.steps e (items_of ms w₁) (items_of ms run₁) left ∙ ap (replaced_by e t (items_of ms w₁) (items_of ms run₁) end left m) named.parameters)) (leading_counted ms args left left₁ line c r w₁ run₁ results (answer ∙ ap (λ v. cond (eqb left 0) (Err (fault_at ManyReplacements v.line)) (Ok (Replace c))) named.name) less (sym (ap (λ d. d.name.line) place ∙ ap (λ v. v.line) named.name)) (λ e j. result_is e ms x k n m None args [] _ j c named place (λ i. []) set))

      pub falling_object : Falling (record { left = left; w = w; run = run }) (record { left = left₁; w = w₁; run = run₁ }) r
      falling_object = falling_counted left w run w₁ run₁ 1 dropped c n.line left₁ r answer less

    -- a function-like macro
    module _ (k : ℕ) (n : NameAt) (front : Naming ms file end (w ++ run) k n true) (b : Bracket) (answer : b ≡ bracket (slice_get (w₁ ++ run₁) 0)) where
      step_function : (e : Expander) → step e ms file end (item_of ms front.x) (items_of ms w₁) (items_of ms run₁) left ≡ applied_by e front.m front.ps (item_of ms front.x) (items_of ms w₁) (items_of ms run₁) end left (is_opening b) (items_of ms (drop 1 (w₁ ++ run₁)))
      step_function e =
          let t = item_of ms front.x in
          front.steps e (items_of ms w₁) (items_of ms run₁) left ∙ ap (replaced_by e t (items_of ms w₁) (items_of ms run₁) end left front.m) front.named.parameters ∙ ap (applied e front.m front.ps t (items_of ms w₁) (items_of ms run₁) end left) (sym (map-append (item_of ms) w₁ run₁)) ∙ applied_by_lem ms e front.m front.ps t (items_of ms w₁) (items_of ms run₁) end left (w₁ ++ run₁) ∙ ap (λ v. applied_by e front.m front.ps t (items_of ms w₁) (items_of ms run₁) end left (is_opening v) (items_of ms (drop 1 (w₁ ++ run₁)))) (sym answer)

      pub prepared_name : false ≡ is_opening b → Preparing ms file end (record { left = left; w = w; run = run }) (record { left = left; w = w₁; run = run₁ }) args (Ok (Hand (Name k n)))
      prepared_name o e next =
          let x = front.x in
          let t = item_of ms x in
          let rest = items_of ms (drop 1 (w₁ ++ run₁)) in
          onward_handed x front.first e next t left (step_function e ∙ ap (λ v. applied_by e front.m front.ps t (items_of ms w₁) (items_of ms run₁) end left v rest) (sym o)) ∙ ap (λ is. giving is left then (λ j. onward e next ms file end (behind (record { left = left; w = w₁; run = run₁ }) 0 j))) (named_item ms x k n front.m _ front.named)

      pub falling_name : Falling (record { left = left; w = w; run = run }) (record { left = left; w = w₁; run = run₁ }) (Ok (Hand (Name k n)))
      falling_name = (omega arith, size_handed front.x front.first left, run_less 1 w run w₁ run₁ dropped)

      -- that is called
      module _ (w₂ run₂ : List (Tagged HideSet)) (opened : Dropped 1 w₁ run₁ w₂ run₂) (t : State) (r : Result Prepared Fault) where
        pub prepared_call : true ≡ is_opening b → (end₂ : Ends) → end₂ ≡ end → Calling ms end₂ k n (record { left = left; w = w₂; run = run₂ }) t args r → Preparing ms file end (record { left = left; w = w; run = run }) t args r
        prepared_call o end₂ same calling =
            let x = front.x in
            let i = item_of ms x in
            leading_prepared ms file end (record { left = left; w = w; run = run }) t args r (λ e. called e front.m front.ps i (items_of ms w₁) (items_of ms run₁) end₂ left (gathered 0 (items_of ms (w₂ ++ run₂)))) w₁ run₁ (λ e next. onward_first e next ms file end left x w run w₁ run₁ front.first dropped ∙ ap (led e next ms file end w₁ run₁) (step_function e ∙ ap (λ v. applied_by e front.m front.ps i (items_of ms w₁) (items_of ms run₁) end left v (items_of ms (drop 1 (w₁ ++ run₁)))) (sym o) ∙ (λ d. called e front.m front.ps i (items_of ms w₁) (items_of ms run₁) (sym same d) left (gathered 0 (items_of ms (sym (dropped_left w₁ run₁ w₂ run₂ opened) d)))))) (calling x front.m front.ps w₁ run₁ front.named opened)

        pub falling_call : Falling (record { left = left; w = w₂; run = run₂ }) t r → Falling (record { left = left; w = w; run = run }) t r
        falling_call f =
            falling_more left w run w₂ run₂ t r (omega (arith, run_less 1 w run w₁ run₁ dropped, run_less 1 w₁ run₁ w₂ run₂ opened)) (omega (arith, waiting_less 1 w run w₁ run₁ dropped, waiting_less 1 w₁ run₁ w₂ run₂ opened)) f
