-- A call by what gathering and parting answer. Assumes nothing.
use Rattle.std.proofs.Common.{◌≡◌, ℕ, suc, ◌+◌, ◌-◌, ◌<◌, Bool, true, false, cond, ◌&&◌, ◌||◌, eqb, ltb, leb, List, [], ◌∷◌, ◌++◌, length, drop, is_some, Some, None, Ok, Err, Option, Result, sym, refl, ap, ◌∙◌, arith}
use lib.ListN.{length-map}
use Rattle.std.specs.List.{slice_get}
use Rattle.std.specs.Option.{option_map}
use Rattle.std.specs.Str.{bytes_eq}
use Rattle.std.proofs.lemmas.List.{drop-map}
use Rattle.std.proofs.lemmas.Bool.Decides.{nat_tests}
use Rattle.text.specs.declared.Fault.{Fault}
use Rattle.text.specs.declared.FaultKind.TheVariants.{ArgumentCount, ManyReplacements}
use Rattle.text.specs.Faults.{fault_number}
use Rattle.source.specs.declared.Ending.{Ending}
use Rattle.source.specs.declared.Ending.TheVariants.{Whole, Fails}
use Rattle.item.specs.declared.hide_set.HideSet.{HideSet}
use Rattle.item.specs.Sets.{in_set}
use Rattle.item.specs.Tagged.{Tagged, bytes, fit}
use Rattle.definition.specs.Definitions.{Macro, member}
use Rattle.definitions.specs.InForce.{index, slot}
use Rattle.replacement.specs.Items as items
use Rattle.replacement.specs.Items.{Item, End as Ends, whole, fault, Outcome, over, with, shared}
use Rattle.replacement.specs.Meaning.{hidden, item_of, items_of, end_of}
use Rattle.replacement.specs.Replacing.{Expander, Move, halt, before, counting, result, arguments, gathered, called}
use Rattle.invocation.specs.declared.bracket.GatherError.TheVariants.{Open}
use Rattle.invocation.specs.Calls.{Gathering}
use Rattle.invocation.specs.Fronts.{Dropped}
use Rattle.invocation.proofs.Waiting.{dropped_more}
use Rattle.item.specs.declared.Name.{Name}
use Rattle.steps.specs.declared.prepared.Call.{Call}
use Rattle.steps.specs.declared.prepared.Prepared.{Prepared}
use Rattle.steps.specs.declared.prepared.Prepared.TheVariants.{End, Hand, Replace}
use Rattle.steps.specs.Calling.{fault_at, open_fault, arguments_of, Named, Leading, Calling}
use Rattle.steps.specs.Steps.{State}
use Rattle.steps.proofs.Hiding.{with_hidden, shared-hidden}
use Rattle.steps.proofs.Leading.{result_is, leading_counted}

-- a word that has a place among words
pub some_member : (w : List ℕ) (ws : List (List ℕ)) → is_some (index w ws) ≡ member w ws
some_member w [] = refl
some_member w (v ∷ ws) = at (bytes_eq w v) (index w ws) ∙ ap (λ b. bytes_eq w v || b) (some_member w ws)
  where
    at : (b : Bool) (o : Option ℕ) → is_some (cond b (Some 0) (option_map suc o)) ≡ (b || is_some o)
    at true o = refl
    at false None = refl
    at false (Some k) = refl

-- tokens that a table holds are not too many
same_bytes : (ms : List Macro) (xs : List (Tagged HideSet)) → items.bytes (items_of ms xs) ≡ bytes xs
same_bytes ms [] = refl
same_bytes ms (x ∷ xs) = ap (λ n. length x.token.spelling + n) (same_bytes ms xs)

within_limits : (n m b c : ℕ) → n ≡ m → b ≡ c → (leb n 1024 && leb b 16384) ≡ true → (ltb 1024 m || ltb 16384 c) ≡ false
within_limits n m b c h k e = grind (arith, nat_tests)

not_over : (ms : List Macro) (xs : List (Tagged HideSet)) → fit xs ≡ true → over (items_of ms xs) ≡ false
not_over ms xs e =
    within_limits (length xs) _ (bytes xs) _ (sym (length-map xs (item_of ms))) (sym (same_bytes ms xs)) e

-- a call by the answers to its tests
abbrev called_by : Expander → Macro → List (List ℕ) → Item → List Item → List Item → Ends → ℕ → ℕ → Bool → Option Item → Option (List (List Item)) → Move
called_by e m ps t w run end left used b o a =
    let l = t.token.line in
    elim b [
      | true ↦ halt 64 l left
      | false ↦
          elim o [
            | None ↦ elim end [ whole ↦ halt 51 l left | fault n k ↦ halt n k left ]
            | Some close ↦
                elim a [
                  | None ↦ halt 52 l left
                  | Some args ↦
                      counting l left (λ n. before l (drop used w) (drop (used - length w) run) (result e t (Some ps) args (with (shared t.hides close.hides) t.token.spelling) m.list n))
                ]
          ]
    ]

some_hides : (o : Option Item) (h : List ℕ → Bool) → option_map (λ i. i.hides) o ≡ Some h → (i : Item) × (o ≡ Some i) × (i.hides ≡ h)
some_hides None h e = let z : ◌≡◌ {A = ℕ} 0 1 = cc in absurd (omega arith)
some_hides (Some i) h e = (i, refl, cc)

leading_same : (ms : List Macro) (move move' : Expander → Move) (t : State) (args : List (List Item)) (r : Result Prepared Fault) → ((e : Expander) → move e ≡ move' e) → Leading ms move' t args r → Leading ms move t args r
leading_same ms move move' t args (Ok End) f a = a
leading_same ms move move' t args (Ok (Hand h)) f a = a
leading_same ms move move' t args (Ok (Replace c)) f a = λ e. f e ∙ a e
leading_same ms move move' t args (Err d) f a = λ e. f e ∙ a e

open_fault_lem : (end : Ending) (line left : ℕ) → elim (end_of end) [ whole ↦ halt 51 line left | fault n k ↦ halt n k left ] ≡ halt (fault_number (open_fault end line).kind) (open_fault end line).line left
open_fault_lem Whole line left = refl
open_fault_lem (Fails f) line left = refl

-- from the state behind the `(`, with what has been gathered
module _ (ms : List Macro) (end : Ending) (k : ℕ) (n : Name) (left : ℕ) (w run w₁ run₁ within : List (Tagged HideSet)) (fits : fit within ≡ true) (gone : Dropped (length within) w run w₁ run₁) where
  pub calling_open : (args : List (List Item)) (f : Fault) → Gathering ms (w ++ run) (Err Open) within → f ≡ open_fault end n.line → Calling ms (end_of end) k n (record { left = left; w = w; run = run }) (record { left = left; w = w₁; run = run₁ }) args (Err f)
  calling_open args f g is x m ps w₀ run₀ named opened e =
      let all = gathered 0 (items_of ms (w ++ run)) in
      (λ j. called_by e m ps (item_of ms x) (items_of ms w₀) (items_of ms run₀) (end_of end) left (suc (suc (length all.inside))) ((ap over g.0 ∙ not_over ms within fits) j) (g.1 j) (arguments ps all.inside)) ∙ ap (λ v. elim (end_of end) [ whole ↦ halt 51 v.line left | fault a b ↦ halt a b left ]) (sym named.name) ∙ open_fault_lem end n.line left ∙ ap (λ d. halt (fault_number d.kind) d.line left) (sym is)

  -- up to the `)`, which is taken away too
  module _ (h : HideSet) (closed : Gathering ms (w ++ run) (Ok h) within) (w₂ run₂ : List (Tagged HideSet)) (last : Dropped 1 w₁ run₁ w₂ run₂) where
    module _ (x : Tagged HideSet) (m : Macro) (ps : List (List ℕ)) (w₀ run₀ : List (Tagged HideSet)) (named : Named ms x k n m (Some ps)) (i : Item) (close : (gathered 0 (items_of ms (w ++ run))).close ≡ Some i) where
      called-closed : (a : Option (List (List Item))) → arguments_of (slice_get ms k) (items_of ms within) ≡ a → (e : Expander) → called e m ps (item_of ms x) (items_of ms w₀) (items_of ms run₀) (end_of end) left (gathered 0 (items_of ms (w ++ run))) ≡ called_by e m ps (item_of ms x) (items_of ms w₀) (items_of ms run₀) (end_of end) left (suc (suc (length within))) false (Some i) a
      called-closed a parts e =
          let given : arguments ps (items_of ms within) ≡ a = sym (ap (λ o. arguments_of o (items_of ms within)) named.definition ∙ ap (λ o. elim o [ None ↦ None | Some qs ↦ arguments qs (items_of ms within) ]) named.parameters) ∙ parts in
          let count = ap length closed.0 ∙ length-map within (item_of ms) in
          (λ j. called_by e m ps (item_of ms x) (items_of ms w₀) (items_of ms run₀) (end_of end) left (suc (suc (count j))) ((ap over closed.0 ∙ not_over ms within fits) j) (close j) ((ap (arguments ps) closed.0 ∙ given) j))

      -- the name, the parentheses and what is between them are gone
      module _ (opened : Dropped 1 w₀ run₀ w run) where
        all_gone : Dropped (suc (suc (length within))) w₀ run₀ w₂ run₂
        all_gone =
            dropped_more _ (suc (length within)) 1 w₀ run₀ w₁ run₁ w₂ run₂ (omega arith) (dropped_more _ 1 (length within) w₀ run₀ w run w₁ run₁ (omega arith) opened gone) last

        waiting_left : drop (suc (suc (length within))) (items_of ms w₀) ≡ items_of ms w₂
        waiting_left = drop-map (item_of ms) (suc (suc (length within))) w₀ ∙ ap (items_of ms) (sym all_gone.first)

        run_left : drop (suc (suc (length within)) - length (items_of ms w₀)) (items_of ms run₀) ≡ items_of ms run₂
        run_left =
            ap (λ j. drop (suc (suc (length within)) - j) (items_of ms run₀)) (length-map w₀ (item_of ms)) ∙ drop-map (item_of ms) _ run₀ ∙ ap (items_of ms) (sym all_gone.then)

        leading_closed : (args : List (List Item)) (c : Call) (left₁ : ℕ) (r : Result Prepared Fault) (hides : HideSet) → arguments_of (slice_get ms k) (items_of ms within) ≡ Some args → i.hides ≡ hidden ms h → k < 256 → ((j : ℕ) → in_set hides j ≡ (in_set n.hides j && in_set h j)) → c ≡ record { slot = k; name = record { line = n.line; marked = n.marked; hides = c.name.hides } } → ((j : ℕ) → in_set c.name.hides j ≡ ((eqb j k && ltb k 256) || in_set hides j)) → r ≡ cond (eqb left 0) (Err (fault_at ManyReplacements n.line)) (Ok (Replace c)) → left₁ ≡ left - 1 → Leading ms (λ e. called e m ps (item_of ms x) (items_of ms w₀) (items_of ms run₀) (end_of end) left (gathered 0 (items_of ms (w ++ run)))) (record { left = left₁; w = w₂; run = run₂ }) args r
        leading_closed args c left₁ r hides parts by within-slots f place g answer less =
            let t = item_of ms x in
            let line = x.token.line in
            let own : (j : ℕ) → in_set hides j ≡ (in_set x.tag j && in_set h j) = λ j. f j ∙ ap (λ v. in_set v.hides j && in_set h j) named.name in
            let set = ap (λ q. with (shared (hidden ms x.tag) q) x.token.spelling) by ∙ ap (λ q. with q x.token.spelling) (shared-hidden ms x.tag h hides own) ∙ with_hidden ms x.token.spelling k m named.slot named.definition hides c.name.hides g within-slots in
            let results : Expander → ℕ → Outcome Item = λ e j. result e t (Some ps) args (with (shared (hidden ms x.tag) i.hides) x.token.spelling) m.list j in
            leading_same ms _ (λ e. counting line left (λ j. before line (items_of ms w₂) (items_of ms run₂) (results e j))) _ args r (λ e. called-closed (Some args) parts e ∙ (λ d. counting line left (λ j. before line (waiting_left d) (run_left d) (results e j)))) (leading_counted ms args left left₁ line c r w₂ run₂ results (answer ∙ ap (λ v. cond (eqb left 0) (Err (fault_at ManyReplacements v.line)) (Ok (Replace c))) named.name) less (sym (ap (λ d. d.name.line) place ∙ ap (λ v. v.line) named.name)) (λ e j. result_is e ms x k n m (Some ps) args args _ j c named place refl set))

    pub calling_count : (args : List (List Item)) (f : Fault) → arguments_of (slice_get ms k) (items_of ms within) ≡ None → f ≡ fault_at ArgumentCount n.line → Calling ms (end_of end) k n (record { left = left; w = w; run = run }) (record { left = left; w = w₂; run = run₂ }) args (Err f)
    calling_count args f parts is x m ps w₀ run₀ named opened e =
        let close = some_hides (gathered 0 (items_of ms (w ++ run))).close (hidden ms h) closed.1 in
        called-closed x m ps w₀ run₀ named close.0 close.1 None parts e ∙ ap (λ v. halt 52 v.line left) (sym named.name) ∙ ap (λ d. halt (fault_number d.kind) d.line left) (sym is)

    pub calling_closed : (args : List (List Item)) (c : Call) (left₁ : ℕ) (r : Result Prepared Fault) (hides : HideSet) → arguments_of (slice_get ms k) (items_of ms within) ≡ Some args → ((v : List ℕ) → slot v ms ≡ Some k → k < 256) → ((j : ℕ) → in_set hides j ≡ (in_set n.hides j && in_set h j)) → c ≡ record { slot = k; name = record { line = n.line; marked = n.marked; hides = c.name.hides } } → ((j : ℕ) → in_set c.name.hides j ≡ ((eqb j k && ltb k 256) || in_set hides j)) → r ≡ cond (eqb left 0) (Err (fault_at ManyReplacements n.line)) (Ok (Replace c)) → left₁ ≡ left - 1 → Calling ms (end_of end) k n (record { left = left; w = w; run = run }) (record { left = left₁; w = w₂; run = run₂ }) args r
    calling_closed args c left₁ r hides parts slots f place g answer less x m ps w₀ run₀ named opened =
        let close = some_hides (gathered 0 (items_of ms (w ++ run))).close (hidden ms h) closed.1 in
        leading_closed x m ps w₀ run₀ named close.0 close.1 opened args c left₁ r hides parts close.2 (slots x.token.spelling named.slot) f place g answer less
