-- What the steps of the code say of an expansion. Assumes nothing.
use Rattle.std.proofs.Common.{◌≡◌, ℕ, suc, ◌+◌, Bool, true, false, cond, not, ◌||◌, ltb, ◌<◌, ◌≤◌, ◌-◌, List, [], ◌∷◌, ◌++◌, length, take, Some, None, Ok, Err, sym, refl, ap, ◌∙◌, subst, arith, length-drop}
use Rattle.std.proofs.lemmas.Bool.{not-true, not-false, ltb-true}
use Rattle.std.proofs.lemmas.Bool.Decides.{nat_tests}
use Rattle.std.proofs.lemmas.List.{length-reverse}
use Rattle.std.specs.List.{slice_get}
use Rattle.text.specs.declared.Fault.{Fault}
use Rattle.token.specs.declared.Kind.TheVariants.{Identifier}
use Rattle.source.specs.declared.Ending.TheVariants.{Fails}
use Rattle.item.specs.declared.hide_set.HideSet.{HideSet}
use Rattle.item.specs.declared.table.TagTable.{TagTable}
use Rattle.item.specs.Tables.{held}
use Rattle.item.specs.Tagged.{Tagged, bytes, fit}
use Rattle.item.proofs.Held.{fits}
use Rattle.definition.specs.Definitions.{Macro}
use Rattle.replacement.specs.Items.{Item, End as Ends, Outcome, giving, whole, fault, over, limited}
use Rattle.replacement.specs.Laws.{expanding}
use Rattle.replacement.specs.Meaning.{items_of, end_of}
use Rattle.replacement.specs.Replacing.{before, levels}
use Rattle.invocation.specs.Fronts.{Dropped, waiting}
use Rattle.invocation.proofs.Held.{few}
use Rattle.operators.proofs.Sized.{items_length, items_bytes}
use Rattle.steps.specs.declared.prepared.Call.{Call}
use Rattle.steps.specs.declared.prepared.Handed.{Handed}
use Rattle.steps.specs.declared.prepared.Prepared.{Prepared}
use Rattle.steps.specs.declared.prepared.Prepared.TheVariants.{End, Hand, Replace}
use Rattle.item.specs.declared.Name.{Name as NameAt}
use Rattle.steps.specs.declared.prepared.Handed.TheVariants.{Front, Name, BuiltIn}
use Rattle.steps.specs.Handing.{in_place, named_items, handed_items, taken}
use Rattle.steps.specs.Steps.{State, Preparing, Failing, Falling, result_of, behind, moved}
use Rattle.expansion.proofs.Added.{within}
use Rattle.expansion.proofs.Limits.{limited_whole, limited_fault, limited-over}
use Rattle.expansion.proofs.Turning.{prepend, prepend_more, from, ended, handed, replaced, failed, failed_result}

-- a table that fits is not over
fit-not_over : (ms : List Macro) (xs : List (Tagged HideSet)) → fit xs ≡ not (over (items_of ms xs))
fit-not_over ms xs =
    within (length xs) (bytes xs) ∙ (λ j. not (ltb 1024 (sym (items_length ms xs) j) || ltb 16384 (sym (items_bytes ms xs) j)))

pub not_over : (ms : List Macro) (t : TagTable HideSet) → over (items_of ms (held t)) ≡ false
not_over ms t = not-true _ (sym (fit-not_over ms (held t)) ∙ fits t)

pub waiting_few : (t : TagTable HideSet) → length (waiting t) ≤ 1024
waiting_few t = omega (arith, few t, length-reverse (held t))

-- what is left falls
pub falls_replaced : (s t : State) (p : Prepared) (c : Call) → Falling s t (Ok p) → p ≡ Replace c → (t.left < s.left) × (length t.run ≤ length s.run)
falls_replaced s t p c h e = subst (λ q. Falling s t (Ok q)) e h

pub falls_handed : (s t : State) (p : Prepared) (h : Handed) (w run : List (Tagged HideSet)) → Falling s t (Ok p) → p ≡ Hand h → Dropped (taken h) t.w t.run w run → length run ≤ length s.run
falls_handed s t p h w run g e d =
    let k = subst (λ q. Falling s t (Ok q)) e g in
    omega (arith, k.2, ap length d.then, length-drop (taken h - length t.w) t.run)

module _ (ms : List Macro) (file : List ℕ) (n : ℕ) (end : Ends) (s t : State) (args : List (List Item)) where
  pub step_ended : (p : Prepared) → Preparing ms file end s t args (Ok p) → p ≡ End → from ms file n end s ≡ record { items = []; ending = end; left = t.left }
  step_ended p h e =
      let k = subst (λ q. Preparing ms file end s t args (Ok q)) e h in
      ended ms file n end s k.0 ∙ ap (λ l. record { items = []; ending = end; left = l }) (sym k.1)

  pub step_handed : (p : Prepared) (h : Handed) (w run : List (Tagged HideSet)) → Preparing ms file end s t args (Ok p) → p ≡ Hand h → Dropped (taken h) t.w t.run w run → from ms file n end s ≡ prepend (handed_items ms file (t.w ++ t.run) h) (from ms file n end (record { left = t.left; w = w; run = run }))
  step_handed p h w run g e d =
      let is = handed_items ms file (t.w ++ t.run) h in
      let k = subst (λ q. Preparing ms file end s t args (Ok q)) e g in
      handed ms file n end s t is (taken h) (k (levels ms file n) (expanding ms file n end)) ∙ (λ i. prepend is (from ms file n end (record { left = t.left; w = sym d.first i; run = sym d.then i })))

  -- the result of a macro
  pub step_replaced : (p : Prepared) (c : Call) (m left : ℕ) (w : List (Tagged HideSet)) → Preparing ms file end s t args (Ok p) → p ≡ Replace c → m ≡ n → moved (expanding ms file n end) (before c.name.line (items_of ms t.w) (items_of ms t.run) (result_of (levels ms file m) ms args c t.left)) ≡ expanding ms file n end left (items_of ms w) (items_of ms t.run) → from ms file n end s ≡ from ms file n end (record { left = left; w = w; run = t.run })
  step_replaced p c m left w g e deep h =
      let k = subst (λ q. Preparing ms file end s t args (Ok q)) e g in
      let b = λ (l : ℕ). before c.name.line (items_of ms t.w) (items_of ms t.run) (result_of (levels ms file l) ms args c t.left) in
      replaced ms file n end s (record { left = left; w = w; run = t.run }) (b n) (k (levels ms file n) (expanding ms file n end)) (ap (λ l. moved (expanding ms file n end) (b l)) (sym deep) ∙ h)

  pub step_unplaced : (p : Prepared) (c : Call) (m : ℕ) (f : Fault) → Preparing ms file end s t args (Ok p) → p ≡ Replace c → m ≡ n → Failing (moved (expanding ms file n end) (before c.name.line (items_of ms t.w) (items_of ms t.run) (result_of (levels ms file m) ms args c t.left))) f → Failing (from ms file n end s) f
  step_unplaced p c m f g e deep h =
      let k = subst (λ q. Preparing ms file end s t args (Ok q)) e g in
      let b = λ (l : ℕ). before c.name.line (items_of ms t.w) (items_of ms t.run) (result_of (levels ms file l) ms args c t.left) in
      failed_result ms file n end s (b n) f (k (levels ms file n) (expanding ms file n end)) (subst (λ l. Failing (moved (expanding ms file n end) (b l)) f) deep h)

  pub step_failed : (f : Fault) → Preparing ms file end s t args (Err f) → Failing (from ms file n end s) f
  step_failed f h = failed ms file n end s f (h (levels ms file n) (expanding ms file n end))

-- an argument that is expanded alone, with the tokens handed on so far
module _ (ms : List Macro) (file : List ℕ) (n m line left : ℕ) (w run : List (Tagged HideSet)) (is : List Item) (s : State) (deep : m ≡ suc n) (none : w ≡ []) (inv : from ms file n whole (record { left = left; w = w; run = run }) ≡ prepend is (from ms file n whole s)) where
  abbrev alone : Outcome Item
  alone = levels ms file m line left (items_of ms run)

  alone_is : alone ≡ prepend is (from ms file n whole s)
  alone_is =
      ap (λ k. levels ms file k line left (items_of ms run)) deep ∙ ap (λ v. expanding ms file n whole left (items_of ms v) (items_of ms run)) (sym none) ∙ inv

  pub argument_ended : (k : ℕ) → over is ≡ false → from ms file n whole s ≡ record { items = []; ending = whole; left = k } → limited line alone ≡ giving is k
  argument_ended k few h = limited_whole line k is alone (from ms file n whole s) few alone_is h

  pub argument_failed : (f : Fault) → over is ≡ false → Failing (from ms file n whole s) f → (limited line alone).ending ≡ end_of (Fails f)
  argument_failed f few h = limited_fault line is alone (from ms file n whole s) f few alone_is h

  pub argument_over : (more : List Item) (u : State) → from ms file n whole s ≡ prepend more (from ms file n whole u) → over (is ++ more) ≡ true → (limited line alone).ending ≡ fault 64 line
  argument_over more u h big =
      limited-over line (is ++ more) alone (from ms file n whole u) big (alone_is ∙ ap (prepend is) h ∙ prepend_more is more (from ms file n whole u))

-- the tokens so far, with more of them
pub more_handed : (ms : List Macro) (file : List ℕ) (n : ℕ) (end : Ends) (o : Outcome Item) (is more js : List Item) (s u : State) → o ≡ prepend is (from ms file n end s) → from ms file n end s ≡ prepend more (from ms file n end u) → js ≡ is ++ more → o ≡ prepend js (from ms file n end u)
more_handed ms file n end o is more js s u inv h e =
    inv ∙ ap (prepend is) h ∙ prepend_more is more (from ms file n end u) ∙ ap (λ k. prepend k (from ms file n end u)) (sym e)

-- at most one token is handed on
named_few : (ms : List Macro) (k : ℕ) (n : NameAt) → length (named_items ms k n) ≤ 1
named_few ms k n =
    elim (slice_get ms k) as (λ o. length (elim o as (λ _. List Item) [ None ↦ [] | Some m ↦ in_place ms n Identifier m.name ∷ [] ]) ≤ 1) [ None ↦ omega arith | Some m ↦ omega arith ]

take_few : (ms : List Macro) (xs : List (Tagged HideSet)) → length (items_of ms (take 1 xs)) ≤ 1
take_few ms [] = omega arith
take_few ms (x ∷ xs) = omega arith

handed_few : (ms : List Macro) (file : List ℕ) (xs : List (Tagged HideSet)) (h : Handed) → length (handed_items ms file xs h) ≤ 1
handed_few ms file xs Front = take_few ms xs
handed_few ms file xs (Name k n) = named_few ms k n
handed_few ms file xs (BuiltIn b n) = omega arith

-- one that is too long is the first of all
long_first : (is more : List Item) → length is ≤ 1 → over is ≡ true → over (take 1 (is ++ more)) ≡ false → ⊥
long_first [] more few big short = cc
long_first (i ∷ []) more few big short = cc
long_first (i ∷ j ∷ is) more few big short = omega arith

no_items : (xs : List (Tagged HideSet)) → length xs ≡ 0 → xs ≡ []
no_items [] h = refl
no_items (x ∷ xs) h = absurd (omega arith)

-- a step that hands on, with a table that was empty
module _ (ms : List Macro) (file : List ℕ) (n : ℕ) (end : Ends) (s u : State) (args : List (List Item)) (p : Prepared) (h : Handed) (step : Preparing ms file end s u args (Ok p)) (hands : p ≡ Hand h) (all : Outcome Item) (inv : all ≡ from ms file n end s) where
  abbrev is : List Item
  is = handed_items ms file (u.w ++ u.run) h

  -- no table holds a token that is too long
  pub too_long : (old : List (Tagged HideSet)) (whole_in : Bool) → old ≡ [] → whole_in ≡ not (over (items_of ms old ++ is)) → whole_in ≡ false → over (take 1 all.items) ≡ false → ⊥
  too_long old whole_in none room t short =
      let v = behind u (taken h) u.left in
      let steps = inv ∙ step_handed ms file n end s u args p h v.w v.run step hands (record { first = refl; then = refl }) in
      let big : over is ≡ true = ap (λ k. over (items_of ms k ++ is)) (sym none) ∙ not-false _ (sym room ∙ t) in
      long_first is (from ms file n end v).items (handed_few ms file (u.w ++ u.run) h) big (ap (λ o. over (take 1 o.items)) (sym steps) ∙ short)

  module _ (old xs w run : List (Tagged HideSet)) (whole_in : Bool) (none : old ≡ []) (moves : items_of ms xs ≡ items_of ms old ++ cond whole_in is []) (t : whole_in ≡ true) (drops : Dropped (taken h) u.w u.run w run) where
    holds : items_of ms xs ≡ is
    holds = moves ∙ (λ j. items_of ms (none j) ++ cond (t j) is [])

    goes_on : all ≡ prepend (items_of ms xs) (from ms file n end (record { left = u.left; w = w; run = run }))
    goes_on =
        inv ∙ step_handed ms file n end s u args p h w run step hands drops ∙ ap (λ k. prepend k (from ms file n end (record { left = u.left; w = w; run = run }))) (sym holds)

    pub advanced : ltb 0 (length xs) ≡ true → (all ≡ prepend (items_of ms xs) (from ms file n end (record { left = u.left; w = w; run = run }))) × (length xs ≡ 1)
    advanced some =
        (goes_on, omega (arith, handed_few ms file (u.w ++ u.run) h, ap length holds, items_length ms xs, ltb-true 0 (length xs) some))

    -- nothing was handed on
    pub still : ltb 0 (length xs) ≡ false → (all ≡ from ms file n end (record { left = u.left; w = w; run = run })) × (xs ≡ [])
    still some =
        let few : length xs ≡ 0 = grind (arith, nat_tests) in
        let nothing = no_items xs few in
        (goes_on ∙ ap (λ k. prepend (items_of ms k) (from ms file n end (record { left = u.left; w = w; run = run }))) nothing, nothing)

-- what is left falls where something is handed on
pub size_handed : (s t : State) (p : Prepared) (h : Handed) (w run : List (Tagged HideSet)) → Falling s t (Ok p) → p ≡ Hand h → Dropped (taken h) t.w t.run w run → (t.left ≤ s.left) × (length w + length run < length s.w + length s.run)
size_handed s t p h w run g e d =
    let k = subst (λ q. Falling s t (Ok q)) e g in
    (k.0, omega (arith, k.1, ap length d.first, ap length d.then))
