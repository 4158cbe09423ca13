-- The expansion of a run, token by token, with 16 levels of arguments. Assumes nothing.
use Rattle.std.proofs.Common.{◌≡◌, ℕ, sym, Bool, true, false, cond, not, ltb, List, [], ◌++◌, length, take, Ok, Err, ap, ◌∙◌}
use Rattle.std.proofs.lemmas.Bool.{false≢true}
use Rattle.text.specs.declared.Fault.{Fault}
use Rattle.text.specs.declared.FaultKind.TheVariants.{ManyTokens}
use Rattle.source.specs.declared.Ending.{Ending}
use Rattle.source.specs.declared.Ending.TheVariants.{Fails}
use Rattle.item.specs.declared.hide_set.HideSet.{HideSet}
use Rattle.item.specs.Tagged.{Tagged}
use Rattle.definition.specs.Definitions.{Macro}
use Rattle.replacement.specs.Items.{Item, End as Ends, over}
use Rattle.replacement.specs.Laws.{expanding}
use Rattle.replacement.specs.Meaning.{items_of, end_of}
use Rattle.replacement.specs.Replacing.{Turn, before, levels}
use Rattle.invocation.specs.Fronts.{Dropped}
use Rattle.steps.specs.declared.prepared.Call.{Call}
use Rattle.steps.specs.declared.prepared.Handed.{Handed}
use Rattle.steps.specs.declared.prepared.Prepared.{Prepared}
use Rattle.steps.specs.declared.prepared.Prepared.TheVariants.{End as Ended, Hand, Replace}
use Rattle.steps.specs.Handing.{handed_items, taken}
use Rattle.steps.specs.Steps.{State, Preparing, result_of}
use Rattle.expansion.specs.States.{expanding_from, Advancing, Moving}
use Rattle.expansion.proofs.Expanding.{step_ended, step_replaced, step_unplaced, step_failed, too_long, advanced, still}

-- no tokens have no first one
no_first : (is : List Item) → is ≡ [] → over (take 1 is) ≡ true → ⊥
no_first is h e = let z : false ≡ true = sym (ap (λ k. over (take 1 k)) h) ∙ e in false≢true z

-- a step that has been prepared, on the way from a start
pub record Stepped (ms : List Macro) (file : List ℕ) (end : Ends) (start : State) : Type 0 where
  pub s : State
  pub u : State
  pub args : List (List Item)
  pub p : Prepared
  pub same : expanding_from ms file end start ≡ expanding_from ms file end s
  pub step : Preparing ms file end s u args (Ok p)

-- a step that failed
pub fails_run : (ms : List Macro) (file : List ℕ) (end : Ends) (start s u : State) (args : List (List Item)) → expanding_from ms file end start ≡ expanding_from ms file end s → (f : Fault) → Preparing ms file end s u args (Err f) → (t : State) (xs : List (Tagged HideSet)) → Advancing ms file end start t xs (Err (Fails f))
unfolding expanding_from
fails_run ms file end start s u args same f step t xs =
    let k = step_failed ms file 16 end s u args f step in
    (λ _. (ap (λ o. o.items) same ∙ k.0, ap (λ o. o.ending) same ∙ k.1, λ z. cc), λ long. absurd (no_first (expanding_from ms file end start).items (ap (λ o. o.items) same ∙ k.0) long))

module _ {ms : List Macro} {file : List ℕ} {end : Ends} {start : State} (r : Stepped ms file end start) where
  pub ends_run : r.p ≡ Ended → (e : Ending) → end ≡ end_of e → (t : State) (xs : List (Tagged HideSet)) → t.left ≡ r.u.left → Advancing ms file end start t xs (Err e)
  unfolding expanding_from
  ends_run is e ending t xs left =
      let k = r.same ∙ step_ended ms file 16 end r.s r.u r.args r.p r.step is in
      (λ _. (ap (λ o. o.items) k, ap (λ o. o.ending) k ∙ ending, λ z. ap (λ o. o.left) k ∙ sym left), λ long. absurd (no_first (expanding_from ms file end start).items (ap (λ o. o.items) k) long))

  -- a result
  module _ (c : Call) (is : r.p ≡ Replace c) (m : ℕ) (deep : m ≡ 16) (w : List (Tagged HideSet)) where
    pub goes_before : (n : ℕ) → ((next : Turn) (run : List Item) → Moving next (before c.name.line (items_of ms r.u.w) run (result_of (levels ms file m) ms r.args c r.u.left)) (items_of ms w) run (Ok n)) → expanding_from ms file end start ≡ expanding_from ms file end (record { left = n; w = w; run = r.u.run })
    unfolding expanding_from
    goes_before n h =
        r.same ∙ step_replaced ms file 16 end r.s r.u r.args r.p c m n w r.step is deep (h (expanding ms file 16 end) (items_of ms r.u.run))

    pub fails_before : (f : Fault) → ((next : Turn) (run : List Item) → Moving next (before c.name.line (items_of ms r.u.w) run (result_of (levels ms file m) ms r.args c r.u.left)) (items_of ms w) run (Err f)) → (t : State) (xs : List (Tagged HideSet)) → Advancing ms file end start t xs (Err (Fails f))
    unfolding expanding_from
    fails_before f h t xs =
        let k = step_unplaced ms file 16 end r.s r.u r.args r.p c m f r.step is deep (h (expanding ms file 16 end) (items_of ms r.u.run)) in
        (λ _. (ap (λ o. o.items) r.same ∙ k.0, ap (λ o. o.ending) r.same ∙ k.1, λ z. cc), λ long. absurd (no_first (expanding_from ms file end start).items (ap (λ o. o.items) r.same ∙ k.0) long))

  -- a token
  module _ (h : Handed) (is : r.p ≡ Hand h) (old : List (Tagged HideSet)) (none : old ≡ []) (fits : Bool) where
    pub too_long_run : fits ≡ not (over (items_of ms old ++ handed_items ms file (r.u.w ++ r.u.run) h)) → fits ≡ false → (f : Fault) → f.kind ≡ ManyTokens → (t : State) (xs : List (Tagged HideSet)) → Advancing ms file end start t xs (Err (Fails f))
    unfolding expanding_from
    too_long_run room long f kind t xs =
        (λ short. absurd (too_long ms file 16 end r.s r.u r.args r.p h r.step is (expanding_from ms file end start) r.same old fits none room long short), λ _. kind)

    module _ (xs w run : List (Tagged HideSet)) (some : Bool) (moves : items_of ms xs ≡ items_of ms old ++ cond fits (handed_items ms file (r.u.w ++ r.u.run) h) []) (yes : fits ≡ true) (drops : Dropped (taken h) r.u.w r.u.run w run) (has : some ≡ ltb 0 (length xs)) where
      pub hands_on : some ≡ true → Advancing ms file end start (record { left = r.u.left; w = w; run = run }) xs (Ok tt)
      unfolding expanding_from
      hands_on d =
          advanced ms file 16 end r.s r.u r.args r.p h r.step is (expanding_from ms file end start) r.same old xs w run fits none moves yes drops (sym has ∙ d)

      pub goes_on : some ≡ false → (expanding_from ms file end start ≡ expanding_from ms file end (record { left = r.u.left; w = w; run = run })) × (xs ≡ [])
      unfolding expanding_from
      goes_on d =
          still ms file 16 end r.s r.u r.args r.p h r.step is (expanding_from ms file end start) r.same old xs w run fits none moves yes drops (sym has ∙ d)
