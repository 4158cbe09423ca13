-- Expansion step by step. Assumes nothing.
use Rattle.std.proofs.Common.{◌≡◌, ℕ, List, [], ◌∷◌, ◌++◌, sym, refl, ap, ◌∙◌}
use Rattle.text.specs.declared.Fault.{Fault}
use Rattle.item.specs.declared.hide_set.HideSet.{HideSet}
use Rattle.item.specs.Tagged.{Tagged}
use Rattle.definition.specs.Definitions.{Macro}
use Rattle.replacement.specs.Items.{Item, End as Ends, Outcome, giving, ◌then◌}
use Rattle.replacement.specs.Laws.{expanding}
use Rattle.replacement.specs.Meaning.{items_of}
use Rattle.replacement.specs.Replacing.{Step, Turn, Move, step, along, levels}
use Rattle.replacement.proofs.Unbounded.{unbounded}
use Rattle.std.proofs.lemmas.List.{append_assoc}
use Rattle.steps.specs.Steps.{State, onward, behind, moved, Failing}

-- tokens before an outcome
abbrev pub prepend : List Item → Outcome Item → Outcome Item
prepend is o = record { items = is ++ o.items; ending = o.ending; left = o.left }

pub prepend_more : (xs ys : List Item) (o : Outcome Item) → prepend xs (prepend ys o) ≡ prepend (xs ++ ys) o
prepend_more xs ys o = sym (λ i. record { items = append_assoc xs ys o.items i; ending = o.ending; left = o.left })

nothing_left : (ms : List Macro) (s : Step) (next : Turn) (end : Ends) (left : ℕ) (w run : List (Tagged HideSet)) → w ++ run ≡ [] → along s next end left (items_of ms w) (items_of ms run) ≡ record { items = []; ending = end; left = left }
nothing_left ms s next end left [] [] h = refl
nothing_left ms s next end left [] (x ∷ run) h = cc h
nothing_left ms s next end left (x ∷ w) run h = cc h

module _ (ms : List Macro) (file : List ℕ) (n : ℕ) (end : Ends) where
  -- the expansion from a state on
  abbrev pub from : State → Outcome Item
  from s = expanding ms file n end s.left (items_of ms s.w) (items_of ms s.run)

  pub once : (s : State) → from s ≡ onward (levels ms file n) (expanding ms file n end) ms file end s
  once s = unbounded.equation ms file n end s.left (items_of ms s.w) (items_of ms s.run)

  pub ended : (s : State) → s.w ++ s.run ≡ [] → from s ≡ record { items = []; ending = end; left = s.left }
  ended s h = once s ∙ nothing_left ms (step (levels ms file n) ms file end) (expanding ms file n end) end s.left s.w s.run h

  -- what is handed on stands before what follows
  pub handed : (s t : State) (is : List Item) (d : ℕ) → onward (levels ms file n) (expanding ms file n end) ms file end s ≡ (giving is t.left then (λ k. onward (levels ms file n) (expanding ms file n end) ms file end (behind t d k))) → from s ≡ prepend is (from (behind t d t.left))
  handed s t is d h = once s ∙ h ∙ ap (prepend is) (sym (once (behind t d t.left)))

  -- a result that goes before W leads on from there
  pub replaced : (s u : State) (m : Move) → onward (levels ms file n) (expanding ms file n end) ms file end s ≡ moved (expanding ms file n end) m → moved (expanding ms file n end) m ≡ from u → from s ≡ from u
  replaced s u m h k = once s ∙ h ∙ k

  -- nothing but a fault
  pub failed : (s : State) (f : Fault) → Failing (onward (levels ms file n) (expanding ms file n end) ms file end s) f → Failing (from s) f
  failed s f h = (ap (λ o. o.items) (once s) ∙ h.0, ap (λ o. o.ending) (once s) ∙ h.1)

  pub failed_result : (s : State) (m : Move) (f : Fault) → onward (levels ms file n) (expanding ms file n end) ms file end s ≡ moved (expanding ms file n end) m → Failing (moved (expanding ms file n end) m) f → Failing (from s) f
  failed_result s m f h k = (ap (λ o. o.items) (once s ∙ h) ∙ k.0, ap (λ o. o.ending) (once s ∙ h) ∙ k.1)
