-- A run that names no macro expands to itself. Assumes nothing.
use Rattle.std.proofs.Common.{◌≡◌, ℕ, Bool, true, false, not, ◌&&◌, ◌||◌, List, [], ◌∷◌, is_some, Some, None, Option, refl, ap}
use Rattle.std.proofs.lemmas.Bool.{false≢true, and_parts}
use Rattle.definition.specs.Definitions.{Macro, is_identifier}
use Rattle.replacement.specs.Items.{Item, End, Outcome}
use Rattle.replacement.specs.Replacing.{Move, hand, Turn, Expander, counting, replaced, built_in_result, found, step, along_run, turns, levels}
use Rattle.replacement.specs.Laws.{plain, all_plain, Unchanged}

-- the choice that a step makes
handed : (i h : Bool) (o : Option Item) (f : Option Macro) (x : Item → Move) (y : Macro → Move) (z : Move) → (not i || not (is_some o || is_some f)) ≡ true → (elim (i && not h) as (λ _. Move) [ false ↦ z | true ↦ elim o [ Some u ↦ x u | None ↦ elim f [ None ↦ z | Some m ↦ y m ] ] ]) ≡ z
handed false h o f x y z p = refl
handed true true o f x y z p = refl
handed true false None None x y z p = refl
handed true false None (Some m) x y z p = absurd (false≢true p)
handed true false (Some u) f x y z p = absurd (false≢true p)

-- a plain token is handed on
pub step-plain : (e : Expander) (ms : List Macro) (file : List ℕ) (end : End) (t : Item) (w run : List Item) (left : ℕ) → plain ms file t ≡ true → step e ms file end t w run left ≡ hand t left
step-plain e ms file end t w run left p = handed (is_identifier t.token.kind) (t.hides t.token.spelling) (built_in_result file t) (found t.token.spelling ms) (λ u. counting t.token.line left (λ n. hand u n)) (replaced e t w run end left) (hand t left) p

-- along a run each of whose tokens is handed on
along-plain : (e : Expander) (ms : List Macro) (file : List ℕ) (next : Turn) (end : End) (left : ℕ) (run : List Item) → all_plain ms file run ≡ true → along_run (step e ms file end) next end left run ≡ record { items = run; ending = end; left = left }
along-plain e ms file next end left [] p = refl
along-plain e ms file next end left (t ∷ run) p =
    let h = and_parts (plain ms file t) (all_plain ms file run) p in
    let r = along-plain e ms file next end left run h.1 in
    rw (step-plain e ms file end t [] run left h.0, along_run) (ap (λ (o : Outcome Item). record { items = t ∷ o.items; ending = o.ending; left = o.left }) r)

pub unchanged : Unchanged
unchanged ms file left run end p = along-plain (levels ms file 16) ms file (turns (levels ms file 16) ms file end left) end left run p
