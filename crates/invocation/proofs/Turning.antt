-- A turn of gathering, by what its calls answer. Assumes nothing.
use Rattle.std.proofs.Common.{◌≡◌, ℕ, ◌+◌, ◌<◌, ◌≤◌, false, List, ◌++◌, length, take, Some, None, Err, Result, sym, ap, ◌∙◌, arith, length-append, length-drop, length-take}
use Rattle.std.specs.List.{slice_get}
use Rattle.item.specs.declared.hide_set.HideSet.{HideSet}
use Rattle.item.specs.Tagged.{Tagged, fit}
use Rattle.definition.specs.Definitions.{Macro}
use Rattle.replacement.specs.Meaning.{items_of}
use Rattle.replacement.specs.Replacing.{gathered}
use Rattle.invocation.specs.declared.bracket.Bracket.{Bracket}
use Rattle.invocation.specs.declared.bracket.Bracket.TheVariants.{Opens, Closes, Inner, End}
use Rattle.invocation.specs.declared.bracket.GatherError.{GatherError}
use Rattle.invocation.specs.declared.bracket.GatherError.TheVariants.{Full}
use Rattle.invocation.specs.Calls.{Gathering, end_before}
use Rattle.invocation.specs.Fronts.{Dropped, bracket, depth_behind}
use Rattle.invocation.proofs.Gathering.{Continues, onto, gathering_ended, gathering_full, continues_more, some_left}
use Rattle.invocation.proofs.Waiting.{dropped_more, dropped_left}

pub depth_behind_lem : (depth : ℕ) (b : Bracket) → depth_behind depth b ≤ depth + 1
depth_behind_lem depth Opens = omega arith
depth_behind_lem depth (Closes h) = omega arith
depth_behind_lem depth Inner = omega arith
depth_behind_lem depth End = omega arith

length_more : (xs ys : List (Tagged HideSet)) → 0 < length ys → length (xs ++ take 1 ys) ≡ length xs + 1
length_more xs ys h = omega (arith, length-append xs (take 1 ys), length-take 1 ys)

-- the next token is asked for, which leaves the run's tokens as they are
module _ (w₀ run₀ within : List (Tagged HideSet)) (depth : ℕ) (w run run₁ : List (Tagged HideSet)) (b : Bracket) (same : run₁ ≡ run) (answer : b ≡ bracket (slice_get (w ++ run) 0)) (state : Continues (w₀ ++ run₀) within depth (w ++ run)) (taken : Dropped (length within) w₀ run₀ w run) where
  answer₁ : b ≡ bracket (slice_get (w ++ run₁) 0)
  answer₁ = answer ∙ ap (λ r. bracket (slice_get (w ++ r) 0)) (sym same)

  state₁ : Continues (w₀ ++ run₀) within depth (w ++ run₁)
  state₁ ms = state ms ∙ ap (λ r. onto (items_of ms within) (gathered depth (items_of ms (w ++ r)))) (sym same)

  taken₁ : Dropped (length within) w₀ run₀ w run₁
  taken₁ = record { first = taken.first; then = same ∙ taken.then }

  pub turn_ended : (r : Result HideSet GatherError) → Some r ≡ end_before depth b → ((ms : List Macro) → Gathering ms (w₀ ++ run₀) r within) × Dropped (length within) w₀ run₀ w run₁
  turn_ended r e = (gathering_ended (w₀ ++ run₀) within depth (w ++ run) r state (e ∙ ap (end_before depth) answer), taken₁)

  module _ (goes : None ≡ end_before depth b) (within' w' run' : List (Tagged HideSet)) where
    goes₁ : None ≡ end_before depth (bracket (slice_get (w ++ run₁) 0))
    goes₁ = goes ∙ ap (end_before depth) answer₁

    some : 0 < length (w ++ run₁)
    some = some_left depth (w ++ run₁) goes₁

    pub turn_full : false ≡ fit (within ++ take 1 (w ++ run₁)) → within' ≡ within → Dropped 0 w run₁ w' run' → ((ms : List Macro) → Gathering ms (w₀ ++ run₀) (Err Full) within') × Dropped (length within') w₀ run₀ w' run'
    turn_full f e d =
        let count : length within' ≡ length within + 0 = omega (arith, ap length e) in
        (gathering_full (w₀ ++ run₀) within (w ++ run₁) depth state₁ goes₁ f, dropped_more _ _ 0 w₀ run₀ w run₁ w' run' count taken₁ d)

    pub turn_more : (depth' : ℕ) → within' ≡ within ++ take 1 (w ++ run₁) → Dropped 1 w run₁ w' run' → depth' ≡ depth_behind depth b → depth ≤ length within → Continues (w₀ ++ run₀) within' depth' (w' ++ run') × Dropped (length within') w₀ run₀ w' run' × (depth' ≤ length within')
    turn_more depth' e d f le =
        let count : length within' ≡ length within + 1 = ap length e ∙ length_more within (w ++ run₁) some in
        let next : Continues (w₀ ++ run₀) within' depth' (w' ++ run') = (λ ms. continues_more (w₀ ++ run₀) within depth (w ++ run₁) state₁ goes₁ ms ∙ (λ j. onto (items_of ms (sym e j)) (gathered (sym (f ∙ ap (depth_behind depth) answer₁) j) (items_of ms (sym (dropped_left w run₁ w' run' d) j))))) in
        (next, dropped_more _ _ 1 w₀ run₀ w run₁ w' run' count taken₁ d, omega (arith, depth_behind_lem depth b))

    pub turn_less : Dropped 1 w run₁ w' run' → length w' + length run' < length w + length run
    turn_less d =
        omega (arith, some, ap length (dropped_left w run₁ w' run' d), length-drop 1 (w ++ run₁), length-append w run₁, length-append w' run', ap length same)
