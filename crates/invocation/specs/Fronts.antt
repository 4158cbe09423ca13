-- W and the run, as the code keeps them. Assumes nothing.
use Rattle.std.specs.Prelude.{◌≡◌, ℕ, suc, ◌-◌, cond, List, [], ◌∷◌, reverse, length, drop, Some, None, codes, Option}
use Rattle.item.specs.declared.hide_set.HideSet.{HideSet}
use Rattle.item.specs.declared.table.TagTable.{TagTable}
use Rattle.item.specs.Tables.{held}
use Rattle.item.specs.Tagged.{Tagged}
use Rattle.definition.specs.Definitions.{spells}
use Rattle.invocation.specs.declared.bracket.Bracket.{Bracket}
use Rattle.invocation.specs.declared.bracket.Bracket.TheVariants.{Opens, Closes, Inner, End}

-- W stands in a table with its first token last
abbrev pub waiting : TagTable HideSet → List (Tagged HideSet)
waiting t = reverse (held t)

-- the next token: the first of W, or else the one that the run has at hand
abbrev pub front_of : List (Tagged HideSet) → Option (Tagged HideSet) → Option (Tagged HideSet)
front_of [] hand = hand
front_of (x ∷ w) hand = Some x

-- so many tokens are taken away from W, and where it holds fewer, the others from the run
pub record Dropped (n : ℕ) (w run w' run' : List (Tagged HideSet)) : Type 0 where
  pub first : w' ≡ drop n w
  pub then : run' ≡ drop (n - length w) run

-- what a token is to the parentheses around it
abbrev pub bracket_of : Tagged HideSet → Bracket
bracket_of x = cond (spells x.token (codes "(")) Opens (cond (spells x.token (codes ")")) (Closes x.tag) Inner)

abbrev pub bracket : Option (Tagged HideSet) → Bracket
bracket None = End
bracket (Some x) = bracket_of x

-- how many parentheses are open behind a token
abbrev pub depth_behind : ℕ → Bracket → ℕ
depth_behind depth Opens = suc depth
depth_behind depth (Closes h) = depth - 1
depth_behind depth Inner = depth
depth_behind depth End = depth
