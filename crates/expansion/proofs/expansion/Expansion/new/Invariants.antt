use Rattle.std.proofs.Common.{◌≡◌, ◌≤◌, vec_len, vec_capacity}
use Rattle.expansion.proofs.expansion.Expansion.new.Given as goal

abbrev pub invariant-loop : goal.invariant-loop
invariant-loop l = (vec_len l.below ≡ l.counter) × (16 ≤ vec_capacity l.below)
