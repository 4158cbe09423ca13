use Rattle.std.proofs.Common.{◌≡◌, ◌≤◌, drop, length, vec_items, vec_len, vec_capacity}
use Rattle.std.specs.Iterator.Adapters.{enumerate_source, enumerate_count}
use Rattle.item.specs.Tables.{shown}
use Rattle.invocation.proofs.Parting.{Parts}
use Rattle.invocation.proofs.calls.part_at_commas.Given as goal

-- the tokens behind the first `at` are left, and those in front are parted
abbrev pub invariant-loop-at : goal.invariant-loop-at
invariant-loop-at l =
    let xs = shown l.fn.inside in
    let at = enumerate_count l.at-iterator in
    (shown (enumerate_source l.at-iterator) ≡ drop at xs) × (at ≤ length xs) × Parts xs l.most (vec_items l.extents) l.start l.left l.depth at × (l.start ≤ at) × (l.depth ≤ at) × (vec_len l.extents ≤ at) × (1025 ≤ vec_capacity l.extents)
