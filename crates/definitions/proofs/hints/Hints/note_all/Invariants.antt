use Rattle.std.proofs.Common.{◌≡◌, true, map, take}
use Rattle.definitions.specs.Hints.{hinted}
use Rattle.definitions.specs.Stores.{store_macros}
use Rattle.definitions.proofs.hints.Hints.note_all.Given as goal

-- the names so far are noted
abbrev pub invariant-loop-slot : goal.invariant-loop-slot
invariant-loop-slot l = hinted l.self.cells (map (λ m. m.name) (take l.slot (store_macros l.store))) ≡ true
