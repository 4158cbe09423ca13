use Rattle.std.proofs.Common.{◌≡◌, ◌++◌, drop}
use Rattle.replacement.specs.Joining.{escaped}
use Rattle.operators.specs.Spellings.{spelt}
use Rattle.operators.proofs.literal.add_escaped.Given as goal

-- what is written and the bytes that are left make up the whole
abbrev pub invariant-loop-byte : goal.invariant-loop-byte
invariant-loop-byte l =
    spelt l.spelling ++ escaped (drop l.byte-index l.bytes) ≡ spelt l.initial.spelling ++ escaped l.bytes
