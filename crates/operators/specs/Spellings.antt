-- A buffer for one spelling. Assumes nothing.
use Rattle.std.specs.Prelude.{ℕ, Bool, List, length, vec_items, nat_le}
use Rattle.operators.specs.declared.spelling.Spelling.{Spelling}

abbrev pub spelt : Spelling → List ℕ
spelt s = vec_items s.bytes

-- at most 1,023 bytes
abbrev pub is_short : List ℕ → Bool
is_short bs = nat_le (length bs) 1023
