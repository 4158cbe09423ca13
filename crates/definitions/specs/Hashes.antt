-- The cell of a name. Assumes nothing.
use Rattle.std.specs.Prelude.{ℕ, ◌*◌, ◌%◌, ◌^◌, List, fold, bit_xor}

abbrev pub mixed : ℕ → ℕ → ℕ
mixed h b = (bit_xor h b * 16777619) % 2 ^ 32

unfoldable pub cell_of : List ℕ → ℕ
cell_of name = fold mixed 2166136261 name % 1024
