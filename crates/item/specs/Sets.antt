-- Hide sets as bits. Assumes nothing.
use Rattle.std.specs.Prelude.{ℕ, ◌-◌, ◌/◌, ◌%◌, ◌^◌, Bool, cond, ◌==◌, nat_lt}
use Rattle.item.specs.declared.hide_set.HideSet.{HideSet}

abbrev pub bit : ℕ → ℕ → Bool
bit n k = n / 2 ^ k % 2 == 1

-- whether a slot is in a set
abbrev pub in_set : HideSet → ℕ → Bool
in_set h k = cond (nat_lt k 128) (bit h.low k) (bit h.high (k - 128))

abbrev pub empty_set : HideSet
empty_set = record { low = 0; high = 0 }
