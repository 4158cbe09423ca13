-- Every step takes a token away or counts a replacement. Assumes nothing.
use Rattle.std.proofs.Common.{ℕ, suc, ◌+◌, ◌*◌, ◌<◌, ◌≤◌, suc-mul, arith}
use Rattle.std.proofs.lemmas.Nat.{mul-le}

-- what is left: each replacement weighs more than W and the run can hold
abbrev pub weight : ℕ → ℕ → ℕ → ℕ
weight run left size = left * (1025 + run) + size

pub hand_falls : (run l k y z : ℕ) → k ≤ l → y < z → weight run k y < weight run l z
hand_falls run l k y z h m = omega (arith, mul-le k (1025 + run) l (1025 + run) h (omega arith))

pub result_falls : (run l k j w r z : ℕ) → j ≤ k → k < l → w ≤ 1024 → r ≤ run → weight run j (w + r) < weight run l z
result_falls run l k j w r z h m v u =
    omega (arith, mul-le (suc j) (1025 + run) l (1025 + run) (omega arith) (omega arith), suc-mul j (1025 + run))
