-- The bound on turns decides nothing. Assumes nothing.
use Rattle.std.proofs.Common.{suc, arith}
use Rattle.replacement.specs.Replacing.{levels}
use Rattle.replacement.specs.Laws.{Unbounded}
use Rattle.replacement.proofs.Turns.{turns_same, turns_once, levels_modest}

pub unbounded : Unbounded
unbounded =
    record {
      enough = λ ms file n end g left w run p. turns_same (levels ms file n) (levels_modest ms file n) ms file end g (suc left) left w run p (omega arith);
      equation = λ ms file n end left w run. turns_once (levels ms file n) (levels_modest ms file n) ms file end left w run;
    }
