-- The faults of phases 1 to 4. Assumes nothing.
use Rattle.std.specs.Prelude.{ℕ, List, ◌++◌, codes, decimal}
use Rattle.text.specs.declared.FaultKind.{FaultKind}
use Rattle.text.specs.declared.FaultKind.TheVariants.{BrokenFile, BadByte, LongFile, OpenComment, OpenLiteral, LongLine, LongToken, UnknownDirective, BadDirective, BadDefinition, OtherDefinition, OpenCall, ArgumentCount, BadJoin, BadLiteral, ManyDefinitions, ManyTokens, ManyReplacements, DeepArguments}

abbrev pub fault_number : FaultKind → ℕ
fault_number BrokenFile = 11
fault_number BadByte = 12
fault_number LongFile = 13
fault_number OpenComment = 31
fault_number OpenLiteral = 32
fault_number LongLine = 33
fault_number LongToken = 34
fault_number UnknownDirective = 40
fault_number BadDirective = 41
fault_number BadDefinition = 44
fault_number OtherDefinition = 45
fault_number OpenCall = 51
fault_number ArgumentCount = 52
fault_number BadJoin = 53
fault_number BadLiteral = 54
fault_number ManyDefinitions = 61
fault_number ManyTokens = 64
fault_number ManyReplacements = 65
fault_number DeepArguments = 66

-- the phase that meets it
abbrev pub fault_phase : FaultKind → ℕ
fault_phase BrokenFile = 1
fault_phase BadByte = 1
fault_phase LongFile = 1
fault_phase OpenComment = 3
fault_phase OpenLiteral = 3
fault_phase LongLine = 3
fault_phase LongToken = 3
fault_phase UnknownDirective = 4
fault_phase BadDirective = 4
fault_phase BadDefinition = 4
fault_phase OtherDefinition = 4
fault_phase OpenCall = 4
fault_phase ArgumentCount = 4
fault_phase BadJoin = 4
fault_phase BadLiteral = 4
fault_phase ManyDefinitions = 4
fault_phase ManyTokens = 4
fault_phase ManyReplacements = 4
fault_phase DeepArguments = 4

-- as it is printed
abbrev pub fault_text : FaultKind → List ℕ
fault_text k = codes "fault " ++ (decimal (fault_number k) ++ (codes " phase " ++ decimal (fault_phase k)))
