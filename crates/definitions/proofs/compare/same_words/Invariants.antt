use Rattle.std.proofs.Common.{◌≡◌}
use Rattle.token.specs.Views.{view_tokens}
use Rattle.definition.specs.Meaning.{names_of}
use Rattle.definitions.specs.Blocks.{spellings}
use Rattle.definitions.specs.InForce.{same_words}
use Rattle.definitions.proofs.compare.same_words.Given as goal

abbrev pub invariant-loop-token : goal.invariant-loop-token
invariant-loop-token l = same_words (spellings (view_tokens l.tokens)) (names_of l.initial.names) ≡ same_words (spellings (view_tokens l.token-iterator)) (names_of l.names)
