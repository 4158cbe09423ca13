-- A result that is joined and goes before W. Assumes nothing.
use Rattle.std.specs.Prelude.{◌≡◌, ℕ, Bool, true, false, List, ◌++◌, map, None, Ok, Err, Result}
use Rattle.text.specs.declared.FaultKind.{FaultKind}
use Rattle.text.specs.declared.FaultKind.TheVariants.{BrokenFile, BadByte, LongFile, OpenComment, OpenLiteral, LongLine, LongToken, UnknownDirective, BadDirective, BadDefinition, OtherDefinition, OpenCall, ArgumentCount, BadJoin, BadLiteral, ManyDefinitions, ManyTokens, ManyReplacements, DeepArguments}
use Rattle.replacement.specs.Items.{Item, giving, fault, over, hiding, marking_first}
use Rattle.replacement.specs.Joining.{Piece, join_all}

-- the tokens that are left once all pieces are joined
abbrev pub joined_items : ℕ → List Piece → List Item
joined_items line ps = (join_all line 0 None ps).items

-- tokens before W: each hides a set too, and the first has the mark
abbrev pub placed_before : Bool → (List ℕ → Bool) → List Item → List Item → List Item
placed_before m h w is = marking_first m (map (hiding h) is) ++ w

-- the pieces can be joined
abbrev pub Joins : ℕ → List Piece → Type 0
Joins line ps = (left : ℕ) → join_all line left None ps ≡ giving (joined_items line ps) left

-- W once the result stands before it, or why it does not
abbrev pub Placing : ℕ → Bool → (List ℕ → Bool) → List Piece → List Item → List Item → Result (Unit {0}) FaultKind → Type 0
Placing line m h ps w v (Ok u) = Joins line ps × (over (placed_before m h w (joined_items line ps)) ≡ false) × (v ≡ placed_before m h w (joined_items line ps))
Placing line m h ps w v (Err ManyTokens) = Joins line ps × (over (placed_before m h w (joined_items line ps)) ≡ true)
Placing line m h ps w v (Err BadJoin) = (left : ℕ) → (join_all line left None ps).ending ≡ fault 53 line
Placing line m h ps w v (Err BrokenFile) = ⊥
Placing line m h ps w v (Err BadByte) = ⊥
Placing line m h ps w v (Err LongFile) = ⊥
Placing line m h ps w v (Err OpenComment) = ⊥
Placing line m h ps w v (Err OpenLiteral) = ⊥
Placing line m h ps w v (Err LongLine) = ⊥
Placing line m h ps w v (Err LongToken) = ⊥
Placing line m h ps w v (Err UnknownDirective) = ⊥
Placing line m h ps w v (Err BadDirective) = ⊥
Placing line m h ps w v (Err BadDefinition) = ⊥
Placing line m h ps w v (Err OtherDefinition) = ⊥
Placing line m h ps w v (Err OpenCall) = ⊥
Placing line m h ps w v (Err ArgumentCount) = ⊥
Placing line m h ps w v (Err BadLiteral) = ⊥
Placing line m h ps w v (Err ManyDefinitions) = ⊥
Placing line m h ps w v (Err ManyReplacements) = ⊥
Placing line m h ps w v (Err DeepArguments) = ⊥
