-- Records of a pack. Assumes nothing.
use Rattle.std.proofs.Common.{◌≡◌, ℕ, zero, suc, ◌<◌, ◌≤◌, List, [], ◌∷◌, length, take, drop, Some, None, Option, sym, refl, ap, ◌∙◌, arith, length-drop}
use Rattle.std.proofs.lemmas.Grind.{common_steps}
use Rattle.shelf.specs.Files.{File}
use Rattle.shelf.specs.Makes.{Record, headed, first_record, packed, pack_files}

headed_left : (name bs : List ℕ) (r : Record) → Some r ≡ headed name bs → length r.rest ≤ length bs
headed_left name [] r e = cc
headed_left name (high ∷ []) r e = cc
headed_left name (high ∷ low ∷ bs) r e = grind (arith, common_steps, length-drop)

pub shorter : (bs : List ℕ) (r : Record) → Some r ≡ first_record bs → length r.rest < length bs
shorter [] r e = cc
shorter (b ∷ bs) r e = let n = length-drop b bs in grind (arith, common_steps, headed_left (take b bs) (drop b bs))

-- the files of a record and what g records behind it hold
abbrev record_files : ℕ → Option Record → List File
record_files g None = []
record_files g (Some r) = r.file ∷ packed g r.rest

record_enough : (g h : ℕ) (o : Option Record) → ((r : Record) → Some r ≡ o → packed g r.rest ≡ packed h r.rest) → record_files g o ≡ record_files h o
record_enough g h None k = refl
record_enough g h (Some r) k = ap (λ l. r.file ∷ l) (k r refl)

-- a bound that is at least the length changes nothing
packed-enough : (g h : ℕ) (bs : List ℕ) → length bs ≤ g → length bs ≤ h → packed g bs ≡ packed h bs
packed-enough zero zero bs p q = refl
packed-enough zero (suc h) [] p q = refl
packed-enough zero (suc h) (b ∷ bs) p q = absurd (omega arith)
packed-enough (suc g) zero [] p q = refl
packed-enough (suc g) zero (b ∷ bs) p q = absurd (omega arith)
packed-enough (suc g) (suc h) bs p q =
    record_enough g h (first_record bs)
    (λ r e. let l = shorter bs r e in packed-enough g h r.rest (omega arith) (omega arith))

pub pack_some : (bs : List ℕ) (r : Record) → Some r ≡ first_record bs → pack_files bs ≡ r.file ∷ pack_files r.rest
pack_some [] r e = cc
pack_some (b ∷ bs) r e =
    let l = shorter (b ∷ bs) r e in
    ap (record_files (length bs)) (sym e) ∙ ap (λ fs. r.file ∷ fs) (packed-enough (length bs) (length r.rest) r.rest (omega arith) (omega arith))
