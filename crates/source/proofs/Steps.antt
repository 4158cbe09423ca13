-- What the comment layer makes of a stream whose first byte is known, by what is open. Assumes nothing.
use Rattle.std.proofs.Common.{◌≡◌, ℕ, Bool, true, false, cond, ◌&&◌, eqb, sym, refl, ap, ◌∙◌}
use Rattle.std.proofs.lemmas.Bool.{eqb-true}
use Rattle.text.specs.declared.Placed.{Placed}
use Rattle.source.specs.declared.comment.State.TheVariants.{Code, Literal, SlashSeen, Block, LineComment}
use Rattle.source.specs.declared.comment.Step.{Step}
use Rattle.text.specs.Bytes.{mark}
use Rattle.source.specs.Comments.{hand, emit, comments}
use Rattle.source.specs.Stream.{Stream, ◌▸◌, ends, begins}

-- a byte that is one number is no other
pub differs : (b m n : ℕ) → eqb b m ≡ true → eqb m n ≡ false → eqb b n ≡ false
differs b m n e f = ap (λ x. eqb x n) (eqb-true b m e) ∙ f

-- in code
pub code_mark : (p : Placed) (s : Stream) → mark p.byte ≡ true → comments Code (p ▸ s) ≡ p ▸ comments (Literal p.byte false) s
code_mark p s e = rw e

pub code_slash : (p : Placed) (s : Stream) → eqb p.byte 47 ≡ true → comments Code (p ▸ s) ≡ comments (SlashSeen p.line) s
code_slash p s e = rw (ap mark (eqb-true p.byte 47 e), e)

pub code_other : (p : Placed) (s : Stream) → mark p.byte ≡ false → eqb p.byte 47 ≡ false → comments Code (p ▸ s) ≡ p ▸ comments Code s
code_other p s e f = rw (e, f)

-- in a literal
pub literal_newline : (m : ℕ) (t : Bool) (p : Placed) (s : Stream) → eqb p.byte 10 ≡ true → comments (Literal m t) (p ▸ s) ≡ p ▸ comments Code s
literal_newline m t p s e = rw e

pub literal-closed : (m : ℕ) (p : Placed) (s : Stream) → eqb p.byte 10 ≡ false → eqb p.byte m ≡ true → comments (Literal m false) (p ▸ s) ≡ p ▸ comments Code s
literal-closed m p s e f = rw (e, f)

pub literal_more : (m : ℕ) (t : Bool) (p : Placed) (s : Stream) → eqb p.byte 10 ≡ false → eqb p.byte m ≡ false → eqb p.byte 92 ≡ t → comments (Literal m false) (p ▸ s) ≡ p ▸ comments (Literal m t) s
literal_more m t p s e f g = rw (e, f, g)

pub literal-taken : (m : ℕ) (p : Placed) (s : Stream) → eqb p.byte 10 ≡ false → comments (Literal m true) (p ▸ s) ≡ p ▸ comments (Literal m false) s
literal-taken m p s e = rw e

-- behind a slash
pub slash_star : (l : ℕ) (p : Placed) (s : Stream) → eqb p.byte 42 ≡ true → comments (SlashSeen l) (p ▸ s) ≡ comments (Block l false) s
slash_star l p s e = rw e

pub slash_slash : (l : ℕ) (p : Placed) (s : Stream) → eqb p.byte 47 ≡ true → comments (SlashSeen l) (p ▸ s) ≡ comments LineComment s
slash_slash l p s e = rw (differs p.byte 47 42 e refl, e)

-- in code at most one byte is handed on at once
one_out : (a p : Placed) (s : Stream) (t : Bool) →
    let z : Step = cond t (hand p (Literal p.byte false)) (hand p Code) in
    a ▸ emit z.out (comments z.next s) ≡ a ▸ emit z.out (emit z.behind (comments z.next s))
one_out a p s true = refl
one_out a p s false = refl

slash_first : (l : ℕ) (s : Stream) → begins 42 s ≡ false → begins 47 s ≡ false → comments (SlashSeen l) s ≡ record { byte = 47; line = l } ▸ comments Code s
slash_first l (ends x) e f = refl
slash_first l (p ▸ s) e f = rw (e, f) (one_out (record { byte = 47; line = l }) p s (mark p.byte))

pub slash_other : (a : Placed) (s : Stream) → eqb a.byte 47 ≡ true → begins 42 s ≡ false → begins 47 s ≡ false → comments (SlashSeen a.line) s ≡ a ▸ comments Code s
slash_other a s e f g = slash_first a.line s f g ∙ ap (λ b. record { byte = b; line = a.line } ▸ comments Code s) (sym (eqb-true a.byte 47 e))

-- in code again: a byte that opens nothing, and so a newline
pub code_kept : (p : Placed) (s : Stream) → mark p.byte ≡ false → (eqb p.byte 47 && begins 47 s) ≡ false → (eqb p.byte 47 && begins 42 s) ≡ false → comments Code (p ▸ s) ≡ p ▸ comments Code s
code_kept p s e f g = go (eqb p.byte 47) refl
  where
    go : (t : Bool) → eqb p.byte 47 ≡ t → comments Code (p ▸ s) ≡ p ▸ comments Code s
    go true h = code_slash p s h ∙ slash_other p s h (rw h at g) (rw h at f)
    go false h = code_other p s e h

pub code_newline : (p : Placed) (s : Stream) → eqb p.byte 10 ≡ true → comments Code (p ▸ s) ≡ p ▸ comments Code s
code_newline p s e = code_other p s (ap mark (eqb-true p.byte 10 e)) (differs p.byte 10 47 e refl)

-- in a block comment
pub block_more : (l : ℕ) (t u : Bool) (p : Placed) (s : Stream) → (t && eqb p.byte 47) ≡ false → eqb p.byte 42 ≡ u → comments (Block l t) (p ▸ s) ≡ comments (Block l u) s
block_more l t u p s e f = rw (e, f)

pub block_closed : (l : ℕ) (p : Placed) (s : Stream) → eqb p.byte 47 ≡ true → comments (Block l true) (p ▸ s) ≡ record { byte = 32; line = l } ▸ comments Code s
block_closed l p s e = rw e

-- in a line comment
pub line_newline : (p : Placed) (s : Stream) → eqb p.byte 10 ≡ true → comments LineComment (p ▸ s) ≡ p ▸ comments Code s
line_newline p s e = rw e

pub line_more : (p : Placed) (s : Stream) → eqb p.byte 10 ≡ false → comments LineComment (p ▸ s) ≡ comments LineComment s
line_more p s e = rw e
