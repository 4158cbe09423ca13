-- Whatever a stream maps to piece by piece is what the comment layer makes of it. Assumes nothing.
use Rattle.std.proofs.Common.{◌≡◌, ℕ, Bool, true, false, ◌&&◌, eqb, List, sym, refl, ap, ◌∙◌, arith}
use Rattle.std.proofs.lemmas.Bool.{and_right}
use Rattle.std.proofs.lemmas.Bool.Decides.{nat_tests}
use Rattle.source.specs.declared.Ending.TheVariants.{Whole, Fails}
use Rattle.text.specs.declared.Placed.{Placed}
use Rattle.source.specs.declared.comment.State.TheVariants.{Code, Literal, Block, LineComment}
use Rattle.text.specs.Bytes.{mark}
use Rattle.source.specs.Comments.{comments}
use Rattle.source.specs.Pieces.{◌▸▸◌, line_ends, Inside, OneLine, NoClose, Maps}
use Rattle.source.specs.Stream.{Stream, ◌▸◌, ends, begins}
use Rattle.source.proofs.Steps.{differs, code_mark, code_slash, code_kept, code_newline, literal_newline, literal-closed, literal_more, literal-taken, slash_star, slash_slash, block_more, block_closed, line_newline, line_more}

-- a literal's bytes are handed on
inside : {m : ℕ} {ps : List Placed} (s : Stream) → Inside m ps → comments (Literal m false) (ps ▸▸ s) ≡ ps ▸▸ comments (Literal m false) s
inside s Inside.nothing = refl
inside {m} s (Inside.plain {p} {ps} e f g h) = literal_more m false p (ps ▸▸ s) g e f ∙ ap (λ z. p ▸ z) (inside s h)
inside {m} s (Inside.escape {p} {q} {ps} e f g h) =
    literal_more m true p (q ▸ ps ▸▸ s) (differs p.byte 92 10 e refl) f e ∙ ap (λ z. p ▸ z) (literal-taken m q (ps ▸▸ s) g ∙ ap (λ z. q ▸ z) (inside s h))

-- at the end of a line a literal and a line comment are left
literal-ends : (m : ℕ) (t : Bool) (s : Stream) → line_ends s ≡ true → comments (Literal m t) s ≡ comments Code s
literal-ends m t (p ▸ s) e = literal_newline m t p s e ∙ sym (code_newline p s e)
literal-ends m t (ends x) e = refl

line_ends_lem : (s : Stream) → line_ends s ≡ true → comments LineComment s ≡ comments Code s
line_ends_lem (p ▸ s) e = line_newline p s e ∙ sym (code_newline p s e)
line_ends_lem (ends x) e = refl

-- a line comment's bytes vanish
one_line : {ps : List Placed} (s : Stream) → OneLine ps → comments LineComment (ps ▸▸ s) ≡ comments LineComment s
one_line s OneLine.nothing = refl
one_line s (OneLine.and {p} {ps} e h) = line_more p (ps ▸▸ s) e ∙ one_line s h

-- so do those of a block comment; t and u say whether the last byte was a star
no_close : (l : ℕ) (t : Bool) {ps : List Placed} (s : Stream) → NoClose ps → (t && begins 47 (ps ▸▸ s)) ≡ false → (u : Bool) × (comments (Block l t) (ps ▸▸ s) ≡ comments (Block l u) s)
no_close l t s NoClose.nothing e = (t, refl)
no_close l t s (NoClose.one {p}) e = (eqb p.byte 42, block_more l t (eqb p.byte 42) p s e refl)
no_close l t s (NoClose.and {p} {q} {ps} f h) e =
    let r = no_close l (eqb p.byte 42) s h f in
    (r.0, block_more l t (eqb p.byte 42) p (q ▸ ps ▸▸ s) e refl ∙ r.1)

-- from code into a literal, a block comment and a line comment, up to what is behind the bytes in it
literal-begins : (m : Placed) {ps : List Placed} (s : Stream) → mark m.byte ≡ true → Inside m.byte ps → comments Code (m ▸ ps ▸▸ s) ≡ m ▸ ps ▸▸ comments (Literal m.byte false) s
literal-begins m {ps} s e i = code_mark m (ps ▸▸ s) e ∙ ap (λ z. m ▸ z) (inside s i)

block-begins : (a b : Placed) {ps : List Placed} (s : Stream) → eqb a.byte 47 ≡ true → eqb b.byte 42 ≡ true → NoClose ps → (u : Bool) × (comments Code (a ▸ b ▸ ps ▸▸ s) ≡ comments (Block a.line u) s)
block-begins a b {ps} s e f i =
    let r = no_close a.line false s i refl in
    (r.0, code_slash a (b ▸ ps ▸▸ s) e ∙ slash_star a.line b (ps ▸▸ s) f ∙ r.1)

line_begins : (a b : Placed) {ps : List Placed} (s : Stream) → eqb a.byte 47 ≡ true → eqb b.byte 47 ≡ true → OneLine ps → comments Code (a ▸ b ▸ ps ▸▸ s) ≡ comments LineComment s
line_begins a b {ps} s e f i = code_slash a (b ▸ ps ▸▸ s) e ∙ slash_slash a.line b (ps ▸▸ s) f ∙ one_line s i

-- a mark is no newline
mark_newline : (b : ℕ) → mark b ≡ true → eqb b 10 ≡ false
mark_newline b e = grind (arith, nat_tests)

-- a star and a slash close a block comment
block-ends : (l : ℕ) (t : Bool) (c d : Placed) (s : Stream) → eqb c.byte 42 ≡ true → eqb d.byte 47 ≡ true → comments (Block l t) (c ▸ d ▸ s) ≡ record { byte = 32; line = l } ▸ comments Code s
block-ends l t c d s e f = block_more l t true c (d ▸ s) (and_right t (eqb c.byte 47) (differs c.byte 42 47 e refl)) e ∙ block_closed l d s f

pub mapped : {s t : Stream} → Maps s t → t ≡ comments Code s
mapped Maps.end = refl
mapped (Maps.other {p} {s} {t} e f g h) = ap (λ z. p ▸ z) (mapped h) ∙ sym (code_kept p s e f g)
mapped (Maps.closed m q ps {s} {t} e i f h) =
    ap (λ z. m ▸ ps ▸▸ z) (ap (λ z. q ▸ z) (mapped h) ∙ sym (literal-closed m.byte q s (differs q.byte m.byte 10 f (mark_newline m.byte e)) f)) ∙ sym (literal-begins m (q ▸ s) e i)
mapped (Maps.unclosed m ps s {t} e i f h) =
    ap (λ z. m ▸ ps ▸▸ z) (mapped h ∙ sym (literal-ends m.byte false s f)) ∙ sym (literal-begins m s e i)
mapped (Maps.backslash m b ps s {t} e i f g k h) =
    ap (λ z. m ▸ ps ▸▸ z) (ap (λ z. b ▸ z) (mapped h ∙ sym (literal-ends m.byte true s k)) ∙ sym (literal_more m.byte true b s (differs b.byte 92 10 f refl) g f)) ∙ sym (literal-begins m (b ▸ s) e i)
mapped (Maps.block a b c d ps {s} {t} e f i g k h) =
    let r = block-begins a b (c ▸ d ▸ s) e f i in
    ap (λ z. record { byte = 32; line = a.line } ▸ z) (mapped h) ∙ sym (r.1 ∙ block-ends a.line r.0 c d s g k)
mapped (Maps.open_whole a b ps e f i) = sym (block-begins a b (ends Whole) e f i).1
mapped (Maps.open_fails a b ps x e f i) = sym (block-begins a b (ends (Fails x)) e f i).1
mapped (Maps.line a b ps s {t} e f i k h) = mapped h ∙ sym (line_begins a b s e f i ∙ line_ends_lem s k)
