-- Every stream maps piece by piece to what the comment layer makes of it. Assumes nothing.
use Rattle.std.proofs.Common.{◌≡◌, ℕ, Bool, true, false, ◌&&◌, eqb, List, [], ◌∷◌, refl, ap}
use mathlib.Core.Path.{subst⁻¹}
use Rattle.std.proofs.lemmas.Bool.{eqb-true, and_left, and_right}
use Rattle.source.specs.declared.Ending.{Ending}
use Rattle.source.specs.declared.Ending.TheVariants.{Whole, Fails}
use Rattle.text.specs.declared.Fault.{Fault}
use Rattle.text.specs.declared.FaultKind.TheVariants.{OpenComment}
use Rattle.text.specs.declared.Placed.{Placed}
use Rattle.source.specs.declared.comment.State.TheVariants.{Code, Literal, SlashSeen, Block, LineComment}
use Rattle.text.specs.Bytes.{mark}
use Rattle.source.specs.Comments.{comments}
use Rattle.source.specs.Pieces.{◌▸▸◌, line_ends, Inside, OneLine, NoClose, Maps}
use Rattle.source.specs.Stream.{Stream, ◌▸◌, ends, begins}
use Rattle.source.proofs.Steps.{differs, code_mark, code_slash, code_other, literal_newline, literal-closed, literal_more, literal-taken, slash_star, slash_slash, slash_other, block_more, block_closed, line_newline, line_more}

-- the rest of a literal, and what follows it
data LiteralRest (m : ℕ) : Stream → Stream → Type 0 where
  closed : (q : Placed) (ps : List Placed) {s t : Stream} → Inside m ps → eqb q.byte m ≡ true → Maps s t → LiteralRest m (ps ▸▸ q ▸ s) (ps ▸▸ q ▸ t)
  unclosed : (ps : List Placed) (s : Stream) {t : Stream} → Inside m ps → line_ends s ≡ true → Maps s t → LiteralRest m (ps ▸▸ s) (ps ▸▸ t)
  backslash : (b : Placed) (ps : List Placed) (s : Stream) {t : Stream} → Inside m ps → eqb b.byte 92 ≡ true → eqb b.byte m ≡ false → line_ends s ≡ true → Maps s t → LiteralRest m (ps ▸▸ b ▸ s) (ps ▸▸ b ▸ t)

-- with the mark in front
opened : (m : Placed) {s t : Stream} → mark m.byte ≡ true → LiteralRest m.byte s t → Maps (m ▸ s) (m ▸ t)
opened m e (LiteralRest.closed q ps i f h) = Maps.closed m q ps e i f h
opened m e (LiteralRest.unclosed ps s i f h) = Maps.unclosed m ps s e i f h
opened m e (LiteralRest.backslash b ps s i f g k h) = Maps.backslash m b ps s e i f g k h

-- with one more byte in front, or a backslash and the byte that it takes along
plain : {m : ℕ} (p : Placed) {s t : Stream} → eqb p.byte m ≡ false → eqb p.byte 92 ≡ false → eqb p.byte 10 ≡ false → LiteralRest m s t → LiteralRest m (p ▸ s) (p ▸ t)
plain p e f g (LiteralRest.closed q ps i k h) = LiteralRest.closed q (p ∷ ps) (Inside.plain e f g i) k h
plain p e f g (LiteralRest.unclosed ps s i k h) = LiteralRest.unclosed (p ∷ ps) s (Inside.plain e f g i) k h
plain p e f g (LiteralRest.backslash b ps s i k n o h) = LiteralRest.backslash b (p ∷ ps) s (Inside.plain e f g i) k n o h

escape : {m : ℕ} (p q : Placed) {s t : Stream} → eqb p.byte 92 ≡ true → eqb p.byte m ≡ false → eqb q.byte 10 ≡ false → LiteralRest m s t → LiteralRest m (p ▸ q ▸ s) (p ▸ q ▸ t)
escape p q e f g (LiteralRest.closed r ps i k h) = LiteralRest.closed r (p ∷ q ∷ ps) (Inside.escape e f g i) k h
escape p q e f g (LiteralRest.unclosed ps s i k h) = LiteralRest.unclosed (p ∷ q ∷ ps) s (Inside.escape e f g i) k h
escape p q e f g (LiteralRest.backslash b ps s i k n o h) = LiteralRest.backslash b (p ∷ q ∷ ps) s (Inside.escape e f g i) k n o h

-- the rest of a block comment that begins on a line, and what follows it
data BlockRest (l : ℕ) : Stream → Stream → Type 0 where
  closed : (c d : Placed) (ps : List Placed) {s t : Stream} → NoClose ps → eqb c.byte 42 ≡ true → eqb d.byte 47 ≡ true → Maps s t → BlockRest l (ps ▸▸ c ▸ d ▸ s) (record { byte = 32; line = l } ▸ t)
  open_whole : (ps : List Placed) → NoClose ps → BlockRest l (ps ▸▸ ends Whole) (ends (Fails (record { kind = OpenComment; line = l })))
  open_fails : (ps : List Placed) (f : Fault) → NoClose ps → BlockRest l (ps ▸▸ ends (Fails f)) (ends (Fails f))

-- with the slash and the star in front
commented : (a b : Placed) {s t : Stream} → eqb a.byte 47 ≡ true → eqb b.byte 42 ≡ true → BlockRest a.line s t → Maps (a ▸ b ▸ s) t
commented a b e f (BlockRest.closed c d ps i g k h) = Maps.block a b c d ps e f i g k h
commented a b e f (BlockRest.open_whole ps i) = Maps.open_whole a b ps e f i
commented a b e f (BlockRest.open_fails ps x i) = Maps.open_fails a b ps x e f i

-- with one more byte in front, unless it is a star before a slash
no_close : (p : Placed) (ps : List Placed) (s : Stream) → (eqb p.byte 42 && begins 47 (ps ▸▸ s)) ≡ false → NoClose ps → NoClose (p ∷ ps)
no_close p [] s e i = NoClose.one
no_close p (q ∷ ps) s e i = NoClose.and e i

more : {l : ℕ} (p : Placed) {s t : Stream} → (eqb p.byte 42 && begins 47 s) ≡ false → BlockRest l s t → BlockRest l (p ▸ s) t
more p e (BlockRest.closed c d ps {s} i g k h) = BlockRest.closed c d (p ∷ ps) (no_close p ps (c ▸ d ▸ s) e i) g k h
more p e (BlockRest.open_whole ps i) = BlockRest.open_whole (p ∷ ps) (no_close p ps (ends Whole) e i)
more p e (BlockRest.open_fails ps x i) = BlockRest.open_fails (p ∷ ps) x (no_close p ps (ends (Fails x)) e i)

-- the rest of a line comment, and what follows it
data LineRest : Stream → Stream → Type 0 where
  up_to : (ps : List Placed) (s : Stream) {t : Stream} → OneLine ps → line_ends s ≡ true → Maps s t → LineRest (ps ▸▸ s) t

-- with the two slashes in front
lined : (a b : Placed) {s t : Stream} → eqb a.byte 47 ≡ true → eqb b.byte 47 ≡ true → LineRest s t → Maps (a ▸ b ▸ s) t
lined a b e f (LineRest.up_to ps s i k h) = Maps.line a b ps s e f i k h

-- with one more byte in front
longer : (p : Placed) {s t : Stream} → eqb p.byte 10 ≡ false → LineRest s t → LineRest (p ▸ s) t
longer p e (LineRest.up_to ps s i k h) = LineRest.up_to (p ∷ ps) s (OneLine.and e i) k h

-- What is claimed of a stream, by what is open: how it goes on, and that what follows is mapped.
-- Behind a backslash, a slash and a star the byte itself stands in front.
record Claims (s : Stream) : Type 0 where
  code : Maps s (comments Code s)
  literal : (m : ℕ) → LiteralRest m s (comments (Literal m false) s)
  taken : (m : ℕ) (b : Placed) → eqb b.byte 92 ≡ true → eqb b.byte m ≡ false → LiteralRest m (b ▸ s) (b ▸ comments (Literal m true) s)
  slash : (a : Placed) → eqb a.byte 47 ≡ true → Maps (a ▸ s) (comments (SlashSeen a.line) s)
  block : (l : ℕ) → BlockRest l s (comments (Block l false) s)
  star : (l : ℕ) (c : Placed) → eqb c.byte 42 ≡ true → BlockRest l (c ▸ s) (comments (Block l true) s)
  line : LineRest s (comments LineComment s)

-- a newline, and a slash that begins no comment, stay
newline : (p : Placed) {s t : Stream} → eqb p.byte 10 ≡ true → Maps s t → Maps (p ▸ s) (p ▸ t)
newline p {s} e h =
    let f : eqb p.byte 47 ≡ false = differs p.byte 10 47 e refl in
    Maps.other (ap mark (eqb-true p.byte 10 e)) (and_left (eqb p.byte 47) (begins 47 s) f) (and_left (eqb p.byte 47) (begins 42 s) f) h

lone_slash : (a : Placed) (s : Stream) → eqb a.byte 47 ≡ true → begins 42 s ≡ false → begins 47 s ≡ false → Maps s (comments Code s) → Maps (a ▸ s) (comments (SlashSeen a.line) s)
lone_slash a s e f g h =
    subst⁻¹ (Maps (a ▸ s)) (slash_other a s e f g) (Maps.other (ap mark (eqb-true a.byte 47 e)) (and_right (eqb a.byte 47) (begins 47 s) g) (and_right (eqb a.byte 47) (begins 42 s) f) h)

-- at an ending
open_at : (l : ℕ) (t : Bool) (x : Ending) → BlockRest l (ends x) (comments (Block l t) (ends x))
open_at l t Whole = BlockRest.open_whole [] NoClose.nothing
open_at l t (Fails f) = BlockRest.open_fails [] f NoClose.nothing

at_end_lem : (x : Ending) → Claims (ends x)
at_end_lem x = record {
  code = Maps.end;
  literal = λ m. LiteralRest.unclosed [] (ends x) Inside.nothing refl Maps.end;
  taken = λ m b e f. LiteralRest.backslash b [] (ends x) Inside.nothing e f refl Maps.end;
  slash = λ a e. lone_slash a (ends x) e refl refl Maps.end;
  block = λ l. open_at l false x;
  star = λ l c e. more c (and_right (eqb c.byte 42) false refl) (open_at l true x);
  line = LineRest.up_to [] (ends x) OneLine.nothing refl Maps.end;
}

-- at a byte, from the claims of what is behind it
module _ (p : Placed) (s : Stream) (h : Claims s) where
  code_at : Maps (p ▸ s) (comments Code (p ▸ s))
  code_at = go (mark p.byte) refl (eqb p.byte 47) refl
    where
      go : (t : Bool) → mark p.byte ≡ t → (u : Bool) → eqb p.byte 47 ≡ u → Maps (p ▸ s) (comments Code (p ▸ s))
      go true e u f = subst⁻¹ (Maps (p ▸ s)) (code_mark p s e) (opened p e (h.literal p.byte))
      go false e true f = subst⁻¹ (Maps (p ▸ s)) (code_slash p s f) (h.slash p f)
      go false e false f = subst⁻¹ (Maps (p ▸ s)) (code_other p s e f) (Maps.other e (and_left (eqb p.byte 47) (begins 47 s) f) (and_left (eqb p.byte 47) (begins 42 s) f) h.code)

  literal_at : (m : ℕ) → LiteralRest m (p ▸ s) (comments (Literal m false) (p ▸ s))
  literal_at m = go (eqb p.byte 10) refl (eqb p.byte m) refl (eqb p.byte 92) refl
    where
      go : (t : Bool) → eqb p.byte 10 ≡ t → (u : Bool) → eqb p.byte m ≡ u → (v : Bool) → eqb p.byte 92 ≡ v → LiteralRest m (p ▸ s) (comments (Literal m false) (p ▸ s))
      go true e u f v g = subst⁻¹ (LiteralRest m (p ▸ s)) (literal_newline m false p s e) (LiteralRest.unclosed [] (p ▸ s) Inside.nothing e (newline p e h.code))
      go false e true f v g = subst⁻¹ (LiteralRest m (p ▸ s)) (literal-closed m p s e f) (LiteralRest.closed p [] Inside.nothing f h.code)
      go false e false f true g = subst⁻¹ (LiteralRest m (p ▸ s)) (literal_more m true p s e f g) (h.taken m p g f)
      go false e false f false g = subst⁻¹ (LiteralRest m (p ▸ s)) (literal_more m false p s e f g) (plain p f g e (h.literal m))

  taken_at : (m : ℕ) (b : Placed) → eqb b.byte 92 ≡ true → eqb b.byte m ≡ false → LiteralRest m (b ▸ p ▸ s) (b ▸ comments (Literal m true) (p ▸ s))
  taken_at m b f g = go (eqb p.byte 10) refl
    where
      go : (t : Bool) → eqb p.byte 10 ≡ t → LiteralRest m (b ▸ p ▸ s) (b ▸ comments (Literal m true) (p ▸ s))
      go true e = subst⁻¹ (λ z. LiteralRest m (b ▸ p ▸ s) (b ▸ z)) (literal_newline m true p s e) (LiteralRest.backslash b [] (p ▸ s) Inside.nothing f g e (newline p e h.code))
      go false e = subst⁻¹ (λ z. LiteralRest m (b ▸ p ▸ s) (b ▸ z)) (literal-taken m p s e) (escape b p f g e (h.literal m))

  slash_at : (a : Placed) → eqb a.byte 47 ≡ true → Maps (a ▸ p ▸ s) (comments (SlashSeen a.line) (p ▸ s))
  slash_at a e = go (eqb p.byte 42) refl (eqb p.byte 47) refl
    where
      go : (t : Bool) → eqb p.byte 42 ≡ t → (u : Bool) → eqb p.byte 47 ≡ u → Maps (a ▸ p ▸ s) (comments (SlashSeen a.line) (p ▸ s))
      go true f u g = subst⁻¹ (Maps (a ▸ p ▸ s)) (slash_star a.line p s f) (commented a p e f (h.block a.line))
      go false f true g = subst⁻¹ (Maps (a ▸ p ▸ s)) (slash_slash a.line p s g) (lined a p e g h.line)
      go false f false g = lone_slash a (p ▸ s) e f g code_at

  block_at : (l : ℕ) → BlockRest l (p ▸ s) (comments (Block l false) (p ▸ s))
  block_at l = go (eqb p.byte 42) refl
    where
      go : (t : Bool) → eqb p.byte 42 ≡ t → BlockRest l (p ▸ s) (comments (Block l false) (p ▸ s))
      go true e = subst⁻¹ (BlockRest l (p ▸ s)) (block_more l false true p s refl e) (h.star l p e)
      go false e = subst⁻¹ (BlockRest l (p ▸ s)) (block_more l false false p s refl e) (more p (and_left (eqb p.byte 42) (begins 47 s) e) (h.block l))

  star_at : (l : ℕ) (c : Placed) → eqb c.byte 42 ≡ true → BlockRest l (c ▸ p ▸ s) (comments (Block l true) (p ▸ s))
  star_at l c e = go (eqb p.byte 47) refl
    where
      go : (t : Bool) → eqb p.byte 47 ≡ t → BlockRest l (c ▸ p ▸ s) (comments (Block l true) (p ▸ s))
      go true f = subst⁻¹ (BlockRest l (c ▸ p ▸ s)) (block_closed l p s f) (BlockRest.closed c p [] NoClose.nothing e f h.code)
      go false f =
          subst⁻¹ (BlockRest l (c ▸ p ▸ s)) (block_more l true (eqb p.byte 42) p s f refl) (more c (and_right (eqb c.byte 42) (eqb p.byte 47) f) (block_at l))

  line_at : LineRest (p ▸ s) (comments LineComment (p ▸ s))
  line_at = go (eqb p.byte 10) refl
    where
      go : (t : Bool) → eqb p.byte 10 ≡ t → LineRest (p ▸ s) (comments LineComment (p ▸ s))
      go true e = subst⁻¹ (LineRest (p ▸ s)) (line_newline p s e) (LineRest.up_to [] (p ▸ s) OneLine.nothing e (newline p e h.code))
      go false e = subst⁻¹ (LineRest (p ▸ s)) (line_more p s e) (longer p e h.line)

  at_byte : Claims (p ▸ s)
  at_byte = record {
    code = code_at;
    literal = literal_at;
    taken = taken_at;
    slash = slash_at;
    block = block_at;
    star = star_at;
    line = line_at;
  }

claims : (s : Stream) → Claims s
claims (ends x) = at_end_lem x
claims (p ▸ s) = at_byte p s (claims s)

pub maps : (s : Stream) → Maps s (comments Code s)
maps s = (claims s).code
