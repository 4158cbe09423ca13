-- A literal ends at the first mark that no backslash takes along. Assumes nothing.
use Rattle.std.proofs.Common.{◌≡◌, ℕ, suc, Bool, true, false, eqb, List, [], ◌∷◌, ◌++◌, length, Some, None, Option, sym, refl, ap, ◌∙◌, arith}
use Rattle.std.specs.Option.{option_map}
use Rattle.std.proofs.lemmas.Bool.{eq-eqb, eqb-true}
use Rattle.text.specs.Bytes.{quoting}
use Rattle.lexer.specs.Cutting.{literal_length}
use Rattle.lexer.specs.Grammar.{Inside}
use Rattle.lexer.specs.Grammar.Inside.{nothing, plain, escape}

-- one byte of a literal: what is left, by what the byte does
abbrev after : ℕ → List ℕ → Option Bool → Option ℕ
after m bs None = Some 1
after m bs (Some e) = option_map suc (literal_length m e bs)

next : (m : ℕ) (e : Bool) (b : ℕ) (bs : List ℕ) → literal_length m e (b ∷ bs) ≡ after m bs (quoting m e b)
next m e b bs = go (quoting m e b)
  where
    go : (o : Option Bool) → elim o [ None ↦ Some 1 | Some e ↦ option_map suc (literal_length m e bs) ] ≡ after m bs o
    go None = refl
    go (Some e) = refl

closing : (m b : ℕ) → eqb b m ≡ true → quoting m false b ≡ None
closing m b e = rw e

going : (m b : ℕ) (e : Bool) → eqb b m ≡ false → eqb b 92 ≡ e → quoting m false b ≡ Some e
going m b e h k = rw (h, k)

-- the literal that stands at the front goes up to its mark
pub literal_reaches : {m : ℕ} {cs : List ℕ} (rest : List ℕ) → (eqb 92 m ≡ false) → Inside m cs → literal_length m false (cs ++ m ∷ rest) ≡ Some (suc (length cs))
literal_reaches {m} rest not-slash nothing = next m false m rest ∙ ap (after m rest) (closing m m (eq-eqb m m refl))
literal_reaches {m} rest not-slash (plain {b} {bs} other slash h) =
    next m false b (bs ++ m ∷ rest) ∙ ap (after m (bs ++ m ∷ rest)) (going m b false other slash) ∙ ap (option_map suc) (literal_reaches rest not-slash h)
literal_reaches {m} rest not-slash (escape {b} {bs} h) =
    next m false 92 (b ∷ (bs ++ m ∷ rest)) ∙ ap (after m (b ∷ (bs ++ m ∷ rest))) (going m 92 true not-slash refl) ∙ ap (λ o. option_map suc (option_map suc o)) (literal_reaches rest not-slash h)

-- how the bytes behind a mark split, where a literal of k bytes stands there
pub record Closed (m : ℕ) (bs : List ℕ) (k : ℕ) : Type 0 where
  pub inner : List ℕ
  pub rest : List ℕ
  pub inside : Inside m inner
  pub split : bs ≡ inner ++ m ∷ rest
  pub long : k ≡ suc (length inner)

-- one more in front of what a literal holds
less : (o : Option ℕ) (k : ℕ) → option_map suc o ≡ Some k → (j : ℕ) × (o ≡ Some j) × (k ≡ suc j)
less None k e = absurd (let z : ◌≡◌ {A = ℕ} 0 1 = cc in omega arith)
less (Some j) k e = (j, refl, cc)

plain_more : (m b k j : ℕ) (bs : List ℕ) → eqb b m ≡ false → eqb b 92 ≡ false → k ≡ suc j → Closed m bs j → Closed m (b ∷ bs) k
plain_more m b k j bs e f l c = record { inner = b ∷ c.inner; rest = c.rest; inside = plain e f c.inside; split = ap (λ (l : List ℕ). b ∷ l) c.split; long = l ∙ ap suc c.long }

escape_more : (m b c k j : ℕ) (bs : List ℕ) → eqb b 92 ≡ true → k ≡ suc (suc j) → Closed m bs j → Closed m (b ∷ c ∷ bs) k
escape_more m b c k j bs f l d = record { inner = 92 ∷ c ∷ d.inner; rest = d.rest; inside = escape d.inside; split = (λ i. eqb-true b 92 f i ∷ c ∷ d.split i); long = l ∙ ap (λ (n : ℕ). suc (suc n)) d.long }

closes : (m b k : ℕ) (bs : List ℕ) → eqb b m ≡ true → literal_length m false (b ∷ bs) ≡ Some k → Closed m (b ∷ bs) k
closes m b k bs s e =
    let one : Some 1 ≡ Some k = sym (next m false b bs ∙ ap (after m bs) (closing m b s)) ∙ e in
    record { inner = []; rest = bs; inside = nothing; split = ap (λ (x : ℕ). x ∷ bs) (eqb-true b m s); long = cc }

goes_on : (m b k : ℕ) (t : Bool) (bs : List ℕ) → eqb b m ≡ false → eqb b 92 ≡ t → literal_length m false (b ∷ bs) ≡ Some k → (j : ℕ) × (literal_length m t bs ≡ Some j) × (k ≡ suc j)
goes_on m b k t bs s f e = less (literal_length m t bs) k (sym (next m false b bs ∙ ap (after m bs) (going m b t s f)) ∙ e)

pub literal-closed : (m : ℕ) (bs : List ℕ) (k : ℕ) → literal_length m false bs ≡ Some k → Closed m bs k
literal-closed m [] k e = absurd (let z : ◌≡◌ {A = ℕ} 0 1 = cc in omega arith)
literal-closed m (b ∷ []) k e = go (eqb b m) refl
  where
    go : (s : Bool) → eqb b m ≡ s → Closed m (b ∷ []) k
    go true s = closes m b k [] s e
    go false s = let on = goes_on m b k (eqb b 92) [] s refl e in absurd (let f = on.1 in let z : ◌≡◌ {A = ℕ} 0 1 = cc in omega arith)
literal-closed m (b ∷ c ∷ bs) k e = go (eqb b m) refl (eqb b 92) refl (λ j. literal-closed m (c ∷ bs) j) (λ j. literal-closed m bs j)
  where
    go : (s : Bool) → eqb b m ≡ s → (t : Bool) → eqb b 92 ≡ t → ((j : ℕ) → literal_length m false (c ∷ bs) ≡ Some j → Closed m (c ∷ bs) j) → ((j : ℕ) → literal_length m false bs ≡ Some j → Closed m bs j) → Closed m (b ∷ c ∷ bs) k
    go true s t f one two = closes m b k (c ∷ bs) s e
    go false s true f one two =
        let on = goes_on m b k true (c ∷ bs) s f e in
        let far = less (literal_length m false bs) on.0 on.1 in
        escape_more m b c k far.0 bs f (on.2 ∙ ap suc far.2) (two far.0 far.1)
    go false s false f one two = let on = goes_on m b k false (c ∷ bs) s f e in plain_more m b k on.0 (c ∷ bs) s f on.2 (one on.0 on.1)
