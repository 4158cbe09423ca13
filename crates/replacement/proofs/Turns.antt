-- A bound on turns above the replacements left changes nothing. Assumes nothing.
use Rattle.std.proofs.Common.{◌≡◌, ℕ, zero, suc, ◌<◌, ◌≤◌, List, [], ◌∷◌, refl, ap, arith}
use Rattle.definition.specs.Definitions.{Macro}
use Rattle.replacement.specs.Items.{Item, End, whole, Outcome, failing, giving, ◌then◌}
use Rattle.replacement.specs.Replacing.{Expander, Move, hand, go, halt, Step, Turn, step, along, along_run, turns, levels}
use Rattle.replacement.proofs.Counts.{Modest, Falls, step_falls}

-- what follows a move
abbrev pub moving : Turn → (ℕ → Outcome Item) → Move → Outcome Item
moving next rest m = elim m [ hand u n ↦ giving (u ∷ []) n then rest | go w r n ↦ next n w r | halt k l n ↦ failing k l n ]

moving_left : (f : Turn) (p : ℕ → Outcome Item) (left : ℕ) (m : Move) → Falls left m → ((n : ℕ) (v r : List Item) → (f n v r).left ≤ n) → ((n : ℕ) → (p n).left ≤ n) → (moving f p m).left ≤ left
moving_left f p left (hand u n) d a b = omega (arith, b n)
moving_left f p left (go v r n) d a b = omega (arith, a n v r)
moving_left f p left (halt k l n) d a b = d

moving_same : (f h : Turn) (p q : ℕ → Outcome Item) (left : ℕ) (m : Move) → Falls left m → ((n : ℕ) (v r : List Item) → n < left → f n v r ≡ h n v r) → ((n : ℕ) → n ≤ left → p n ≡ q n) → moving f p m ≡ moving h q m
moving_same f h p q left (hand u n) d a b = ap (λ (o : Outcome Item). giving (u ∷ []) n then (λ k. o)) (b n d)
moving_same f h p q left (go v r n) d a b = a n v r d
moving_same f h p q left (halt k l n) d a b = refl

module _ (s : Step) (falls : (t : Item) (w run : List Item) (left : ℕ) → Falls left (s t w run left)) (end : End) where
  along_run_left : (f : Turn) → ((n : ℕ) (v r : List Item) → (f n v r).left ≤ n) → (left : ℕ) (run : List Item) → (along_run s f end left run).left ≤ left
  along_run_left f a left [] = omega arith
  along_run_left f a left (t ∷ run) = moving_left f (λ k. along_run s f end k run) left (s t [] run left) (falls t [] run left) a (λ n. along_run_left f a n run)

  along_left : (f : Turn) → ((n : ℕ) (v r : List Item) → (f n v r).left ≤ n) → (left : ℕ) (w run : List Item) → (along s f end left w run).left ≤ left
  along_left f a left [] run = along_run_left f a left run
  along_left f a left (t ∷ w) run = moving_left f (λ k. along s f end k w run) left (s t w run left) (falls t w run left) a (λ n. along_left f a n w run)

  along_run_same : (f h : Turn) (left : ℕ) (run : List Item) → ((n : ℕ) (v r : List Item) → n < left → f n v r ≡ h n v r) → along_run s f end left run ≡ along_run s h end left run
  along_run_same f h left [] a = refl
  along_run_same f h left (t ∷ run) a = moving_same f h (λ k. along_run s f end k run) (λ k. along_run s h end k run) left (s t [] run left) (falls t [] run left) a (λ n d. along_run_same f h n run (λ m v r l. a m v r (omega arith)))

  along_same : (f h : Turn) (left : ℕ) (w run : List Item) → ((n : ℕ) (v r : List Item) → n < left → f n v r ≡ h n v r) → along s f end left w run ≡ along s h end left w run
  along_same f h left [] run a = along_run_same f h left run a
  along_same f h left (t ∷ w) run a = moving_same f h (λ k. along s f end k w run) (λ k. along s h end k w run) left (s t w run left) (falls t w run left) a (λ n d. along_same f h n w run (λ m v r l. a m v r (omega arith)))

module _ (e : Expander) (modest : Modest e) (ms : List Macro) (file : List ℕ) (end : End) where
  turns_left : (g left : ℕ) (w run : List Item) → (turns e ms file end g left w run).left ≤ left
  turns_left zero left w run = omega arith
  turns_left (suc g) left w run = along_left (step e ms file end) (step_falls e modest ms file end) end (turns e ms file end g) (turns_left g) left w run

  -- two bounds above the replacements left agree
  pub turns_same : (g k left : ℕ) (w run : List Item) → left < g → left < k → turns e ms file end g left w run ≡ turns e ms file end k left w run
  turns_same zero k left w run p q = absurd (omega arith)
  turns_same (suc g) zero left w run p q = absurd (omega arith)
  turns_same (suc g) (suc k) left w run p q = along_same (step e ms file end) (step_falls e modest ms file end) end (turns e ms file end g) (turns e ms file end k) left w run (λ n v r d. turns_same g k n v r (omega arith) (omega arith))

  -- and one pass along W and the run goes on with the bound that its count asks for
  pub turns_once : (left : ℕ) (w run : List Item) → turns e ms file end (suc left) left w run ≡ along (step e ms file end) (λ n v r. turns e ms file end (suc n) n v r) end left w run
  turns_once left w run = along_same (step e ms file end) (step_falls e modest ms file end) end (turns e ms file end left) (λ n v r. turns e ms file end (suc n) n v r) left w run (λ n v r d. turns_same left (suc n) n v r d (omega arith))

-- every level of expansion is modest
pub levels_modest : (ms : List Macro) (file : List ℕ) (n : ℕ) → Modest (levels ms file n)
levels_modest ms file zero line left is = omega arith
levels_modest ms file (suc n) line left is = turns_left (levels ms file n) (levels_modest ms file n) ms file whole (suc left) left [] is
