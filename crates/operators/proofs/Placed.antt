-- A result that is joined and goes before W. Assumes nothing.
use Rattle.std.proofs.Common.{◌≡◌, ℕ, Bool, true, false, not, if◌then◌else◌, List, None, Ok, Err, Result, subst, sym, refl, ap, ◌∙◌}
use Rattle.text.specs.declared.FaultKind.{FaultKind}
use Rattle.std.proofs.lemmas.Bool.{not-false, not-true}
use Rattle.text.specs.declared.FaultKind.TheVariants.{ManyTokens}
use Rattle.replacement.specs.Items.{Item, giving, over}
use Rattle.replacement.specs.Joining.{Piece, join_all}
use Rattle.operators.specs.Placing.{joined_items, placed_before, Joins, Placing}

module _ (line : ℕ) (m : Bool) (h : List ℕ → Bool) (ps : List Piece) (w v is : List Item) (joins : (left : ℕ) → join_all line left None ps ≡ giving is left) where
  same : is ≡ joined_items line ps
  same = sym (ap (λ o. o.items) (joins 0))

  all_left : Joins line ps
  all_left left = joins left ∙ ap (λ js. giving js left) same

  -- the tokens that are left are put before W, or are too many
  pub put : true ≡ not (over (placed_before m h w is)) → v ≡ placed_before m h w is → Placing line m h ps w v (Ok tt)
  put room e =
      (all_left, ap (λ js. over (placed_before m h w js)) (sym same) ∙ not-true _ (sym room), e ∙ ap (placed_before m h w) same)

  pub too_many : false ≡ not (over (placed_before m h w is)) → Placing line m h ps w v (Err ManyTokens)
  too_many room = (all_left, ap (λ js. over (placed_before m h w js)) (sym same) ∙ not-false _ (sym room))

  -- where there is room for them, and where there is not
  pub placing : (room : Bool) (r : Result (Unit {0}) FaultKind) → room ≡ not (over (placed_before m h w is)) → (room ≡ true → v ≡ placed_before m h w is) → r ≡ (if room then Ok tt else Err ManyTokens) → Placing line m h ps w v r
  placing true r e before p = subst (Placing line m h ps w v) (sym p) (put e (before refl))
  placing false r e before p = subst (Placing line m h ps w v) (sym p) (too_many e)
