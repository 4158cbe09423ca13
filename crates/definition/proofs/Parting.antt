-- What calls of `next` leave. Assumes nothing.
use Rattle.std.proofs.Common.{◌≡◌, ℕ, suc, ◌+◌, List, [], ◌∷◌, length, drop, Some, None, MatchOption, Option, sym, ap, ◌∙◌}
use Rattle.std.specs.Iterator.{Yields, YieldsThen, YieldsFirstBy}
use Rattle.std.proofs.lemmas.List.{drop-drop}
use Rattle.token.specs.declared.TokenRef.{TokenRef}
use Rattle.token.specs.declared.tokens.Tokens.{Tokens}
use Rattle.token.specs.Tables.{referred}
use Rattle.token.specs.Views.{view_tokens}

behind : (xs : List TokenRef) (s t : Tokens) → Yields (YieldsFirstBy referred view_tokens) s xs t → view_tokens t ≡ drop (length xs) (view_tokens s)
behind [] s t y = ap view_tokens (sym y)
behind (x ∷ xs) s t y = behind xs y.0 t y.2 ∙ sym (ap (drop (suc (length xs))) y.1)

-- what stands behind the token that `position` found
pub behind_found : (B : TokenRef → Type 0) (s u : Tokens) (xs : List TokenRef) (o : Option TokenRef) (r : Option ℕ) (n : ℕ) → YieldsThen (YieldsFirstBy referred view_tokens) s xs o u → MatchOption o (r ≡ None) (λ x. (r ≡ Some (length xs)) × B x) → r ≡ Some n → view_tokens u ≡ drop (n + 1) (view_tokens s)
behind_found B s u xs None r n y h e = cc
behind_found B s u xs (Some x) r n y h e =
    let p : length xs ≡ n = cc in
    ap (drop 1) (sym y.2 ∙ behind xs s y.0 y.1) ∙ drop-drop 1 (length xs) (view_tokens s) ∙ ap (λ k. drop (k + 1) (view_tokens s)) p
