-- What a part adds to a table of pieces. Assumes nothing.
use Rattle.std.proofs.Common.{◌≡◌, ℕ, ◌+◌, Bool, true, false, cond, not, ◌&&◌, ◌||◌, ltb, leb, List, [], ◌∷◌, ◌++◌, map, length, is_ok, IfErr, MatchResult, OnOk, Some, None, Ok, Err, Result, sym, refl, ap, ◌∙◌, subst, append-nil, arith}
use Rattle.std.proofs.lemmas.List.{length-map, map-append}
use Rattle.std.specs.List.{slice_get}
use Rattle.std.proofs.lemmas.Bool.{cond-true, cond-false, not-true, not-false}
use Rattle.std.proofs.lemmas.Bool.Decides.{nat_tests}
use Rattle.text.specs.declared.FaultKind.{FaultKind}
use Rattle.text.specs.declared.FaultKind.TheVariants.{ManyTokens}
use Rattle.source.specs.declared.Ending.TheVariants.{Fails}
use Rattle.token.specs.declared.Kind.TheVariants.{String}
use Rattle.token.specs.Tokens.{Token as PlainToken}
use Rattle.item.specs.declared.hide_set.HideSet.{HideSet}
use Rattle.item.specs.Sets.{in_set}
use Rattle.item.specs.declared.table.TagTable.{TagTable}
use Rattle.item.specs.Tables.{held}
use Rattle.item.specs.Tagged.{Tagged, bytes, fit}
use Rattle.item.proofs.Beside.{bytes-append}
use Rattle.item.proofs.Held.{fits}
use Rattle.definition.specs.Definitions.{Macro}
use Rattle.definitions.specs.InForce.{slot}
use Rattle.replacement.specs.Items.{Item, Outcome, giving, failing, fault, ◌then◌, placing, marking_first}
use Rattle.replacement.specs.Joining.{Piece, piece, joiner, nothing, literal}
use Rattle.replacement.specs.Meaning.{item_of, items_of, hidden, end_of}
use Rattle.replacement.specs.Replacing.{raw, operand_of, piece_bytes, limited_pieces}
use Rattle.operators.specs.declared.Role.{Role}
use Rattle.operators.specs.declared.Role.TheVariants.{Plain, Join as Operator}
use Rattle.operators.specs.Pieces.{piece_of, pieces_of}
use Rattle.operators.specs.Quoting.{quoted}
use Rattle.expansion.specs.declared.part.Part.{Part}
use Rattle.expansion.specs.declared.part.Part.TheVariants.{Token, Join, Literal, Raw, Expanded}
use Rattle.expansion.specs.Parts.{given, added_to, plainly, as_is, plains, raws, Sized}

-- too many pieces, or too many bytes of them
abbrev pub over_pieces : List Piece → Bool
over_pieces ps = ltb 1024 (length ps) || ltb 16384 (piece_bytes ps)

pub piece-bytes-append : (a b : List Piece) → piece_bytes (a ++ b) ≡ piece_bytes a + piece_bytes b
piece-bytes-append [] b = omega arith
piece-bytes-append (piece i ∷ a) b = omega (arith, piece-bytes-append a b)
piece-bytes-append (joiner i ∷ a) b = omega (arith, piece-bytes-append a b)
piece-bytes-append (nothing ∷ a) b = piece-bytes-append a b

sized_append : (xs ys : List (Tagged Role)) → Sized xs → Sized ys → Sized (xs ++ ys)
sized_append xs ys s t ms =
    ap piece_bytes (map-append (piece_of ms) xs ys) ∙ omega (arith, piece-bytes-append (pieces_of ms xs) (pieces_of ms ys), s ms, t ms, bytes-append xs ys)

pub within : (n b : ℕ) → (leb n 1024 && leb b 16384) ≡ not (ltb 1024 n || ltb 16384 b)
within n b = grind (arith, nat_tests)

-- a table that fits is not over
fit-over : (ms : List Macro) (xs : List (Tagged Role)) → Sized xs → fit xs ≡ not (over_pieces (pieces_of ms xs))
fit-over ms xs s = grind (arith, nat_tests, length-map xs (piece_of ms), s ms)

pub table_within : (ms : List Macro) (t : TagTable Role) → Sized (held t) → over_pieces (pieces_of ms (held t)) ≡ false
table_within ms t s = not-true _ (sym (fit-over ms (held t) s) ∙ fits t)

-- tokens of an argument
module _ (ms : List Macro) where
  pieces_as_is : (xs : List (Tagged HideSet)) → pieces_of ms (map as_is xs) ≡ map piece (items_of ms xs)
  pieces_as_is [] = refl
  pieces_as_is (x ∷ xs) = ap (λ ps. piece (item_of ms x) ∷ ps) (pieces_as_is xs)

  pieces_plain : (m : Bool) (xs : List (Tagged HideSet)) → map piece (marking_first m (items_of ms xs)) ≡ pieces_of ms (plains m xs)
  pieces_plain m [] = refl
  pieces_plain m (x ∷ xs) = ap (λ ps. piece_of ms (plainly m x) ∷ ps) (sym (pieces_as_is xs))

  pieces_raw : (m : Bool) (xs : List (Tagged HideSet)) → raw m (items_of ms xs) ≡ pieces_of ms (raws m xs)
  pieces_raw m [] = refl
  pieces_raw m (x ∷ xs) = pieces_plain m (x ∷ xs)

  bytes_as_is : (xs : List (Tagged HideSet)) → piece_bytes (pieces_of ms (map as_is xs)) ≡ bytes (map as_is xs)
  bytes_as_is [] = refl
  bytes_as_is (x ∷ xs) = ap (λ n. length x.token.spelling + n) (bytes_as_is xs)

  -- a set of no slots hides no name
  hidden_none : (h : HideSet) → ((k : ℕ) → in_set h k ≡ false) → hidden ms h ≡ (λ n. false)
  hidden_none h none j n = (elim (slot n ms) as (λ o. elim o [ None ↦ false | Some k ↦ in_set h k ] ≡ false) [ None ↦ refl | Some k ↦ none k ]) j

sized_plain : (m : Bool) (xs : List (Tagged HideSet)) → Sized (plains m xs)
sized_plain m [] ms = refl
sized_plain m (x ∷ xs) ms = ap (λ n. length x.token.spelling + n) (bytes_as_is ms xs)

sized_raw : (m : Bool) (xs : List (Tagged HideSet)) → Sized (raws m xs)
sized_raw m [] ms = refl
sized_raw m (x ∷ xs) ms = sized_plain m (x ∷ xs) ms

-- the literal of an argument, by whether it is one
abbrev pub literal_if : PlainToken → ℕ → List Item → ℕ → Bool → Outcome Piece
literal_if t line is left good =
    cond good
    (giving (piece (record { token = record { kind = String; spelling = quoted is; line = line; marked = t.marked }; hides = λ n. false }) ∷ []) left)
    (failing 54 line left)

module _ (line : ℕ) (args : List Macro → List (List Item)) (is : List Macro → List Item) (t : PlainToken) where
  -- pieces as a table keeps them, which are what a part gives
  pub record Gives (p : Part) (more : List (Tagged Role)) : Type 0 where
    pub sized : Sized more
    pub given : (ms : List Macro) (left : ℕ) → given line (args ms) (is ms) t left p ≡ giving (pieces_of ms more) left

  pub gives_token : (h : HideSet) → ((k : ℕ) → in_set h k ≡ false) → Gives Token (record { token = placing line t; tag = Plain h } ∷ [])
  gives_token h none =
      record {
        sized = λ ms. refl;
        given = λ ms left j. giving (piece (record { token = placing line t; hides = sym (hidden_none ms h none) j }) ∷ []) left;
      }

  pub gives_join : Gives Join (record { token = placing line t; tag = Operator } ∷ [])
  gives_join = record { sized = λ ms. refl; given = λ ms left. refl }

  module _ (k : ℕ) (a : List (Tagged HideSet)) (same : (ms : List Macro) → items_of ms a ≡ operand_of (slice_get (args ms) k)) where
    pub gives_literal : (h : HideSet) → ((n : ℕ) → in_set h n ≡ false) → (bs : List ℕ) → ((ms : List Macro) (left : ℕ) → literal t line (items_of ms a) left ≡ literal_if t line (items_of ms a) left true) → ((ms : List Macro) → bs ≡ quoted (items_of ms a)) → Gives (Literal k) (record { token = record { kind = String; spelling = bs; line = line; marked = t.marked }; tag = Plain h } ∷ [])
    gives_literal h none bs good spelt =
        record {
          sized = λ ms. refl;
          given = λ ms left. ap (λ v. literal t line v left) (sym (same ms)) ∙ good ms left ∙ (λ j. giving (piece (record { token = record { kind = String; spelling = sym (spelt ms) j; line = line; marked = t.marked }; hides = sym (hidden_none ms h none) j }) ∷ []) left);
        }

    pub gives_raw : Gives (Raw k) (raws t.marked a)
    gives_raw =
        record {
          sized = sized_raw t.marked a;
          given = λ ms left. ap (λ v. giving (raw t.marked v) left) (sym (same ms)) ∙ ap (λ ps. giving ps left) (pieces_raw ms t.marked a);
        }

  pub gives_expanded : (k : ℕ) (a : List (Tagged HideSet)) → ((ms : List Macro) → is ms ≡ items_of ms a) → Gives (Expanded k) (plains t.marked a)
  gives_expanded k a same =
      record {
        sized = sized_plain t.marked a;
        given = λ ms left. ap (λ v. giving (map piece (marking_first t.marked v)) left) (same ms) ∙ ap (λ ps. giving ps left) (pieces_plain ms t.marked a);
      }

  -- a part behind the pieces of a table
  module _ (p : Part) (xs : List (Tagged Role)) (before : Sized xs) where
    abbrev with_part : List Macro → ℕ → Outcome Piece
    with_part ms left = added_to line (args ms) (is ms) t p (pieces_of ms xs) left

    -- an argument that makes no literal gives nothing but a fault
    pub not_made : (k : ℕ) (a : List Item) (ms : List Macro) (left : ℕ) → p ≡ Literal k → a ≡ operand_of (slice_get (args ms) k) → literal t line a left ≡ failing 54 line left → fit xs ≡ true → (with_part ms left).ending ≡ fault 54 line
    not_made k a ms left is-literal same bad fits =
        let ps = pieces_of ms xs in
        ap (λ x. (added_to line (args ms) (is ms) t x ps left).ending) is-literal ∙ ap (λ o. (limited_pieces line (giving ps left then (λ _. o))).ending) (ap (λ b. literal t line b left) (sym same) ∙ bad) ∙ ap (λ qs. (limited_pieces line (record { items = qs; ending = fault 54 line; left = left })).ending) (append-nil ps) ∙ ap (λ o. o.ending) (cond-false _ (failing 64 line left) (record { items = ps; ending = fault 54 line; left = left }) (not-true _ (sym (fit-over ms xs before) ∙ fits)))

    -- any other gives these pieces, where they fit
    module _ (q : Part) (is-part : p ≡ q) (more : List (Tagged Role)) (g : Gives q more) (ys : List (Tagged Role)) where
      all : (ms : List Macro) (left : ℕ) → with_part ms left ≡ limited_pieces line (giving (pieces_of ms (xs ++ more)) left)
      all ms left =
          ap (λ x. added_to line (args ms) (is ms) t x (pieces_of ms xs) left) is-part ∙ ap (λ o. limited_pieces line (giving (pieces_of ms xs) left then (λ _. o))) (g.given ms left) ∙ ap (λ ps. limited_pieces line (giving ps left)) (sym (map-append (piece_of ms) xs more))

      sizes : Sized (xs ++ more)
      sizes = sized_append xs more before g.sized

      abbrev Adds : Result (Unit {0}) FaultKind → Type 0
      Adds o =
          record {
            added : (ms : List Macro) (left : ℕ) → MatchResult o (λ _. with_part ms left ≡ giving (pieces_of ms ys) left) (λ k. (with_part ms left).ending ≡ end_of (Fails (record { kind = k; line = line })));
            sized : OnOk o (Sized ys);
          }

      pub added : (o : Result (Unit {0}) FaultKind) → is_ok o ≡ fit (xs ++ more) → (is_ok o ≡ true → ys ≡ xs ++ more) → IfErr o (λ k. k ≡ ManyTokens) → Adds o
      added (Ok x) room put many =
          record {
            added = λ ms left. all ms left ∙ cond-false _ _ _ (not-true _ (sym (fit-over ms (xs ++ more) sizes) ∙ sym room)) ∙ ap (λ zs. giving (pieces_of ms zs) left) (sym (put refl));
            sized = subst Sized (sym (put refl)) sizes;
          }
      added (Err k) room put many =
          record {
            added = λ ms left. ap (λ o. o.ending) (all ms left ∙ cond-true _ (failing 64 line left) (giving (pieces_of ms (xs ++ more)) left) (not-false _ (sym (fit-over ms (xs ++ more) sizes) ∙ sym room))) ∙ sym (ap (λ j. end_of (Fails (record { kind = j; line = line }))) many);
            sized = tt;
          }
