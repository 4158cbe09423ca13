-- A step by what its token is. Assumes nothing.
use Rattle.std.proofs.Common.{◌≡◌, ℕ, ◌-◌, Bool, true, false, cond, not, ◌&&◌, List, [], ◌∷◌, ◌++◌, length, drop, Some, None, codes, Option, sym, refl, ap, ◌∙◌, subst, arith}
use Rattle.std.specs.List.{slice_get}
use Rattle.std.specs.Option.{option_map}
use Rattle.std.proofs.lemmas.Bool.{and_parts}
use Rattle.token.specs.declared.Kind.{Kind}
use Rattle.token.specs.declared.Kind.TheVariants.{Identifier, Number, Character, String, Punctuator, Other}
use Rattle.item.specs.declared.hide_set.HideSet.{HideSet}
use Rattle.item.specs.Tagged.{Tagged}
use Rattle.definition.specs.Definitions.{Macro, is_identifier, spells}
use Rattle.definitions.specs.InForce.{slot, found}
use Rattle.definitions.proofs.Macros.{found_none, found_some}
use Rattle.replacement.specs.Items.{Item, End as Ends, Outcome, giving, failing, ◌then◌}
use Rattle.replacement.specs.Meaning.{hidden, item_of, items_of}
use Rattle.replacement.specs.Replacing.{Expander, Turn, Move, hand, go, halt, counting, built_in_result, replaced, step}
use Rattle.invocation.specs.Fronts.{Dropped}
use Rattle.steps.specs.declared.class.BuiltIn.{BuiltIn as BuiltInName}
use Rattle.steps.specs.declared.class.BuiltIn.TheVariants.{Line, File, Standard, Version}
use Rattle.steps.specs.declared.class.Class.{Class}
use Rattle.steps.specs.declared.class.Class.TheVariants.{End, Plain, BuiltIn, Object, Function}
use Rattle.item.specs.declared.Name.{Name}
use Rattle.steps.specs.Calling.{Named}
use Rattle.steps.specs.Classes.{built_in_name, name_of, macro_class, defined_class, named_class, class}
use Rattle.steps.specs.Handing.{built_in_kind, built_in_spelling, in_place}
use Rattle.steps.specs.Steps.{onward}

-- what a move leads to, with W and the run behind the token
abbrev pub led : Expander → Turn → List Macro → List ℕ → Ends → List (Tagged HideSet) → List (Tagged HideSet) → Move → Outcome Item
led e next ms file end w run m =
    elim m [
      | hand u n ↦ giving (u ∷ []) n then (λ k. onward e next ms file end (record { left = k; w = w; run = run }))
      | go v r n ↦ next n v r
      | halt k l n ↦ failing k l n
    ]

-- the first token of W, or else of the run
pub onward_first : (e : Expander) (next : Turn) (ms : List Macro) (file : List ℕ) (end : Ends) (left : ℕ) (x : Tagged HideSet) (w run w' run' : List (Tagged HideSet)) → Some x ≡ slice_get (w ++ run) 0 → Dropped 1 w run w' run' → onward e next ms file end (record { left = left; w = w; run = run }) ≡ led e next ms file end w' run' (step e ms file end (item_of ms x) (items_of ms w') (items_of ms run') left)
onward_first e next ms file end left x [] [] w' run' f d = cc
onward_first e next ms file end left x [] (y ∷ run) w' run' f d =
    let is : y ≡ x = cc in
    (λ j. led e next ms file end (sym d.first j) (sym d.then j) (step e ms file end (item_of ms (is j)) (items_of ms (sym d.first j)) (items_of ms (sym d.then j)) left))
onward_first e next ms file end left x (y ∷ w) run w' run' f d =
    let is : y ≡ x = cc in
    let none : 0 ≡ 1 - length (y ∷ w) = omega arith in
    let behind = ap (λ n. drop n run) none ∙ sym d.then in
    (λ j. led e next ms file end (sym d.first j) (behind j) (step e ms file end (item_of ms (is j)) (items_of ms (sym d.first j)) (items_of ms (behind j)) left))

-- a step by the answers to its tests
abbrev step_by : Expander → Ends → Item → List Item → List Item → ℕ → Bool → Option Item → Option Macro → Move
step_by e end t w run left b o f =
    elim b [
      | false ↦ hand t left
      | true ↦
          elim o [
            | Some u ↦ counting t.token.line left (λ n. hand u n)
            | None ↦ elim f [ None ↦ hand t left | Some m ↦ replaced e t w run end left m ]
          ]
    ]

four : {A B : Type 0} (f : A → B) (a b c d : Bool) (p q r s : A) → cond a (Some (f p)) (cond b (Some (f q)) (cond c (Some (f r)) (cond d (Some (f s)) None))) ≡ option_map f (cond a (Some p) (cond b (Some q) (cond c (Some r) (cond d (Some s) None))))
four f true b c d p q r s = refl
four f false true c d p q r s = refl
four f false false true d p q r s = refl
four f false false false true p q r s = refl
four f false false false false p q r s = refl

is_identifier_lem : (k : Kind) → is_identifier k ≡ true → k ≡ Identifier
is_identifier_lem Identifier e = refl
is_identifier_lem Number e = cc
is_identifier_lem Character e = cc
is_identifier_lem String e = cc
is_identifier_lem Punctuator e = cc
is_identifier_lem Other e = cc

-- what a token of each class is, and what its step is
pub record Passed (ms : List Macro) (file : List ℕ) (end : Ends) (xs : List (Tagged HideSet)) : Type 0 where
  pub x : Tagged HideSet
  pub first : Some x ≡ slice_get xs 0
  pub steps : (e : Expander) (w run : List Item) (left : ℕ) → step e ms file end (item_of ms x) w run left ≡ hand (item_of ms x) left

pub record Standing (ms : List Macro) (file : List ℕ) (end : Ends) (xs : List (Tagged HideSet)) (b : BuiltInName) (n : Name) : Type 0 where
  pub x : Tagged HideSet
  pub first : Some x ≡ slice_get xs 0
  pub steps : (e : Expander) (w run : List Item) (left : ℕ) → step e ms file end (item_of ms x) w run left ≡ counting n.line left (λ k. hand (in_place ms n (built_in_kind b) (built_in_spelling file n.line b)) k)

pub record Naming (ms : List Macro) (file : List ℕ) (end : Ends) (xs : List (Tagged HideSet)) (k : ℕ) (n : Name) (is_call : Bool) : Type 0 where
  pub x : Tagged HideSet
  pub m : Macro
  pub ps : List (List ℕ)
  pub first : Some x ≡ slice_get xs 0
  pub named : Named ms x k n m (cond is_call (Some ps) None)
  pub steps : (e : Expander) (w run : List Item) (left : ℕ) → step e ms file end (item_of ms x) w run left ≡ replaced e (item_of ms x) w run end left m

abbrev pub Fronted : List Macro → List ℕ → Ends → List (Tagged HideSet) → Class → Type 0
Fronted ms file end xs End = xs ≡ []
Fronted ms file end xs Plain = Passed ms file end xs
Fronted ms file end xs (BuiltIn b n) = Standing ms file end xs b n
Fronted ms file end xs (Object k n) = Naming ms file end xs k n false
Fronted ms file end xs (Function k n) = Naming ms file end xs k n true

abbrev stands_for : List Macro → List ℕ → Tagged HideSet → BuiltInName → Item
stands_for ms file x b = in_place ms (name_of x) (built_in_kind b) (built_in_spelling file x.token.line b)

module _ (ms : List Macro) (file : List ℕ) (end : Ends) (x : Tagged HideSet) (xs : List (Tagged HideSet)) where
  built_in_is : built_in_result file (item_of ms x) ≡ option_map (stands_for ms file x) (built_in_name x.token.spelling)
  built_in_is =
      let t = x.token in
      four (stands_for ms file x) (spells t (codes "__LINE__")) (spells t (codes "__FILE__")) (spells t (codes "__STDC__")) (spells t (codes "__STDC_VERSION__")) Line File Standard Version

  -- a name that is replaced, by the slot of its definition
  module _ (kind : x.token.kind ≡ Identifier) (test : (is_identifier x.token.kind && not (hidden ms x.tag x.token.spelling)) ≡ true) (none : built_in_name x.token.spelling ≡ None) where
    steps_by : (f : Option Macro) → found x.token.spelling ms ≡ f → (e : Expander) (w run : List Item) (left : ℕ) → step e ms file end (item_of ms x) w run left ≡ step_by e end (item_of ms x) w run left true None f
    steps_by f p e w run left =
        (λ j. step_by e end (item_of ms x) w run left (test j) ((built_in_is ∙ ap (option_map (stands_for ms file x)) none) j) (p j))

    fronted_named : (k : ℕ) (m : Macro) (o : Option (List (List ℕ))) → slot x.token.spelling ms ≡ Some k → slice_get ms k ≡ Some m → m.parameters ≡ o → Fronted ms file end (x ∷ xs) (elim o [ None ↦ Object k (name_of x) | Some ps ↦ Function k (name_of x) ])
    fronted_named k m None s d p =
        record {
          x = x;
          m = m;
          ps = [];
          first = refl;
          named = record { kind = kind; name = refl; slot = s; definition = d; parameters = p };
          steps = steps_by (Some m) (found_some x.token.spelling ms k s ∙ d);
        }
    fronted_named k m (Some ps) s d p =
        record {
          x = x;
          m = m;
          ps = ps;
          first = refl;
          named = record { kind = kind; name = refl; slot = s; definition = d; parameters = p };
          steps = steps_by (Some m) (found_some x.token.spelling ms k s ∙ d);
        }

    fronted_slot : (k : ℕ) (f : Option Macro) → slot x.token.spelling ms ≡ Some k → slice_get ms k ≡ f → Fronted ms file end (x ∷ xs) (macro_class k (name_of x) f)
    fronted_slot k None s d =
        record { x = x; first = refl; steps = steps_by None (found_some x.token.spelling ms k s ∙ d) }
    fronted_slot k (Some m) s d = fronted_named k m m.parameters s d refl

    fronted_defined : (o : Option ℕ) → slot x.token.spelling ms ≡ o → Fronted ms file end (x ∷ xs) (defined_class ms (name_of x) o)
    fronted_defined None s = record { x = x; first = refl; steps = steps_by None (found_none x.token.spelling ms s) }
    fronted_defined (Some k) s = fronted_slot k (slice_get ms k) s refl

  fronted_by : (b : Bool) (o : Option BuiltInName) → (is_identifier x.token.kind && not (hidden ms x.tag x.token.spelling)) ≡ b → built_in_name x.token.spelling ≡ o → Fronted ms file end (x ∷ xs) (cond b (named_class ms (name_of x) (slot x.token.spelling ms) o) Plain)
  fronted_by false o p q =
      record {
        x = x;
        first = refl;
        steps = λ e w run left. ap (λ b. step_by e end (item_of ms x) w run left b (built_in_result file (item_of ms x)) (found x.token.spelling ms)) p;
      }
  fronted_by true (Some b) p q =
      record {
        x = x;
        first = refl;
        steps = λ e w run left. (λ j. step_by e end (item_of ms x) w run left (p j) ((built_in_is ∙ ap (option_map (stands_for ms file x)) q) j) (found x.token.spelling ms));
      }
  fronted_by true None p q =
      fronted_defined (is_identifier_lem _ (and_parts _ _ p).0) p q (slot x.token.spelling ms) refl

fronted_class : (ms : List Macro) (file : List ℕ) (end : Ends) (xs : List (Tagged HideSet)) → Fronted ms file end xs (class ms (slice_get xs 0))
fronted_class ms file end [] = refl
fronted_class ms file end (x ∷ xs) = fronted_by ms file end x xs _ _ refl refl

pub fronted : (ms : List Macro) (file : List ℕ) (end : Ends) (xs : List (Tagged HideSet)) (c : Class) → c ≡ class ms (slice_get xs 0) → Fronted ms file end xs c
fronted ms file end xs c e = subst (Fronted ms file end xs) (sym e) (fronted_class ms file end xs)
