-- Worked examples of replacement. Assumes nothing.
use Rattle.std.specs.Prelude.{◌≡◌, ℕ, Bool, true, false, List, [], ◌∷◌, ◌++◌, map, Some, None, codes}
use Rattle.source.specs.Texts.{memory_text}
use Rattle.token.specs.Tokens.{Token}
use Rattle.lexer.specs.Phases.{TokenLines, tokens, over, token_lines}
use Rattle.definition.specs.Definitions.{Macro, define}
use Rattle.definitions.specs.InForce.{same}
use Rattle.replacement.specs.Items.{fresh, spelling, whole}
use Rattle.replacement.specs.Replacing.{expand}

-- the tokens of a text
abbrev pub all_tokens : TokenLines → List Token
all_tokens (tokens ts n ls) = ts ++ all_tokens ls
all_tokens (over e) = []

abbrev pub tokens_of : List ℕ → List Token
tokens_of bs = all_tokens (token_lines (memory_text bs))

abbrev pub definitions : List (List ℕ) → List Macro
definitions [] = []
definitions (d ∷ ds) = elim (define (tokens_of d)) [ None ↦ definitions ds | Some m ↦ m ∷ definitions ds ]

-- what a text expands to with the definitions, and what a text reads, both as spellings
abbrev pub expands : List (List ℕ) → List ℕ → List (List ℕ)
expands ds bs = map spelling (expand (definitions ds) (codes "plan.c") 65536 (map fresh (tokens_of bs)) whole).items

abbrev pub reads : List ℕ → List (List ℕ)
reads bs = map (λ t. t.spelling) (tokens_of bs)

-- the definitions of three examples of C99
abbrev pub rescanning : List (List ℕ)
rescanning =
    codes "x 2" ∷ codes "f(a) f(x * (a))" ∷ codes "g f" ∷ codes "z z[0]" ∷ codes "h g(~" ∷ codes "m(a) a(w)" ∷ codes "w 0,1" ∷ codes "t(a) a" ∷ codes "p() int" ∷ codes "q(x) x" ∷ codes "r(x,y) x ## y" ∷ codes "str(x) # x" ∷ []

abbrev pub strings : List (List ℕ)
strings =
    codes "str(s) # s" ∷ codes "xstr(s) str(s)" ∷ codes "debug(s, t) printf(\"x\" # s \"= %d, x\" # t \"= %s\", x ## s, x ## t)" ∷ codes "INCFILE(n) vers ## n" ∷ codes "glue(a, b) a ## b" ∷ codes "xglue(a, b) glue(a, b)" ∷ codes "HIGHLOW \"hello\"" ∷ codes "LOW LOW \", world\"" ∷ []

abbrev pub variadic : List (List ℕ)
variadic =
    codes "debug(...) fprintf(stderr, __VA_ARGS__)" ∷ codes "showlist(...) puts(#__VA_ARGS__)" ∷ codes "report(test, ...) ((test)?puts(#test): printf(__VA_ARGS__))" ∷ []

abbrev pub joining : List (List ℕ)
joining = codes "t(x,y,z) x ## y ## z" ∷ []

-- whether a name may be defined so again
abbrev pub redefines : List ℕ → List ℕ → Bool
redefines d e =
    elim (define (tokens_of d)) [ None ↦ false | Some m ↦ elim (define (tokens_of e)) [ None ↦ false | Some n ↦ same m n ] ]

pub record Worked : Type 0 where
  -- the ) counts for the hide set
  pub nested : expands (codes "f(a) a*g" ∷ codes "g(a) f(a)" ∷ []) (codes "f(2)(9)") ≡ reads (codes "2*9*g")
  pub literal : expands (codes "s(a) #a" ∷ []) (codes "s( \"a\\n\"  + 1 )") ≡ codes "\"\\\"a\\\\n\\\" + 1\"" ∷ []
  -- rescanning
  pub rescanned : expands rescanning (codes "f(y+1) + f(f(z)) % t(t(g)(0) + t)(1);") ≡ reads (codes "f(2 * (y+1)) + f(2 * (f(2 * (z[0])))) % f(2 * (0)) + t(1);")
  pub behind : expands rescanning (codes "g(x+(3,4)-w) | h 5) & m (f)^m(m);") ≡ reads (codes "f(2 * (2+(3,4)-0,1)) | f(2 * (~ 5)) & f(2 * (0,1))^m(0,1);")
  pub arguments : expands rescanning (codes "p() i[q()] = { q(1), r(2,3), r(4,), r(,5), r(,) };") ≡ reads (codes "int i[] = { 1, 23, 4, 5, };")
  pub literals : expands rescanning (codes "char c[2][6] = { str(hello), str() };") ≡ reads (codes "char c[2][6] = { \"hello\", \"\" };")
  -- strings and joined names
  pub debugged : expands strings (codes "debug(1, 2);") ≡ reads (codes "printf(\"x\" \"1\" \"= %d, x\" \"2\" \"= %s\", x1, x2);")
  pub escapes : expands strings (codes "fputs(str(strncmp(\"abc\\0d\", \"abc\", '\\4') // this goes away" ++ 10 ∷ codes "== 0) str(: @\\n), s);") ≡ reads (codes "fputs(\"strncmp(\\\"abc\\\\0d\\\", \\\"abc\\\", '\\\\4') == 0\" \": @\\n\", s);")
  pub included : expands strings (codes "xstr(INCFILE(2).h)") ≡ reads (codes "\"vers2.h\"")
  pub glued : expands strings (codes "glue(HIGH, LOW); xglue(HIGH, LOW)") ≡ reads (codes "\"hello\"; \"hello\" \", world\"")
  -- placemarkers
  pub placemarkers : expands joining (codes "int j[] = { t(1,2,3), t(,4,5), t(6,,7), t(8,9,), t(10,,), t(,11,), t(,,12), t(,,) };") ≡ reads (codes "int j[] = { 123, 45, 67, 89, 10, 11, 12, };")
  -- variable arguments
  pub flag : expands variadic (codes "debug(\"Flag\"); debug(\"X = %d\\n\", x);") ≡ reads (codes "fprintf(stderr, \"Flag\" ); fprintf(stderr, \"X = %d\\n\", x );")
  pub list : expands variadic (codes "showlist(The first, second, and third items.);") ≡ reads (codes "puts( \"The first, second, and third items.\" );")
  pub report : expands variadic (codes "report(x>y, \"x is %d but y is %d\", x, y);") ≡ reads (codes "((x>y)?puts(\"x>y\"): printf(\"x is %d but y is %d\", x, y));")
  -- redefinitions
  pub spaced_object : redefines (codes "OBJ_LIKE (1-1)") (codes "OBJ_LIKE /* white space */ (1-1) /* other */") ≡ true
  pub spaced_function : redefines (codes "FUN_LIKE(a) ( a )") (codes "FUN_LIKE( a )( /* note the white space */ \\" ++ 10 ∷ codes "a /* other stuff on this line" ++ 10 ∷ codes "*/ )") ≡ true
  pub other_tokens : redefines (codes "OBJ_LIKE (1-1)") (codes "OBJ_LIKE (0)") ≡ false
  pub other_space : redefines (codes "OBJ_LIKE (1-1)") (codes "OBJ_LIKE (1 - 1)") ≡ false
  pub other_use : redefines (codes "FUN_LIKE(a) ( a )") (codes "FUN_LIKE(b) ( a )") ≡ false
  pub other_parameter : redefines (codes "FUN_LIKE(a) ( a )") (codes "FUN_LIKE(b) ( b )") ≡ false
