-- The worked examples compute, each by itself. Assumes nothing.
use Rattle.std.proofs.Common.{◌≡◌, true, false, [], ◌∷◌, ◌++◌, codes, refl}
use Rattle.replacement.specs.Worked.{redefines, Worked, expands, reads, rescanning, strings, variadic, joining}

nested : expands (codes "f(a) a*g" ∷ codes "g(a) f(a)" ∷ []) (codes "f(2)(9)") ≡ reads (codes "2*9*g")
nested = refl

literal : expands (codes "s(a) #a" ∷ []) (codes "s( \"a\\n\"  + 1 )") ≡ codes "\"\\\"a\\\\n\\\" + 1\"" ∷ []
literal = refl

rescanned : expands rescanning (codes "f(y+1) + f(f(z)) % t(t(g)(0) + t)(1);") ≡ reads (codes "f(2 * (y+1)) + f(2 * (f(2 * (z[0])))) % f(2 * (0)) + t(1);")
rescanned = refl

behind : expands rescanning (codes "g(x+(3,4)-w) | h 5) & m (f)^m(m);") ≡ reads (codes "f(2 * (2+(3,4)-0,1)) | f(2 * (~ 5)) & f(2 * (0,1))^m(0,1);")
behind = refl

arguments : expands rescanning (codes "p() i[q()] = { q(1), r(2,3), r(4,), r(,5), r(,) };") ≡ reads (codes "int i[] = { 1, 23, 4, 5, };")
arguments = refl

literals : expands rescanning (codes "char c[2][6] = { str(hello), str() };") ≡ reads (codes "char c[2][6] = { \"hello\", \"\" };")
literals = refl

debugged : expands strings (codes "debug(1, 2);") ≡ reads (codes "printf(\"x\" \"1\" \"= %d, x\" \"2\" \"= %s\", x1, x2);")
debugged = refl

escapes : expands strings (codes "fputs(str(strncmp(\"abc\\0d\", \"abc\", '\\4') // this goes away" ++ 10 ∷ codes "== 0) str(: @\\n), s);") ≡ reads (codes "fputs(\"strncmp(\\\"abc\\\\0d\\\", \\\"abc\\\", '\\\\4') == 0\" \": @\\n\", s);")
escapes = refl

included : expands strings (codes "xstr(INCFILE(2).h)") ≡ reads (codes "\"vers2.h\"")
included = refl

glued : expands strings (codes "glue(HIGH, LOW); xglue(HIGH, LOW)") ≡ reads (codes "\"hello\"; \"hello\" \", world\"")
glued = refl

placemarkers : expands joining (codes "int j[] = { t(1,2,3), t(,4,5), t(6,,7), t(8,9,), t(10,,), t(,11,), t(,,12), t(,,) };") ≡ reads (codes "int j[] = { 123, 45, 67, 89, 10, 11, 12, };")
placemarkers = refl

flag : expands variadic (codes "debug(\"Flag\"); debug(\"X = %d\\n\", x);") ≡ reads (codes "fprintf(stderr, \"Flag\" ); fprintf(stderr, \"X = %d\\n\", x );")
flag = refl

list : expands variadic (codes "showlist(The first, second, and third items.);") ≡ reads (codes "puts( \"The first, second, and third items.\" );")
list = refl

report : expands variadic (codes "report(x>y, \"x is %d but y is %d\", x, y);") ≡ reads (codes "((x>y)?puts(\"x>y\"): printf(\"x is %d but y is %d\", x, y));")
report = refl

spaced_object : redefines (codes "OBJ_LIKE (1-1)") (codes "OBJ_LIKE /* white space */ (1-1) /* other */") ≡ true
spaced_object = refl

spaced_function : redefines (codes "FUN_LIKE(a) ( a )") (codes "FUN_LIKE( a )( /* note the white space */ \\" ++ 10 ∷ codes "a /* other stuff on this line" ++ 10 ∷ codes "*/ )") ≡ true
spaced_function = refl

other_tokens : redefines (codes "OBJ_LIKE (1-1)") (codes "OBJ_LIKE (0)") ≡ false
other_tokens = refl

other_space : redefines (codes "OBJ_LIKE (1-1)") (codes "OBJ_LIKE (1 - 1)") ≡ false
other_space = refl

other_use : redefines (codes "FUN_LIKE(a) ( a )") (codes "FUN_LIKE(b) ( a )") ≡ false
other_use = refl

other_parameter : redefines (codes "FUN_LIKE(a) ( a )") (codes "FUN_LIKE(b) ( b )") ≡ false
other_parameter = refl

pub worked : Worked
worked = record { nested = nested; literal = literal; rescanned = rescanned; behind = behind; arguments = arguments; literals = literals; debugged = debugged; escapes = escapes; included = included; glued = glued; placemarkers = placemarkers; flag = flag; list = list; report = report; spaced_object = spaced_object; spaced_function = spaced_function; other_tokens = other_tokens; other_space = other_space; other_use = other_use; other_parameter = other_parameter }
