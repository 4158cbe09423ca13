-- What follows from spellings that lie one behind the other. Assumes nothing.
use Rattle.std.proofs.Common.{◌≡◌, ℕ, ◌+◌, ◌-◌, ◌≤◌, true, eqb, List, [], ◌∷◌, ◌++◌, map, length, take, drop, sym, refl, ap, ◌∙◌, arith, length-drop}
use Rattle.std.proofs.lemmas.List.{take-append-le, take-append-drop, drop-append-le, length-take-le, length_push, take_at, drop_at, take_all, map_push}
use Rattle.std.proofs.lemmas.Bool.{and_parts, and_from, eqb-true, eq-eqb}
use Rattle.token.specs.declared.record.Record.{Record}
use Rattle.token.specs.Packing.{packed}
use Rattle.token.specs.Limited.{record_token}
use Rattle.token.specs.Views.{spelled}

pub starts : (at : ℕ) (r : Record) (rs : List Record) (end : ℕ) → packed at (r ∷ rs) end ≡ true → r.spelling.start ≡ at
starts at r rs end h = eqb-true _ _ (and_parts (eqb r.spelling.start at) _ h).0

pub goes_on : (at : ℕ) (r : Record) (rs : List Record) (end : ℕ) → packed at (r ∷ rs) end ≡ true → packed (at + r.spelling.len) rs end ≡ true
goes_on at r rs end h = (and_parts (eqb r.spelling.start at) _ h).1

pub ends : (at : ℕ) (rs : List Record) (end : ℕ) → packed at rs end ≡ true → at ≤ end
ends at [] end h = omega (arith, eqb-true at end h)
ends at (r ∷ rs) end h = omega (arith, ends (at + r.spelling.len) rs end (goes_on at r rs end h))

-- one more record, which starts where the last one ended
pub packed-push : (at : ℕ) (rs : List Record) (end : ℕ) (r : Record) → packed at rs end ≡ true → r.spelling.start ≡ end → packed at (rs ++ r ∷ []) (end + r.spelling.len) ≡ true
packed-push at [] end r h e =
    let same = eqb-true at end h in and_from _ _ (eq-eqb _ _ (e ∙ sym same)) (eq-eqb _ _ (ap (λ n. n + r.spelling.len) same))
packed-push at (s ∷ rs) end r h e =
    and_from _ _ (eq-eqb _ _ (starts at s rs end h)) (packed-push (at + s.spelling.len) rs end r (goes_on at s rs end h) e)

-- a spelling within the text stays, whatever is added behind
spelling_stays : (text more : List ℕ) (start len : ℕ) → start + len ≤ length text → take len (drop start (text ++ more)) ≡ take len (drop start text)
spelling_stays text more start len h =
    let long : len ≤ length (drop start text) = simp length-drop (omega arith) in
    ap (take len) (drop-append-le start text more (omega arith)) ∙ take-append-le len (drop start text) more long

within : (at : ℕ) (r : Record) (rs : List Record) (end : ℕ) → packed at (r ∷ rs) end ≡ true → r.spelling.start + r.spelling.len ≤ end
within at r rs end h = omega (arith, starts at r rs end h, ends (at + r.spelling.len) rs end (goes_on at r rs end h))

pub tokens_stay : (text more : List ℕ) (at : ℕ) (rs : List Record) → packed at rs (length text) ≡ true → map (record_token (text ++ more)) rs ≡ map (record_token text) rs
tokens_stay text more at [] h = refl
tokens_stay text more at (r ∷ rs) h =
    let same = spelling_stays text more r.spelling.start r.spelling.len (within at r rs _ h) in
    (λ i. record { kind = r.kind; spelling = same i; line = r.line; marked = r.marked } ∷ tokens_stay text more (at + r.spelling.len) rs (goes_on at r rs _ h) i)

-- the spellings make up the text
pub spelled-packed : (text : List ℕ) (at : ℕ) (rs : List Record) → packed at rs (length text) ≡ true → at + spelled (map (record_token text) rs) ≡ length text
spelled-packed text at [] h = omega (arith, eqb-true at _ h)
spelled-packed text at (r ∷ rs) h =
    let long : r.spelling.len ≤ length (drop r.spelling.start text) = simp length-drop (omega (arith, within at r rs _ h)) in
    omega (arith, length-take-le r.spelling.len (drop r.spelling.start text) long, spelled-packed text (at + r.spelling.len) rs (goes_on at r rs _ h))

-- one more token, whose spelling is added to the text
pub tokens-push : (text more : List ℕ) (rs : List Record) (r : Record) → packed 0 rs (length text) ≡ true → r.spelling.start ≡ length text → r.spelling.len ≡ length more → map (record_token (text ++ more)) (rs ++ r ∷ []) ≡ map (record_token text) rs ++ record { kind = r.kind; spelling = more; line = r.line; marked = r.marked } ∷ []
tokens-push text more rs r h s e =
    let spelling : take r.spelling.len (drop r.spelling.start (text ++ more)) ≡ more = ap (take r.spelling.len) (drop_at text more r.spelling.start (sym s)) ∙ take_all r.spelling.len more (omega arith) in
    map_push (record_token (text ++ more)) rs r ∙ (λ i. tokens_stay text more 0 rs h i ++ record { kind = r.kind; spelling = spelling i; line = r.line; marked = r.marked } ∷ [])

-- without its last record: that one ends where the text does, and the others are packed up to its start
pub packed-pop : (at : ℕ) (rs : List Record) (r : Record) (end : ℕ) → packed at (rs ++ r ∷ []) end ≡ true → (packed at rs r.spelling.start ≡ true) × (r.spelling.start + r.spelling.len ≡ end)
packed-pop at [] r end h =
    let s = starts at r [] end h in (eq-eqb _ _ (sym s), omega (arith, s, eqb-true _ _ (goes_on at r [] end h)))
packed-pop at (s ∷ rs) r end h =
    let rest = packed-pop (at + s.spelling.len) rs r end (goes_on at s (rs ++ r ∷ []) end h) in
    (and_from _ _ (eq-eqb _ _ (starts at s (rs ++ r ∷ []) end h)) rest.0, rest.1)

-- tokens whose spellings end at or before n are the same in the first n bytes of the text
pub tokens-cut : (text : List ℕ) (at n : ℕ) (rs : List Record) → packed at rs n ≡ true → n ≤ length text → map (record_token (take n text)) rs ≡ map (record_token text) rs
tokens-cut text at n rs h le =
    let dense = ap (packed at rs) (length-take-le n text le) ∙ h in
    sym (tokens_stay (take n text) (drop n text) at rs dense) ∙ ap (λ t. map (record_token t) rs) (take-append-drop n text)

-- the last token and its spelling taken away
pub tokens-pop : (text : List ℕ) (rs : List Record) (r : Record) → packed 0 (rs ++ r ∷ []) (length text) ≡ true → map (record_token (take r.spelling.start text)) rs ≡ take (length (map (record_token text) (rs ++ r ∷ [])) - 1) (map (record_token text) (rs ++ r ∷ []))
tokens-pop text rs r h =
    let both = packed-pop 0 rs r _ h in
    let ts = map (record_token text) rs in
    let last = record_token text r in
    tokens-cut text 0 r.spelling.start rs both.0 (omega (arith, both.1)) ∙ sym (take_at ts (last ∷ []) _ (omega (arith, length_push ts last))) ∙ ap (λ xs. take (length xs - 1) xs) (sym (map_push (record_token text) rs r))
