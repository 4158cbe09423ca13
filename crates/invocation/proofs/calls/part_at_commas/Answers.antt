use Rattle.std.proofs.Common.{◌≡◌, suc, ◌+◌, ◌-◌, [], ◌∷◌, ◌++◌, length, drop, vec_items, sym, ap, ◌∙◌, refl, arith}
use Rattle.std.specs.Iterator.Adapters.{enumerate_source, enumerate_count}
use Rattle.item.specs.Tables.{shown, referred_to}
use Rattle.invocation.specs.Fronts.{depth_behind}
use Rattle.invocation.proofs.Lists.{first_there, none_left}
use Rattle.invocation.proofs.Parting.{parts_first, parts_comma, parts_more, parts_end, parts_same}
use Rattle.invocation.proofs.Turning.{depth_behind_lem}
use Rattle.invocation.proofs.calls.part_at_commas.Goals as goal

pub loop-at-init : goal.loop-at-init
loop-at-init c =
    let xs = shown c.args.inside in
    let it = c.into_iter-at-iterator.result in
    let same = c.into_iter-at-iterator.ensures.into_iter_gives in
    let at : enumerate_count it ≡ 0 = ap enumerate_count same ∙ c.enumerate-at-items.ensures.count in
    let all : shown (enumerate_source it) ≡ xs = ap (λ i. shown (enumerate_source i)) same ∙ ap shown c.enumerate-at-items.ensures.source in
    (all ∙ ap (λ k. drop k xs) (sym at), omega arith, parts_first xs c.args.most (enumerate_count it) _ c.requires.none at, omega arith, omega arith, omega (arith, ap length c.requires.none), c.requires.room)

pub loop-at-preserved-then-is_parting : goal.loop-at-preserved-then-is_parting
loop-at-preserved-then-is_parting c =
    let xs = shown c.args.inside in
    let inv = c.loop-at.invariant in
    let steps = c.in-Some.ensures.steps in
    let at = enumerate_count c.loop-at.at-iterator in
    let here = first_there xs at (referred_to c.in-Some.item) _ (sym inv.0 ∙ steps.0) in
    let on : suc at ≡ enumerate_count c.next.new.self = omega arith in
    let spans = vec_items c.loop-at.extents in
    let pushed = c.push_reserved.ensures.items ∙ ap (λ s. spans ++ s ∷ []) (c.between.ensures ∙ ap (λ n. record { start = c.loop-at.start; len = n - c.loop-at.start }) steps.1) in
    let parts = parts_comma xs c.args.most spans _ c.loop-at.start c.loop-at.left c.loop-at.depth at (referred_to c.in-Some.item) here.0 c.if-is_parting.ensures pushed inv.2 in
    let left = here.2 ∙ ap (λ k. drop k xs) on in
    (left, omega arith, parts_same xs c.args.most _ _ _ _ _ _ _ _ (ap (λ n. n + 1) steps.1) refl steps.2 parts, omega arith, omega arith, omega arith, omega arith)

pub loop-at-preserved : goal.loop-at-preserved
loop-at-preserved c =
    let xs = shown c.args.inside in
    let inv = c.loop-at.invariant in
    let steps = c.in-Some.ensures.steps in
    let at = enumerate_count c.loop-at.at-iterator in
    let here = first_there xs at (referred_to c.in-Some.item) _ (sym inv.0 ∙ steps.0) in
    let on : suc at ≡ enumerate_count c.next.new.self = omega arith in
    let spans = vec_items c.loop-at.extents in
    let parts = parts_more xs c.args.most spans spans c.loop-at.start c.loop-at.left c.loop-at.depth at (referred_to c.in-Some.item) here.0 c.if-is_parting.ensures inv.3 inv.2 in
    let depth = c.depth_behind-depth.ensures ∙ ap (depth_behind c.loop-at.depth) c.bracket_of.ensures in
    let left = here.2 ∙ ap (λ k. drop k xs) on in
    (left, omega arith, parts_same xs c.args.most _ _ _ _ _ _ _ _ refl depth steps.2 parts, omega arith, omega (arith, depth_behind_lem c.loop-at.depth c.bracket_of.result), omega arith, inv.6)

pub returns-clause-parts : goal.returns-clause-parts
returns-clause-parts c =
    let xs = shown c.args.inside in
    let inv = c.loop-at.invariant in
    let at = enumerate_count c.loop-at.at-iterator in
    let spans = vec_items c.loop-at.extents in
    let over = none_left xs at (sym inv.0 ∙ c.in-None.ensures.steps.0.0) in
    let end : c.len.result ≡ at = omega arith in
    let pushed = c.push_reserved-2.ensures.items ∙ ap (λ s. spans ++ s ∷ []) (c.between-2.ensures ∙ ap (λ n. record { start = c.loop-at.start; len = n - c.loop-at.start }) end) in
    parts_end xs c.args.most spans _ c.loop-at.start c.loop-at.left c.loop-at.depth at over pushed inv.2
