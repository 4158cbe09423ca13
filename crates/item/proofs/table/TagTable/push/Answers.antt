use Rattle.std.proofs.Common.{◌≡◌, true, is_ok, if◌then◌else◌, [], ◌∷◌, ◌++◌, sym, ap, ◌∙◌, rules}
use Rattle.std.proofs.ResultArms.{chosen}
use Rattle.item.specs.Tables.{held, referred_to}
use Rattle.item.proofs.Held.{room, held-push}
use Rattle.item.proofs.table.TagTable.push.Goals as goal

pub returns-then-is_ok-clause-room : goal.returns-then-is_ok-clause-room
returns-then-is_ok-clause-room g c = c.push-pushed.ensures.room ∙ room c.args.self.now (referred_to c.args.item)

pub returns-then-is_ok-clause-tokens : goal.returns-then-is_ok-clause-tokens
returns-then-is_ok-clause-tokens g c =
    let xs = held c.args.self.now in
    let yes : is_ok c.push-pushed.result ≡ true = search rules in
    held-push c.args.self.now (referred_to c.args.item) _ _ (chosen _ _ _ _ c.push-pushed.ensures.tokens yes) c.push_reserved.ensures.items ∙ ap (λ b. if b then xs ++ referred_to c.args.item ∷ [] else xs) (sym yes)

pub returns-else-is_ok-clause-room : goal.returns-else-is_ok-clause-room
returns-else-is_ok-clause-room g c = c.push-pushed.ensures.room ∙ room c.args.self.now (referred_to c.args.item)
