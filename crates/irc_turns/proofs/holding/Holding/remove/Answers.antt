use Rattle.std.proofs.Common.{rules, not, nat_eq, ◌∙◌, ap}
use Rattle.std.proofs.lemmas.Fn.{filter_same}
use Rattle.irc_turns.specs.HeldBack.{held_without}
use Rattle.irc_turns.specs.declared.holding.Held.{Held}
use Rattle.irc_turns.proofs.holding.Holding.remove.Goals as goal

pub returns : goal.returns
returns c =
    filter_same _ (λ (held : Held). not (nat_eq held.who c.args.who)) _
    (λ x b f' k. search rules) _ _ c.retain.ensures.filtered
    ∙ ap (held_without c.args.who) c.self.view_is
