use Rattle.std.proofs.Common.{rules, not, nat_eq, ◌∙◌, ap, List}
use Rattle.std.proofs.lemmas.Fn.{filter_same}
use Rattle.irc_entrance.specs.Crowds.{open_without}
use Rattle.irc_entrance.specs.declared.crowd.Comer.{Comer}
use Rattle.irc_entrance.proofs.crowd.Crowd.forget.Goals as goal

pub returns : goal.returns
returns c =
    ap (λ (comers : List Comer). record { comers = comers; most = c.self.inside.most })
    (filter_same _ (λ comer. not (nat_eq comer.number c.args.number)) _
    (λ x b f' k. search rules) _ _ c.retain.ensures.filtered)
    ∙ ap (open_without c.args.number) c.self.view_is
