use Rattle.std.proofs.Common.{Some, None, ◌++◌, ◌∙◌, ap, append-nil, refl, sym, if◌then◌else◌}
use Rattle.irc_stage.specs.Loops.Hearing.{hearers, told_to}
use Rattle.irc_stage.specs.Loops.Parts.{clients_of}
use Rattle.irc_stage.specs.Lemmas.Outcomes.{on_ok}
use Rattle.irc_stage.proofs.EffectsShown.{put_to_each, shown_to_hearers}
use Rattle.irc_stage.proofs.Followed.{brings_none}
use Rattle.irc_stage.proofs.listeners.Listeners.show_line.Goals as goal

pub follow-requires-clause-apart : goal.follow-requires-clause-apart
follow-requires-clause-apart c =
    brings_none (clients_of c.args.around.clients.now) c.args.around.clients.now.by_nick
    c.requires.lent.indexed c.args.effect.now c.requires.lent.fit.apart

pub show-requires-clause-apart : goal.show-requires-clause-apart
show-requires-clause-apart c =
    brings_none (clients_of c.args.around.clients.now) c.args.around.clients.now.by_nick
    c.requires.lent.indexed c.args.effect.now c.requires.lent.fit.apart

pub returns-then-not-write-clause-shown : goal.returns-then-not-write-clause-shown
returns-then-not-write-clause-shown c =
    let line = c.write.new.line.items in
    on_ok c.follow.result _ _
    (λ is. sym (append-nil c.args.out.now.outs)
    ∙ ap (λ l. c.args.out.now.outs ++ l)
    (sym (shown_to_hearers c.args.around c.args.effect.now c.requires.lent.indexed
    c.own.ensures.well_formed c.requires.lent.own c.requires.lent.fit None
    (λ viewer home. c.write.ensures c.requires.lent.named viewer home
    ∙ ap (λ b. if b then Some line else None) c.if-not-write.true))))
    c.follow.ensures

pub returns-clause-shown : goal.returns-clause-shown
returns-clause-shown c =
    let line = c.write.new.line.items in
    let conns =
    hearers c.args.around.room.now.room c.args.around.clients.now.by_nick c.args.effect.now in
    on_ok c.show.result _ _
    (λ is. put_to_each c.args.out.now c.show.new.out line conns is
    ∙ ap (λ l. c.args.out.now.outs ++ l)
    (sym (shown_to_hearers c.args.around c.args.effect.now c.requires.lent.indexed
    c.own.ensures.well_formed c.requires.lent.own c.requires.lent.fit (Some line)
    (λ viewer home. c.write.ensures c.requires.lent.named viewer home
    ∙ ap (λ b. if b then Some line else None) c.if-not-write.false))))
    c.show.ensures.shown

pub returns-then-not-write-clause-unheard : goal.returns-then-not-write-clause-unheard
returns-then-not-write-clause-unheard c =
    on_ok c.follow.result _ _ (λ is none. refl) c.follow.ensures

pub returns-clause-unheard : goal.returns-clause-unheard
returns-clause-unheard c =
    on_ok c.show.result _ _
    (λ is none. is ∙ ap (λ conns. told_to c.write.new.line.items conns c.args.out.now) none)
    c.show.ensures.shown
