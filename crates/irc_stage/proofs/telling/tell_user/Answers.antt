use Rattle.std.proofs.Common.{Some, None, ◌≡◌, refl, ◌∙◌, ap, append-nil, option_to_list, sym}
use Rattle.std.proofs.Common.{◌∷◌, [], if◌then◌else◌}
use Rattle.std.proofs.lemmas.Option.{none-some}
use Rattle.irc_names.specs.Tables.{row}
use Rattle.irc_room.specs.effect.Target.TheVariants.{User}
use Rattle.irc_stage.specs.Loops.Around.{machine_in}
use Rattle.irc_stage.specs.Loops.Listening.{conn_as}
use Rattle.irc_stage.specs.Lemmas.Outcomes.{on_ok}
use Rattle.irc_stage.proofs.EffectsShown.{put_to_one, said_heard, told_alone, told_on}
use Rattle.irc_stage.proofs.telling.tell_user.Goals as goal

pub returns-in_default : goal.returns-in_default
returns-in_default c =
    let machine = machine_in c.args.around in
    let by_nick = c.args.around.clients.now.by_nick in
    let well = c.own.ensures.well_formed in
    said_heard machine by_nick c.requires.lent.indexed well c.args.effect.now
    (λ target. target ≡ User c.args.nick.now) c.requires.said c.requires.lent.fit None
    (λ viewer conn sees at home. absurd (none-some conn (sym c.in_default.is ∙ c.number_of.ensures
    ∙ ap (row by_nick) (told_alone machine by_nick c.requires.lent.indexed well c.args.effect.now
    c.args.nick.now c.requires.said _ sees) ∙ at)))
    _ refl c.args.out.now.outs _ (sym (append-nil c.args.out.now.outs))

pub returns-then-write_named : goal.returns-then-write_named
returns-then-write_named c =
    let machine = machine_in c.args.around in
    let by_nick = c.args.around.clients.now.by_nick in
    let well = c.own.ensures.well_formed in
    let line = c.write_named.new.line.items in
    let conns = conn_as by_nick c.args.nick.now in
    on_ok c.put.result _ _
    (λ is. said_heard machine by_nick c.requires.lent.indexed well c.args.effect.now
    (λ target. target ≡ User c.args.nick.now) c.requires.said c.requires.lent.fit (Some line)
    (λ viewer conn sees at home.
    c.write_named.ensures c.requires.lent.named viewer (home ∙ sym c.requires.lent.own)
    ∙ ap (λ b. if b then Some line else None) c.if-write_named.true)
    conns (told_on machine by_nick c.requires.lent.indexed well c.args.effect.now c.args.nick.now
    c.requires.said c.requires.lent.fit.possible)
    c.args.out.now.outs _
    (put_to_one c.args.out.now c.put.new.self _ _ line conns is c.deref.ensures.0
    (ap option_to_list (sym c.number_of.ensures ∙ c.in-Some.is)
    ∙ ap (λ n. n ∷ []) (sym c.number.ensures))))
    c.put.ensures.ok

pub returns : goal.returns
returns c =
    let machine = machine_in c.args.around in
    let line = c.write_named.new.line.items in
    said_heard machine c.args.around.clients.now.by_nick c.requires.lent.indexed
    c.own.ensures.well_formed c.args.effect.now
    (λ target. target ≡ User c.args.nick.now) c.requires.said c.requires.lent.fit None
    (λ viewer conn sees at home.
    c.write_named.ensures c.requires.lent.named viewer (home ∙ sym c.requires.lent.own)
    ∙ ap (λ b. if b then Some line else None) c.if-write_named.false)
    _ refl c.args.out.now.outs _ (sym (append-nil c.args.out.now.outs))
