use Rattle.std.proofs.Common.{sym, ap, ◌∙◌, ◌++◌, ◌∷◌, []}
use Rattle.irc_names.specs.Fold.{key}
use Rattle.irc_names.specs.Tables.{row}
use Rattle.irc_batch.specs.Batches.{batch_of, end_of, line_to}
use Rattle.irc_stage.specs.declared.parts.ServerParts.{ServerParts}
use Rattle.irc_stage.specs.EffectTold.{client_ended}
use Rattle.irc_stage.specs.Loops.Parts.{served_at}
use Rattle.irc_stage.proofs.EndedClients.{ended_nobody, ended_one}
use Rattle.irc_stage.proofs.handling.Handling.end_client.Goals as goal

pub returns-in_default : goal.returns-in_default
returns-in_default c =
    sym c.self.view_is
    ∙ ended_nobody (served_at c.self.inside.parts.value c.self.inside.out.outs)
    c.self.inside.parts.value.clients.by_nick c.self.invariant.indexed c.args.nick.now
    c.args.text.now (ap (λ (parts : ServerParts). row parts.clients.by_nick (key c.args.nick.now))
    (sym c.deref.ensures) ∙ sym c.number_of.ensures ∙ c.in_default.is)
    ∙ ap (client_ended c.args.nick.now c.args.text.now) c.self.view_is

pub returns : goal.returns
returns c =
    c.take_out.ensures
    ∙ ended_one c.self.inside.parts.value c.self.invariant.indexed c.args.nick.now c.args.text.now
    c.in-Some.conn (ap (λ (parts : ServerParts). row parts.clients.by_nick (key c.args.nick.now))
    (sym c.deref.ensures) ∙ sym c.number_of.ensures ∙ c.in-Some.is) c.self.inside.out
    c.put.new.self c.close.new.self c.deref-2.result.now (c.deref-2.ensures.0 ∙ c.error.ensures)
    (c.in_ok-put.ensures.ok
    ∙ ap (λ n. batch_of (c.self.inside.out.outs ++ line_to n c.deref-2.result.now ∷ [])
    c.deref-2.result.now) c.number.ensures)
    (c.in_ok-close.ensures.ok
    ∙ ap (λ n. record c.put.new.self { outs = c.put.new.self.outs ++ end_of n ∷ [] })
    c.number-2.ensures)
    ∙ ap (client_ended c.args.nick.now c.args.text.now) c.self.view_is
