use Rattle.std.proofs.Common.{◌∙◌, Some, ap, false, refl, sym, true}
use Rattle.std.specs.Option.{option_map}
use Rattle.irc_doorman.specs.declared.guest.Guest.{Guest}
use Rattle.irc_engine.specs.Lemmas.Stills.{nobody_goes}
use Rattle.irc_line.specs.Messages.{text}
use Rattle.irc_doorman.specs.Doormen.{guest_at, is_there, is_unknown, state_with}
use Rattle.irc_doorman.specs.Texts.{ping}
use Rattle.irc_doorman.proofs.Asked.{asked, ended, gone, known_by, put_said, still_said}
use Rattle.irc_doorman.proofs.Asked.{unknown_by}
use Rattle.irc_doorman.proofs.doorman.Doorman.ask.Goals as goal

pub returns-then-not-has_client-clause-asked : goal.returns-then-not-has_client-clause-asked
returns-then-not-has_client-clause-asked g c =
    gone g.M.Machine.server_of g.M.Machine.handles c.args.self.now.asks c.args.moment c.args.conn
    (state_with c.args.self.now c.args.out.now.outs) (guest_at c.forget.new.guests)
    (ap (λ s. is_there s c.args.conn) (sym c.server.ensures) ∙ sym c.has_client.ensures
    ∙ c.if-not-has_client.true) c.forget.ensures

pub returns-then-not-has_client-clause-connected :
    goal.returns-then-not-has_client-clause-connected
returns-then-not-has_client-clause-connected g c =
    nobody_goes (g.M.Machine.server_of c.args.self.now.machine) c.args.out.now.outs

pub returns-in-Some-true-clause-asked : goal.returns-in-Some-true-clause-asked
returns-in-Some-true-clause-asked g c =
    ended g.M.Machine.server_of g.M.Machine.handles c.args.self.now.asks c.args.moment c.args.conn
    (state_with c.args.self.now c.args.out.now.outs) c.end.result
    (state_with c.end.new.self c.end.new.out.outs)
    (guest_at c.args.self.now.guests c.args.conn)
    (ap (λ s. is_there s c.args.conn) (sym c.server.ensures) ∙ sym c.has_client.ensures
    ∙ c.if-not-has_client.false) refl
    (known_by (guest_at c.args.self.now.guests c.args.conn) c.is_asked.result true
    (c.is_asked.ensures ∙ ap (option_map (λ (one : Guest). one.is_asked)) c.get.ensures.value)
    (c.in-Some-true.is ∙ ap Some c.in-Some-true.field-0-test)) c.end.ensures.ended
    c.end.ensures.guests

pub returns-in-Some-false-clause-asked : goal.returns-in-Some-false-clause-asked
returns-in-Some-false-clause-asked g c =
    asked g.M.Machine.server_of g.M.Machine.handles c.args.self.now.asks c.args.moment c.args.conn
    (state_with c.args.self.now c.args.out.now.outs) c.put.result
    (guest_at c.mark_asked.new.guests) c.put.new.self.outs
    (guest_at c.args.self.now.guests c.args.conn)
    (ap (λ s. is_there s c.args.conn) (sym c.server.ensures) ∙ sym c.has_client.ensures
    ∙ c.if-not-has_client.false) refl
    (known_by (guest_at c.args.self.now.guests c.args.conn) c.is_asked.result false
    (c.is_asked.ensures ∙ ap (option_map (λ (one : Guest). one.is_asked)) c.get.ensures.value)
    (c.in-Some-false.is ∙ ap Some c.in-Some-false.field-0-test)) c.mark_asked.ensures
    (put_said c.put.result c.put.new.self c.args.out.now c.args.conn c.as_slice.result.now
    (text (ping c.args.self.now.asks.server)) (c.as_slice.ensures.value ∙ c.ping_text.ensures)
    c.put.ensures.ok)

pub returns-in-Some-false-clause-connected : goal.returns-in-Some-false-clause-connected
returns-in-Some-false-clause-connected g c =
    still_said c.put.result (g.M.Machine.server_of c.args.self.now.machine) c.args.out.now.outs
    c.put.new.self.outs c.args.conn (text (ping c.args.self.now.asks.server))
    (put_said c.put.result c.put.new.self c.args.out.now c.args.conn c.as_slice.result.now
    (text (ping c.args.self.now.asks.server)) (c.as_slice.ensures.value ∙ c.ping_text.ensures)
    c.put.ensures.ok)

pub returns-in-None-clause-asked : goal.returns-in-None-clause-asked
returns-in-None-clause-asked g c = is_unknown
    (unknown_by (guest_at c.args.self.now.guests c.args.conn) c.is_asked.result
    (c.is_asked.ensures ∙ ap (option_map (λ (one : Guest). one.is_asked)) c.get.ensures.value)
    c.in-None.is)

pub returns-in-None-clause-connected : goal.returns-in-None-clause-connected
returns-in-None-clause-connected g c =
    nobody_goes (g.M.Machine.server_of c.args.self.now.machine) c.args.out.now.outs
