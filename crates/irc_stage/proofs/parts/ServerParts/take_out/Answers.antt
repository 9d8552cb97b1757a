use Rattle.std.proofs.Common.{sym, ◌∙◌, ap}
use Rattle.irc_stage.specs.Loops.Parts.{departed}
use Rattle.irc_stage.proofs.Followed.{so_by, taken_out}
use Rattle.irc_stage.proofs.parts.ServerParts.take_out.Goals as goal

pub returns-clause-ready : goal.returns-clause-ready
returns-clause-ready c = record {
  own_is = c.requires.ready.own_is;
  sound = c.requires.ready.sound;
  indexed = c.take_out-2.ensures.indexed;
  heard = so_by _ _ _ _
      (c.take_out-2.ensures.by_nick
      ∙ ap (λ client. departed client c.args.self.now.clients.by_nick)
      (sym c.client_of-client.ensures))
      (taken_out c.args.self.now.room.room c.args.self.now.clients.by_nick
      c.args.self.now.listeners.lists c.take_out.new.self.lists c.requires.ready.heard
      _ c.take_out.ensures);
  branches = c.requires.ready.branches;
  met = c.requires.ready.met;
}
