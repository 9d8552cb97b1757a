use Rattle.irc_stage.proofs.Followed.{seated, so_by}
use Rattle.irc_stage.proofs.parts.ServerParts.seat.Goals as goal

pub returns-clause-ready : goal.returns-clause-ready
returns-clause-ready c = record {
  own_is = c.requires.ready.own_is;
  sound = c.requires.ready.sound;
  indexed = c.in_ok-seat-2.ensures.indexed;
  heard = so_by _ _ _ _ c.in_ok-seat-2.ensures.by_nick
      (seated c.args.self.now.room.room c.args.self.now.clients.by_nick
      c.args.self.now.listeners.lists c.seat.new.self.lists c.requires.ready.heard
      c.args.conn c.args.client c.in_ok-seat.ensures);
  branches = c.requires.ready.branches;
  met = c.requires.ready.met;
}
