use Rattle.std.proofs.Common.{◌∙◌, sym, subst, rules}
use Rattle.irc_room.specs.Applying.{ServerRoom}
use Rattle.irc_stage.specs.Loops.Listening.{AreSo}
use Rattle.irc_stage.specs.Loops.Parts.{numbered}
use Rattle.irc_stage.proofs.LinkEnds.{none_met}
use Rattle.irc_stage.proofs.Conns.{nobody_heard}
use Rattle.irc_stage.proofs.parts.ServerParts.new.Goals as goal

pub returns-clause-ready : goal.returns-clause-ready
returns-clause-ready c = record {
  own_is = search rules;
  sound = search rules;
  indexed = c.no_clients.ensures.indexed;
  heard = subst
      (λ (kept : ServerRoom). AreSo c.new-2.result.lists kept.room c.no_clients.result.by_nick)
      (sym c.new-room.ensures)
      (nobody_heard c.new-2.result.lists c.no_clients.result.by_nick c.new-2.ensures);
  branches = λ channel is. cc (sym c.new-3.ensures ∙ is);
  met = none_met (numbered c.new.result) c.args.routes c.requires.alone;
}
