use Rattle.std.proofs.Common.{◌∙◌, ap, subst, sym}
use Rattle.irc_doorman.specs.declared.doorman.Doorman.{Doorman}
use Rattle.irc_doorman.specs.Doormen.{IsNewDoorman}
use Rattle.irc_engine.specs.Knowing.{HasNobody}
use Rattle.irc_hold.specs.declared.hold.Negotiations.{Negotiations}
use Rattle.irc_hold.specs.Holds.{IsNewHold}
use Rattle.irc_layer.specs.Layers.{server_of}
use Rattle.ircd.specs.Serving.{Inner}
use Rattle.ircd.proofs.front.front_of.Goals as goal

pub returns-clause-front : goal.returns-clause-front
returns-clause-front c = record {
  manner_is = c.new.ensures.manner;
  inner = c.new-hold.result;
  hold = subst (λ (some : Negotiations). IsNewHold c.args.layer some c.new-hold.result)
      c.negotiations.ensures c.new-hold.ensures;
  asks_is =
      subst (λ (doorman : Doorman Inner). IsNewDoorman c.new-hold.result c.args.speech.asks doorman)
      (sym c.new.ensures.machine) c.new-doorman.ensures;
}

pub returns-clause-nobody : goal.returns-clause-nobody
returns-clause-nobody c = subst HasNobody
    (sym (ap (λ (doorman : Doorman Inner). server_of doorman.machine.machine) c.new.ensures.machine
    ∙ ap (λ (hold : Inner). server_of hold.machine) c.new-doorman.ensures.machine_is
    ∙ ap server_of c.new-hold.ensures.machine_is)) c.requires.nobody
