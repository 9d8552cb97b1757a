use Rattle.irc_follow.specs.Lemmas.SidesFollowed.{said_deed_goes_on}
use Rattle.irc_follow.proofs.laws.said_deed_goes_on.Goals as goal

pub returns : goal.returns
returns c = said_deed_goes_on (record {
  of_effect = c.said_effect_goes_on.ensures;
  of_gain = c.said_gain_goes_on.ensures;
  of_loss = c.said_loss_goes_on.ensures;
  of_kill = c.said_kill_goes_on.ensures;
  of_members = c.said_members_go_on.ensures;
  of_modes = c.said_modes_go_on.ensures;
  of_topic = c.said_topic_goes_on.ensures;
})
