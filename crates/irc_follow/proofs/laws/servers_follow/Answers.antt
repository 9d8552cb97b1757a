use Rattle.irc_follow.specs.Lemmas.SidesFollowed.{servers_follow}
use Rattle.irc_follow.proofs.laws.servers_follow.Goals as goal

pub returns : goal.returns
returns c = servers_follow (record {
  fits = c.said_deed_fits.ensures;
  shows = c.said_deed_shows.ensures;
  goes_on = c.said_deed_goes_on.ensures;
  aside = c.aside_stays.ensures;
  passed = c.passed_by_stays.ensures;
})
