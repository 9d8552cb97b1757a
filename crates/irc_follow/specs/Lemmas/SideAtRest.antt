-- The side of a server is sound while nothing is under way.
use Rattle.std.proofs.Common.{◌≡◌, true, not, ◌&&◌, Some, None, List, sym, ◌∙◌, ap, subst}
use Rattle.std.proofs.Common.{if◌then◌else◌}
use Rattle.irc_room.specs.Readers.{home_under}
use Rattle.irc_relay.specs.Distances.{EndsAreAmong, IsAmong}
use Rattle.irc_relay.specs.Links.{Name, same, Link, part, joined, toward, AreJoined, IsForest}
use Rattle.irc_relay.specs.Lemmas.TellingNames.{Telling, alike, unlike, tell}
use Rattle.irc_relay.specs.Lemmas.NextHops.{next_hop}
use Rattle.irc_relay.specs.Lemmas.LinkTakenOut.{tests_tell}
use Rattle.irc_routes.specs.About.{About}
use Rattle.irc_world.specs.ClientsUsers.{HaveOneHome}
use Rattle.irc_world.specs.World.{World, home_in}
use Rattle.irc_world.specs.WorldHolds.{IsWorld}
use Rattle.irc_follow.specs.Tree.{shape_in}
use Rattle.irc_follow.specs.SideState.{ItemSetting, info_in, IsItemSetting}
use Rattle.irc_follow.specs.AtRest.{SideAtRestIsSound}

pub joined_so : (links : List Link) (x t : Name) → joined links x t ≡ true → AreJoined links x t
joined_so links x t so = (tests_tell links x t x).1.0 so

-- links of the world join servers that there are
pub ends_there : (s : ItemSetting) (world : World) → IsItemSetting s → IsWorld s.settings world
    → EndsAreAmong s.names world.links
ends_there s world fixed holds t u linked = sym (fixed.listed t) ∙ holds.sound.ends_known t u linked

-- who is joined to a server is one
pub joined_among : (names : List Name) (links : List Link) (x server : Name) → IsForest links
    → EndsAreAmong names links → IsAmong names server → AreJoined links x server → IsAmong names x
joined_among names links x server forest ends among joined_there = by (tell x server)
  where
    by : Telling x server → IsAmong names x
    by (alike _ e) = subst (IsAmong names) (sym e) among
    by (unlike _ two) =
        ends x (toward links x server) (next_hop links x server forest joined_there two).linked

-- of two servers that are joined, others are joined to both or to neither
pub joined_alike : (links : List Link) (x t server : Name) → AreJoined links t server
    → joined links x t ≡ joined links x server
joined_alike links x t server together = ap (λ p. same (part links x) p) together

pub side_at_rest_is_sound : SideAtRestIsSound
side_at_rest_is_sound s world routes server fixed of holds right among = record {
  tree = record {
    forest = holds.sound.forest;
    ends = ends;
    here_known = λ t here. here;
    known_among = there;
    joined = λ t x here known. joined_so world.links t server here
        ∙ sym (joined_so world.links x server known);
    rows = λ t x here. right.rows t x (there t here)
        ∙ ap (λ b. if b && not (same x t)
        then Some (shape_in s.names (info_in s.settings) world.links t x) else None)
        (joined_alike world.links x t server (joined_so world.links t server here));
    numbered = right.numbered;
    named = right.named;
    told_away = λ t among.
        ap (λ (about : About). about.tells_away) (right.about t among) ∙ fixed.told_away t among;
    low = λ t x r here. right.low t x r (there t here);
    tokens = λ t u x r here. right.tokens t u x r (there u here);
  };
  parents = of.parents;
  well = holds.sound.well_formed server;
  within = (holds.within server).room;
  at_known = holds.homes_joined server;
  registered = λ client fold is. subst (λ homes. HaveOneHome (home_in homes)
      (home_under (world.hall server).room) client fold) (sym of.homes)
      ((holds.clients_users server).registered_is_user client fold is);
}
  where
    ends : EndsAreAmong s.names world.links
    ends = ends_there s world fixed holds

    there : (x : Name) → joined world.links x server ≡ true → IsAmong s.names x
    there x known = joined_among s.names world.links x server holds.sound.forest ends among
        (joined_so world.links x server known)
