-- What a server knows of the network is what the world has of it.
use Rattle.std.proofs.Common.{count_by, sym, ◌∙◌, ap}
use Rattle.std.specs.FinMap.{values}
use Rattle.std.specs.Option.{option_map_or}
use Rattle.irc_names.specs.Tables.{tabulate}
use Rattle.irc_world.specs.World.{Setting, has_end, known_from, joined_place}
use Rattle.irc_routes.specs.About.{says_nothing}
use Rattle.irc_routes.specs.Place.{alone}
use Rattle.irc_follow.specs.AtRest.{PlaceIsWorlds}
use Rattle.irc_follow.proofs.LinksCounted.{links_counted}
use Rattle.irc_follow.specs.Lemmas.NamedRows.{names_of}
use Rattle.irc_follow.proofs.PlacesListed.{found_setting, servers_listed}

pub place_is_worlds : PlaceIsWorlds
place_is_worlds s links routes t fixed forest ends right among =
    let setting = found_setting s.settings t (fixed.listed t ∙ among) in
    let name = sym setting.named in
    (λ i. record {
      name = (right.named t among ∙ name) i;
      about = (right.about t among
          ∙ ap (λ o. option_map_or (λ (x : Setting). x.about) o says_nothing) setting.is) i;
      links = (links_counted s links routes t forest ends right among
          ∙ ap (λ n. count_by (has_end n) links) name) i;
      servers = (servers_listed s links routes t fixed forest ends right among
          ∙ ap (λ n. values (tabulate (names_of s.settings) (known_from s.settings links n)))
          name) i;
    })
    ∙ sym (ap
    (λ o. option_map_or (joined_place s.settings links) o (alone t says_nothing)) setting.is)
