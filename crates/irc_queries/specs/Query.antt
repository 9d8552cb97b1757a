-- Questions of many answers.
use Rattle.std.specs.Prelude.{ℕ, List}
use Rattle.irc_users.specs.declared.user.User.{User}
use Rattle.irc_room.specs.Room.{Room}
use Rattle.irc_routes.specs.Place.{Place}
use Rattle.irc_acts.specs.declared.act.Act.{Act}
use Rattle.irc_queries.specs.declared.query.Query.{Query}
use Rattle.irc_queries.specs.declared.query.Query.TheVariants as query
use Rattle.irc_queries.specs.List.{list_steps}
use Rattle.irc_queries.specs.Who.{who_steps}

-- what answers a query of a user, with these parameters
abbrev pub query_steps : Room → Place → User → List (List ℕ) → Query → List Act
query_steps room place me params query.List = list_steps room me params
query_steps room place me params query.Who = who_steps room place me params
