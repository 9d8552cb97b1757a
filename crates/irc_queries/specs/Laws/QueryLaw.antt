-- The steps that answer a query are answers.
use Rattle.std.proofs.Common.{◌≡◌, ℕ, List, []}
use Rattle.irc_users.specs.declared.user.User.{User}
use Rattle.irc_room.specs.Room.{Room}
use Rattle.irc_routes.specs.Place.{Place}
use Rattle.irc_acts.specs.Acts.{effects_among}
use Rattle.irc_queries.specs.declared.query.Query.{Query}
use Rattle.irc_queries.specs.declared.query.Query.TheVariants as query
use Rattle.irc_queries.specs.Query.{query_steps}
use Rattle.irc_queries.specs.Laws.ListLaw.{list_only_answers}
use Rattle.irc_queries.specs.Laws.WhoLaw.{who_only_answers}

-- a query changes nothing and says nothing to others
abbrev pub QueryOnlyAnswers : Type 0
QueryOnlyAnswers =
    (room : Room) (place : Place) (me : User) (params : List (List ℕ)) (asked : Query)
    → effects_among (query_steps room place me params asked) ≡ []

pub query_only_answers : QueryOnlyAnswers
query_only_answers room place me params query.List = list_only_answers room me params
query_only_answers room place me params query.Who = who_only_answers room place me params
