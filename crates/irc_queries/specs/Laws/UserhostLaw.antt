-- The steps of a USERHOST are answers, the same whoever is invited.
use Rattle.std.proofs.Common.{◌≡◌, ℕ, List, [], ◌∷◌, refl, take, option_to_list, ap}
use Rattle.std.specs.List.{flat_map}
use Rattle.irc_names.specs.Fold.{key}
use Rattle.irc_names.specs.Tables.{Table, row}
use Rattle.irc_users.specs.declared.user.User.{User}
use Rattle.irc_room.specs.Room.{Room}
use Rattle.irc_routes.specs.Place.{Place}
use Rattle.irc_acts.specs.Acts.{effects_among}
use Rattle.irc_acts.specs.OtherInvitations.{AreAlike}
use Rattle.irc_queries.specs.Limits.{max_hosts_asked}
use Rattle.irc_queries.specs.Userhost.{hosts_told, userhost_steps, words_of_all}
use Rattle.irc_queries.specs.Laws.OnlyAsks.{OnlyAsks}

-- a USERHOST changes nothing and says nothing to others
abbrev pub UserhostOnlyAnswers : Type 0
UserhostOnlyAnswers = (room : Room) (place : Place) (params : List (List ℕ))
    → effects_among (userhost_steps room place params) ≡ []

pub userhost_only_answers : UserhostOnlyAnswers
unfolding userhost_steps
userhost_only_answers room place params = refl

module _ (room other : Room) (alike : AreAlike room other) where
  userhost_alike : (place : Place) (params : List (List ℕ))
      → userhost_steps room place params ≡ userhost_steps other place params
  unfolding userhost_steps
  userhost_alike place params =
      ap (λ (users : Table User). hosts_told place.about.programs (flat_map (λ nick.
      option_to_list (row users (key nick))) (take max_hosts_asked (words_of_all params))) ∷ [])
      alike.users

pub userhost_only_asks : (place : Place) (params : List (List ℕ))
    → OnlyAsks (λ me room. userhost_steps room place params)
userhost_only_asks place params = record {
  answers = λ me room. userhost_only_answers room place params;
  alike = λ me room other alike. userhost_alike room other alike place params;
}
