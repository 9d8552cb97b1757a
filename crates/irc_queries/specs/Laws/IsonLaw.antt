-- The steps of an ISON are answers, the same whoever is invited.
use Rattle.std.proofs.Common.{◌≡◌, ℕ, List, [], refl, ◌∷◌, option_to_list, ap}
use Rattle.std.specs.List.{flat_map, slice_split}
use Rattle.irc_names.specs.Fold.{key}
use Rattle.irc_names.specs.Tables.{Table, row}
use Rattle.irc_line.specs.Bytes.{is_space}
use Rattle.irc_users.specs.declared.user.User.{User}
use Rattle.irc_room.specs.Room.{Room}
use Rattle.irc_acts.specs.Acts.{effects_among}
use Rattle.irc_acts.specs.OtherInvitations.{AreAlike}
use Rattle.irc_queries.specs.Ison.{ison_steps, users_on}
use Rattle.irc_queries.specs.Laws.OnlyAsks.{OnlyAsks}

-- an ISON changes nothing and says nothing to others
abbrev pub IsonOnlyAnswers : Type 0
IsonOnlyAnswers =
    (room : Room) (params : List (List ℕ)) → effects_among (ison_steps room params) ≡ []

pub ison_only_answers : IsonOnlyAnswers
unfolding ison_steps
ison_only_answers room params = refl

module _ (room other : Room) (alike : AreAlike room other) where
  ison_alike : (params : List (List ℕ)) → ison_steps room params ≡ ison_steps other params
  unfolding ison_steps
  ison_alike params =
      ap (λ (users : Table User). users_on (flat_map (λ asked. flat_map (λ nick.
      option_to_list (row users (key nick))) (slice_split is_space asked)) params) ∷ [])
      alike.users

pub ison_only_asks : (params : List (List ℕ)) → OnlyAsks (λ me room. ison_steps room params)
ison_only_asks params = record {
  answers = λ me room. ison_only_answers room params;
  alike = λ me room other alike. ison_alike room other alike params;
}
