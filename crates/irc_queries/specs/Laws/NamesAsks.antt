-- A NAMES only asks.
use Rattle.std.proofs.Common.{◌≡◌, ℕ, Option, Some, None, List, [], ◌∷◌, ◌++◌, filter, map, refl}
use Rattle.std.proofs.Common.{◌∙◌, ap}
use Rattle.std.proofs.Math.Path.{fun_ext}
use Rattle.std.specs.List.{flat_map}
use Rattle.std.specs.Option.{option_map}
use Rattle.irc_names.specs.Fold.{key}
use Rattle.irc_names.specs.Tables.{Table}
use Rattle.irc_users.specs.declared.user.User.{User}
use Rattle.irc_channels.specs.declared.channel.Channel.{Channel}
use Rattle.irc_room.specs.Room.{Room}
use Rattle.irc_acts.specs.AlikeChannels.{row_alike, listing_alike}
use Rattle.irc_acts.specs.AlikeRows.{filter_changed, flat_changed}
use Rattle.irc_acts.specs.Marks.{asterisk}
use Rattle.irc_acts.specs.OtherInvitations.{uninviting, AreAlike}
use Rattle.irc_acts.specs.Standing.{is_listed}
use Rattle.irc_acts.specs.Names.{names_of, known_names, end_of_names, one_names, names_steps}
use Rattle.irc_acts.specs.Laws.NamesLaw.{names_only_answers}
use Rattle.irc_acts.specs.CommaLists.{entries}
use Rattle.irc_queries.specs.Laws.OnlyAsks.{OnlyAsks}

module _ (room other : Room) (alike : AreAlike room other) where
  listed_aside : (me : User) (users : Table User) (channels : List Channel)
      → flat_map (names_of users me) (filter (is_listed me) (map uninviting channels))
      ≡ flat_map (names_of users me) (filter (is_listed me) channels)
  listed_aside me users channels =
      ap (flat_map (names_of users me))
      (filter_changed uninviting (is_listed me) (λ channel. refl) channels)
      ∙ flat_changed uninviting (names_of users me) (λ channel. refl)
      (filter (is_listed me) channels)

  known_names_aside : (me : User) (users : Table User) (found : Option Channel)
      → known_names users me found ≡ known_names users me (option_map uninviting found)
  known_names_aside me users None = refl
  known_names_aside me users (Some channel) = refl

  one_names_alike : (me : User) (name : List ℕ) → one_names room me name ≡ one_names other me name
  one_names_alike me name =
      ap (λ acts. acts ++ end_of_names name ∷ []) (row_alike (λ users. known_names users me)
      (known_names_aside me) room other alike (key name))

  names_alike : (me : User) (params : List (List ℕ))
      → names_steps room me params ≡ names_steps other me params
  unfolding names_steps
  names_alike me [] =
      ap (λ acts. acts ++ end_of_names (asterisk ∷ []) ∷ [])
      (listing_alike (λ users channels. flat_map (names_of users me)
      (filter (is_listed me) channels)) (listed_aside me) room other alike)
  names_alike me (list ∷ more) =
      ap (λ serve. flat_map serve (entries list)) (fun_ext (one_names_alike me))

pub names_only_asks : (params : List (List ℕ)) → OnlyAsks (λ me room. names_steps room me params)
names_only_asks params = record {
  answers = λ me room. names_only_answers room me params;
  alike = λ me room other alike. names_alike room other alike me params;
}
