-- The steps of a LUSERS are answers, the same whoever is invited.
use Rattle.std.proofs.Common.{◌≡◌, ℕ, Bool, true, false, cond, [], ◌∷◌, ◌++◌, length, nat_eq, refl}
use Rattle.std.proofs.Common.{List, filter, sym, ◌∙◌, ap}
use Rattle.std.specs.FinMap.{entries, values}
use Rattle.std.proofs.lemmas.List.{length-map}
use Rattle.irc_names.specs.Tables.{Table}
use Rattle.irc_users.specs.declared.user.User.{User}
use Rattle.irc_users.specs.UserTable.{is_home}
use Rattle.irc_numerics.specs.declared.replies.Reply.{Reply}
use Rattle.irc_numerics.specs.declared.replies.Reply.TheVariants.{LuserChannels, LuserClient}
use Rattle.irc_numerics.specs.declared.replies.Reply.TheVariants.{LuserMe}
use Rattle.irc_room.specs.Room.{Room}
use Rattle.irc_routes.specs.Place.{Place}
use Rattle.irc_acts.specs.declared.act.Act.TheVariants.{Answer}
use Rattle.irc_acts.specs.Acts.{effects_among}
use Rattle.irc_acts.specs.declared.act.Act.{Act}
use Rattle.irc_acts.specs.AlikeChannels.{channels_alike}
use Rattle.irc_acts.specs.AlikeRows.{same_of_both}
use Rattle.irc_acts.specs.OtherInvitations.{uninviting, AreAlike}
use Rattle.irc_queries.specs.Lusers.{channels_formed, lusers_steps}
use Rattle.irc_queries.specs.Laws.OnlyAsks.{OnlyAsks}

-- a LUSERS changes nothing and says nothing to others
abbrev pub LusersOnlyAnswers : Type 0
LusersOnlyAnswers = (room : Room) (place : Place) → effects_among (lusers_steps room place) ≡ []

formed_answers : (channels : ℕ) (reply : Reply)
    → effects_among (channels_formed channels ++ Answer reply ∷ []) ≡ []
formed_answers channels reply = by_test (nat_eq channels 0)
  where
    by_test : (b : Bool)
        → effects_among (cond b [] (Answer (LuserChannels channels) ∷ []) ++ Answer reply ∷ []) ≡ []
    by_test true = refl
    by_test false = refl

pub lusers_only_answers : LusersOnlyAnswers
unfolding lusers_steps
lusers_only_answers room place = formed_answers (length (entries room.channels)) _

module _ (room other : Room) (alike : AreAlike room other) where
  as_many : length (entries room.channels) ≡ length (entries other.channels)
  as_many =
      sym (length-map (entries room.channels) (λ e. e.1))
      ∙ same_of_both uninviting length (λ channels. length-map channels uninviting)
      (values room.channels) (values other.channels) (channels_alike room other alike)
      ∙ length-map (entries other.channels) (λ e. e.1)

  abbrev lusers_told : Place → Table User → ℕ → List Act
  lusers_told place users channels =
      Answer (LuserClient (length (values users)) (length place.servers))
      ∷ channels_formed channels
      ++ Answer (LuserMe (length (filter (is_home place.name) (values users))) place.links) ∷ []

  lusers_alike : (place : Place) → lusers_steps room place ≡ lusers_steps other place
  unfolding lusers_steps
  lusers_alike place =
      ap (λ users. lusers_told place users (length (entries room.channels))) alike.users
      ∙ ap (lusers_told place other.users) as_many

pub lusers_only_asks : (place : Place) → OnlyAsks (λ me room. lusers_steps room place)
lusers_only_asks place = record {
  answers = λ me room. lusers_only_answers room place;
  alike = λ me room other alike. lusers_alike room other alike place;
}
