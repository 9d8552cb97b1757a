-- The steps of a PRIVMSG or a NOTICE are its user's own, what they carry can be sent, and they look
-- at no invitation.
use Rattle.std.proofs.Common.{◌≡◌, ℕ, Option, Some, None, List, [], ◌∷◌, refl, drop, sym, subst}
use Rattle.std.proofs.Common.{cond, ◌++◌, take, ap, inl}
use Rattle.std.specs.Prelude.{⊤}
use Rattle.std.specs.List.{AllByRecursion, flat_map}
use Rattle.std.proofs.Math.Path.{fun_ext}
use Rattle.std.specs.Option.{option_map}
use Rattle.irc_names.specs.Fold.{key}
use Rattle.irc_names.specs.Tables.{row, Table}
use Rattle.irc_line.specs.Carried.{IsCarried}
use Rattle.irc_users.specs.declared.user.User.{User}
use Rattle.irc_channels.specs.declared.channel.Channel.{Channel}
use Rattle.irc_room.specs.Room.{Room}
use Rattle.irc_room.specs.After.{after}
use Rattle.irc_room.specs.effect.Effect.{Effect}
use Rattle.irc_room.specs.Limits.{IsWithinLimits}
use Rattle.irc_room.specs.effect.Target.TheVariants as target
use Rattle.irc_routes.specs.declared.programs.Programs.{Programs}
use Rattle.irc_acts.specs.declared.act.Act.{Act}
use Rattle.irc_acts.specs.declared.act.Act.TheVariants.{Answer, Do, Raw}
use Rattle.irc_acts.specs.Own.{AreOwn}
use Rattle.irc_acts.specs.OwnLaws.{IsSaid, said_own}
use Rattle.irc_acts.specs.Sendable.{CarriesSendable, CarrySendable}
use Rattle.irc_acts.specs.AlikeChannels.{row_alike}
use Rattle.irc_acts.specs.CommaLists.{entries}
use Rattle.irc_acts.specs.OtherInvitations.{uninviting, AreAlike}
use Rattle.irc_acts.specs.Words.{names_channel}
use Rattle.irc_acts.specs.Own as own
use Rattle.irc_channel_commands.specs.Laws.Lawful.{CarryGiven, IsLawful}
use Rattle.irc_commands.specs.declared.say.Verb.{Verb}
use Rattle.irc_commands.specs.Say.{is_notice, said_text, say_steps, to_channel, to_user, to_one}
use Rattle.irc_commands.specs.Say.{too_many, unless_notice}
use Rattle.irc_commands.proofs.SayWalk.{IsSoWhereSaid, said_all}
use Rattle.irc_commands.proofs.SaidLines.{nick_is_short, channel_is_short, said_is_short}
use Rattle.irc_commands.specs.Limits.{max_targets}

texts_said : (me : User) (room : Room) (which : Verb) (words : List ℕ)
    → IsSoWhereSaid room me which words (IsSaid me room)
unfolding after
texts_said me room which words = record {
  answers = λ reply. tt;
  to_users = λ name other is. record {
    own = own.to_user name other (is_notice which)
        (said_text me which other.nick words) is;
    same = refl;
  };
  to_channels = λ name channel is. record {
    own = own.to_channel name channel (is_notice which)
        (said_text me which channel.name words) is;
    same = refl;
  };
}

say_own : (me : User) (room : Room) (programs : Programs) (which : Verb) (params : List (List ℕ))
    → AreOwn me room (say_steps room programs me which params)
say_own me room programs which params = said_own me room (say_steps room programs me which params)
    (said_all room programs me (IsSaid me room) (λ reply. tt) which params
    (λ targets words more given. texts_said me room which words))

-- ---- a text leaves the room as it is

record IsSent (room : Room) (effect : Effect) : Type 0 where
  carries : CarriesSendable room effect
  same : after room effect ≡ room

abbrev IsSentAct : Room → Act → Type 0
IsSentAct room (Do effect) = IsSent room effect
IsSentAct room act = ⊤

all_sent : (room : Room) (acts : List Act) → AllByRecursion (IsSentAct room) acts
    → CarrySendable room acts
all_sent room [] all = tt
all_sent room (Answer reply ∷ acts) all = all_sent room acts all.1
all_sent room (Raw line ∷ acts) all = all_sent room acts all.1
all_sent room (Do effect ∷ acts) all = record {
  now = all.0.carries;
  later = subst (λ r. CarrySendable r acts) (sym all.0.same) (all_sent room acts all.1);
}

texts_sent : (me : User) (room : Room) (which : Verb) (words : List ℕ)
    → IsWithinLimits room → row room.users (key me.nick) ≡ Some me → IsCarried words
    → IsSoWhereSaid room me which words (IsSentAct room)
unfolding after
texts_sent me room which words within mine carried =
    let my_limits = within.users (key me.nick) me mine in
    record {
      answers = λ reply. tt;
      to_users = λ name other is. record {
        carries = said_is_short room me mine my_limits which (target.User other.nick) words
            (nick_is_short other.nick (within.users (key name) other is).nick) carried;
        same = refl;
      };
      to_channels = λ name channel is. record {
        carries =
            said_is_short room me mine my_limits which (target.Channel channel.name) words
            (channel_is_short channel.name (within.channels (key name) channel is).name) carried;
        same = refl;
      };
    }

say_carries : (me : User) (room : Room) (programs : Programs) (which : Verb)
    (params : List (List ℕ)) → CarryGiven me room params (say_steps room programs me which params)
say_carries me room programs which params well within mine carried =
    all_sent room (say_steps room programs me which params)
    (said_all room programs me (IsSentAct room) (λ reply. tt) which params
    (λ targets words more given. let all = subst (AllByRecursion IsCarried) given carried in
    texts_sent me room which words within mine all.1.0))

-- ---- it looks at no invitation

channel_aside : (me : User) (which : Verb) (words name : List ℕ) (found : Option Channel)
    → to_channel me which name words found ≡ to_channel me which name words
    (option_map uninviting found)
channel_aside me which words name None = refl
channel_aside me which words name (Some channel) = refl

abbrev said_to : Programs → User → Verb → List ℕ → List ℕ → Table User → Option Channel → List Act
said_to programs me which words name users found =
    cond (names_channel name) (to_channel me which name words found)
    (to_user programs me which name words (row users (key name)))

one_alike : (room other : Room) → AreAlike room other → (programs : Programs) (me : User)
    (which : Verb) (words name : List ℕ)
    → to_one room programs me which words name ≡ to_one other programs me which words name
one_alike room other alike programs me which words name =
    row_alike (said_to programs me which words name)
    (λ users found. ap (λ acts. cond (names_channel name) acts
    (to_user programs me which name words (row users (key name))))
    (channel_aside me which words name found)) room other alike (key name)

say_alike : (room other : Room) → AreAlike room other → (programs : Programs) (me : User)
    (which : Verb) (params : List (List ℕ))
    → say_steps room programs me which params ≡ say_steps other programs me which params
unfolding say_steps
say_alike room other alike programs me which [] = refl
say_alike room other alike programs me which (targets ∷ []) = refl
say_alike room other alike programs me which (targets ∷ [] ∷ more) = refl
say_alike room other alike programs me which (targets ∷ (b ∷ bytes) ∷ more) =
    ap (λ serve. unless_notice which (flat_map serve (take max_targets (entries targets))
    ++ too_many (drop max_targets (entries targets))))
    (fun_ext (one_alike room other alike programs me which (b ∷ bytes)))

pub say_is_lawful : (programs : Programs) (which : Verb) (params : List (List ℕ))
    → IsLawful params (λ me room. say_steps room programs me which params)
say_is_lawful programs which params = record {
  own = λ me room. inl (say_own me room programs which params);
  carries = λ me room. say_carries me room programs which params;
  alike = λ me room other so. say_alike room other so.alike programs me which params;
}
