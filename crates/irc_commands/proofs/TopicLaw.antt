-- The step of a TOPIC is its user's own, what it carries can be sent, and it looks at no
-- invitation.
use Rattle.std.proofs.Common.{◌≡◌, ℕ, not, ◌&&◌, Option, Some, None, List, [], ◌∷◌, inl, refl, ap}
use Rattle.std.proofs.Common.{cond, subst}
use Rattle.std.specs.List.{AllByRecursion}
use Rattle.std.specs.Option.{option_map}
use Rattle.irc_names.specs.Fold.{key}
use Rattle.irc_names.specs.Tables.{Table, row}
use Rattle.irc_line.specs.Carried.{IsCarried}
use Rattle.irc_users.specs.declared.user.User.{User}
use Rattle.irc_channels.specs.declared.flags.Flags.{Flags}
use Rattle.irc_channels.specs.declared.channel.Channel.{Channel}
use Rattle.irc_channels.specs.Texts.{cut_words}
use Rattle.irc_numerics.specs.declared.replies.Reply.TheVariants.{NoSuchChannel, ChanOPrivsNeeded}
use Rattle.irc_room.specs.effect.By.TheVariants as by
use Rattle.irc_room.specs.effect.Effect.{Effect}
use Rattle.irc_room.specs.effect.Effect.TheVariants.{SetTopic}
use Rattle.irc_room.specs.Room.{Room}
use Rattle.irc_room.specs.InTurn.{EachInTurn}
use Rattle.irc_acts.specs.declared.act.Act.{Act}
use Rattle.irc_acts.specs.declared.act.Act.TheVariants.{Answer, Do}
use Rattle.irc_acts.specs.Acts.{client_words, effects_among}
use Rattle.irc_acts.specs.AlikeChannels.{row_alike}
use Rattle.irc_acts.specs.ByTest.{by_test}
use Rattle.irc_acts.specs.CarriedWords.{cut_carried}
use Rattle.irc_acts.specs.OtherInvitations.{uninviting, AreAlike}
use Rattle.irc_acts.specs.Own as own
use Rattle.irc_acts.specs.Own.{IsOwn}
use Rattle.irc_acts.specs.Sendable.{CarriesSendable}
use Rattle.irc_acts.specs.Standing.{is_known}
use Rattle.irc_channel_commands.specs.Laws.Lawful.{IsLawful}
use Rattle.irc_commands.specs.Topic.{topic_told, topic_set, topic_known, topic_of, topic_steps}

-- so it is where the channel was found under the name, and the text is the first word behind it
record IsSoOfTopics (Q : Room → Effect → Type 0) (me : User) (room : Room) (name : List ℕ)
    (more : List (List ℕ)) : Type 0 where
  sets_it : (channel : Channel) (text : List ℕ) (rest : List (List ℕ))
      → row room.channels (key name) ≡ Some channel → more ≡ text ∷ rest
      → Q room (SetTopic (by.User me.nick) channel.name (cut_words text))

module _ (Q : Room → Effect → Type 0) (me : User) (room : Room) (name : List ℕ)
    (more : List (List ℕ)) (so : IsSoOfTopics Q me room name more) where
  abbrev IsSoStep : Act → Type 0
  IsSoStep act = EachInTurn Q room (effects_among (act ∷ []))

  told_so : (channel topic : List ℕ) → IsSoStep (topic_told channel topic)
  told_so channel [] = tt
  told_so channel (b ∷ bytes) = tt

  set_so : (channel : Channel) → row room.channels (key name) ≡ Some channel
      → (text : List ℕ) (rest : List (List ℕ)) → more ≡ text ∷ rest
      → (flags : Option Flags) → IsSoStep (topic_set me channel text flags)
  set_so channel is text rest given None = tt
  set_so channel is text rest given (Some flags) =
      by_test IsSoStep (channel.modes.topic_locked && not flags.op)
      (Answer (ChanOPrivsNeeded channel.name))
      (Do (SetTopic (by.User me.nick) channel.name (cut_words text)))
      (λ locked. tt) (λ free. record { now = so.sets_it channel text rest is given; later = tt })

  known_so : (channel : Channel) → row room.channels (key name) ≡ Some channel
      → (words : List (List ℕ)) → more ≡ words → IsSoStep (topic_known me channel words)
  known_so channel is [] given = told_so channel.name channel.topic
  known_so channel is (text ∷ rest) given =
      set_so channel is text rest given (row channel.members (key me.nick))

  found_so : (found : Option Channel) → row room.channels (key name) ≡ found
      → IsSoStep (topic_of me name more found)
  found_so None is = tt
  found_so (Some channel) is =
      by_test IsSoStep (is_known me channel) (topic_known me channel more)
      (Answer (NoSuchChannel (client_words name)))
      (λ known. known_so channel is more refl) (λ secret. tt)

  topic_so : EachInTurn Q room (effects_among (topic_steps room me name more))
  unfolding topic_steps
  topic_so = found_so (row room.channels (key name)) refl

-- ---- it looks at no invitation

set_aside : (me : User) (channel : Channel) (text : List ℕ) (flags : Option Flags)
    → topic_set me channel text flags ≡ topic_set me (uninviting channel) text flags
set_aside me channel text None = refl
set_aside me channel text (Some flags) = refl

known_aside : (me : User) (channel : Channel) (more : List (List ℕ))
    → topic_known me channel more ≡ topic_known me (uninviting channel) more
known_aside me channel [] = refl
known_aside me channel (text ∷ more) = set_aside me channel text (row channel.members (key me.nick))

topic_aside : (me : User) (name : List ℕ) (more : List (List ℕ))
    (users : Table User) (found : Option Channel)
    → topic_of me name more found ≡ topic_of me name more (option_map uninviting found)
topic_aside me name more users None = refl
topic_aside me name more users (Some channel) =
    ap (λ act. cond (is_known me channel) act (Answer (NoSuchChannel (client_words name))))
    (known_aside me channel more)

topic_alike : (room other : Room) → AreAlike room other → (me : User) (name : List ℕ)
    (more : List (List ℕ)) → topic_steps room me name more ≡ topic_steps other me name more
unfolding topic_steps
topic_alike room other alike me name more =
    ap (λ act. act ∷ []) (row_alike (λ users. topic_of me name more)
    (topic_aside me name more) room other alike (key name))

pub topic_is_lawful : (name : List ℕ) (more : List (List ℕ))
    → IsLawful more (λ me room. topic_steps room me name more)
topic_is_lawful name more = record {
  own = λ me room. inl (topic_so (IsOwn me) me room name more (record {
    sets_it = λ channel text rest is given. own.sets_topic name (cut_words text) channel is;
  }));
  carries = λ me room well within mine carried.
      topic_so CarriesSendable me room name more (record {
        sets_it = λ channel text rest is given.
            cut_carried text (subst (AllByRecursion IsCarried) given carried).0;
      });
  alike = λ me room other so. topic_alike room other so.alike me name more;
}
