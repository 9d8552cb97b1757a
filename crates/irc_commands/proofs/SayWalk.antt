-- What is so of each answer and of each text that is said is so of every step of a message.
use Rattle.std.proofs.Common.{◌≡◌, ℕ, Bool, Option, Some, None, List, [], ◌∷◌, ◌++◌, filter, take}
use Rattle.std.proofs.Common.{drop, refl, option_map, option_to_list}
use Rattle.std.specs.List.{AllByRecursion, flat_map}
use Rattle.irc_names.specs.Fold.{key}
use Rattle.irc_names.specs.Tables.{row}
use Rattle.irc_users.specs.declared.user.User.{User}
use Rattle.irc_channels.specs.declared.channel.Channel.{Channel}
use Rattle.irc_numerics.specs.declared.replies.Reply.{Reply}
use Rattle.irc_numerics.specs.declared.replies.Reply.TheVariants.{CannotSendToChan}
use Rattle.irc_room.specs.effect.Target.TheVariants as target
use Rattle.irc_room.specs.effect.Effect.TheVariants.{Say}
use Rattle.irc_room.specs.Room.{Room}
use Rattle.irc_routes.specs.declared.programs.Programs.{Programs}
use Rattle.irc_commands.specs.declared.TheConstants.{MAX_TARGETS}
use Rattle.irc_acts.specs.declared.act.Act.{Act}
use Rattle.irc_acts.specs.declared.act.Act.TheVariants.{Answer, Do}
use Rattle.irc_acts.specs.Acts.{bytes_kept}
use Rattle.irc_acts.specs.Away.{away_line, away_shown, away_told}
use Rattle.irc_acts.specs.ByTest.{by_test}
use Rattle.irc_acts.specs.CommaLists.{entries}
use Rattle.irc_acts.specs.Words.{names_channel}
use Rattle.irc_commands.specs.declared.say.Verb.{Verb}
use Rattle.irc_commands.specs.declared.say.Verb.TheVariants as verb
use Rattle.irc_commands.specs.Say.{is_notice, said_text, may_speak, say_text, to_channel, to_user}
use Rattle.irc_commands.specs.Say.{to_one, too_many, unless_notice, say_to, say_steps}

-- so it is of an answer, and of a text to a user or a channel that is there, as much of the words
-- as its line has room for
pub record IsSoWhereSaid (room : Room) (me : User) (which : Verb) (words : List ℕ)
    (P : Act → Type 0) : Type 0 where
  pub answers : (reply : Reply) → P (Answer reply)
  pub to_users : (name : List ℕ) (other : User) → row room.users (key name) ≡ Some other
      → P (Do (Say me.nick (is_notice which) (target.User other.nick)
      (bytes_kept (said_text me which other.nick words))))
  pub to_channels : (name : List ℕ) (channel : Channel)
      → row room.channels (key name) ≡ Some channel → P (Do (Say me.nick (is_notice which)
      (target.Channel channel.name) (bytes_kept (said_text me which channel.name words))))

pub all_appended : (P : Act → Type 0) (a b : List Act) → AllByRecursion P a → AllByRecursion P b
    → AllByRecursion P (a ++ b)
all_appended P [] b all more = more
all_appended P (x ∷ a) b all more = (all.0, all_appended P a b all.1 more)

all_kept : (P : Act → Type 0) (keep : Act → Bool) (acts : List Act) → AllByRecursion P acts
    → AllByRecursion P (filter keep acts)
all_kept P keep [] all = all
all_kept P keep (x ∷ acts) all =
    let rest = all_kept P keep acts all.1 in
    by_test (AllByRecursion P) (keep x) (x ∷ filter keep acts) (filter keep acts)
    (λ kept. (all.0, rest)) (λ dropped. rest)

pub all_flat : {E : Type 0} (P : Act → Type 0) (steps : E → List Act) (names : List E)
    → ((name : E) → AllByRecursion P (steps name)) → AllByRecursion P (flat_map steps names)
all_flat P steps [] each = tt
all_flat P steps (name ∷ names) each =
    all_appended P (steps name) (flat_map steps names) (each name) (all_flat P steps names each)

unless_all : (P : Act → Type 0) (which : Verb) (acts : List Act) → AllByRecursion P acts
    → AllByRecursion P (unless_notice which acts)
unless_all P verb.Notice acts all = all_kept P _ acts all
unless_all P verb.Privmsg acts all = all

channel_all : (room : Room) (me : User) (P : Act → Type 0) (which : Verb) (words : List ℕ)
    → IsSoWhereSaid room me which words P → (name : List ℕ) (found : Option Channel)
    → row room.channels (key name) ≡ found → AllByRecursion P (to_channel me which name words found)
channel_all room me P which words so name None is = (so.answers _, tt)
channel_all room me P which words so name (Some channel) is =
    by_test (AllByRecursion P) (may_speak me channel)
    (say_text me which (target.Channel channel.name) channel.name words)
    (Answer (CannotSendToChan channel.name) ∷ [])
    (λ may. (so.to_channels name channel is, tt)) (λ may_not. (so.answers _, tt))

away_all : (programs : Programs) (P : Act → Type 0) → ((reply : Reply) → P (Answer reply))
    → (user : User) → AllByRecursion P (away_told programs user)
away_all programs P answers user = by (away_shown programs user)
  where
    by : (text : Option (List ℕ))
        → AllByRecursion P (option_to_list (option_map (away_line user) text))
    by None = tt
    by (Some text) = (answers _, tt)

user_all : (room : Room) (programs : Programs) (me : User) (P : Act → Type 0) (which : Verb)
    (words : List ℕ) → IsSoWhereSaid room me which words P → (name : List ℕ) (found : Option User)
    → row room.users (key name) ≡ found
    → AllByRecursion P (to_user programs me which name words found)
user_all room programs me P which words so name None is = (so.answers _, tt)
user_all room programs me P which words so name (Some other) is =
    (so.to_users name other is, away_all programs P so.answers other)

one_all : (room : Room) (programs : Programs) (me : User) (P : Act → Type 0) (which : Verb)
    (words : List ℕ) → IsSoWhereSaid room me which words P → (name : List ℕ)
    → AllByRecursion P (to_one room programs me which words name)
one_all room programs me P which words so name =
    by_test (AllByRecursion P) (names_channel name)
    (to_channel me which name words (row room.channels (key name)))
    (to_user programs me which name words (row room.users (key name)))
    (λ is. channel_all room me P which words so name (row room.channels (key name)) refl)
    (λ is_not. user_all room programs me P which words so name (row room.users (key name)) refl)

too_many_all : (P : Act → Type 0) → ((reply : Reply) → P (Answer reply)) → (names : List (List ℕ))
    → AllByRecursion P (too_many names)
too_many_all P answers [] = tt
too_many_all P answers (name ∷ names) = (answers _, tt)

say_to_all : (room : Room) (programs : Programs) (me : User) (P : Act → Type 0) (which : Verb)
    (targets words : List ℕ) → IsSoWhereSaid room me which words P
    → AllByRecursion P (say_to room programs me which targets words)
say_to_all room programs me P which targets words so =
    all_appended P
    (flat_map (to_one room programs me which words) (take MAX_TARGETS (entries targets)))
    (too_many (drop MAX_TARGETS (entries targets)))
    (all_flat P (to_one room programs me which words) (take MAX_TARGETS (entries targets))
    (one_all room programs me P which words so))
    (too_many_all P so.answers (drop MAX_TARGETS (entries targets)))

one_answer : (P : Act → Type 0) → ((reply : Reply) → P (Answer reply))
    → (which : Verb) (reply : Reply) → AllByRecursion P (unless_notice which (Answer reply ∷ []))
one_answer P answers which reply = unless_all P which (Answer reply ∷ []) (answers reply, tt)

-- the words are the second parameter
pub said_all : (room : Room) (programs : Programs) (me : User) (P : Act → Type 0)
    → ((reply : Reply) → P (Answer reply)) → (which : Verb) (params : List (List ℕ))
    → ((targets words : List ℕ) (more : List (List ℕ))
    → params ≡ targets ∷ words ∷ more → IsSoWhereSaid room me which words P)
    → AllByRecursion P (say_steps room programs me which params)
unfolding say_steps
said_all room programs me P answers which [] so = one_answer P answers which _
said_all room programs me P answers which (targets ∷ []) so = one_answer P answers which _
said_all room programs me P answers which (targets ∷ [] ∷ more) so = one_answer P answers which _
said_all room programs me P answers which (targets ∷ (b ∷ bytes) ∷ more) so =
    unless_all P which (say_to room programs me which targets (b ∷ bytes))
    (say_to_all room programs me P which targets (b ∷ bytes) (so targets (b ∷ bytes) more refl))
