-- The examples, each by computing what the lists say.
use Rattle.std.proofs.Common.{ℕ, true, false, not, ◌||◌, Some, None, List, [], ◌∷◌, ◌++◌, refl, ap}
use Rattle.std.proofs.Common.{is_some, codes}
use Rattle.irc_names.specs.Fold.{fold, fold_table}
use Rattle.irc_names.specs.Names.{is_ban_mask}
use Rattle.irc_line.specs.Bytes.{cut}
use Rattle.irc_line.specs.Messages.{line_text}
use Rattle.irc_modes.specs.declared.modes.ModeChange.{ModeChange}
use Rattle.irc_modes.specs.declared.modes.ModeLetter.TheVariants as letter
use Rattle.irc_effects.specs.declared.effect.By.TheVariants as by
use Rattle.irc_effects.specs.declared.effect.Target.TheVariants as target
use Rattle.irc_effects.specs.declared.effect.Effect.TheVariants.{AddUser, Rename, Quit, Join, Part}
use Rattle.irc_effects.specs.declared.effect.Effect.TheVariants.{Kick, ChangeModes, SetTopic, Say}
use Rattle.irc_effects.specs.declared.effect.Effect.TheVariants.{Invite}
use Rattle.irc_effects.specs.Examples.{comes, somebody, two_members, set, clear, viewers_of}
use Rattle.irc_effects.specs.Examples.{NickTakenByFold, OwnSpellingIsFree, RenameCarriesMembership}
use Rattle.irc_effects.specs.Examples.{KickShownToKicked, InvitationGoneWithChannel}
use Rattle.irc_effects.specs.Examples.{QuitHiddenFromDoer, SayShownToOthers}
use Rattle.irc_effects.specs.Examples.{SecondMemberIsNoOperator, SecretStaysSecret, ChangesWritten}
use Rattle.irc_effects.specs.Examples.{BanStandsOnce, ChannelMadeAnew, GreaterSpellingStays}
use Rattle.irc_effects.specs.Examples.{PartWrittenAsStored, JoinOnceMoreShowsNothing}
use Rattle.irc_effects.specs.Examples.{EachSeesItsOwnServer, RenameShownOnce, JoinShownToAll}
use Rattle.irc_effects.specs.Examples.{InviteToNoChannelIsToldOnly}
use Rattle.irc_effects.specs.Lemmas.ExampleRooms.{user_is, member_is, flags_is, invited_is, part_is}
use Rattle.irc_effects.specs.Lemmas.ExampleRooms.{channel_is, titled_part_is, seen_is}

pub nick_taken_by_fold : NickTakenByFold
unfolding fold fold_table
nick_taken_by_fold = ap not (user_is (comes (codes "foo[") ∷ []) (codes "FOO{"))

pub own_spelling_is_free : OwnSpellingIsFree
unfolding fold fold_table
own_spelling_is_free = ap (λ b. not b || true) (user_is (comes (codes "foo[") ∷ []) (codes "FOO{"))

pub rename_carries_membership : RenameCarriesMembership
unfolding fold fold_table
rename_carries_membership =
    let effects = two_members ++ Rename (codes "FOO") (codes "qux") ∷ [] in (
      flags_is effects (codes "qux") (codes "#rust"),
      member_is effects (codes "foo") (codes "#rust"),
      user_is effects (codes "foo"),
    )

pub kick_shown_to_kicked : KickShownToKicked
unfolding fold fold_table cut line_text
kick_shown_to_kicked = seen_is two_members (Kick (codes "foo") (codes "#rust") (codes "bar")
    (codes "out")) (record { users = tt; channels = tt })

pub invitation_gone_with_channel : InvitationGoneWithChannel
unfolding fold fold_table
invitation_gone_with_channel =
    let invited = comes (codes "foo") ∷ comes (codes "bar") ∷ Join (codes "foo") (codes "#c") true
    ∷ Invite (codes "foo") (codes "bar") (codes "#c") ∷ [] in (
      invited_is invited (codes "bar") (codes "#c"),
      invited_is (invited ++ Part (codes "foo") (codes "#c") [] ∷ Join (codes "foo")
          (codes "#c") true ∷ []) (codes "bar") (codes "#c"),
    )

pub quit_hidden_from_doer : QuitHiddenFromDoer
unfolding fold fold_table cut line_text
quit_hidden_from_doer =
    seen_is (two_members ++ Join (codes "bar") (codes "#c") true ∷ Join (codes "foo")
    (codes "#c") false ∷ []) (Quit (codes "foo") (codes "bye"))
    (record { users = tt; channels = tt })

pub say_shown_to_others : SayShownToOthers
unfolding fold fold_table
say_shown_to_others words notice =
    ap viewers_of (seen_is two_members (Say (codes "foo") notice
    (target.Channel (codes "#rust")) words) (record { users = tt; channels = tt }))

pub second_member_is_no_operator : SecondMemberIsNoOperator
unfolding fold fold_table
second_member_is_no_operator = (
  flags_is two_members (codes "bar") (codes "#rust"),
  flags_is two_members (codes "foo") (codes "#rust"),
)

pub secret_stays_secret : SecretStaysSecret
unfolding fold fold_table
secret_stays_secret =
    let effects = λ (last : ModeChange). two_members ++ ChangeModes by.Home (codes "#rust")
    (set letter.Secret None ∷ last ∷ []) ∷ [] in (
      part_is (λ c. c.modes.privacy) (effects (set letter.Private None)) (codes "#rust"),
      part_is (λ c. c.modes.privacy) (effects (clear letter.Private None)) (codes "#rust"),
    )

pub changes_written : ChangesWritten
unfolding fold fold_table cut line_text
changes_written =
    let changes = set letter.Operator (Some (codes "BAR")) ∷ clear letter.Voice (Some (codes "Cy"))
    ∷ set letter.Limit (Some (codes "5")) ∷ [] in (
      seen_is two_members (ChangeModes (by.User (codes "foo")) (codes "#rust") changes)
          (record { users = tt; channels = tt }),
      λ room. refl,
    )

pub ban_stands_once : BanStandsOnce
unfolding fold fold_table is_ban_mask
ban_stands_once =
    part_is (λ c. c.modes.bans)
    (two_members ++ ChangeModes (by.User (codes "foo")) (codes "#rust") (set letter.Ban
    (Some (codes "a[!*@*")) ∷ set letter.Ban (Some (codes "A{!*@*")) ∷ []) ∷ [])
    (codes "#rust")

pub channel_made_anew : ChannelMadeAnew
unfolding fold fold_table
channel_made_anew =
    let ended = comes (codes "foo") ∷ comes (codes "bar") ∷ Join (codes "foo") (codes "#Rust") true
    ∷ SetTopic (by.User (codes "foo")) (codes "#rust") (codes "old")
    ∷ ChangeModes (by.User (codes "foo")) (codes "#rust") (set letter.Secret None ∷ []) ∷ Part
    (codes "foo") (codes "#rust") [] ∷ [] in
    let anew = ended ++ Join (codes "bar") (codes "#rust") true ∷ [] in (
      ap is_some (channel_is ended (codes "#rust")),
      part_is (λ c. c.name) anew (codes "#RUST"),
      part_is (λ c. c.topic) anew (codes "#rust"),
      part_is (λ c. c.modes) anew (codes "#rust"),
      flags_is anew (codes "bar") (codes "#rust"),
      member_is anew (codes "foo") (codes "#rust"),
    )

pub greater_spelling_stays : GreaterSpellingStays
unfolding fold fold_table
greater_spelling_stays =
    let made = λ (name : List ℕ). comes (codes "foo") ∷ Join (codes "foo") name true ∷ [] in (
      titled_part_is (λ c. c.name) (made (codes "#Chat")) (codes "#chat") (codes "#CHAT"),
      titled_part_is (λ c. c.name) (made (codes "#chat")) (codes "#Chat") (codes "#CHAT"),
    )

pub part_written_as_stored : PartWrittenAsStored
unfolding fold fold_table cut line_text
part_written_as_stored = seen_is two_members (Part (codes "FOO") (codes "#RUST") (codes "bye"))
    (record { users = tt; channels = tt })

pub join_once_more_shows_nothing : JoinOnceMoreShowsNothing
unfolding fold fold_table
join_once_more_shows_nothing = seen_is two_members (Join (codes "BAR") (codes "#rust") true)
    (record { users = tt; channels = tt })

pub each_sees_its_own_server : EachSeesItsOwnServer
unfolding fold fold_table cut line_text
each_sees_its_own_server =
    seen_is (AddUser (somebody (codes "foo") (codes "h") (codes "a.net")) ∷ AddUser
    (somebody (codes "bar") (codes "h") (codes "b.net"))
    ∷ Join (codes "foo") (codes "#c") true ∷ Join (codes "bar") (codes "#c") false ∷ [])
    (ChangeModes by.Home (codes "#c") (set letter.Operator (Some (codes "bar")) ∷ []))
    (record { users = tt; channels = tt })

pub rename_shown_once : RenameShownOnce
unfolding fold fold_table cut line_text
rename_shown_once =
    seen_is two_members (Rename (codes "foo") (codes "Qux")) (record { users = tt; channels = tt })

pub join_shown_to_all : JoinShownToAll
unfolding fold fold_table cut line_text
join_shown_to_all = seen_is two_members (Join (codes "baz") (codes "#RUST") false)
    (record { users = tt; channels = tt })

pub invite_to_no_channel_is_told_only : InviteToNoChannelIsToldOnly
unfolding fold fold_table cut line_text
invite_to_no_channel_is_told_only =
    let invite = Invite (codes "foo") (codes "bar") (codes "#none") in (
      seen_is two_members invite (record { users = tt; channels = tt }),
      ap is_some (channel_is (two_members ++ invite ∷ []) (codes "#none")),
    )
