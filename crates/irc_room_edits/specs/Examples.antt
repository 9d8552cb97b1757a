-- Effects in small rooms, as edits of their documents; and what two ends come to, at which two
-- effects are done at once, and then those of the other end behind them.
--
--   al has made #c with the topic old, and bo is in it (two_in)
--   a.net   :al TOPIC #c :one            b.net   :bo TOPIC #c :two
--   both have the topic two
use Rattle.std.specs.Prelude.{◌≡◌, ℕ, true, false, Option, Some, None, is_some, List, [], ◌∷◌, ◌++◌}
use Rattle.std.specs.Prelude.{codes, filter}
use Rattle.std.specs.Option.{option_map}
use Rattle.irc_users.specs.declared.user_change.UserChange.TheVariants.{Away}
use Rattle.irc_modes.specs.declared.modes.ModeChange.{ModeChange}
use Rattle.irc_modes.specs.declared.modes.ModeLetter.TheVariants as letter
use Rattle.irc_effects.specs.declared.effect.By.TheVariants as by
use Rattle.irc_effects.specs.declared.effect.Effect.{Effect}
use Rattle.irc_effects.specs.declared.effect.Effect.TheVariants.{Rename, Quit, Join, Part, Kick}
use Rattle.irc_effects.specs.declared.effect.Effect.TheVariants.{ChangeModes, SetTopic, ChangeUser}
use Rattle.irc_effects.specs.Examples.{room_after, comes, set, clear}
use Rattle.irc_documents.specs.Editing.{Editing}
use Rattle.irc_documents.specs.Lists.{all_done, all_through}
use Rattle.irc_edited_rooms.specs.Documents.{Nick, ChannelName, Document, Edit}
use Rattle.irc_edited_rooms.specs.EditedRooms.{edited_rooms}
use Rattle.irc_room_edits.specs.Documents.{document}
use Rattle.irc_room_edits.specs.Edits.{edits_of}
use Rattle.irc_room_edits.specs.Places.{Place, MemberPlace, ChannelPlace, of_user, of_member}
use Rattle.irc_room_edits.specs.Places.{of_channel, nickname, away, operator, voice, spelling}
use Rattle.irc_room_edits.specs.Places.{topic}
use Rattle.irc_room_edits.specs.Places.{privacy, channel_key, ban}

-- ---- who there can be, and where

abbrev pub al : Nick
al = codes "al"

abbrev pub ally : Nick
ally = codes "ally"

abbrev pub bo : Nick
bo = codes "bo"

abbrev pub names : List Nick
names = al ∷ ally ∷ bo ∷ []

abbrev pub hash_c : ChannelName
hash_c = codes "#c"

abbrev pub rooms : Editing (Document Place) (Edit Place)
rooms = edited_rooms names

-- ---- effects

abbrev pub changes_mode : Nick → ModeChange → Effect
changes_mode nick change = ChangeModes (by.User nick) hash_c (change ∷ [])

abbrev pub sets_topic : Nick → List ℕ → Effect
sets_topic nick text = SetTopic (by.User nick) hash_c text

-- al has made #c, and set its topic
abbrev pub one_in : List Effect
one_in = comes al ∷ comes bo ∷ Join al hash_c true ∷ sets_topic al (codes "old") ∷ []

abbrev pub two_in : List Effect
two_in = one_in ++ Join bo hash_c false ∷ []

-- bo is an operator too
abbrev pub two_operators : List Effect
two_operators = two_in ++ changes_mode al (set letter.Operator (Some bo)) ∷ []

abbrev pub with_key : List Effect
with_key = two_operators ++ changes_mode al (set letter.Key (Some (codes "x"))) ∷ []

-- ---- what is looked at

-- what is set in #c
abbrev pub set_in : ChannelPlace → Document Place → List ℕ
set_in place room = room.channel hash_c (of_channel place)

abbrev pub members : Document Place → List Nick
members room = filter (λ nick. is_some (room.member hash_c nick)) names

abbrev pub flag : MemberPlace → Nick → Document Place → Option (List ℕ)
flag place nick room = option_map (λ row. row (of_member place)) (room.member hash_c nick)

abbrev pub users : Document Place → List Nick
users room = filter (λ nick. is_some (room.user nick)) names

abbrev pub spelled : Nick → Document Place → Option (List ℕ)
spelled nick room = option_map (λ row. row (of_user nickname)) (room.user nick)

abbrev pub text_of : Nick → Document Place → Option (List ℕ)
text_of nick room = option_map (λ row. row (of_user away)) (room.user nick)

-- ---- one effect

-- the document that the edits of an effect make of that of the room before it
abbrev pub edited_by : List Effect → Effect → Document Place
edited_by before effect =
    all_done rooms (document (room_after before)) (edits_of (room_after before) effect)

-- what is looked at is this there, and in the document of the room behind the effect
pub record Makes {A : Type 0} (before : List Effect) (effect : Effect) (look : Document Place → A)
    (it : A) : Type 0 where
  pub edited : look (edited_by before effect) ≡ it
  pub behind : look (document (room_after (before ++ effect ∷ []))) ≡ it

-- :al JOIN #C, where it was not there
pub record JoinMakesChannel : Type 0 where
  pub is_member : Makes (comes al ∷ []) (Join al (codes "#C") true) members (al ∷ [])
  pub is_operator : Makes (comes al ∷ []) (Join al (codes "#C") true) (flag operator al)
      (Some (1 ∷ []))
  pub has_no_voice : Makes (comes al ∷ []) (Join al (codes "#C") true) (flag voice al) (Some [])
  pub as_spelled : Makes (comes al ∷ []) (Join al (codes "#C") true) (set_in spelling) (codes "#C")

-- :bo JOIN #C, where it was there as #c
pub record SecondJoins : Type 0 where
  pub are_members : Makes one_in (Join bo (codes "#C") false) members (al ∷ bo ∷ [])
  pub is_none : Makes one_in (Join bo (codes "#C") false) (flag operator bo) (Some [])
  pub as_before : Makes one_in (Join bo (codes "#C") false) (set_in spelling) hash_c
  pub still_set : Makes one_in (Join bo (codes "#C") false) (set_in topic) (codes "old")

pub record TextsAreSet : Type 0 where
  pub of_channel : Makes two_in (sets_topic bo (codes "new")) (set_in topic) (codes "new")
  pub of_user : Makes two_in (ChangeUser bo (Away (Some (codes "out")))) (text_of bo)
      (Some (1 ∷ codes "out"))

abbrev pub secret_by : Nick → Effect
secret_by nick = changes_mode nick (set letter.Secret None)

abbrev pub private_by : Nick → Effect
private_by nick = changes_mode nick (set letter.Private None)

abbrev pub ban_by : Nick → List ℕ → Effect
ban_by nick mask = changes_mode nick (set letter.Ban (Some mask))

-- p and s are one place, and so are two spellings of one mask
pub record ModesAreSet : Type 0 where
  pub key_set : Makes two_in (changes_mode al (set letter.Key (Some (codes "x"))))
      (set_in channel_key)
      (1 ∷ codes "x")
  pub key_taken : Makes with_key (changes_mode al (clear letter.Key None)) (set_in channel_key) []
  pub is_operator : Makes two_in (changes_mode al (set letter.Operator (Some bo)))
      (flag operator bo)
      (Some (1 ∷ []))
  pub is_operator_no_more : Makes two_operators (changes_mode al (clear letter.Operator (Some bo)))
      (flag operator bo) (Some [])
  pub is_private : Makes two_in (private_by al) (set_in privacy) (1 ∷ [])
  pub is_secret : Makes (two_in ++ private_by al ∷ []) (secret_by al) (set_in privacy) (2 ∷ [])
  pub still_secret : Makes (two_in ++ secret_by al ∷ []) (private_by al) (set_in privacy) (2 ∷ [])
  pub is_banned : Makes two_in (ban_by al (codes "a[!*@*")) (set_in (ban (codes "A{!*@*")))
      (1 ∷ codes "a[!*@*")
  pub stands_once : Makes (two_in ++ ban_by al (codes "a[!*@*") ∷ []) (ban_by al (codes "A{!*@*"))
      (set_in (ban (codes "a[!*@*"))) (1 ∷ codes "A{!*@*")
  pub no_other : Makes two_in (ban_by al (codes "a[!*@*")) (set_in (ban (codes "b!*@*"))) []

-- who is kicked is no member; with the last one who goes all is gone that was set
pub record LeaversGo : Type 0 where
  pub is_kicked : Makes two_in (Kick al hash_c bo (codes "out")) members (al ∷ [])
  pub still_user : Makes two_in (Kick al hash_c bo (codes "out")) users (al ∷ bo ∷ [])
  pub still_set : Makes two_in (Kick al hash_c bo (codes "out")) (set_in topic) (codes "old")
  pub is_gone : Makes one_in (Quit al (codes "bye")) users (bo ∷ [])
  pub no_member : Makes one_in (Quit al (codes "bye")) members []
  pub nothing_set : Makes one_in (Quit al (codes "bye")) (set_in topic) []
  pub no_name : Makes one_in (Quit al (codes "bye")) (set_in spelling) []

-- another nickname, and the same one spelled otherwise
pub record RenameIsSpelled : Type 0 where
  pub is_user : Makes two_in (Rename al (codes "Ally")) users (ally ∷ bo ∷ [])
  pub is_member : Makes two_in (Rename al (codes "Ally")) members (ally ∷ bo ∷ [])
  pub is_operator : Makes two_in (Rename al (codes "Ally")) (flag operator ally) (Some (1 ∷ []))
  pub as_given : Makes two_in (Rename al (codes "Ally")) (spelled ally) (Some (codes "Ally"))
  pub is_the_same : Makes two_in (Rename al (codes "AL")) users (al ∷ bo ∷ [])
  pub as_given_too : Makes two_in (Rename al (codes "AL")) (spelled al) (Some (codes "AL"))

-- ---- two effects that cross

-- the document at the end that has done ours and then reads theirs, which was made without ours
abbrev pub at_end : List Effect → (ours theirs : Effect) → Document Place
at_end before ours theirs =
    all_done rooms (edited_by before ours) (all_through rooms (document (room_after before))
    (edits_of (room_after before) theirs) (edits_of (room_after before) ours))

-- what is looked at is this at both ends
pub record Agree {A : Type 0} (before : List Effect) (one other : Effect)
    (look : Document Place → A) (it : A) : Type 0 where
  pub here : look (at_end before one other) ≡ it
  pub there : look (at_end before other one) ≡ it

-- a.net   :al TOPIC #c :one       b.net   :bo TOPIC #c :two
abbrev pub TopicsCross : Type 0
TopicsCross = Agree two_in (sets_topic al (codes "one")) (sets_topic bo (codes "two"))
    (set_in topic) (codes "two")

-- a.net   :al MODE #c -k          b.net   :bo MODE #c +k y
abbrev pub KeysCross : Type 0
KeysCross = Agree with_key (changes_mode al (clear letter.Key None))
    (changes_mode bo (set letter.Key (Some (codes "y")))) (set_in channel_key) (1 ∷ codes "y")

-- a.net   :al MODE #c +p          b.net   :bo MODE #c +s
abbrev pub PrivaciesCross : Type 0
PrivaciesCross = Agree two_operators (private_by al) (secret_by bo) (set_in privacy) (2 ∷ [])

-- a.net   :al MODE #c -p          b.net   :bo MODE #c -s, where #c is s: -p writes s again
abbrev pub NoChangeIsWritten : Type 0
NoChangeIsWritten = Agree (two_operators ++ secret_by al ∷ [])
    (changes_mode al (clear letter.Private None)) (changes_mode bo (clear letter.Secret None))
    (set_in privacy) (2 ∷ [])

-- a.net   :al MODE #c +b a[!*@*   b.net   :bo MODE #c +b A{!*@*
abbrev pub BansCross : Type 0
BansCross = Agree two_operators (ban_by al (codes "a[!*@*")) (ban_by bo (codes "A{!*@*"))
    (set_in (ban (codes "a{!*@*"))) (1 ∷ codes "a[!*@*")

-- a.net   :al KICK #c bo :out     b.net   :bo PART #c :bye
pub record LeavesCross : Type 0 where
  pub are_members : Agree two_in (Kick al hash_c bo (codes "out")) (Part bo hash_c (codes "bye"))
      members (al ∷ [])
  pub still_set : Agree two_in (Kick al hash_c bo (codes "out")) (Part bo hash_c (codes "bye"))
      (set_in topic) (codes "old")

-- a.net   :al NICK ally           b.net   :bo KICK #c al :out
pub record NamesAreFollowed : Type 0 where
  pub is_renamed : Agree two_operators (Rename al ally) (Kick bo hash_c al (codes "out")) users
      (ally ∷ bo ∷ [])
  pub is_kicked : Agree two_operators (Rename al ally) (Kick bo hash_c al (codes "out")) members
      (bo ∷ [])

-- a.net   :al NICK ally           b.net   :bo NICK ally
abbrev pub TwoToOneName : Type 0
TwoToOneName = Agree two_in (Rename al ally) (Rename bo ally) users []

-- a.net   :al PART #c :bye        b.net   :bo JOIN #c
pub record ChannelComesBack : Type 0 where
  pub is_member : Agree one_in (Part al hash_c (codes "bye")) (Join bo hash_c false) members
      (bo ∷ [])
  pub still_set : Agree one_in (Part al hash_c (codes "bye")) (Join bo hash_c false) (set_in topic)
      (codes "old")
  pub as_spelled : Agree one_in (Part al hash_c (codes "bye")) (Join bo hash_c false)
      (set_in spelling) hash_c

-- a.net   :al JOIN #c             b.net   :bo JOIN #C, where #c was not there
pub record BothMakeChannel : Type 0 where
  pub are_members : Agree (comes al ∷ comes bo ∷ []) (Join al hash_c true)
      (Join bo (codes "#C") true) members (al ∷ bo ∷ [])
  pub are_operators : Agree (comes al ∷ comes bo ∷ []) (Join al hash_c true)
      (Join bo (codes "#C") true) (flag operator bo) (Some (1 ∷ []))
  pub as_greater : Agree (comes al ∷ comes bo ∷ []) (Join al hash_c true)
      (Join bo (codes "#C") true) (set_in spelling) hash_c
