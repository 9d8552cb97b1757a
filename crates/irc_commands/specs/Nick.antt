-- NICK of a registered user.
use Rattle.std.specs.Prelude.{ℕ, Bool, not, ◌&&◌, List, [], ◌∷◌, nat_eq, if◌then◌else◌}
use Rattle.std.specs.Cmp.Lexicographic.{pointwise}
use Rattle.irc_names.specs.Fold.{same}
use Rattle.irc_names.specs.Names.{is_nick}
use Rattle.irc_users.specs.declared.user.User.{User}
use Rattle.irc_numerics.specs.declared.replies.Reply.TheVariants.{NoNicknameGiven}
use Rattle.irc_numerics.specs.declared.replies.Reply.TheVariants.{ErroneousNickname, NicknameInUse}
use Rattle.irc_room.specs.effect.Effect.TheVariants.{Rename}
use Rattle.irc_room.specs.Room.{Room}
use Rattle.irc_room.specs.Effects.{has_user}
use Rattle.irc_acts.specs.declared.act.Act.{Act}
use Rattle.irc_acts.specs.declared.act.Act.TheVariants.{Answer, Do}
use Rattle.irc_acts.specs.Acts.{client_words}

-- whether another user than this one has a nickname
abbrev pub is_anothers : Room → User → List ℕ → Bool
is_anothers room me nickname = has_user room nickname && not (same nickname me.nick)

-- a nickname that is the user's own in every byte changes nothing
abbrev pub nick_taken : Room → User → List ℕ → List Act
nick_taken room me nickname =
    if not (is_nick nickname) then Answer (ErroneousNickname (client_words nickname)) ∷ []
    else (if is_anothers room me nickname then Answer (NicknameInUse nickname) ∷ []
    else (if pointwise nat_eq nickname me.nick then []
    else Do (Rename me.nick nickname) ∷ []))

-- what a NICK does (RFC 2812 section 3.1.2)
unfoldable pub nick_steps : Room → User → List (List ℕ) → List Act
nick_steps room me [] = Answer NoNicknameGiven ∷ []
nick_steps room me ([] ∷ more) = Answer NoNicknameGiven ∷ []
nick_steps room me ((b ∷ bytes) ∷ more) = nick_taken room me (b ∷ bytes)
