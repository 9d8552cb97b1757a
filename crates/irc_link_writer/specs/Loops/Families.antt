-- The lines that are written for each kind of effect.
use Rattle.std.specs.Prelude.{ℕ, Bool, ⊤, Option, Some, None, List, [], ◌∷◌, ◌++◌, codes}
use Rattle.std.specs.Prelude.{if◌then◌else◌}
use Rattle.irc_line.specs.Messages.{Written, nobody}
use Rattle.irc_users.specs.declared.user.User.{User}
use Rattle.irc_room.specs.effect.Effect.{Effect}
use Rattle.irc_room.specs.effect.Effect.TheVariants.{AddUser, Rename, Quit, Say, Invite, ChangeUser}
use Rattle.irc_room.specs.Room.{Room}
use Rattle.irc_room.specs.Seen.{changes_words}
use Rattle.irc_modes.specs.declared.modes.ModeChange.{ModeChange}
use Rattle.irc_link_words.specs.Words.{with_i, no_mode, marked}
use Rattle.irc_link_writer.specs.Written.{from}

-- an effect on users alone, a text or an invitation
abbrev pub IsOfUsers : Effect → Type 0
IsOfUsers (AddUser user) = ⊤
IsOfUsers (Rename nick new) = ⊤
IsOfUsers (Quit nick text) = ⊤
IsOfUsers (Say by notice to text) = ⊤
IsOfUsers (Invite by nick channel) = ⊤
IsOfUsers (ChangeUser nick change) = ⊤
IsOfUsers other = ⊥

-- a user is introduced with this distance and this number
abbrev pub introduced : User → List ℕ → List ℕ → Written
introduced user distance token = record {
  sender = nobody;
  command = codes "NICK";
  middle = user.nick ∷ distance ∷ user.user ∷ user.host ∷ token
      ∷ (if user.invisible then with_i else no_mode) ∷ [];
  last = Some user.real;
}

-- what stands before the second parameter of a line about a channel
abbrev pub head_text : List ℕ → List ℕ → List ℕ → List ℕ
head_text name command channel = codes ":" ++ name ++ command ++ channel ++ codes " "

-- ---- the lines of a channel, of an invitation and of what a user changes of itself

abbrev pub written_modes : Room → List ℕ → List ℕ → List ModeChange → Written
written_modes room name channel changes =
    from name (codes "MODE") (channel ∷ changes_words room changes) None

abbrev pub written_join : List ℕ → List ℕ → Bool → Written
written_join nick channel op = from nick (codes "JOIN") (marked channel op ∷ []) None

abbrev pub written_kick : List ℕ → List ℕ → List ℕ → List ℕ → Written
written_kick by channel nick text =
    from by (codes "KICK") (channel ∷ nick ∷ []) (Some text)

abbrev pub written_invite : List ℕ → List ℕ → List ℕ → Written
written_invite by nick channel = from by (codes "INVITE") (nick ∷ channel ∷ []) None

abbrev pub written_own : List ℕ → List ℕ → Option (List ℕ) → Written
written_own nick letters last = from nick (codes "MODE") (nick ∷ letters ∷ []) last
