-- MODE of a user (RFC 2812 section 3.1.5). Of its modes a user has `i` alone: it is invisible (our
-- own choice).
use Rattle.std.specs.Prelude.{ℕ, Bool, true, not, ◌||◌, List, [], ◌∷◌, ◌++◌, nat_eq, if◌then◌else◌}
use Rattle.std.specs.List.{list_any}
use Rattle.irc_names.specs.Fold.{same}
use Rattle.irc_users.specs.declared.user.User.{User}
use Rattle.irc_users.specs.declared.user_change.UserChange.TheVariants.{Invisible}
use Rattle.irc_modes.specs.Letters.{plus_byte}
use Rattle.irc_modes.specs.ModeWords.{is_sign}
use Rattle.irc_numerics.specs.declared.replies.Reply.TheVariants.{UserModeIs, UModeUnknownFlag}
use Rattle.irc_numerics.specs.declared.replies.Reply.TheVariants.{UsersDontMatch}
use Rattle.irc_room.specs.effect.Effect.TheVariants.{ChangeUser}
use Rattle.irc_acts.specs.declared.act.Act.{Act}
use Rattle.irc_acts.specs.declared.act.Act.TheVariants.{Answer, Do}
use Rattle.irc_channel_commands.specs.Judging.{differs}

-- i
abbrev pub invisible_byte : ℕ
invisible_byte = 0x69

-- a byte that is neither a sign nor a mode
abbrev pub is_unknown_flag : ℕ → Bool
is_unknown_flag byte = not (is_sign byte || nat_eq byte invisible_byte)

-- the sign that holds behind a byte
abbrev pub sign_after : Bool → ℕ → Bool
sign_after plus byte = if is_sign byte then nat_eq byte plus_byte else plus

-- whether mode i is set behind a byte, by the sign that holds there
abbrev pub invisible_by : Bool → Bool → ℕ → Bool
invisible_by plus before byte = if nat_eq byte invisible_byte then plus else before

-- whether mode i is set once the letters were read, by the sign that holds at their beginning and
-- by whether it was set before
abbrev pub invisible_after : Bool → Bool → List ℕ → Bool
invisible_after plus before [] = before
invisible_after plus before (byte ∷ letters) =
    invisible_after (sign_after plus byte) (invisible_by plus before byte) letters

-- one reply for all bytes that are no mode
abbrev pub unknown_told : List ℕ → List Act
unknown_told letters = if list_any is_unknown_flag letters then Answer UModeUnknownFlag ∷ [] else []

-- what makes it invisible, or visible, where it is not so already
abbrev pub made_invisible : User → Bool → List Act
made_invisible me invisible =
    if differs me.invisible invisible then Do (ChangeUser me.nick (Invisible invisible)) ∷ []
    else []

-- what the parameters behind the nickname do; the first sign is `+`, and those behind the letters
-- are ignored
abbrev pub own_mode : User → List (List ℕ) → List Act
own_mode me [] = Answer (UserModeIs me.invisible) ∷ []
own_mode me (letters ∷ more) =
    unknown_told letters ++ made_invisible me (invisible_after true me.invisible letters)

-- a user sees and changes its own mode alone
unfoldable pub user_mode : User → List ℕ → List (List ℕ) → List Act
user_mode me target more =
    if same target me.nick then own_mode me more else Answer UsersDontMatch ∷ []
