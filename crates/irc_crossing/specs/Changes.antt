-- What a line of a link changes of who has which nickname, of who is in which channel, and of what
-- is set there (`Settings.antt`); and what becomes of a change that has crossed another one. Both
-- ends of a link have the same users; each does something, and then reads what the other did.
-- Behind its own change and what becomes of the other's, each has the same users again.
--
-- A user of a.net is al, one of b.net is bo; both write before they read.
--   names are followed      a.net   :al NICK ally          b.net   :bo KICK #c al :out
--                           a.net does      :bo KICK #c ally :out
--   who is gone is left     a.net   :a.net KILL bo :..     b.net   :bo NICK bob
--                           a.net does      nothing, and b.net kills bob
--   out of a channel once   a.net   :al KICK #c bo :out    b.net   :bo PART #c :bye
--                           both do         nothing more
--   two to one name         a.net   :al NICK zed           b.net   :bo NICK zed
--                           a.net kills     zed, who was al, and bo
--                           b.net kills     zed, who was bo, and al
--   nothing is set in the next channel of a name
--                           a.net   :al KICK #c bo :out, :al PART #c :bye, :ann JOIN #c\7o
--                           b.net   :bo MODE #c +k x
--                           a.net does      nothing, and at b.net #c ends and begins anew
-- Who takes a nickname is not the one who had it: that one is gone, also where no line has told so,
-- as where a server is lost.
use Rattle.std.specs.Prelude.{ℕ, Bool, false, not, ◌&&◌, ◌||◌, Option, Some, None, List}
use Rattle.std.specs.Prelude.{if◌then◌else◌}
use Rattle.std.specs.Option.{option_and_then, option_map, option_map_or}
use Rattle.irc_modes.specs.Letters.{names_member}
use Rattle.irc_modes.specs.declared.modes.ModeChange.{ModeChange}
use Rattle.irc_names.specs.Fold.{same}
use Rattle.irc_crossing.specs.declared.change.Change.{Change}
use Rattle.irc_crossing.specs.declared.change.Change.TheVariants.{Come, Rename, Go, Out, Join, Set}
use Rattle.irc_crossing.specs.declared.setting.Setting.{Setting}
use Rattle.irc_crossing.specs.declared.setting.Setting.TheVariants.{Mode, Spelling, Topic}
use Rattle.irc_crossing.specs.Settings.{is_in, yields}

-- the nickname that somebody has by a change, and had not before; another spelling is no other one
abbrev pub taken_by : Change → Option (List ℕ)
taken_by (Come nick) = Some nick
taken_by (Rename nick new) = if same nick new then None else Some new
taken_by (Go nick other) = None
taken_by (Out nick channel) = None
taken_by (Join channel begins) = None
taken_by (Set setting) = None

-- the nickname now of whoever had this one, behind a change; none where it is gone
abbrev pub renamed_now : (old new nick : List ℕ) → Option (List ℕ)
renamed_now old new nick =
    if same old new then Some nick
    else (if same old nick then Some new
    else (if same new nick then None else Some nick))

abbrev pub is_gone : (gone : List ℕ) → (other : Option (List ℕ)) → (nick : List ℕ) → Bool
is_gone gone other nick =
    same gone nick || option_map_or (λ one. same one nick) other false

abbrev pub nick_now : Change → List ℕ → Option (List ℕ)
nick_now (Come taken) nick = if same taken nick then None else Some nick
nick_now (Rename old new) nick = renamed_now old new nick
nick_now (Go gone other) nick = if is_gone gone other nick then None else Some nick
nick_now (Out out channel) nick = Some nick
nick_now (Join channel begins) nick = Some nick
nick_now (Set setting) nick = Some nick

-- the same of a member of a channel; none also where it is out of that
abbrev pub member_now : Change → (channel nick : List ℕ) → Option (List ℕ)
member_now (Out out from) channel nick =
    if same out nick && same from channel then None else Some nick
member_now (Come taken) channel nick = nick_now (Come taken) nick
member_now (Rename old new) channel nick = nick_now (Rename old new) nick
member_now (Go gone other) channel nick = nick_now (Go gone other) nick
member_now (Join at begins) channel nick = Some nick
member_now (Set setting) channel nick = Some nick

-- ---- what is set

-- a letter of a member, by that one's nickname now; none where that one is out of the channel
abbrev pub mode_now : Change → (channel : List ℕ) → ModeChange → Option (List ℕ) → Option ModeChange
mode_now ours channel change None = Some change
mode_now ours channel change (Some word) =
    option_map (λ now. record change { word = Some now }) (member_now ours channel word)

abbrev pub setting_now : Change → Setting → Option Setting
setting_now ours (Topic channel text) = Some (Topic channel text)
setting_now ours (Spelling channel) = Some (Spelling channel)
setting_now ours (Mode channel change) =
    if names_member change.letter
    then option_map (λ now. Mode channel now) (mode_now ours channel change change.word)
    else Some (Mode channel change)

-- What becomes behind a change of what the other end has set beside it. What it set in a channel
-- that has ended here, and begun anew, is of the one that ended.
abbrev pub setting_behind : Change → Setting → Option Setting
setting_behind (Set setting) theirs = if yields theirs setting then None else Some theirs
setting_behind (Come nick) theirs = setting_now (Come nick) theirs
setting_behind (Rename nick new) theirs = setting_now (Rename nick new) theirs
setting_behind (Go nick other) theirs = setting_now (Go nick other) theirs
setting_behind (Out nick channel) theirs = setting_now (Out nick channel) theirs
setting_behind (Join channel begins) theirs =
    if begins && is_in channel theirs then None else setting_now (Join channel begins) theirs

-- ---- two changes

-- whether two changes give one nickname to two users
abbrev pub are_met : (theirs ours : Option (List ℕ)) → Bool
are_met None ours = false
are_met (Some theirs) None = false
are_met (Some theirs) (Some ours) = same theirs ours

-- both of them go: who has the nickname by then, and who was to take it
abbrev pub both_go : Change → Change
both_go (Come nick) = Go nick None
both_go (Rename nick new) = Go new (Some nick)
both_go (Go nick other) = Go nick other
both_go (Out nick channel) = Out nick channel
both_go (Join channel begins) = Join channel begins
both_go (Set setting) = Set setting

-- those of two who are there
abbrev pub gone_of : (one other : Option (List ℕ)) → Option Change
gone_of (Some one) other = Some (Go one other)
gone_of None (Some other) = Some (Go other None)
gone_of None None = None

-- Where both ends begin a channel, or it is there at the other end, it is one from then on: it
-- begins by neither.
abbrev pub join_behind : (channel : List ℕ) → (begins : Bool) → Change → Change
join_behind channel begins (Join at other) = Join channel (begins && not (same channel at))
join_behind channel begins (Come nick) = Join channel begins
join_behind channel begins (Rename nick new) = Join channel begins
join_behind channel begins (Go nick other) = Join channel begins
join_behind channel begins (Out nick at) = Join channel begins
join_behind channel begins (Set setting) = Join channel begins

-- what becomes of a change behind another one, where they do not give one nickname to two
abbrev pub behind : (theirs ours : Change) → Option Change
behind (Come nick) ours = Some (Come nick)
behind (Rename nick new) ours = option_map (λ now. Rename now new) (nick_now ours nick)
behind (Go nick other) ours =
    gone_of (nick_now ours nick) (option_and_then (nick_now ours) other)
behind (Out nick channel) ours =
    option_map (λ now. Out now channel) (member_now ours channel nick)
behind (Join channel begins) ours = Some (join_behind channel begins ours)
behind (Set setting) ours = option_map Set (setting_behind ours setting)

-- what becomes of a change of one end behind one of the other
abbrev pub crossed : (theirs ours : Change) → Option Change
crossed theirs ours =
    if are_met (taken_by theirs) (taken_by ours) then Some (both_go theirs)
    else behind theirs ours
