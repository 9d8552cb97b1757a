-- What an ISON, a USERHOST, a LUSERS or a WHOIS tells, part by part, as the code's context has it.
use Rattle.std.specs.Prelude.{◌≡◌, ℕ, List, ◌++◌, map, filter}
use Rattle.std.specs.Borrow.{Bor}
use Rattle.std.specs.Global.{Vec}
use Rattle.std.specs.List.{filter_map, flat_map}
use Rattle.arrayvec.specs.ArrayVec.{ArrayVec}
use Rattle.irc_line.specs.PartViews.{words_now}
use Rattle.irc_tables.specs.declared.table.Row.{Row}
use Rattle.irc_users.specs.declared.user.User.{User}
use Rattle.irc_channels.specs.declared.channel.Channel.{Channel}
use Rattle.irc_numerics.specs.Limits.{max_whois_channels}
use Rattle.irc_numerics.specs.declared.replies.OnChannel.{OnChannel}
use Rattle.irc_numerics.specs.declared.replies.Reply.TheVariants.{WhoisServer}
use Rattle.irc_routes.specs.Known.{place_of}
use Rattle.irc_routes.specs.Place.{Place}
use Rattle.irc_acts.specs.declared.act.Act.{Act}
use Rattle.irc_acts.specs.declared.act.Act.TheVariants.{Answer}
use Rattle.irc_acts.specs.Acts.{bytes_kept}
use Rattle.irc_acts.specs.declared.context.Context.{Context}
use Rattle.irc_acts.specs.Loops.FilledLines.{Came}
use Rattle.irc_acts.specs.Names.{in_lines}
use Rattle.irc_queries.specs.Ison.{ison_steps, users_named}
use Rattle.irc_queries.specs.Lusers.{lusers_steps}
use Rattle.irc_queries.specs.Userhost.{is_word, userhost_steps, users_asked}
use Rattle.irc_queries.specs.Whois.{channels_line, info_of, place_in, places, whois_replies}
use Rattle.irc_queries.specs.Whois.{told_of_list, told_of_one, whois_steps}

-- the values of these
abbrev pub users_now : List (Bor User) → List User
users_now users = map (λ (user : Bor User). user.now) users

abbrev pub channels_now : List (Bor (Row Channel)) → List Channel
channels_now rows = map (λ (row : Bor (Row Channel)). row.now.value) rows

-- From users to users: these are appended.
abbrev pub AddsUsers : List User → Vec (Bor User) → Vec (Bor User) → Type 0
AddsUsers more old new = users_now new.items ≡ users_now old.items ++ more

-- From words to words: those of these that are not empty are appended.
abbrev pub AddsWords : List (List ℕ) → Vec (Bor (List ℕ)) → Vec (Bor (List ℕ)) → Type 0
AddsWords pieces old new =
    words_now new.items ≡ words_now old.items ++ filter is_word pieces

-- From steps to steps: these are appended.
abbrev pub AddsSteps : List Act → Vec Act → Vec Act → Type 0
AddsSteps more old new = new.items ≡ old.items ++ more

abbrev pub ison_here : Context → List (List ℕ) → List Act
ison_here context params = ison_steps context.room.now.room params

-- the users whose nicknames stand in these parameters
abbrev pub all_named : Context → List (List ℕ) → List User
all_named context params = flat_map (users_named context.room.now.room) params

abbrev pub userhost_here : Context → List (List ℕ) → List Act
userhost_here context params =
    userhost_steps context.room.now.room (place_of context.routes.now) params

-- the users whose nicknames are among the first words of these parameters
abbrev pub asked_here : Context → List (List ℕ) → List User
asked_here context params = users_asked context.room.now.room params

abbrev pub lusers_here : Context → List Act
lusers_here context = lusers_steps context.room.now.room (place_of context.routes.now)

abbrev pub whois_here : Context → List (List ℕ) → List Act
whois_here context params =
    whois_steps context.room.now.room (place_of context.routes.now) context.me.now params

-- what is told of a comma list, of these nicknames, of one, and of a user
abbrev pub list_here : Context → List ℕ → List Act
list_here context list =
    told_of_list context.room.now.room (place_of context.routes.now) context.me.now list

abbrev pub each_here : Context → List (List ℕ) → List Act
each_here context nicks =
    flat_map (told_of_one context.room.now.room (place_of context.routes.now) context.me.now) nicks

abbrev pub one_here : Context → List ℕ → List Act
one_here context nick =
    told_of_one context.room.now.room (place_of context.routes.now) context.me.now nick

abbrev pub user_here : Context → User → List Act
user_here context user =
    whois_replies context.room.now.room (place_of context.routes.now) context.me.now user

-- the server of a user, and how it describes itself
abbrev pub home_told : Place → User → Act
home_told place user =
    Answer (WhoisServer user.nick user.home (bytes_kept (info_of place user.home)))

-- the lines of these channels of a user, and of those that are listed for the asker
abbrev pub lines_of : User → List OnChannel → List Act
lines_of user channels = map (channels_line user) (in_lines max_whois_channels channels)

abbrev pub places_here : Context → User → List OnChannel
places_here context user = places context.room.now.room context.me.now user

-- From steps and a line that is being filled to steps and such a line: these channels came.
abbrev pub CameChannels : User → List OnChannel → Vec Act → ArrayVec OnChannel → Vec Act
    → ArrayVec OnChannel → Type 0
CameChannels user channels old held new held_after =
    Came max_whois_channels
    (channels_line user) old.items held.items channels new.items held_after.items

-- those of these channels of a user that are listed for the asker
abbrev pub CameListed : User → User → List Channel → Vec Act → ArrayVec OnChannel → Vec Act
    → ArrayVec OnChannel → Type 0
CameListed me user channels = CameChannels user (filter_map (place_in me user) channels)
