-- What the code that reads a line of a link as a deed gives.
use Rattle.std.specs.Prelude.{◌≡◌, Option, Result, Ok, Err, List, [], ◌∷◌, map}
use Rattle.std.specs.Prelude.{ℕ, option_to_list}
use Rattle.std.specs.List.{flat_map}
use Rattle.irc_batch.specs.declared.close_reason.CloseReason.{CloseReason}
use Rattle.irc_channels.specs.declared.flags.Flags.{Flags}
use Rattle.irc_room.specs.effect.By.TheVariants as by
use Rattle.irc_room.specs.effect.Effect.{Effect}
use Rattle.irc_room.specs.effect.Effect.TheVariants.{ChangeModes, SetTopic}
use Rattle.irc_merge.specs.Deeds.{Deed, does, loses, kills, brings, sets, tops}
use Rattle.irc_link_reader.specs.declared.deed.Deed.{Deed as Code}
use Rattle.irc_link_reader.specs.declared.deed.Deed.TheVariants as code
use Rattle.irc_link_reader.specs.declared.deed.NewMembers.{NewMembers}
use Rattle.irc_link_reader.specs.declared.deed.Killing.{Killing}
use Rattle.irc_link_reader.specs.declared.deed.Loss.{Loss}
use Rattle.irc_link_reader.specs.declared.deed.NewMember.{NewMember}
use Rattle.irc_link_reader.specs.declared.deed.NewServer.{NewServer}
use Rattle.irc_link_reader.specs.declared.deed.ModeSetting.{ModeSetting}
use Rattle.irc_link_reader.specs.declared.deed.Topic.{Topic}
use Rattle.irc_link_reader.specs.Told.{Judged, Told, a_deed, a_doing, a_server, first_reason}

-- what each deed of the code tells
abbrev pub server_told : NewServer → Told
server_told server = a_server server.uplink server.name server.distance server.token server.info

abbrev pub loss_told : Loss → Deed
loss_told loss = loses loss.server loss.name loss.text

abbrev pub killing_told : Killing → Told
killing_told killing = a_deed (kills killing.server killing.nick)

abbrev pub told_member : NewMember → List ℕ × Flags
told_member member = (member.nick, member.flags)

abbrev pub told_members : List NewMember → List (List ℕ × Flags)
told_members members = map told_member members

abbrev pub arrivals_told : NewMembers → Deed
arrivals_told arrivals =
    brings arrivals.server arrivals.channel (told_members arrivals.members.items)

abbrev pub setting_told : ModeSetting → Deed
setting_told setting = sets setting.server setting.channel setting.changes

abbrev pub topic_told : Topic → Deed
topic_told topic = tops topic.server topic.channel topic.text

abbrev pub told_of_deed : Code → Told
told_of_deed (code.Does effect) = a_deed (does effect)
told_of_deed (code.Server server) = server_told server
told_of_deed (code.Lost loss) = a_deed (loss_told loss)
told_of_deed (code.Kill killing) = killing_told killing
told_of_deed (code.Members arrivals) = a_deed (arrivals_told arrivals)
told_of_deed (code.Modes setting) = a_deed (setting_told setting)
told_of_deed (code.Topic topic) = a_deed (topic_told topic)

-- the deed that there is, as a list
abbrev pub told_if : Option Code → List Told
told_if one = map told_of_deed (option_to_list one)

-- what is read, as a list
abbrev pub told_found : Result (Option Code) CloseReason → Result (List Told) CloseReason
told_found (Ok read) = Ok (told_if read)
told_found (Err reason) = Err reason

-- what is read is what such a line comes to
abbrev pub GivesTold : Judged → Result (Option Code) CloseReason → Type 0
GivesTold judged result = told_found result ≡ first_reason judged

-- what is done of some effects
abbrev pub done_told : Result (List Effect) CloseReason → Result (List Told) CloseReason
done_told (Ok effects) = Ok (map a_doing effects)
done_told (Err reason) = Err reason

-- the effect of which a line told that tells of effects
abbrev pub effect_of_told : Told → List Effect
effect_of_told (a_deed (does effect)) = effect ∷ []
effect_of_told (a_deed (sets server channel changes)) = ChangeModes by.Home channel changes ∷ []
effect_of_told (a_deed (tops server channel topic)) = SetTopic by.Home channel topic ∷ []
effect_of_told other = []

abbrev pub effects_of : Option Code → List Effect
effects_of deed = flat_map effect_of_told (told_if deed)
