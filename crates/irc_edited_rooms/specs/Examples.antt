-- Rooms of two or three people on servers in a line, in which edits cross. Computed.
--
-- al is on a.net, bo on b.net, and ann on a.net or on c.net. Where somebody is, and who may do
-- what, is in no document: an edit is given to a server.
use Rattle.std.specs.Prelude.{◌≡◌, ℕ, Some, None, is_some, if◌then◌else◌}
use Rattle.std.specs.Prelude.{codes}
use Rattle.std.specs.Prelude.{List, [], ◌∷◌, ◌++◌, length, map, nat_eq}
use Rattle.std.specs.List.{filter}
use Rattle.irc_names.specs.TableLaws.{same_fold}
use Rattle.irc_relay.specs.Links.{Name, same}
use Rattle.irc_documents.specs.Editing.{Editing}
use Rattle.irc_documents.specs.Examples.{a_net, b_net, c_net, link}
use Rattle.irc_documents.specs.Networks.{Net, Step, given, read_from, made, lost, begun}
use Rattle.irc_documents.specs.Networks.{after_all, AllMayBe}
use Rattle.irc_edited_rooms.specs.Writes.{Writes, no_writes}
use Rattle.irc_edited_rooms.specs.Fates.{Fate, goes, comes, untouched}
use Rattle.irc_edited_rooms.specs.Documents.{Nick, ChannelName, Document, Edit, update, rename}
use Rattle.irc_edited_rooms.specs.Documents.{edited, blank_document}
use Rattle.irc_edited_rooms.specs.Crossing.{crossed, nothing}
use Rattle.irc_edited_rooms.specs.EditedRooms.{edited_rooms}
use Rattle.irc_edited_rooms.specs.Telling.{told}

-- ---- places, and who there can be

pub data Place : Type 0 where
  topic : Place
  key : Place
  spelling : Place
  operator : Place

abbrev pub number : Place → ℕ
number topic = 0
number key = 1
number spelling = 2
number operator = 3

abbrev pub al : Nick
al = codes "al"

abbrev pub ally : Nick
ally = codes "ally"

abbrev pub ann : Nick
ann = codes "ann"

abbrev pub bo : Nick
bo = codes "bo"

abbrev pub zed : Nick
zed = codes "zed"

abbrev pub names : List Nick
names = al ∷ ally ∷ ann ∷ bo ∷ zed ∷ []

abbrev pub hash_c : ChannelName
hash_c = codes "#c"

-- ---- edits

abbrev pub rooms : Editing (Document Place) (Edit Place)
rooms = edited_rooms names

abbrev pub RoomNet : Type 0
RoomNet = Net (Document Place) (Edit Place)

abbrev pub Steps : Type 0
Steps = List (Step (Edit Place))

-- one place is written
abbrev pub only : Place → List ℕ → Writes Place
only place value it = if nat_eq (number it) (number place) then Some value else None

-- what becomes of one, and of no other
abbrev pub of_one : Nick → Fate Place → Nick → Fate Place
of_one nick fate it = if same_fold it nick then fate else untouched

abbrev pub in_channel : (Nick → Fate Place) → ChannelName → Nick → Fate Place
in_channel fates name nick = if same_fold name hash_c then fates nick else untouched

abbrev pub users_edited : (Nick → Fate Place) → Edit Place
users_edited fates = update (record {
  user = fates;
  member = λ name nick. untouched;
  set = λ name. no_writes;
})

abbrev pub members_edited : (Nick → Fate Place) → Edit Place
members_edited fates = update (record {
  user = λ nick. untouched;
  member = in_channel fates;
  set = λ name. no_writes;
})

-- NICK al 1 al h 1 :Al
abbrev pub signs_on : Nick → Edit Place
signs_on nick = users_edited (of_one nick (comes (only spelling nick)))

abbrev pub enters : Nick → Writes Place → Edit Place
enters nick writes = members_edited (of_one nick (comes writes))

-- :al JOIN #c, and of whoever makes it :al JOIN #c\7o
abbrev pub joins : Nick → Edit Place
joins nick = enters nick no_writes

abbrev pub makes : Nick → Edit Place
makes nick = enters nick (only operator (codes "o"))

-- :al PART #c, :bo KICK #c al
abbrev pub leaves : Nick → Edit Place
leaves nick = members_edited (of_one nick goes)

-- :al QUIT
abbrev pub quits : Nick → Edit Place
quits nick = update (record {
  user = of_one nick goes;
  member = λ name. of_one nick goes;
  set = λ name. no_writes;
})

-- :al TOPIC #c :one, :al MODE #c +k x
abbrev pub sets : Place → List ℕ → Edit Place
sets place value = update (record {
  user = λ nick. untouched;
  member = λ name nick. untouched;
  set = λ name. if same_fold name hash_c then only place value else no_writes;
})

-- :al NICK ally
abbrev pub takes : Nick → Nick → Edit Place
takes old new = rename old new (only spelling new)

-- ---- what is looked at

abbrev pub users_of : Document Place → List Nick
users_of room = filter (λ nick. is_some (room.user nick)) names

abbrev pub members_of : Document Place → List Nick
members_of room = filter (λ nick. is_some (room.member hash_c nick)) names

abbrev pub topic_of : Document Place → List ℕ
topic_of room = room.channel hash_c topic

abbrev pub key_of : Document Place → List ℕ
key_of room = room.channel hash_c key

abbrev pub at_both : {A : Type 0} → (Document Place → A) → RoomNet → List A
at_both look net = map (λ s. look (net.doc s)) (a_net ∷ b_net ∷ [])

abbrev pub at_three : {A : Type 0} → (Document Place → A) → RoomNet
    → List A
at_three look net = map (λ s. look (net.doc s)) (a_net ∷ b_net ∷ c_net ∷ [])

-- how many messages are on their way to and from b.net
abbrev pub waiting : RoomNet → List ℕ
waiting net = map (λ s. length (net.queue s b_net ++ net.queue b_net s)) (a_net ∷ c_net ∷ [])

-- ---- two servers

-- al has made the channel at a.net, and set its topic
abbrev pub room_of_al : Document Place
room_of_al = edited names (edited names (edited names blank_document (signs_on al)) (makes al))
    (sets topic (codes "all"))

-- without links, and with these at a.net and at c.net
abbrev pub start_of : (at_a at_c : Document Place) → RoomNet
start_of at_a at_c = record {
  links = [];
  doc = λ s. if same s a_net then at_a else if same s c_net then at_c else blank_document;
  end = λ s t. begun rooms [];
  queue = λ s t. [];
}

abbrev pub start : RoomNet
start = start_of room_of_al blank_document

-- a.net tells b.net its room, at which bo signs on
abbrev pub met : Steps
met =
    made (link a_net b_net) (told room_of_al) [] ∷ read_from a_net b_net ∷ read_from a_net b_net
    ∷ given b_net (signs_on bo) ∷ read_from b_net a_net ∷ []

abbrev pub bo_joins : Steps
bo_joins = given b_net (joins bo) ∷ read_from b_net a_net ∷ []

abbrev pub both_in : Steps
both_in = met ++ bo_joins

abbrev pub exchanged : Steps
exchanged = read_from a_net b_net ∷ read_from b_net a_net ∷ []

-- a.net   :al TOPIC #c :one      b.net   :bo TOPIC #c :two
abbrev pub topics_cross : Steps
topics_cross =
    both_in ++ given a_net (sets topic (codes "one"))
    ∷ given b_net (sets topic (codes "two")) ∷ exchanged

-- a.net   :al NICK ally          b.net   :bo KICK #c al
abbrev pub kick_crosses : Steps
kick_crosses =
    both_in ++ given a_net (takes al ally) ∷ given b_net (leaves al) ∷ exchanged

-- a.net   :al NICK zed           b.net   :bo NICK zed
abbrev pub nicknames_cross : Steps
nicknames_cross =
    both_in ++ given a_net (takes al zed) ∷ given b_net (takes bo zed) ∷ exchanged

-- a.net   :al PART #c            b.net   :bo JOIN #c
abbrev pub join_crosses : Steps
join_crosses = met ++ given a_net (leaves al) ∷ given b_net (joins bo) ∷ exchanged

-- a.net   :al PART #c, :ann JOIN #c\7o      b.net   MODE #c +k x
abbrev pub next_begins : Steps
next_begins =
    met ++ given a_net (signs_on ann) ∷ read_from a_net b_net ∷ given a_net (leaves al)
    ∷ given a_net (makes ann) ∷ given b_net (sets key (codes "x")) ∷ read_from a_net b_net
    ∷ exchanged

abbrev pub two_after : Steps → RoomNet
two_after steps = after_all rooms start steps

-- the greater of two topics stays
pub record TopicsCross : Type 0 where
  pub may : AllMayBe rooms start topics_cross
  pub topics : at_both topic_of (two_after topics_cross) ≡ codes "two" ∷ codes "two" ∷ []
  pub at_rest : waiting (two_after topics_cross) ≡ 0 ∷ 0 ∷ []

-- who is renamed is kicked under the new name
pub record KickCrosses : Type 0 where
  pub may : AllMayBe rooms start kick_crosses
  pub users : at_both users_of (two_after kick_crosses)
      ≡ (ally ∷ bo ∷ []) ∷ (ally ∷ bo ∷ []) ∷ []
  pub members : at_both members_of (two_after kick_crosses) ≡ (bo ∷ []) ∷ (bo ∷ []) ∷ []
  pub at_rest : waiting (two_after kick_crosses) ≡ 0 ∷ 0 ∷ []

-- two who take one name are gone
pub record NicknamesCross : Type 0 where
  pub may : AllMayBe rooms start nicknames_cross
  pub users : at_both users_of (two_after nicknames_cross) ≡ [] ∷ [] ∷ []
  pub members : at_both members_of (two_after nicknames_cross) ≡ [] ∷ [] ∷ []
  pub at_rest : waiting (two_after nicknames_cross) ≡ 0 ∷ 0 ∷ []

-- a channel that the last member leaves comes back with who joins it at the other end
pub record JoinCrosses : Type 0 where
  pub may : AllMayBe rooms start join_crosses
  pub members : at_both members_of (two_after join_crosses) ≡ (bo ∷ []) ∷ (bo ∷ []) ∷ []
  pub topics : at_both topic_of (two_after join_crosses) ≡ codes "all" ∷ codes "all" ∷ []
  pub at_rest : waiting (two_after join_crosses) ≡ 0 ∷ 0 ∷ []

-- what is set in the one is not set in the next of its name
pub record NextBegins : Type 0 where
  pub may : AllMayBe rooms start next_begins
  pub members : at_both members_of (two_after next_begins) ≡ (ann ∷ []) ∷ (ann ∷ []) ∷ []
  pub keys : at_both key_of (two_after next_begins) ≡ [] ∷ [] ∷ []
  pub topics : at_both topic_of (two_after next_begins) ≡ [] ∷ [] ∷ []
  pub at_rest : waiting (two_after next_begins) ≡ 0 ∷ 0 ∷ []

-- ---- three servers in a line

-- ann has made the channel at c.net, and set its key
abbrev pub room_of_ann : Document Place
room_of_ann = edited names (edited names (edited names blank_document (signs_on ann)) (makes ann))
    (sets key (codes "x"))

abbrev pub line_start : RoomNet
line_start = start_of room_of_al room_of_ann

abbrev pub line_after : Steps → RoomNet
line_after steps = after_all rooms line_start steps

-- each of two tells the other its room, as it is after these steps
abbrev pub told_after : Steps → (s t : Name) → Step (Edit Place)
told_after steps s t =
    made (link s t) (told ((line_after steps).doc s)) (told ((line_after steps).doc t))

abbrev pub both_read : (s t : Name) → Steps
both_read s t = read_from s t ∷ read_from t s ∷ []

-- a - b - c, where b and c have told each other their rooms, and a hears of c's
abbrev pub line : Steps
line =
    both_in ++ told_after both_in b_net c_net ∷ both_read b_net c_net
    ++ both_read b_net c_net ++ read_from b_net a_net ∷ read_from b_net a_net ∷ []

-- al is renamed at a.net, and kicked at c.net; a topic is set at a.net and at b.net
abbrev pub line_crosses : Steps
line_crosses =
    given a_net (takes al ally) ∷ given c_net (leaves al) ∷ given a_net (sets topic (codes "one"))
    ∷ given b_net (sets topic (codes "two")) ∷ both_read a_net b_net ++ both_read b_net c_net
    ++ both_read a_net b_net ++ both_read b_net c_net ++ both_read b_net c_net
    ++ both_read a_net b_net

-- The link of b and c is lost, and each has those behind it quit. Until it is made again, ally
-- takes zed at a.net, a zed signs on at c.net, a topic is set at b.net, and a key at c.net.
abbrev pub line_parts : Steps
line_parts =
    lost b_net c_net ∷ given b_net (quits ann) ∷ given c_net (quits ally) ∷ given c_net (quits bo)
    ∷ given a_net (takes ally zed) ∷ given c_net (signs_on zed)
    ∷ given b_net (sets topic (codes "west")) ∷ given c_net (sets key (codes "y"))
    ∷ both_read a_net b_net ++ read_from b_net a_net ∷ []

abbrev pub line_apart : Steps
line_apart = line ++ line_crosses ++ line_parts

abbrev pub again : Steps
again =
    told_after line_apart c_net b_net ∷ both_read b_net c_net ++ both_read b_net c_net
    ++ read_from b_net a_net ∷ read_from b_net a_net ∷ []

pub record ThreeRestAlike : Type 0 where
  pub may : AllMayBe rooms line_start (line_apart ++ again)
  -- once they have told each other their rooms
  pub told_users : at_three users_of (line_after line)
      ≡ (al ∷ ann ∷ bo ∷ []) ∷ (al ∷ ann ∷ bo ∷ []) ∷ (al ∷ ann ∷ bo ∷ []) ∷ []
  pub told_members : at_three members_of (line_after line)
      ≡ (al ∷ ann ∷ bo ∷ []) ∷ (al ∷ ann ∷ bo ∷ []) ∷ (al ∷ ann ∷ bo ∷ []) ∷ []
  pub told_topics : at_three topic_of (line_after line)
      ≡ codes "all" ∷ codes "all" ∷ codes "all" ∷ []
  pub told_keys : at_three key_of (line_after line) ≡ codes "x" ∷ codes "x" ∷ codes "x" ∷ []
  pub told_waiting : waiting (line_after line) ≡ 0 ∷ 0 ∷ []
  -- behind what crossed
  pub users : at_three users_of (line_after (line ++ line_crosses))
      ≡ (ally ∷ ann ∷ bo ∷ []) ∷ (ally ∷ ann ∷ bo ∷ []) ∷ (ally ∷ ann ∷ bo ∷ []) ∷ []
  pub members : at_three members_of (line_after (line ++ line_crosses))
      ≡ (ann ∷ bo ∷ []) ∷ (ann ∷ bo ∷ []) ∷ (ann ∷ bo ∷ []) ∷ []
  pub topics : at_three topic_of (line_after (line ++ line_crosses))
      ≡ codes "two" ∷ codes "two" ∷ codes "two" ∷ []
  pub nothing_waits : waiting (line_after (line ++ line_crosses)) ≡ 0 ∷ 0 ∷ []
  -- apart
  pub apart_users : at_three users_of (line_after line_apart)
      ≡ (bo ∷ zed ∷ []) ∷ (bo ∷ zed ∷ []) ∷ (ann ∷ zed ∷ []) ∷ []
  pub apart_members : at_three members_of (line_after line_apart)
      ≡ (bo ∷ []) ∷ (bo ∷ []) ∷ (ann ∷ []) ∷ []
  pub apart_topics : at_three topic_of (line_after line_apart)
      ≡ codes "west" ∷ codes "west" ∷ codes "two" ∷ []
  pub apart_keys : at_three key_of (line_after line_apart)
      ≡ codes "x" ∷ codes "x" ∷ codes "y" ∷ []
  pub apart_waiting : waiting (line_after line_apart) ≡ 0 ∷ 0 ∷ []
  -- joined again; of two who have one nickname both are gone
  pub again_users : at_three users_of (line_after (line_apart ++ again))
      ≡ (ann ∷ bo ∷ []) ∷ (ann ∷ bo ∷ []) ∷ (ann ∷ bo ∷ []) ∷ []
  pub again_members : at_three members_of (line_after (line_apart ++ again))
      ≡ (ann ∷ bo ∷ []) ∷ (ann ∷ bo ∷ []) ∷ (ann ∷ bo ∷ []) ∷ []
  pub again_topics : at_three topic_of (line_after (line_apart ++ again))
      ≡ codes "west" ∷ codes "west" ∷ codes "west" ∷ []
  pub again_keys : at_three key_of (line_after (line_apart ++ again))
      ≡ codes "y" ∷ codes "y" ∷ codes "y" ∷ []
  pub again_waiting : waiting (line_after (line_apart ++ again)) ≡ 0 ∷ 0 ∷ []

-- ---- what is no diamond

abbrev pub Rule : Type 0
Rule = Document Place → (theirs ours : Edit Place) → Edit Place

-- the same, but for what becomes of one edit behind another
abbrev pub by_crossing : Rule → Editing (Document Place) (Edit Place)
by_crossing rule = record rooms { crossed = rule }

-- after these steps, by this rule, at both servers
abbrev pub both_by : {A : Type 0} → (Document Place → A) → Steps → Rule → List A
both_by look steps rule = at_both look (after_all (by_crossing rule) start steps)

abbrev pub as_they_came : Rule
as_they_came room theirs ours = theirs

abbrev pub neither : Rule
neither room theirs ours = update nothing

-- by the rule of this crate; where both are done as they came; and where neither is
pub record WrongOnesDiffer : Type 0 where
  pub topics : both_by topic_of topics_cross (crossed names) ≡ codes "two" ∷ codes "two" ∷ []
  pub topics_as_they_came : both_by topic_of topics_cross as_they_came
      ≡ codes "two" ∷ codes "one" ∷ []
  pub no_topics : both_by topic_of topics_cross neither ≡ codes "one" ∷ codes "two" ∷ []
  pub members : both_by members_of kick_crosses (crossed names) ≡ (bo ∷ []) ∷ (bo ∷ []) ∷ []
  pub kicked_as_they_came : both_by members_of kick_crosses as_they_came
      ≡ (ally ∷ bo ∷ []) ∷ (bo ∷ []) ∷ []
  pub users : both_by users_of nicknames_cross (crossed names) ≡ [] ∷ [] ∷ []
  pub renamed_as_they_came : both_by users_of nicknames_cross as_they_came
      ≡ (bo ∷ zed ∷ []) ∷ (al ∷ zed ∷ []) ∷ []
  pub topics_kept : both_by topic_of join_crosses (crossed names)
      ≡ codes "all" ∷ codes "all" ∷ []
  pub joined_as_they_came : both_by topic_of join_crosses as_they_came
      ≡ [] ∷ codes "all" ∷ []
