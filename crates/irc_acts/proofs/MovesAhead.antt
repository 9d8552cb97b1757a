-- What the room answers behind moves: each step makes of the answer before it what is said of it.
use Rattle.std.proofs.Common.{◌≡◌, ◌≢◌, ◌≤◌, map, zero, suc, ℕ, ◌+◌, ◌-◌, Bool, true, false, cond}
use Rattle.std.proofs.Common.{◌&&◌, if◌then◌else◌, fold, is_some, Option, Some, None, List, [], ◌∷◌}
use Rattle.std.proofs.Common.{length, refl, sym, ◌∙◌, ap, subst, arith, unwrap_or, true≢false}
use Rattle.std.proofs.lemmas.List.{length-map}
use Rattle.std.specs.Option.{option_map, option_map_or, option_and_then}
use Rattle.std.specs.List.{list_any}
use Rattle.std.specs.Cmp.Lexicographic.{nat_list_cmp_total}
use Rattle.std.specs.FinMap.{keys, values, entries, empty, len, insert, remove, len-empty}
use Rattle.std.specs.FinMap.{len-entries, len-insert, len-remove, get-empty}
use Rattle.std.proofs.lemmas.Bool.{cond-true, cond-false}
use Rattle.irc_names.specs.Lemmas.PlainFacts.{none_if_not_some}
use Rattle.irc_names.specs.Fold.{key, same}
use Rattle.irc_names.specs.FoldLaws.{same-tells}
use Rattle.irc_names.specs.Tables.{Table, fold_cmp, row, alter}
use Rattle.irc_names.specs.TableLaws.{same_fold, row-alter, row-keys}
use Rattle.irc_users.specs.declared.user.User.{User}
use Rattle.irc_channels.specs.declared.channel.Channel.{Channel}
use Rattle.irc_channels.specs.declared.flags.Flags.{Flags}
use Rattle.irc_channels.specs.ChannelTable as listed
use Rattle.irc_tables.specs.declared.table.Row.{Row}
use Rattle.irc_tables.specs.RowViews.{row_entry}
use Rattle.irc_channels.specs.Channels.{has_member, joined, left, while_members, new_channel}
use Rattle.irc_modes.specs.Modes.{is_nil}
use Rattle.arrayvec.specs.ArrayVec.{ArrayVec}
use Rattle.irc_numerics.specs.declared.replies.Reply.{Reply}
use Rattle.irc_room.specs.effect.Effect.{Effect}
use Rattle.irc_room.specs.effect.Effect.TheVariants.{Join, Part, Kick}
use Rattle.irc_room.specs.Room.{Room, IsWellFormed}
use Rattle.irc_room.specs.Effects.{is_member}
use Rattle.irc_room.specs.Readers.{flags_at}
use Rattle.irc_room.specs.After.{after, alter_channel}
use Rattle.irc_room.specs.InTurnLaws.{each-keeps}
use Rattle.irc_room.specs.Lemmas.Rows.{some_key}
use Rattle.irc_acts.specs.declared.act.Act.{Act}
use Rattle.irc_acts.specs.declared.act.Act.TheVariants.{Answer, Raw, Do}
use Rattle.irc_acts.specs.Acts.{effects_among}
use Rattle.irc_acts.specs.Ahead.{ahead}
use Rattle.irc_acts.specs.Moves.{own_channels, members_at, IsMove, AreMoves, IsLeave, AreLeaves}
use Rattle.irc_acts.specs.MoveLaws.{same_is_fold, row_changed, joins_row}
use Rattle.irc_acts.specs.Loops.Moving.{flags_by, members_by, channels_by}
use Rattle.irc_acts.proofs.CountedRows.{one_if, counted, passing_few}

-- ---- how many rows a table has

size_is : {X : Type 0} (table : Table X) → length (keys table) ≡ len table
size_is table = length-map (entries table) (λ e. e.0) ∙ sym (len-entries table)

size_empty : (X : Type 0) → length (keys (empty {X = X} {R = fold_cmp})) ≡ 0
size_empty X = size_is (empty {X = X} {R = fold_cmp}) ∙ len-empty fold_cmp X

one_more : {X : Type 0} (fold : List ℕ) (x : X) (table : Table X) → is_some (row table fold) ≡ false
    → length (keys (alter fold (λ _. Some x) table)) ≡ length (keys table) + 1
unfolding alter
one_more fold x table none =
    size_is (insert table fold x)
    ∙ len-insert nat_list_cmp_total table fold x
    ∙ ap (λ b. cond b (len table) (len table + 1)) none
    ∙ ap (λ n. n + 1) (sym (size_is table))

one_less : {X : Type 0} (fold : List ℕ) (table : Table X) → is_some (row table fold) ≡ true
    → length (keys (alter fold (λ _. None) table)) ≡ length (keys table) - 1
unfolding alter
one_less fold table there =
    size_is (remove table fold)
    ∙ len-remove nat_list_cmp_total table fold
    ∙ ap (λ b. cond b (len table - 1) (len table)) there
    ∙ ap (λ n. n - 1) (sym (size_is table))

-- ---- a channel that one joins, and one that a member leaves

-- the flags of a member, and how many members there are
abbrev flags_in : List ℕ → Option Channel → Option Flags
flags_in nick o = option_and_then (λ (c : Channel). row c.members nick) o

abbrev members_in : Option Channel → ℕ
members_in o = option_map_or (λ (c : Channel). length (keys c.members)) o 0

-- a channel as it was, or a new one
abbrev channel_or : List ℕ → Option Channel → Channel
channel_or name o = unwrap_or o (new_channel name)

flags_or : (nick name : List ℕ) (o : Option Channel)
    → row (channel_or name o).members nick ≡ flags_in nick o
flags_or nick name None = get-empty fold_cmp nick
flags_or nick name (Some c) = refl

members_or : (name : List ℕ) (o : Option Channel)
    → length (keys (channel_or name o).members) ≡ members_in o
members_or name None = size_empty Flags
members_or name (Some c) = refl

-- whether one is a member, by its flags
member_by_flags : (nick : List ℕ) (o : Option Channel)
    → option_map_or (has_member nick) o false ≡ is_some (flags_in nick o)
member_by_flags nick None = refl
member_by_flags nick (Some c) = refl

members_with : (nick : List ℕ) (flags : Flags) (c : Channel)
    → has_member nick c ≡ false → (joined nick flags.op c).members
    ≡ alter nick (λ _. Some (record { op = flags.op; voice = false })) c.members
members_with nick flags c none =
    ap (λ (now : Channel). now.members) (cond-false (has_member nick c) c (record c {
      members = alter nick (λ _. Some (record { op = flags.op; voice = false })) c.members;
      invited = alter nick (λ _. None) c.invited;
    }) none)

-- a channel without a member
abbrev without : List ℕ → Channel → Channel
without nick c = record c { members = alter nick (λ _. None) c.members }

left_by : (nick : List ℕ) (c : Channel) → has_member nick c ≡ true
    → left nick c ≡ while_members (without nick c)
left_by nick c there = cond-true (has_member nick c) (while_members (without nick c)) (Some c) there

nil_has_none : {X : Type 0} (table : Table X) (q : List ℕ) → is_nil (keys table) ≡ true
    → row table q ≡ None
nil_has_none table q nil =
    none_if_not_some (row table q) (sym (row-keys table q) ∙ nothing (keys table) nil)
  where
    nothing : (folds : List (List ℕ)) → is_nil folds ≡ true → list_any (same_fold q) folds ≡ false
    nothing [] e = refl
    nothing (fold ∷ folds) e = absurd (true≢false (sym e))

nil_counts : {X : Type 0} (xs : List X) → is_nil xs ≡ true → length xs ≡ 0
nil_counts [] e = refl
nil_counts (x ∷ xs) e = absurd (true≢false (sym e))

-- a channel that ended has no members as one without any
flags_while : (nick : List ℕ) (c : Channel) → flags_in nick (while_members c) ≡ row c.members nick
flags_while nick c = by_nil (is_nil (keys c.members)) refl
  where
    by_nil : (b : Bool) → is_nil (keys c.members) ≡ b
        → flags_in nick (cond b None (Some c)) ≡ row c.members nick
    by_nil true nil = sym (nil_has_none c.members nick nil)
    by_nil false some = refl

members_while : (c : Channel) → members_in (while_members c) ≡ length (keys c.members)
members_while c = by_nil (is_nil (keys c.members)) refl
  where
    by_nil : (b : Bool) → is_nil (keys c.members) ≡ b
        → members_in (cond b None (Some c)) ≡ length (keys c.members)
    by_nil true nil = sym (nil_counts (keys c.members) nil)
    by_nil false some = refl

-- ---- one row that one joins, or that a member leaves

abbrev member_of : List ℕ → Option Channel → Bool
member_of nick o = option_map_or (has_member nick) o false

abbrev leaves_row : List ℕ → Option Channel → Option Channel
leaves_row who o = option_and_then (left (key who)) o

-- one who is no member of a channel that is there, is none of it as it is made
outside_or : (nick name : List ℕ) (o : Option Channel) → member_of nick o ≡ false
    → has_member nick (channel_or name o) ≡ false
outside_or nick name o outside = ap is_some (flags_or nick name o) ∙ sym (member_by_flags nick o)
    ∙ outside

join_flags : (who nick name : List ℕ) (op : Bool) (o : Option Channel)
    → member_of (key who) o ≡ false → flags_in (key nick) (joins_row who name op o)
    ≡ cond (same who nick) (Some (record { op = op; voice = false })) (flags_in (key nick) o)
join_flags who nick name op o outside =
    ap (λ (m : Table Flags). row m (key nick)) (members_with (key who) (record {
      op = op;
      voice = false;
    }) (channel_or name o) (outside_or (key who) name o outside))
    ∙ row-alter (key who) (λ _. Some (record { op = op; voice = false }))
    (channel_or name o).members (key nick)
    ∙ ap (λ b. cond b (Some (record { op = op; voice = false }))
    (row (channel_or name o).members (key nick))) (same_is_fold who nick)
    ∙ ap (cond (same who nick) (Some (record { op = op; voice = false })))
    (flags_or (key nick) name o)

join_members : (who name : List ℕ) (op : Bool) (o : Option Channel) → member_of (key who) o ≡ false
    → members_in (joins_row who name op o) ≡ members_in o + 1
join_members who name op o outside =
    ap (λ (m : Table Flags). length (keys m)) (members_with (key who) (record {
      op = op;
      voice = false;
    }) (channel_or name o) (outside_or (key who) name o outside))
    ∙ one_more (key who) (record { op = op; voice = false }) (channel_or name o).members
    (outside_or (key who) name o outside)
    ∙ ap (λ n. n + 1) (members_or name o)

leave_flags : (who nick : List ℕ) (o : Option Channel) → member_of (key who) o ≡ true
    → flags_in (key nick) (leaves_row who o) ≡ cond (same who nick) None (flags_in (key nick) o)
leave_flags who nick None there = absurd (true≢false (sym there))
leave_flags who nick (Some c) there =
    ap (flags_in (key nick)) (left_by (key who) c there)
    ∙ flags_while (key nick) (without (key who) c)
    ∙ row-alter (key who) (λ _. None) c.members (key nick)
    ∙ ap (λ b. cond b None (row c.members (key nick))) (same_is_fold who nick)

leave_members : (who : List ℕ) (o : Option Channel) → member_of (key who) o ≡ true
    → members_in (leaves_row who o) ≡ members_in o - 1
leave_members who None there = absurd (true≢false (sym there))
leave_members who (Some c) there = ap members_in (left_by (key who) c there)
    ∙ members_while (without (key who) c) ∙ one_less (key who) c.members there

-- ---- one move

by_move : (P : Room → Effect → Type 0) → ((room : Room) (nick channel : List ℕ) (op : Bool)
    → is_member room nick channel ≡ false → P room (Join nick channel op))
    → ((room : Room) (nick channel text : List ℕ) → is_member room nick channel ≡ true
    → P room (Part nick channel text)) → ((room : Room) (by channel nick text : List ℕ)
    → is_member room nick channel ≡ true → P room (Kick by channel nick text))
    → (room : Room) (effect : Effect) → IsMove room effect → P room effect
by_move P joins parts kicks room (Join nick channel op) move = joins room nick channel op move
by_move P joins parts kicks room (Part nick channel text) move = parts room nick channel text move
by_move P joins parts kicks room (Kick by channel nick text) move =
    kicks room by channel nick text move
by_move P joins parts kicks room other move = absurd move

-- who is a member of the channel of a name is one of the channel of the same name
by_same : (room : Room) (who name channel : List ℕ) (is : Bool) → is_member room who name ≡ is
    → same name channel ≡ true → member_of (key who) (row room.channels (key channel)) ≡ is
by_same room who name channel is known alike = ap (λ k. member_of (key who) (row room.channels k))
    (sym ((same-tells name channel).0 alike)) ∙ known

-- what is asked of one row, when one row is changed
asked : {A : Type 0} (ask : Option Channel → A) (room : Room)
    (name channel : List ℕ) (change : Option Channel → Option Channel) (wanted : A)
    → (same name channel ≡ true → ask (change (row room.channels (key channel))) ≡ wanted)
    → ask (row (alter_channel name change room).channels (key channel))
    ≡ (if same name channel then wanted else ask (row room.channels (key channel)))
asked ask room name channel change wanted is =
    ap ask (row_changed room name channel change) ∙ by_name (same name channel) is
  where
    by_name : (b : Bool) → (b ≡ true → ask (change (row room.channels (key channel))) ≡ wanted)
        → ask (cond b (change (row room.channels (key channel))) (row room.channels (key channel)))
        ≡ cond b wanted (ask (row room.channels (key channel)))
    by_name true so = so refl
    by_name false so = refl

-- two tests in a row
both_tests : {X : Type 0} (a b : Bool) (x y : X) → cond a (cond b x y) y ≡ cond (a && b) x y
both_tests true b x y = refl
both_tests false b x y = refl

pub flags_moved : (nick channel : List ℕ) (room : Room) (effect : Effect)
    → IsMove room effect → flags_at (after room effect) (key nick) (key channel)
    ≡ flags_by nick channel (flags_at room (key nick) (key channel)) (Do effect)
unfolding after
flags_moved nick channel =
    by_move (λ room effect. flags_at (after room effect) (key nick) (key channel)
    ≡ flags_by nick channel (flags_at room (key nick) (key channel)) (Do effect))
    (λ room who name op outside.
    asked (flags_in (key nick)) room name channel (joins_row who name op)
    (cond (same who nick) (Some (record { op = op; voice = false }))
    (flags_at room (key nick) (key channel)))
    (λ alike. join_flags who nick name op (row room.channels (key channel))
    (by_same room who name channel false outside alike))
    ∙ both_tests (same name channel) (same who nick) (Some (record { op = op; voice = false }))
    (flags_at room (key nick) (key channel)))
    (λ room who name text there. flags_left room who name there)
    (λ room by name who text there. flags_left room who name there)
  where
    flags_left : (room : Room) (who name : List ℕ) → is_member room who name ≡ true → flags_at
        (alter_channel name (leaves_row who) room) (key nick) (key channel) ≡ (if same name channel
        && same who nick then None else flags_at room (key nick) (key channel))
    flags_left room who name there =
        asked (flags_in (key nick)) room name channel (leaves_row who)
        (cond (same who nick) None (flags_at room (key nick) (key channel)))
        (λ alike. leave_flags who nick (row room.channels (key channel))
        (by_same room who name channel true there alike))
        ∙ both_tests (same name channel) (same who nick) None
        (flags_at room (key nick) (key channel))

pub members_moved : (channel : List ℕ) (room : Room) (effect : Effect)
    → IsMove room effect → members_at (after room effect) (key channel)
    ≡ members_by channel (members_at room (key channel)) (Do effect)
unfolding after
members_moved channel =
    by_move (λ room effect. members_at (after room effect) (key channel)
    ≡ members_by channel (members_at room (key channel)) (Do effect))
    (λ room who name op outside.
    asked members_in room name channel (joins_row who name op) (members_at room (key channel) + 1)
    (λ alike. join_members who name op (row room.channels (key channel))
    (by_same room who name channel false outside alike)))
    (λ room who name text there. members_left room who name there)
    (λ room by name who text there. members_left room who name there)
  where
    members_left : (room : Room) (who name : List ℕ) → is_member room who name ≡ true → members_at
        (alter_channel name (leaves_row who) room) (key channel) ≡ (if same name channel
        then members_at room (key channel) - 1 else members_at room (key channel))
    members_left room who name there =
        asked members_in room name channel (leaves_row who) (members_at room (key channel) - 1)
        (λ alike. leave_members who (row room.channels (key channel))
        (by_same room who name channel true there alike))

-- ---- the channels of one user

came : (own before after : Bool) (new old : ℕ) → new + one_if before ≡ old + one_if after
    → (own ≡ true → before ≡ false) → after ≡ cond own true before
    → new ≡ (if own then old + 1 else old)
came true before after new old counts outside is = omega
    (arith, counts ∙ ap (λ b. old + one_if b) is, ap (λ b. new + one_if b) (sym (outside refl)))
came false before after new old counts outside is =
    alike before (counts ∙ ap (λ b. old + one_if b) is)
  where
    alike : (b : Bool) → new + one_if b ≡ old + one_if b → new ≡ old
    alike true e = omega (arith, e)
    alike false e = omega (arith, e)

went : (own before after : Bool) (new old : ℕ) → new + one_if before ≡ old + one_if after
    → (own ≡ true → before ≡ true) → after ≡ cond own false before
    → new ≡ (if own then old - 1 else old)
went true before after new old counts inside is = omega
    (arith, counts ∙ ap (λ b. old + one_if b) is, ap (λ b. new + one_if b) (sym (inside refl)))
went false before after new old counts inside is =
    alike before (counts ∙ ap (λ b. old + one_if b) is)
  where
    alike : (b : Bool) → new + one_if b ≡ old + one_if b → new ≡ old
    alike true e = omega (arith, e)
    alike false e = omega (arith, e)

some_if : {X : Type 0} (b : Bool) (x : X) (o : Option X)
    → is_some (cond b (Some x) o) ≡ cond b true (is_some o)
some_if true x o = refl
some_if false x o = refl

none_if : {X : Type 0} (b : Bool) (o : Option X)
    → is_some (cond b None o) ≡ cond b false (is_some o)
none_if true o = refl
none_if false o = refl

-- who is a member is one under the same nickname
by_nick : (room : Room) (who nick name : List ℕ) (is : Bool) → is_member room who name ≡ is
    → same who nick ≡ true → is_member room nick name ≡ is
by_nick room who nick name is known alike = ap (λ k. option_map_or (has_member k)
    (row room.channels (key name)) false) (sym ((same-tells who nick).0 alike)) ∙ known

pub channels_moved : (me : User) (room : Room) (effect : Effect) → IsMove room effect
    → length (own_channels (after room effect) me) ≡ channels_by me.nick
    (length (own_channels room me)) (Do effect)
unfolding after
channels_moved me =
    by_move (λ room effect. length (own_channels (after room effect) me)
    ≡ channels_by me.nick (length (own_channels room me)) (Do effect))
    (λ room who name op outside.
    let o = row room.channels (key name) in
    came (same who me.nick) (member_of (key me.nick) o)
    (member_of (key me.nick) (joins_row who name op o))
    (length (own_channels (alter_channel name (joins_row who name op) room) me))
    (length (own_channels room me))
    (counted (has_member (key me.nick)) (key name) (joins_row who name op) room.channels)
    (λ alike. by_nick room who me.nick name false outside alike)
    (ap is_some (join_flags who me.nick name op o outside) ∙ some_if (same who me.nick)
    (record { op = op; voice = false }) (flags_in (key me.nick) o)
    ∙ ap (cond (same who me.nick) true) (sym (member_by_flags (key me.nick) o))))
    (λ room who name text there. channels_left room who name there)
    (λ room by name who text there. channels_left room who name there)
  where
    channels_left : (room : Room) (who name : List ℕ) → is_member room who name ≡ true
        → length (own_channels (alter_channel name (leaves_row who) room) me)
        ≡ (if same who me.nick then length (own_channels room me) - 1
        else length (own_channels room me))
    channels_left room who name there =
        let o = row room.channels (key name) in
        went (same who me.nick) (member_of (key me.nick) o)
        (member_of (key me.nick) (leaves_row who o))
        (length (own_channels (alter_channel name (leaves_row who) room) me))
        (length (own_channels room me))
        (counted (has_member (key me.nick)) (key name) (leaves_row who) room.channels)
        (λ alike. by_nick room who me.nick name true there alike)
        (member_by_flags (key me.nick) (leaves_row who o)
        ∙ ap is_some (leave_flags who me.nick o there)
        ∙ none_if (same who me.nick) (flags_in (key me.nick) o)
        ∙ ap (cond (same who me.nick) false) (sym (member_by_flags (key me.nick) o)))

-- ---- many moves

module _ {A : Type 0} (ask : Room → A) (by : A → Act → A) (answered : (a : A) (reply : Reply)
    → by a (Answer reply) ≡ a) (told : (a : A) (line : ArrayVec ℕ) → by a (Raw line) ≡ a)
    (moved : (room : Room) (effect : Effect) → IsMove room effect
    → ask (after room effect) ≡ by (ask room) (Do effect)) where
  all_moved : (room : Room) (acts : List Act) → AreMoves room acts
      → ask (ahead room acts) ≡ fold by (ask room) acts
  all_moved room [] moves = refl
  all_moved room (Answer reply ∷ acts) moves =
      all_moved room acts moves ∙ ap (λ a. fold by a acts) (sym (answered (ask room) reply))
  all_moved room (Raw line ∷ acts) moves =
      all_moved room acts moves ∙ ap (λ a. fold by a acts) (sym (told (ask room) line))
  all_moved room (Do effect ∷ acts) moves = all_moved (after room effect) acts moves.later
      ∙ ap (λ a. fold by a acts) (moved room effect moves.now)

pub flags_ahead : (nick channel : List ℕ) (room : Room) (acts : List Act) → AreMoves room acts
    → flags_at (ahead room acts) (key nick) (key channel) ≡ fold (flags_by nick channel)
    (flags_at room (key nick) (key channel)) acts
flags_ahead nick channel =
    all_moved (λ room. flags_at room (key nick) (key channel)) (flags_by nick channel)
    (λ a reply. refl) (λ a line. refl) (flags_moved nick channel)

pub members_ahead : (channel : List ℕ) (room : Room) (acts : List Act) → AreMoves room acts
    → members_at (ahead room acts) (key channel) ≡ fold (members_by channel)
    (members_at room (key channel)) acts
members_ahead channel = all_moved (λ room. members_at room (key channel)) (members_by channel)
    (λ a reply. refl) (λ a line. refl) (members_moved channel)

pub channels_ahead : (me : User) (room : Room) (acts : List Act) → AreMoves room acts
    → length (own_channels (ahead room acts) me) ≡ fold (channels_by me.nick)
    (length (own_channels room me)) acts
channels_ahead me = all_moved (λ room. length (own_channels room me)) (channels_by me.nick)
    (λ a reply. refl) (λ a line. refl) (channels_moved me)

-- ---- a channel that members only leave is there under its name while some are left

abbrev name_of : Option Channel → Option (List ℕ)
name_of o = option_map (λ (c : Channel). c.name) o

-- the name of a channel that has so many members, where it has some
pub while_some : ℕ → Option (List ℕ) → Option (List ℕ)
while_some zero name = None
while_some (suc n) name = name

while_is : {X : Type 0} (xs : List X) (name : Option (List ℕ)) → is_nil xs ≡ false
    → while_some (length xs) name ≡ name
unfolding while_some
while_is [] name e = absurd (true≢false e)
while_is (x ∷ xs) name e = refl

leave_names : (who : List ℕ) (name : Option (List ℕ)) (o : Option Channel)
    → member_of (key who) o ≡ true → name_of o ≡ while_some (members_in o) name
    → name_of (leaves_row who o) ≡ while_some (members_in (leaves_row who o)) name
unfolding while_some
leave_names who name None there is = absurd (true≢false (sym there))
leave_names who name (Some c) there is =
    subst (λ now. name_of now ≡ while_some (members_in now) name) (sym (left_by (key who) c there))
    (by_nil (is_nil (keys (without (key who) c).members)) refl)
  where
    by_nil : (b : Bool) → is_nil (keys (without (key who) c).members) ≡ b
        → name_of (cond b None (Some (without (key who) c))) ≡ while_some
        (members_in (cond b None (Some (without (key who) c)))) name
    by_nil true nil = refl
    by_nil false some = is ∙ while_is (keys c.members) name (some_key c.members (key who) there)
        ∙ sym (while_is (keys (without (key who) c).members) name some)

abbrev IsNamed : List ℕ → Option (List ℕ) → Room → Type 0
IsNamed channel name room =
    name_of (row room.channels (key channel)) ≡ while_some (members_at room (key channel)) name

leave_named : (channel : List ℕ) (name : Option (List ℕ)) (room : Room) (who left_channel : List ℕ)
    → is_member room who left_channel ≡ true → IsNamed channel name room
    → IsNamed channel name (alter_channel left_channel (leaves_row who) room)
leave_named channel name room who left_channel there is =
    subst (λ o. name_of o ≡ while_some (members_in o) name)
    (sym (row_changed room left_channel channel (leaves_row who)))
    (by_name (same left_channel channel) refl)
  where
    o : Option Channel
    o = row room.channels (key channel)

    by_name : (b : Bool) → same left_channel channel ≡ b → name_of (cond b (leaves_row who o) o)
        ≡ while_some (members_in (cond b (leaves_row who o) o)) name
    by_name true alike =
        leave_names who name o (by_same room who left_channel channel true there alike) is
    by_name false other = is

keeps_named : (channel : List ℕ) (name : Option (List ℕ)) (room : Room) (effect : Effect)
    → IsLeave room effect → IsNamed channel name room → IsNamed channel name (after room effect)
unfolding after
keeps_named channel name room (Part who left_channel text) there is =
    leave_named channel name room who left_channel there is
keeps_named channel name room (Kick by left_channel who text) there is =
    leave_named channel name room who left_channel there is
keeps_named channel name room other there is = absurd there

first_named : (channel : List ℕ) (room : Room) → IsWellFormed room
    → IsNamed channel (name_of (row room.channels (key channel))) room
unfolding while_some
first_named channel room well = by_row (row room.channels (key channel))
    (λ c is. (well.channels_sound (key channel) c is).some_member)
  where
    by_row : (o : Option Channel) → ((c : Channel) → o ≡ Some c → is_nil (keys c.members) ≡ false)
        → name_of o ≡ while_some (members_in o) (name_of o)
    by_row None some = refl
    by_row (Some c) some = sym (while_is (keys c.members) (Some c.name) (some c refl))

pub named_ahead : (channel : List ℕ) (room : Room) (acts : List Act) → IsWellFormed room
    → AreLeaves room acts → name_of (row (ahead room acts).channels (key channel)) ≡ while_some
    (members_at (ahead room acts) (key channel)) (name_of (row room.channels (key channel)))
named_ahead channel room acts well leaves =
    let name = name_of (row room.channels (key channel)) in
    each-keeps IsLeave (IsNamed channel name) (keeps_named channel name) room
    (effects_among acts) leaves (first_named channel room well)

pub none_left : (n : ℕ) (name : Option (List ℕ)) → n ≡ 0 → while_some n name ≡ None
unfolding while_some
none_left zero name e = refl
none_left (suc n) name e = absurd (omega (arith, e))

pub some_left : (n : ℕ) (name : Option (List ℕ)) → n ≢ 0 → while_some n name ≡ name
unfolding while_some
some_left zero name e = absurd (e refl)
some_left (suc n) name e = refl

-- ---- what the room lists

pub members_found : (rows : List (Row Flags)) (o : Option Channel)
    → map row_entry rows ≡ listed.members_in o → length rows ≡ members_in o
members_found rows o is = sym (length-map rows row_entry) ∙ ap (λ es. length es) is ∙ by_channel o
  where
    by_channel : (o : Option Channel) → length (listed.members_in o) ≡ members_in o
    by_channel None = refl
    by_channel (Some c) = sym (length-map (entries c.members) (λ e. e.0))

pub own_are_few : (me : User) (room : Room) (rows : List (Row Channel))
    → map row_entry rows ≡ entries room.channels → length (own_channels room me) ≤ length rows
own_are_few me room rows is =
    let all : length (values room.channels) ≡ length rows = length-map (entries room.channels)
    (λ e. e.1) ∙ ap (λ es. length es) (sym is) ∙ length-map rows row_entry in
    omega (arith, all, passing_few (has_member (key me.nick)) (values room.channels))
