-- When a line says a deed, stands aside, or a deed passes a server by; and a server as a machine
-- that takes lines.
use Rattle.std.specs.Prelude.{◌≡◌, ◌≢◌, ◌≤◌, ◌⊎◌, ⊤, ℕ, ◌-◌, true, false, Option, Some, None, List}
use Rattle.std.specs.Prelude.{[], ◌∷◌, length, nat_eq, take, if◌then◌else◌}
use Rattle.std.specs.List.{filter_map, list_any, AllByRecursion}
use Rattle.std.specs.FinMap.{get, keys}
use Rattle.irc_batch.specs.Batches.{Sent, line_on}
use Rattle.irc_line.specs.Lines.{IsLine}
use Rattle.irc_line.specs.Reading.{read_of}
use Rattle.irc_names.specs.Fold.{key}
use Rattle.irc_names.specs.Names.{IsChannel}
use Rattle.irc_names.specs.Tables.{row}
use Rattle.irc_channels.specs.declared.channel.Channel.{Channel}
use Rattle.irc_channels.specs.declared.flags.Flags.{Flags}
use Rattle.irc_modes.specs.declared.modes.ModeChange.{ModeChange}
use Rattle.irc_modes.specs.Readable.{AreReadable}
use Rattle.irc_room.specs.effect.Effect.{Effect}
use Rattle.irc_room.specs.effect.Effect.TheVariants.{AddUser}
use Rattle.irc_room.specs.Effects.{is_idle, IsPossible}
use Rattle.irc_room.specs.InTurn.{EachInTurn}
use Rattle.irc_room.specs.Limits.{IsCarriedText, KeepsLimits}
use Rattle.irc_room.specs.Readers.{home_under}
use Rattle.irc_room.specs.Sendable.{IsSendable, IsSentChange, IsStoredNick}
use Rattle.irc_room.specs.Effects.{doer_of}
use Rattle.irc_merge.specs.Bursts.{members_a_line}
use Rattle.irc_merge.specs.CanBeDone.{DoesSomething}
use Rattle.irc_merge.specs.Deeds.{Deed, does, gains, loses, kills, brings, sets, tops, titled}
use Rattle.irc_merge.specs.Deeds.{effects_of}
use Rattle.irc_relay.specs.Links.{Name, same, toward, distance, AreLinked}
use Rattle.irc_relay.specs.Relay.{Machine, TakesFrom}
use Rattle.irc_relay.specs.Following.{Fact, Play, Terms}
use Rattle.irc_burst.specs.DeedsMeant.{Told, a_deed, a_server}
use Rattle.irc_stage.specs.Ways.{told_homes}
use Rattle.irc_stage.specs.View.{End, View}
use Rattle.irc_stage.specs.EffectTold.{Served}
use Rattle.irc_server.specs.Heard.{Heard, ignored, meets, password, tells, heard}
use Rattle.irc_server.specs.Owed.{lines_to}
use Rattle.irc_server.specs.Served.{link_says, served}
use Rattle.irc_follow.specs.Fits.{Fits}
use Rattle.irc_follow.specs.Tree.{told_token, CanGain, CanLose}
use Rattle.irc_follow.specs.SideState.{ItemSetting, SideState, number, info_in, is_home_of, done}
use Rattle.irc_follow.specs.SideState.{shown_at}
use Rattle.irc_follow.specs.SideState.{IsSoundSide}

-- ---- a server, line by line

-- what a server does with a line of its neighbour p
abbrev pub neighbour_served : ItemSetting → Name → View → List ℕ → Served
neighbour_served s p view line = served view (link_says (number s p) (read_of line))

-- a line without its CR LF
abbrev pub body : List ℕ → List ℕ
body line = take (length line - 2) line

abbrev pub line_on_link : ℕ → Sent → Option (List ℕ)
line_on_link link (line_on to line) = if nat_eq to link then Some (body line) else None
line_on_link link other = None

-- what is put out on a link
abbrev pub lines_on : ℕ → List Sent → List (List ℕ)
lines_on link out = filter_map (line_on_link link) out

-- as one client of the network sees it
abbrev pub machine : ItemSetting → ℕ → Machine View (List ℕ) (List ℕ)
machine s client = record {
  step = λ t p view line. (neighbour_served s p view line).state;
  sends = λ t p view line u. if same u p then []
      else lines_on (number s u) (neighbour_served s p view line).out;
  shows = λ t p view line. if is_home_of s.homes t client
      then lines_to client (neighbour_served s p view line).out else [];
}

-- ---- deeds that a line can say

-- a server is on the way on which each server of this side takes its lines
abbrev pub IsFar : ItemSetting → SideState → Name → Type 0
IsFar s w x = (t p : Name) → w.tree.here t ≡ true → TakesFrom s.streams t p
    → toward w.tree.forest t x ≡ p

-- a user who comes is of a server that is known, and is far
pub record ComesFrom (s : ItemSetting) (w : SideState) (home : Name) : Type 0 where
  pub known : w.tree.knows home ≡ true
  pub far : IsFar s w home

abbrev pub ComesFar : ItemSetting → SideState → Effect → Type 0
ComesFar s w (AddUser user) = ComesFrom s w user.home
ComesFar s w effect = ⊤

-- an effect that can be done and told, of a user of a far server
pub record IsDoableEffect (s : ItemSetting) (w : SideState) (effect : Effect) : Type 0 where
  pub possible : IsPossible w.hall.room effect
  pub busy : is_idle w.hall.room effect ≡ false
  pub sendable : IsSendable w.hall.room effect
  pub doer_far : (nick : List ℕ) (home : Name) → doer_of effect ≡ Some nick
      → home_under w.hall.room (key nick) ≡ Some home → IsFar s w home
  pub comes : ComesFar s w effect
  -- one that is told only where it matters is told while all who take lines are of this side
  pub everybody : (homes : List (List ℕ)) → told_homes w.hall.room effect ≡ Some homes
      → (u p : Name) → TakesFrom s.streams u p → w.tree.here u ≡ true

-- a server that comes to be known, behind far ones
pub record IsDoableGain (s : ItemSetting) (w : SideState) (uplink name info : List ℕ) : Type 0 where
  pub can : CanGain s.names (info_in s.settings) w.tree uplink name info
  pub far : IsFar s w name

-- ---- what the line of a server's deed can say to the next

-- a user of a far server
abbrev pub IsOfFar : ItemSetting → SideState → Option Name → Type 0
IsOfFar s w None = ⊥
IsOfFar s w (Some home) = IsFar s w home

-- one of some users is of a far server
abbrev pub IsOneOfFar : ItemSetting → SideState → List (List ℕ) → Type 0
IsOneOfFar s w [] = ⊥
IsOneOfFar s w (fold ∷ folds) = IsOfFar s w (home_under w.hall.room fold) ⊎ IsOneOfFar s w folds

-- a channel that is there, one of whose members is of a far server
abbrev pub HasOneOfFar : ItemSetting → SideState → Option Channel → Type 0
HasOneOfFar s w None = ⊥
HasOneOfFar s w (Some channel) = IsOneOfFar s w (keys channel.members)

-- a channel of which the line of a server counts: some user of a far server is in it
pub record IsFarChannel (s : ItemSetting) (w : SideState) (channel : List ℕ) : Type 0 where
  pub named : IsChannel channel
  pub some : HasOneOfFar s w (row w.hall.room.channels (key channel))

-- Changes of its modes that are read as they are written, with words that a line can carry. All of
-- them are told on, whether they raise something in the channel or not.
pub record AreToldChanges (s : ItemSetting) (w : SideState) (channel : List ℕ)
    (changes : List ModeChange) : Type 0 where
  pub far : IsFarChannel s w channel
  pub readable : AreReadable changes
  pub sent : AllByRecursion (IsSentChange w.hall.room) changes

-- a topic that a line can carry, which is told on likewise
pub record IsToldTopic (s : ItemSetting) (w : SideState) (channel topic : List ℕ) : Type 0 where
  pub far : IsFarChannel s w channel
  pub carried : IsCarriedText topic

-- members that one line brings, each a user of a far server, spelled as it is stored
pub record IsToldMember (s : ItemSetting) (w : SideState) (member : List ℕ × Flags) : Type 0 where
  pub stored : IsStoredNick w.hall.room member.0
  pub far : IsOfFar s w (home_under w.hall.room (key member.0))

pub record AreToldMembers (s : ItemSetting) (w : SideState) (channel : List ℕ)
    (members : List (List ℕ × Flags)) : Type 0 where
  pub named : IsChannel channel
  pub some : members ≢ []
  pub few : length members ≤ members_a_line
  pub each : AllByRecursion (IsToldMember s w) members

-- what a deed has to be so that its line is read as it by the next server, and none of it is cut
abbrev pub CanBeTold : ItemSetting → SideState → Deed → Type 0
CanBeTold s w (loses server name text) = IsCarriedText text
CanBeTold s w (brings server channel members) = AreToldMembers s w channel members
CanBeTold s w (sets server channel changes) = AreToldChanges s w channel changes
CanBeTold s w (tops server channel topic) = IsToldTopic s w channel topic
CanBeTold s w (does effect) = ⊤
CanBeTold s w (gains uplink name info) = ⊤
CanBeTold s w (kills server nick) = ⊤

-- A deed of a far server: each of its effects, if there are any, is possible in its turn, does
-- something, and keeps the limits; and a line can tell of it.
pub record IsDoableByServer (s : ItemSetting) (w : SideState) (server : Name)
    (deed : Deed) : Type 0 where
  pub known : w.tree.knows server ≡ true
  pub far : IsFar s w server
  pub each : EachInTurn DoesSomething (titled w.hall.room deed) (effects_of w.hall.room deed)
  pub within : AllByRecursion KeepsLimits (effects_of w.hall.room deed)
  pub told : CanBeTold s w deed

-- A server that is lost is far, and no server that takes lines is linked to it.
pub record IsDoableLoss (s : ItemSetting) (w : SideState) (server name text : List ℕ) : Type 0 where
  pub by_server : IsDoableByServer s w server (loses server name text)
  pub can : CanLose w.tree name
  pub far : IsFar s w name
  pub not_linked : (t p : Name) → w.tree.here t ≡ true → TakesFrom s.streams t p
      → AreLinked w.tree.forest t name → ⊥

-- A user is killed by a far server, or by the one that finds the nickname on both sides; it is
-- named as it is stored.
pub record IsDoableKill (s : ItemSetting) (w : SideState) (server nick : List ℕ) : Type 0 where
  pub known : w.tree.knows server ≡ true
  pub far_or_own : (t p : Name) → w.tree.here t ≡ true → TakesFrom s.streams t p
      → (t ≡ server) ⊎ (toward w.tree.forest t server ≡ p)
  pub stored : IsStoredNick w.hall.room nick

abbrev pub IsDoable : ItemSetting → SideState → Deed → Type 0
IsDoable s w (does effect) = IsDoableEffect s w effect
IsDoable s w (gains uplink name info) = IsDoableGain s w uplink name info
IsDoable s w (loses server name text) = IsDoableLoss s w server name text
IsDoable s w (kills server nick) = IsDoableKill s w server nick
IsDoable s w (brings server channel members) =
    IsDoableByServer s w server (brings server channel members)
IsDoable s w (sets server channel changes) =
    IsDoableByServer s w server (sets server channel changes)
IsDoable s w (tops server channel topic) = IsDoableByServer s w server (tops server channel topic)

-- ---- a line that says a deed

-- with the numbers that p's line has for t
abbrev pub told_as : ItemSetting → SideState → Name → Name → Deed → Told
told_as s w p t (gains uplink name info) =
    a_server uplink name (distance w.tree.forest t name) (told_token w.tree p name) info
told_as s w p t deed = a_deed deed

-- what t hears: p names itself, or tells of a deed
abbrev pub saying : ItemSetting → SideState → Name → Name → Deed → Heard
saying s w p t (gains uplink name info) =
    if same name p then meets name info else tells (told_as s w p t (gains uplink name info) ∷ [])
saying s w p t deed = tells (told_as s w p t deed ∷ [])

pub record Says (s : ItemSetting) (p t : Name) (w : SideState) (view : View) (deed : Deed)
    (line : List ℕ) : Type 0 where
  pub is_line : IsLine line
  pub end : End
  pub is_end : get view.ends (number s p) ≡ Some end
  pub means : heard view (number s p) end (read_of line) ≡ saying s w p t deed
  pub doable : IsDoable s w deed

-- ---- what says no deed

-- nothing comes of it, but for a password that is kept
abbrev pub IsNothing : Heard → Type 0
IsNothing ignored = ⊤
IsNothing (password word) = ⊤
IsNothing (tells []) = ⊤
IsNothing other = ⊥

pub record Aside (s : ItemSetting) (p t : Name) (w : SideState) (view : View)
    (line : List ℕ) : Type 0 where
  pub is_line : IsLine line
  pub end : End
  pub is_end : get view.ends (number s p) ≡ Some end
  pub nothing : IsNothing (heard view (number s p) end (read_of line))

-- An effect passes a server by of which it is not told: none of the servers that it is told toward
-- is on that server's side of the link to its parent.
pub record Passes (s : ItemSetting) (u : Name) (w : SideState) (effect : Effect) : Type 0 where
  pub takes : TakesFrom s.streams u (s.streams.parent u)
  pub sound : IsSoundSide s w
  pub doable : IsDoableEffect s w effect
  pub homes : List (List ℕ)
  pub told : told_homes w.hall.room effect ≡ Some homes
  pub elsewhere : list_any (λ home. same (toward w.tree.forest (s.streams.parent u) home) u) homes
      ≡ false

abbrev pub PassesBy : ItemSetting → Name → SideState → Deed → Type 0
PassesBy s u w (does effect) = Passes s u w effect
PassesBy s u w other = ⊥

-- ---- the network's play, as one client sees it

abbrev pub play : ItemSetting → ℕ → Play SideState Deed (List ℕ)
play s client = record { done = done s; seen = shown_at s client }

-- ---- the terms of following

-- how a server's lines are about its side; `good` is a fact of each line at its turn
abbrev pub terms : ItemSetting → Fact View (List ℕ) → Terms View (List ℕ) SideState Deed
terms s good = record {
  fits = Fits s;
  meet = λ t u one other. ⊤;
  says = Says s;
  aside = Aside s;
  passes = PassesBy s;
  good = good;
}
