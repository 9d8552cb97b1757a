-- What holds of lines that cross, whatever is in the log and whatever comes.
use Rattle.std.specs.Prelude.{◌≡◌, ℕ, Bool, true, false, ◌||◌, Option, Some, None, Ok}
use Rattle.std.specs.Prelude.{List, [], ◌∷◌, length}
use Rattle.std.specs.Bool.{⊤}
use Rattle.std.specs.Option.{option_and_then, option_map_or}
use Rattle.irc_line.specs.Messages.{Parsed}
use Rattle.irc_line.specs.Reading.{read_of}
use Rattle.irc_names.specs.Fold.{same}
use Rattle.irc_names.specs.Names.{is_nick}
use Rattle.irc_crossing.specs.Asking.{asked}
use Rattle.irc_crossing.specs.Changes.{crossed, member_now, nick_now, taken_by}
use Rattle.irc_crossing.specs.Hearing.{given, log_after}
use Rattle.irc_crossing.specs.Lines.{is_kick_line, is_mode_line, is_nick_line, is_topic_line}
use Rattle.irc_crossing.specs.Logs.{means}
use Rattle.irc_crossing.specs.Raising.{raises}
use Rattle.irc_crossing.specs.declared.change.Change.{Change}
use Rattle.irc_crossing.specs.declared.change.Change.TheVariants.{Come, Rename, Go, Out, Join, Set}
use Rattle.irc_crossing.specs.declared.hearing.Given.TheVariants.{AsItCame, LeftOut}
use Rattle.irc_crossing.specs.declared.log.Entry.{Entry}

-- ---- nothing has crossed

-- Each line is given as it came,
abbrev pub NothingIsChanged : Type 0
NothingIsChanged =
    (peer : List ℕ) (is_held : Bool) (line : List ℕ) → given [] peer is_held line ≡ AsItCame

-- and the log stays empty.
abbrev pub NothingIsLogged : Type 0
NothingIsLogged = (line : List ℕ) → log_after [] line ≡ []

-- Nothing is asked for,
abbrev pub NothingIsAsked : Type 0
NothingIsAsked =
    (peer : List ℕ) (is_held : Bool) (line : List ℕ) → asked [] peer is_held line ≡ None

-- and what a server raises is for the server to take.
abbrev pub NothingIsRaised : Type 0
NothingIsRaised = (line : List ℕ) → raises [] line ≡ false

-- ---- how long a log is

-- No line that comes makes a log longer: of each change that was put out one is left, or none.
abbrev pub LogsStayAsLong : Type 0
LogsStayAsLong = (log : List Entry) (line : List ℕ) → length (log_after log line) ≡ length log

-- ---- nicknames, by the first change of a log

-- a change that was put out
abbrev pub put_out_in : ℕ → Change → Entry
put_out_in piece change = record { piece = piece; change = Some change }

-- Whoever has taken another nickname is meant by the old one,
abbrev pub NamesAreFollowed : Type 0
NamesAreFollowed =
    (piece : ℕ) (old new : List ℕ) (log : List Entry) → same old new ≡ false
    → means (put_out_in piece (Rename old new) ∷ log) old ≡ means log new

-- and nobody is by one that somebody else has taken since.
abbrev pub ComersAreOthers : Type 0
ComersAreOthers = (piece : ℕ) (nick : List ℕ) (log : List Entry)
    → means (put_out_in piece (Come nick) ∷ log) nick ≡ None

abbrev pub TakersAreOthers : Type 0
TakersAreOthers =
    (piece : ℕ) (old new : List ℕ) (log : List Entry) → same old new ≡ false
    → means (put_out_in piece (Rename old new) ∷ log) new ≡ None

-- Whether a line is one of those that are done for somebody who is gone.
abbrev pub is_done_for : Parsed → Bool
is_done_for message = is_kick_line message || (is_topic_line message || is_mode_line message)

-- What somebody does who is gone is left out, where it is no NICK, and none of those.
abbrev pub WhoIsGoneIsLeftOut : Type 0
WhoIsGoneIsLeftOut =
    (piece : ℕ) (nick : List ℕ) (log : List Entry) (line : List ℕ) (message : Parsed)
    → read_of line ≡ Ok message → message.prefix ≡ Some nick → is_nick nick ≡ true
    → is_nick_line message ≡ false → is_done_for message ≡ false
    → (peer : List ℕ) (is_held : Bool)
    → given (put_out_in piece (Go nick None) ∷ log) peer is_held line ≡ LeftOut

-- ---- two who take one nickname

-- who takes a nickname by a change, as it was known before
abbrev pub taker : Change → Option (List ℕ)
taker (Come nick) = None
taker (Rename nick new) = Some nick
taker (Go nick other) = None
taker (Out nick channel) = None
taker (Join channel begins) = None
taker (Set setting) = None

-- Both go at each end: who has it there by then, and who was to take it.
pub record BothGo (theirs ours : Change) (their_new our_new : List ℕ) : Type 0 where
  pub here : crossed theirs ours ≡ Some (Go their_new (taker theirs))
  pub there : crossed ours theirs ≡ Some (Go our_new (taker ours))

abbrev pub TwoToOneNameGo : Type 0
TwoToOneNameGo =
    (theirs ours : Change) (their_new our_new : List ℕ) → taken_by theirs ≡ Some their_new
    → taken_by ours ≡ Some our_new → same their_new our_new ≡ true
    → BothGo theirs ours their_new our_new

-- ---- the same users at both ends

-- Who has a nickname: names that are the same are of one user.
abbrev pub AreNames : (here : List ℕ → Bool) → Type 0
AreNames here = (one other : List ℕ) → same one other ≡ true → here one ≡ here other

-- a nickname that somebody has, for one that is free, or another spelling
pub record MayRename (here : List ℕ → Bool) (nick new : List ℕ) : Type 0 where
  pub had : here nick ≡ true
  pub free : same nick new ≡ false → here new ≡ false

-- one, or two, that somebody has
pub record MayGo (here : List ℕ → Bool) (nick : List ℕ) (other : Option (List ℕ)) : Type 0 where
  pub one : here nick ≡ true
  pub second : option_map_or here other true ≡ true

-- a change that can be done among these
abbrev pub IsPossible : (here : List ℕ → Bool) → Change → Type 0
IsPossible here (Come nick) = here nick ≡ false
IsPossible here (Rename nick new) = MayRename here nick new
IsPossible here (Go nick other) = MayGo here nick other
IsPossible here (Out nick channel) = here nick ≡ true
IsPossible here (Join channel begins) = ⊤
IsPossible here (Set setting) = ⊤

-- one end alone gives a user another nickname
abbrev pub AreOfTwo : (theirs ours : Change) → Type 0
AreOfTwo (Rename one new) (Rename other second) = same one other ≡ false
AreOfTwo (Rename one new) (Come nick) = ⊤
AreOfTwo (Rename one new) (Go nick other) = ⊤
AreOfTwo (Rename one new) (Out nick channel) = ⊤
AreOfTwo (Rename one new) (Join channel begins) = ⊤
AreOfTwo (Rename one new) (Set setting) = ⊤
AreOfTwo (Come nick) ours = ⊤
AreOfTwo (Go nick other) ours = ⊤
AreOfTwo (Out nick channel) ours = ⊤
AreOfTwo (Join channel begins) ours = ⊤
AreOfTwo (Set setting) ours = ⊤

-- the nickname behind what is left of a change
abbrev pub nick_after : Option Change → List ℕ → Option (List ℕ)
nick_after change nick = option_map_or (λ it. nick_now it nick) change (Some nick)

-- and behind one change and what becomes of the other
abbrev pub nick_behind_both : (theirs ours : Change) → List ℕ → Option (List ℕ)
nick_behind_both theirs ours nick =
    option_and_then (nick_after (crossed theirs ours)) (nick_now ours nick)

-- The same of a member of a channel.
abbrev pub member_after : Option Change → (channel nick : List ℕ) → Option (List ℕ)
member_after change channel nick =
    option_map_or (λ it. member_now it channel nick) change (Some nick)

abbrev pub member_behind_both : (theirs ours : Change) → (channel nick : List ℕ) → Option (List ℕ)
member_behind_both theirs ours channel nick =
    option_and_then (member_after (crossed theirs ours) channel) (member_now ours channel nick)

-- Each end does its own change, and then what becomes of the other's: whoever was there has one
-- nickname at both ends then, or is gone at both; and a member of a channel is one at both.
pub record AreAgreed (theirs ours : Change) (nick : List ℕ) : Type 0 where
  pub nicks : nick_behind_both theirs ours nick ≡ nick_behind_both ours theirs nick
  pub members : (channel : List ℕ)
      → member_behind_both theirs ours channel nick ≡ member_behind_both ours theirs channel nick

abbrev pub BothEndsAgree : Type 0
BothEndsAgree =
    (here : List ℕ → Bool) (theirs ours : Change) → AreNames here → IsPossible here theirs
    → IsPossible here ours → AreOfTwo theirs ours
    → (nick : List ℕ) → here nick ≡ true → AreAgreed theirs ours nick

-- So it is with somebody who comes by a change: that one comes at the other end too, or is gone.
abbrev pub NewcomersAgree : Type 0
NewcomersAgree =
    (here : List ℕ → Bool) (nick : List ℕ) (ours : Change) → AreNames here → here nick ≡ false
    → IsPossible here ours
    → nick_after (crossed ours (Come nick)) nick
    ≡ option_and_then taken_by (crossed (Come nick) ours)
