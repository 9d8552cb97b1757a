-- Lines of wire that cross: the examples of `Changes.antt`, `Logs.antt` and `Hearing.antt`.
use Rattle.std.specs.Prelude.{◌≡◌, ℕ, suc, Bool, true, false, Option, Some, None, List, [], ◌∷◌}
use Rattle.std.specs.Prelude.{◌++◌, codes}
use Rattle.irc_line.specs.Bytes.{crlf}
use Rattle.irc_crossing.specs.Asking.{asked}
use Rattle.irc_crossing.specs.Hearing.{given, log_after, logged_of}
use Rattle.irc_crossing.specs.Logs.{put_out, unread}
use Rattle.irc_crossing.specs.Raising.{raises}
use Rattle.irc_crossing.specs.declared.change.Change.TheVariants.{Go, Rename}
use Rattle.irc_crossing.specs.declared.hearing.Given.{Given}
use Rattle.irc_crossing.specs.declared.hearing.Given.TheVariants.{AsItCame, Brings, Changed}
use Rattle.irc_crossing.specs.declared.hearing.Given.TheVariants.{LeftOut, Kills, Sets}
use Rattle.irc_crossing.specs.declared.log.Entry.{Entry}

-- the log of an end that has put out these lines, each in a piece of its own from a number on
abbrev pub log_of : ℕ → List (List ℕ) → List Entry → List Entry
log_of piece [] log = log
log_of piece (line ∷ lines) log =
    log_of (suc piece) lines (put_out piece (logged_of false line) log)

-- what a line is given as, where this one was put out
abbrev pub given_after : (out line : List ℕ) → Given
given_after out line = given (log_of 1 (out ∷ []) []) (codes "b.net") true line

-- a line in place of the one that has come
abbrev pub changed_to : List ℕ → Given
changed_to line = Changed (record { items = line ++ crlf })

-- ---- of two lines

-- names are followed
abbrev pub KickIsFollowed : Type 0
KickIsFollowed = given_after (codes ":al NICK ally") (codes ":bo KICK #c al :out")
    ≡ changed_to (codes ":bo KICK #c ally :out")

-- who is gone is left out
abbrev pub GoneIsLeftOut : Type 0
GoneIsLeftOut = given_after (codes ":a.net KILL bo :bad") (codes ":bo NICK bob") ≡ LeftOut

abbrev pub KillIsFollowed : Type 0
KillIsFollowed = given_after (codes ":bo NICK bob") (codes ":a.net KILL bo :bad")
    ≡ changed_to (codes ":a.net KILL bob :bad")

-- out of a channel once
abbrev pub PartIsLeftOut : Type 0
PartIsLeftOut =
    given_after (codes ":al KICK #c bo :out") (codes ":bo PART #c :bye") ≡ LeftOut

abbrev pub KickIsLeftOut : Type 0
KickIsLeftOut =
    given_after (codes ":bo PART #c :bye") (codes ":al KICK #c bo :out") ≡ LeftOut

-- two to one name: the server kills both upon the line; what is noted of this end's is that both go
abbrev pub MetIsGiven : Type 0
MetIsGiven = given_after (codes ":al NICK zed") (codes ":bo NICK zed") ≡ AsItCame

abbrev pub MetGoes : Type 0
MetGoes = log_after (log_of 1 (codes ":al NICK zed" ∷ []) []) (codes ":bo NICK zed")
    ≡ record { piece = 1; change = Some (Go (codes "zed") (Some (codes "al"))) } ∷ []

-- where who has taken it has yet another one by now, the server is told whom to kill
abbrev pub MetIsKilled : Type 0
MetIsKilled =
    given (log_of 1 (codes ":al NICK zed" ∷ codes ":zed NICK zoe" ∷ []) []) (codes "b.net") false
    (codes ":bo NICK zed")
    ≡ Kills (codes "zoe") (Some (codes "bo"))

-- ---- letters of a MODE

-- those of somebody who is out of the channel are left out
abbrev pub LetterIsLeftOut : Type 0
LetterIsLeftOut = given_after (codes ":al PART #c :bye") (codes ":bo MODE #c +ol al 5")
    ≡ changed_to (codes ":bo MODE #c +l 5")

-- and the line, where none is left
abbrev pub ModeIsLeftOut : Type 0
ModeIsLeftOut = given_after (codes ":al PART #c :bye") (codes ":bo MODE #c +o al") ≡ LeftOut

-- a key that is spelled like a nickname
abbrev pub KeyStays : Type 0
KeyStays = given_after (codes ":al NICK ally") (codes ":bo MODE #c +k al") ≡ AsItCame

-- ---- what both ends set at once

-- the greater topic stays, at both ends
abbrev pub TopicYields : Type 0
TopicYields = given_after (codes ":al TOPIC #c :two") (codes ":bo TOPIC #c :one") ≡ LeftOut

abbrev pub TopicStays : Type 0
TopicStays = given_after (codes ":al TOPIC #c :one") (codes ":bo TOPIC #c :two") ≡ AsItCame

-- the lesser key is left out of a MODE, and s is greater than p
abbrev pub KeyYields : Type 0
KeyYields = given_after (codes ":al MODE #c +k y") (codes ":bo MODE #c +ik x")
    ≡ changed_to (codes ":bo MODE #c +i")

abbrev pub PrivateYields : Type 0
PrivateYields = given_after (codes ":al MODE #c +s") (codes ":bo MODE #c +p") ≡ LeftOut

-- what is set stays over what is taken away; of another member, and of another ban, both do
abbrev pub OperatorStays : Type 0
OperatorStays = given_after (codes ":al MODE #c -o bea") (codes ":bo MODE #c +o bea") ≡ AsItCame

abbrev pub OthersStay : Type 0
OthersStay = given_after (codes ":al MODE #c +b a!*@*") (codes ":bo MODE #c -b b!*@*") ≡ AsItCame

-- ---- what somebody does who is gone: as by the server at the other end

abbrev pub set_to : List ℕ → Given
set_to line = Sets (record { items = line ++ crlf })

abbrev pub ModeIsSet : Type 0
ModeIsSet = given_after (codes ":a.net KILL bo :bad") (codes ":bo MODE #c +i")
    ≡ set_to (codes ":b.net MODE #c +i")

abbrev pub TopicIsSet : Type 0
TopicIsSet = given_after (codes ":a.net KILL bo :bad") (codes ":bo TOPIC #c :x")
    ≡ set_to (codes ":b.net TOPIC #c :x")

abbrev pub KickIsSet : Type 0
KickIsSet = given_after (codes ":a.net KILL bo :bad") (codes ":bo KICK #c al :out")
    ≡ set_to (codes ":b.net KICK #c al :out")

-- what it sets of itself goes with it, be it mode i or that it is away; so it is where somebody
-- else has taken the nickname. Nobody sets it but itself, so nothing is logged of it.
pub record OwnGoesWithIt : Type 0 where
  pub mode : given_after (codes ":a.net KILL bo :bad") (codes ":bo MODE bo +i") ≡ LeftOut
  pub away : given_after (codes ":a.net KILL bo :bad") (codes ":bo MODE bo +a :at lunch")
      ≡ LeftOut
  pub next : given_after (codes "NICK bo 1 u h 1 + :Bo") (codes ":bo MODE bo -a") ≡ LeftOut
  pub logged : log_of 1 (codes ":al MODE al +a :out" ∷ codes ":al MODE al +i" ∷ []) [] ≡ []

-- ---- a channel that is begun at both ends

abbrev pub begun : List ℕ → List ℕ
begun line = line ++ 7 ∷ codes "o"

abbrev pub OperatorIsBrought : Type 0
OperatorIsBrought = given_after (begun (codes ":al JOIN #c")) (begun (codes ":bo JOIN #C"))
    ≡ Brings (codes "bo") (codes "#c") true

-- it is one from then on: what is set in it stays
abbrev pub BegunIsOne : Type 0
BegunIsOne = given (log_after (log_of 1 (begun (codes ":al JOIN #c") ∷ []) [])
    (begun (codes ":bo JOIN #c"))) (codes "b.net") true (codes ":bo MODE #c +i") ≡ AsItCame

-- also where it was begun here twice: behind the first it is one with the other end's
abbrev pub begun_twice : List (List ℕ)
begun_twice = begun (codes ":al JOIN #c") ∷ codes ":al PART #c :bye"
    ∷ begun (codes ":al JOIN #c") ∷ []

abbrev pub BegunTwiceIsOne : Type 0
BegunTwiceIsOne = given (log_after (log_of 1 begun_twice []) (begun (codes ":bo JOIN #c")))
    (codes "b.net") true (codes ":bo MODE #c +i") ≡ AsItCame

-- ---- a channel that has ended at one end

abbrev pub ended : List (List ℕ)
ended = codes ":al KICK #c bo :out" ∷ codes ":al PART #c :bye" ∷ []

abbrev pub begun_anew : List (List ℕ)
begun_anew = ended ++ begun (codes ":ann JOIN #c") ∷ []

-- nothing is set in the next channel of a name
abbrev pub NextIsUnset : Type 0
NextIsUnset =
    given (log_of 1 begun_anew []) (codes "b.net") true (codes ":bo MODE #c +i") ≡ LeftOut

-- how a channel is spelled: the greater stays, and nothing in the next of its name
pub record SpellingStays : Type 0 where
  pub lesser : given_after (codes ":a.net NJOIN #c :") (codes ":b.net NJOIN #C :") ≡ LeftOut
  pub greater : given_after (codes ":a.net NJOIN #C :") (codes ":b.net NJOIN #c :") ≡ AsItCame
  pub next : given (log_of 1 begun_anew []) (codes "b.net") true (codes ":b.net NJOIN #c :")
      ≡ LeftOut

-- what a server raises counts, though whoever it came with was taken out here
pub record RaisesBehindOut : Type 0 where
  pub modes : raises (log_of 1 ended []) (codes ":b.net MODE #c +k x") ≡ true
  pub topic : raises (log_of 1 ended []) (codes ":b.net TOPIC #c :hello") ≡ true
  pub elsewhere : raises (log_of 1 ended []) (codes ":b.net MODE #d +k x") ≡ false
  pub user : raises (log_of 1 ended []) (codes ":bea MODE #c +k x") ≡ false

-- who comes to one that has ended here brings it, by the greatest of its spellings
pub record ComerIsBrought : Type 0 where
  pub anew : given (log_of 1 ended []) (codes "b.net") false (codes ":bea JOIN #c")
      ≡ Brings (codes "bea") (codes "#c") false
  pub spelled : given (log_of 1 (begun (codes ":al JOIN #c") ∷ codes ":al PART #c :bye" ∷ []) [])
      (codes "b.net") false (begun (codes ":bea JOIN #C"))
      ≡ Brings (codes "bea") (codes "#c") true
  pub other : given (log_of 1 ended []) (codes "b.net") false (codes ":bea JOIN #d") ≡ AsItCame

-- the channel that is asked for, where these lines were put out
abbrev pub asked_after : List (List ℕ) → Bool → List ℕ → Option (List ℕ)
asked_after outs is_held line = asked (log_of 1 outs []) (codes "b.net") is_held line

-- one that has ended here, by a PART, by a QUIT, or as a server was lost
pub record EndedIsAsked : Type 0 where
  pub out : asked_after ended false (codes ":bea JOIN #c") ≡ Some (codes "#c")
  pub gone : asked_after (codes ":al QUIT :bye" ∷ []) false (codes ":bea JOIN #c")
      ≡ Some (codes "#c")
  pub lost : asked_after (codes ":a.net SQUIT c.net :a.net c.net" ∷ []) false
      (codes ":bea JOIN #c") ≡ Some (codes "#c")
  pub far : asked_after (codes ":al QUIT :bye" ∷ []) false (codes ":c.net NJOIN #c :cy")
      ≡ Some (codes "#c")

-- also where one has begun here since, of which an NJOIN that is passed on does not tell
pub record BegunIsAsked : Type 0 where
  pub anew : asked_after begun_anew true (codes ":bea JOIN #c") ≡ Some (codes "#c")
  pub passed_on : asked (put_out 1 (logged_of true (codes ":c.net NJOIN #c :cy")) [])
      (codes "b.net") true (codes ":bea JOIN #c") ≡ Some (codes "#c")

-- not one that is here, nor one of which nothing was told; and none as the other end tells of all
pub record OthersAreNotAsked : Type 0 where
  pub held : asked_after ended true (codes ":bea JOIN #c") ≡ None
  pub other : asked_after ended false (codes ":bea JOIN #d") ≡ None
  pub told : asked_after (codes ":al QUIT :bye" ∷ []) false (codes ":b.net NJOIN #c :bea")
      ≡ None

-- ---- of whom a line is, and for whom

abbrev pub TextIsLeftOut : Type 0
TextIsLeftOut =
    given_after (codes ":a.net KILL bo :bad") (codes ":bo PRIVMSG #c :hello") ≡ LeftOut

abbrev pub InviteIsLeftOut : Type 0
InviteIsLeftOut = given_after (codes ":a.net KILL bo :bad") (codes ":bea INVITE bo #c") ≡ LeftOut

-- somebody else who has the nickname by now is not killed
abbrev pub NextIsSpared : Type 0
NextIsSpared =
    given_after (codes "NICK al 1 u h 1 + :Al") (codes ":b.net KILL al :bad") ≡ LeftOut

-- ---- a log

-- a.net has put out a change of a nickname and a KILL, as its pieces 5 and 6
abbrev pub two_put_out : List Entry
two_put_out = log_of 5 (codes ":al NICK ally" ∷ codes ":a.net KILL bo :bad" ∷ []) []

-- these, of which the second kills this nickname
abbrev pub two_of : List ℕ → List Entry
two_of nick = record { piece = 5; change = Some (Rename (codes "al") (codes "ally")) }
    ∷ record { piece = 6; change = Some (Go nick None) } ∷ []

abbrev pub bob_comes : List Entry
bob_comes = log_after two_put_out (codes ":bo NICK bob")

abbrev pub rob_comes : List Entry
rob_comes = log_after bob_comes (codes ":bob NICK rob")

-- who is killed goes on to another nickname and another one, and both times nothing is given
pub record KilledIsFollowed : Type 0 where
  pub before : two_put_out ≡ two_of (codes "bo")
  pub bob : given two_put_out (codes "b.net") false (codes ":bo NICK bob") ≡ LeftOut
  pub log_bob : bob_comes ≡ two_of (codes "bob")
  pub rob : given bob_comes (codes "b.net") false (codes ":bob NICK rob") ≡ LeftOut
  pub log_rob : rob_comes ≡ two_of (codes "rob")
  pub read : unread 6 rob_comes ≡ []
