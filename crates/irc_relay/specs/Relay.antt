-- Machines that take lines from one neighbour and pass lines on to the others: what is still coming
-- to a server, what its state will be after that, and what it will have shown.
use Rattle.std.specs.Prelude.{◌≡◌, ◌≢◌, ℕ, ◌+◌, ◌<◌, ◌≤◌, zero, suc, Bool, true, if◌then◌else◌}
use Rattle.std.specs.Prelude.{List, [], ◌∷◌, ◌++◌, ◌⊎◌, length, sum_by, count_by}
use Rattle.irc_relay.specs.Links.{Name, same, Link, toward, distance, joined, AreLinked, AreJoined}

-- what each server does with a line. The names are the server's and that of the neighbour whom the
-- line comes from
pub record Machine (State Line Shown : Type 0) : Type 0 where
  pub step : Name → Name → State → Line → State
  pub sends : Name → Name → State → Line → Name → List Line
  pub shows : Name → Name → State → Line → List Shown

-- a network at one moment: each server's state, what it has shown so far, the lines on their way
-- from one server to another, oldest first, and those that a server owes another, which it sends
-- with the next line that it takes
pub record RelayState (State Line Shown : Type 0) : Type 0 where
  pub state : Name → State
  pub shown : Name → List Shown
  pub queue : Name → Name → List Line
  pub owed : Name → Name → List Line

-- where lines come from: each server's neighbour toward its source, and how far away that source
-- is. A server at no distance from its source takes no lines
pub record Streams : Type 0 where
  pub parent : Name → Name
  pub depth : Name → ℕ

-- each server takes what comes along the links from its source
abbrev pub streams_from : List Link → (Name → Name) → Streams
streams_from links source = record {
  parent = λ t. toward links t (source t);
  depth = λ t. distance links t (source t);
}

-- two servers have one source, or each is the source of the other, or each is its own
pub data SourcesMeet (source : Name → Name) (t u : Name) : Type 0 where
  one : source t ≡ source u → SourcesMeet source t u
  each_other : source t ≡ u → source u ≡ t → SourcesMeet source t u
  own : source t ≡ t → source u ≡ u → SourcesMeet source t u

-- each source is joined to the server whose source it is, and the sources of linked servers meet
pub record Covers (links : List Link) (source : Name → Name) : Type 0 where
  pub joined : (t : Name) → AreJoined links t (source t)
  pub linked : (t u : Name) → AreLinked links t u → SourcesMeet source t u

-- s is the source of its whole part. A server that is not joined to it is its own source, and takes
-- nothing
abbrev pub from_one : List Link → Name → Name → Name
from_one links s t = if joined links t s then s else t

-- the ends a and b of a new link over these links are each the source of the other's side
abbrev pub from_other_end : List Link → Name → Name → Name → Name
from_other_end links a b t = if joined links t a then b else if joined links t b then a else t

-- the ends a and b of a link that is gone are each the source of what is still joined to it
abbrev pub from_near_end : List Link → Name → Name → Name → Name
from_near_end links a b t = if joined links t a then a else if joined links t b then b else t

-- the streams while a new link l over these links is being made, each end the source of the other's
-- side: its ends take from each other, and all others from their neighbour toward their own side's
-- end
pub record MeetOver (l : Link) (links : List Link) (streams : Streams) : Type 0 where
  pub near_parent : streams.parent l.near ≡ l.far
  pub near_depth : streams.depth l.near ≡ 1
  pub far_parent : streams.parent l.far ≡ l.near
  pub far_depth : streams.depth l.far ≡ 1
  pub near_side : (t : Name) → AreJoined links t l.near → t ≢ l.near
      → (streams.parent t ≡ toward links t l.near)
      × (streams.depth t ≡ suc (distance links t l.near))
  pub far_side : (t : Name) → AreJoined links t l.far → t ≢ l.far
      → (streams.parent t ≡ toward links t l.far) × (streams.depth t ≡ suc (distance links t l.far))

-- the server t, with its neighbour p, after these lines from p
abbrev pub after : {State Line Shown : Type 0} → Machine State Line Shown → Name → Name → State
    → List Line → State
after m t p s [] = s
after m t p s (line ∷ lines) = after m t p (m.step t p s line) lines

-- what it sends to u upon them
abbrev pub passed_on : {State Line Shown : Type 0} → Machine State Line Shown → Name → Name → State
    → List Line → Name → List Line
passed_on m t p s [] u = []
passed_on m t p s (line ∷ lines) u =
    m.sends t p s line u ++ passed_on m t p (m.step t p s line) lines u

-- what it shows upon them
abbrev pub shown_upon : {State Line Shown : Type 0} → Machine State Line Shown → Name → Name → State
    → List Line → List Shown
shown_upon m t p s [] = []
shown_upon m t p s (line ∷ lines) = m.shows t p s line ++ shown_upon m t p (m.step t p s line) lines

-- what is under way from x to y: what is on its way, and then what is owed
abbrev pub under_way : {State Line Shown : Type 0} → RelayState State Line Shown → Name → Name
    → List Line
under_way net x y = net.queue x y ++ net.owed x y

-- what will come to t from a source n links away: what is under way from its parent, and then what
-- its parent will pass on of what will come to that one
unfoldable pub coming_within : {State Line Shown : Type 0} → Machine State Line Shown → Streams
    → RelayState State Line Shown → ℕ → Name → List Line
coming_within m streams net zero t = []
coming_within m streams net (suc n) t =
    under_way net (streams.parent t) t
    ++ passed_on m (streams.parent t) (streams.parent (streams.parent t))
    (net.state (streams.parent t)) (coming_within m streams net n (streams.parent t)) t

-- what is coming to t
abbrev pub coming : {State Line Shown : Type 0} → Machine State Line Shown → Streams
    → RelayState State Line Shown → Name → List Line
coming m streams net t = coming_within m streams net (streams.depth t) t

-- what is coming to t, by where it comes from: a server at no distance from its source takes
-- nothing, one that is linked to its source takes what is under way from it, and any other takes
-- what is under way from its parent and what that will pass on
pub data ComesInTurn {State Line Shown : Type 0} (m : Machine State Line Shown) (streams : Streams)
    (net : RelayState State Line Shown) (t : Name) : Type 0 where
  at_source : streams.depth t ≡ 0 → coming m streams net t ≡ [] → ComesInTurn m streams net t
  from_source : streams.depth t ≡ 1 → coming m streams net t ≡ under_way net (streams.parent t) t
      → ComesInTurn m streams net t
  from_parent : 0 < streams.depth (streams.parent t)
      → streams.depth t ≡ suc (streams.depth (streams.parent t))
      → coming m streams net t ≡ under_way net (streams.parent t) t
      ++ passed_on m (streams.parent t) (streams.parent (streams.parent t))
      (net.state (streams.parent t)) (coming m streams net (streams.parent t)) t
      → ComesInTurn m streams net t

-- t's state after all that is coming to it
abbrev pub final : {State Line Shown : Type 0} → Machine State Line Shown → Streams
    → RelayState State Line Shown → Name → State
final m streams net t = after m t (streams.parent t) (net.state t) (coming m streams net t)

-- all that t has shown by then
abbrev pub final_shown : {State Line Shown : Type 0} → Machine State Line Shown → Streams
    → RelayState State Line Shown → Name → List Shown
final_shown m streams net t =
    net.shown t ++ shown_upon m t (streams.parent t) (net.state t) (coming m streams net t)

-- nothing is under way
abbrev pub IsAtRest : {State Line Shown : Type 0} → RelayState State Line Shown → Type 0
IsAtRest net = (x y : Name) → under_way net x y ≡ []

-- y takes lines, from x
pub record TakesFrom (streams : Streams) (y x : Name) : Type 0 where
  pub parent : streams.parent y ≡ x
  pub below : 0 < streams.depth y

-- whatever is under way comes to a server from its parent
abbrev pub GoesAway : {State Line Shown : Type 0} → Streams → RelayState State Line Shown → Type 0
GoesAway {State} {Line} {Shown} streams net = (x y : Name) (line : Line) (lines : List Line)
    → under_way net x y ≡ line ∷ lines → TakesFrom streams y x

-- a line does nothing at this state of y, if it comes from x
pub record IsHarmless {State Line Shown : Type 0} (m : Machine State Line Shown) (y x : Name)
    (s : State) (line : Line) : Type 0 where
  pub same_state : m.step y x s line ≡ s
  pub shows_none : m.shows y x s line ≡ []
  pub sends_none : (u : Name) → m.sends y x s line u ≡ []

abbrev pub AreHarmless : {State Line Shown : Type 0} → Machine State Line Shown → Name → Name
    → State → List Line → Type 0
AreHarmless m y x s [] = Unit
AreHarmless m y x s (line ∷ lines) = IsHarmless m y x s line × AreHarmless m y x s lines

-- t takes the oldest line on its way from p: it steps and shows, what it sends on is put behind
-- what was under way, with what it owed, and perhaps some lines back to p. Nothing else changes
pub record Delivers {State Line Shown : Type 0} (m : Machine State Line Shown) (p t : Name)
    (line : Line) (back : List Line)
    (old new : RelayState State Line Shown) : Type 0 where
  pub took : old.queue p t ≡ line ∷ new.queue p t
  pub moved : new.state t ≡ m.step t p (old.state t) line
  pub showed : new.shown t ≡ old.shown t ++ m.shows t p (old.state t) line
  pub sent : (u : Name) → u ≢ p → under_way new t u ≡ under_way old t u
      ++ m.sends t p (old.state t) line u
  pub returned : under_way new t p ≡ under_way old t p ++ back
  pub other_queues : (x y : Name) → x ≢ t → (x ≡ p → y ≡ t → ⊥) → new.queue x y ≡ old.queue x y
  pub other_debts : (x y : Name) → x ≢ t → new.owed x y ≡ old.owed x y
  pub other_states : (u : Name) → u ≢ t → new.state u ≡ old.state u
  pub other_shown : (u : Name) → u ≢ t → new.shown u ≡ old.shown u

-- t passes this line from p on to neighbours alone, and never to p itself; what it returns to p
-- does nothing there, once p has taken all that is coming to it, and is returned only where p takes
-- lines from t, as its source
pub record Relays {State Line Shown : Type 0} (m : Machine State Line Shown) (links : List Link)
    (streams : Streams) (p t : Name) (line : Line)
    (back : List Line) (net : RelayState State Line Shown) : Type 0 where
  pub no_echo : m.sends t p (net.state t) line p ≡ []
  pub to_linked : (u : Name) (next : Line) (lines : List Line)
      → m.sends t p (net.state t) line u ≡ next ∷ lines → AreLinked links t u
  pub back_to_end : (next : Line) (lines : List Line) → back ≡ next ∷ lines
      → (streams.parent p ≡ t) × (streams.depth p ≡ 1)
  pub back_harmless : AreHarmless m p t (final m streams net p) back

-- the same, where t pays all that it owed: what it owed goes on its way behind what was there, and
-- then what it sends on
pub record Pays {State Line Shown : Type 0} (m : Machine State Line Shown) (p t : Name)
    (line : Line) (back : List Line)
    (old new : RelayState State Line Shown) : Type 0 where
  pub took : old.queue p t ≡ line ∷ new.queue p t
  pub moved : new.state t ≡ m.step t p (old.state t) line
  pub showed : new.shown t ≡ old.shown t ++ m.shows t p (old.state t) line
  pub paid : (u : Name) → new.owed t u ≡ []
  pub sent : (u : Name) → u ≢ p → new.queue t u ≡ (old.queue t u ++ old.owed t u)
      ++ m.sends t p (old.state t) line u
  pub returned : new.queue t p ≡ (old.queue t p ++ old.owed t p) ++ back
  pub other_queues : (x y : Name) → x ≢ t → (x ≡ p → y ≡ t → ⊥) → new.queue x y ≡ old.queue x y
  pub other_debts : (x y : Name) → x ≢ t → new.owed x y ≡ old.owed x y
  pub other_states : (u : Name) → u ≢ t → new.state u ≡ old.state u
  pub other_shown : (u : Name) → u ≢ t → new.shown u ≡ old.shown u

-- each server's state and what it will have shown come out the same
pub record SameOutcome {State Line Shown : Type 0} (m : Machine State Line Shown)
    (streams : Streams) (old new : RelayState State Line Shown) : Type 0 where
  pub same_final : (u : Name) → final m streams new u ≡ final m streams old u
  pub same_told : (u : Name) → final_shown m streams new u ≡ final_shown m streams old u

-- what is coming changes by this alone: t, which took the line from p, has it no longer to come,
-- and what it returned comes to p last
pub record ComesOn {State Line Shown : Type 0} (m : Machine State Line Shown) (streams : Streams)
    (p t : Name) (line : Line) (back : List Line)
    (old new : RelayState State Line Shown) : Type 0 where
  pub taken : coming m streams old t ≡ line ∷ coming m streams new t
  pub returned : coming m streams new p ≡ coming m streams old p ++ back
  pub steady : (u : Name) → u ≢ t → u ≢ p → coming m streams new u ≡ coming m streams old u

-- this many deliveries, in any order, lead from one net to another
pub data Reaches {State Line Shown : Type 0} (m : Machine State Line Shown) (links : List Link)
    (streams : Streams) (start : RelayState State Line Shown) : ℕ
    → RelayState State Line Shown → Type 0 where
  stays : Reaches m links streams start zero start
  goes_on : {n : ℕ} {mid new : RelayState State Line Shown} (p t : Name) (line : Line)
      (back : List Line) → Reaches m links streams start n mid → Delivers m p t line back mid new
      → Relays m links streams p t line back mid → Reaches m links streams start (suc n) new

-- how many lines are coming to these servers, together
abbrev pub lines_coming : {State Line Shown : Type 0} → Machine State Line Shown → Streams
    → RelayState State Line Shown → List Name → ℕ
lines_coming m streams net servers = sum_by (λ u. length (coming m streams net u)) servers

-- the same, with those lines counted twice that come to a or b and may be answered by a line back
abbrev pub lines_pending : {State Line Shown : Type 0} → Machine State Line Shown → Streams
    → RelayState State Line Shown → List Name → (Line → Bool) → Name → Name → ℕ
lines_pending m streams net servers answered a b =
    lines_coming m streams net servers + count_by answered (coming m streams net a)
    + count_by answered (coming m streams net b)

-- at most one line is returned, on a line that may be answered, between a and b alone, and may not
-- be answered itself
pub record AnswersOnce {Line : Type 0} (answered : Line → Bool) (a b p t : Name) (line : Line)
    (back : List Line) : Type 0 where
  pub at_most_one : length back ≤ 1
  pub not_again : count_by answered back ≡ 0
  pub only_upon : (next : Line) (lines : List Line) → back ≡ next ∷ lines → answered line ≡ true
  pub only_between : (next : Line) (lines : List Line) → back ≡ next ∷ lines
      → ((p ≡ a) × (t ≡ b)) ⊎ ((p ≡ b) × (t ≡ a))

-- each server that takes lines is in the list, once
abbrev pub IsCounted : Streams → List Name → Type 0
IsCounted streams servers = (t : Name) → 0 < streams.depth t → count_by (same t) servers ≡ 1

-- the first of two lists is a front of the second
abbrev pub IsFront : {A : Type 0} → List A → List A → Type 0
IsFront {A} xs ys = (rest : List A) × (xs ++ rest ≡ ys)

-- where a run has come to: each server's state and all that it will have shown come out as they
-- would at the start, what it has shown is a front of that, and at rest it is all of that
pub record IsOnTheWay {State Line Shown : Type 0} (m : Machine State Line Shown) (streams : Streams)
    (start now : RelayState State Line Shown) : Type 0 where
  pub outcome : SameOutcome m streams start now
  pub goes_away : GoesAway streams now
  pub front : (u : Name) → IsFront (now.shown u) (final_shown m streams start u)
  pub state_at_rest : (u : Name) → IsAtRest now → now.state u ≡ final m streams start u
  pub shown_at_rest : (u : Name) → IsAtRest now → now.shown u ≡ final_shown m streams start u
