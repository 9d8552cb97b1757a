-- Facts of each line at its turn, and machines that follow a world: line by line they do what the
-- world does act by act. Both are said of any machine; what follows of whole streams is in
-- specs/Lemmas/LineFactsKept, for each delivery, and in specs/Lemmas/ActsToldOn, at every depth.
use Rattle.std.specs.Prelude.{◌≡◌, ◌≢◌, ◌<◌, suc, List, [], ◌∷◌, ◌++◌}
use Rattle.irc_relay.specs.Links.{Name, Link, AreLinked}
use Rattle.irc_relay.specs.Relay.{Machine, RelayState, Streams, TakesFrom, under_way, coming, final}
use Rattle.irc_relay.specs.Relay.{final_shown}

-- ---- facts of each line at its turn

-- a fact of a line that t takes from p, at the state in which t takes it
abbrev pub Fact : Type 0 → Type 0 → Type 1
Fact State Line = Name → Name → State → Line → Type 0

-- it holds of each of these lines when its turn comes
abbrev pub AllAlong : {State Line Shown : Type 0} → Machine State Line Shown → Fact State Line
    → Name → Name → State → List Line → Type 0
AllAlong m good p t s [] = Unit
AllAlong m good p t s (line ∷ lines) =
    good p t s line × AllAlong m good p t (m.step t p s line) lines

-- and of each line that is coming to anybody
abbrev pub GoesWell : {State Line Shown : Type 0} → Machine State Line Shown → Streams
    → Fact State Line → RelayState State Line Shown → Type 0
GoesWell m streams good net =
    (t : Name) → AllAlong m good (streams.parent t) t (net.state t) (coming m streams net t)

-- ---- a world that machines follow

-- what becomes of the world by an act, and what a server shows of it
pub record Play (World Act Shown : Type 0) : Type 0 where
  pub done : World → Act → World
  pub seen : Name → World → Act → List Shown

abbrev pub all_done : {World Act Shown : Type 0} → Play World Act Shown → World → List Act → World
all_done play w [] = w
all_done play w (act ∷ acts) = all_done play (play.done w act) acts

abbrev pub all_seen : {World Act Shown : Type 0} → Play World Act Shown → Name → World → List Act
    → List Shown
all_seen play t w [] = []
all_seen play t w (act ∷ acts) = play.seen t w act ++ all_seen play t (play.done w act) acts

-- How a machine's lines are about the world. A server's state fits the world; two neighbours meet,
-- so that what the first writes the second reads; a line that t takes from p says an act; it stands
-- aside where it says none; an act passes a server by where no line tells it of it.
-- And what is a fact of each line at its turn.
pub record Terms (State Line World Act : Type 0) : Type 1 where
  pub fits : Name → World → State → Type 0
  pub meet : Name → Name → State → State → Type 0
  pub says : Name → Name → World → State → Act → Line → Type 0
  pub aside : Name → Name → World → State → Line → Type 0
  pub passes : Name → World → Act → Type 0
  pub good : Fact State Line

-- what t sends on to u of an act: one line that says it there too, or none, and the act passes u
-- by. They meet afterwards
pub data SaysOn {State Line Shown World Act : Type 0} (m : Machine State Line Shown)
    (x : Terms State Line World Act) (t u : Name) (w : World) (su : State)
    (act : Act) (after : State) (lines : List Line) : Type 0 where
  sends : (line : Line) → lines ≡ line ∷ [] → x.says t u w su act line
      → x.meet t u after (m.step u t su line) → SaysOn m x t u w su act after lines
  keeps : lines ≡ [] → x.passes u w act → x.meet t u after su → SaysOn m x t u w su act after lines

-- What has to be known of one line, or of one act, so that whole streams are followed. Nobody sends
-- a line back to whom it came from.
pub record Follows {State Line Shown World Act : Type 0} (m : Machine State Line Shown)
    (play : Play World Act Shown) (x : Terms State Line World Act)
    (links : List Link) (streams : Streams) : Type 0 where
  pub said_fits : (p t : Name) (w : World) (s : State) (act : Act) (line : Line)
      → TakesFrom streams t p → x.fits t w s → x.says p t w s act line
      → x.fits t (play.done w act) (m.step t p s line)
  pub said_shows : (p t : Name) (w : World) (s : State) (act : Act) (line : Line)
      → TakesFrom streams t p → x.fits t w s → x.says p t w s act line
      → m.shows t p s line ≡ play.seen t w act
  pub said_good : (p t : Name) (w : World) (s : State) (act : Act) (line : Line)
      → TakesFrom streams t p → x.fits t w s → x.says p t w s act line → x.good p t s line
  pub said_on : (p t u : Name) (w : World) (s su : State) (act : Act) (line : Line)
      → AreLinked links t u → TakesFrom streams t p → TakesFrom streams u t → u ≢ p
      → x.fits t w s → x.fits u w su → x.meet t u s su → x.says p t w s act line
      → SaysOn m x t u w su act (m.step t p s line) (m.sends t p s line u)
  pub aside_fits : (p t : Name) (w : World) (s : State) (line : Line) → TakesFrom streams t p
      → x.fits t w s → x.aside p t w s line → x.fits t w (m.step t p s line)
  pub aside_shows : (p t : Name) (w : World) (s : State) (line : Line) → TakesFrom streams t p
      → x.fits t w s → x.aside p t w s line → m.shows t p s line ≡ []
  pub aside_good : (p t : Name) (w : World) (s : State) (line : Line) → TakesFrom streams t p
      → x.fits t w s → x.aside p t w s line → x.good p t s line
  pub aside_sends : (p t u : Name) (w : World) (s : State) (line : Line) → TakesFrom streams t p
      → TakesFrom streams u t → u ≢ p → x.fits t w s → x.aside p t w s line
      → m.sends t p s line u ≡ []
  pub aside_meets : (p t u : Name) (w : World) (s su : State) (line : Line) → TakesFrom streams t p
      → TakesFrom streams u t → u ≢ p → x.fits t w s → x.fits u w su → x.meet t u s su
      → x.aside p t w s line → x.meet t u (m.step t p s line) su
  pub passed_fits : (t : Name) (w : World) (s : State) (act : Act) → x.fits t w s → x.passes t w act
      → x.fits t (play.done w act) s
  pub passed_shows : (t : Name) (w : World) (act : Act) → x.passes t w act → play.seen t w act ≡ []
  pub passed_on : (t u : Name) (w : World) (act : Act) → TakesFrom streams u t → x.passes t w act
      → x.passes u w act

-- these lines, taken by t from p, tell of these acts in turn
pub data Tells {State Line Shown World Act : Type 0} (m : Machine State Line Shown)
    (play : Play World Act Shown) (x : Terms State Line World Act) (p t : Name)
    : World → State → List Act → List Line → Type 0 where
  nothing : {w : World} {s : State} → Tells m play x p t w s [] []
  by_line : {w : World} {s : State} {act : Act} {acts : List Act} {line : Line} {lines : List Line}
      → x.says p t w s act line → Tells m play x p t (play.done w act)
      (m.step t p s line) acts lines → Tells m play x p t w s (act ∷ acts) (line ∷ lines)
  aside_line : {w : World} {s : State} {acts : List Act} {line : Line} {lines : List Line}
      → x.aside p t w s line → Tells m play x p t w (m.step t p s line) acts lines
      → Tells m play x p t w s acts (line ∷ lines)
  passing_by : {w : World} {s : State} {act : Act} {acts : List Act} {lines : List Line}
      → x.passes t w act → Tells m play x p t (play.done w act) s acts lines
      → Tells m play x p t w s (act ∷ acts) lines

-- How a net starts: who is next to its source is told of its acts by what is under way to it; to
-- nobody else is anything under way, and it has its parent's world and acts, and meets its parent.
-- Every state fits its world.
pub record Starts {State Line Shown World Act : Type 0} (m : Machine State Line Shown)
    (play : Play World Act Shown) (x : Terms State Line World Act)
    (streams : Streams) (net : RelayState State Line Shown) (world : Name → World)
    (acts : Name → List Act) : Type 0 where
  pub first : (t : Name) → streams.depth t ≡ 1 → Tells m play x (streams.parent t) t (world t)
      (net.state t) (acts t) (under_way net (streams.parent t) t)
  pub still : (t : Name) → 0 < streams.depth (streams.parent t) → streams.depth t
      ≡ suc (streams.depth (streams.parent t)) → under_way net (streams.parent t) t ≡ []
  pub one_world : (t : Name) → 0 < streams.depth (streams.parent t) → streams.depth t
      ≡ suc (streams.depth (streams.parent t)) → world t ≡ world (streams.parent t)
  pub one_list : (t : Name) → 0 < streams.depth (streams.parent t)
      → streams.depth t ≡ suc (streams.depth (streams.parent t)) → acts t ≡ acts (streams.parent t)
  pub meets : (t : Name) → 0 < streams.depth (streams.parent t)
      → streams.depth t ≡ suc (streams.depth (streams.parent t))
      → x.meet (streams.parent t) t (net.state (streams.parent t)) (net.state t)
  pub fits : (t : Name) → 0 < streams.depth t → x.fits t (world t) (net.state t)

-- A server that takes lines follows: what is coming to it tells of all its acts, its state will fit
-- the world after them, it will have shown what they show, and each line goes well at its turn.
pub record IsFollowing {State Line Shown World Act : Type 0} (m : Machine State Line Shown)
    (play : Play World Act Shown) (x : Terms State Line World Act)
    (streams : Streams) (net : RelayState State Line Shown) (w : World) (acts : List Act)
    (t : Name) : Type 0 where
  pub tells : Tells m play x (streams.parent t) t w (net.state t) acts (coming m streams net t)
  pub fits : x.fits t (all_done play w acts) (final m streams net t)
  pub shown : final_shown m streams net t ≡ net.shown t ++ all_seen play t w acts
  pub well : AllAlong m x.good (streams.parent t) t (net.state t) (coming m streams net t)
