-- What holds of one server and its side of the network, deed by deed.
use Rattle.std.specs.Prelude.{◌≡◌, ◌≢◌, ⊤, ℕ, List, [], ◌∷◌}
use Rattle.irc_channels.specs.declared.flags.Flags.{Flags}
use Rattle.irc_modes.specs.declared.modes.ModeChange.{ModeChange}
use Rattle.irc_room.specs.effect.Effect.{Effect}
use Rattle.irc_merge.specs.Deeds.{Deed, does, brings, gains, loses, kills, sets, tops}
use Rattle.irc_relay.specs.Following.{Fact, Follows}
use Rattle.irc_relay.specs.Links.{Link, Name}
use Rattle.irc_relay.specs.Relay.{TakesFrom}
use Rattle.irc_stage.specs.EffectTold.{Served}
use Rattle.irc_stage.specs.View.{View}
use Rattle.irc_follow.specs.Fits.{Fits}
use Rattle.irc_follow.specs.SideState.{ItemSetting, SideState, done, IsItemSetting, IsSoundSide}
use Rattle.irc_follow.specs.Says.{Aside, PassesBy, neighbour_served, machine, play, terms, Says}
use Rattle.irc_follow.specs.Says.{IsDoable}

-- A side stays sound by each deed that can be done.
abbrev pub DoneStaysSound : Type 0
DoneStaysSound = (s : ItemSetting) (w : SideState) (deed : Deed) → IsItemSetting s → IsSoundSide s w
    → IsDoable s w deed → IsSoundSide s (done s w deed)

-- A server that fits its side takes a line that says a deed, and fits the side after that deed.
abbrev pub SaidDeedFits : Type 0
SaidDeedFits =
    (s : ItemSetting) (p t : Name) (w : SideState) (view : View) (deed : Deed) (line : List ℕ)
    → IsItemSetting s → TakesFrom s.streams t p → Fits s t w view
    → Says s p t w view deed line → Fits s t (done s w deed) (neighbour_served s p view line).state

-- And it shows to each client what the network shows to that by the deed.
abbrev pub SaidDeedShows : Type 0
SaidDeedShows =
    (s : ItemSetting) (p t : Name) (w : SideState) (view : View) (deed : Deed) (line : List ℕ)
    (client : ℕ) → TakesFrom s.streams t p → Fits s t w view
    → Says s p t w view deed line
    → (machine s client).shows t p view line ≡ (play s client).seen t w deed

-- it fits as it did, and puts out nothing
pub record PutsOutNothing (s : ItemSetting) (t : Name) (w : SideState)
    (after : Served) : Type 0 where
  pub fits : Fits s t w after.state
  pub silent : after.out ≡ []

-- A line that says no deed changes nothing, and nothing is told on or shown upon it.
abbrev pub AsideStays : Type 0
AsideStays = (s : ItemSetting) (p t : Name) (w : SideState) (view : View) (line : List ℕ)
    → Fits s t w view
    → Aside s p t w view line
    → PutsOutNothing s t w (neighbour_served s p view line)

-- A server that an effect passes by fits as it is; its clients are shown nothing; and the effect
-- passes by whoever takes its lines.
pub record PassedStays (s : ItemSetting) (t : Name) (w : SideState) (deed : Deed) : Type 0 where
  pub fits : (view : View) → Fits s t w view → Fits s t (done s w deed) view
  pub shows : (client : ℕ) → (play s client).seen t w deed ≡ []
  pub goes_on : (u : Name) → TakesFrom s.streams u t → PassesBy s u w deed

abbrev pub PassedByStays : Type 0
PassedByStays = (s : ItemSetting) (t : Name) (w : SideState) (deed : Deed) → PassesBy s t w deed
    → PassedStays s t w deed

-- What a server sends to a neighbour u by a deed: one line, which says the deed there too, or none,
-- and the deed passes u by.
pub data GoesOn (s : ItemSetting) (t u : Name) (w : SideState) (other : View) (deed : Deed)
    (lines : List (List ℕ)) : Type 0 where
  told : (line : List ℕ) → lines ≡ line ∷ [] → Says s t u w other deed line
      → GoesOn s t u w other deed lines
  passed : lines ≡ [] → PassesBy s u w deed → GoesOn s t u w other deed lines

-- So it is of a deed that a line says, to each other neighbour that takes the server's lines.
abbrev pub GoesToNext : Deed → Type 0
GoesToNext deed =
    (s : ItemSetting) (p t u : Name) (w : SideState) (view other : View) (line : List ℕ)
    (client : ℕ) → IsItemSetting s → TakesFrom s.streams t p
    → TakesFrom s.streams u t → u ≢ p → Fits s t w view → Fits s u w other
    → Says s p t w view deed line
    → GoesOn s t u w other deed ((machine s client).sends t p view line u)

abbrev pub SaidEffectGoesOn : Type 0
SaidEffectGoesOn = (effect : Effect) → GoesToNext (does effect)

abbrev pub SaidKillGoesOn : Type 0
SaidKillGoesOn = (server nick : List ℕ) → GoesToNext (kills server nick)

abbrev pub SaidLossGoesOn : Type 0
SaidLossGoesOn = (server name text : List ℕ) → GoesToNext (loses server name text)

abbrev pub SaidTopicGoesOn : Type 0
SaidTopicGoesOn = (server channel topic : List ℕ) → GoesToNext (tops server channel topic)

abbrev pub SaidModesGoOn : Type 0
SaidModesGoOn = (server channel : List ℕ) (changes : List ModeChange)
    → GoesToNext (sets server channel changes)

abbrev pub SaidMembersGoOn : Type 0
SaidMembersGoOn = (server channel : List ℕ) (members : List (List ℕ × Flags))
    → GoesToNext (brings server channel members)

abbrev pub SaidGainGoesOn : Type 0
SaidGainGoesOn = (uplink name info : List ℕ) → GoesToNext (gains uplink name info)

-- So it is of every deed that a line says.
abbrev pub SaidDeedGoesOn : Type 0
SaidDeedGoesOn = (deed : Deed) → GoesToNext deed

-- a fact of each line at its turn: of one that says a deed, and of one that stands aside
pub record IsGood (s : ItemSetting) (good : Fact View (List ℕ)) : Type 0 where
  pub said : (p t : Name) (w : SideState) (view : View) (deed : Deed) (line : List ℕ)
      → TakesFrom s.streams t p → Fits s t w view → Says s p t w view deed line → good p t view line
  pub aside : (p t : Name) (w : SideState) (view : View) (line : List ℕ) → TakesFrom s.streams t p
      → Fits s t w view → Aside s p t w view line → good p t view line

-- Each server of a side, as one client of the network sees it, follows that side, line by line.
abbrev pub ServersFollow : Type 0
ServersFollow = (s : ItemSetting) (client : ℕ) → IsItemSetting s → (links : List Link)
    → Follows (machine s client) (play s client) (terms s (λ p t view line. ⊤)) links s.streams
