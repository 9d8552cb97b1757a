-- Each server follows its side: what is known of one line, put together.
use Rattle.std.proofs.Common.{◌≡◌, ℕ, Bool, true, false, List, [], refl, ◌∙◌, ap, if◌then◌else◌}
use Rattle.std.specs.Prelude.{⊤}
use Rattle.irc_merge.specs.Deeds.{Deed, does, gains, loses, kills, brings, sets, tops}
use Rattle.irc_relay.specs.Following.{Fact, Follows, SaysOn, sends, keeps}
use Rattle.irc_relay.specs.Links.{Link, Name, same}
use Rattle.irc_stage.specs.View.{View}
use Rattle.irc_server.specs.Owed.{lines_to}
use Rattle.irc_follow.specs.SideState.{ItemSetting, SideState, is_home_of, number, IsItemSetting}
use Rattle.irc_follow.specs.Laws.{AsideStays, GoesOn, IsGood, PassedByStays, SaidDeedFits}
use Rattle.irc_follow.specs.Laws.{SaidDeedGoesOn, SaidDeedShows, SaidEffectGoesOn, SaidGainGoesOn}
use Rattle.irc_follow.specs.Laws.{SaidKillGoesOn, SaidLossGoesOn, SaidMembersGoOn, SaidModesGoOn}
use Rattle.irc_follow.specs.Laws.{SaidTopicGoesOn, ServersFollow, told, passed}
use Rattle.irc_follow.specs.Says.{neighbour_served, lines_on, machine, play, terms}

-- ---- every deed goes on

pub record EachGoesOn : Type 0 where
  pub of_effect : SaidEffectGoesOn
  pub of_gain : SaidGainGoesOn
  pub of_loss : SaidLossGoesOn
  pub of_kill : SaidKillGoesOn
  pub of_members : SaidMembersGoOn
  pub of_modes : SaidModesGoOn
  pub of_topic : SaidTopicGoesOn

pub said_deed_goes_on : EachGoesOn → SaidDeedGoesOn
said_deed_goes_on each (does effect) = each.of_effect effect
said_deed_goes_on each (gains uplink name info) = each.of_gain uplink name info
said_deed_goes_on each (loses server name text) = each.of_loss server name text
said_deed_goes_on each (kills server nick) = each.of_kill server nick
said_deed_goes_on each (brings server channel members) = each.of_members server channel members
said_deed_goes_on each (sets server channel changes) = each.of_modes server channel changes
said_deed_goes_on each (tops server channel topic) = each.of_topic server channel topic

-- ---- one server follows

pub record IsKnownOfLine : Type 0 where
  pub fits : SaidDeedFits
  pub shows : SaidDeedShows
  pub goes_on : SaidDeedGoesOn
  pub aside : AsideStays
  pub passed : PassedByStays

-- whatever is a fact of each line at its turn
pub follows : IsKnownOfLine → (s : ItemSetting) (client : ℕ) (good : Fact View (List ℕ))
    → IsItemSetting s → IsGood s good → (links : List Link)
    → Follows (machine s client) (play s client) (terms s good) links s.streams
follows known s client good fixed all_good links = record {
  said_fits = λ p t w view deed line takes fits says.
      known.fits s p t w view deed line fixed takes fits says;
  said_shows = λ p t w view deed line takes fits says.
      known.shows s p t w view deed line client takes fits says;
  said_good =
      λ p t w view deed line takes fits says. all_good.said p t w view deed line takes fits says;
  said_on = λ p t u w view other deed line linked takes next apart writer reader meets says.
      on t u w other deed ((machine s client).step t p view line)
      ((machine s client).sends t p view line u)
      (known.goes_on deed s p t u w view other line client fixed takes next apart writer
      reader says);
  aside_fits = λ p t w view line takes fits aside. (known.aside s p t w view line fits aside).fits;
  aside_shows = λ p t w view line takes fits aside. nothing_shown t p view line
      (known.aside s p t w view line fits aside).silent;
  aside_good = λ p t w view line takes fits aside. all_good.aside p t w view line takes fits aside;
  aside_sends = λ p t u w view line takes next apart fits aside.
      nothing_sent u p view line (known.aside s p t w view line fits aside).silent;
  aside_meets = λ p t u w view other line takes next apart fits reader meets aside. tt;
  passed_fits = λ t w view deed fits passes. (known.passed s t w deed passes).fits view fits;
  passed_shows = λ t w deed passes. (known.passed s t w deed passes).shows client;
  passed_on = λ t u w deed takes passes. (known.passed s t w deed passes).goes_on u takes;
}
  where
    nothing_shown : (t p : Name) (view : View) (line : List ℕ)
        → (neighbour_served s p view line).out ≡ [] → (machine s client).shows t p view line ≡ []
    nothing_shown t p view line silent = ap (λ out. if is_home_of s.homes t client
        then lines_to client out else []) silent ∙ either (is_home_of s.homes t client)
      where
        either : (b : Bool) → (if b then lines_to client [] else []) ≡ []
        either true = refl
        either false = refl

    nothing_sent : (u p : Name) (view : View) (line : List ℕ)
        → (neighbour_served s p view line).out ≡ []
        → (if same u p then [] else lines_on (number s u) (neighbour_served s p view line).out) ≡ []
    nothing_sent u p view line silent =
        ap (λ out. if same u p then [] else lines_on (number s u) out) silent ∙ either (same u p)
      where
        either : (b : Bool) → (if b then [] else lines_on (number s u) []) ≡ []
        either true = refl
        either false = refl

    on : (t u : Name) (w : SideState) (other : View) (deed : Deed) (after : View)
        (lines : List (List ℕ)) → GoesOn s t u w other deed lines
        → SaysOn (machine s client) (terms s good) t u w other deed after lines
    on t u w other deed after lines (told line is says) = sends line is says tt
    on t u w other deed after lines (passed is passes) = keeps is passes tt

pub servers_follow : IsKnownOfLine → ServersFollow
servers_follow known s client fixed links =
    follows known s client (λ p t view line. ⊤) fixed (record {
      said = λ p t w view deed line takes
          fits says. tt;
      aside = λ p t w view line takes fits aside. tt;
    }) links
