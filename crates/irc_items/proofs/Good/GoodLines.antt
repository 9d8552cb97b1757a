-- Each line that says a deed goes well at its turn, and servers follow line by line.
use Rattle.std.proofs.Common.{◌≡◌, ◌≢◌, ◌⊎◌, inl, inr, ℕ, ◌+◌, Bool, true, false, cond, Some, List}
use Rattle.std.proofs.Common.{[], ◌∷◌, ◌++◌, count_by, refl, sym, ◌∙◌, ap, if◌then◌else◌, arith}
use Rattle.std.specs.Prelude.{⊤}
use Rattle.std.specs.Cmp.Lexicographic.{bytes_decides}
use Rattle.std.specs.FinMap.{get, insert}
use Rattle.std.specs.Option.{option_map_or}
use Rattle.irc_burst_lines.specs.DeedLines.{kill_parts}
use Rattle.irc_line.specs.Messages.{line_text}
use Rattle.irc_line.specs.Reading.{read_of}
use Rattle.irc_merge.specs.Deeds.{Deed, does, gains, kills}
use Rattle.irc_relay.specs.Following.{Follows, SaysOn, Terms, sends, keeps}
use Rattle.irc_relay.specs.Links.{Name, Link, same, toward, AreLinked}
use Rattle.irc_relay.specs.Relay.{TakesFrom}
use Rattle.irc_relay.specs.Lemmas.NextHops.{linked_back, linked_other, toward_linked}
use Rattle.irc_routes.specs.Known.{Known}
use Rattle.irc_stage.specs.Linked.{with_password}
use Rattle.irc_stage.specs.View.{End, View}
use Rattle.irc_stage.specs.Lemmas.Numbers.{get-with, same_number-is}
use Rattle.irc_server.specs.Heard.{Heard, closes, ignored, meets, password, tells, heard}
use Rattle.irc_server.specs.LinkServed.{after_heard, line_served}
use Rattle.irc_server.specs.Owed.{lines_to}
use Rattle.irc_server.specs.Served.{served}
use Rattle.irc_world.specs.World.{World}
use Rattle.irc_follow.specs.AtRest.{side_state_of}
use Rattle.irc_follow.specs.Fits.{Fits}
use Rattle.irc_follow.specs.Laws.{PutsOutNothing}
use Rattle.irc_follow.specs.SideState.{ItemSetting, SideState, number, IsItemSetting}
use Rattle.irc_follow.specs.Says.{neighbour_served, lines_on, machine, play, terms, Aside}
use Rattle.irc_follow.specs.Says.{IsDoableKill, IsNothing, PassesBy, Says}
use Rattle.irc_follow.specs.Lemmas.SidesFollowed.{servers_follow, IsKnownOfLine}
use Rattle.irc_items.specs.GoodLines.{closings, Answering, IsAnswered, IsGoodLine, IsGoodReply}
use Rattle.irc_items.specs.GoodLines.{IsUnheard}
use Rattle.irc_items.specs.Relayed.{owed_at, owed_to}
use Rattle.irc_items.proofs.Good.GoodDeeds.{whole_goes_well}
use Rattle.irc_items.proofs.Good.GoodEffects.{effect_goes_well}
use Rattle.irc_items.proofs.Good.GoodGains.{gain_goes_well}
use Rattle.irc_items.proofs.Good.GoodKills.{kills_goes_well}
use Rattle.irc_items.proofs.Good.MetEnds.{good_reply, AreLinkedAlike}

-- Upon this line t kills a user of its own side, and tells p of it too: the line may be answered,
-- from one end of a new link to the other, and there the answer does nothing.
pub record CanAnswer (s : ItemSetting) (asks : Answering) (world : World) (routes : Name → Known)
    (p t : Name) (nick line : List ℕ) : Type 0 where
  pub answered : asks.answered line ≡ true
  pub not_again : asks.answered (line_text (kill_parts t nick)) ≡ false
  pub between : ((p ≡ asks.one) × (t ≡ asks.other)) ⊎ ((p ≡ asks.other) × (t ≡ asks.one))
  pub to_end : (s.streams.parent p ≡ t) × (s.streams.depth p ≡ 1)
  pub unheard : (view : View) → Fits s p (side_state_of s world routes p) view
      → IsUnheard s t view (line_text (kill_parts t nick))

abbrev pub MayKill : ItemSetting → Answering → World → (Name → Known) → Name → Name → Deed → List ℕ
    → Type 0
MayKill s asks world routes p t (kills server nick) line = server ≡ t
    → CanAnswer s asks world routes p t nick line
MayKill s asks world routes p t other line = ⊤

-- who takes lines on this side has just these links; each neighbour of it, but the one that it
-- takes lines from, is of this side too
pub record IsWithinSide (s : ItemSetting) (links : List Link) (w : SideState) : Type 0 where
  pub alike : (t p : Name) → w.tree.here t ≡ true → TakesFrom s.streams t p
      → AreLinkedAlike links w.tree.forest t
  pub here : (t p u : Name) → w.tree.here t ≡ true → TakesFrom s.streams t p → AreLinked links t u
      → u ≢ p → w.tree.here u ≡ true

pub record SaysWell (s : ItemSetting) (asks : Answering) (world : World) (routes : Name → Known)
    (p t : Name) (w : SideState) (view : View) (deed : Deed)
    (line : List ℕ) : Type 0 where
  pub says : Says s p t w view deed line
  pub may : MayKill s asks world routes p t deed line
  pub side : IsWithinSide s world.links w

pub record AsideWell (s : ItemSetting) (world : World) (p t : Name) (w : SideState) (view : View)
    (line : List ℕ) : Type 0 where
  pub aside : Aside s p t w view line
  pub side : IsWithinSide s world.links w

abbrev pub good_terms : ItemSetting → Answering → World → (Name → Known)
    → Terms View (List ℕ) SideState Deed
good_terms s asks world routes = record {
  fits = Fits s;
  meet = λ t u one other. ⊤;
  says = SaysWell s asks world routes;
  aside = AsideWell s world;
  passes = PassesBy s;
  good = IsGoodLine s asks world routes;
}

-- ---- what goes back

module _ (s : ItemSetting) (asks : Answering) (world : World) (routes : Name → Known) (p t : Name)
    (line : List ℕ) where
  pub no_answer : IsAnswered s asks world routes p t line []
  no_answer = record {
    once = record {
      at_most_one = omega arith;
      not_again = refl;
      only_upon = λ next lines is. absurd (cc is);
      only_between = λ next lines is. absurd (cc is);
    };
    to_end = λ next lines is. absurd (cc is);
    unheard = λ view fits. tt;
  }

  abbrev own_kill : Bool → List ℕ → List (List ℕ)
  own_kill own nick = if own then line_text (kill_parts t nick) ∷ [] else []

  none_counted : (next : List ℕ) → asks.answered next ≡ false
      → count_by asks.answered (next ∷ []) ≡ 0
  none_counted next none = ap (λ b. 0 + cond b 1 0) none

  kill_answer : (nick : List ℕ) → CanAnswer s asks world routes p t nick line
      → IsAnswered s asks world routes p t line (line_text (kill_parts t nick) ∷ [])
  kill_answer nick can = record {
    once = record {
      at_most_one = omega arith;
      not_again = none_counted (line_text (kill_parts t nick)) can.not_again;
      only_upon = λ next lines is. can.answered;
      only_between = λ next lines is. can.between;
    };
    to_end = λ next lines is. can.to_end;
    unheard = λ view fits. (can.unheard view fits, tt);
  }

  answer_of : (server nick : List ℕ) → (server ≡ t → CanAnswer s asks world routes p t nick line)
      → IsAnswered s asks world routes p t line (own_kill (same server t) nick)
  answer_of server nick may = by (same server t) refl
    where
      by : (b : Bool) → same server t ≡ b
          → IsAnswered s asks world routes p t line (own_kill b nick)
      by true own = kill_answer nick (may ((bytes_decides server t).0 own))
      by false other = no_answer

module _ (s : ItemSetting) (asks : Answering) (world : World) (routes : Name → Known) (p t : Name)
    (w : SideState) (view : View) (line : List ℕ)
    (takes : TakesFrom s.streams t p)
    (fits : Fits s t w view) (side : IsWithinSide s world.links w) where
  abbrev Good : Type 0
  Good = IsGoodLine s asks world routes p t view line

  alike_here : AreLinkedAlike world.links w.tree.forest t
  alike_here = side.alike t p fits.here takes

  -- who is linked to it, but for the one that it takes lines from, is known
  known_beside : (u : Name) → AreLinked world.links t u → u ≢ p → w.tree.knows u ≡ true
  known_beside u there other =
      fits.sound.tree.here_known u (side.here t p u fits.here takes there other)

  -- ---- of a line that says a deed

  module _ (known : IsKnownOfLine) (fixed : IsItemSetting s) where
    unanswered : (deed : Deed) → Says s p t w view deed line
        → IsGoodReply s world.links p t view (neighbour_served s p view line) [] → Good
    unanswered deed says good =
        record {
          is_line = says.is_line;
          end = says.end;
          is_end = says.is_end;
          back = [];
          good = good;
          answer = no_answer s asks world routes p t line;
        }

    said_good : (deed : Deed) → MayKill s asks world routes p t deed line
        → Says s p t w view deed line → Good
    said_good (does effect) may says =
        unanswered (does effect) says (effect_goes_well s world.links p t w view takes fits
        alike_here effect line says known_beside)
    said_good (gains uplink name info) may says =
        unanswered (gains uplink name info) says (gain_goes_well s world.links p t w view takes fits
        alike_here fixed uplink name info line says
        (known.fits s p t w view (gains uplink name info) line fixed takes fits says) known_beside)
    said_good (kills server nick) may says = record {
      is_line = says.is_line;
      end = says.end;
      is_end = says.is_end;
      back = own_kill s asks world routes p t line (same server t) nick;
      good = kills_goes_well s world.links p t w view takes fits alike_here server nick line says
          known_beside;
      answer = answer_of s asks world routes p t line server nick may;
    }
    said_good deed may says =
        unanswered deed says (whole_goes_well s world.links p t w view takes fits alike_here deed tt
        line says known_beside)

  -- ---- of one that says none

  abbrev k : ℕ
  k = number s p

  -- a password plays no part in what is owed
  owed_still : (end : End) → get view.ends k ≡ Some end → (word : List ℕ)
      → owed_to s (with_password k word view) p ≡ owed_to s view p
  owed_still end is_end word =
      ap (λ o. owed_to s (option_map_or (λ (e : End). record view {
        ends = insert view.ends k
            (record e { password = Some word });
      }) o view) p) is_end
      ∙ ap (λ o. option_map_or (owed_at s view p) o [])
      (get-with view.ends k (record end { password = Some word }) k
      ∙ ap (λ b. cond b (Some (record end { password = Some word })) (get view.ends k))
      (same_number-is k k refl))
      ∙ sym (ap (λ o. option_map_or (owed_at s view p) o []) is_end)

  owed_stays : (end : End) → get view.ends k ≡ Some end → (what : Heard) → IsNothing what
      → owed_to s (after_heard view k what).state p ≡ owed_to s view p
  owed_stays end is_end ignored nothing = refl
  owed_stays end is_end (closes why) nothing = absurd nothing
  owed_stays end is_end (password word) nothing = owed_still end is_end word
  owed_stays end is_end (meets name info) nothing = absurd nothing
  owed_stays end is_end (tells []) nothing = refl
  owed_stays end is_end (tells (told ∷ later)) nothing = absurd nothing

  owed_after : Aside s p t w view line
      → owed_to s (neighbour_served s p view line).state p ≡ owed_to s view p
  unfolding served
  owed_after aside =
      ap (λ o. owed_to s (line_served view k (read_of line) o).state p) aside.is_end
      ∙ owed_stays aside.end aside.is_end (heard view k aside.end (read_of line)) aside.nothing

  silent_reply : Aside s p t w view line → PutsOutNothing s t w (neighbour_served s p view line)
      → IsGoodReply s world.links p t view (neighbour_served s p view line) []
  silent_reply aside stays =
      good_reply s world.links p t w w view
      (neighbour_served s p view line) fits stays.fits alike_here known_beside
      (record { forest = alike_here; knows = λ u known. known })
      (record {
        closes_none = ap closings stays.silent;
        to_linked = λ u first lines is. cc (sym (ap (lines_on (number s u)) stays.silent) ∙ is);
        to_own = λ client first lines is. cc (sym (ap (lines_to client) stays.silent) ∙ is);
        pays = ap (λ out. lines_on (number s p) out
            ++ owed_to s (neighbour_served s p view line).state p) stays.silent ∙ owed_after aside;
      })

  aside_good : IsKnownOfLine → Aside s p t w view line → Good
  aside_good known aside = record {
    is_line = aside.is_line;
    end = aside.end;
    is_end = aside.is_end;
    back = [];
    good = silent_reply aside (known.aside s p t w view line fits aside);
    answer = no_answer s asks world routes p t line;
  }

-- ---- the next server hears of a KILL that is another server's: it came by another link, or is the
-- writer's own

not_readers : (s : ItemSetting) (p t u : Name) (w : SideState) (view : View) (server nick : List ℕ)
    → Fits s t w view → TakesFrom s.streams t p → TakesFrom s.streams u t → u ≢ p
    → IsDoableKill s w server nick → server ≢ u
not_readers s p t u w view server nick fits takes next apart doable is =
    by (doable.far_or_own t p fits.here takes)
  where
    u_linked : AreLinked w.tree.forest u t
    u_linked = fits.sound.parents u t next

    by : (t ≡ server) ⊎ (toward w.tree.forest t server ≡ p) → ⊥
    by (inl own) = linked_other w.tree.forest u t fits.sound.tree.forest u_linked (sym (own ∙ is))
    by (inr way) = apart (sym (toward_linked w.tree.forest t u fits.sound.tree.forest
        (linked_back w.tree.forest u t u_linked))
        ∙ ap (toward w.tree.forest t) (sym is) ∙ way)

told_on_may : (s : ItemSetting) (asks : Answering) (world : World) (routes : Name → Known)
    (p t u : Name)
    (w : SideState) (view : View) (deed : Deed)
    (line next_line : List ℕ)
    → Fits s t w view → TakesFrom s.streams t p → TakesFrom s.streams u t → u ≢ p
    → Says s p t w view deed line
    → MayKill s asks world routes t u deed next_line
told_on_may s asks world routes p t u w view
    (kills server nick) line next_line fits takes next apart says =
    λ is. absurd (not_readers s p t u w view server nick fits takes next apart says.doable is)
told_on_may s asks world routes p t u w view deed line next_line fits takes next apart says = tt

-- ---- servers follow

pub well_follow : IsKnownOfLine → (s : ItemSetting) (client : ℕ) → IsItemSetting s
    → (asks : Answering) (world : World) (routes : Name → Known) → Follows (machine s client)
    (play s client) (good_terms s asks world routes) world.links s.streams
well_follow known s client fixed asks world routes = record {
  said_fits = λ p t w view deed line takes fits says.
      all.said_fits p t w view deed line takes fits says.says;
  said_shows = λ p t w view deed line takes fits says.
      all.said_shows p t w view deed line takes fits says.says;
  said_good = λ p t w view deed line takes fits says. said_good s asks world routes p t w view line
      takes fits says.side known fixed deed says.may says.says;
  said_on = λ p t u w view other deed line linked takes next apart writer reader meet says.
      on t u w other deed ((machine s client).step t p view line)
      ((machine s client).sends t p view line u) says.side
      (λ next_line. told_on_may s asks world routes p t u w view deed line next_line writer takes
      next apart says.says)
      (all.said_on p t u w view other deed line linked takes next apart writer reader meet
      says.says);
  aside_fits =
      λ p t w view line takes fits aside. all.aside_fits p t w view line takes fits aside.aside;
  aside_shows =
      λ p t w view line takes fits aside. all.aside_shows p t w view line takes fits aside.aside;
  aside_good = λ p t w view line takes fits aside.
      aside_good s asks world routes p t w view line takes fits aside.side known aside.aside;
  aside_sends = λ p t u w view line takes next apart fits aside.
      all.aside_sends p t u w view line takes next apart fits aside.aside;
  aside_meets = λ p t u w view other line takes next apart fits reader meet aside. tt;
  passed_fits = all.passed_fits;
  passed_shows = all.passed_shows;
  passed_on = all.passed_on;
}
  where
    all : Follows (machine s client) (play s client)
        (terms s (λ p t view line. ⊤)) world.links s.streams
    all = servers_follow known s client fixed world.links

    on : (t u : Name) (w : SideState) (other : View) (deed : Deed) (after : View)
        (lines : List (List ℕ)) → IsWithinSide s world.links w
        → ((line : List ℕ) → MayKill s asks world routes t u deed line)
        → SaysOn (machine s client) (terms s (λ p t view line. ⊤)) t u w other deed after lines
        → SaysOn (machine s client) (good_terms s asks world routes) t u w other deed after lines
    on t u w other deed after lines side may (sends line is says meet) =
        sends line is (record { says = says; may = may line; side = side }) tt
    on t u w other deed after lines side may (keeps is passes meet) = keeps is passes tt
