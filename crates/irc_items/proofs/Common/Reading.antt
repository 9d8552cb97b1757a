-- What is read off a network: who has named itself, whose home a server is, and what waits on a
-- way.
use Rattle.std.proofs.Common.{◌≡◌, ℕ, true, false, Option, Some, None, is_some, List, [], ◌++◌}
use Rattle.std.proofs.Common.{refl, sym, ap, ◌∙◌, unwrap_or, if◌then◌else◌}
use Rattle.std.specs.Cmp.Lexicographic.{same_text}
use Rattle.std.specs.FinMap.{get, get-empty}
use Rattle.std.specs.Ordering.{nat_cmp}
use Rattle.std.specs.Option.{option_map, option_map_or}
use Rattle.irc_relay.specs.Distances.{IsAmong}
use Rattle.irc_relay.specs.Links.{Name, linked, same, AreLinked}
use Rattle.irc_relay.specs.Lemmas.NextHops.{linked_joined}
use Rattle.irc_relay.specs.Lemmas.LinkTakenOut.{tests_tell}
use Rattle.irc_routes.specs.Known.{Known}
use Rattle.irc_stage.specs.Ends.{is_met as has_far}
use Rattle.irc_stage.specs.View.{End, View}
use Rattle.irc_world.specs.World.{World, home_in}
use Rattle.irc_follow.specs.AtRest.{side_state_of}
use Rattle.irc_follow.specs.Fits.{Fits, far_of}
use Rattle.irc_follow.specs.SideState.{ItemSetting, SideState, is_home_of, number}
use Rattle.irc_items.specs.Relayed.{is_met_with, owed_at, owed_to}
use Rattle.irc_items.specs.SetUp.{no_view}

pub owed_by_none : (s : ItemSetting) (y : Name) → owed_to s no_view y ≡ []
owed_by_none s y =
    ap (λ o. option_map_or (owed_at s no_view y) o []) (get-empty nat_cmp (number s y))

pub put_behind : (o : Option (List (List ℕ))) (lines : List (List ℕ)) → is_some o ≡ true
    → unwrap_or o [] ≡ [] → unwrap_or (option_map (λ before. before ++ lines) o) [] ≡ lines
put_behind None lines there none = cc there
put_behind (Some before) lines there none = ap (λ b. b ++ lines) none

pub no_way : (o : Option (List (List ℕ))) (lines : List (List ℕ)) → is_some o ≡ false
    → unwrap_or (option_map (λ before. before ++ lines) o) [] ≡ []
no_way None lines none = refl
no_way (Some before) lines none = cc none

pub home_is : (homes : List Name) (client : ℕ) (t : Name) → is_home_of homes t client ≡ true
    → home_in homes client ≡ Some t
home_is homes client t is = by (home_in homes client) refl
  where
    by : (o : Option Name) → home_in homes client ≡ o → home_in homes client ≡ Some t
    by None e = cc (sym is ∙ ap (λ o. option_map_or (same t) o false) e)
    by (Some home) e = e ∙ ap Some
        (sym (same_text t home (sym (sym (ap (λ o. option_map_or (same t) o false) e) ∙ is))))

-- a server that a side knows, and to which there is a link, has named itself
pub known_met : (s : ItemSetting) (w : SideState) (y x : Name) (view : View) → Fits s y w view
    → IsAmong s.names x → linked w.tree.forest y x ≡ true → w.tree.knows x ≡ true
    → is_met_with s view x ≡ true
known_met s w y x view fits among linked_so knows = by (get view.ends (number s x)) refl
  where
    end_is : option_map far_of (get view.ends (number s x)) ≡ Some (Some x)
    end_is = fits.ends x among
        ∙ (λ i. if linked_so i then Some (if knows i then Some x else None) else None)

    far_some : (end : End) → Some (far_of end) ≡ Some (Some x) → has_far end ≡ true
    far_some end e = ap (λ (o : Option (Option Name)). option_map_or is_some o false) e

    by : (o : Option End) → get view.ends (number s x) ≡ o → is_met_with s view x ≡ true
    by None is = cc (sym (ap (option_map far_of) is) ∙ end_is)
    by (Some end) is = ap (λ o. option_map_or has_far o false) is
        ∙ far_some end (sym (ap (option_map far_of) is) ∙ end_is)

-- so has one that is linked at rest
pub linked_met : (s : ItemSetting) (world : World) (routes : Name → Known) (y x : Name)
    (view : View) → Fits s y (side_state_of s world routes y) view → IsAmong s.names x
    → AreLinked world.links y x → is_met_with s view x ≡ true
linked_met s world routes y x view fits among l =
    known_met s (side_state_of s world routes y) y x view fits among
    ((tests_tell world.links y x x).2.1 l)
    ((tests_tell world.links x y y).1.1 (sym (linked_joined world.links y x l)))
