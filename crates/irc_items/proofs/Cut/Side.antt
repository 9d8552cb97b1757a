-- One end's side of a lost link, once it has lost the other's servers: it knows just those that are
-- still joined to it, and what each of them keeps is right without that link. Its room and its
-- clients are what is left of its hall, and each client has seen just what it receives.
use Rattle.std.proofs.Common.{◌≡◌, ℕ, Bool, true, false, cond, not, ◌&&◌, Option, Some, None, List}
use Rattle.std.proofs.Common.{refl, sym, ◌∙◌, ap, subst, if◌then◌else◌}
use Rattle.std.proofs.Math.Path.{fun_ext}
use Rattle.std.specs.Cmp.Lexicographic.{bytes_decides}
use Rattle.std.specs.FinMap.{get}
use Rattle.std.specs.List.{list_any}
use Rattle.std.specs.Option.{option_map_or}
use Rattle.irc_server.specs.DeedTold.{losses}
use Rattle.irc_merge.specs.Laws.{SquitsSplit}
use Rattle.irc_relay.specs.Distances.{EndsAreAmong, IsAmong}
use Rattle.irc_relay.specs.Following.{all_done, all_seen}
use Rattle.irc_relay.specs.Links.{Name, Link, joined, links_without, same, AreJoined, AreLinked}
use Rattle.irc_relay.specs.Links.{IsForest}
use Rattle.irc_routes.specs.declared.server_row.ServerRow.{ServerRow}
use Rattle.irc_routes.specs.Known.{Known, names_behind, row_of, token_out}
use Rattle.irc_stage.specs.Lemmas.Counting.{get-kept}
use Rattle.irc_stage.specs.View.{View}
use Rattle.irc_world.specs.Stepping.{leaving_lines, remaining, servers_on_side}
use Rattle.irc_world.specs.World.{Hall, World, home_in}
use Rattle.irc_world.specs.WorldHolds.{IsWorld}
use Rattle.irc_follow.specs.AtRest.{AreRight, BehindIsThatSide, SideAtRestIsSound}
use Rattle.irc_follow.specs.Fits.{Fits}
use Rattle.irc_follow.specs.SideState.{ItemSetting, SideState, info_in, number, is_home_of}
use Rattle.irc_follow.specs.SideState.{IsItemSetting, IsSoundSide}
use Rattle.irc_follow.specs.Relinked.{with_links, TreeAfterCut}
use Rattle.irc_follow.specs.Says.{play}
use Rattle.irc_follow.specs.Tree.{index_in, shape_in, IsSoundTree}
use Rattle.irc_follow.specs.Lemmas.SideAtRest.{ends_there, joined_alike, joined_among, joined_so}
use Rattle.irc_follow.specs.Lemmas.BehindLinks.{joined_test}
use Rattle.irc_items.proofs.Cut.Ends.{AreCutEnds, cut_ends, not_beyond, side_joined}
use Rattle.irc_items.proofs.Cut.Losses.{HasLost, all_lost, leaving_seen, room_lost, seen_lost}
use Rattle.irc_items.proofs.Cut.Losses.{staying_sees}
use Rattle.irc_items.proofs.Cut.Names.{listed_where}
use Rattle.irc_items.proofs.Cut.Sides.{cut_after, cut_side, deeds_of_cut}
use Rattle.irc_items.proofs.Common.Right.{IsRightAt}
use Rattle.irc_items.proofs.Common.DeedsInTurn.{same_done}
use Rattle.irc_items.proofs.Common.Sources.{one_moment}

pub record IsKnownOfCuts : Type 0 where
  pub at_rest : SideAtRestIsSound
  pub behind : BehindIsThatSide
  pub after_cut : TreeAfterCut
  pub squits : SquitsSplit

-- the side of a, whose link to b is lost
pub record IsCutSide (s : ItemSetting) (world : World) (routes : Name → Known) (left : List Link)
    (a b : Name) : Type 0 where
  pub fixed : IsItemSetting s
  pub holds : IsWorld s.settings world
  pub homes : s.homes ≡ world.homes
  pub right : AreRight s world.links routes
  pub linked : AreLinked world.links a b
  pub is_left : links_without world.links a b ≡ left
  pub sound : IsSoundSide s (cut_after s world routes left a b)

-- whether a client is on a server's side is whether its home is
pub home_passes : (homes : List Name) (left : List Link) (a t : Name) (q : ℕ) → is_home_of homes t q
    ≡ true → option_map_or (joined left a) (home_in homes q) false ≡ joined left a t
home_passes homes left a t q = by (home_in homes q)
  where
    by : (o : Option Name) → option_map_or (same t) o false ≡ true
        → option_map_or (joined left a) o false ≡ joined left a t
    by None here = absurd (cc here)
    by (Some home) here = ap (joined left a) (sym ((bytes_decides t home).0 here))

and_under : (b c d : Bool) → (b ≡ true → c ≡ d) → (b && not c) ≡ (b && not d)
and_under true c d one = ap not (one refl)
and_under false c d one = refl

module _ (known : IsKnownOfCuts) {s : ItemSetting} {world : World} {routes : Name → Known}
    {left : List Link} {a b : Name} (so : IsCutSide s world routes left a b)
  where
    forest : IsForest world.links
    forest = so.holds.sound.forest

    ends_are : EndsAreAmong s.names world.links
    ends_are = ends_there s world so.fixed so.holds

    pub side_ends : AreCutEnds world.links left a b
    side_ends = cut_ends world.links left a b forest so.linked so.is_left

    -- ---- the servers that are lost

    abbrev gone : List Name
    gone = servers_on_side s.settings left b

    gone_are : names_behind (routes a) (number s b) ≡ gone
    gone_are =
        known.behind s world.links routes a b so.fixed forest ends_are so.right so.linked
        ∙ ap (λ links. servers_on_side s.settings links b) so.is_left

    named_there : (x : Name) → IsAmong s.names x → list_any (same x) gone ≡ joined left b x
    named_there x among = listed_where s (joined left b) x so.fixed among

    not_gone : (t : Name) → IsAmong s.names t → AreJoined left t a → list_any (same t) gone ≡ false
    not_gone t among here = named_there t among ∙ not_beyond world.links left a b side_ends t here

    -- ---- what becomes of the side

    abbrev routes_now : Name → Known
    routes_now = (cut_after s world routes left a b).tree.routes

    lost_side : HasLost s a b gone (cut_side world routes left a)
        (cut_after s world routes left a b)
    lost_side =
        subst (λ names. HasLost s a b names (cut_side world routes left a)
        (cut_after s world routes left a b)) gone_are
        (all_lost s 0 a b (names_behind (routes a) (number s b)) (cut_side world routes left a))

    -- that side
    abbrev pub side_left : SideState
    side_left = record {
      tree = record {
        forest = world.links;
        here = λ x. joined left x a;
        knows = λ x. joined left x a;
        routes = routes_now;
      };
      hall = (cut_after s world routes left a b).hall;
    }

    -- a server that was joined is among the names
    among_joined : (x : Name) → joined world.links x a ≡ true → IsAmong s.names x
    among_joined x so_joined = joined_among s.names world.links x a forest ends_are
        (ends_are a b so.linked) (joined_so world.links x a so_joined)

    knows_now : (x : Name) → (cut_after s world routes left a b).tree.knows x ≡ joined left x a
    knows_now x =
        lost_side.knows x
        ∙ and_under (joined world.links x a) (list_any (same x) gone) (joined left b x)
        (λ so_joined. named_there x (among_joined x so_joined))
        ∙ side_joined world.links left a b side_ends x a refl

    side_is : cut_after s world routes left a b ≡ side_left
    side_is = λ i. record {
      tree = record {
        forest = lost_side.forest i;
        here = lost_side.here i;
        knows = fun_ext knows_now i;
        routes = routes_now;
      };
      hall = (cut_after s world routes left a b).hall;
    }

    -- its servers are as they are to be without the link
    side_tree : IsSoundTree s.names (info_in s.settings) (with_links left side_left.tree)
    side_tree =
        subst (λ links. IsSoundTree s.names (info_in s.settings) (with_links links side_left.tree))
        so.is_left
        (known.after_cut s.names (info_in s.settings) side_left.tree a b
        (subst (IsSoundSide s) side_is so.sound).tree (record {
          linked = so.linked;
          still = λ t x here knows. subst (λ links. AreJoined links t x) (sym so.is_left)
              (joined_so left t a here ∙ sym (joined_so left x a knows));
        }))

    pub side_right : (t : Name) → IsAmong s.names t → AreJoined left t a
        → IsRightAt s left t (routes_now t)
    side_right t among here = record {
      named = so.sound.tree.named t among;
      about = lost_side.says t ∙ so.right.about t among;
      rows = λ x. side_tree.rows t x (joined_test left t a here)
          ∙ ap (λ c. if c && not (same x t) then Some (shape_in s.names
          (info_in s.settings) left t x) else None) (sym (joined_alike left x t a here));
      numbered = so.sound.tree.numbered t among;
      low = λ x r is. side_tree.low t x r (joined_test left t a here) is;
    }

    -- one number at both ends of a link
    pub side_tokens : (t u x : Name) (r : ServerRow) → AreJoined left u a
        → AreLinked left t u → row_of (routes_now u) x ≡ Some r → r.link ≡ index_in s.names t
        → token_out (routes_now t) x ≡ Some r.token
    side_tokens t u x r here linked is link =
        side_tree.tokens t u x r (joined_test left u a here) linked is link

    -- each server of the side meets the loss with the same side
    side_alike : (t : Name) → AreJoined left t a
        → cut_side world routes left t ≡ cut_side world routes left a
    side_alike t here = one_moment left world.links world.links routes world.hall t a here
        (side_ends.kept t a here).joined
        (so.holds.sound.one_hall t a (side_ends.kept t a here).joined)

    -- what fits the side after all losses
    pub fits_side : (client : ℕ) (t : Name) (view : View) → AreJoined left t a → Fits s t
        (all_done (play s client) (cut_side world routes left t) (deeds_of_cut s routes a b)) view
        → Fits s t side_left view
    fits_side client t view here fits =
        subst (λ w. Fits s t w view)
        (ap (λ w. all_done (play s client) w (deeds_of_cut s routes a b)) (side_alike t here)
        ∙ same_done s client (deeds_of_cut s routes a b) (cut_side world routes left a)
        ∙ side_is)
        fits

    -- ---- its hall

    pub room_left : side_left.hall.room ≡ (remaining s.settings world left a b).room
    room_left =
        lost_side.room
        ∙ room_lost known.squits s.settings left a b (world.hall a).room
        (so.holds.sound.well_formed a)

    -- of the clients of one server all stay, or none does
    pub clients_remaining : (t : Name) (q : ℕ) → is_home_of s.homes t q ≡ true
        → get (remaining s.settings world left a b).clients q ≡ cond (joined left a t)
        (get (world.hall a).clients q) None
    clients_remaining t q home =
        get-kept (world.hall a).clients
        (λ client. option_map_or (joined left a) (home_in world.homes client) false) q
        ∙ ap (λ c. cond c (get (world.hall a).clients q) None) (home_passes world.homes left a t q
        (ap (λ homes. is_home_of homes t q) (sym so.homes) ∙ home))

    pub client_remains : (t : Name) (q : ℕ) → AreJoined left t a → is_home_of s.homes t q ≡ true
        → get (remaining s.settings world left a b).clients q ≡ get (world.hall a).clients q
    client_remains t q here home =
        clients_remaining t q home
        ∙ ap (λ c. cond c (get (world.hall a).clients q) None) (joined_test left a t (sym here))

    pub clients_left : (t : Name) → IsAmong s.names t
        → AreJoined left t a → (q : ℕ) → is_home_of s.homes t q ≡ true
        → get side_left.hall.clients q ≡ get (remaining s.settings world left a b).clients q
    clients_left t among here q home = lost_side.clients t q (not_gone t among here) home
        ∙ sym (client_remains t q here home)

    -- ---- what its clients see

    pub side_seen : (client : ℕ) (t : Name) → IsAmong s.names t
        → AreJoined left t a → is_home_of s.homes t client ≡ true
        → all_seen (play s client) t (cut_side world routes left t) (deeds_of_cut s routes a b)
        ≡ leaving_lines s.settings left a b (world.hall a).room (get (world.hall a).clients client)
    side_seen client t among here home =
        ap (λ names. all_seen (play s client) t (cut_side world routes left t)
        (losses a b names)) gone_are
        ∙ seen_lost s client a b t home gone (not_gone t among here) (cut_side world routes left t)
        ∙ ap (λ (hall : Hall). staying_sees (losses a b gone) hall.room (get hall.clients client))
        (so.holds.sound.one_hall t a (side_ends.kept t a here).joined)
        ∙ leaving_seen known.squits s.settings left a b (world.hall a).room
        (so.holds.sound.well_formed a) (get (world.hall a).clients client)
