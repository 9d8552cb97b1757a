-- One end's side of a new link, once it knows the other: it is joined to it, what each of its
-- servers keeps is right, its room has what the other's has, and whoever is killed has no client
-- there.
use Rattle.std.proofs.Common.{◌≡◌, ℕ, not, ◌&&◌, ◌||◌, Some, None, List, ◌∷◌, refl, sym, ◌∙◌, ap}
use Rattle.std.proofs.Common.{subst, if◌then◌else◌}
use Rattle.std.proofs.Math.Path.{fun_ext}
use Rattle.std.specs.List.{AllByRecursion}
use Rattle.irc_relay.specs.Distances.{EndsAreAmong, IsAmong}
use Rattle.irc_relay.specs.Following.{all_done}
use Rattle.irc_relay.specs.Links.{Name, Link, part, joined, same, AreJoined, AreLinked, IsForest}
use Rattle.irc_relay.specs.Lemmas.TellingNames.{same_unless}
use Rattle.irc_routes.specs.declared.server_row.ServerRow.{ServerRow}
use Rattle.irc_routes.specs.Known.{Known, row_of, servers_told, token_out}
use Rattle.irc_stage.specs.View.{View}
use Rattle.irc_world.specs.World.{World}
use Rattle.irc_follow.specs.AtRest.{AreRight}
use Rattle.irc_follow.specs.Fits.{Fits}
use Rattle.irc_follow.specs.SideState.{ItemSetting, SideState, info_in, number, IsSoundSide}
use Rattle.irc_follow.specs.Says.{play}
use Rattle.irc_follow.specs.Tree.{index_in, shape_in}
use Rattle.irc_follow.specs.Lemmas.BehindLinks.{joined_test}
use Rattle.irc_items.proofs.Link.Ends.{AreEnds}
use Rattle.irc_items.proofs.Common.Right.{IsRightAt}
use Rattle.irc_items.proofs.Common.DeedsInTurn.{done_in_turn, same_done}
use Rattle.irc_items.proofs.Link.Gains.{HasGained, KeepsKnown, all_gained, burst_done, hall_left}
use Rattle.irc_items.proofs.Link.Sides.{IsReadDeed, deeds_of_link, room_deeds, server_deeds}
use Rattle.irc_items.proofs.Link.Sides.{side_after, side_of}
use Rattle.irc_items.proofs.Link.ServersTold.{told_are_that_side}
use Rattle.irc_items.proofs.Common.Sources.{one_moment}

-- the servers that the side of t is told of, by b and of it
abbrev pub told_rows : ItemSetting → (Name → Known) → Name → Name → List ServerRow
told_rows s routes t b =
    record {
      link = 0;
      uplink = t;
      name = b;
      distance = 0;
      token = 0;
      ours = 0;
      info = info_in s.settings b;
    } ∷ servers_told (routes b) (number s t)

module _ (s : ItemSetting) (l : Link) (world : World) (routes : Name → Known) (a b : Name) where
  abbrev routes_now : Name → Known
  routes_now = (side_after s l world routes a b).tree.routes

  -- that side, once it knows the other's servers, and none of their users yet
  abbrev met_side : SideState
  met_side = record {
    tree = record {
      forest = l ∷ world.links;
      here = λ x. joined world.links x a;
      knows = λ x. joined world.links x a || joined world.links x b;
      routes = routes_now;
    };
    hall = world.hall a;
  }

  -- and once it has read all that the other tells
  abbrev pub linked_side : SideState
  linked_side = record {
    tree = met_side.tree;
    hall = hall_left (room_deeds world a b) (world.hall a);
  }

  side_gained : HasGained (told_rows s routes a b) (side_of s l world routes a)
      (side_after s l world routes a b)
  side_gained = all_gained s 0 (told_rows s routes a b) (side_of s l world routes a)

  -- a server keeps what it had of numbers, and is configured as it was
  pub keeps_known : (t : Name) → KeepsKnown (routes t) (routes_now t)
  keeps_known t = side_gained.keeps t

  pub stays_elsewhere : (t : Name) → (AreJoined world.links t a → ⊥) → routes_now t ≡ routes t
  stays_elsewhere t apart =
      side_gained.elsewhere t (same_unless (part world.links t) (part world.links a) apart)

  -- each server of the side meets the link with the same side
  pub side_alike : (t : Name) → AreJoined world.links t a → world.hall t ≡ world.hall a
      → side_of s l world routes t ≡ side_of s l world routes a
  side_alike t here one_hall =
      one_moment world.links world.links (l ∷ world.links) routes world.hall t a here here one_hall

  module _ (forest : IsForest world.links) (ends : EndsAreAmong s.names world.links)
      (right : AreRight s world.links routes)
      (are_ends : AreEnds l world.links a b) (among : IsAmong s.names b) where
    knows_now : (x : Name) → (side_after s l world routes a b).tree.knows x
        ≡ (joined world.links x a || joined world.links x b)
    knows_now x =
        side_gained.knows x
        ∙ ap (λ c. joined world.links x a || c)
        (told_are_that_side s world.links routes b a x forest ends right among are_ends.apart)

    side_is : side_after s l world routes a b ≡ met_side
    side_is = λ i. record {
      tree = record {
        forest = side_gained.forest i;
        here = side_gained.here i;
        knows = fun_ext knows_now i;
        routes = routes_now;
      };
      hall = side_gained.hall i;
    }

    module _ (read : AllByRecursion (IsReadDeed a) (room_deeds world a b)) where
      side_comes : (client : ℕ) → all_done (play s client) (side_of s l world routes a)
          (deeds_of_link s world routes a b) ≡ linked_side
      side_comes client =
          done_in_turn s client (server_deeds s routes a b) (room_deeds world a b)
          (side_of s l world routes a)
          ∙ ap (λ w. all_done (play s client) w (room_deeds world a b)) (same_done s client
          (server_deeds s routes a b) (side_of s l world routes a) ∙ side_is)
          ∙ burst_done s client a (room_deeds world a b) met_side read

      -- what fits the side after all deeds
      pub fits_side : (client : ℕ) (t : Name) (view : View) → AreJoined world.links t a
          → world.hall t ≡ world.hall a → Fits s t (all_done (play s client)
          (side_of s l world routes t) (deeds_of_link s world routes a b)) view
          → Fits s t linked_side view
      fits_side client t view here one_hall fits =
          subst (λ w. Fits s t w view)
          (ap (λ w. all_done (play s client) w (deeds_of_link s world routes a b))
          (side_alike t here one_hall) ∙ side_comes client)
          fits

      module _ (sound : IsSoundSide s (all_done (play s 0) (side_of s l world routes a)
          (deeds_of_link s world routes a b))) where
        pub side_sound : IsSoundSide s linked_side
        side_sound = subst (IsSoundSide s) (side_comes 0) sound

        pub side_right : (t : Name) → IsAmong s.names t → AreJoined world.links t a
            → IsRightAt s (l ∷ world.links) t (routes_now t)
        side_right t there here = record {
          named = side_sound.tree.named t there;
          about = (keeps_known t).about ∙ right.about t there;
          rows = λ x. side_sound.tree.rows t x (joined_test world.links t a here)
              ∙ ap (λ c. if c && not (same x t) then Some
              (shape_in s.names (info_in s.settings) (l ∷ world.links) t x) else None)
              (sym (are_ends.joined x t here));
          numbered = side_sound.tree.numbered t there;
          low = λ x r is. side_sound.tree.low t x r (joined_test world.links t a here) is;
        }

        -- one number at both ends of a link, where the nearer one is of this side
        pub side_tokens : (t u x : Name) (r : ServerRow) → AreJoined world.links u a
            → AreLinked (l ∷ world.links) t u → row_of (routes_now u) x ≡ Some r
            → r.link ≡ index_in s.names t → token_out (routes_now t) x ≡ Some r.token
        side_tokens t u x r here linked is link =
            side_sound.tree.tokens t u x r (joined_test world.links u a here) linked is link

        -- across the new link: the other end had that number from the beginning
        pub end_tokens : (x : Name) (r : ServerRow)
            → row_of (routes_now a) x ≡ Some r → r.link ≡ index_in s.names b
            → token_out ((side_after s l world routes b a).tree.routes b) x ≡ Some r.token
        end_tokens x r is link =
            ((all_gained s 0 (told_rows s routes b a) (side_of s l world routes b)).keeps b).tokens
            x r.token
            (ap (λ known. token_out known x) (sym (stays_elsewhere b are_ends.apart))
            ∙ side_tokens b a x r refl are_ends.linked is link)
