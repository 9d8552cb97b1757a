-- A line that does nothing where it comes to: the server is as it was, and neither shows nor sends
-- anything.
use Rattle.std.proofs.Common.{◌≡◌, inl, ℕ, Bool, true, false, List, [], ◌∷◌, append-nil, refl, sym}
use Rattle.std.proofs.Common.{◌∙◌, ap, subst, if◌then◌else◌}
use Rattle.std.specs.List.{AllByRecursion}
use Rattle.irc_line.specs.Reading.{read_of}
use Rattle.irc_relay.specs.Following.{AllAlong}
use Rattle.irc_relay.specs.Links.{Name, same}
use Rattle.irc_relay.specs.Relay.{AreHarmless, IsHarmless}
use Rattle.irc_routes.specs.Known.{Known}
use Rattle.irc_stage.specs.EffectTold.{Served}
use Rattle.irc_stage.specs.View.{View}
use Rattle.irc_server.specs.LinkServed.{after_heard, line_served}
use Rattle.irc_server.specs.Owed.{lines_to}
use Rattle.irc_server.specs.Served.{served}
use Rattle.irc_world.specs.World.{World}
use Rattle.irc_follow.specs.SideState.{ItemSetting, is_home_of, number}
use Rattle.irc_follow.specs.Says.{neighbour_served, lines_on, machine}
use Rattle.irc_items.specs.GoodLines.{Answering, IsGoodLine, IsGoodReply, IsUnheard}
use Rattle.irc_items.specs.Relayed.{owed_to}
use Rattle.irc_items.proofs.Good.GoodLines.{no_answer}

module _ (s : ItemSetting) (t p : Name) (view : View) where
  abbrev silent : Served
  silent = record { state = view; out = [] }

  nothing_comes : (line : List ℕ) → IsUnheard s t view line
      → neighbour_served s t view line ≡ silent
  unfolding served
  nothing_comes line un =
      ap (line_served view (number s t) (read_of line)) un.is_end
      ∙ ap (after_heard view (number s t)) un.nothing

  module _ (client : ℕ) where
    harmless : (line : List ℕ) → IsUnheard s t view line
        → IsHarmless (machine s client) p t view line
    harmless line un = record {
      same_state = ap (λ (after : Served). after.state) (nothing_comes line un);
      shows_none = none_of (is_home_of s.homes p client)
          (lines_to client (neighbour_served s t view line).out)
          (ap (λ (after : Served). lines_to client after.out) (nothing_comes line un));
      sends_none =
          λ u. none_unless (same u t) (lines_on (number s u) (neighbour_served s t view line).out)
          (ap (λ (after : Served). lines_on (number s u) after.out) (nothing_comes line un));
    }
      where
        none_of : (b : Bool) (lines : List (List ℕ)) → lines ≡ [] → (if b then lines else []) ≡ []
        none_of true lines none = none
        none_of false lines none = refl

        none_unless : (b : Bool) (lines : List (List ℕ)) → lines ≡ []
            → (if b then [] else lines) ≡ []
        none_unless true lines none = refl
        none_unless false lines none = none

    pub all_harmless : (lines : List (List ℕ)) → AllByRecursion (IsUnheard s t view) lines
        → AreHarmless (machine s client) p t view lines
    all_harmless [] all = tt
    all_harmless (line ∷ lines) all = (harmless line all.0, all_harmless lines all.1)

    -- and so each goes well at its turn
    module _ (asks : Answering) (world : World) (routes : Name → Known) where
      unheard_reply : (after : Served) → after ≡ silent
          → IsGoodReply s world.links t p view after []
      unheard_reply after is =
          subst (λ after. IsGoodReply s world.links t p view after []) (sym is) (record {
            closes_none = refl;
            to_linked = λ u line lines none. absurd (cc none);
            to_own = λ client line lines none. absurd (cc none);
            pays = sym (append-nil (owed_to s view t));
            others = λ u two. record { owes_as_before = refl; in_turn = inl refl };
            met_stay = λ u met. met;
          })

      goes_well : (line : List ℕ) → IsUnheard s t view line
          → IsGoodLine s asks world routes t p view line
      goes_well line un = record {
        is_line = un.is_line;
        end = un.end;
        is_end = un.is_end;
        back = [];
        good = unheard_reply (neighbour_served s t view line) (nothing_comes line un);
        answer = no_answer s asks world routes t p line;
      }

      pub all_go_well : (lines : List (List ℕ)) → AllByRecursion (IsUnheard s t view) lines
          → AllAlong (machine s client) (IsGoodLine s asks world routes) t p view lines
      all_go_well [] all = tt
      all_go_well (line ∷ lines) all = (
        goes_well line all.0,
        subst (λ now. AllAlong (machine s client) (IsGoodLine s asks world routes) t p now lines)
            (sym (ap (λ (after : Served). after.state) (nothing_comes line all.0)))
            (all_go_well lines all.1),
      )
