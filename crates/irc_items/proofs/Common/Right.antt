-- What servers have by then of what they keep: each is what it has to be in the world that an item
-- makes, on the side of each end and elsewhere.
use Rattle.std.proofs.Common.{false, ◌≡◌, ◌≤◌, true, not, ◌&&◌, Some, None, List, sym, ap, subst}
use Rattle.std.proofs.Common.{◌∙◌, if◌then◌else◌, Bool, cond, refl, ℕ}
use Rattle.std.specs.Cmp.Lexicographic.{bytes_decides}
use Rattle.std.specs.FinMap.{retain_keys, get}
use Rattle.std.specs.Option.{option_map}
use Rattle.irc_relay.specs.Distances.{IsAmong}
use Rattle.irc_relay.specs.Links.{Name, Link, joined, same, AreJoined, AreLinked, HasEnds}
use Rattle.irc_relay.specs.Relay.{Streams}
use Rattle.irc_room.specs.Invitations.{of_home}
use Rattle.irc_routes.specs.declared.server_row.ServerRow.{ServerRow}
use Rattle.irc_routes.specs.Known.{Known, row_of, token_out, IsNumbered}
use Rattle.irc_routes.specs.Limits.{max_servers}
use Rattle.irc_stage.specs.View.{View}
use Rattle.irc_stage.specs.RoomMachine.{Clients}
use Rattle.irc_stage.specs.Lemmas.Counting.{get-kept}
use Rattle.irc_stage.specs.Lemmas.Numbers.{same_clients}
use Rattle.irc_follow.specs.AtRest.{AreRight}
use Rattle.irc_follow.specs.Fits.{far_end, Fits}
use Rattle.irc_follow.specs.SideState.{ItemSetting, SideState, about_in, info_in, is_home_of}
use Rattle.irc_follow.specs.SideState.{IsSoundSide}
use Rattle.irc_follow.specs.Tree.{index_in, shape, shape_in}
use Rattle.irc_follow.specs.Lemmas.NewLink.{kept_row}
use Rattle.irc_items.proofs.Common.Ends.{OnSide, on_side, on_neither, chosen, chosen_aside}
use Rattle.irc_items.proofs.Common.Ends.{chosen_at, which_side}

-- ---- one server

-- what one server keeps is right
pub record IsRightAt (s : ItemSetting) (links : List Link) (t : Name) (known : Known) : Type 0 where
  pub named : known.name ≡ t
  pub about : known.about ≡ about_in s.settings t
  pub rows : (x : Name) → option_map shape (row_of known x)
      ≡ (if joined links x t && not (same x t)
      then Some (shape_in s.names (info_in s.settings) links t x) else None)
  pub numbered : IsNumbered known
  pub low : (x : Name) (r : ServerRow) → row_of known x ≡ Some r → r.ours ≤ max_servers

-- where the same servers are joined to it along other links, and each is shaped as before, it is
-- right as it is
pub right_still : {s : ItemSetting} {old links : List Link} {routes : Name → Known} {t : Name}
    → AreRight s old routes → IsAmong s.names t → ((x : Name) → joined links x t ≡ joined old x t)
    → ((x : Name) → AreJoined old x t → shape_in s.names (info_in s.settings) old t x
    ≡ shape_in s.names (info_in s.settings) links t x) → IsRightAt s links t (routes t)
right_still {s} {old} {links} {routes} {t} right among joined_so stays = record {
  named = right.named t among;
  about = right.about t among;
  rows = λ x. right.rows t x among
      ∙ kept_row (joined old x t) (not (same x t)) (shape_in s.names (info_in s.settings) old t x)
      (shape_in s.names (info_in s.settings) links t x)
      (λ together. stays x ((bytes_decides _ _).0 together))
      ∙ ap (λ b. if b && not (same x t) then Some (shape_in s.names (info_in s.settings) links t x)
      else None) (sym (joined_so x));
  numbered = right.numbered t among;
  low = λ x r is. right.low t x r among is;
}

-- what servers keep is right wherever lines come from
pub right_wherever : {base : ItemSetting} (homes : List Name) (streams : Streams)
    {links : List Link} {routes : Name → Known} → AreRight base links routes
    → AreRight (record base { homes = homes; streams = streams }) links routes
right_wherever homes streams right = record {
  named = right.named;
  about = right.about;
  rows = right.rows;
  numbered = right.numbered;
  low = right.low;
  tokens = right.tokens;
}

-- what a server has of clients goes by its own
pub same_kept : (homes : List Name) (t : Name) (one other : Clients)
    → ((q : ℕ) → is_home_of homes t q ≡ true → get one q ≡ get other q)
    → retain_keys one (is_home_of homes t) ≡ retain_keys other (is_home_of homes t)
same_kept homes t one other alike =
    same_clients (retain_keys one (is_home_of homes t))
    (retain_keys other (is_home_of homes t)) (λ q.
    get-kept one (is_home_of homes t) q ∙ by q (is_home_of homes t q) refl
    ∙ sym (get-kept other (is_home_of homes t) q))
  where
    by : (q : ℕ) (b : Bool) → is_home_of homes t q ≡ b
        → cond b (get one q) None ≡ cond b (get other q) None
    by q true here = alike q here
    by q false there = refl

-- A server that fits one side fits another, which knows and shows it the same.
pub refits : {s : ItemSetting} (streams : Streams) {t : Name} {was now : SideState} {view : View}
    → Fits (record s { streams = streams }) t was view → now.tree.here t ≡ true
    → IsSoundSide s now → was.tree.routes t ≡ now.tree.routes t
    → ((x : Name) → IsAmong s.names x → far_end was t x ≡ far_end now t x)
    → retain_keys was.hall.clients (is_home_of s.homes t) ≡ retain_keys now.hall.clients
    (is_home_of s.homes t) → of_home t was.hall.room ≡ of_home t now.hall.room → Fits s t now view
refits streams fits here sound routes ends clients room = record {
  here = here;
  sound = sound;
  peers = fits.peers;
  routes = fits.routes ∙ routes;
  ends = λ x among. fits.ends x among ∙ ends x among;
  no_others = λ k end is. let at =
      fits.no_others k end is in record { server = at.server; among = at.among; is = at.is };
  clients = fits.clients ∙ clients;
  room = fits.room ∙ room;
}

-- ---- all of them

-- What servers keep by then: on the side of an end what is said of that, elsewhere what they kept.
abbrev pub by_then : Link → List Link → (Name → Name → Name → Known) → (Name → Known) → Name → Known
by_then l base of_end routes t = chosen l base (λ e o. of_end e o t) (routes t) t

module _ (s : ItemSetting) (links base : List Link) (l : Link) (of_end : Name → Name → Name → Known)
    (routes : Name → Known)
    (apart : AreJoined base l.near l.far → ⊥) where
  abbrev now : Name → Known
  now = by_then l base of_end routes

  side_is : (t e o : Name) → HasEnds l e o → AreJoined base t e → now t ≡ of_end e o t
  side_is t e o ends on = chosen_at l base apart (λ e o. of_end e o t) (routes t) t e o ends on

  aside_is : (t : Name) → ((e o : Name) → HasEnds l e o → AreJoined base t e → ⊥) → now t ≡ routes t
  aside_is t none = chosen_aside l base t (λ e o. of_end e o t) (routes t) none

  module _ (side_right : (e o : Name) → HasEnds l e o → (t : Name) → IsAmong s.names t
      → AreJoined base t e → IsRightAt s links t (of_end e o t))
      (aside_right : (t : Name) → ((e o : Name) → HasEnds l e o → AreJoined base t e → ⊥)
      → IsAmong s.names t → IsRightAt s links t (routes t))
      (side_tokens : (e o : Name) → HasEnds l e o → (t u x : Name) (r : ServerRow)
      → AreJoined base u e → AreLinked links t u
      → row_of (of_end e o u) x ≡ Some r → r.link ≡ index_in s.names t
      → token_out (now t) x ≡ Some r.token)
      (aside_tokens : (t u x : Name) (r : ServerRow) → ((e o : Name) → HasEnds l e o
      → AreJoined base u e → ⊥) → IsAmong s.names u → AreLinked links t u
      → row_of (routes u) x ≡ Some r → r.link ≡ index_in s.names t
      → token_out (now t) x ≡ Some r.token) where
    right_at : (t : Name) → IsAmong s.names t → IsRightAt s links t (now t)
    right_at t among = elim (which_side l base t) [
      | on_side e o ends on ↦ subst (IsRightAt s links t) (sym (side_is t e o ends on))
          (side_right e o ends t among on)
      | on_neither none ↦ subst (IsRightAt s links t) (sym (aside_is t none))
          (aside_right t none among)
    ]

    -- u's number for a server behind its neighbour t is the one that t has for it
    one_number_for : (t u x : Name) (r : ServerRow) → IsAmong s.names u → AreLinked links t u
        → OnSide l base u → row_of (now u) x ≡ Some r → r.link ≡ index_in s.names t
        → token_out (now t) x ≡ Some r.token
    one_number_for t u x r among linked (on_side e o ends on) there link =
        side_tokens e o ends t u x r on linked
        (sym (ap (λ known. row_of known x) (side_is u e o ends on)) ∙ there) link
    one_number_for t u x r among linked (on_neither none) there link =
        aside_tokens t u x r none among linked (sym (ap (λ known. row_of known x) (aside_is u none))
        ∙ there) link

    pub all_right : AreRight s links now
    all_right = record {
      named = λ t among. (right_at t among).named;
      about = λ t among. (right_at t among).about;
      rows = λ t x among. (right_at t among).rows x;
      numbered = λ t among. (right_at t among).numbered;
      low = λ t x r among. (right_at t among).low x r;
      tokens = λ t u x r among linked. one_number_for t u x r among linked (which_side l base u);
    }
