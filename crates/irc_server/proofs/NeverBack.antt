-- A deed never goes back on the link by which it came.
use Rattle.std.proofs.Common.{◌≡◌, ℕ, Bool, true, false, not, ◌&&◌, ◌||◌, Option, Some, List, []}
use Rattle.std.proofs.Common.{◌∷◌, refl, sym, ◌∙◌, ap, cond, nat_eq, subst}
use Rattle.std.proofs.lemmas.Bool.{eq-eqb, eqb-true}
use Rattle.std.specs.List.{list_all, list_any}
use Rattle.irc_line.specs.Messages.{Written}
use Rattle.irc_batch.specs.Batches.{Sent}
use Rattle.irc_stage.specs.View.{View}
use Rattle.irc_stage.specs.Ways.{but, ways_toward}
use Rattle.irc_stage.specs.EffectTold.{Served, on_links}
use Rattle.irc_server.specs.Laws.{NeverBack, NeverBackOfAll, PutsOutElsewhere, goes_on}
use Rattle.irc_server.specs.Moves.{Mover, by_client, by_link, Moves, OfLink}
use Rattle.irc_server.specs.Lemmas.ServedByMoves.{deed_moves, deeds_moves}
use Rattle.irc_server.proofs.PutOut.{Passes, all_out, came_by}

-- whether it is put out elsewhere, as a test
abbrev is_elsewhere : ℕ → Sent → Bool
is_elsewhere link sent = not (goes_on link sent)

none_on : (link : ℕ) (sent : List Sent) → list_all (is_elsewhere link) sent ≡ true
    → list_any (goes_on link) sent ≡ false
none_on link [] all = refl
none_on link (first ∷ sent) all =
    either (goes_on link first) all (λ rest. none_on link sent rest)
  where
    either : (b : Bool) → (not b && list_all (is_elsewhere link) sent) ≡ true
        → (list_all (is_elsewhere link) sent ≡ true → list_any (goes_on link) sent ≡ false)
        → (b || list_any (goes_on link) sent) ≡ false
    either true all rest = cc all
    either false all rest = rest all

other_way : (link number : ℕ) → nat_eq link number ≡ false → nat_eq number link ≡ false
other_way link number is = by (nat_eq number link) refl
  where
    by : (b : Bool) → nat_eq number link ≡ b → b ≡ false
    by false back = refl
    by true back = cc (sym (eq-eqb link number (sym (eqb-true number link back))) ∙ is)

others_alone : (link : ℕ) (links : List ℕ) (parts : Written)
    → list_all (is_elsewhere link) (on_links (but (Some link) links) parts) ≡ true
others_alone link [] parts = refl
others_alone link (number ∷ links) parts =
    by (nat_eq link number) refl (others_alone link links parts)
  where
    rest : List ℕ
    rest = but (Some link) links

    by : (b : Bool) → nat_eq link number ≡ b
        → list_all (is_elsewhere link) (on_links rest parts) ≡ true
        → list_all (is_elsewhere link) (on_links (cond (not b) (number ∷ rest) rest) parts) ≡ true
    by true is others = others
    by false is others =
        ap (λ b. not b && list_all (is_elsewhere link) (on_links rest parts))
        (other_way link number is) ∙ others

passes : (link : ℕ) (view : View) → Passes (OfLink link) (is_elsewhere link) view
passes link view = record {
  to_client = λ conn line is. refl;
  closing = λ conn is. refl;
  on_ways = ways;
}
  where
    ways : (mover : Mover) → OfLink link mover → (homes : Option (List (List ℕ)))
        (parts : Written) → list_all (is_elsewhere link)
        (on_links (but (came_by mover) (ways_toward view.ends view.routes homes)) parts) ≡ true
    ways (by_client conn) by homes parts = absurd by
    ways (by_link arrival) by homes parts =
        subst (λ arrival. list_all (is_elsewhere link)
        (on_links (but arrival (ways_toward view.ends view.routes homes)) parts) ≡ true) (sym by)
        (others_alone link (ways_toward view.ends view.routes homes) parts)

moves_elsewhere : (link : ℕ) {s t : Served} → Moves (OfLink link) s t
    → PutsOutElsewhere link s.out t.out
moves_elsewhere link moves =
    let out = all_out (OfLink link) (is_elsewhere link) (passes link) moves in record {
      more = out.more;
      behind = out.behind;
      elsewhere = none_on link out.more out.all;
    }

pub never_back : NeverBack
never_back link deed s =
    moves_elsewhere link (deed_moves (OfLink link) (Some link) refl deed s)

pub never_back_of_all : NeverBackOfAll
never_back_of_all link deeds s =
    moves_elsewhere link (deeds_moves (OfLink link) (Some link) refl deeds s)
