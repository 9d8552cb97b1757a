-- A line that says no deed changes nothing that has to fit, and nothing is put out upon it.
use Rattle.std.proofs.Common.{◌≡◌, ℕ, Bool, true, false, cond, Option, Some, List, [], ◌∷◌, refl}
use Rattle.std.proofs.Common.{sym, ◌∙◌, ap, subst, option_map}
use Rattle.std.specs.FinMap.{get, insert}
use Rattle.std.specs.Option.{option_map_or}
use Rattle.irc_line.specs.Reading.{read_of}
use Rattle.irc_relay.specs.Links.{Name}
use Rattle.irc_stage.specs.Linked.{with_password}
use Rattle.irc_stage.specs.View.{End, View}
use Rattle.irc_stage.specs.Lemmas.Numbers.{get-with, one_number, same_number}
use Rattle.irc_server.specs.Heard.{Heard, ignored, closes, password, meets, tells, heard}
use Rattle.irc_server.specs.LinkServed.{after_heard, line_served}
use Rattle.irc_server.specs.Served.{served}
use Rattle.irc_follow.specs.SideState.{ItemSetting, number}
use Rattle.irc_follow.specs.SideState as of_side
use Rattle.irc_follow.specs.Fits.{far_of, Fits, IsNumberOf}
use Rattle.irc_follow.specs.Laws.{AsideStays, PutsOutNothing}
use Rattle.irc_follow.specs.Says.{IsNothing}

module _ (s : ItemSetting) (p t : Name) (w : of_side.SideState) (view : View)
    (fits : Fits s t w view) where
  -- a password plays no part
  module _ (k : ℕ) (end : End) (is_end : get view.ends k ≡ Some end) (word : List ℕ) where
    abbrev kept : View
    kept = record view { ends = insert view.ends k (record end { password = Some word }) }

    end_kept : (q : ℕ) → option_map far_of (get kept.ends q) ≡ option_map far_of (get view.ends q)
    end_kept q =
        ap (option_map far_of) (get-with view.ends k (record end { password = Some word }) q)
        ∙ by (same_number q k) refl
      where
        by : (b : Bool) → same_number q k ≡ b → option_map far_of
            (cond b (Some (record end { password = Some word })) (get view.ends q))
            ≡ option_map far_of (get view.ends q)
        by true one =
            sym (ap (option_map far_of) (ap (get view.ends) (one_number q k one) ∙ is_end))
        by false two = refl

    there : (q : ℕ) (e : End) → get kept.ends q ≡ Some e → IsNumberOf s q
    there q e is = by (same_number q k) refl
        (sym (get-with view.ends k (record end { password = Some word }) q) ∙ is)
      where
        by : (b : Bool) → same_number q k ≡ b → cond b (Some (record end { password = Some word }))
            (get view.ends q) ≡ Some e → IsNumberOf s q
        by true one found =
            subst (IsNumberOf s) (sym (one_number q k one)) (fits.no_others k end is_end)
        by false two found = fits.no_others q e found

    kept_fits : Fits s t w kept
    kept_fits = record {
      here = fits.here;
      sound = fits.sound;
      peers = fits.peers;
      routes = fits.routes;
      ends = λ x among. end_kept (number s x) ∙ fits.ends x among;
      no_others = there;
      clients = fits.clients;
      room = fits.room;
    }

    kept_is : with_password k word view ≡ kept
    kept_is = ap (λ o. option_map_or (λ (e : End). record view {
      ends = insert view.ends k
          (record e { password = Some word });
    }) o view) is_end

  heard_stays : (k : ℕ) (end : End) → get view.ends k ≡ Some end → (what : Heard) → IsNothing what
      → PutsOutNothing s t w (after_heard view k what)
  heard_stays k end is_end ignored nothing = record { fits = fits; silent = refl }
  heard_stays k end is_end (closes why) nothing = absurd nothing
  heard_stays k end is_end (password word) nothing =
      record {
        fits = subst (Fits s t w) (sym (kept_is k end is_end word))
            (kept_fits k end is_end word);
        silent = refl;
      }
  heard_stays k end is_end (meets name info) nothing = absurd nothing
  heard_stays k end is_end (tells []) nothing = record { fits = fits; silent = refl }
  heard_stays k end is_end (tells (told ∷ later)) nothing = absurd nothing

pub aside_stays : AsideStays
unfolding served
aside_stays s p t w view line fits aside =
    subst (λ (o : Option End). PutsOutNothing s t w
    (line_served view (number s p) (read_of line) o)) (sym aside.is_end)
    (heard_stays s p t w view fits (number s p) aside.end aside.is_end
    (heard view (number s p) aside.end (read_of line)) aside.nothing)
