-- What a move puts out goes behind what was put out before, and passes each test that lines to
-- clients, ends of clients and lines on links pass.
use Rattle.std.proofs.Common.{◌≡◌, ℕ, Bool, true, false, Option, None, List, [], ◌∷◌, ◌++◌, refl}
use Rattle.std.proofs.Common.{sym, ◌∙◌, ap, append-nil, append_assoc, if◌then◌else◌}
use Rattle.std.specs.FinMap.{entries}
use Rattle.std.specs.List.{flat_map, list_all}
use Rattle.irc_line.specs.Messages.{Written, text}
use Rattle.irc_batch.specs.Batches.{Sent, end_of, line_on, line_to}
use Rattle.irc_commands.specs.Closing.{error_line}
use Rattle.irc_room.specs.effect.Effect.{Effect}
use Rattle.irc_room.specs.effect.Effect.TheVariants.{Quit}
use Rattle.irc_room.specs.Seen.{Showing, seen}
use Rattle.irc_link_writer.specs.Written.{wire}
use Rattle.irc_stage.specs.declared.clients.Client.{Client}
use Rattle.irc_stage.specs.Ways.{but, told_homes, ways_toward}
use Rattle.irc_stage.specs.View.{View}
use Rattle.irc_stage.specs.Handle.{is_client, to_viewer}
use Rattle.irc_stage.specs.EffectTold.{Served, changed, client_ended, effect_told, ends_of}
use Rattle.irc_stage.specs.EffectTold.{is_elsewhere, on_links, shown_at, ways_at}
use Rattle.irc_server.specs.Connected.{has_client}
use Rattle.irc_server.specs.Moves.{Mover, by_client, by_link, Move, answers, does, comes, shows}
use Rattle.irc_server.specs.Moves.{takes_out, tells_on, learns, forgets, respells, Moves}
use Rattle.irc_server.specs.Lemmas.ServedByMoves.{kept}
use Rattle.irc_server.proofs.AllOf.{all-append, all-each, all-flat, all-one, all-picked}
use Rattle.irc_server.proofs.AllOf.{all_entries}

-- ---- a test

-- the link on which it does not go back
abbrev pub came_by : Mover → Option ℕ
came_by (by_client conn) = None
came_by (by_link arrival) = arrival

-- what a move puts out in this view passes
pub record Passes (By : Mover → Type 0) (test : Sent → Bool) (view : View) : Type 0 where
  pub to_client : (conn : ℕ) (line : List ℕ) → has_client view conn ≡ true
      → test (line_to conn line) ≡ true
  pub closing : (conn : ℕ) → has_client view conn ≡ true → test (end_of conn) ≡ true
  pub on_ways : (mover : Mover) → By mover → (homes : Option (List (List ℕ))) (parts : Written)
      → list_all test (on_links (but (came_by mover) (ways_toward view.ends view.routes homes))
      parts) ≡ true

-- it does in every view where each such thing passes
pub always_passes : (By : Mover → Type 0) (test : Sent → Bool)
    → ((number : ℕ) (parts : Written) → test (line_on number (text parts)) ≡ true)
    → ((conn : ℕ) (line : List ℕ) → test (line_to conn line) ≡ true)
    → ((conn : ℕ) → test (end_of conn) ≡ true) → (view : View) → Passes By test view
always_passes By test on_link to_client closing view = record {
  to_client = λ conn line is. to_client conn line;
  closing = λ conn is. closing conn;
  on_ways = λ mover by homes parts. all-each test (λ number. line_on number (text parts))
      (λ number. on_link number parts)
      (but (came_by mover) (ways_toward view.ends view.routes homes));
}

-- ---- what is put out

pub record PutsOut (test : Sent → Bool) (s t : Served) : Type 0 where
  pub more : List Sent
  pub behind : t.out ≡ s.out ++ more
  pub all : list_all test more ≡ true

nothing_out : (test : Sent → Bool) (s t : Served) → t.out ≡ s.out → PutsOut test s t
nothing_out test s t same =
    record { more = []; behind = same ∙ sym (append-nil s.out); all = refl }

then_out : (test : Sent → Bool) (s t u : Served) → PutsOut test s t → PutsOut test t u
    → PutsOut test s u
then_out test s t u one two = record {
  more = one.more ++ two.more;
  behind = two.behind ∙ ap (λ out. out ++ two.more) one.behind
      ∙ append_assoc s.out one.more two.more;
  all = all-append test one.more two.more one.all two.all;
}

-- lines to clients that are there
module _ (test : Sent → Bool) (view : View)
    (passes : (conn : ℕ) (line : List ℕ) → has_client view conn ≡ true
    → test (line_to conn line) ≡ true) where
  pub viewers_pass : (showing : Showing) → list_all test (to_viewer view.clients showing) ≡ true
  viewers_pass showing =
      all-picked (λ (c : ℕ × Client). has_client view c.0) test
      (λ (c : ℕ × Client). is_client showing.viewer c.1)
      (λ (c : ℕ × Client). line_to c.0 showing.line) (λ c is. passes c.0 showing.line is)
      (entries view.clients) (all_entries view.clients (has_client view) (λ conn is. is))

  pub shown_pass : (effect : Effect) → list_all test (shown_at view effect) ≡ true
  shown_pass effect = either (is_elsewhere view effect)
    where
      either : (b : Bool) → list_all test
          (if b then [] else flat_map (to_viewer view.clients) (seen view.room effect)) ≡ true
      either true = refl
      either false = all-flat test (to_viewer view.clients) viewers_pass (seen view.room effect)

module _ (By : Mover → Type 0) (test : Sent → Bool) where
  ends_pass : (view : View) → Passes By test view → (nick : List ℕ)
      → list_all test (ends_of nick view.clients) ≡ true
  ends_pass view passes nick =
      all-picked (λ (c : ℕ × Client). has_client view c.0) test
      (λ (c : ℕ × Client). is_client nick c.1) (λ (c : ℕ × Client). end_of c.0)
      (λ c is. passes.closing c.0 is) (entries view.clients)
      (all_entries view.clients (has_client view) (λ conn is. is))

  shown_out : (effect : Effect) (s : Served) → Passes By test s.state
      → PutsOut test s (changed effect s)
  shown_out effect s passes = record {
    more = shown_at s.state effect;
    behind = refl;
    all = shown_pass test s.state passes.to_client effect;
  }

  told_out : (mover : Mover) (effect : Effect) → By mover → (s : Served) → Passes By test s.state
      → PutsOut test s (effect_told (came_by mover) effect s)
  told_out mover effect by s passes =
      then_out test s (changed effect s) (effect_told (came_by mover) effect s)
      (shown_out effect s passes) (record {
        more = on_links (ways_at s.state (came_by mover) effect)
            (wire s.state.room s.state.routes effect);
        behind = refl;
        all = passes.on_ways mover by (told_homes s.state.room effect)
            (wire s.state.room s.state.routes effect);
      })

  ended_out : (nick words : List ℕ) (s : Served) → Passes By test s.state
      → PutsOut test s (client_ended nick words s)
  ended_out nick words s passes = record {
    more = told ++ ends_of nick s.state.clients;
    behind = refl;
    all = all-append test told (ends_of nick s.state.clients)
        (viewers_pass test s.state passes.to_client
        (record { viewer = nick; line = error_line words }))
        (ends_pass s.state passes nick);
  }
    where
      told : List Sent
      told = to_viewer s.state.clients (record { viewer = nick; line = error_line words })

  pub puts_out : {s t : Served} → Move By s t → Passes By test s.state → PutsOut test s t
  puts_out (answers conn line by here) passes = record {
    more = line_to conn line ∷ [];
    behind = refl;
    all = all-one test (line_to conn line) (passes.to_client conn line here);
  }
  puts_out (does {s} conn effect by) passes = told_out (by_client conn) effect by s passes
  puts_out (comes {s} arrival effect by is) passes = told_out (by_link arrival) effect by s passes
  puts_out (shows {s} arrival effect by is) passes = shown_out effect s passes
  puts_out (takes_out {s} arrival nick words true by is) passes =
      let left = changed (Quit nick words) s in
      then_out test s left (client_ended nick words left) (shown_out (Quit nick words) s passes)
      (ended_out nick words left (record {
        to_client = passes.to_client;
        closing = passes.closing;
        on_ways = passes.on_ways;
      }))
  puts_out (takes_out {s} arrival nick words false by is) passes = ended_out nick words s passes
  puts_out (tells_on {s} arrival parts by) passes = record {
    more = on_links (but arrival (ways_toward s.state.ends s.state.routes None)) parts;
    behind = refl;
    all = passes.on_ways (by_link arrival) by None parts;
  }
  puts_out {s} {t} (learns number uplink name distance token info by met) passes =
      nothing_out test s t refl
  puts_out {s} {t} (forgets arrival name by) passes = nothing_out test s t refl
  puts_out {s} {t} (respells arrival channel by) passes = nothing_out test s t refl

  -- where it passes in every view
  pub all_out : ((view : View) → Passes By test view) → {s t : Served} → Moves By s t
      → PutsOut test s t
  all_out passes {s} {t} moves =
      kept By (PutsOut test s)
      (λ now later move so. then_out test s now later so (puts_out move (passes now.state))) moves
      (nothing_out test s s refl)
