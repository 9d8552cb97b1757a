-- What becomes of lines of client 1, computed: the examples of `Lines.antt` and `Holds.antt`.
use Rattle.std.specs.Prelude.{◌≡◌, ℕ, true, false, Option, Some, None, is_some, List, codes}
use Rattle.std.specs.Option.{option_map}
use Rattle.irc_server.specs.declared.event.Event.TheVariants.{Line}
use Rattle.irc_hold.specs.declared.hold.Held.{Held}
use Rattle.irc_hold.specs.declared.hold.Held.TheVariants.{Waits, Kept}
use Rattle.irc_hold.specs.declared.line.Fate.{Fate}
use Rattle.irc_hold.specs.declared.line.Fate.TheVariants.{Passes, Begins, Keeps, Ends}
use Rattle.irc_hold.specs.Holds.{given, held_line}
use Rattle.irc_hold.specs.Lines.{line_fate}

pub record LinesAreJudged : Type 0 where
  pub asks : line_fate false (codes "CAP LS 302") ≡ Passes
  pub wants : line_fate false (codes "CAP REQ :sasl") ≡ Begins
  pub wants_in_small : line_fate false (codes "cap :req") ≡ Begins
  pub wants_again : line_fate true (codes "CAP REQ x") ≡ Begins
  pub lists : line_fate false (codes "CAP LIST") ≡ Passes
  pub no_word : line_fate true (codes "CAP") ≡ Passes
  pub ends : line_fate true (codes "CAP END") ≡ Ends
  pub ends_in_small : line_fate true (codes "Cap end x") ≡ Ends
  pub ends_nothing : line_fate false (codes "CAP END") ≡ Passes
  pub user : line_fate true (codes "USER u 0 * :Al") ≡ Keeps
  pub user_in_small : line_fate true (codes "user u 0 * Al") ≡ Keeps
  pub user_at_once : line_fate false (codes "USER u 0 * :Al") ≡ Passes
  pub short_user : line_fate true (codes "USER u 0 *") ≡ Passes
  pub named_user : line_fate true (codes ":al USER u 0 * :Al") ≡ Passes
  pub named_cap : line_fate false (codes ":al CAP REQ x") ≡ Passes
  pub named_end : line_fate true (codes ":al CAP END") ≡ Passes
  pub nick : line_fate true (codes "NICK al") ≡ Passes
  pub no_line : line_fate true (codes "  ") ≡ Passes

-- this line is kept
abbrev kept : List ℕ → Option Held
kept line = Some (Kept (record { items = line }))

abbrev fate_where : Option Held → List ℕ → Fate
fate_where held line = line_fate (is_some held) line

-- where this is held of client 1 and it says a line, the machine is given this line of 1, if any,
-- and this is held of it behind that, while it is no user
abbrev pub Waited : (held : Option Held) → (line : List ℕ) → (one : Option (List ℕ))
    → (behind : Option Held) → Type 0
Waited held line one behind =
    (given (fate_where held line) held (Line 1 (record { items = line }))
    ≡ option_map (λ items. Line 1 (record { items = items })) one)
    × (held_line (fate_where held line) (record { items = line }) held ≡ behind)

pub record ClientsAreHeld : Type 0 where
  pub begins : Waited None (codes "CAP REQ x") (Some (codes "CAP REQ x")) (Some Waits)
  pub asks : Waited None (codes "CAP LS 302") (Some (codes "CAP LS 302")) None
  pub names : Waited (Some Waits) (codes "NICK al") (Some (codes "NICK al")) (Some Waits)
  pub keeps : Waited (Some Waits) (codes "USER u 0 * :Al") None (kept (codes "USER u 0 * :Al"))
  pub keeps_last : Waited (kept (codes "USER u 0 * :Al")) (codes "USER v 0 * :Bo") None
      (kept (codes "USER v 0 * :Bo"))
  pub wants : Waited (kept (codes "USER v 0 * :Bo")) (codes "CAP REQ :sasl")
      (Some (codes "CAP REQ :sasl")) (kept (codes "USER v 0 * :Bo"))
  pub ends : Waited (kept (codes "USER v 0 * :Bo")) (codes "CAP END")
      (Some (codes "USER v 0 * :Bo")) None
  pub ends_without : Waited (Some Waits) (codes "CAP END") (Some (codes "CAP END")) None
  pub ends_nothing : Waited None (codes "CAP END") (Some (codes "CAP END")) None
  pub goes_at_once : Waited None (codes "USER u 0 * :Al") (Some (codes "USER u 0 * :Al")) None
  pub short : Waited (Some Waits) (codes "USER u") (Some (codes "USER u")) (Some Waits)
